use Rattle.std.proofs.Common.{length, get_or, vec_items, refl, arith}
use Rattle.swaps.specs.Swaps.{blank}
use Rattle.swaps.specs.States.{after_event}
use Rattle.book.proofs.Events.{steady}
use Rattle.book.proofs.book.Book.step.Goals as goal

pub invariant_of-self : goal.invariant_of-self
invariant_of-self c =
    let b = c.args.self.now in
    let ss = vec_items b.table.swaps in
    let i = c.args.i in
    let still = steady (length (vec_items b.accounts)) b.closed b.given ss (vec_items c.change.new.self.swaps) i c.args.event (after_event (get_or ss i blank).state c.args.event) refl b.between b.limited b.due b.ordered c.requires.within c.requires.timely c.change.ensures.after in
    let long = still.long in
    record {
      roll = b.roll;
      narrow = b.narrow;
      seated = b.seated;
      places = b.places;
      early = b.early;
      issued = b.issued;
      room = omega (arith, c.change.ensures.capacity);
      few = omega arith;
      between = still.between;
      limited = still.limited;
      due = still.due;
      ordered = still.ordered;
    }
