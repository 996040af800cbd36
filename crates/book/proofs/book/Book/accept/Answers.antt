use Rattle.std.proofs.Common.{length, vec_items, sym, ap, arith, length-append}
use Rattle.swaps.specs.Swaps.{Between, Limited, Due}
use Rattle.book.specs.Reading.{reading}
use Rattle.book.proofs.Accepted.{offered_ok}
use Rattle.book.proofs.Sound.{each_push, rising-more}
use Rattle.book.proofs.book.Book.accept.Goals as goal

pub invariant_of-self : goal.invariant_of-self
invariant_of-self c =
    let b = c.args.self.now in
    let ss = vec_items b.table.swaps in
    let ys = vec_items c.push_reserved.new.self in
    let s = c.in_ok-swap.swap in
    let ok = offered_ok (reading b) c.args.offer.now s (sym c.in_ok-swap.ensures) in
    let items = c.push_reserved.ensures.items in
    let long = simp length-append at (ap length items) in
    let next = ok.next in
    let left = ok.left in
    let room = ok.room in record {
      roll = b.roll;
      narrow = b.narrow;
      seated = b.seated;
      places = b.places;
      early = b.early;
      issued = omega arith;
      room = omega (arith, c.push_reserved.ensures.capacity);
      few = omega arith;
      between = each_push (Between (length (vec_items b.accounts))) ss ys s items b.between ok.between;
      limited = each_push Limited ss ys s items b.limited ok.limited;
      due = each_push (Due b.closed) ss ys s items b.due ok.due;
      ordered = rising-more b.given ss ys s items b.ordered (omega arith);
    }
