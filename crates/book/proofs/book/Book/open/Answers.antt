use Rattle.std.proofs.Common.{length, vec_items, sym, arith}
use Rattle.swaps.specs.Swaps.{Between, Limited, Due}
use Rattle.book.proofs.Seats.{opening_ok, seats_written}
use Rattle.book.proofs.Sound.{each_none}
use Rattle.book.proofs.book.Book.open.Goals as goal

pub invariant_of-self : goal.invariant_of-self
invariant_of-self c =
    let b = c.args.self.now in
    let m = c.in_ok-members.members in
    let ss = vec_items c.clear.new.self in
    let none = c.clear.ensures.items in
    let opened = opening_ok _ c.args.accounts.now m (sym c.in_ok-members.ensures) in
    let seats = seats_written m c.args.accounts.now (vec_items c.seat.new.seats) c.seat.ensures.items opened in
    record {
      roll = opened.roll;
      narrow = seats.0;
      seated = seats.1;
      places = omega (arith, c.seat.ensures.capacity);
      early = omega arith;
      issued = omega arith;
      room = omega (arith, c.clear.ensures.capacity);
      few = omega (arith, c.clear.ensures.len, c.clear.new.self.ok.0);
      between = each_none (Between (length (vec_items c.seat.new.seats))) ss none;
      limited = each_none Limited ss none;
      due = each_none (Due 0) ss none;
      ordered = rw none;
    }
