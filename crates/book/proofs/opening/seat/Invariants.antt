use Rattle.std.proofs.Common.{◌≡◌, map, take, nat_abs, vec_items, vec_len, vec_capacity}
use Rattle.book.proofs.opening.seat.Given as goal

abbrev pub invariant-loop-member : goal.invariant-loop-member
invariant-loop-member l =
    (vec_len l.seats ≡ l.member-index) × (vec_capacity l.seats ≡ vec_capacity l.initial.seats)
    × (vec_items l.seats ≡ map nat_abs (take l.member-index l.accounts))
