use Rattle.std.proofs.Common.{◌≡◌, ◌+◌, drop}
use Rattle.book.specs.Opening.{seats_from}
use Rattle.book.proofs.opening.check_seats.Given as goal

abbrev pub invariant-loop-i : goal.invariant-loop-i
invariant-loop-i l = seats_from l.members (l.i + 1) (drop l.i l.accounts) ≡ seats_from l.members 1 l.accounts
