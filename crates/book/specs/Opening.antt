-- What a book may be opened with.
use Rattle.std.specs.Prelude.{ℕ, ◌+◌, List, [], ◌∷◌, length, ℤ, Ok, Result, nat_le}
use Rattle.refusal.specs.declared.Fault.{Fault}
use Rattle.refusal.specs.declared.Refusal.TheVariants.{OutOfRange}
use Rattle.refusal.specs.Checks.{check, ◌then◌, ◌into◌, count_of, raised, placed}

-- the member of each account, from a line on
abbrev pub seats_from : ℕ → ℕ → List ℤ → Result Unit Fault
seats_from members line [] = Ok tt
seats_from members line (a ∷ rest) = placed line (count_of 0 members a OutOfRange) into λ _. seats_from members (line + 1) rest

-- how many members there are then
abbrev pub opening : ℤ → List ℤ → Result ℕ Fault
opening members accounts =
    raised (count_of 1 33 members OutOfRange) into λ m.
    raised (check (nat_le 1 (length accounts)) OutOfRange) then
    raised (check (nat_le (length accounts) 64) OutOfRange) then
    seats_from m 1 accounts then
    Ok m
