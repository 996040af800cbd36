-- How a book is opened: which figures it refuses, and the funds it begins with.
use Rattle.std.specs.Prelude.{ℕ, ◌+◌, ◌-◌, List, [], ◌∷◌, ◌++◌, map, length, replicate, ℤ, pos, Ok, Err, Result, nat_le, unsigned_abs}
use Rattle.ledger.specs.declared.accounts.Balances.{Balances}
use Rattle.refusal.specs.declared.Fault.{Fault}
use Rattle.refusal.specs.declared.Refusal.{Refusal}
use Rattle.refusal.specs.declared.Refusal.TheVariants.{Amount, ListLength}
use Rattle.refusal.specs.Checks.{within, check, raised, placed, ◌then◌}
use Rattle.ledger.specs.Funds.{Funds, fund_limit}

-- a fund or a line lies within 0 and 4 × 10^18
abbrev pub fund_check : ℤ → Result Unit Refusal
fund_check x = check (within (pos 0) (pos fund_limit) x) Amount

-- the fund that a figure stands for
abbrev pub fund_of : ℤ → Result ℕ Refusal
fund_of x = fund_check x then Ok (unsigned_abs x)

-- each item in its turn, of which the first has the number i
unfoldable pub fund_checks : ℕ → List ℤ → Result Unit Fault
fund_checks i [] = Ok tt
fund_checks i (x ∷ xs) = placed i (fund_check x) then fund_checks (i + 1) xs

-- 32 funds: those of the list, and 0 for members past it
unfoldable pub padded : List ℤ → List ℕ
padded xs = map unsigned_abs xs ++ replicate (32 - length xs) 0

-- the 32 funds of a list, or its first refusal
abbrev pub listed : List ℤ → Result (List ℕ) Fault
listed xs = fund_checks 1 xs then Ok (padded xs)

-- the funds that a book begins with, or the first refusal
abbrev pub opened : List ℤ → ℤ → Result Funds Fault
opened xs house =
    raised (check (nat_le (length xs) 32) ListLength) then
    fund_checks 1 xs then
    raised (fund_check house) then
    Ok (record { members = padded xs; house = unsigned_abs house })

-- what the value in an answer means
abbrev pub meaning : {X Y E : Type 0} → (X → Y) → Result X E → Result Y E
meaning f (Ok x) = Ok (f x)
meaning f (Err e) = Err e

-- the funds of 32 balances and a figure
abbrev pub funds_of : Balances × ℕ → Funds
funds_of p = record { members = p.0.each; house = p.1 }
