-- What is left of a limit by what is drawn on it.
use Rattle.std.specs.Prelude.{ℕ, ◌≤◌, ℤ, pos, ◌-ℤ◌, ◌≤ℤ◌, unsigned_abs}
use Rattle.std.proofs.Common.{arith}
use Rattle.std.proofs.lemmas.Int.{ints}
use Rattle.ledger.specs.Funds.{fund_limit}

abbrev pub left_of : ℕ → ℤ → ℕ
left_of limit drawn = unsigned_abs (pos limit -ℤ drawn)

-- a line is a fund's size at most, no more is drawn than it, and what is left is a fund's size at most
abbrev pub Fair : ℕ → ℤ → Type 0
Fair limit drawn = (limit ≤ fund_limit) × (drawn ≤ℤ pos limit) × (left_of limit drawn ≤ fund_limit)

-- nothing drawn is fair
pub undrawn-fair : (x : ℕ) → x ≤ fund_limit → Fair x (pos 0)
undrawn-fair x h = (h, omega (arith, ints), omega (arith, ints))
