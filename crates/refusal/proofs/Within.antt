-- What it tells that a figure lies within limits.
use Rattle.std.proofs.Common.{◌≡◌, true, ℤ, ◌≤ℤ◌, arith}
use Rattle.std.proofs.lemmas.Int.{ints}
use Rattle.refusal.specs.Checks.{within}

pub within_low : (low high x : ℤ) → within low high x ≡ true → low ≤ℤ x
unfolding within
within_low low high x e = grind (arith, ints)

pub within_high : (low high x : ℤ) → within low high x ≡ true → x ≤ℤ high
unfolding within
within_high low high x e = grind (arith, ints)

-- a figure between the limits is within them
pub within-from : (low high x : ℤ) → low ≤ℤ x → x ≤ℤ high → within low high x ≡ true
unfolding within
within-from low high x p q = grind (arith, ints)

pub within_same : (a a' b b' x x' : ℤ) → a ≡ a' → b ≡ b' → x ≡ x' → within a b x ≡ within a' b' x'
within_same a a' b b' x x' p q r = cc
