use Rattle.std.proofs.Common.{◌≡◌, ℕ, ◌<◌, ◌≤◌, ℤ, pos, negsuc, nat_abs, Ok, Err, ap, ◌∙◌, arith, w64}
use Rattle.std.proofs.lemmas.Int.{ints, to_z-of_z}
use Rattle.std.specs.Int.{FitsUnsignedBits}
use Rattle.refusal.specs.Checks.{within}
use Rattle.refusal.specs.declared.Refusal.TheVariants.{Amount}
use Rattle.ledger.specs.Funds.{fund_limit}
use Rattle.ledger.specs.Openings.{fund_of}
use Rattle.ledger.proofs.opening.fund_of.Goals as goal

-- a figure of unsigned bits that is a fund's size at most, one past it, and one that is below 0
taken : (x : ℤ) (n : ℕ) → FitsUnsignedBits 64 x × (n ≡ nat_abs x) → n ≤ fund_limit → Ok n ≡ fund_of x
unfolding within
taken (pos n) m f h = let e = f.1 in grind (arith, ints)
taken (negsuc n) m f h = absurd f.0

past : (x : ℤ) (n : ℕ) → FitsUnsignedBits 64 x × (n ≡ nat_abs x) → fund_limit < n → Err Amount ≡ fund_of x
unfolding within
past (pos n) m f h = let e = f.1 in grind (arith, ints)
past (negsuc n) m f h = absurd f.0

below : (x : ℤ) → ¬ FitsUnsignedBits 64 x → Err Amount ≡ fund_of x
unfolding within
below (pos n) f = grind (arith, ints)
below (negsuc n) f = grind (arith, ints)

pub returns-in-Ok-clause-answer : goal.returns-in-Ok-clause-answer
returns-in-Ok-clause-answer c = taken _ _ c.in-Ok.ensures c.if-fund-le-FUND_LIMIT.true ∙ ap fund_of (to_z-of_z w64 c.args.figure c.ranges.figure)

pub returns-in_default-clause-answer : goal.returns-in_default-clause-answer
returns-in_default-clause-answer c = past _ _ c.in-Ok.ensures c.if-fund-le-FUND_LIMIT.false ∙ ap fund_of (to_z-of_z w64 c.args.figure c.ranges.figure)

pub returns-in_default-2-clause-answer : goal.returns-in_default-2-clause-answer
returns-in_default-2-clause-answer c = below _ c.in_default.ensures ∙ ap fund_of (to_z-of_z w64 c.args.figure c.ranges.figure)
