-- Worked figures, of the definitions.
use Rattle.std.specs.Prelude.{◌≡◌, ℕ, ◌<◌, List, [], ◌∷◌, ℤ, pos, neg_ℤ, ◌≤ℤ◌, Ok}
use Rattle.std.specs.List.{AllByRecursion}
use Rattle.coupons.specs.declared.overnight.Observation.{Observation}
use Rattle.coupons.specs.Formulas.{simple, dollars, alignment}
use Rattle.coupons.specs.Overnight.{compounded, points, overnight, Modest}
use Rattle.coupons.specs.Rounding.{rounded, Nearest}

-- 9,000 mills for 1 and for 3 days
abbrev pub two_observations : List Observation
two_observations = record { rate = pos 9000; days = pos 1 } ∷ (record { rate = pos 9000; days = pos 3 } ∷ [])

abbrev pub WorkedCoupons : Type 0
WorkedCoupons =
    (simple (pos 1) (pos 1) (pos 180) ≡ pos 1)
    × (simple (pos 1) (pos 1) (pos 179) ≡ pos 0)
    × (simple (pos 1) (neg_ℤ (pos 1)) (pos 180) ≡ neg_ℤ (pos 1))
    × (compounded (pos 100000000000) two_observations ≡ pos 100100018750)
    × (points (pos 100100018750) (pos 4) ≡ pos 9001688)
    × (overnight (pos 10000) two_observations ≡ Ok (pos 1000187556))
    × (dollars (pos 1000) (pos 5000000) (pos 90) (pos 391245) ≡ pos 4890562500)
    × (alignment (pos 10000000000) (pos 9000) (pos 3) ≡ neg_ℤ (pos 7500000))

-- rounding is at most half a unit off, and a tie goes away from zero; the opposite of a rounded figure is the rounded opposite; a factor never falls
pub record CouponLaws : Type 0 where
  pub near : (z : ℤ) (d : ℕ) → 0 < d → Nearest z d (rounded z d)
  pub odd : (z : ℤ) (d : ℕ) → 0 < d → rounded (neg_ℤ z) d ≡ neg_ℤ (rounded z d)
  pub rising : (factor : ℤ) (os : List Observation) → pos 0 ≤ℤ factor → AllByRecursion Modest os → factor ≤ℤ compounded factor os
