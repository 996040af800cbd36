-- The coupon of an overnight leg.
use Rattle.std.specs.Prelude.{ℕ, ◌+◌, ◌*◌, ◌<◌, List, [], ◌∷◌, length, ℤ, pos, ◌+ℤ◌, ◌-ℤ◌, ◌*ℤ◌, ◌≤ℤ◌, Ok, fold, Result, int_le, slice_index_or, unsigned_abs}
use Rattle.refusal.specs.declared.Fault.{Fault}
use Rattle.refusal.specs.declared.Refusal.{Refusal}
use Rattle.refusal.specs.declared.Refusal.TheVariants.{ListLength, MarketFigure, Factor}
use Rattle.refusal.specs.Checks.{within, check, ◌then◌, ◌into◌, seen}
use Rattle.coupons.specs.declared.overnight.Observation.{Observation}
use Rattle.coupons.specs.Formulas.{simple}
use Rattle.coupons.specs.Limits.{overnight_checks}
use Rattle.coupons.specs.Rounding.{rounded}

-- a count of 1 to 366 observations from the first on, within the list of so many
abbrev pub range_checks : ℕ → ℤ → ℤ → Result Unit Refusal
range_checks len first count =
    check (within (pos 1) (pos 366) count) ListLength then
    check (within (pos 0) (pos len -ℤ count) first) ListLength

-- where they begin and end
abbrev pub range_of : ℕ → ℤ → ℤ → Result (ℕ × ℕ) Refusal
range_of len first count = range_checks len first count then Ok (unsigned_abs first, unsigned_abs first + unsigned_abs count)

-- the days with one observation more: its figures are within their limits, and the days at most 366
abbrev pub day_after : ℤ → Observation → Result ℤ Refusal
day_after days o =
    overnight_checks o.rate o.days then
    check (int_le (days +ℤ o.days) (pos 366)) MarketFigure then
    Ok (days +ℤ o.days)

-- the days of the observations from the i-th on, each checked in its turn
unfoldable pub days_from : ℕ → ℤ → List Observation → Result ℤ Fault
days_from i days [] = Ok days
days_from i days (o ∷ os) = seen i (day_after days o) into (λ d. days_from (i + 1) d os)

-- what an observation makes of the factor
abbrev pub growth : ℤ → Observation → ℤ
growth factor o = rounded (factor *ℤ (pos 36000000 +ℤ o.rate *ℤ o.days)) 36000000

-- the factor after the observations, compounded in their order
abbrev pub compounded : ℤ → List Observation → ℤ
compounded factor os = fold growth factor os

-- no factor on the way is above 1.5 × 10^11
unfoldable pub factor_checks : ℕ → ℤ → List Observation → Result Unit Fault
factor_checks i factor [] = Ok tt
factor_checks i factor (o ∷ os) = seen i (check (int_le (growth factor o) (pos 150000000000)) Factor) then factor_checks (i + 1) (growth factor o) os

-- the compounded rate in points
abbrev pub points : ℤ → ℤ → ℤ
points factor days = rounded ((factor -ℤ pos 100000000000) *ℤ pos 9) (25 * unsigned_abs days)

-- the factor after the observations, where none on the way is above its limit
abbrev pub factor_of : List Observation → Result ℤ Fault
factor_of os = factor_checks 1 (pos 100000000000) os then Ok (compounded (pos 100000000000) os)

-- the coupon: all figures are checked before any factor
abbrev pub overnight : ℤ → List Observation → Result ℤ Fault
overnight millions os = days_from 1 (pos 0) os into (λ days. factor_of os into (λ factor. Ok (simple millions (points factor days) days)))

-- an observation within its limits
abbrev pub Modest : Observation → Type 0
Modest o = (pos 0 ≤ℤ o.rate) × (o.rate ≤ℤ pos 50000) × (pos 1 ≤ℤ o.days) × (o.days ≤ℤ pos 10)

-- what it tells of observations that they passed
pub record Good (os : List Observation) : Type 0 where
  pub each : (k : ℕ) (d : Observation) → k < length os → Modest (slice_index_or os k d)
