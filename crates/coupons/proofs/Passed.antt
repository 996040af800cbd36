-- What it tells of the figures that they passed their checks.
use Rattle.std.proofs.Common.{◌≡◌, ℕ, true, ℤ, pos, ◌-ℤ◌, ◌≤ℤ◌, is_ok, Ok, Err, Result, arith}
use Rattle.refusal.proofs.Then.{then_both, check_passed}
use Rattle.refusal.proofs.Within.{within_low, within_high}
use Rattle.refusal.specs.Checks.{within, check, ◌then◌}
use Rattle.refusal.specs.declared.Refusal.TheVariants.{MarketFigure, ListLength}
use Rattle.coupons.specs.Overnight.{range_checks}
use Rattle.coupons.specs.Limits.{overnight_checks}

pub overnight_passed : (rate days : ℤ) → true ≡ is_ok (overnight_checks rate days) → (pos 0 ≤ℤ rate) × (rate ≤ℤ pos 50000) × (pos 1 ≤ℤ days) × (days ≤ℤ pos 10)
overnight_passed rate days e =
    let p = then_both (check (within _ _ rate) MarketFigure) (check (within _ _ days) MarketFigure) e in
    let r = check_passed _ _ p.0 in
    let d = check_passed _ _ p.1 in
    (within_low _ _ rate r, within_high _ _ rate r, within_low _ _ days d, within_high _ _ days d)

pub range_passed : (len : ℕ) (first count : ℤ) → true ≡ is_ok (range_checks len first count) → (pos 1 ≤ℤ count) × (count ≤ℤ pos 366) × (pos 0 ≤ℤ first) × (first ≤ℤ (pos len -ℤ count))
range_passed len first count e =
    let p = then_both (check (within _ _ count) ListLength) (check (within _ _ first) ListLength) e in
    let n = check_passed _ _ p.0 in
    let f = check_passed _ _ p.1 in
    (within_low _ _ count n, within_high _ _ count n, within_low _ _ first f, within_high _ _ first f)

-- a refusal of checks before an answer is one of the checks
pub then_err : {X E : Type 0} (s : Result Unit E) (x : X) (e : E) → Err e ≡ s then Ok x → Err e ≡ s
then_err (Ok u) x e h = let never : ◌≡◌ {A = ℕ} 0 1 = cc in absurd (omega arith)
then_err (Err y) x e h = cc
