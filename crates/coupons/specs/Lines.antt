-- The coupon of a line, signed for the long side.
use Rattle.std.specs.Prelude.{List, length, ℤ, neg_ℤ, Some, None, Ok, Err, Option, Result}
use Rattle.refusal.specs.declared.Fault.{Fault}
use Rattle.refusal.specs.declared.Refusal.{Refusal}
use Rattle.refusal.specs.declared.Refusal.TheVariants as refusals
use Rattle.refusal.specs.Checks.{check, raised, ◌then◌, ◌into◌}
use Rattle.refusal.specs.Refusals.{bare}
use Rattle.std.specs.List.{between}
use Rattle.coupons.specs.declared.legs.Leg.{Leg}
use Rattle.coupons.specs.declared.legs.Leg.TheVariants.{Fixed, Variable, Dollars, Overnight}
use Rattle.coupons.specs.declared.lines.Terms.{Terms}
use Rattle.coupons.specs.declared.overnight.Observation.{Observation}
use Rattle.coupons.specs.Formulas.{simple, dollars}
use Rattle.coupons.specs.Legs.{of_kind}
use Rattle.coupons.specs.Limits.{rate_checks}
use Rattle.coupons.specs.Overnight.{range_of, overnight}

-- a fixed or variable coupon, a dollar coupon, whoever pays
abbrev pub simple_coupon : ℤ → ℤ → ℤ → Result ℤ Refusal
simple_coupon millions rate days = rate_checks rate days then Ok (simple millions rate days)

abbrev pub dollar_coupon : ℤ → ℤ → ℤ → ℤ → Result ℤ Refusal
dollar_coupon thousands rate days trm = rate_checks rate days then Ok (dollars thousands rate days trm)

-- an overnight coupon on a range of the observations
abbrev pub overnight_coupon : ℤ → ℤ → ℤ → List Observation → Result ℤ Fault
overnight_coupon millions first count all = raised (range_of (length all) first count) into (λ p. overnight millions (between p.0 p.1 all))

-- what the long side pays
abbrev pub paid : {E : Type 0} → Result ℤ E → Result ℤ E
paid (Ok z) = Ok (neg_ℤ z)
paid (Err e) = Err e

-- a leg's coupon for the long side, of so many millions and thousands: it pays fixed and dollar legs, and receives the others
abbrev pub leg_coupon : ℤ → ℤ → ℤ → Leg → List Observation → Result ℤ Fault
leg_coupon millions thousands trm (Fixed rate days) all = raised (paid (simple_coupon millions rate days))
leg_coupon millions thousands trm (Variable rate days) all = raised (simple_coupon millions rate days)
leg_coupon millions thousands trm (Dollars rate days) all = raised (paid (dollar_coupon thousands rate days trm))
leg_coupon millions thousands trm (Overnight first count) all = overnight_coupon millions first count all

-- the coupon of a line: its leg has to be one of the swap's kind
abbrev pub line_coupon : Terms → ℤ → Option Leg → List Observation → Result ℤ Fault
line_coupon t trm None all = Err (bare refusals.Leg)
line_coupon t trm (Some leg) all = raised (check (of_kind t.kind leg) refusals.Leg) then leg_coupon t.millions t.thousands trm leg all
