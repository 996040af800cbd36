use Rattle.std.proofs.Common.{◌≡◌, ◌+◌, drop, pos}
use Rattle.coupons.specs.Overnight.{factor_checks, compounded}
use Rattle.coupons.proofs.overnight.factor_of.Given as goal

abbrev pub invariant-loop-i : goal.invariant-loop-i
invariant-loop-i l =
    (factor_checks (l.i + 1) l.factor (drop l.i l.window.observations.now) ≡ factor_checks 1 (pos 100000000000) l.window.observations.now)
    × (compounded l.factor (drop l.i l.window.observations.now) ≡ compounded (pos 100000000000) l.window.observations.now)
