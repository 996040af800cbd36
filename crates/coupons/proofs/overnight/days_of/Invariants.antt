use Rattle.std.proofs.Common.{◌≡◌, ◌+◌, drop, pos}
use Rattle.coupons.specs.Overnight.{days_from}
use Rattle.coupons.proofs.overnight.days_of.Given as goal

abbrev pub invariant-loop-i : goal.invariant-loop-i
invariant-loop-i l = days_from (l.i + 1) l.days (drop l.i l.window.observations.now) ≡ days_from 1 (pos 0) l.window.observations.now
