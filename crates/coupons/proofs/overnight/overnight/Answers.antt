use Rattle.std.proofs.Common.{length, pos, ◌+ℤ◌, ◌≤ℤ◌, sym, arith}
use Rattle.std.proofs.lemmas.Int.{ints}
use Rattle.coupons.specs.Overnight.{Good}
use Rattle.coupons.proofs.Days.{days_good}
use Rattle.coupons.proofs.overnight.overnight.Goals as goal
use Rattle.coupons.proofs.overnight.overnight.Goals.{In_ok-days}

good : (c : In_ok-days) → Good c.args.window.observations.now × ((pos 0 +ℤ pos (length c.args.window.observations.now)) ≤ℤ c.in_ok-days.days) × (c.in_ok-days.days ≤ℤ pos 366)
good c = days_good c.args.window.observations.now 1 (pos 0) c.in_ok-days.days (omega (arith, ints)) (omega (arith, ints)) (sym c.in_ok-days.ensures)

pub factor_of-requires : goal.factor_of-requires
factor_of-requires c = (good (goal.at.factor_of-requires c).In_ok-days).0

pub points-rate-requires : goal.points-rate-requires
points-rate-requires c =
    let g = good (goal.at.points-rate-requires c).In_ok-days in
    let some = c.args.window.some in
    let least = g.1 in
    omega (arith, ints)
