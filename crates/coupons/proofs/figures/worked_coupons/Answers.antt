use Rattle.std.proofs.Common.{refl}
use Rattle.refusal.specs.Checks.{within}
use Rattle.coupons.specs.Overnight.{days_from, factor_checks}
use Rattle.coupons.specs.Rounding.{nearest}
use Rattle.coupons.proofs.figures.worked_coupons.Goals as goal

pub returns : goal.returns
unfolding nearest days_from factor_checks within
returns c = (refl, refl, refl, refl, refl, refl, refl, refl)
