use Rattle.coupons.proofs.Growth.{compounded_rises}
use Rattle.coupons.proofs.Rounds.{rounded-nearest, rounded-odd}
use Rattle.coupons.proofs.figures.coupon_laws.Goals as goal

pub returns : goal.returns
returns c = record { near = rounded-nearest; odd = rounded-odd; rising = compounded_rises }
