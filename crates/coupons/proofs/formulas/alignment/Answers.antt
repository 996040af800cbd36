use Rattle.std.proofs.Common.{◌*ℤ◌, neg_ℤ, sym, ap, ◌∙◌, arith}
use Rattle.coupons.proofs.Rounds.{rounded-odd}
use Rattle.coupons.proofs.formulas.alignment.Goals as goal

pub returns : goal.returns
returns c = c.neg.ensures ∙ ap neg_ℤ c.ratio-interest.ensures ∙ sym (rounded-odd (c.args.npv *ℤ c.args.overnight *ℤ c.args.days) 36000000 (omega arith))
