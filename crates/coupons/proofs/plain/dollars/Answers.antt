use Rattle.std.proofs.Common.{◌≡◌, Ok, Err, sym, ap, ◌∙◌, w64}
use Rattle.std.proofs.lemmas.Int.{to_z-of_z}
use Rattle.std.proofs.lemmas.Result.{err_from_is_err_and}
use Rattle.refusal.proofs.Then.{then_passes, then_fails, then_ok}
use Rattle.coupons.proofs.Passed.{then_err}
use Rattle.coupons.specs.Formulas.{dollars}
use Rattle.coupons.specs.Limits.{nominal_check, trm_check, rate_checks, dollar_checks}
use Rattle.coupons.proofs.plain.dollars.Goals as goal

pub returns-in_err-accrual : goal.returns-in_err-accrual
returns-in_err-accrual c =
    let p = err_from_is_err_and c.from_residual-in_err-accrual.result c.from_residual-in_err-accrual.ensures.1 in
    let e = c.in_err-accrual.field-0.0 in
    let nominal = then_ok (nominal_check _) _ _ (sym c.in_ok-thousands.ensures) in
    let trm = then_ok (trm_check _) _ _ (sym c.in_ok-trm.ensures) in
    let rate = then_err (rate_checks _ _) _ e c.in_err-accrual.ensures in
    let k = c.args.thousands in
    let checks : Err e ≡ dollar_checks k c.args.rate c.args.days c.args.trm =
    rate ∙ sym (then_passes _ _ trm.0) ∙ sym (then_passes _ _ nominal.0)
    ∙ (let a = to_z-of_z w64 k c.ranges.thousands in let b = to_z-of_z w64 c.args.rate c.ranges.rate in let d = to_z-of_z w64 c.args.days c.ranges.days in let t = to_z-of_z w64 c.args.trm c.ranges.trm in cc) in
    p.1 ∙ ap Err p.2 ∙ sym (then_fails _ (Ok (dollars k c.args.rate c.args.days c.args.trm)) e checks)
