use Rattle.std.proofs.Common.{◌+◌, drop, pos, is_ok, Ok, Err, sym, ap, ◌∙◌}
use Rattle.refusal.proofs.Then.{then_passes, then_fails}
use Rattle.refusal.specs.Checks.{seen}
use Rattle.std.proofs.lemmas.Result.{err_from_is_err_and}
use Rattle.coupons.specs.declared.overnight.Observation.{Observation}
use Rattle.coupons.specs.Overnight.{compounded, factor_checks}
use Rattle.coupons.proofs.Growth.{factors_more, factors_all, compounded-more, compounded_all, grown_err, grown_ok}
use Rattle.coupons.proofs.overnight.factor_of.Goals as goal

blank : Observation
blank = record { rate = pos 0; days = pos 0 }

pub returns-in_err-factor : goal.returns-in_err-factor
unfolding blank
returns-in_err-factor c =
    let os = c.args.window.observations.now in
    let i = c.loop-i.i in
    let start = pos 100000000000 in
    let p = err_from_is_err_and c.from_residual.result c.from_residual.ensures.1 in
    let met = c.in_err-factor.ensures ∙ ap (seen (i + 1)) c.after.ensures in
    let over = sym (then_fails _ _ c.in_err-factor.field-0.0 (grown_err (i + 1) _ _ _ met)) ∙ sym (factors_more os i (i + 1) _ blank c.loop-i-test.true) ∙ c.loop-i.invariant.0 in
    p.1 ∙ ap Err p.2 ∙ sym (then_fails (factor_checks 1 start os) (Ok (compounded start os)) c.in_err-factor.field-0.0 over)

pub loop-i-preserved : goal.loop-i-preserved
unfolding blank
loop-i-preserved c =
    let os = c.args.window.observations.now in
    let i = c.loop-i.i in
    let met = grown_ok (i + 1) _ _ _ (c.in_ok-factor.ensures ∙ ap (seen (i + 1)) c.after.ensures) in (
      ap (λ k. factor_checks (i + 1 + 1) k (drop (i + 1) os)) met.1 ∙ sym (then_passes _ _ (ap is_ok met.0)) ∙ sym (factors_more os i (i + 1) _ blank c.loop-i-test.true) ∙ c.loop-i.invariant.0,
      ap (λ k. compounded k (drop (i + 1) os)) met.1 ∙ sym (compounded-more os i _ blank c.loop-i-test.true) ∙ c.loop-i.invariant.1,
    )

pub returns : goal.returns
returns c =
    let os = c.args.window.observations.now in
    let i = c.loop-i.i in
    let start = pos 100000000000 in
    let passed = ap is_ok (sym (factors_all os i (i + 1) _ c.loop-i-test.false) ∙ c.loop-i.invariant.0) in
    ap Ok (sym (compounded_all os i _ c.loop-i-test.false) ∙ c.loop-i.invariant.1) ∙ sym (then_passes (factor_checks 1 start os) (Ok (compounded start os)) passed)
