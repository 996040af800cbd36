use Rattle.std.proofs.Common.{◌+◌, drop, pos, Err, sym, ap, ◌∙◌}
use Rattle.refusal.specs.Checks.{seen}
use Rattle.std.proofs.lemmas.Result.{err_from_is_err_and}
use Rattle.coupons.specs.declared.overnight.Observation.{Observation}
use Rattle.coupons.specs.Overnight.{days_from}
use Rattle.coupons.proofs.Days.{days_more, days_all, into_ok, into_err}
use Rattle.coupons.proofs.overnight.days_of.Goals as goal

blank : Observation
blank = record { rate = pos 0; days = pos 0 }

pub returns-in_err-days : goal.returns-in_err-days
unfolding blank
returns-in_err-days c =
    let os = c.args.window.observations.now in
    let i = c.loop-i.i in
    let p = err_from_is_err_and c.from_residual.result c.from_residual.ensures.1 in
    let met = c.in_err-days.ensures ∙ ap (seen (i + 1)) c.day_after.ensures in
    p.1 ∙ ap Err p.2 ∙ sym (into_err _ (λ k. days_from (i + 1 + 1) k (drop (i + 1) os)) c.in_err-days.field-0.0 met) ∙ sym (days_more os i (i + 1) _ blank c.loop-i-test.true) ∙ c.loop-i.invariant

pub loop-i-preserved : goal.loop-i-preserved
unfolding blank
loop-i-preserved c =
    let os = c.args.window.observations.now in
    let i = c.loop-i.i in
    let met = c.in_ok-days.ensures ∙ ap (seen (i + 1)) c.day_after.ensures in
    sym (into_ok _ (λ k. days_from (i + 1 + 1) k (drop (i + 1) os)) c.in_ok-days.days met) ∙ sym (days_more os i (i + 1) _ blank c.loop-i-test.true) ∙ c.loop-i.invariant

pub returns : goal.returns
returns c = sym (days_all c.args.window.observations.now c.loop-i.i (c.loop-i.i + 1) _ c.loop-i-test.false) ∙ c.loop-i.invariant
