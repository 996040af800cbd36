use Rattle.std.proofs.Common.{◌≡◌, ◌≤◌, pos, ◌+ℤ◌, ◌*ℤ◌, ◌≤ℤ◌, nat_abs, is_ok, Ok, Err, sym, ap, ◌∙◌, subst, arith, w64, SFits, to_z, of_z, rules}
use lib.Signed.{le_z}
use Rattle.refusal.proofs.Then.{then_passes, then_fails, check_passed}
use Rattle.refusal.specs.Checks.{check}
use Rattle.refusal.specs.declared.Refusal.TheVariants as refusals
use Rattle.std.proofs.lemmas.Result.{err_from_is_err_and}
use Rattle.std.proofs.lemmas.Int.{ints, to_z-of_z}
use Rattle.coupons.specs.Overnight.{growth}
use Rattle.coupons.specs.Rounding.{rounded}
use Rattle.coupons.proofs.Growth.{weight_back, times_one, growth_rises, int_le-true, le_on}
use Rattle.coupons.proofs.factor.Factor.after.Goals as goal
use Rattle.coupons.proofs.factor.Factor.after.Goals.{After-get}

-- what compounding with the observation gives
grown : (c : After-get) → c.ratio-grown.result ≡ growth c.args.self c.args.observation.now
grown c =
    let o = c.args.observation.now in
    let f = c.args.self in
    let m = c.requires in
    let r : SFits w64 o.rate = search rules in
    let d : SFits w64 o.days = search rules in
    let weight = pos 36000000 +ℤ o.rate *ℤ o.days in
    let is : c.of-weight.result ≡ weight = c.of-weight.ensures ∙ weight_back o.rate o.days r d m.0 m.1 m.2 m.3 in
    let one : c.of.result ≡ pos 1 = c.of.ensures in
    c.ratio-grown.ensures ∙ ap (λ z. rounded z 36000000) (ap (λ x. x *ℤ c.of-weight.result *ℤ c.of.result) c.self.view_is ∙ ap (λ y. f *ℤ y *ℤ c.of.result) is ∙ ap (λ y. f *ℤ weight *ℤ y) one ∙ times_one (f *ℤ weight))

in_machine : (c : After-get) → to_z w64 (of_z w64 c.get.result) ≡ growth c.args.self c.args.observation.now
in_machine c = to_z-of_z w64 c.get.result (record { sfits = c.get.type_inv }) ∙ c.get.ensures.figure ∙ grown c

pub returns-in_err-demand : goal.returns-in_err-demand
returns-in_err-demand c =
    let here = (goal.at.returns-in_err-demand c).After-get in
    let p = err_from_is_err_and c.from_residual.result c.from_residual.ensures.1 in
    let met = c.in_err-demand.ensures ∙ ap (λ z. check (le_z z (pos 150000000000)) refusals.Factor) (in_machine here) in
    p.1 ∙ ap Err p.2 ∙ sym (then_fails _ (Ok (growth c.args.self c.args.observation.now)) c.in_err-demand.field-0.0 met)

high : (c : After-get) → Ok tt ≡ check (le_z (to_z w64 (of_z w64 c.get.result)) (pos 150000000000)) refusals.Factor → growth c.args.self c.args.observation.now ≤ℤ pos 150000000000
high c e = subst (λ z. z ≤ℤ pos 150000000000) (in_machine c) (int_le-true _ _ (check_passed _ refusals.Factor (ap is_ok e)))

low : (c : After-get) → pos 100000000000 ≤ℤ growth c.args.self c.args.observation.now
low c =
    let start = subst (λ z. pos 100000000000 ≤ℤ z) c.self.view_is c.self.invariant in
    le_on _ _ _ start (growth_rises c.args.self c.args.observation.now (le_on _ _ _ (omega (arith, ints)) start) c.requires)

pub of-requires-2 : goal.of-requires-2
of-requires-2 c =
    let here = (goal.at.of-requires-2 c).After-get in
    let is = to_z-of_z w64 c.get-2.result (record { sfits = c.get-2.type_inv }) ∙ c.get-2.ensures.figure ∙ grown here in
    let from = low here in
    let to = high here c.in_ok-demand.ensures in
    (omega arith, subst (λ z. nat_abs z ≤ 150000000000) (sym is) (omega (arith, ints)))

pub invariant_of-result : goal.invariant_of-result
invariant_of-result c =
    let here = (goal.at.invariant_of-result c).After-get in
    let is = c.of-2.ensures ∙ to_z-of_z w64 c.get-2.result (record { sfits = c.get-2.type_inv }) ∙ c.get-2.ensures.figure ∙ grown here in
    subst (λ z. pos 100000000000 ≤ℤ z) (sym is) (low here)

pub returns : goal.returns
returns c =
    let here = (goal.at.returns c).After-get in
    let is = c.of-2.ensures ∙ to_z-of_z w64 c.get-2.result (record { sfits = c.get-2.type_inv }) ∙ c.get-2.ensures.figure ∙ grown here in
    let met = c.in_ok-demand.ensures ∙ ap (λ z. check (le_z z (pos 150000000000)) refusals.Factor) (in_machine here) in
    ap Ok is ∙ sym (then_passes _ (Ok (growth c.args.self c.args.observation.now)) (ap is_ok met))
