use Rattle.std.proofs.Common.{◌≡◌, ◌≤◌, true, ℤ, pos, ◌+ℤ◌, nat_abs, ◌≤ℤ◌, is_ok, Ok, Err, sym, ap, ◌∙◌, subst, arith, w64, SFits, to_z, of_z, rules}
use lib.Signed.{le_z}
use Rattle.refusal.proofs.Then.{then_passes, then_fails, then_ok, check_passed}
use Rattle.refusal.specs.Checks.{check, ◌then◌}
use Rattle.refusal.specs.declared.Refusal.TheVariants.{MarketFigure}
use Rattle.std.proofs.lemmas.Result.{err_from_is_err_and}
use Rattle.std.proofs.lemmas.Int.{ints, to_z-of_z}
use Rattle.coupons.specs.Limits.{overnight_checks}
use Rattle.coupons.proofs.Growth.{int_le-true}
use Rattle.coupons.proofs.Passed.{overnight_passed}
use Rattle.coupons.proofs.overnight.day_after.Goals as goal
use Rattle.coupons.proofs.overnight.day_after.Goals.{After-get}

days_fit : (c : After-get) → SFits w64 c.args.observation.now.days
days_fit c = search rules

rate_fits : (c : After-get) → SFits w64 c.args.observation.now.rate
rate_fits c = search rules

passed : (c : After-get) → true ≡ is_ok (overnight_checks c.args.observation.now.rate c.args.observation.now.days)
passed c =
    (then_ok (overnight_checks _ _) _ _ (sym c.in_ok-overnight.ensures)).0
    ∙ ap (λ r. is_ok (overnight_checks r (to_z w64 (of_z w64 c.args.observation.now.days)))) (to_z-of_z w64 _ (rate_fits c))
    ∙ ap (λ d. is_ok (overnight_checks c.args.observation.now.rate d)) (to_z-of_z w64 _ (days_fit c))

-- a sum of days in the machine
sum_is : (x a b : ℤ) → x ≡ a → SFits w64 x → SFits w64 b → nat_abs x ≤ 366 → pos 1 ≤ℤ b → b ≤ℤ pos 10 → to_z w64 (of_z w64 (to_z w64 (of_z w64 x) +ℤ to_z w64 (of_z w64 b))) ≡ a +ℤ b
sum_is x a b e f g few low high = omega (arith, ints)

sum : (c : After-get) → to_z w64 (of_z w64 (to_z w64 (of_z w64 c.get.result) +ℤ to_z w64 (of_z w64 c.args.observation.now.days))) ≡ c.args.days +ℤ c.args.observation.now.days
sum c = let p = overnight_passed _ _ (passed c) in sum_is c.get.result c.args.days c.args.observation.now.days c.get.ensures.figure (record { sfits = c.get.type_inv }) (days_fit c) c.get.ensures.bound p.2 p.3

pub returns-in_err-demand : goal.returns-in_err-demand
returns-in_err-demand c =
    let here = (goal.at.returns-in_err-demand c).After-get in
    let o = c.args.observation.now in
    let after = c.args.days +ℤ o.days in
    let room = check (le_z after (pos 366)) MarketFigure in
    let p = err_from_is_err_and c.from_residual-in_err-demand.result c.from_residual-in_err-demand.ensures.1 in
    let full = c.in_err-demand.ensures ∙ ap (λ z. check (le_z z (pos 366)) MarketFigure) (sum here) in
    p.1 ∙ ap Err p.2 ∙ sym (then_passes (overnight_checks o.rate o.days) (room then Ok after) (passed here) ∙ then_fails room (Ok after) c.in_err-demand.field-0.0 full)

few : (c : After-get) → Ok tt ≡ check (le_z (to_z w64 (of_z w64 (to_z w64 (of_z w64 c.get.result) +ℤ to_z w64 (of_z w64 c.args.observation.now.days)))) (pos 366)) MarketFigure → nat_abs (c.args.days +ℤ c.args.observation.now.days) ≤ 366
few c e =
    let most = subst (λ z. z ≤ℤ pos 366) (sum c) (int_le-true _ _ (check_passed _ MarketFigure (ap is_ok e))) in
    let p = overnight_passed _ _ (passed c) in
    let least = p.2 in
    let is = c.get.ensures.figure in
    let bound = c.get.ensures.bound in
    omega (arith, ints)

pub of-requires : goal.of-requires
of-requires c =
    let here = (goal.at.of-requires c).After-get in
    (omega arith, subst (λ z. nat_abs z ≤ 366) (sym (sum here)) (few here c.in_ok-demand.ensures))

pub returns : goal.returns
returns c =
    let here = (goal.at.returns c).After-get in
    let o = c.args.observation.now in
    let after = c.args.days +ℤ o.days in
    let room = check (le_z after (pos 366)) MarketFigure in
    let full = c.in_ok-demand.ensures ∙ ap (λ z. check (le_z z (pos 366)) MarketFigure) (sum here) in
    ap Ok (c.of.ensures ∙ sum here) ∙ sym (then_passes (overnight_checks o.rate o.days) (room then Ok after) (passed here) ∙ then_passes room (Ok after) (ap is_ok full))
