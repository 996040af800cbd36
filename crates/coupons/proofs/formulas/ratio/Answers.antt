use Rattle.std.proofs.Common.{◌≤◌, ◌*ℤ◌, nat_abs, sym, ap, ◌∙◌, subst, arith, w64}
use Rattle.std.proofs.lemmas.Int.{to_z-of_z}
use Rattle.coupons.specs.Rounding.{rounded}
use Rattle.coupons.proofs.Products.{mul_small, fits_two, fitting}
use Rattle.coupons.proofs.Rounds.{rounded_bound}
use Rattle.coupons.proofs.formulas.ratio.Goals as goal

pub overflow_mul-get : goal.overflow_mul-get
overflow_mul-get g c =
    let two = mul_small c.get.result c.get-2.result g.row.A g.row.B c.get.ensures.bound c.get-2.ensures.bound in
    let few = c.requires.two in
    fits_two c.get.result c.get-2.result (record { sfits = c.get.type_inv }) (record { sfits = c.get-2.type_inv }) (omega arith)

pub overflow_mul-get-2 : goal.overflow_mul-get-2
overflow_mul-get-2 g c = (fitting c.get.result c.get-2.result c.get-3.result g.row.A g.row.B g.row.C (record { sfits = c.get.type_inv }) (record { sfits = c.get-2.type_inv }) (record { sfits = c.get-3.type_inv }) c.get.ensures.bound c.get-2.ensures.bound c.get-3.ensures.bound c.requires.two c.requires.three).fits

pub rounded-requires-clause-dividend : goal.rounded-requires-clause-dividend
rounded-requires-clause-dividend g c =
    let fit = fitting c.get.result c.get-2.result c.get-3.result g.row.A g.row.B g.row.C (record { sfits = c.get.type_inv }) (record { sfits = c.get-2.type_inv }) (record { sfits = c.get-3.type_inv }) c.get.ensures.bound c.get-2.ensures.bound c.get-3.ensures.bound c.requires.two c.requires.three in
    let few = fit.small in
    let most = c.requires.three in
    subst (λ p. nat_abs p ≤ 9000000000000000000) (sym fit.back) (omega arith)

pub of-requires : goal.of-requires
of-requires g c =
    let fit = fitting c.get.result c.get-2.result c.get-3.result g.row.A g.row.B g.row.C (record { sfits = c.get.type_inv }) (record { sfits = c.get-2.type_inv }) (record { sfits = c.get-3.type_inv }) c.get.ensures.bound c.get-2.ensures.bound c.get-3.ensures.bound c.requires.two c.requires.three in
    let few = fit.small in
    let most = c.requires.most in
    let is = to_z-of_z w64 c.rounded.result (record { sfits = c.rounded.type_inv }) ∙ c.rounded.ensures.answer ∙ ap (λ p. rounded p c.args.divisor) fit.back in
    (omega arith, subst (λ p. nat_abs p ≤ g.row.MOST) (sym is) (rounded_bound (c.get.result *ℤ c.get-2.result *ℤ c.get-3.result) c.args.divisor g.row.MOST c.requires.divisor (omega arith)))

pub returns : goal.returns
returns g c =
    let fit = fitting c.get.result c.get-2.result c.get-3.result g.row.A g.row.B g.row.C (record { sfits = c.get.type_inv }) (record { sfits = c.get-2.type_inv }) (record { sfits = c.get-3.type_inv }) c.get.ensures.bound c.get-2.ensures.bound c.get-3.ensures.bound c.requires.two c.requires.three in
    let is = to_z-of_z w64 c.rounded.result (record { sfits = c.rounded.type_inv }) ∙ c.rounded.ensures.answer ∙ ap (λ p. rounded p c.args.divisor) fit.back in
    let a = c.get.ensures.figure in
    let b = c.get-2.ensures.figure in
    let d = c.get-3.ensures.figure in
    c.of.ensures ∙ is ∙ ap (λ p. rounded p c.args.divisor) cc
