use Rattle.std.proofs.Common.{◌≡◌, ◌≤◌, ℤ, pos, ◌+ℤ◌, ◌-ℤ◌, neg_ℤ, nat_abs, ◌≤ℤ◌, ◌<ℤ◌, sym, ap, ◌∙◌, subst, arith, w64, SFits, to_z, of_z}
use lib.Signed.{quot_z, rem_z}
use Rattle.std.proofs.lemmas.Int.{ints, to_z-of_z}
use Rattle.coupons.specs.Rounding.{rounded, Nearest}
use Rattle.coupons.proofs.Products.{fits_small}
use Rattle.coupons.proofs.Rounds.{round_up, round_down, round_flat, rounded-odd, rounded-nearest, quot-size}
use Rattle.coupons.proofs.rounding.rounded.Goals as goal
use Rattle.coupons.proofs.rounding.rounded.Goals.{After-divided-quotient}

quotient : (c : After-divided-quotient) → c.divided-quotient.result.0 ≡ quot_z c.args.dividend (pos c.args.divisor)
quotient c = c.divided-quotient.ensures.quotient ∙ ap (λ z. quot_z z (pos c.args.divisor)) (to_z-of_z w64 c.args.dividend c.ranges.dividend)

rest : (c : After-divided-quotient) → c.divided-quotient.result.1 ≡ rem_z c.args.dividend (pos c.args.divisor)
rest c = c.divided-quotient.ensures.rest ∙ ap (λ z. rem_z z (pos c.args.divisor)) (to_z-of_z w64 c.args.dividend c.ranges.dividend)

small : (c : After-divided-quotient) → nat_abs c.divided-quotient.result.0 ≤ 9000000000000000000
small c = let same = ap nat_abs (quotient c) in let less = quot-size c.args.dividend c.args.divisor in let bound = c.requires.dividend in omega arith

-- one more and one less, in the machine
same : (q : ℤ) → nat_abs q ≤ 9000000000000000000 → to_z w64 (of_z w64 q) ≡ q
same q h = omega (arith, ints)

up_fits : (q : ℤ) → nat_abs q ≤ 9000000000000000000 → SFits w64 (to_z w64 (of_z w64 q) +ℤ pos 1)
up_fits q h = subst (λ x. SFits w64 (x +ℤ pos 1)) (sym (same q h)) (fits_small (q +ℤ pos 1) (omega (arith, ints)))

down_fits : (q : ℤ) → nat_abs q ≤ 9000000000000000000 → SFits w64 (to_z w64 (of_z w64 q) -ℤ pos 1)
down_fits q h = subst (λ x. SFits w64 (x -ℤ pos 1)) (sym (same q h)) (fits_small (q -ℤ pos 1) (omega (arith, ints)))

up : (q : ℤ) → nat_abs q ≤ 9000000000000000000 → to_z w64 (of_z w64 (to_z w64 (of_z w64 q) +ℤ pos 1)) ≡ q +ℤ pos 1
up q h = to_z-of_z w64 _ (up_fits q h) ∙ ap (λ x. x +ℤ pos 1) (same q h)

down : (q : ℤ) → nat_abs q ≤ 9000000000000000000 → to_z w64 (of_z w64 (to_z w64 (of_z w64 q) -ℤ pos 1)) ≡ q -ℤ pos 1
down q h = to_z-of_z w64 _ (down_fits q h) ∙ ap (λ x. x -ℤ pos 1) (same q h)

pub returns-then-rest-divisor : goal.returns-then-rest-divisor
returns-then-rest-divisor c =
    let d = c.args.divisor in
    let z = c.args.dividend in
    let q = c.divided-quotient.result.0 in
    let s = c.divided-quotient.result.1 in
    let here = (goal.at.returns-then-rest-divisor c).After-divided-quotient in
    let bound = small here in
    let whole = quotient here in
    let half : pos d ≤ℤ (s +ℤ s) = grind (arith, ints) in
    let so = round_up z d c.requires.divisor (subst (λ x. pos d ≤ℤ (x +ℤ x)) (rest here) half) in
    let e : to_z w64 (of_z w64 (to_z w64 (of_z w64 q) +ℤ pos 1)) ≡ rounded z d = up q bound ∙ ap (λ x. x +ℤ pos 1) whole ∙ sym so in
    record { answer = e; nearest = subst (Nearest z d) (sym e) (rounded-nearest z d c.requires.divisor); odd = rounded-odd z d c.requires.divisor ∙ ap neg_ℤ (sym e) }

pub returns-then-rest-divisor-2 : goal.returns-then-rest-divisor-2
returns-then-rest-divisor-2 c =
    let d = c.args.divisor in
    let z = c.args.dividend in
    let q = c.divided-quotient.result.0 in
    let s = c.divided-quotient.result.1 in
    let here = (goal.at.returns-then-rest-divisor-2 c).After-divided-quotient in
    let bound = small here in
    let whole = quotient here in
    let half : (s +ℤ s) ≤ℤ neg_ℤ (pos d) = grind (arith, ints) in
    let so = round_down z d c.requires.divisor (subst (λ x. (x +ℤ x) ≤ℤ neg_ℤ (pos d)) (rest here) half) in
    let e : to_z w64 (of_z w64 (to_z w64 (of_z w64 q) -ℤ pos 1)) ≡ rounded z d = down q bound ∙ ap (λ x. x -ℤ pos 1) whole ∙ sym so in
    record { answer = e; nearest = subst (Nearest z d) (sym e) (rounded-nearest z d c.requires.divisor); odd = rounded-odd z d c.requires.divisor ∙ ap neg_ℤ (sym e) }

pub returns-else-rest-divisor-2 : goal.returns-else-rest-divisor-2
returns-else-rest-divisor-2 c =
    let d = c.args.divisor in
    let z = c.args.dividend in
    let q = c.divided-quotient.result.0 in
    let s = c.divided-quotient.result.1 in
    let here = (goal.at.returns-else-rest-divisor-2 c).After-divided-quotient in
    let bound = small here in
    let whole = quotient here in
    let high : (s +ℤ s) <ℤ pos d = grind (arith, ints) in
    let low : neg_ℤ (pos d) <ℤ (s +ℤ s) = grind (arith, ints) in
    let so = round_flat z d c.requires.divisor (subst (λ x. (x +ℤ x) <ℤ pos d) (rest here) high) (subst (λ x. neg_ℤ (pos d) <ℤ (x +ℤ x)) (rest here) low) in
    let e : to_z w64 (of_z w64 q) ≡ rounded z d = same q bound ∙ whole ∙ sym so in
    record { answer = e; nearest = subst (Nearest z d) (sym e) (rounded-nearest z d c.requires.divisor); odd = rounded-odd z d c.requires.divisor ∙ ap neg_ℤ (sym e) }
