use Rattle.std.proofs.Common.{◌≡◌, ℕ, ◌<◌, true, ℤ, pos, ◌-ℤ◌, ◌≤ℤ◌, is_ok, sym, refl, ap, ◌∙◌, arith, w64, SFits, to_z, of_z}
use Rattle.refusal.proofs.Then.{then_passes, check_passed}
use Rattle.refusal.proofs.Within.{within_low, within_high, within_same}
use Rattle.refusal.specs.Checks.{within, check}
use Rattle.refusal.specs.declared.Refusal.TheVariants.{ListLength}
use Rattle.std.proofs.lemmas.Int.{ints, to_z-of_z}
use Rattle.coupons.proofs.Products.{fits_small}
use Rattle.coupons.proofs.overnight.check_range.Goals as goal
use Rattle.coupons.proofs.overnight.check_range.Goals.{In_ok-demand}

counted : (c : In_ok-demand) → within (pos 1) (pos 366) c.args.count ≡ true
counted c = within_same _ _ _ _ _ _ refl refl (sym (to_z-of_z w64 c.args.count c.ranges.count)) ∙ sym c.inside.ensures ∙ check_passed _ _ (ap is_ok c.in_ok-demand.ensures)

-- what is left of the list, in the machine
rest_fits : (len : ℕ) (count : ℤ) → len < 1000000000000000000 → pos 1 ≤ℤ count → count ≤ℤ pos 366 → SFits w64 count → SFits w64 (to_z w64 len -ℤ to_z w64 (of_z w64 count))
rest_fits len count short low high f = fits_small (to_z w64 len -ℤ to_z w64 (of_z w64 count)) (omega (arith, ints))

rest_is : (len : ℕ) (count : ℤ) → len < 1000000000000000000 → pos 1 ≤ℤ count → count ≤ℤ pos 366 → SFits w64 count → to_z w64 (of_z w64 (to_z w64 len -ℤ to_z w64 (of_z w64 count))) ≡ pos len -ℤ count
rest_is len count short low high f = to_z-of_z w64 _ (rest_fits len count short low high f) ∙ omega (arith, ints)

pub overflow_sub-len : goal.overflow_sub-len
overflow_sub-len c =
    let h = counted (goal.at.overflow_sub-len c).In_ok-demand in
    rest_fits c.args.len c.args.count c.requires (within_low _ _ _ h) (within_high _ _ _ h) c.ranges.count

pub returns : goal.returns
returns c =
    let h = counted (goal.at.returns c).In_ok-demand in
    let len = c.args.len in
    let count = c.args.count in
    let first = c.args.first in
    let rest = rest_is len count c.requires (within_low _ _ _ h) (within_high _ _ _ h) c.ranges.count in
    let fits = c.inside-2.ensures ∙ within_same _ _ _ _ _ _ refl rest (to_z-of_z w64 first c.ranges.first) in
    c.demand-2.ensures ∙ ap (λ b. check b ListLength) fits ∙ sym (then_passes (check (within (pos 1) (pos 366) count) ListLength) (check (within (pos 0) (pos len -ℤ count) first) ListLength) (ap (λ b. is_ok (check b ListLength)) (sym h)))
