use Rattle.std.proofs.Common.{◌≡◌, ℕ, ◌+◌, ◌<◌, ◌≤◌, true, ℤ, pos, ◌-ℤ◌, nat_abs, ◌≤ℤ◌, is_ok, Ok, sym, ap, ◌∙◌, arith, w64, to_z, of_z}
use Rattle.refusal.proofs.Then.{then_passes}
use Rattle.std.proofs.lemmas.Int.{ints, to_z-of_z}
use Rattle.coupons.specs.Overnight.{range_checks}
use Rattle.coupons.proofs.Passed.{range_passed}
use Rattle.coupons.proofs.overnight.range.Goals as goal
use Rattle.coupons.proofs.overnight.range.Goals.{In_ok-check_range}

passed : (c : In_ok-check_range) → true ≡ is_ok (range_checks c.args.len c.args.first c.args.count)
passed c =
    ap is_ok c.in_ok-check_range.ensures
    ∙ ap (λ f. is_ok (range_checks c.args.len f (to_z w64 (of_z w64 c.args.count)))) (to_z-of_z w64 c.args.first c.ranges.first)
    ∙ ap (λ n. is_ok (range_checks c.args.len c.args.first n)) (to_z-of_z w64 c.args.count c.ranges.count)

pub overflow_cast-start : goal.overflow_cast-start
overflow_cast-start c =
    let p = range_passed c.args.len c.args.first c.args.count (passed (goal.at.overflow_cast-start c).In_ok-check_range) in
    let low = p.2 in
    (grind (arith, ints), omega (arith, ints))

pub overflow_cast-result : goal.overflow_cast-result
overflow_cast-result c =
    let p = range_passed c.args.len c.args.first c.args.count (passed (goal.at.overflow_cast-result c).In_ok-check_range) in
    let low = p.0 in
    (grind (arith, ints), omega (arith, ints))

-- the end of a range, in the machine
module _ (len : ℕ) (first count : ℤ) (short : len < 1000000000000000000) (some : pos 1 ≤ℤ count) (few : count ≤ℤ pos 366) (from : pos 0 ≤ℤ first) (to : first ≤ℤ (pos len -ℤ count)) where
  inside : nat_abs first + nat_abs count ≤ len
  inside = omega (arith, ints)

  one : 0 < nat_abs count
  one = omega (arith, ints)

  most : nat_abs count ≤ 366
  most = omega (arith, ints)

same : (c : In_ok-check_range) → (nat_abs (to_z w64 (of_z w64 c.args.first)) ≡ nat_abs c.args.first) × (nat_abs (to_z w64 (of_z w64 c.args.count)) ≡ nat_abs c.args.count)
same c = (ap nat_abs (to_z-of_z w64 c.args.first c.ranges.first), ap nat_abs (to_z-of_z w64 c.args.count c.ranges.count))

pub overflow_add-result : goal.overflow_add-result
overflow_add-result c =
    let here = (goal.at.overflow_add-result c).In_ok-check_range in
    let p = range_passed c.args.len c.args.first c.args.count (passed here) in
    let s = same here in
    let a = s.0 in
    let b = s.1 in
    let h = inside c.args.len c.args.first c.args.count c.requires p.0 p.1 p.2 p.3 in
    let short = c.requires in
    record { fits = omega arith }

pub returns : goal.returns
returns c =
    let here = (goal.at.returns c).In_ok-check_range in
    let p = range_passed c.args.len c.args.first c.args.count (passed here) in
    let s = same here in
    let a = s.0 in
    let b = s.1 in
    let h = inside c.args.len c.args.first c.args.count c.requires p.0 p.1 p.2 p.3 in
    let k = one c.args.len c.args.first c.args.count c.requires p.0 p.1 p.2 p.3 in
    let m = most c.args.len c.args.first c.args.count c.requires p.0 p.1 p.2 p.3 in
    record { answer = ap Ok (cc) ∙ sym (then_passes (range_checks c.args.len c.args.first c.args.count) (Ok (nat_abs c.args.first, nat_abs c.args.first + nat_abs c.args.count)) (passed here)); some = omega arith; few = omega arith; within = omega arith }
