-- The factor: how large it can be, and that it never falls.
use Rattle.std.proofs.Common.{◌≡◌, ℕ, ◌+◌, ◌*◌, ◌<◌, ◌≤◌, Bool, true, false, List, [], ◌∷◌, length, get_or, drop, ℤ, pos, negsuc, ◌+ℤ◌, ◌*ℤ◌, ◌≤ℤ◌, Ok, Err, refl, ap, ◌∙◌, arith, w64, SFits, to_z, of_z}
use lib.Signed.{le_z}
use Rattle.std.proofs.lemmas.Nat.{mul-le}
use Rattle.std.proofs.lemmas.List.{at_drop_more, at_drop_all}
use Rattle.std.proofs.lemmas.Int.{ints}
use Rattle.std.specs.List.{AllByRecursion}
use Rattle.refusal.specs.Checks.{check, ◌then◌, seen}
use Rattle.refusal.specs.declared.Fault.{Fault}
use Rattle.refusal.specs.declared.Refusal.TheVariants.{Factor}
use Rattle.coupons.specs.declared.overnight.Observation.{Observation}
use Rattle.coupons.specs.Overnight.{growth, compounded, factor_checks, Modest}
use Rattle.coupons.specs.Rounding.{rounded}
use Rattle.coupons.proofs.Products.{same_two}
use Rattle.coupons.proofs.Rounds.{nearest_least}

pub interest : (r d : ℤ) → pos 0 ≤ℤ r → r ≤ℤ pos 50000 → pos 1 ≤ℤ d → d ≤ℤ pos 10 → (pos 0 ≤ℤ (r *ℤ d)) × ((r *ℤ d) ≤ℤ pos 500000)
interest (pos r) (pos d) a b c e = let l = mul-le r d 50000 10 (omega (arith, ints)) (omega (arith, ints)) in (omega (arith, ints), omega (arith, ints))
interest (pos r) (negsuc d) a b c e = absurd (omega (arith, ints))
interest (negsuc r) d a b c e = absurd (omega (arith, ints))

pub weight_is : (x : ℤ) → pos 0 ≤ℤ x → x ≤ℤ pos 500000 → to_z w64 (of_z w64 (pos 36000000 +ℤ to_z w64 (of_z w64 x))) ≡ pos 36000000 +ℤ x
weight_is x low high = omega (arith, ints)

-- the weight in the machine
pub weight_back : (r d : ℤ) → SFits w64 r → SFits w64 d → pos 0 ≤ℤ r → r ≤ℤ pos 50000 → pos 1 ≤ℤ d → d ≤ℤ pos 10 →
    to_z w64 (of_z w64 (pos 36000000 +ℤ to_z w64 (of_z w64 (to_z w64 (of_z w64 r) *ℤ to_z w64 (of_z w64 d))))) ≡ pos 36000000 +ℤ r *ℤ d
weight_back r d f g a b c e =
    let range = interest r d a b c e in
    ap (λ p. to_z w64 (of_z w64 (pos 36000000 +ℤ to_z w64 (of_z w64 p)))) (same_two r d f g) ∙ weight_is (r *ℤ d) range.0 range.1

pub times_one : (z : ℤ) → z *ℤ pos 1 ≡ z
times_one z = omega (arith, ints)

pub rises : (f w : ℤ) → pos 0 ≤ℤ f → pos 36000000 ≤ℤ w → f ≤ℤ rounded (f *ℤ w) 36000000
rises (pos f) (pos w) low least =
    let l = mul-le f 36000000 f w (omega arith) (omega (arith, ints)) in
    let n = nearest_least (f * w) 36000000 f (omega arith) l in
    omega (arith, ints)
rises (pos f) (negsuc w) low least = absurd (omega (arith, ints))
rises (negsuc f) w low least = absurd (omega (arith, ints))

-- the next observation
pub factors_more : (os : List Observation) (i n : ℕ) (f : ℤ) (d : Observation) → i < length os → factor_checks n f (drop i os) ≡ seen n (check (le_z (growth f (get_or os i d)) (pos 150000000000)) Factor) then factor_checks (n + 1) (growth f (get_or os i d)) (drop (i + 1) os)
unfolding factor_checks
factors_more os i n f d h = at_drop_more (factor_checks n f) os i d h

pub factors_all : (os : List Observation) (i n : ℕ) (f : ℤ) → length os ≤ i → factor_checks n f (drop i os) ≡ Ok tt
unfolding factor_checks
factors_all os i n f h = at_drop_all (factor_checks n f) os i h

pub compounded-more : (os : List Observation) (i : ℕ) (f : ℤ) (d : Observation) → i < length os → compounded f (drop i os) ≡ compounded (growth f (get_or os i d)) (drop (i + 1) os)
compounded-more os i f d h = at_drop_more (compounded f) os i d h

pub compounded_all : (os : List Observation) (i : ℕ) (f : ℤ) → length os ≤ i → compounded f (drop i os) ≡ f
compounded_all os i f h = at_drop_all (compounded f) os i h

pub int_le-true : (a b : ℤ) → le_z a b ≡ true → a ≤ℤ b
int_le-true a b e = grind (arith, ints)

pub le_on : (a b c : ℤ) → a ≤ℤ b → b ≤ℤ c → a ≤ℤ c
le_on a b c h k = omega (arith, ints)

pub growth_rises : (f : ℤ) (o : Observation) → pos 0 ≤ℤ f → Modest o → f ≤ℤ growth f o
growth_rises f o some m =
    let range = interest o.rate o.days m.0 m.1 m.2 m.3 in
    let low = range.0 in
    rises f (pos 36000000 +ℤ o.rate *ℤ o.days) some (omega (arith, ints))

pub compounded_rises : (f : ℤ) (os : List Observation) → pos 0 ≤ℤ f → AllByRecursion Modest os → f ≤ℤ compounded f os
compounded_rises f [] some h = omega (arith, ints)
compounded_rises f (o ∷ os) some h =
    let once = growth_rises f o some h.0 in
    le_on f (growth f o) _ once (compounded_rises (growth f o) os (le_on (pos 0) f (growth f o) some once) h.1)

-- the next factor at its observation, by whether it is within its limit
pub grown_err : (i : ℕ) (ok : Bool) (g : ℤ) (e : Fault) → Err e ≡ seen i (check ok Factor then Ok g) → Err e ≡ seen i (check ok Factor)
grown_err i true g e h = let never : ◌≡◌ {A = ℕ} 0 1 = cc in absurd (omega arith)
grown_err i false g e h = cc

pub grown_ok : (i : ℕ) (ok : Bool) (g x : ℤ) → Ok x ≡ seen i (check ok Factor then Ok g) → (Ok tt ≡ seen i (check ok Factor)) × (x ≡ g)
grown_ok i true g x h = (refl, cc)
grown_ok i false g x h = let never : ◌≡◌ {A = ℕ} 0 1 = cc in absurd (omega arith)
