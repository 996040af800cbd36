-- What a net orders, counted.
use Rattle.std.proofs.Common.{◌≡◌, ℕ, zero, suc, ◌+◌, ◌≤◌, cond, true, eqb, List, [], ◌∷◌, length, get_or, set, ℤ, pos, negsuc, ◌+ℤ◌, nat_abs, is_some, refl, sym, arith}
use Rattle.refusal.proofs.Within.{within_low, within_high, within-from}
use Rattle.std.proofs.lemmas.List.Recursion.{is_sum_by, is_count_by, and_set}
use Rattle.std.proofs.lemmas.List.Sums.{count_by-le-length}
use Rattle.std.proofs.lemmas.Int.{ints}
use Rattle.std.proofs.lemmas.Bool.{and_parts, eq-eqb, ne_eqb}
use Rattle.std.specs.List.{sum_by, count_by}
use Rattle.sheet.specs.declared.order.Side.{Side}
use Rattle.sheet.specs.declared.order.Side.TheVariants.{Charge, Credit}
use Rattle.sheet.specs.Orders.{order_of, orders, moved, sum_of, total, nil}
use Rattle.sheet.specs.Writing.{payable}

-- how many orders there are and what is charged, in std's words
pub orders_count : (nets : List ℤ) → orders nets ≡ count_by (λ z. is_some (order_of z)) nets
orders_count nets = is_count_by orders (λ z. is_some (order_of z)) refl step nets where
  step : (z : ℤ) (zs : List ℤ) → orders (z ∷ zs) ≡ cond (is_some (order_of z)) (1 + orders zs) (orders zs)
  step (pos zero) zs = omega arith
  step (pos (suc n)) zs = refl
  step (negsuc n) zs = refl

pub sum_of_sum : (d : Side) (nets : List ℤ) → sum_of d nets ≡ sum_by (λ z. moved d (order_of z)) nets
sum_of_sum d nets = is_sum_by (sum_of d) (λ z. moved d (order_of z)) refl (λ _ _. refl) nets

-- charges and credits have the same sum just where the nets add up to 0
sides : (nets : List ℤ) → total nets +ℤ pos (sum_of Charge nets) ≡ pos (sum_of Credit nets)
sides [] = refl
sides (pos zero ∷ zs) = let h = sides zs in omega (arith, ints)
sides (pos (suc n) ∷ zs) = let h = sides zs in omega (arith, ints)
sides (negsuc n ∷ zs) = let h = sides zs in omega (arith, ints)

nil_from : (z : ℤ) (a b : ℕ) → z +ℤ pos a ≡ pos b → nil z ≡ eqb a b
nil_from (pos zero) a b e = sym (eq-eqb a b (omega (arith, ints)))
nil_from (pos (suc n)) a b e = sym (ne_eqb a b (λ same. omega (arith, ints)))
nil_from (negsuc n) a b e = sym (ne_eqb a b (λ same. omega (arith, ints)))

pub nil_total : (nets : List ℤ) → nil (total nets) ≡ eqb (sum_of Charge nets) (sum_of Credit nets)
nil_total nets = nil_from (total nets) (sum_of Charge nets) (sum_of Credit nets) (sides nets)

pub orders_le : (nets : List ℤ) → orders nets ≤ length nets
orders_le nets = let le = count_by-le-length (λ z. is_some (order_of z)) nets in let same = orders_count nets in omega arith

-- a sheet can hold each of its nets
pub payable_at : (nets : List ℤ) (k : ℕ) → payable nets ≡ true → nat_abs (get_or nets k (pos 0)) ≤ 200000000000000000
unfolding payable
payable_at [] k h = omega arith
payable_at (z ∷ zs) zero h =
    let in' = (and_parts _ _ h).0 in
    let low = within_low _ _ z in' in
    let high = within_high _ _ z in' in
    omega (arith, ints)
payable_at (z ∷ zs) (suc k) h = payable_at zs k (and_parts _ _ h).1

pub payable-set : (nets : List ℤ) (k : ℕ) (z : ℤ) → nat_abs z ≤ 200000000000000000 → payable nets ≡ true → payable (set nets k z) ≡ true
unfolding payable
payable-set nets k z small h = and_set payable _ refl (λ _ _. refl) nets k z (within-from _ _ z (omega (arith, ints)) (omega (arith, ints))) h

pub nil_is : (z : ℤ) → nil z ≡ true → z ≡ pos 0
nil_is (pos zero) e = refl
nil_is (pos (suc n)) e = grind arith
nil_is (negsuc n) e = grind arith
