-- Insertion, step by step.
use Rattle.std.proofs.Common.{◌≡◌, ℕ, zero, suc, ◌+◌, ◌-◌, ◌<◌, ◌≤◌, Bool, true, false, cond, not, List, [], ◌∷◌, ◌++◌, length, get_or, take, drop, set, sym, refl, ap, ◌∙◌, arith}
use Rattle.std.proofs.Math.Seq.{take-append-add}
use Rattle.std.specs.Prelude.{Option, Some, None, position, unwrap_or, nat_lt}
use Rattle.std.specs.List.{position_or_len}
use Rattle.std.proofs.lemmas.Bool.Decides.{nat_tests}
use Rattle.std.proofs.lemmas.List.Sums.{prefix_len-le-length}
use Rattle.std.proofs.lemmas.List.{drop_more, drop_all, take_all, drop-drop, length-take-le, length-drop, take-take, drop-take}
use Rattle.std.proofs.lemmas.Slice.{take-put_mid, drop-put_mid}
use borrow.Rule.Slice.PartMut.{put_mid, mid_of}
use mathlib.Core.Logic.{◌⊎◌, inl, inr}
use Rattle.keeper.specs.Order.{Test, insert}

module _ {T : Type 0} (o : Test T) where
  pub length-insert : (e : T) (xs : List T) → length (insert o e xs) ≡ length xs + 1
  length-insert e [] = refl
  length-insert e (x ∷ xs) = go (o e x) (length-insert e xs)
    where
      go : (b : Bool) → length (insert o e xs) ≡ length xs + 1 → length (cond b (e ∷ x ∷ xs) (x ∷ insert o e xs)) ≡ suc (length xs) + 1
      go true r = omega arith
      go false r = omega arith

  -- it goes before the first that it comes before, or behind the last
  pub spot_splits : (e : T) (xs : List T) → insert o e xs ≡ take (position_or_len (o e) xs) xs ++ e ∷ drop (position_or_len (o e) xs) xs
  spot_splits e [] = refl
  spot_splits e (x ∷ xs) = go (o e x) (spot_splits e xs)
    where
      go : (b : Bool) → insert o e xs ≡ take (position_or_len (o e) xs) xs ++ e ∷ drop (position_or_len (o e) xs) xs →
          cond b (e ∷ x ∷ xs) (x ∷ insert o e xs) ≡ take (cond (not b) (1 + position_or_len (o e) xs) 0) (x ∷ xs) ++ e ∷ drop (cond (not b) (1 + position_or_len (o e) xs) 0) (x ∷ xs)
      go true r = refl
      go false r = let next : 1 + position_or_len (o e) xs ≡ suc (position_or_len (o e) xs) = omega arith in rw next (ap (λ l. x ∷ l) r)

  pub record Spot (e : T) (xs : List T) (i : ℕ) : Type 0 where
    pub within : i ≤ length xs
    pub splits : insert o e xs ≡ take i xs ++ e ∷ drop i xs

  pub spot_at : (e : T) (xs : List T) (r : Option ℕ) (i : ℕ) → r ≡ position (o e) xs → i ≡ unwrap_or r (length xs) → Spot e xs i
  spot_at e xs r i found at =
      let n = position_or_len (o e) xs in
      let few : n ≤ length xs = prefix_len-le-length (λ x. not (o e x)) xs in
      let same : i ≡ n = at ∙ ap (λ q. unwrap_or q (length xs)) found ∙ go (nat_lt n (length xs)) n (length xs) refl few in
      record { within = omega arith; splits = rw same (spot_splits e xs) }
    where
      go : (b : Bool) (n k : ℕ) → nat_lt n k ≡ b → n ≤ k → unwrap_or (cond b (Some n) None) k ≡ n
      go true n k h few = refl
      go false n k h few = let more : k ≤ n = grind (arith, nat_tests) in omega arith

module _ {T : Type 0} where
  -- of a list with e put in at a, the first m
  front_of : (a m n : ℕ) (P : List T) (e : T) → a < m → a ≤ n → m ≤ n + 1 → m ≤ length P →
      take m (take a P ++ e ∷ take (n - a) (drop a P)) ≡ take a P ++ e ∷ take (m - a - 1) (drop a P)
  front_of a m n P e l k j long =
      let wide : length (take a P) ≡ a = length-take-le a P (omega arith) in
      let split : m ≡ length (take a P) + suc (m - a - 1) = omega arith in
      ap (λ i. take i (take a P ++ e ∷ take (n - a) (drop a P))) split ∙ take-append-add (take a P) (e ∷ take (n - a) (drop a P)) (suc (m - a - 1))
      ∙ ap (λ r. take a P ++ e ∷ r) (take-take (m - a - 1) (n - a) (drop a P) (omega arith))

  -- the last of the places from a on comes to their front, and is written over
  turned : (S ys : List T) (e : T) → 0 < length S → ys ≡ drop (length S - 1) S ++ take (length S - 1) S → set ys 0 e ≡ e ∷ take (length S - 1) S
  turned S ys e some is =
      let q = length S - 1 in
      let last : drop q S ≡ get_or S q e ∷ [] = drop_more S q e (omega arith) ∙ ap (λ r. get_or S q e ∷ r) (drop_all (q + 1) S (omega arith)) in
      ap (λ l. set l 0 e) (is ∙ ap (λ l. l ++ take q S) last)

  pub record Kept (all P Q : List T) (k r : ℕ) : Type 0 where
    pub held : take r Q ≡ take k all
    pub rest : drop r Q ≡ drop r P

  -- the places from a up to m are turned by one, and e is written over the first of them
  pub kept_turned : (all P ys : List T) (e : T) (a n m : ℕ) → a < m → a ≤ n → (m ≡ n + 1) ⊎ (m ≡ length P) → n ≤ length P → m ≤ n + 1 → m ≤ length P → length all ≡ n + 1 →
      all ≡ take a (take n P) ++ e ∷ drop a (take n P) →
      ys ≡ drop (length (mid_of a (m - a) P) - 1) (mid_of a (m - a) P) ++ take (length (mid_of a (m - a) P) - 1) (mid_of a (m - a) P) →
      Kept all P (put_mid a (m - a) P (set ys 0 e)) (length P) m
  kept_turned all P ys e a n m l k end long j few many splits is =
      let S = mid_of a (m - a) P in
      let left : length (drop a P) ≡ length P - a = length-drop a P in
      let wide : length S ≡ m - a = length-take-le (m - a) (drop a P) (omega arith) in
      let same : length S - 1 ≡ m - a - 1 = omega arith in
      let written : set ys 0 e ≡ e ∷ take (m - a - 1) (drop a P) =
      turned S ys e (omega arith) is ∙ ap (λ q. e ∷ take q S) same
      ∙ ap (λ r. e ∷ r) (take-take (m - a - 1) (m - a) (drop a P) (omega arith)) in
      let short : length (take (m - a - 1) (drop a P)) ≡ m - a - 1 = length-take-le (m - a - 1) (drop a P) (omega arith) in
      let size : length (set ys 0 e) ≡ m - a = let w = ap length written in omega arith in
      let there : n ≡ a + (n - a) = omega arith in
      let whole : all ≡ take a P ++ e ∷ take (n - a) (drop a P) =
      splits ∙ ap (λ r. r ++ e ∷ drop a (take n P)) (take-take a n P k)
      ∙ ap (λ r. take a P ++ e ∷ r) (ap (λ i. drop a (take i P)) there ∙ drop-take a (n - a) P) in
      let front : take m all ≡ take (length P) all = elim end [ inl p ↦ take_all m all (omega arith) ∙ sym (take_all (length P) all (omega arith)) | inr p ↦ ap (λ i. take i all) p ] in
      record {
        held = take-put_mid a (m - a) P (set ys 0 e) m (omega arith) (omega arith) ∙ ap (λ r. take a P ++ r) written ∙ sym (front_of a m n P e l k j few) ∙ ap (take m) (sym whole) ∙ front;
        rest = drop-put_mid a (m - a) P (set ys 0 e) m (omega arith) (omega arith) size;
      }

-- only the first k of a list decide where its first k stand after one more is put in
module _ {T : Type 0} (o : Test T) where
  pub take-insert : (k : ℕ) (e : T) (xs : List T) → take k (insert o e (take k xs)) ≡ take k (insert o e xs)
  take-insert zero e xs = refl
  take-insert (suc k) e [] = refl
  take-insert (suc k) e (x ∷ xs) = go (o e x) (take-insert k e xs)
    where
      front : (j : ℕ) → take j (x ∷ take j xs) ≡ take j (x ∷ xs)
      front zero = refl
      front (suc j) = ap (λ r. x ∷ r) (take-take j (suc j) xs (omega arith))

      go : (b : Bool) → take k (insert o e (take k xs)) ≡ take k (insert o e xs) → take (suc k) (cond b (e ∷ x ∷ take k xs) (x ∷ insert o e (take k xs))) ≡ take (suc k) (cond b (e ∷ x ∷ xs) (x ∷ insert o e xs))
      go true r = ap (λ r. e ∷ r) (front k)
      go false r = ap (λ r. x ∷ r) r

pub drop_later : {T : Type 0} (n m : ℕ) (xs ys : List T) → n ≤ m → drop n xs ≡ drop n ys → drop m xs ≡ drop m ys
drop_later n m xs ys l e =
    let split : n + (m - n) ≡ m = omega arith in
    let p = drop-drop (m - n) n xs in
    let q = drop-drop (m - n) n ys in
    let r = ap (drop (m - n)) e in
    ap (λ j. drop j xs) (sym split) ∙ sym p ∙ r ∙ q ∙ ap (λ j. drop j ys) split
