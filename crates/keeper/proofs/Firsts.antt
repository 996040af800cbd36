-- The first k in order are the first k of all.
use Rattle.std.proofs.Common.{◌≡◌, ℕ, zero, suc, Bool, true, false, cond, List, [], ◌∷◌, ◌++◌, take, drop, fold, sym, refl, subst, arith}
use Rattle.std.specs.List.Sorted.{IsPermutation}
use Rattle.std.specs.List.{AllByRecursion}
use Rattle.std.proofs.lemmas.List.{append-nil, length-take, length-drop, take-append-drop}
use Rattle.std.proofs.ByRecursion.{All-take, All-drop, All-weaker}
use Rattle.std.proofs.lemmas.List.Sorted.{IsPermutation-refl, IsPermutation-cons, IsPermutation-trans, IsPermutation-swap, length_permutation}
use Rattle.keeper.specs.Order.{Test, TotalOrder, insert, ordered, first_of}
use Rattle.keeper.specs.First.{NoneBefore, Sorted, FirstOf}

module _ {T : Type 0} (o : Test T) where
  swapped : (x y : T) (zs : List T) → IsPermutation (x ∷ y ∷ zs) (y ∷ x ∷ zs)
  swapped x y zs = IsPermutation-swap (x ∷ y ∷ zs) (y ∷ x ∷ zs) 0 1 (omega arith) (omega arith) refl

  -- an element out of the middle to the front
  pulled : (xs : List T) (e : T) (ys : List T) → IsPermutation (xs ++ e ∷ ys) (e ∷ (xs ++ ys))
  pulled [] e ys = IsPermutation-refl (e ∷ ys)
  pulled (x ∷ xs) e ys = IsPermutation-trans (x ∷ (xs ++ e ∷ ys)) (x ∷ e ∷ (xs ++ ys)) (e ∷ x ∷ (xs ++ ys)) (IsPermutation-cons x (xs ++ e ∷ ys) (e ∷ (xs ++ ys)) (pulled xs e ys)) (swapped x e (xs ++ ys))

  inserted : (e : T) (xs ys : List T) → IsPermutation (e ∷ (xs ++ ys)) (insert o e xs ++ ys)
  inserted e [] ys = IsPermutation-refl (e ∷ ys)
  inserted e (x ∷ xs) ys = go (o e x) (inserted e xs ys)
    where
      go : (b : Bool) → IsPermutation (e ∷ (xs ++ ys)) (insert o e xs ++ ys) → IsPermutation (e ∷ x ∷ (xs ++ ys)) (cond b (e ∷ x ∷ xs) (x ∷ insert o e xs) ++ ys)
      go true r = IsPermutation-refl (e ∷ x ∷ (xs ++ ys))
      go false r = IsPermutation-trans (e ∷ x ∷ (xs ++ ys)) (x ∷ e ∷ (xs ++ ys)) (x ∷ (insert o e xs ++ ys)) (swapped e x (xs ++ ys)) (IsPermutation-cons x (e ∷ (xs ++ ys)) (insert o e xs ++ ys) r)

  shuffled_onto : (held items : List T) → IsPermutation (held ++ items) (fold (λ h e. insert o e h) held items)
  shuffled_onto held [] = subst (λ l. IsPermutation l held) (sym (append-nil held)) (IsPermutation-refl held)
  shuffled_onto held (e ∷ items) =
      IsPermutation-trans (held ++ e ∷ items) (insert o e held ++ items) (fold (λ h x. insert o x h) (insert o e held) items)
      (IsPermutation-trans (held ++ e ∷ items) (e ∷ (held ++ items)) (insert o e held ++ items) (pulled held e items) (inserted e held items))
      (shuffled_onto (insert o e held) items)

  shuffled_ordered : (items : List T) → IsPermutation items (ordered o items)
  shuffled_ordered items = shuffled_onto [] items

  all_insert : (P : T → Type 0) (e : T) (xs : List T) → P e → AllByRecursion P xs → AllByRecursion P (insert o e xs)
  all_insert P e [] p h = (p, tt)
  all_insert P e (x ∷ xs) p h = go (o e x) (all_insert P e xs p h.1)
    where
      go : (b : Bool) → AllByRecursion P (insert o e xs) → AllByRecursion P (cond b (e ∷ x ∷ xs) (x ∷ insert o e xs))
      go true r = (p, h)
      go false r = (h.0, r)

  sorted-take : (k : ℕ) (xs : List T) → Sorted o xs → Sorted o (take k xs)
  sorted-take zero xs s = tt
  sorted-take (suc k) [] s = tt
  sorted-take (suc k) (x ∷ xs) s = (All-take (λ z. o z x ≡ false) k xs s.0, sorted-take k xs s.1)

  -- none past k comes before one up to k
  sorted_parts : (k : ℕ) (xs : List T) → Sorted o xs → AllByRecursion (NoneBefore o (drop k xs)) (take k xs)
  sorted_parts zero xs s = tt
  sorted_parts (suc k) [] s = tt
  sorted_parts (suc k) (x ∷ xs) s = (All-drop (λ z. o z x ≡ false) k xs s.0, sorted_parts k xs s.1)

module _ {T : Type 0} (o : Test T) (w : TotalOrder o) where
  -- not to come before carries through a third
  not_before : (x y z : T) → o y x ≡ false → o z y ≡ false → o z x ≡ false
  not_before x y z p q = go (o z x) refl (o x y) refl (o y z) refl
    where
      clash : {b : Bool} → b ≡ true → b ≡ false → ⊥
      clash {b} s t = let n : ◌≡◌ {A = ℕ} 0 1 = cc in omega arith

      go : (a : Bool) → o z x ≡ a → (b : Bool) → o x y ≡ b → (c : Bool) → o y z ≡ c → o z x ≡ false
      go false r b s c t = r
      go true r true s c t = absurd (clash (w.carries z x y r s) q)
      go true r false s true t = absurd (clash (w.carries y z x t r) p)
      go true r false s false t = (w.equal-carries x y z (s, p) (t, q)).1

  sorted_insert : (e : T) (xs : List T) → Sorted o xs → Sorted o (insert o e xs)
  sorted_insert e [] s = (tt, tt)
  sorted_insert e (x ∷ xs) s = go (o e x) refl (sorted_insert e xs s.1)
    where
      go : (b : Bool) → o e x ≡ b → Sorted o (insert o e xs) → Sorted o (cond b (e ∷ x ∷ xs) (x ∷ insert o e xs))
      go true y r = ((w.one-first e x y, All-weaker (λ z. o z x ≡ false) (λ z. o z e ≡ false) (λ z h. not_before e x z (w.one-first e x y) h) xs s.0), s)
      go false n r = (all_insert o (λ z. o z x ≡ false) e xs n s.0, r)

  sorted_onto : (held items : List T) → Sorted o held → Sorted o (fold (λ h e. insert o e h) held items)
  sorted_onto held [] s = s
  sorted_onto held (e ∷ items) s = sorted_onto (insert o e held) items (sorted_insert e held s)

  pub first_of-FirstOf : (k : ℕ) (items : List T) → FirstOf o k items (first_of o k items)
  first_of-FirstOf k items =
      let all = ordered o items in
      let long = length_permutation items all (shuffled_ordered o items) in
      let t = length-take k all in
      let d = length-drop k all in
      record {
        left = drop k all;
        together = subst (IsPermutation items) (sym (take-append-drop k all)) (shuffled_ordered o items);
        sorted = sorted-take o k all (sorted_onto [] items tt);
        after = sorted_parts o k all (sorted_onto [] items tt);
        full = λ some. omega arith;
        many = omega arith;
      }
