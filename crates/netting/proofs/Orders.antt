-- The order of the entries does not matter, nor do entries that name other accounts.
use Rattle.std.proofs.Common.{◌≡◌, ℕ, zero, suc, ◌<◌, Bool, true, false, cond, ◌||◌, eqb, ◌≢◌, List, [], ◌∷◌, length, get_or, set, filter, sym, refl, ap, ◌∙◌, arith}
use Rattle.std.specs.List.{swap}
use Rattle.std.specs.List.Sorted.{IsPermutation}
use Rattle.std.proofs.lemmas.Bool.Decides.{nat_tests}
use Rattle.std.proofs.lemmas.List.{length-set, get_or-set_same, get_or-set_other}
use Rattle.std.proofs.lemmas.List.Sorted.{IsPermutation-keeps}
use Rattle.netting.specs.Group.{Group, Lawful}
use Rattle.netting.specs.Nets.{share_of, net_of, names}
use Rattle.netting.specs.declared.nets.Entry.{Entry}
use Rattle.netting.proofs.Sums.{none-add}

neither : (b c : Bool) → (b || c) ≡ false → (b ≡ false) × (c ≡ false)
neither b c n = (grind (arith, nat_tests), grind (arith, nat_tests))

module _ {F : Type 0} (g : Group F) (w : Lawful g) where
  cancel : (x y z : F) → g.add x z ≡ g.add y z → x ≡ y
  cancel x y z e =
      let p = w.add_assoc x z (g.neg z) in
      let q = w.add_assoc y z (g.neg z) in
      let r = w.add-neg z in
      let s = w.add_none x in
      let t = w.add_none y in
      cc

  net_set : (es : List (Entry F)) (i : ℕ) (e d : Entry F) (a : ℕ) → i < length es → g.add (net_of g (set es i e) a) (share_of g (get_or es i d) a) ≡ g.add (net_of g es a) (share_of g e a)
  net_set [] i e d a h = absurd (omega arith)
  net_set (x ∷ es) zero e d a h =
      let n = net_of g es a in
      let p = w.add_comm (share_of g e a) n in
      let q = w.add_assoc n (share_of g e a) (share_of g x a) in
      let r = w.add_comm (share_of g e a) (share_of g x a) in
      let s = w.add_assoc n (share_of g x a) (share_of g e a) in
      let t = w.add_comm (share_of g x a) n in
      cc
  net_set (x ∷ es) (suc i) e d a h =
      let r = net_set es i e d a (omega arith) in
      let p = w.add_assoc (share_of g x a) (net_of g (set es i e) a) (share_of g (get_or es i d) a) in
      let q = w.add_assoc (share_of g x a) (net_of g es a) (share_of g e a) in
      cc

  net_exchanged : (es : List (Entry F)) (i j : ℕ) (a : ℕ) → i < length es → j < length es → net_of g (swap es i j) a ≡ net_of g es a
  net_exchanged [] i j a h k = refl
  net_exchanged (d ∷ es) i j a h k =
      let xs : List (Entry F) = d ∷ es in
      let x = get_or xs i d in
      let y = get_or xs j d in
      let long = length-set xs i y in
      let one = net_set xs i y d a h in
      let two = net_set (set xs i y) j x d a (omega arith) in
      let there : get_or (set xs i y) j d ≡ y = read (eqb j i) refl in
      let two' : g.add (net_of g (set (set xs i y) j x) a) (share_of g y a) ≡ g.add (net_of g (set xs i y) a) (share_of g x a) = ap (λ z. g.add (net_of g (set (set xs i y) j x) a) (share_of g z a)) (sym there) ∙ two in
      cancel (net_of g (set (set xs i y) j x) a) (net_of g xs a) (share_of g y a) (two' ∙ one)
    where
      read : (b : Bool) → eqb j i ≡ b → get_or (set (d ∷ es) i (get_or (d ∷ es) j d)) j d ≡ get_or (d ∷ es) j d
      read true e = let same : j ≡ i = grind (arith, nat_tests) in rw same (get_or-set_same (d ∷ es) i (get_or (d ∷ es) i d) d h)
      read false e = let ne : j ≢ i = grind (arith, nat_tests) in get_or-set_other (d ∷ es) i j (get_or (d ∷ es) j d) d ne

  pub any_order : (es fs : List (Entry F)) (a : ℕ) → IsPermutation es fs → net_of g fs a ≡ net_of g es a
  any_order es fs a s = IsPermutation-keeps es (λ l. net_of g l a ≡ net_of g es a) refl (λ l i j h k e. net_exchanged l i j a h k ∙ e) fs s

  pub others_out : (es : List (Entry F)) (a : ℕ) → net_of g (filter (names a) es) a ≡ net_of g es a
  others_out [] a = refl
  others_out (e ∷ es) a = go (names a e) refl (others_out es a)
    where
      go : (b : Bool) → names a e ≡ b → net_of g (filter (names a) es) a ≡ net_of g es a →
          net_of g (cond (names a e) (e ∷ filter (names a) es) (filter (names a) es)) a ≡ g.add (share_of g e a) (net_of g es a)
      go true y r = rw y (ap (g.add (share_of g e a)) r)
      go false n r =
          let long : eqb e.long a ≡ false = (neither (eqb e.long a) (eqb e.short a) n).0 in
          let short : eqb e.short a ≡ false = (neither (eqb e.long a) (eqb e.short a) n).1 in
          let share : share_of g e a ≡ g.none =
          ap (λ b. g.add (cond b e.figure g.none) (cond (eqb e.short a) (g.neg e.figure) g.none)) long ∙ ap (λ b. g.add g.none (cond b (g.neg e.figure) g.none)) short ∙ w.add_none g.none in
          rw n (r ∙ sym (ap (λ x. g.add x (net_of g es a)) share ∙ none-add g w (net_of g es a)))
