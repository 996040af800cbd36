-- How large shares and nets are, so that no sum of them wraps.
use Rattle.std.proofs.Common.{◌≡◌, ℕ, zero, suc, ◌+◌, ◌*◌, ◌<◌, ◌≤◌, min, Bool, true, false, cond, eqb, ltb, List, [], ◌∷◌, length, get_or, take, sum_by, sym, refl, ap, add-one, arith, take_all}
use Rattle.std.proofs.lemmas.List.Sums.{sum_by-cons, sum_by_more, sum_by-take-le}
use Rattle.std.proofs.lemmas.Bool.Decides.{nat_tests}
use Rattle.netting.specs.Group.{Group, Lawful}
use Rattle.netting.specs.Nets.{only, share_of, net_of, sum_below, weight, weighed}
use Rattle.netting.specs.declared.nets.Entry.{Entry}
use Rattle.netting.proofs.Sums.{none-add}

-- a sum of numbers below n
abbrev sizes : ℕ → (ℕ → ℕ) → ℕ
sizes zero f = 0
sizes (suc n) f = f n + sizes n f

sizes_zero : (n : ℕ) (f : ℕ → ℕ) → ((a : ℕ) → f a ≡ 0) → sizes n f ≡ 0
sizes_zero zero f z = refl
sizes_zero (suc n) f z = let p = z n in let r = sizes_zero n f z in omega arith

sizes_add : (n : ℕ) (f h k : ℕ → ℕ) → ((a : ℕ) → f a ≤ h a + k a) → sizes n f ≤ sizes n h + sizes n k
sizes_add zero f h k e = omega arith
sizes_add (suc n) f h k e = let p = e n in let r = sizes_add n f h k e in omega arith

sizes_only : (n q x : ℕ) → sizes n (λ a. cond (eqb q a) x 0) ≡ cond (ltb q n) x 0
sizes_only zero q x = grind (arith, nat_tests)
sizes_only (suc n) q x = let r = sizes_only n q x in grind (arith, nat_tests)

below_one : (n q x : ℕ) → cond (ltb q n) x 0 ≤ x
below_one n q x = go (ltb q n)
  where
    go : (b : Bool) → cond b x 0 ≤ x
    go true = omega arith
    go false = omega arith

-- one element more of a list, and the whole list
pub sum-within : {X : Type 0} (f : X → ℕ) (xs : List X) (i : ℕ) (x : X) → i < length xs → x ≡ get_or xs i x → sum_by f (take i xs) + f x ≤ sum_by f xs
sum-within f xs i x l read = let m = sum_by_more f xs i x l in let s = ap f read in let t = sum_by-take-le f xs (i + 1) in omega arith

module _ {F : Type 0} (g : Group F) (w : Lawful g) where
  pub size-only : (q a : ℕ) (x : F) → g.size (only g q x a) ≤ g.size x
  size-only q a x = go (eqb q a)
    where
      go : (b : Bool) → g.size (cond b x g.none) ≤ g.size x
      go true = omega arith
      go false = let z = w.size_none in omega arith

  -- what an account has of an entry, by the sides that it has: of both sides, nothing
  sides : (x : F) (b c : Bool) → g.size (g.add (cond b x g.none) (cond c (g.neg x) g.none)) ≤ min (g.size x) (cond b (g.size x) 0 + cond c (g.size x) 0)
  sides x true true = let p = ap g.size (w.add-neg x) in let z = w.size_none in omega arith
  sides x true false = let p = ap g.size (w.add_none x) in omega arith
  sides x false true = let p = ap g.size (none-add g w (g.neg x)) in let n = w.size-neg x in omega arith
  sides x false false = let p = ap g.size (w.add_none g.none) in let z = w.size_none in omega arith

  -- an entry brings an account at most its figure
  pub size_share : (e : Entry F) (a : ℕ) → g.size (share_of g e a) ≤ g.size e.figure
  size_share e a = let s = sides e.figure (eqb e.long a) (eqb e.short a) in omega arith

  pub size_net : (es : List (Entry F)) (a : ℕ) → g.size (net_of g es a) ≤ weight g es
  size_net [] a = let z = w.size_none in omega arith
  size_net (e ∷ es) a =
      let p = size_share e a in
      let r = size_net es a in
      let s = w.size-add (share_of g e a) (net_of g es a) in
      let c = sum_by-cons (λ (x : Entry F). g.size x.figure) e es in
      omega arith

  -- an entry brings its figure to two accounts at most
  size_shares : (n : ℕ) (e : Entry F) → sizes n (λ a. g.size (share_of g e a)) ≤ 2 * g.size e.figure
  size_shares n e =
      let x = g.size e.figure in
      let each : (a : ℕ) → g.size (share_of g e a) ≤ cond (eqb e.long a) x 0 + cond (eqb e.short a) x 0 = λ a. let s = sides e.figure (eqb e.long a) (eqb e.short a) in omega arith in
      let p = sizes_add n (λ a. g.size (share_of g e a)) (λ a. cond (eqb e.long a) x 0) (λ a. cond (eqb e.short a) x 0) each in
      let q = sizes_only n e.long x in
      let r = sizes_only n e.short x in
      let s = below_one n e.long x in
      let t = below_one n e.short x in
      omega arith

  size_nets : (n : ℕ) (es : List (Entry F)) → sizes n (λ a. g.size (net_of g es a)) ≤ 2 * weight g es
  size_nets n [] = let z = sizes_zero n (λ _. g.size g.none) (λ _. w.size_none) in omega arith
  size_nets n (e ∷ es) =
      let s = size_shares n e in
      let r = size_nets n es in
      let p = sizes_add n (λ a. g.size (g.add (share_of g e a) (net_of g es a))) (λ a. g.size (share_of g e a)) (λ a. g.size (net_of g es a)) (λ a. w.size-add (share_of g e a) (net_of g es a)) in
      let c = sum_by-cons (λ (x : Entry F). g.size x.figure) e es in
      omega arith

  weighed-take : (xs : List F) (f : ℕ → F) (n : ℕ) → n ≤ length xs → ((k : ℕ) (d : F) → k < length xs → get_or xs k d ≡ f k) → weighed g (take n xs) ≡ sizes n (λ k. g.size (f k))
  weighed-take xs f zero l h = refl
  weighed-take xs f (suc n) l h =
      let r = weighed-take xs f n (omega arith) h in
      let m = sum_by_more g.size xs n g.none (omega arith) in
      let s = ap g.size (h n g.none (omega arith)) in
      let t : weighed g (take (suc n) xs) ≡ weighed g (take (n + 1) xs) = ap (λ j. weighed g (take j xs)) (sym (add-one n)) in
      omega arith

  -- a list of nets weighs at most twice what the entries weigh
  pub nets_weigh : (es : List (Entry F)) (xs : List F) → ((k : ℕ) (d : F) → k < length xs → get_or xs k d ≡ net_of g es k) → weighed g xs ≤ 2 * weight g es
  nets_weigh es xs h =
      let t = weighed-take xs (net_of g es) (length xs) (omega arith) h in
      let a = ap (weighed g) (take_all (length xs) xs (omega arith)) in
      let s = size_nets (length xs) es in
      omega arith

  -- a sum over places, each at most what a list has there
  pub size_below : (xs : List F) (f : ℕ → F) (n : ℕ) → n ≤ length xs → ((a : ℕ) → g.size (f a) ≤ g.size (get_or xs a g.none)) → g.size (sum_below g n f) ≤ weighed g (take n xs)
  size_below xs f zero l h = let z = w.size_none in omega arith
  size_below xs f (suc n) l h =
      let r = size_below xs f n (omega arith) h in
      let p = h n in
      let s = w.size-add (f n) (sum_below g n f) in
      let m = sum_by_more g.size xs n g.none (omega arith) in
      let t : weighed g (take (suc n) xs) ≡ weighed g (take (n + 1) xs) = ap (λ j. weighed g (take j xs)) (sym (add-one n)) in
      omega arith
