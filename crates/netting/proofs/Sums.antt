-- Sums over accounts, and that the nets of all accounts come to nothing.
use Rattle.std.proofs.Common.{◌≡◌, ℕ, zero, suc, ◌+◌, ◌<◌, ◌≤◌, Bool, true, false, eqb, ◌≢◌, List, [], ◌∷◌, ◌++◌, length, get_or, take, sym, refl, ap, ◌∙◌, add-one, arith}
use Rattle.std.specs.List.{AllByRecursion}
use Rattle.std.proofs.lemmas.Bool.Decides.{nat_tests}
use Rattle.std.proofs.lemmas.List.{take_more}
use Rattle.netting.specs.Group.{Group, Lawful}
use Rattle.netting.specs.Nets.{only, share_of, net_of, sum_below, together, Within}
use Rattle.netting.specs.declared.nets.Entry.{Entry}

module _ {F : Type 0} (g : Group F) where
  pub sum_same : (n : ℕ) (f h : ℕ → F) → ((a : ℕ) → a < n → f a ≡ h a) → sum_below g n f ≡ sum_below g n h
  sum_same zero f h e = refl
  sum_same (suc n) f h e = let p = e n (omega arith) in let r = sum_same n f h (λ a l. e a (omega arith)) in cc

module _ {F : Type 0} (g : Group F) (w : Lawful g) where
  pub none-add : (x : F) → g.add g.none x ≡ x
  none-add x = w.add_comm g.none x ∙ w.add_none x

  -- two sums side by side
  pub crossed : (a b c d : F) → g.add (g.add a b) (g.add c d) ≡ g.add (g.add a c) (g.add b d)
  crossed a b c d =
      let p = w.add_assoc a b (g.add c d) in
      let q = w.add_assoc b c d in
      let r = w.add_comm b c in
      let s = w.add_assoc c b d in
      let t = w.add_assoc a c (g.add b d) in
      cc

  -- one place more
  pub sum_more : (n : ℕ) (f : ℕ → F) → sum_below g (n + 1) f ≡ g.add (sum_below g n f) (f n)
  sum_more n f = ap (λ k. sum_below g k f) (add-one n) ∙ w.add_comm (f n) (sum_below g n f)

  pub sum-none : (n : ℕ) → sum_below g n (λ _. g.none) ≡ g.none
  sum-none zero = refl
  sum-none (suc n) = ap (g.add g.none) (sum-none n) ∙ w.add_none g.none

  pub sum-add : (n : ℕ) (f h : ℕ → F) → sum_below g n (λ a. g.add (f a) (h a)) ≡ g.add (sum_below g n f) (sum_below g n h)
  sum-add zero f h = sym (w.add_none g.none)
  sum-add (suc n) f h = ap (g.add (g.add (f n) (h n))) (sum-add n f h) ∙ crossed (f n) (h n) (sum_below g n f) (sum_below g n h)

  pub only-other : (q a : ℕ) (x : F) → q ≢ a → only g q x a ≡ g.none
  only-other q a x ne = go (eqb q a) refl
    where
      go : (b : Bool) → eqb q a ≡ b → only g q x a ≡ g.none
      go true e = let same : q ≡ a = grind (arith, nat_tests) in absurd (ne same)
      go false e = rw e refl

  pub only_same : (q a : ℕ) (x : F) → q ≡ a → only g q x a ≡ x
  only_same q a x same = let e : eqb q a ≡ true = grind (arith, nat_tests) in rw e refl

  sum_past : (n q : ℕ) (x : F) → n ≤ q → sum_below g n (only g q x) ≡ g.none
  sum_past zero q x h = refl
  sum_past (suc n) q x h =
      let e = only-other q n x (omega arith) in
      let r = sum_past n q x (omega arith) in
      let z = w.add_none g.none in
      cc

  -- one place below n has x, and the others nothing
  pub sum-only : (n q : ℕ) (x : F) → q < n → sum_below g n (only g q x) ≡ x
  sum-only zero q x h = absurd (omega arith)
  sum-only (suc n) q x h = go (eqb q n) refl (λ l. sum-only n q x l)
    where
      go : (b : Bool) → eqb q n ≡ b → (q < n → sum_below g n (only g q x) ≡ x) → g.add (only g q x n) (sum_below g n (only g q x)) ≡ x
      go true e rest =
          let same : q ≡ n = grind (arith, nat_tests) in
          let r = sum_past n q x (omega arith) in
          let o = only_same q n x same in
          let z = w.add_none x in
          cc
      go false e rest =
          let ne : q ≢ n = grind (arith, nat_tests) in
          let r = rest (omega arith) in
          let o = only-other q n x ne in
          let z = none-add x in
          cc

  -- an entry takes from one what it gives to another
  sum_share : (n : ℕ) (e : Entry F) → Within n e → sum_below g n (share_of g e) ≡ g.none
  sum_share n e h =
      let s = sum-add n (only g e.long e.figure) (only g e.short (g.neg e.figure)) in
      let p = sum-only n e.long e.figure h.0 in
      let q = sum-only n e.short (g.neg e.figure) h.1 in
      let z = w.add-neg e.figure in
      cc

  pub balanced : (n : ℕ) (es : List (Entry F)) → AllByRecursion (Within n) es → sum_below g n (net_of g es) ≡ g.none
  balanced n [] h = sum-none n
  balanced n (e ∷ es) h =
      let s = sum-add n (share_of g e) (net_of g es) in
      let p = sum_share n e h.0 in
      let r = balanced n es h.1 in
      let z = w.add_none g.none in
      cc

  net_push : (es : List (Entry F)) (e : Entry F) (a : ℕ) → net_of g (es ++ e ∷ []) a ≡ g.add (net_of g es a) (share_of g e a)
  net_push [] e a = w.add_comm (share_of g e a) g.none
  net_push (x ∷ es) e a = let r = net_push es e a in let s = w.add_assoc (share_of g x a) (net_of g es a) (share_of g e a) in cc

  -- one entry more
  pub net_more : (es : List (Entry F)) (i : ℕ) (e : Entry F) (a : ℕ) → i < length es → e ≡ get_or es i e →
      net_of g (take (i + 1) es) a ≡ g.add (net_of g (take i es) a) (share_of g e a)
  net_more es i e a l read =
      let next : take (i + 1) es ≡ take i es ++ e ∷ [] = take_more es i e l ∙ ap (λ y. take i es ++ y ∷ []) (sym read) in
      rw next (net_push (take i es) e a)

  -- a list that has f k at each place k
  pub together-sum : (xs : List F) (f : ℕ → F) → ((k : ℕ) (d : F) → k < length xs → get_or xs k d ≡ f k) → together g xs ≡ sum_below g (length xs) f
  together-sum [] f h = refl
  together-sum (x ∷ xs) f h =
      let here = h 0 g.none (omega arith) in
      let rest = together-sum xs (λ k. f (suc k)) (λ k d l. h (suc k) d (omega arith)) in
      let turn = front (length xs) f in
      cc
    where
      front : (n : ℕ) (f : ℕ → F) → sum_below g (suc n) f ≡ g.add (f 0) (sum_below g n (λ k. f (suc k)))
      front zero f = refl
      front (suc n) f =
          let r = front n f in
          let p = w.add_assoc (f (suc n)) (f 0) (sum_below g n (λ k. f (suc k))) in
          let q = w.add_comm (f (suc n)) (f 0) in
          let s = w.add_assoc (f 0) (f (suc n)) (sum_below g n (λ k. f (suc k))) in
          cc
