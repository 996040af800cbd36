-- A reading of figures that carries sums over carries nets over.
use Rattle.std.proofs.Common.{◌≡◌, ℕ, zero, suc, Bool, true, false, cond, eqb, List, [], ◌∷◌, map, length, refl, ap, ◌∙◌}
use Rattle.netting.specs.Group.{Group, Additive}
use Rattle.netting.specs.Nets.{only, share_of, net_of, sum_below, member_of, member_net, read_by}
use Rattle.netting.specs.declared.nets.Entry.{Entry}
use Rattle.netting.proofs.Sums.{sum_same}

module _ {F G : Type 0} (g : Group F) (h : Group G) (f : F → G) (w : Additive g h f) where
  only_read : (q a : ℕ) (x : F) → f (only g q x a) ≡ only h q (f x) a
  only_read q a x = go (eqb q a)
    where
      go : (b : Bool) → f (cond b x g.none) ≡ cond b (f x) h.none
      go true = refl
      go false = w.of_none

  share_read : (e : Entry F) (a : ℕ) → f (share_of g e a) ≡ share_of h (read_by f e) a
  share_read e a =
      let p = w.of_add (only g e.long e.figure a) (only g e.short (g.neg e.figure) a) in
      let q = only_read e.long a e.figure in
      let r = only_read e.short a (g.neg e.figure) in
      let n = ap (λ y. only h e.short y a) (w.of_neg e.figure) in
      cc

  pub net_read : (es : List (Entry F)) (a : ℕ) → f (net_of g es a) ≡ net_of h (map (read_by f) es) a
  net_read [] a = w.of_none
  net_read (e ∷ es) a = let p = w.of_add (share_of g e a) (net_of g es a) in let q = share_read e a in let r = net_read es a in cc

  pub sum_read : (n : ℕ) (k : ℕ → F) → f (sum_below g n k) ≡ sum_below h n (λ a. f (k a))
  sum_read zero k = w.of_none
  sum_read (suc n) k = let p = w.of_add (k n) (sum_below g n k) in let r = sum_read n k in cc

  pub member_read : (members : List ℕ) (k : ℕ → F) (m : ℕ) → f (member_net g members k m) ≡ member_net h members (λ a. f (k a)) m
  member_read members k m = sum_read (length members) (λ a. only g (member_of members a) (k a) m)
      ∙ sum_same h (length members) (λ a. f (only g (member_of members a) (k a) m)) (λ a. only h (member_of members a) (f (k a)) m) (λ a l. only_read (member_of members a) m (k a))
