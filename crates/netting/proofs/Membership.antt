-- The nets of members.
use Rattle.std.proofs.Common.{◌≡◌, ℕ, ◌<◌, Bool, true, false, cond, eqb, List, [], ◌∷◌, map, length, sym, refl, ap, ◌∙◌, arith}
use Rattle.std.specs.List.{AllByRecursion}
use Rattle.std.proofs.lemmas.Bool.Decides.{nat_tests}
use Rattle.netting.specs.Group.{Group, Lawful}
use Rattle.netting.specs.Nets.{only, share_of, net_of, sum_below, member_of, member_net, Within, between_members}
use Rattle.netting.specs.declared.nets.Entry.{Entry}
use Rattle.netting.proofs.Sums.{sum_same, sum-none, sum-add, sum-only, balanced}

module _ {F : Type 0} (g : Group F) (w : Lawful g) where
  only_none : (q a : ℕ) → only g q g.none a ≡ g.none
  only_none q a = go (eqb q a)
    where
      go : (b : Bool) → cond b g.none g.none ≡ g.none
      go true = refl
      go false = refl

  only-add : (q a : ℕ) (x y : F) → only g q (g.add x y) a ≡ g.add (only g q x a) (only g q y a)
  only-add q a x y = go (eqb q a)
    where
      go : (b : Bool) → cond b (g.add x y) g.none ≡ g.add (cond b x g.none) (cond b y g.none)
      go true = refl
      go false = sym (w.add_none g.none)

  -- what one account has is its member's
  sum_seat : (members : List ℕ) (n q m : ℕ) (x : F) → q < n → sum_below g n (λ a. only g (member_of members a) (only g q x a) m) ≡ only g (member_of members q) x m
  sum_seat members n q m x h =
      sum_same g n (λ a. only g (member_of members a) (only g q x a) m) (only g q (only g (member_of members q) x m)) (λ a l. turn a (eqb q a) refl) ∙ sum-only g w n q (only g (member_of members q) x m) h
    where
      turn : (a : ℕ) (b : Bool) → eqb q a ≡ b → only g (member_of members a) (cond (eqb q a) x g.none) m ≡ cond (eqb q a) (only g (member_of members q) x m) g.none
      turn a true e = let same : q ≡ a = grind (arith, nat_tests) in rw e (ap (λ k. only g (member_of members k) x m) (sym same))
      turn a false e = rw e (only_none (member_of members a) m)

  sum_share_seat : (members : List ℕ) (n m : ℕ) (e : Entry F) → Within n e → sum_below g n (λ a. only g (member_of members a) (share_of g e a) m) ≡ share_of g (between_members members e) m
  sum_share_seat members n m e h =
      let f = only g e.long e.figure in
      let k = only g e.short (g.neg e.figure) in
      let p = sum_same g n (λ a. only g (member_of members a) (share_of g e a) m) (λ a. g.add (only g (member_of members a) (f a) m) (only g (member_of members a) (k a) m)) (λ a l. only-add (member_of members a) m (f a) (k a)) in
      let q = sum-add g w n (λ a. only g (member_of members a) (f a) m) (λ a. only g (member_of members a) (k a) m) in
      let r = sum_seat members n e.long m e.figure h.0 in
      let s = sum_seat members n e.short m (g.neg e.figure) h.1 in
      cc

  seated : (members : List ℕ) (n m : ℕ) (es : List (Entry F)) → AllByRecursion (Within n) es →
      sum_below g n (λ a. only g (member_of members a) (net_of g es a) m) ≡ net_of g (map (between_members members) es) m
  seated members n m [] h = sum_same g n (λ a. only g (member_of members a) g.none m) (λ _. g.none) (λ a l. only_none (member_of members a) m) ∙ sum-none g w n
  seated members n m (e ∷ es) h =
      let p = sum_same g n (λ a. only g (member_of members a) (net_of g (e ∷ es) a) m) (λ a. g.add (only g (member_of members a) (share_of g e a) m) (only g (member_of members a) (net_of g es a) m)) (λ a l. only-add (member_of members a) m (share_of g e a) (net_of g es a)) in
      let q = sum-add g w n (λ a. only g (member_of members a) (share_of g e a) m) (λ a. only g (member_of members a) (net_of g es a) m) in
      let r = sum_share_seat members n m e h.0 in
      let s = seated members n m es h.1 in
      cc

  pub members_between : (members : List ℕ) (es : List (Entry F)) (m : ℕ) → AllByRecursion (Within (length members)) es → member_net g members (net_of g es) m ≡ net_of g (map (between_members members) es) m
  members_between members es m h = seated members (length members) m es h

  all_seated : (members : List ℕ) (n k : ℕ) (es : List (Entry F)) → ((a : ℕ) → a < n → member_of members a < k) → AllByRecursion (Within n) es → AllByRecursion (Within k) (map (between_members members) es)
  all_seated members n k [] below h = tt
  all_seated members n k (e ∷ es) below h = ((below e.long h.0.0, below e.short h.0.1), all_seated members n k es below h.1)

  pub members-balanced : (k : ℕ) (members : List ℕ) (es : List (Entry F)) → ((a : ℕ) → a < length members → member_of members a < k) →
      AllByRecursion (Within (length members)) es → sum_below g k (member_net g members (net_of g es)) ≡ g.none
  members-balanced k members es below h =
      sum_same g k (member_net g members (net_of g es)) (net_of g (map (between_members members) es)) (λ m l. members_between members es m h)
      ∙ balanced g w k (map (between_members members) es) (all_seated members (length members) k es below h)
