-- What entries come to for each account and each member.
use Rattle.std.specs.Prelude.{ℕ, zero, suc, ◌<◌, Bool, cond, ◌||◌, List, [], ◌∷◌, length, sum_by, ◌==◌, slice_index}
use Rattle.netting.specs.Group.{Group}
use Rattle.netting.specs.declared.nets.Entry.{Entry}

-- x for the one that is meant, and nothing for another
abbrev pub only : {F : Type 0} → Group F → ℕ → F → ℕ → F
only g meant x a = cond (meant == a) x g.none

-- what an entry brings an account: its figure on the long side, the opposite on the short one
abbrev pub share_of : {F : Type 0} → Group F → Entry F → ℕ → F
share_of g e a = g.add (only g e.long e.figure a) (only g e.short (g.neg e.figure) a)

abbrev pub net_of : {F : Type 0} → Group F → List (Entry F) → ℕ → F
net_of g [] a = g.none
net_of g (e ∷ es) a = g.add (share_of g e a) (net_of g es a)

-- f of all accounts, or of all members, below n together
abbrev pub sum_below : {F : Type 0} → Group F → ℕ → (ℕ → F) → F
sum_below g zero f = g.none
sum_below g (suc n) f = g.add (f n) (sum_below g n f)

-- a list's figures together
abbrev pub together : {F : Type 0} → Group F → List F → F
together g [] = g.none
together g (x ∷ xs) = g.add x (together g xs)

-- the member of an account
abbrev pub member_of : List ℕ → ℕ → ℕ
member_of members a = slice_index members a

-- the nets of a member's accounts together
abbrev pub member_net : {F : Type 0} → Group F → List ℕ → (ℕ → F) → ℕ → F
member_net g members net m = sum_below g (length members) (λ a. only g (member_of members a) (net a) m)

-- the sizes of the entries' figures together
abbrev pub weight : {F : Type 0} → Group F → List (Entry F) → ℕ
weight g es = sum_by (λ e. g.size e.figure) es

-- the sizes of a list's figures together
abbrev pub weighed : {F : Type 0} → Group F → List F → ℕ
weighed g xs = sum_by g.size xs

-- both accounts of an entry are below n
abbrev pub Within : {F : Type 0} → ℕ → Entry F → Type 0
Within n e = (e.long < n) × (e.short < n)

-- an entry names an account
abbrev pub names : {F : Type 0} → ℕ → Entry F → Bool
names a e = e.long == a || e.short == a

-- the same entry between the members of its accounts
abbrev pub between_members : {F : Type 0} → List ℕ → Entry F → Entry F
between_members members e = record { long = member_of members e.long; short = member_of members e.short; figure = e.figure }

-- the same entry with its figure read by f
abbrev pub read_by : {F G : Type 0} → (F → G) → Entry F → Entry G
read_by f e = record { long = e.long; short = e.short; figure = f e.figure }
