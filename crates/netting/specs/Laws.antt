-- What netting promises of any figure.
use Rattle.std.specs.Prelude.{◌≡◌, ℕ, ◌<◌, ◌≤◌, List, map, length, filter}
use Rattle.std.specs.List.Sorted.{IsPermutation}
use Rattle.std.specs.List.{AllByRecursion}
use Rattle.netting.specs.Group.{Group}
use Rattle.netting.specs.Nets.{net_of, sum_below, member_of, member_net, weight, Within, names, between_members}
use Rattle.netting.specs.declared.nets.Entry.{Entry}

pub record NettingLaws {F : Type 0} (g : Group F) : Type 0 where
  -- what one account gains another loses: the nets of all accounts come to nothing
  pub balanced : (n : ℕ) (es : List (Entry F)) → AllByRecursion (Within n) es → sum_below g n (net_of g es) ≡ g.none
  -- the order of the entries does not matter
  pub any_order : (es fs : List (Entry F)) (a : ℕ) → IsPermutation es fs → net_of g fs a ≡ net_of g es a
  -- entries that name other accounts do not matter
  pub others_out : (es : List (Entry F)) (a : ℕ) → net_of g (filter (names a) es) a ≡ net_of g es a
  -- a net is no larger than the figures together
  pub bounded : (es : List (Entry F)) (a : ℕ) → g.size (net_of g es a) ≤ weight g es
  -- a member's net is what the entries come to between members
  pub members_between : (members : List ℕ) (es : List (Entry F)) (m : ℕ) → AllByRecursion (Within (length members)) es →
      member_net g members (net_of g es) m ≡ net_of g (map (between_members members) es) m
  -- the nets of all members come to nothing
  pub members-balanced : (k : ℕ) (members : List ℕ) (es : List (Entry F)) → ((a : ℕ) → a < length members → member_of members a < k) →
      AllByRecursion (Within (length members)) es → sum_below g k (member_net g members (net_of g es)) ≡ g.none
