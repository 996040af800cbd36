-- What the nets of postings promise, in centavos.
use Rattle.std.specs.Prelude.{◌≡◌, ℕ, ◌<◌, ◌≤◌, List, length, ℤ, pos, unsigned_abs}
use Rattle.std.specs.List.{AllByRecursion}
use Rattle.netting.specs.Group.{Additive}
use Rattle.netting.specs.Whole.{wholes}
use Rattle.netting.specs.Nets.{net_of, sum_below, member_of, member_net, Within}
use Rattle.netting.specs.declared.nets.Entry.{Entry}
use Rattle.postings.specs.declared.posting.Posting.{Posting}
use Rattle.postings.specs.Postings.{postings, centavos}

-- the centavos of an account
abbrev pub account_net : List (Entry Posting) → ℕ → ℤ
account_net es a = centavos (net_of postings es a)

pub record PostingLaws : Type 0 where
  -- the centavos of a sum are the sum of the centavos, and those of an opposite the opposite
  pub additive : Additive postings wholes centavos
  -- a posting comes to no more than its figures together
  pub bounded : (x : Posting) → unsigned_abs (centavos x) ≤ postings.size x
  -- what one account gains another loses
  pub accounts-balanced : (n : ℕ) (es : List (Entry Posting)) → AllByRecursion (Within n) es → sum_below wholes n (account_net es) ≡ pos 0
  -- the centavos of a member's statements together are the nets of its accounts together
  pub members-add : (members : List ℕ) (es : List (Entry Posting)) (m : ℕ) → centavos (member_net postings members (net_of postings es) m) ≡ member_net wholes members (account_net es) m
  -- what one member gains another loses
  pub members-balanced : (k : ℕ) (members : List ℕ) (es : List (Entry Posting)) → ((a : ℕ) → a < length members → member_of members a < k) →
      AllByRecursion (Within (length members)) es → sum_below wholes k (member_net wholes members (account_net es)) ≡ pos 0
