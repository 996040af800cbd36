-- Postings as figures that net, and what a posting comes to.
use Rattle.std.specs.Prelude.{◌+◌, ℤ, pos, ◌+ℤ◌, neg_ℤ, unsigned_abs}
use Rattle.netting.specs.Group.{Group}
use Rattle.postings.specs.declared.posting.Posting.{Posting}

abbrev pub posted : ℤ → ℤ → ℤ → ℤ → ℤ → Posting
posted v a c p e = record { variation = v; alignment = a; coupons = c; payment = p; exchange = e }

-- figure by figure
abbrev pub postings : Group Posting
postings = record {
  none = posted (pos 0) (pos 0) (pos 0) (pos 0) (pos 0);
  add = λ x y. posted (x.variation +ℤ y.variation) (x.alignment +ℤ y.alignment) (x.coupons +ℤ y.coupons) (x.payment +ℤ y.payment) (x.exchange +ℤ y.exchange);
  neg = λ x. posted (neg_ℤ x.variation) (neg_ℤ x.alignment) (neg_ℤ x.coupons) (neg_ℤ x.payment) (neg_ℤ x.exchange);
  size = λ x. unsigned_abs x.variation + unsigned_abs x.alignment + unsigned_abs x.coupons + unsigned_abs x.payment + unsigned_abs x.exchange;
}

-- the net of a posting or a statement: its five figures together
abbrev pub centavos : Posting → ℤ
centavos x = x.variation +ℤ x.alignment +ℤ x.coupons +ℤ x.payment +ℤ x.exchange
