-- The laws of postings, figure by figure.
use Rattle.std.specs.Prelude.{◌≡◌, ℤ, refl}
use Rattle.std.proofs.Common.{sym, ap, ◌∙◌, arith}
use Rattle.std.proofs.lemmas.Int.{ints}
use Rattle.netting.specs.Group.{Lawful, Additive}
use Rattle.netting.specs.Whole.{wholes}
use Rattle.netting.specs.Nets.{net_of, member_net}
use Rattle.netting.specs.Wholes.{wholes_lawful}
use Rattle.netting.proofs.Sums.{balanced, sum_same}
use Rattle.netting.proofs.Membership.{members-balanced}
use Rattle.netting.proofs.Additive.{sum_read, member_read}
use Rattle.postings.specs.Postings.{posted, postings, centavos}
use Rattle.postings.specs.Laws.{PostingLaws, account_net}

pub five : {a b c d e a' b' c' d' e' : ℤ} → a ≡ a' → b ≡ b' → c ≡ c' → d ≡ d' → e ≡ e' → posted a b c d e ≡ posted a' b' c' d' e'
five p q r s t = cc

pub postings_lawful : Lawful postings
postings_lawful = let w = wholes_lawful in record {
  add_none = λ x. five (w.add_none x.variation) (w.add_none x.alignment) (w.add_none x.coupons) (w.add_none x.payment) (w.add_none x.exchange);
  add_comm = λ x y. five (w.add_comm x.variation y.variation) (w.add_comm x.alignment y.alignment) (w.add_comm x.coupons y.coupons) (w.add_comm x.payment y.payment) (w.add_comm x.exchange y.exchange);
  add_assoc = λ x y z. five (w.add_assoc x.variation y.variation z.variation) (w.add_assoc x.alignment y.alignment z.alignment) (w.add_assoc x.coupons y.coupons z.coupons) (w.add_assoc x.payment y.payment z.payment) (w.add_assoc x.exchange y.exchange z.exchange);
  add-neg = λ x. five (w.add-neg x.variation) (w.add-neg x.alignment) (w.add-neg x.coupons) (w.add-neg x.payment) (w.add-neg x.exchange);
  size_none = refl;
  size-add = λ x y.
      let a = w.size-add x.variation y.variation in
      let b = w.size-add x.alignment y.alignment in
      let c = w.size-add x.coupons y.coupons in
      let d = w.size-add x.payment y.payment in
      let e = w.size-add x.exchange y.exchange in
      omega arith;
  size-neg = λ x.
      let a = w.size-neg x.variation in
      let b = w.size-neg x.alignment in
      let c = w.size-neg x.coupons in
      let d = w.size-neg x.payment in
      let e = w.size-neg x.exchange in
      omega arith;
}

pub centavos-additive : Additive postings wholes centavos
centavos-additive = record {
  of_none = refl;
  of_add = λ x y. omega (arith, ints);
  of_neg = λ x. omega (arith, ints);
}

pub posting_laws : PostingLaws
posting_laws = record {
  additive = centavos-additive;
  bounded = λ x. omega (arith, ints);
  accounts-balanced = λ n es h. sym (sum_read postings wholes centavos centavos-additive n (net_of postings es)) ∙ ap centavos (balanced postings postings_lawful n es h);
  members-add = λ members es m. member_read postings wholes centavos centavos-additive members (net_of postings es) m;
  members-balanced = λ k members es below h.
      sum_same wholes k (member_net wholes members (account_net es)) (λ m. centavos (member_net postings members (net_of postings es) m)) (λ m l. sym (member_read postings wholes centavos centavos-additive members (net_of postings es) m))
      ∙ sym (sum_read postings wholes centavos centavos-additive k (member_net postings members (net_of postings es)))
      ∙ ap centavos (members-balanced postings postings_lawful k members es below h);
}
