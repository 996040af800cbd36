-- What figures that passed their checks tell.
use Rattle.std.proofs.Common.{◌≡◌, ℕ, ◌≤◌, Bool, true, ◌&&◌, ℤ, pos, neg_ℤ, nat_abs, is_ok, Ok, sym, subst, arith}
use Rattle.std.proofs.lemmas.Int.{ints}
use Rattle.refusal.specs.declared.Refusal.TheVariants.{Nominal, Amount}
use Rattle.refusal.specs.Checks.{within, check}
use Rattle.refusal.proofs.Within.{within_low, within_high}
use Rattle.refusal.proofs.Then.{check_passed, then_ok, into_ok}
use Rattle.coupons.specs.declared.legs.Kind.{Kind}
use Rattle.coupons.specs.declared.legs.Kind.TheVariants.{Irs, Ois, CrossCurrency}
use Rattle.coupons.specs.declared.lines.Terms.{Terms}
use Rattle.swaps.specs.Swaps.{Modest, dollars, nominal}
use Rattle.coupons.specs.Legs.{kind_of}
use Rattle.swaps.specs.Limits.{amount_of, dollars_check, terms_of}

pub modest_within : (x : ℤ) → within (neg_ℤ (pos 10000000000000)) (pos 10000000000000) x ≡ true → Modest x
modest_within x e =
    let low = within_low (neg_ℤ (pos 10000000000000)) (pos 10000000000000) x e in
    let high = within_high (neg_ℤ (pos 10000000000000)) (pos 10000000000000) x e in
    omega (arith, ints)

pub dollars_passed : (kind : Kind) (k : ℤ) → true ≡ is_ok (dollars_check kind k) → dollars kind k ≡ true
dollars_passed Irs k e = check_passed _ Nominal e
dollars_passed Ois k e = check_passed _ Nominal e
dollars_passed CrossCurrency k e = check_passed _ Nominal e

both : (a b : Bool) → a ≡ true → b ≡ true → (a && b) ≡ true
both a b p q = cc

pub amount_ok : (x y : ℤ) → amount_of x ≡ Ok y → Modest y × (y ≡ x)
amount_ok x y e =
    let p = then_ok (check (within (neg_ℤ (pos 10000000000000)) (pos 10000000000000) x) Amount) (Ok x) y e in
    let w = modest_within x (check_passed _ Amount p.0) in
    let same : y ≡ x = let q = p.1 in cc in
    (subst (λ z. nat_abs z ≤ 10000000000000) (sym same) w, same)

pub terms_ok : (letter : ℕ) (n k : ℤ) (t : Terms) → terms_of letter n k ≡ Ok t → nominal t ≡ true
terms_ok letter n k t e =
    let p = into_ok (kind_of letter) _ t e in
    let q = then_ok (check (within (pos 1) (pos 100000) n) Nominal) _ t p.2 in
    let r = then_ok (dollars_check p.0 k) _ t q.1 in
    let made : Terms = record { kind = p.0; millions = n; thousands = k } in
    let same : made ≡ t = let s = r.1 in cc in
    subst (λ z. nominal z ≡ true) same (both _ _ (check_passed _ Nominal q.0) (dollars_passed p.0 k r.0))
