-- A swap that is accepted is as a live swap should be.
use Rattle.std.proofs.Common.{◌≡◌, ℕ, ◌+◌, ◌<◌, ◌≤◌, true, not, eqb, ltb, length, ℤ, Ok, refl, subst, arith}
use Rattle.std.proofs.lemmas.Bool.Decides.{nat_tests}
use Rattle.refusal.specs.declared.Refusal.TheVariants.{OutOfRange, SameAccount, Session, BookFull, NumbersUsedUp}
use Rattle.refusal.specs.Checks.{check, count_of}
use Rattle.refusal.proofs.Then.{then_ok, into_ok, count_ok, check_passed}
use Rattle.coupons.specs.declared.lines.Terms.{Terms}
use Rattle.book.specs.declared.calls.Offer.{Offer}
use Rattle.swaps.specs.declared.swap.Swap.{Swap}
use Rattle.swaps.specs.declared.state.State.TheVariants.{Plain}
use Rattle.swaps.specs.Swaps.{Between, Limited, Due, Modest, nominal}
use Rattle.swaps.specs.Limits.{terms_of, amount_of}
use Rattle.book.specs.Reading.{Reading}
use Rattle.book.specs.Calls.{parties, figures_of, offered}
use Rattle.swaps.proofs.Figures.{terms_ok, amount_ok}

apart : (a b : ℕ) → not (eqb a b) ≡ true → a ≡ b → ⊥
apart a b e h = grind (arith, nat_tests)

parties_ok : (accounts : ℕ) (long short : ℤ) (p : ℕ × ℕ) → parties accounts long short ≡ Ok p → (p.0 < accounts) × (p.1 < accounts) × (p.0 ≡ p.1 → ⊥)
parties_ok accounts long short p e =
    let l = into_ok (count_of 0 accounts long OutOfRange) _ p e in
    let s = into_ok (count_of 0 accounts short OutOfRange) _ p l.2 in
    let d = then_ok (check (not (eqb l.0 s.0)) SameAccount) (Ok (l.0, s.0)) p s.2 in
    let a = (count_ok 0 accounts long OutOfRange l.0 l.1).1 in
    let b = (count_ok 0 accounts short OutOfRange s.0 s.1).1 in
    let ne = apart l.0 s.0 (check_passed _ SameAccount d.0) in
    let same : ◌≡◌ {A = ℕ × ℕ} (l.0, s.0) p = let z = d.1 in cc in
    subst (λ (q : ℕ × ℕ). (q.0 < accounts) × (q.1 < accounts) × (q.0 ≡ q.1 → ⊥)) same (a, b, ne)

figures_ok : (o : Offer) (current : ℕ) (f : Terms × ℤ × ℕ) → figures_of o current ≡ Ok f → (nominal f.0 ≡ true) × Modest f.1 × (current ≤ f.2) × (f.2 ≤ 100000)
figures_ok o current f e =
    let t = into_ok (terms_of o.kind o.millions o.thousands) _ f e in
    let n = into_ok (amount_of o.npv) _ f t.2 in
    let m = into_ok (count_of current 100001 o.maturity Session) _ f n.2 in
    let a = terms_ok o.kind o.millions o.thousands t.0 t.1 in
    let b = (amount_ok o.npv n.0 n.1).0 in
    let c = count_ok current 100001 o.maturity Session m.0 m.1 in
    let high = c.1 in
    let same : ◌≡◌ {A = Terms × ℤ × ℕ} (t.0, n.0, m.0) f = let z = m.2 in cc in
    subst (λ (g : Terms × ℤ × ℕ). (nominal g.0 ≡ true) × Modest g.1 × (current ≤ g.2) × (g.2 ≤ 100000)) same (a, b, c.0, omega arith)

pub record Accepted (b : Reading) (s : Swap) : Type 0 where
  pub between : Between (length b.accounts) s
  pub limited : Limited s
  pub due : Due b.closed s
  pub next : s.number ≡ b.given + 1
  pub left : b.given < 1000000
  pub room : length b.swaps < 256

pub offered_ok : (b : Reading) (o : Offer) (s : Swap) → offered b o ≡ Ok s → Accepted b s
offered_ok b o s e =
    let g = then_ok (check (ltb b.given 1000000) NumbersUsedUp) _ s e in
    let p = into_ok (parties (length b.accounts) o.long o.short) _ s g.1 in
    let f = into_ok (figures_of o (b.closed + 1)) _ s p.2 in
    let r = then_ok (check (ltb (length b.swaps) 256) BookFull) _ s f.2 in
    let left : ltb b.given 1000000 ≡ true = check_passed _ NumbersUsedUp g.0 in
    let room : ltb (length b.swaps) 256 ≡ true = check_passed _ BookFull r.0 in
    let facts = figures_ok o (b.closed + 1) f.0 f.1 in
    let made : Swap = record { number = b.given + 1; long = p.0.0; short = p.0.1; terms = f.0.0; npv = f.0.1; registered = b.closed + 1; maturity = f.0.2; state = Plain } in
    let same : made ≡ s = let z = r.1 in cc in
    let later = facts.2 in
    subst (Accepted b) same (record {
      between = parties_ok (length b.accounts) o.long o.short p.0 p.1;
      limited = (facts.0, facts.1);
      due = (omega arith, facts.3, refl);
      next = refl;
      left = grind (arith, nat_tests);
      room = grind (arith, nat_tests);
    })
