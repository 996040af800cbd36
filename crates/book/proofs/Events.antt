-- What an ask or an answer finds, and what it keeps.
use Rattle.std.proofs.Common.{◌≡◌, ℕ, suc, ◌+◌, ◌<◌, ◌≤◌, Bool, true, false, cond, not, ◌&&◌, eqb, ltb, leb, List, [], ◌∷◌, length, get_or, ℤ, nat_abs, Ok, Err, Result, sym, refl, ap, subst, arith}
use Rattle.std.proofs.lemmas.Bool.Decides.{nat_tests}
use Rattle.std.proofs.lemmas.List.{get_or_default, length-set}
use Rattle.refusal.specs.declared.Refusal.{Refusal}
use Rattle.refusal.specs.declared.Refusal.TheVariants.{OutOfRange, Session, NoSuchSwap, NotParty, JustRegistered}
use Rattle.refusal.specs.Checks.{check, count_of}
use Rattle.refusal.proofs.Then.{then_ok, into_ok, count_ok}
use Rattle.book.specs.declared.words.Request.{Request}
use Rattle.book.specs.declared.words.Reply.{Reply}
use Rattle.swaps.specs.declared.state.State.{State}
use Rattle.swaps.specs.declared.state.State.TheVariants.{Plain, Asked, Agreed}
use Rattle.swaps.specs.declared.state.Event.{Event}
use Rattle.swaps.specs.declared.state.Event.TheVariants.{Ask, Yes, No}
use Rattle.swaps.specs.declared.swap.Swap.{Swap}
use Rattle.swaps.specs.States.{after_event}
use Rattle.swaps.specs.Swaps.{blank, Each, Between, Limited, Due, rising, timely, timely_event, party}
use Rattle.swaps.specs.Limits.{amount_of}
use Rattle.book.specs.Reading.{Reading}
use Rattle.book.specs.Calls.{place_from, found, ask_of, answer_of, asking, answering, stated, with_state}
use Rattle.swaps.proofs.Figures.{amount_ok}
use Rattle.book.proofs.Sound.{each_set, rising-set}

pub place_within : (i n : ℕ) (ss : List Swap) (j : ℕ) → place_from i n ss ≡ Ok j → (i ≤ j) × (j < i + length ss)
place_within i n [] j e = let never : ◌≡◌ {A = ℕ} 0 1 = cc in absurd (omega arith)
place_within i n (s ∷ ss) j e = go (eqb s.number n) e (λ rest. place_within (i + 1) n ss j rest)
  where
    go : (b : Bool) → cond b (Ok i) (place_from (i + 1) n ss) ≡ Ok j → (place_from (i + 1) n ss ≡ Ok j → (i + 1 ≤ j) × (j < i + 1 + length ss)) → (i ≤ j) × (j < i + suc (length ss))
    go true here later = let same : i ≡ j = cc in (omega arith, omega arith)
    go false rest later = let r = later rest in let a = r.0 in let b = r.1 in (omega arith, omega arith)

pub found_within : (b : Reading) (number : ℤ) (i : ℕ) → found b number ≡ Ok i → i < length b.swaps
found_within b number i e =
    let n = into_ok (count_of 1 1000001 number NoSuchSwap) _ i e in
    let l = (place_within 0 n.0 b.swaps i n.2).1 in
    omega arith

three : (p closed t maturity : ℕ) → p ≤ 10000000000000 → closed < t → t < maturity → (leb p 10000000000000 && (ltb closed t && ltb t maturity)) ≡ true
three p closed t maturity a b c = grind (arith, nat_tests)

ask-timely : (accounts closed : ℕ) (s : Swap) (r : Request) (e : Event) → ask_of accounts closed s r ≡ Ok e → timely_event closed s.maturity e ≡ true
ask-timely accounts closed s r e h =
    let a = into_ok (count_of 0 accounts r.account OutOfRange) _ e h in
    let p = into_ok (amount_of r.payment) _ e a.2 in
    let t = into_ok (count_of (closed + 3) s.maturity r.session Session) _ e p.2 in
    let q = then_ok (party s a.0) _ e t.2 in
    let d = then_ok (check (not (eqb s.registered (closed + 1))) JustRegistered) _ e q.1 in
    let same : Ask a.0 p.0 t.0 ≡ e = let z = d.1 in cc in
    let modest = (amount_ok r.payment p.0 p.1).0 in
    let bounds = count_ok (closed + 3) s.maturity r.session Session t.0 t.1 in
    let low = bounds.0 in
    subst (λ x. timely_event closed s.maturity x ≡ true) same (three (nat_abs p.0) closed t.0 s.maturity modest (omega arith) bounds.1)

answer-timely : (accounts closed : ℕ) (s : Swap) (r : Reply) (e : Event) → answer_of accounts s r ≡ Ok e → timely_event closed s.maturity e ≡ true
answer-timely accounts closed s r e h =
    let a = into_ok (count_of 0 accounts r.account OutOfRange) _ e h in
    let q = then_ok (party s a.0) _ e a.2 in
    let same : cond r.agrees (Yes a.0) (No a.0) ≡ e = let z = q.1 in cc in
    subst (λ x. timely_event closed s.maturity x ≡ true) same (go r.agrees a.0)
  where
    go : (b : Bool) (n : ℕ) → timely_event closed s.maturity (cond b (Yes n) (No n)) ≡ true
    go true n = refl
    go false n = refl

-- the swap is there, and what is asked or answered about it is in time
abbrev pub Ready : Reading → (ℕ × Event) → Type 0
Ready b q = (q.0 < length b.swaps) × (timely_event b.closed (get_or b.swaps q.0 blank).maturity q.1 ≡ true)

pub asking_ready : (b : Reading) (r : Request) (q : ℕ × Event) → asking b r ≡ Ok q → Ready b q
asking_ready b r q h =
    let i = into_ok (found b r.number) _ q h in
    let e = into_ok (ask_of (length b.accounts) b.closed (get_or b.swaps i.0 blank) r) _ q i.2 in
    let same : ◌≡◌ {A = ℕ × Event} (i.0, e.0) q = let z = e.2 in cc in
    subst (Ready b) same (found_within b r.number i.0 i.1, ask-timely (length b.accounts) b.closed (get_or b.swaps i.0 blank) r e.0 e.1)

pub answering_ready : (b : Reading) (r : Reply) (q : ℕ × Event) → answering b r ≡ Ok q → Ready b q
answering_ready b r q h =
    let i = into_ok (found b r.number) _ q h in
    let e = into_ok (answer_of (length b.accounts) (get_or b.swaps i.0 blank) r) _ q i.2 in
    let same : ◌≡◌ {A = ℕ × Event} (i.0, e.0) q = let z = e.2 in cc in
    subst (Ready b) same (found_within b r.number i.0 i.1, answer-timely (length b.accounts) b.closed (get_or b.swaps i.0 blank) r e.0 e.1)

-- an event in time leaves a state in time
event_timely : (closed maturity : ℕ) (st : State) (e : Event) (st' : State) → timely closed maturity st ≡ true → timely_event closed maturity e ≡ true → after_event st e ≡ Ok st' → timely closed maturity st' ≡ true
event_timely closed maturity Plain (Ask by p t) st' a b h = let same : Asked by p t ≡ st' = cc in subst (λ x. timely closed maturity x ≡ true) same b
event_timely closed maturity Plain (Yes by) st' a b h = let never : ◌≡◌ {A = ℕ} 0 1 = cc in absurd (omega arith)
event_timely closed maturity Plain (No by) st' a b h = let never : ◌≡◌ {A = ℕ} 0 1 = cc in absurd (omega arith)
event_timely closed maturity (Asked asker p t) (Ask by q u) st' a b h = let never : ◌≡◌ {A = ℕ} 0 1 = cc in absurd (omega arith)
event_timely closed maturity (Asked asker p t) (Yes by) st' a b h =
    let r = then_ok (check (not (eqb by asker)) NotParty) (Ok (Agreed p t)) st' h in
    let same : Agreed p t ≡ st' = let z = r.1 in cc in
    subst (λ x. timely closed maturity x ≡ true) same a
event_timely closed maturity (Asked asker p t) (No by) st' a b h =
    let r = then_ok (check (not (eqb by asker)) NotParty) (Ok Plain) st' h in
    let same : Plain ≡ st' = let z = r.1 in cc in
    subst (λ x. timely closed maturity x ≡ true) same refl
event_timely closed maturity (Agreed p t) (Ask by q u) st' a b h = let never : ◌≡◌ {A = ℕ} 0 1 = cc in absurd (omega arith)
event_timely closed maturity (Agreed p t) (Yes by) st' a b h = let never : ◌≡◌ {A = ℕ} 0 1 = cc in absurd (omega arith)
event_timely closed maturity (Agreed p t) (No by) st' a b h = let never : ◌≡◌ {A = ℕ} 0 1 = cc in absurd (omega arith)

-- what stays when one swap takes another state
pub record Steady (accounts closed given : ℕ) (ss ys : List Swap) : Type 0 where
  pub long : length ys ≡ length ss
  pub between : Each (Between accounts) ys
  pub limited : Each Limited ys
  pub due : Each (Due closed) ys
  pub ordered : rising 0 given ys ≡ true

pub steady : (accounts closed given : ℕ) (ss ys : List Swap) (i : ℕ) (e : Event) (r : Result State Refusal) → r ≡ after_event (get_or ss i blank).state e →
    Each (Between accounts) ss → Each Limited ss → Each (Due closed) ss → rising 0 given ss ≡ true → i < length ss → timely_event closed (get_or ss i blank).maturity e ≡ true → ys ≡ stated ss i r → Steady accounts closed given ss ys
steady accounts closed given ss ys i e (Ok st) is f g h o l t same =
    let s = with_state (get_or ss i blank) st in
    let d = h i l in
    rw same (record {
      long = length-set ss i s;
      between = each_set (Between accounts) ss i s f (f i l);
      limited = each_set Limited ss i s g (g i l);
      due = each_set (Due closed) ss i s h (d.0, d.1, event_timely closed (get_or ss i blank).maturity (get_or ss i blank).state e st d.2 t (sym is));
      ordered = rising-set 0 given ss i s o (ap (λ x. x.number) (get_or_default ss i blank s l));
    })
steady accounts closed given ss ys i e (Err x) is f g h o l t same = rw same (record { long = refl; between = f; limited = g; due = h; ordered = o })
