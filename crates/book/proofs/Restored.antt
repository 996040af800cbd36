-- After an ask and a no, the book is what it was.
use Rattle.std.proofs.Common.{◌≡◌, ℕ, zero, suc, ◌+◌, ◌<◌, false, cond, not, eqb, List, [], ◌∷◌, length, get_or, set, ℤ, Ok, Err, Result, sym, refl, ap, ◌∙◌, arith}
use Rattle.refusal.specs.declared.Refusal.{Refusal}
use Rattle.std.proofs.lemmas.List.{get_or-set_same, set-set, set-get_or, get_or_default}
use Rattle.refusal.specs.declared.Refusal.TheVariants.{OutOfRange, Session, NotParty, NoSuchSwap, JustRegistered}
use Rattle.refusal.specs.Checks.{check, count_of, ◌into◌}
use Rattle.refusal.proofs.Then.{then_ok, into_ok}
use Rattle.book.specs.declared.words.Request.{Request}
use Rattle.book.specs.declared.words.Reply.{Reply}
use Rattle.swaps.specs.declared.state.State.{State}
use Rattle.swaps.specs.declared.state.State.TheVariants.{Plain, Asked, Agreed}
use Rattle.swaps.specs.declared.state.Event.{Event}
use Rattle.swaps.specs.declared.state.Event.TheVariants.{Ask, Yes, No}
use Rattle.swaps.specs.declared.swap.Swap.{Swap}
use Rattle.swaps.specs.States.{after_event}
use Rattle.swaps.specs.Swaps.{blank, party}
use Rattle.swaps.specs.Limits.{amount_of}
use Rattle.book.specs.Reading.{Reading}
use Rattle.book.specs.Calls.{asked, replied, changed, with_state, with_swaps, place_from, found, ask_of, answer_of, asking, answering}
use Rattle.book.proofs.Events.{found_within}
use Rattle.book.proofs.Lawful.{stepped_ok, asking_ok, answering_ok}

-- only a plain swap takes an ask
ask_plain : (accounts closed : ℕ) (s : Swap) (r : Request) (e : Event) (st st' : State) → ask_of accounts closed s r ≡ Ok e → after_event st e ≡ Ok st' → st ≡ Plain
ask_plain accounts closed s r e st st' h g =
    let a = into_ok (count_of 0 accounts r.account OutOfRange) _ e h in
    let p = into_ok (amount_of r.payment) _ e a.2 in
    let t = into_ok (count_of (closed + 3) s.maturity r.session Session) _ e p.2 in
    let q = then_ok (party s a.0) _ e t.2 in
    let d = then_ok (check (not (eqb s.registered (closed + 1))) JustRegistered) _ e q.1 in
    let same : Ask a.0 p.0 t.0 ≡ e = let z = d.1 in cc in
    go st a.0 p.0 t.0 (ap (after_event st) same ∙ g)
  where
    go : (st : State) (by : ℕ) (p : ℤ) (t : ℕ) → after_event st (Ask by p t) ≡ Ok st' → st ≡ Plain
    go Plain by p t z = refl
    go (Asked x y w) by p t z = let never : ◌≡◌ {A = ℕ} 0 1 = cc in absurd (omega arith)
    go (Agreed x y) by p t z = let never : ◌≡◌ {A = ℕ} 0 1 = cc in absurd (omega arith)

-- a no leaves a plain swap
no_plain : (accounts : ℕ) (s : Swap) (r : Reply) (e : Event) (st st' : State) → r.agrees ≡ false → answer_of accounts s r ≡ Ok e → after_event st e ≡ Ok st' → st' ≡ Plain
no_plain accounts s r e st st' refuses h g =
    let a = into_ok (count_of 0 accounts r.account OutOfRange) _ e h in
    let q = then_ok (party s a.0) _ e a.2 in
    let same : cond r.agrees (Yes a.0) (No a.0) ≡ e = let z = q.1 in cc in
    let was : No a.0 ≡ e = sym (ap (λ y. cond y (Yes a.0) (No a.0)) refuses) ∙ same in
    go st a.0 (ap (after_event st) was ∙ g)
  where
    go : (st : State) (by : ℕ) → after_event st (No by) ≡ Ok st' → st' ≡ Plain
    go Plain by z = let never : ◌≡◌ {A = ℕ} 0 1 = cc in absurd (omega arith)
    go (Asked x y w) by z = let p = then_ok (check (not (eqb by x)) NotParty) (Ok Plain) st' z in let u = p.1 in cc
    go (Agreed x y) by z = let never : ◌≡◌ {A = ℕ} 0 1 = cc in absurd (omega arith)

-- another state does not move a swap
place_set : (j n : ℕ) (ss : List Swap) (i : ℕ) (s : Swap) → s.number ≡ (get_or ss i s).number → place_from j n (set ss i s) ≡ place_from j n ss
place_set j n [] i s e = refl
place_set j n (x ∷ ss) zero s e = ap (λ m. cond (eqb m n) (Ok j) (place_from (j + 1) n ss)) e
place_set j n (x ∷ ss) (suc i) s e = ap (λ r. cond (eqb x.number n) (Ok j) r) (place_set (j + 1) n ss i s e)

found-changed : (b : Reading) (q : ℕ × State) (number : ℤ) → q.0 < length b.swaps → found (changed b q) number ≡ found b number
found-changed b q number l =
    let s = with_state (get_or b.swaps q.0 blank) q.1 in
    let same = ap (λ x. x.number) (get_or_default b.swaps q.0 blank s l) in
    go (count_of 1 1000001 number NoSuchSwap) s same
  where
    go : (r : Result ℕ Refusal) (s : Swap) → s.number ≡ (get_or b.swaps q.0 s).number →
        (r into λ n. place_from 0 n (set b.swaps q.0 s)) ≡ (r into λ n. place_from 0 n b.swaps)
    go (Ok n) s e = place_set 0 n b.swaps q.0 s e
    go (Err x) s e = refl

back : (ss : List Swap) (i : ℕ) (st : State) → i < length ss → (get_or ss i blank).state ≡ Plain →
    set (set ss i (with_state (get_or ss i blank) st)) i (with_state (get_or (set ss i (with_state (get_or ss i blank) st)) i blank) Plain) ≡ ss
back ss i st l plain =
    let x = get_or ss i blank in
    let a = with_state x st in
    let there : get_or (set ss i a) i blank ≡ a = get_or-set_same ss i a blank l in
    ap (λ y. set (set ss i a) i (with_state y Plain)) there ∙ set-set ss i a (with_state x Plain) ∙ ap (λ y. set ss i (with_state x y)) (sym plain) ∙ set-get_or ss i blank

pub ask_then_no : (b : Reading) (r : Request) (p : Reply) (q z : ℕ × State) → asked b r ≡ Ok q → p.number ≡ r.number → p.agrees ≡ false → replied (changed b q) p ≡ Ok z → changed (changed b q) z ≡ b
ask_then_no b r p q z h same refuses g =
    let d = stepped_ok b (asking b r) q h in
    let a = asking_ok b r q.0 d.0 d.1 in
    let plain = ask_plain (length b.accounts) b.closed (get_or b.swaps q.0 blank) r d.0 (get_or b.swaps q.0 blank).state q.1 a.1 d.2 in
    let c = changed b q in
    let t = stepped_ok c (answering c p) z g in
    let n = answering_ok c p z.0 t.0 t.1 in
    let end = no_plain (length b.accounts) (get_or c.swaps z.0 blank) p t.0 (get_or c.swaps z.0 blank).state z.1 refuses n.1 t.2 in
    let within = found_within b r.number q.0 a.0 in
    let at : z.0 ≡ q.0 = let u = n.0 in let v = ap (found c) same in let w = found-changed b q r.number within in let y = a.0 in cc in
    let there = ap (λ i. changed c (i, z.1)) at in
    let ends = ap (λ st. changed c (q.0, st)) end in
    there ∙ ends ∙ ap (with_swaps b) (back b.swaps q.0 q.1 within plain)
