-- The laws of the book.
use Rattle.std.proofs.Common.{◌≡◌, ℕ, zero, suc, ◌+◌, ◌<◌, ◌≤◌, Bool, true, false, cond, eqb, List, [], ◌∷◌, ◌++◌, length, get_or, ℤ, pos, Ok, Err, Result, refl, ap, ◌∙◌, subst, arith}
use Rattle.std.proofs.lemmas.Bool.Decides.{nat_tests}
use Rattle.std.proofs.lemmas.List.{get_or-set_same, get_or-set_other, length-set}
use Rattle.refusal.specs.declared.Refusal.{Refusal}
use Rattle.refusal.specs.declared.Refusal.TheVariants.{NoSuchSwap}
use Rattle.refusal.specs.Checks.{count_of}
use Rattle.refusal.proofs.Then.{into_ok, count_ok}
use Rattle.book.specs.declared.book.Book.{Book}
use Rattle.book.specs.declared.words.Request.{Request}
use Rattle.book.specs.declared.words.Reply.{Reply}
use Rattle.swaps.specs.declared.state.State.{State}
use Rattle.swaps.specs.declared.state.Event.{Event}
use Rattle.swaps.specs.declared.swap.Swap.{Swap}
use Rattle.swaps.specs.States.{after_event}
use Rattle.swaps.specs.Swaps.{blank, rising}
use Rattle.book.specs.Reading.{Reading, reading}
use Rattle.book.specs.Calls.{offered, asked, replied, after, taken, changed, with_state, place_from, found, ask_of, answer_of, asking, answering, stepped}
use Rattle.book.specs.Laws.{Numbered, Call, accept, ask, answer, numbers_of, number_in, RisesFrom, OneChanged}
use Rattle.book.proofs.Accepted.{offered_ok}
use Rattle.book.proofs.Events.{place_within, found_within}

last : (low given : ℕ) (ss : List Swap) → rising low given ss ≡ true → low ≤ given
last low given [] r = grind (arith, nat_tests)
last low given (s ∷ ss) r =
    let rest : rising s.number given ss ≡ true = grind (arith, nat_tests) in
    let up : low < s.number = grind (arith, nat_tests) in
    let more = last s.number given ss rest in
    omega arith

above : (low given : ℕ) (ss : List Swap) → rising low given ss ≡ true → (k : ℕ) → k < length ss → (low < (get_or ss k blank).number) × ((get_or ss k blank).number ≤ given)
above low given [] r k l = absurd (omega arith)
above low given (s ∷ ss) r zero l =
    let rest : rising s.number given ss ≡ true = grind (arith, nat_tests) in
    let up : low < s.number = grind (arith, nat_tests) in
    (up, last s.number given ss rest)
above low given (s ∷ ss) r (suc k) l =
    let rest : rising s.number given ss ≡ true = grind (arith, nat_tests) in
    let up : low < s.number = grind (arith, nat_tests) in
    let more = above s.number given ss rest k (omega arith) in
    let a = more.0 in
    (omega arith, more.1)

rises : (low given : ℕ) (ss : List Swap) → rising low given ss ≡ true → (i j : ℕ) → i < j → j < length ss → (get_or ss i blank).number < (get_or ss j blank).number
rises low given [] r i j h l = absurd (omega arith)
rises low given (s ∷ ss) r i zero h l = absurd (omega arith)
rises low given (s ∷ ss) r zero (suc j) h l =
    let rest : rising s.number given ss ≡ true = grind (arith, nat_tests) in
    (above s.number given ss rest j (omega arith)).0
rises low given (s ∷ ss) r (suc i) (suc j) h l =
    let rest : rising s.number given ss ≡ true = grind (arith, nat_tests) in
    rises s.number given ss rest i j (omega arith) (omega arith)

pub numbered : (b : Book) → Numbered (reading b)
numbered b = record {
  rise = rises 0 b.given (reading b).swaps b.ordered;
  issued = λ k l. (above 0 b.given (reading b).swaps b.ordered k l).1;
}

-- what an ask or an answer leaves of the last number given
given-after : (b : Reading) (r : Result (ℕ × State) Refusal) → (after r b (changed b)).given ≡ b.given
given-after b (Ok q) = refl
given-after b (Err e) = refl

pub never_again : (b : Reading) (cs : List Call) → RisesFrom b.given (numbers_of b cs)
never_again b [] = tt
never_again b (accept o ∷ cs) = go (offered b o) refl (λ s. never_again (taken b s) cs) (never_again b cs)
  where
    go : (r : Result Swap Refusal) → offered b o ≡ r → ((s : Swap) → RisesFrom s.number (numbers_of (taken b s) cs)) → RisesFrom b.given (numbers_of b cs) → RisesFrom b.given (number_in r ++ numbers_of (after r b (taken b)) cs)
    go (Ok s) e granted refused = let next = (offered_ok b o s e).next in (omega arith, granted s)
    go (Err x) e granted refused = refused
never_again b (ask r ∷ cs) = subst (λ n. RisesFrom n (numbers_of (after (asked b r) b (changed b)) cs)) (given-after b (asked b r)) (never_again (after (asked b r) b (changed b)) cs)
never_again b (answer r ∷ cs) = subst (λ n. RisesFrom n (numbers_of (after (replied b r) b (changed b)) cs)) (given-after b (replied b r)) (never_again (after (replied b r) b (changed b)) cs)

-- the swap at the place that a number was found at has that number
place_number : (i n : ℕ) (ss : List Swap) (j : ℕ) → place_from i n ss ≡ Ok (i + j) → (get_or ss j blank).number ≡ n
place_number i n [] j e = let never : ◌≡◌ {A = ℕ} 0 1 = cc in absurd (omega arith)
place_number i n (s ∷ ss) j e = go (eqb s.number n) refl j e (λ k rest. place_number (i + 1) n ss k rest)
  where
    go : (b : Bool) → eqb s.number n ≡ b → (j : ℕ) → cond b (Ok i) (place_from (i + 1) n ss) ≡ Ok (i + j) → ((k : ℕ) → place_from (i + 1) n ss ≡ Ok (i + 1 + k) → (get_or ss k blank).number ≡ n) → (get_or (s ∷ ss) j blank).number ≡ n
    go true y zero h later = grind (arith, nat_tests)
    go true y (suc j) h later = let same : i ≡ i + suc j = cc in absurd (omega arith)
    go false y zero h later = let past = (place_within (i + 1) n ss (i + 0) h).0 in absurd (omega arith)
    go false y (suc j) h later = let step : i + suc j ≡ i + 1 + j = omega arith in later j (h ∙ ap Ok step)

found_number : (b : Reading) (number : ℤ) (i : ℕ) → found b number ≡ Ok i → pos (get_or b.swaps i blank).number ≡ number
found_number b number i e =
    let n = into_ok (count_of 1 1000001 number NoSuchSwap) _ i e in
    let figure = (count_ok 1 1000001 number NoSuchSwap n.0 n.1).2 in
    let from : i ≡ 0 + i = omega arith in
    let here = place_number 0 n.0 b.swaps i (n.2 ∙ ap Ok from) in
    ap pos here ∙ figure

one-changed : (b : Reading) (number : ℤ) (q : ℕ × State) → found b number ≡ Ok q.0 → OneChanged b number q
one-changed b number q e =
    let s = with_state (get_or b.swaps q.0 blank) q.1 in
    record {
      that = found_number b number q.0 e;
      its_state = get_or-set_same b.swaps q.0 s blank (found_within b number q.0 e);
      others = λ k ne. get_or-set_other b.swaps q.0 k s blank ne;
      as_many = length-set b.swaps q.0 s;
      members = refl;
      accounts = refl;
      closed = refl;
      given = refl;
    }

-- what a call that was granted found and did
abbrev pub Done : Reading → Result (ℕ × Event) Refusal → (ℕ × State) → Type 0
Done b x q = (e : Event) × (x ≡ Ok (q.0, e)) × (after_event (get_or b.swaps q.0 blank).state e ≡ Ok q.1)

pub stepped_ok : (b : Reading) (x : Result (ℕ × Event) Refusal) (q : ℕ × State) → stepped b x ≡ Ok q → Done b x q
stepped_ok b x q h =
    let e = into_ok x _ q h in
    let s = into_ok (after_event (get_or b.swaps e.0.0 blank).state e.0.1) _ q e.2 in
    let same : ◌≡◌ {A = ℕ × State} (e.0.0, s.0) q = let z = s.2 in cc in
    subst (Done b x) same (e.0.1, e.1, s.1)

pub asking_ok : (b : Reading) (r : Request) (i : ℕ) (ev : Event) → asking b r ≡ Ok (i, ev) → (found b r.number ≡ Ok i) × (ask_of (length b.accounts) b.closed (get_or b.swaps i blank) r ≡ Ok ev)
asking_ok b r i ev h =
    let f = into_ok (found b r.number) _ (i, ev) h in
    let a = into_ok (ask_of (length b.accounts) b.closed (get_or b.swaps f.0 blank) r) _ (i, ev) f.2 in
    let same : ◌≡◌ {A = ℕ × Event} (f.0, a.0) (i, ev) = let z = a.2 in cc in
    subst (λ (p : ℕ × Event). (found b r.number ≡ Ok p.0) × (ask_of (length b.accounts) b.closed (get_or b.swaps p.0 blank) r ≡ Ok p.1)) same (f.1, a.1)

pub answering_ok : (b : Reading) (r : Reply) (i : ℕ) (ev : Event) → answering b r ≡ Ok (i, ev) → (found b r.number ≡ Ok i) × (answer_of (length b.accounts) (get_or b.swaps i blank) r ≡ Ok ev)
answering_ok b r i ev h =
    let f = into_ok (found b r.number) _ (i, ev) h in
    let a = into_ok (answer_of (length b.accounts) (get_or b.swaps f.0 blank) r) _ (i, ev) f.2 in
    let same : ◌≡◌ {A = ℕ × Event} (f.0, a.0) (i, ev) = let z = a.2 in cc in
    subst (λ (p : ℕ × Event). (found b r.number ≡ Ok p.0) × (answer_of (length b.accounts) (get_or b.swaps p.0 blank) r ≡ Ok p.1)) same (f.1, a.1)

pub ask_one : (b : Reading) (r : Request) (q : ℕ × State) → asked b r ≡ Ok q → OneChanged b r.number q
ask_one b r q h = let d = stepped_ok b (asking b r) q h in one-changed b r.number q (asking_ok b r q.0 d.0 d.1).0

pub answer_one : (b : Reading) (r : Reply) (q : ℕ × State) → replied b r ≡ Ok q → OneChanged b r.number q
answer_one b r q h = let d = stepped_ok b (answering b r) q h in one-changed b r.number q (answering_ok b r q.0 d.0 d.1).0
