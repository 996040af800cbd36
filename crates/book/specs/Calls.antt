-- What the calls of a book answer, and what it holds then.
use Rattle.std.specs.Prelude.{ℕ, ◌+◌, cond, not, List, [], ◌∷◌, ◌++◌, length, ℤ, Some, None, Ok, Err, Option, Result, ◌==◌, nat_lt, slice_index_or, slice_set}
use Rattle.refusal.specs.declared.Refusal.{Refusal}
use Rattle.refusal.specs.declared.Refusal.TheVariants.{OutOfRange, SameAccount, Session, BookFull, NoSuchSwap, JustRegistered, NumbersUsedUp}
use Rattle.refusal.specs.Checks.{check, ◌then◌, ◌into◌, count_of}
use Rattle.coupons.specs.declared.lines.Terms.{Terms}
use Rattle.book.specs.declared.calls.Offer.{Offer}
use Rattle.book.specs.declared.words.Request.{Request}
use Rattle.book.specs.declared.words.Reply.{Reply}
use Rattle.swaps.specs.declared.state.State.{State}
use Rattle.swaps.specs.declared.state.State.TheVariants.{Plain}
use Rattle.swaps.specs.declared.state.Event.{Event}
use Rattle.swaps.specs.declared.state.Event.TheVariants.{Ask, Yes, No}
use Rattle.swaps.specs.declared.swap.Swap.{Swap}
use Rattle.swaps.specs.States.{after_event}
use Rattle.swaps.specs.Swaps.{blank, party}
use Rattle.swaps.specs.Limits.{amount_of, terms_of}
use Rattle.book.specs.Reading.{Reading}

-- what an answer does to a book: a refusal does nothing
abbrev pub after : {X E : Type 0} → Result X E → Reading → (X → Reading) → Reading
after (Ok x) b next = next x
after (Err e) b next = b

abbrev pub answered : {X Y E : Type 0} → Result X E → (X → Y) → Result Y E
answered (Ok x) f = Ok (f x)
answered (Err e) f = Err e

abbrev pub parties : ℕ → ℤ → ℤ → Result (ℕ × ℕ) Refusal
parties accounts long short =
    count_of 0 accounts long OutOfRange into λ l.
    count_of 0 accounts short OutOfRange into λ s.
    check (not (l == s)) SameAccount then
    Ok (l, s)

-- kind and nominals, NPV, and a maturity from the current session on
abbrev pub figures_of : Offer → ℕ → Result (Terms × ℤ × ℕ) Refusal
figures_of o current =
    terms_of o.kind o.millions o.thousands into λ terms.
    amount_of o.npv into λ npv.
    count_of current 100001 o.maturity Session into λ maturity.
    Ok (terms, npv, maturity)

-- the swap that is accepted
abbrev pub offered : Reading → Offer → Result Swap Refusal
offered b o =
    check (nat_lt b.given 1000000) NumbersUsedUp then
    parties (length b.accounts) o.long o.short into λ p.
    figures_of o (b.closed + 1) into λ f.
    check (nat_lt (length b.swaps) 256) BookFull then
    Ok (record { number = b.given + 1; long = p.0; short = p.1; terms = f.0; npv = f.1; registered = b.closed + 1; maturity = f.2; state = Plain })

-- the book with one swap more
abbrev pub taken : Reading → Swap → Reading
taken b s = record { members = b.members; accounts = b.accounts; closed = b.closed; given = s.number; swaps = b.swaps ++ s ∷ [] }

-- the place of the swap of that number, counted from i
abbrev pub place_from : ℕ → ℕ → List Swap → Result ℕ Refusal
place_from i n [] = Err NoSuchSwap
place_from i n (s ∷ ss) = cond (s.number == n) (Ok i) (place_from (i + 1) n ss)

abbrev pub found : Reading → ℤ → Result ℕ Refusal
found b number = count_of 1 1000001 number NoSuchSwap into λ n. place_from 0 n b.swaps

-- what is asked of a swap: the session is at least two after the current one, and before maturity
abbrev pub ask_of : ℕ → ℕ → Swap → Request → Result Event Refusal
ask_of accounts closed s r =
    count_of 0 accounts r.account OutOfRange into λ by.
    amount_of r.payment into λ p.
    count_of (closed + 3) s.maturity r.session Session into λ t.
    party s by then
    check (not (s.registered == closed + 1)) JustRegistered then
    Ok (Ask by p t)

-- what is answered
abbrev pub answer_of : ℕ → Swap → Reply → Result Event Refusal
answer_of accounts s r =
    count_of 0 accounts r.account OutOfRange into λ by.
    party s by then
    Ok (cond r.agrees (Yes by) (No by))

-- the place of the swap that a party's word is about, and what it asks or answers
abbrev pub heard : {W : Type 0} → (W → ℤ) → (ℕ → ℕ → Swap → W → Result Event Refusal) → Reading → W → Result (ℕ × Event) Refusal
heard named event_of b w =
    found b (named w) into λ i.
    event_of (length b.accounts) b.closed (slice_index_or b.swaps i blank) w into λ e.
    Ok (i, e)

abbrev pub asking : Reading → Request → Result (ℕ × Event) Refusal
asking b r = heard (λ w. w.number) ask_of b r

abbrev pub answering : Reading → Reply → Result (ℕ × Event) Refusal
answering b r = heard (λ w. w.number) (λ accounts closed s w. answer_of accounts s w) b r

-- the state that it leaves of that swap
abbrev pub stepped : Reading → Result (ℕ × Event) Refusal → Result (ℕ × State) Refusal
stepped b r =
    r into λ q.
    after_event (slice_index_or b.swaps q.0 blank).state q.1 into λ state.
    Ok (q.0, state)

abbrev pub asked : Reading → Request → Result (ℕ × State) Refusal
asked b r = stepped b (asking b r)

abbrev pub replied : Reading → Reply → Result (ℕ × State) Refusal
replied b r = stepped b (answering b r)

abbrev pub with_state : Swap → State → Swap
with_state s state = record { number = s.number; long = s.long; short = s.short; terms = s.terms; npv = s.npv; registered = s.registered; maturity = s.maturity; state = state }

-- the list with that state at a place, unless it was refused
abbrev pub stated : List Swap → ℕ → Result State Refusal → List Swap
stated ss i (Ok state) = slice_set ss i (with_state (slice_index_or ss i blank) state)
stated ss i (Err e) = ss

-- the book with other swaps
abbrev pub with_swaps : Reading → List Swap → Reading
with_swaps b ss = record { members = b.members; accounts = b.accounts; closed = b.closed; given = b.given; swaps = ss }

-- the book with another state of the swap at a place
abbrev pub changed : Reading → (ℕ × State) → Reading
changed b q = with_swaps b (slice_set b.swaps q.0 (with_state (slice_index_or b.swaps q.0 blank) q.1))

-- the live swap of that number
abbrev pub swap_at : List Swap → Result ℕ Refusal → Option Swap
swap_at ss (Ok i) = Some (slice_index_or ss i blank)
swap_at ss (Err e) = None

abbrev pub swap_of : Reading → ℤ → Option Swap
swap_of b number = swap_at b.swaps (found b number)
