-- What is left of a line, and what is drawn on it.
use Rattle.std.specs.Prelude.{◌≡◌, ℕ, zero, suc, ◌+◌, ◌-◌, ◌<◌, ◌≤◌, List, [], ◌∷◌, map, length, pos, ◌+ℤ◌, neg_ℤ, slice_index, slice_set, refl}
use Rattle.std.proofs.Common.{ap, set, inl, inr, ◌∙◌, arith}
use Rattle.std.proofs.lemmas.Bool.{cases_lt}
use Rattle.std.proofs.lemmas.List.{ext_get_or, get_or-map, get_or_past, map-set, length-map}
use Rattle.std.proofs.lemmas.Int.{ints}
use Rattle.ledger.specs.declared.line.Line.{Line}
use Rattle.ledger.specs.Funds.{Whole, fund_limit}
use Rattle.ledger.specs.Drawing.{Fair, left_of}
use Rattle.ledger.specs.Lines.{left, undrawn, WithinFund, undrawn_lines, Undrawn, Untouched, DrawnBy, line_at, no_limit}
-- nothing drawn is fair
pub use Rattle.ledger.specs.Drawing.{undrawn-fair}

-- a member's fund is what is left of its line
pub fund-left : (ls : List Line) (m : ℕ) → length ls ≡ 32 → m < 32 → slice_index (map left ls) m ≡ left (line_at ls m)
fund-left ls m wide h = get_or-map left ls m (undrawn 0 no_limit) 0 (omega arith)

-- a limit at a place is a fund's size at most, and past the last one 0
abbrev pub limit_at : (xs : List ℕ) → WithinFund xs → (k : ℕ) → slice_index xs k ≤ fund_limit
limit_at [] h k = no_limit
limit_at (x ∷ xs) h zero = h.0
limit_at (x ∷ xs) h (suc k) = limit_at xs h.1 k

-- lines with nothing drawn leave just themselves
pub undrawn_at : (xs : List ℕ) (h : WithinFund xs) (k : ℕ) → line_at (undrawn_lines xs h) k ≡ undrawn (slice_index xs k) (limit_at xs h k)
undrawn_at [] h k = refl
undrawn_at (x ∷ xs) h zero = refl
undrawn_at (x ∷ xs) h (suc k) = undrawn_at xs h.1 k

pub undrawn-left : (xs : List ℕ) (h : WithinFund xs) → map left (undrawn_lines xs h) ≡ xs
undrawn-left [] h = refl
undrawn-left (x ∷ xs) h = let here : left (undrawn x h.0) ≡ x = omega (arith, ints) in ap (λ y. y ∷ map left (undrawn_lines xs h.1)) here ∙ ap (λ ys. x ∷ ys) (undrawn-left xs h.1)

pub undrawn-each : (xs : List ℕ) (h : WithinFund xs) (k : ℕ) → (line_at (undrawn_lines xs h) k).drawn ≡ pos 0
undrawn-each xs h k = ap (λ l. l.drawn) (undrawn_at xs h k)

-- with nothing drawn just the limits are left, whatever they are
pub undrawn_left_of : (xs : List ℕ) → map (λ x. left_of x (pos 0)) xs ≡ xs
undrawn_left_of [] = refl
undrawn_left_of (x ∷ xs) = let here : left_of x (pos 0) ≡ x = omega (arith, ints) in ap (λ y. y ∷ map (λ z. left_of z (pos 0)) xs) here ∙ ap (λ ys. x ∷ ys) (undrawn_left_of xs)

-- the lines that a book is opened with, of whatever limits: they leave just these, and are untouched
pub undrawn_leave : (xs : List ℕ) (ls : List Line) → Undrawn xs ls → map left ls ≡ xs
undrawn_leave xs ls u =
    let none = undrawn 0 no_limit in
    ext_get_or 0 (map left ls) xs (length-map ls left ∙ u.0) (λ k h. let w : k < length xs = omega (arith, length-map ls left, u.0) in let l = (u.1 k w).0 in let d = (u.1 k w).1 in get_or-map left ls k none 0 (omega (arith, u.0)) ∙ omega (arith, ints))

pub undrawn_untouched : (xs : List ℕ) (ls : List Line) → Undrawn xs ls → Untouched ls
undrawn_untouched xs ls u = λ k. elim (cases_lt k (length xs)) [ inl h ↦ (u.1 k h).1 | inr h ↦ ap (λ l. l.drawn) (get_or_past ls k (undrawn 0 no_limit) (omega (arith, u.0))) ]

-- what is left of each line is a fund's size at most, so lines make funds within their limits
pub each_left : (ls : List Line) → length ls ≡ 32 → (k : ℕ) → k < 32 → slice_index (map left ls) k ≤ fund_limit
each_left ls wide k h = let e = fund-left ls k wide h in let f = (line_at ls k).fair.2 in omega arith

pub fair_whole : (ls : List Line) (house : ℕ) → length ls ≡ 32 → house ≤ fund_limit → Whole (record { members = map left ls; house = house })
fair_whole ls house wide low = (length-map ls left ∙ wide, each_left ls wide, low)

-- an amount that is left may be drawn, and one for which there is room paid back
pub drawn_left : (l l' : Line) (a : ℕ) → a ≤ left l → DrawnBy l (pos a) l' → left l' ≡ left l - a
drawn_left l l' a covered by = let fair = l.fair.1 in let limit = by.0 in let drawn = by.1 in omega (arith, ints)

pub drawn_fair : (l : Line) (a : ℕ) → a ≤ left l → Fair l.limit (l.drawn +ℤ pos a)
drawn_fair l a covered = let d = l.fair.1 in let c = l.fair.2 in (l.fair.0, omega (arith, ints), omega (arith, ints))

pub repaid_left : (l l' : Line) (a : ℕ) → DrawnBy l (neg_ℤ (pos a)) l' → left l' ≡ left l + a
repaid_left l l' a by = let fair = l.fair.1 in let limit = by.0 in let drawn = by.1 in omega (arith, ints)

pub repaid_fair : (l : Line) (a : ℕ) → left l + a ≤ fund_limit → Fair l.limit (l.drawn +ℤ neg_ℤ (pos a))
repaid_fair l a space = let d = l.fair.1 in (l.fair.0, omega (arith, ints), omega (arith, ints))

-- the funds after the line at a place was written, by what is left of it
pub funds_put : (ls ls' : List Line) (m : ℕ) (l : Line) (x : ℕ) → ls' ≡ slice_set ls m l → left l ≡ x → map left ls' ≡ slice_set (map left ls) m x
funds_put ls ls' m l x lines e = ap (map left) lines ∙ map-set left ls m l ∙ ap (set (map left ls) m) e
