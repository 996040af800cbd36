-- A member's line, what is drawn on it and what is left.
use Rattle.std.specs.Prelude.{◌≡◌, ℕ, ◌<◌, ◌≤◌, List, [], ◌∷◌, length, ℤ, pos, ◌+ℤ◌, slice_index, slice_index_or}
use Rattle.std.specs.List.{AllByRecursion}
use Rattle.std.proofs.Common.{lit≤}
use Rattle.ledger.specs.declared.line.Line.{Line}
use Rattle.ledger.specs.Funds.{fund_limit}
use Rattle.ledger.specs.Drawing.{left_of, undrawn-fair}

-- what a member may still draw
abbrev pub left : Line → ℕ
left l = left_of l.limit l.drawn

-- a line with nothing drawn
abbrev pub undrawn : (limit : ℕ) → limit ≤ fund_limit → Line
undrawn limit h = record { limit = limit; drawn = pos 0; fair = undrawn-fair limit h }

-- limits that are a fund's size at most, and their lines with nothing drawn
abbrev pub WithinFund : List ℕ → Type 0
WithinFund xs = AllByRecursion (λ x. x ≤ fund_limit) xs

abbrev pub undrawn_lines : (xs : List ℕ) → WithinFund xs → List Line
undrawn_lines [] h = []
undrawn_lines (x ∷ xs) h = undrawn x h.0 ∷ undrawn_lines xs h.1

-- a line, and the same with so much more drawn on it, or less where that is below 0; the line itself stays
abbrev pub DrawnBy : Line → ℤ → Line → Type 0
DrawnBy l by l' = (l'.limit ≡ l.limit) × (l'.drawn ≡ l.drawn +ℤ by)

-- no line at all
pub no_limit : 0 ≤ fund_limit
no_limit = lit≤ tt

-- the line at a member's place
abbrev pub line_at : List Line → ℕ → Line
line_at ls m = slice_index_or ls m (undrawn 0 no_limit)

-- lines that have these limits, and of which nothing is drawn
abbrev pub Undrawn : List ℕ → List Line → Type 0
Undrawn xs ls = (length ls ≡ length xs) × ((k : ℕ) → k < length xs → ((line_at ls k).limit ≡ slice_index xs k) × ((line_at ls k).drawn ≡ pos 0))

-- nothing is drawn on any line
abbrev pub Untouched : List Line → Type 0
Untouched ls = (k : ℕ) → (line_at ls k).drawn ≡ pos 0
