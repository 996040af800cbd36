-- How a sheet is read: each line by what was read before it.
use Rattle.std.specs.Prelude.{ℕ, ◌+◌, Bool, true, false, cond, List, [], ◌∷◌, ◌++◌, replicate, ℤ, pos, Some, None, Ok, Err, codes, Option, Result, ◌==◌, slice_set}
use Rattle.refusal.specs.declared.Fault.{Fault}
use Rattle.refusal.specs.declared.Refusal.TheVariants.{BadSheet}
use Rattle.refusal.specs.Refusals.{bare, on_line}
use Rattle.std.specs.Str.{bytes_eq}
use Rattle.sheet.specs.declared.reading.Next.{Next}
use Rattle.sheet.specs.declared.reading.Next.TheVariants.{Session, MemberOrEnd, SideOf, CentavosOf, Nothing}
use Rattle.sheet.specs.declared.reading.Reading.{Reading}
use Rattle.sheet.specs.declared.reading.Sheet.{Sheet}
use Rattle.sheet.specs.Numerals.{field, onward}
use Rattle.sheet.specs.declared.order.Side.{Side}
use Rattle.sheet.specs.declared.order.Side.TheVariants.{Charge, Credit}
use Rattle.sheet.specs.Orders.{net_of, orders, total, nil}
use Rattle.sheet.specs.Text.{side_line}

-- before the first line
unfoldable pub start : Reading
start = record { sheet = record { session = 0; nets = replicate 32 (pos 0) }; next = Session }

-- the side that a line tells
abbrev pub side : List ℕ → Option Side
side line = cond (bytes_eq line (side_line Charge)) (Some Charge) (cond (bytes_eq line (side_line Credit)) (Some Credit) None)

-- the last line: the count of the orders, whose charges and credits have the same sum
abbrev pub at_end : List ℤ → List ℕ → Option Next
at_end nets line = onward (field (codes "end=") (orders nets) (orders nets) line) (λ _. cond (nil (total nets)) (Some Nothing) None)

-- the next order's member, or the last line
abbrev pub member_or_end : Option ℕ → Option Next → Option Next
member_or_end (Some m) end = Some (SideOf m)
member_or_end None end = end

-- what the next line has to be, of a sheet that stays as it is
abbrev pub go_on : Sheet → Option Next → Option Reading
go_on s next = onward next (λ n. Some (record { sheet = s; next = n }))

-- the net of member m
abbrev pub netted : Sheet → ℕ → ℤ → Reading
netted s m z = record { sheet = record { session = s.session; nets = slice_set s.nets m z }; next = MemberOrEnd (m + 1) }

-- a line, after what was read before it: none where the line is bad
abbrev pub step_at : Next → Sheet → List ℕ → Option Reading
step_at Session s line = onward (field (codes "session=") 1 100000 line) (λ n. Some (record { sheet = record { session = n; nets = s.nets }; next = MemberOrEnd 0 }))
step_at (MemberOrEnd low) s line = go_on s (member_or_end (field (codes "member=") low 31 line) (at_end s.nets line))
step_at (SideOf m) s line = go_on s (onward (side line) (λ d. Some (CentavosOf m d)))
step_at (CentavosOf m d) s line = onward (field (codes "centavos=") 1 200000000000000000 line) (λ n. Some (netted s m (net_of d n)))
step_at Nothing s line = None

unfoldable pub step : Reading → List ℕ → Option Reading
step r line = step_at r.next r.sheet line

-- no more lines are wanted
abbrev pub complete : Next → Bool
complete Nothing = true
complete Session = false
complete (MemberOrEnd low) = false
complete (SideOf m) = false
complete (CentavosOf m d) = false

-- a bad line
abbrev pub bad_line : ℕ → Result Sheet Fault
bad_line n = Err (on_line n (bare BadSheet))

-- the answer where a line is good or bad
abbrev pub judged : Option Reading → ℕ → (Reading → Result Sheet Fault) → Result Sheet Fault
judged None n more = bad_line n
judged (Some r) n more = more r

-- the end of the bytes, after a part of line n that has no LF
abbrev pub finished : Next → Sheet → List ℕ → ℕ → Result Sheet Fault
finished next s [] n = cond (complete next) (Ok s) (bad_line n)
finished next s (c ∷ cs) n = bad_line n

-- the rest of the bytes, after a part of line n
unfoldable pub read_on : Reading → List ℕ → ℕ → List ℕ → Result Sheet Fault
read_on r part n [] = finished r.next r.sheet part n
read_on r part n (b ∷ bs) = cond (b == 10) (judged (step r part) n (λ r'. read_on r' [] (n + 1) bs)) (read_on r (part ++ (b ∷ [])) n bs)

-- what the reader answers
abbrev pub reads : List ℕ → Result Sheet Fault
reads bytes = read_on start [] 1 bytes
