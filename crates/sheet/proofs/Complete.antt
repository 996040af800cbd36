-- The text of a sheet is read as that sheet.
use Rattle.std.proofs.Common.{◌≡◌, ℕ, zero, suc, ◌+◌, ◌-◌, ◌^◌, ◌<◌, ◌≤◌, Bool, true, false, cond, not, ◌&&◌, eqb, List, [], ◌∷◌, ◌++◌, length, get_or, drop, set, replicate, ℤ, pos, negsuc, ◌+ℤ◌, nat_abs, Some, None, Ok, codes, decimal, sym, refl, ap, ◌∙◌, subst, append_assoc, add-one, arith}
use Rattle.std.proofs.lemmas.Fmt.{digits_decimal}
use Rattle.std.proofs.lemmas.List.Edits.{sets, sets-eq}
use Rattle.std.proofs.lemmas.List.{append-nil, length-set, get_or-set_other, set-get_or, length-replicate, drop-replicate}
use Rattle.std.proofs.lemmas.Str.Parse.{numerals_by_value, tells_all_ascii_digits}
use Rattle.std.proofs.lemmas.Int.{ints}
use Rattle.std.proofs.lemmas.Bool.{and_parts, and_from, not_from_false, not-true}
use Rattle.std.proofs.lemmas.Bool.Decides.{nat_tests}
use Rattle.std.specs.List.{flat_map}
use Rattle.std.specs.Char.{is_ascii_digit}
use Rattle.std.specs.Str.{all_ascii_digits}
use Rattle.sheet.specs.declared.order.Order.{Order}
use Rattle.sheet.specs.declared.order.Side.{Side}
use Rattle.sheet.specs.declared.order.Side.TheVariants.{Charge, Credit}
use Rattle.sheet.specs.declared.reading.Next.TheVariants.{MemberOrEnd, SideOf, CentavosOf, Nothing}
use Rattle.sheet.specs.declared.reading.Reading.{Reading}
use Rattle.sheet.specs.declared.reading.Sheet.{Sheet}
use Rattle.sheet.specs.Laws.{sheet_of}
use Rattle.sheet.specs.Numerals.{field, onward}
use Rattle.sheet.specs.Orders.{one, order_of, net_of, orders, total, nil}
use Rattle.sheet.specs.Reading.{start, step, read_on, reads, judged, member_or_end, at_end, go_on, netted}
use Rattle.sheet.specs.Text.{ended, side_line, order_lines, all_lines, lines, text}
use Rattle.sheet.specs.Writing.{payable, Sendable}
use Rattle.sheet.proofs.Fields.{field_line}
use Rattle.sheet.proofs.Judging.{read_line, read_byte, zeros_at}
use Rattle.sheet.proofs.Numerals.{none_some}
use Rattle.sheet.proofs.Nets.{payable_at, orders_le}

-- no LF in it
abbrev pub plain : List ℕ → Bool
plain [] = true
plain (c ∷ cs) = not (eqb c 10) && plain cs

plain_digits : (ds : List ℕ) → all_ascii_digits ds ≡ true → plain ds ≡ true
plain_digits [] e = refl
plain_digits (d ∷ ds) e =
    let p = and_parts (is_ascii_digit d) (all_ascii_digits ds) e in
    let digit = p.0 in
    let apart : eqb d 10 ≡ false = grind (arith, nat_tests) in
    and_from (not (eqb d 10)) (plain ds) (not_from_false (eqb d 10) apart) (plain_digits ds p.1)

plain_decimal : (n : ℕ) → n < 2 ^ 64 → plain (decimal n) ≡ true
plain_decimal n small = plain_digits (decimal n) (digits_decimal (numerals_by_value (λ ds. all_ascii_digits ds ≡ true) tells_all_ascii_digits) n small)

-- a whole line
pub line_read : (l : List ℕ) (r : Reading) (part : List ℕ) (n : ℕ) (rest : List ℕ) → plain l ≡ true → read_on r part n (l ++ (10 ∷ rest)) ≡ judged (step r (part ++ l)) n (λ q. read_on q [] (n + 1) rest)
line_read [] r part n rest p = read_line r part n 10 rest refl ∙ ap (λ xs. judged (step r xs) n (λ q. read_on q [] (n + 1) rest)) (sym (append-nil part))
line_read (c ∷ l) r part n rest p =
    let q = and_parts (not (eqb c 10)) (plain l) p in
    read_byte r part n c (l ++ (10 ∷ rest)) (not-true (eqb c 10) q.0)
    ∙ line_read l r (part ++ (c ∷ [])) n rest q.1
    ∙ ap (λ xs. judged (step r xs) n (λ q. read_on q [] (n + 1) rest)) (append_assoc part (c ∷ []) l)

-- good lines, one after another
data Runs : Reading → List (List ℕ) → Reading → Type 0 where
  none : {r : Reading} → Runs r [] r
  more : {r : Reading} {l : List ℕ} {q : Reading} {ls : List (List ℕ)} {p : Reading} → plain l ≡ true → step r l ≡ Some q → Runs q ls p → Runs r (l ∷ ls) p

runs_on : {r q p : Reading} {ls ms : List (List ℕ)} → Runs r ls q → Runs q ms p → Runs r (ls ++ ms) p
runs_on none k = k
runs_on (more c e h) k = more c e (runs_on h k)

runs_read : {r q : Reading} {ls : List (List ℕ)} → Runs r ls q → (n : ℕ) (rest : List ℕ) → (n' : ℕ) × (read_on r [] n (flat_map ended ls ++ rest) ≡ read_on q [] n' rest)
runs_read none n rest = (n, refl)
runs_read {r} {q} (more {l = l} {q = s} {ls = ls} c e h) n rest =
    let k = runs_read h (n + 1) rest in
    let outer = append_assoc (l ++ (10 ∷ [])) (flat_map ended ls) rest in
    let inner = append_assoc l (10 ∷ []) (flat_map ended ls ++ rest) in
    (k.0, ap (read_on r [] n) (outer ∙ inner) ∙ line_read l r [] n (flat_map ended ls ++ rest) c ∙ ap (λ o. judged o n (λ p. read_on p [] (n + 1) (flat_map ended ls ++ rest))) e ∙ k.1)

-- a sheet before its next order
abbrev at : Sheet → ℕ → Reading
at s low = record { sheet = s; next = MemberOrEnd low }

member_step : (s : Sheet) (low k : ℕ) → low ≤ k → k < 32 → step (at s low) (codes "member=" ++ decimal k) ≡ Some (record { sheet = s; next = SideOf k })
unfolding step
member_step s low k least seat = ap (λ o. go_on s (member_or_end o (at_end s.nets (codes "member=" ++ decimal k)))) (field_line (codes "member=") low 31 k least (omega arith) (omega arith))

side_step : (s : Sheet) (k : ℕ) (d : Side) → step (record { sheet = s; next = SideOf k }) (side_line d) ≡ Some (record { sheet = s; next = CentavosOf k d })
unfolding step
side_step s k Charge = refl
side_step s k Credit = refl

plain_side : (d : Side) → plain (side_line d) ≡ true
plain_side Charge = refl
plain_side Credit = refl

centavos_step : (s : Sheet) (k : ℕ) (d : Side) (n : ℕ) → 1 ≤ n → n ≤ 200000000000000000 → step (record { sheet = s; next = CentavosOf k d }) (codes "centavos=" ++ decimal n) ≡ Some (netted s k (net_of d n))
unfolding step
centavos_step s k d n least most = ap (λ o. onward o (λ m. Some (netted s k (net_of d m)))) (field_line (codes "centavos=") 1 200000000000000000 n least most (omega arith))

-- the three lines of an order
sided_run : (d : Side) (n k low : ℕ) (s : Sheet) → low ≤ k → k < 32 → 1 ≤ n → n ≤ 200000000000000000 → Runs (at s low) (order_lines k (Some (record { side = d; centavos = n }))) (netted s k (net_of d n))
sided_run d n k low s least seat some small =
    more (plain_decimal k (omega arith)) (member_step s low k least seat) (more (plain_side d) (side_step s k d) (more (plain_decimal n (omega arith)) (centavos_step s k d n some small) none))

order_run : (z : ℤ) (k low : ℕ) (s : Sheet) (o : Order) → low ≤ k → k < 32 → nat_abs z ≤ 200000000000000000 → order_of z ≡ Some o → Runs (at s low) (order_lines k (order_of z)) (netted s k z)
order_run (pos zero) k low s o least seat small e = none_some e
order_run (pos (suc n)) k low s o least seat small e = sided_run Credit (suc n) k low s least seat (omega arith) (omega (arith, ints))
order_run (negsuc n) k low s o least seat small e = sided_run Charge (suc n) k low s least seat (omega arith) (omega (arith, ints))

-- nets put in from a place on
abbrev fill : List ℤ → ℕ → List ℤ → List ℤ
fill zs k [] = zs
fill zs k (w ∷ ws) = fill (set zs k w) (k + 1) ws

-- the same sheet with other nets
abbrev nets_of : Sheet → List ℤ → Sheet
nets_of s zs = record { session = s.session; nets = zs }

-- an order, and those after it
order_on : (w : ℤ) (o : Order) (ws : List ℤ) (k low : ℕ) (s : Sheet) → order_of w ≡ Some o → low ≤ k → k < 32 → nat_abs w ≤ 200000000000000000 → (low' : ℕ) × Runs (at (nets_of s (set s.nets k w)) (k + 1)) (all_lines (k + 1) ws) (at (nets_of s (fill (set s.nets k w) (k + 1) ws)) low') → (low' : ℕ) × Runs (at s low) (order_lines k (order_of w) ++ all_lines (k + 1) ws) (at (nets_of s (fill (set s.nets k w) (k + 1) ws)) low')
order_on w o ws k low s e least seat small rest = (rest.0, runs_on (order_run w k low s o least seat small e) rest.1)

vacant_on : (zs : List ℤ) (k : ℕ) (w : ℤ) → ((j : ℕ) → k ≤ j → get_or zs j (pos 0) ≡ pos 0) → (j : ℕ) → k + 1 ≤ j → get_or (set zs k w) j (pos 0) ≡ pos 0
vacant_on zs k w vacant j le = get_or-set_other zs k j w (pos 0) (omega arith) ∙ vacant j (omega arith)

-- the orders of the members from k on
orders_run : (ws : List ℤ) (k low : ℕ) (s : Sheet) → low ≤ k → k + length ws ≤ 32 → length s.nets ≡ 32 → ((j : ℕ) → k ≤ j → get_or s.nets j (pos 0) ≡ pos 0) → payable ws ≡ true → (low' : ℕ) × Runs (at s low) (all_lines k ws) (at (nets_of s (fill s.nets k ws)) low')
unfolding all_lines payable
orders_run [] k low s least room wide vacant paid = (low, none)
orders_run (pos zero ∷ ws) k low s least room wide vacant paid =
    let same : set s.nets k (pos 0) ≡ s.nets = ap (set s.nets k) (sym (vacant k (omega arith))) ∙ set-get_or s.nets k (pos 0) in
    let rest = orders_run ws (k + 1) low s (omega arith) (omega arith) wide (λ j le. vacant j (omega arith)) (and_parts _ _ paid).1 in
    (rest.0, subst (λ zs. Runs (at s low) (all_lines (k + 1) ws) (at (nets_of s (fill zs (k + 1) ws)) rest.0)) (sym same) rest.1)
orders_run (pos (suc n) ∷ ws) k low s least room wide vacant paid =
    order_on (pos (suc n)) (record { side = Credit; centavos = suc n }) ws k low s refl least (omega arith) (payable_at (pos (suc n) ∷ ws) 0 paid) (orders_run ws (k + 1) (k + 1) (nets_of s (set s.nets k (pos (suc n)))) (omega arith) (omega arith) (length-set s.nets k (pos (suc n)) ∙ wide) (vacant_on s.nets k (pos (suc n)) vacant) (and_parts _ _ paid).1)
orders_run (negsuc n ∷ ws) k low s least room wide vacant paid =
    order_on (negsuc n) (record { side = Charge; centavos = suc n }) ws k low s refl least (omega arith) (payable_at (negsuc n ∷ ws) 0 paid) (orders_run ws (k + 1) (k + 1) (nets_of s (set s.nets k (negsuc n))) (omega arith) (omega arith) (length-set s.nets k (negsuc n) ∙ wide) (vacant_on s.nets k (negsuc n) vacant) (and_parts _ _ paid).1)

-- what is filled in
fill_sets : (ws zs : List ℤ) (k : ℕ) → fill zs k ws ≡ sets zs k ws
fill_sets [] zs k = refl
fill_sets (w ∷ ws) zs k = ap (λ j. fill (set zs k w) j ws) (add-one k) ∙ fill_sets ws (set zs k w) (suc k)

fill_zeros : (n : ℕ) (nets : List ℤ) → length nets ≤ n → fill (replicate n (pos 0)) 0 nets ≡ nets ++ replicate (n - length nets) (pos 0)
fill_zeros n nets few =
    let long = length-replicate n (pos 0) in
    let past : 0 + length nets ≡ length nets = omega arith in
    fill_sets nets (replicate n (pos 0)) 0
    ∙ sets-eq nets (replicate n (pos 0)) 0 (omega arith)
    ∙ ap (λ k. nets ++ drop k (replicate n (pos 0))) past
    ∙ ap (λ zs. nets ++ zs) (drop-replicate (length nets) n (pos 0))

-- nets of 0 at the end add no order and no sum
orders_zeros : (n : ℕ) → orders (replicate n (pos 0)) ≡ 0
orders_zeros zero = refl
orders_zeros (suc n) = let more = orders_zeros n in omega arith

orders-padded : (nets : List ℤ) (n : ℕ) → orders (nets ++ replicate n (pos 0)) ≡ orders nets
orders-padded [] n = orders_zeros n
orders-padded (z ∷ zs) n = ap (λ k. one (order_of z) + k) (orders-padded zs n)

total_zeros : (n : ℕ) → total (replicate n (pos 0)) ≡ pos 0
total_zeros zero = refl
total_zeros (suc n) = let more = total_zeros n in omega (arith, ints)

total-padded : (nets : List ℤ) (n : ℕ) → total (nets ++ replicate n (pos 0)) ≡ total nets
total-padded [] n = total_zeros n
total-padded (z ∷ zs) n = ap (λ k. z +ℤ k) (total-padded zs n)

-- a sheet that was just begun
abbrev begun : ℕ → Sheet
begun n = record { session = n; nets = replicate 32 (pos 0) }

session_step : (n : ℕ) → 1 ≤ n → n ≤ 100000 → step start (codes "session=" ++ decimal n) ≡ Some (at (begun n) 0)
unfolding step start
session_step n least most = ap (λ o. onward o (λ m. Some (at (begun m) 0))) (field_line (codes "session=") 1 100000 n least most (omega arith))

end_step : (s : Sheet) (low n : ℕ) → orders s.nets ≡ n → n ≤ 32 → total s.nets ≡ pos 0 → step (at s low) (codes "end=" ++ decimal n) ≡ Some (record { sheet = s; next = Nothing })
unfolding step field
end_step s low n count few level =
    let line = codes "end=" ++ decimal n in
    let read : field (codes "end=") (orders s.nets) (orders s.nets) line ≡ Some n = ap (λ k. field (codes "end=") k k line) count ∙ field_line (codes "end=") n n n (omega arith) (omega arith) (omega arith) in
    ap (λ o. go_on s (onward o (λ _. cond (nil (total s.nets)) (Some Nothing) None))) read
    ∙ ap (λ z. go_on s (cond (nil z) (Some Nothing) None)) level

-- what was written reads back
pub complete : (session : ℤ) (nets : List ℤ) → Sendable session nets → reads (text (nat_abs session) nets) ≡ Ok (sheet_of session nets)
unfolding text read_on
complete session nets h =
    let n = nat_abs session in
    let low = h.from in
    let high = h.to in
    let few = h.few in
    let pad = fill_zeros 32 nets few in
    let s = nets_of (begun n) (fill (replicate 32 (pos 0)) 0 nets) in
    let count : orders s.nets ≡ orders nets = ap orders pad ∙ orders-padded nets (32 - length nets) in
    let level : total s.nets ≡ pos 0 = ap total pad ∙ total-padded nets (32 - length nets) ∙ h.level in
    let most = orders_le nets in
    let first : Runs start ((codes "session=" ++ decimal n) ∷ []) (at (begun n) 0) = more (plain_decimal n (omega (arith, ints))) (session_step n (omega (arith, ints)) (omega (arith, ints))) none in
    let middle = orders_run nets 0 0 (begun n) (omega arith) (omega arith) (length-replicate 32 (pos 0)) (λ j le. zeros_at 32 j) h.paid in
    let last : Runs (at s middle.0) ((codes "end=" ++ decimal (orders nets)) ∷ []) (record { sheet = s; next = Nothing }) = more (plain_decimal (orders nets) (omega arith)) (end_step s middle.0 (orders nets) count (omega arith) level) none in
    let all = runs_read (runs_on first (runs_on middle.1 last)) 1 [] in
    ap (read_on start [] 1) (sym (append-nil (flat_map ended (lines n nets)))) ∙ all.1 ∙ ap (λ zs. Ok (nets_of (begun n) zs)) pad
