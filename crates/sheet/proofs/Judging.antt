-- What the reader accepts is the text of a sheet, and a front of the bytes decides.
use Rattle.std.proofs.Common.{◌≡◌, ℕ, zero, suc, ◌+◌, ◌<◌, true, false, eqb, List, [], ◌∷◌, ◌++◌, length, get_or, replicate, pos, Some, None, Ok, Err, Option, Result, sym, refl, ◌∙◌, subst, ⊎_elim, append_assoc, arith}
use Rattle.refusal.specs.Checks.{within}
use Rattle.std.proofs.lemmas.List.{append-nil, length_push, length-replicate, get_or-replicate, get_or_past}
use Rattle.std.proofs.lemmas.Int.{ints}
use Rattle.std.proofs.lemmas.Bool.{cases_Bool, cases_lt, eqb-true}
use Rattle.std.specs.List.{flat_map}
use Rattle.sheet.specs.declared.reading.Next.{Next}
use Rattle.sheet.specs.declared.reading.Next.TheVariants.{Session, MemberOrEnd, SideOf, CentavosOf, Nothing}
use Rattle.sheet.specs.declared.reading.Reading.{Reading}
use Rattle.sheet.specs.declared.reading.Sheet.{Sheet}
use Rattle.sheet.specs.Laws.{TextOf, FrontDecides}
use Rattle.sheet.specs.Reading.{start, step, read_on, judged, finished, bad_line}
use Rattle.sheet.specs.Text.{ended, text, lines}
use Rattle.sheet.specs.Writing.{payable}
use Rattle.sheet.proofs.Lines.{joined_append}
use Rattle.sheet.proofs.Steps.{Sound, stepped, taken, left}

-- a byte more, by what it is
pub read_line : (r : Reading) (part : List ℕ) (n b : ℕ) (bs : List ℕ) → eqb b 10 ≡ true → read_on r part n (b ∷ bs) ≡ judged (step r part) n (λ r'. read_on r' [] (n + 1) bs)
unfolding read_on
read_line r part n b bs e = rw e

pub read_byte : (r : Reading) (part : List ℕ) (n b : ℕ) (bs : List ℕ) → eqb b 10 ≡ false → read_on r part n (b ∷ bs) ≡ read_on r (part ++ (b ∷ [])) n bs
unfolding read_on
read_byte r part n b bs e = rw e

-- a part that is too long for a line
pub too_long : (bs : List ℕ) (r : Reading) (part : List ℕ) (n : ℕ) → Sound r.next r.sheet → left r.next < length part → read_on r part n bs ≡ bad_line n
unfolding read_on
too_long [] r [] n h long = absurd (omega arith)
too_long [] r (c ∷ part) n h long = refl
too_long (b ∷ bs) r part n h long =
    ⊎_elim
    (λ t. read_line r part n b bs t ∙ none (step r part) refl)
    (λ f. read_byte r part n b bs f ∙ too_long bs r (part ++ (b ∷ [])) n h (let more = length_push part b in omega arith))
    (cases_Bool (eqb b 10))
  where
    none : (o : Option Reading) → step r part ≡ o → judged o n (λ r'. read_on r' [] (n + 1) bs) ≡ bad_line n
    none None e = refl
    none (Some q) e = absurd (let room = (stepped r part q h e).bound in omega arith)

-- a line that is judged, by whether it is good
judge : (r : Reading) (part : List ℕ) (o : Option Reading) (n : ℕ) (xs ys : List ℕ) → Sound r.next r.sheet → step r part ≡ o → ((q : Reading) → step r part ≡ Some q → read_on q [] (n + 1) xs ≡ read_on q [] (n + 1) ys) → judged o n (λ q. read_on q [] (n + 1) xs) ≡ judged o n (λ q. read_on q [] (n + 1) ys)
judge r part None n xs ys h e same = refl
judge r part (Some q) n xs ys h e same = same q e

-- no byte past more than good lines can hold matters
pub front : (xs rest : List ℕ) (r : Reading) (part : List ℕ) (n : ℕ) → Sound r.next r.sheet → left r.next < length part + length xs → read_on r part n (xs ++ rest) ≡ read_on r part n xs
front [] rest r part n h long = too_long rest r part n h (omega arith) ∙ sym (too_long [] r part n h (omega arith))
front (b ∷ xs) rest r part n h long =
    ⊎_elim
    (λ t. read_line r part n b (xs ++ rest) t ∙ judge r part (step r part) n (xs ++ rest) xs h refl (λ q e. let s = stepped r part q h e in let room = s.bound in front xs rest q [] (n + 1) s.sound (omega arith)) ∙ sym (read_line r part n b xs t))
    (λ f. read_byte r part n b (xs ++ rest) f ∙ front xs rest r (part ++ (b ∷ [])) n h (let more = length_push part b in omega arith) ∙ sym (read_byte r part n b xs f))
    (cases_Bool (eqb b 10))

-- nets of 0
pub zeros_at : (n k : ℕ) → get_or (replicate n (pos 0)) k (pos 0) ≡ pos 0
zeros_at n k =
    ⊎_elim
    (λ lt. get_or-replicate n k (pos 0) (pos 0) lt)
    (λ ge. get_or_past (replicate n (pos 0)) k (pos 0) (let long = length-replicate n (pos 0) in omega arith))
    (cases_lt k n)

pub payable_zeros : (n : ℕ) → payable (replicate n (pos 0)) ≡ true
unfolding payable within
payable_zeros zero = refl
payable_zeros (suc n) = payable_zeros n

-- before the first line
pub sound_start : Sound start.next start.sheet
unfolding start
sound_start = record { wide = length-replicate 32 (pos 0); paid = payable_zeros 32; vacant = (λ k le. zeros_at 32 k); dated = tt; seated = tt; level = tt }

pub front_decides : (bytes : List ℕ) → FrontDecides bytes
unfolding start
front_decides bytes rest long = front bytes rest start [] 1 sound_start (omega arith)

-- an answer is not both
ok_err : {X E Z : Type 0} {x : X} {y : E} → Err y ≡ Ok x → Z
ok_err e = let never : ◌≡◌ {A = ℕ} 0 1 = cc in absurd (omega arith)

ok_same : {X E : Type 0} {x y : X} → ◌≡◌ {A = Result X E} (Ok x) (Ok y) → x ≡ y
ok_same e = cc

-- a whole sheet
whole : (s t : Sheet) → Sound Nothing s → s ≡ t → TextOf (flat_map ended (taken Nothing s) ++ ([] ++ [])) t
unfolding text
whole s t h e = subst (TextOf (flat_map ended (taken Nothing s) ++ ([] ++ []))) e (record { sendable = record { few = omega (arith, h.wide); from = omega (arith, ints, h.dated.0); to = omega (arith, ints, h.dated.1); paid = h.paid; level = h.level }; wide = h.wide; text_is = sym (append-nil (flat_map ended (lines s.session s.nets))) })

-- the end of the bytes
done : (next : Next) (s t : Sheet) (part : List ℕ) (n : ℕ) → Sound next s → finished next s part n ≡ Ok t → TextOf (flat_map ended (taken next s) ++ (part ++ [])) t
done next s t (c ∷ part) n h e = ok_err e
done Session s t [] n h e = ok_err e
done (MemberOrEnd low) s t [] n h e = ok_err e
done (SideOf m) s t [] n h e = ok_err e
done (CentavosOf m d) s t [] n h e = ok_err e
done Nothing s t [] n h e = whole s t h (ok_same e)

-- a good line is the next of those that were taken
line_on : (ls ls' : List (List ℕ)) (part : List ℕ) (b : ℕ) (bs : List ℕ) → ls' ≡ ls ++ (part ∷ []) → b ≡ 10 → flat_map ended ls' ++ ([] ++ bs) ≡ flat_map ended ls ++ (part ++ (b ∷ bs))
line_on ls ls' part b bs e f =
    let split = joined_append ls (part ∷ []) in
    let one : flat_map ended (part ∷ []) ≡ part ++ (10 ∷ []) = append-nil (part ++ (10 ∷ [])) in
    let outer = append_assoc (flat_map ended ls) (part ++ (10 ∷ [])) bs in
    let inner = append_assoc part (10 ∷ []) bs in
    rw (e, split, one, outer, inner, f)

-- the rest after a line, where the line is good
good : (r : Reading) (part : List ℕ) (n b : ℕ) (bs : List ℕ) (t : Sheet) (o : Option Reading) → Sound r.next r.sheet → step r part ≡ o → b ≡ 10 → judged o n (λ q. read_on q [] (n + 1) bs) ≡ Ok t → ((q : Reading) → Sound q.next q.sheet → read_on q [] (n + 1) bs ≡ Ok t → TextOf (flat_map ended (taken q.next q.sheet) ++ ([] ++ bs)) t) → TextOf (flat_map ended (taken r.next r.sheet) ++ (part ++ (b ∷ bs))) t
good r part n b bs t None h e lf k more = ok_err k
good r part n b bs t (Some q) h e lf k more =
    let s = stepped r part q h e in
    subst (λ xs. TextOf xs t) (line_on (taken r.next r.sheet) (taken q.next q.sheet) part b bs s.took lf) (more q s.sound k)

-- what is accepted is the text of a sheet
pub sound : (bs : List ℕ) (r : Reading) (part : List ℕ) (n : ℕ) (t : Sheet) → Sound r.next r.sheet → read_on r part n bs ≡ Ok t → TextOf (flat_map ended (taken r.next r.sheet) ++ (part ++ bs)) t
unfolding read_on
sound [] r part n t h e = done r.next r.sheet t part n h e
sound (b ∷ bs) r part n t h e =
    ⊎_elim
    (λ y. good r part n b bs t (step r part) h refl (eqb-true b 10 y) (sym (read_line r part n b bs y) ∙ e) (λ q. sound bs q [] (n + 1) t))
    (λ f. subst (λ xs. TextOf (flat_map ended (taken r.next r.sheet) ++ xs) t) (append_assoc part (b ∷ []) bs) (sound bs r (part ++ (b ∷ [])) n t h (sym (read_byte r part n b bs f) ∙ e)))
    (cases_Bool (eqb b 10))
