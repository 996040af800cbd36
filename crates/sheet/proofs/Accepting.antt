-- The reader's answer, whole and byte by byte.
use Rattle.std.proofs.Common.{◌≡◌, ◌≢◌, ℕ, suc, ◌+◌, ◌<◌, ◌≤◌, min, true, false, not, eqb, List, [], ◌∷◌, ◌++◌, length, get_or, take, IfOk, Some, None, Ok, Err, Result, sym, refl, ap, ◌∙◌, ⊎_elim, append_assoc, arith}
use Rattle.refusal.specs.declared.Fault.{Fault}
use Rattle.std.proofs.lemmas.List.{append-nil, get_or_append_left, length_push, length-append, take_more, take_all}
use Rattle.std.proofs.lemmas.Bool.{and_parts, and_from, not_from_false, not-true, eqb-true, cases_lt}
use Rattle.std.specs.List.{IsFirstMatchOrLen}
use Rattle.sheet.specs.declared.reading.Next.{Next}
use Rattle.sheet.specs.declared.reading.Reading.{Reading}
use Rattle.sheet.specs.declared.reading.Sheet.{Sheet}
use Rattle.sheet.specs.Laws.{Accepts, TextOf}
use Rattle.sheet.specs.Reading.{start, step, read_on, reads, judged, finished, bad_line}
use Rattle.sheet.proofs.Complete.{complete, plain, line_read}
use Rattle.sheet.proofs.Judging.{read_byte, sound, sound_start}
use Rattle.sheet.proofs.Steps.{Sound, stepped, left}

written : (bytes : List ℕ) (r : Result Sheet Fault) → reads bytes ≡ r → IfOk r (TextOf bytes)
unfolding start
written bytes (Ok s) e = sound bytes start [] 1 s sound_start e
written bytes (Err f) e = tt

pub accepts : (bytes : List ℕ) → Accepts bytes (reads bytes)
accepts bytes = record { written = written bytes (reads bytes) refl; reads_back = (λ session nets h e. ap reads (sym e) ∙ complete session nets h) }

-- the lines before the rest were read, n - 1 of them
pub record Before (bytes rest : List ℕ) (n : ℕ) (r : Reading) : Type 0 where
  pub room : n + left r.next ≤ 1655
  pub sound : Sound r.next r.sheet
  pub same : read_on r [] n rest ≡ reads bytes

pub before_start : (bytes : List ℕ) → Before bytes bytes 1 start
unfolding start
before_start bytes = record { room = omega arith; sound = sound_start; same = refl }

-- a part of the rest, up to the first LF or to the end
pub record Part (rest part more : List ℕ) : Type 0 where
  pub cut : rest ≡ part ++ more
  pub place : ℕ
  pub long : length part ≡ min (place + 1) (length rest)
  pub first : IsFirstMatchOrLen (λ b. eqb b 10) rest place
  pub some : 0 < length rest

at_part : (rest part more : List ℕ) (k : ℕ) → rest ≡ part ++ more → k < length part → get_or rest k 0 ≡ get_or part k 0
at_part rest part more k cut lt = ap (λ xs. get_or xs k 0) cut ∙ get_or_append_left part more 0 k lt

plain_from : (l : List ℕ) → ((k : ℕ) → k < length l → eqb (get_or l k 0) 10 ≡ false) → plain l ≡ true
plain_from [] h = refl
plain_from (c ∷ cs) h = and_from (not (eqb c 10)) (plain cs) (not_from_false (eqb c 10) (h 0 (omega arith))) (plain_from cs (λ k lt. h (suc k) (omega arith)))

-- the bytes before the LF of a part
plain_text : (rest part more text : List ℕ) → Part rest part more → part ≡ text ++ (10 ∷ []) → plain text ≡ true
plain_text rest part more text h e = plain_from text own where
  own : (k : ℕ) → k < length text → eqb (get_or text k 0) 10 ≡ false
  own k lt =
      let long = ap length e ∙ length_push text 10 in
      let inside : k < h.place = omega (arith, h.long) in
      let here = at_part rest part more k h.cut (omega arith) ∙ at_part part text (10 ∷ []) k e lt in
      ap (λ b. eqb b 10) (sym here) ∙ h.first.0 k 0 (omega arith) inside

ends_in : (xs : List ℕ) (i : ℕ) → length xs ≡ i + 1 → eqb (get_or xs i 0) 10 ≡ true → xs ≡ take i xs ++ (10 ∷ [])
ends_in xs i long e = sym (take_all (i + 1) xs (omega arith)) ∙ take_more xs i 0 (omega arith) ∙ ap (λ b. take i xs ++ (b ∷ [])) (eqb-true _ _ e)

-- a part with no LF is the last
plain_rest : (rest part more : List ℕ) → Part rest part more → ((text : List ℕ) → part ≢ text ++ (10 ∷ [])) → plain rest ≡ true
plain_rest rest part more h lacks =
    ⊎_elim
    (λ lt. absurd (let long : length part ≡ h.place + 1 = omega (arith, h.long) in lacks (take h.place part) (ends_in part h.place long (ap (λ b. eqb b 10) (sym (at_part rest part more h.place h.cut (omega arith))) ∙ h.first.1 lt 0))))
    (λ ge. plain_from rest (λ k lt. h.first.0 k 0 (omega arith) (omega arith)))
    (cases_lt h.place (length rest))

read_plain : (l : List ℕ) (r : Reading) (part : List ℕ) (n : ℕ) → plain l ≡ true → read_on r part n l ≡ finished r.next r.sheet (part ++ l) n
unfolding read_on
read_plain [] r part n p = ap (λ xs. finished r.next r.sheet xs n) (sym (append-nil part))
read_plain (c ∷ l) r part n p =
    let q = and_parts (not (eqb c 10)) (plain l) p in
    read_byte r part n c l (not-true (eqb c 10) q.0) ∙ read_plain l r (part ++ (c ∷ [])) n q.1 ∙ ap (λ xs. finished r.next r.sheet xs n) (append_assoc part (c ∷ []) l)

finished_some : (next : Next) (s : Sheet) (l : List ℕ) (n : ℕ) → 0 < length l → finished next s l n ≡ bad_line n
finished_some next s [] n some = absurd (omega arith)
finished_some next s (c ∷ cs) n some = refl

module _ (bytes rest part more : List ℕ) (n : ℕ) (r : Reading) (h : Before bytes rest n r) (p : Part rest part more) where
  -- the LF of a line
  line_on : (text : List ℕ) → part ≡ text ++ (10 ∷ []) → judged (step r text) n (λ q. read_on q [] (n + 1) more) ≡ reads bytes
  line_on text e =
      sym (line_read text r [] n more (plain_text rest part more text p e))
      ∙ ap (read_on r [] n) (sym (p.cut ∙ ap (λ xs. xs ++ more) e ∙ append_assoc text (10 ∷ []) more))
      ∙ h.same

  -- a good line
  pub good_on : (text : List ℕ) (q : Reading) → part ≡ text ++ (10 ∷ []) → Some q ≡ step r text → Before bytes more (n + 1) q
  good_on text q e f =
      let s = stepped r text q h.sound (sym f) in
      let room = h.room in
      let less = s.bound in
      record { room = omega arith; sound = s.sound; same = ap (λ o. judged o n (λ q. read_on q [] (n + 1) more)) f ∙ line_on text e }

  -- a bad line
  pub bad_on : (text : List ℕ) → part ≡ text ++ (10 ∷ []) → None ≡ step r text → bad_line n ≡ reads bytes
  bad_on text e f = ap (λ o. judged o n (λ q. read_on q [] (n + 1) more)) f ∙ line_on text e

  -- a part with no LF
  pub cut_on : ((text : List ℕ) → part ≢ text ++ (10 ∷ [])) → bad_line n ≡ reads bytes
  cut_on lacks =
      let long = ap length p.cut ∙ length-append part more in
      sym (finished_some r.next r.sheet rest n (omega (arith, p.some))) ∙ sym (read_plain rest r [] n (plain_rest rest part more p lacks)) ∙ h.same

-- the end of the bytes
pub end_on : (bytes rest : List ℕ) (n : ℕ) (r : Reading) → length rest ≡ 0 → Before bytes rest n r → finished r.next r.sheet [] n ≡ reads bytes
unfolding read_on
end_on bytes [] n r e h = h.same
end_on bytes (c ∷ cs) n r e h = absurd (omega arith)
