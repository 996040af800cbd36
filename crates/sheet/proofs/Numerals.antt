-- Numerals and what they write.
use Rattle.std.proofs.Common.{◌≡◌, ℕ, ◌^◌, ◌<◌, Bool, true, false, cond, not, ◌&&◌, eqb, leb, List, [], ◌∷◌, ◌++◌, length, get_or, Some, None, Ok, Err, Option, Result, sym, refl, subst, ⊎_elim, arith}
use Rattle.std.proofs.lemmas.Str.Ascii.{IsAscii-cons}
use Rattle.std.proofs.lemmas.Str.Parse.{IsNumeralModel, numerals_by_value, tells_all_ascii_digits, parse_plain}
use Rattle.std.proofs.lemmas.Str.{IsUtf8-from_ascii}
use Rattle.std.proofs.lemmas.Bool.{and_parts, eq-eqb, eqb-true, cases_Bool, cases_lt}
use Rattle.std.proofs.lemmas.Bool.Decides.{nat_tests}
use Rattle.std.specs.Result.{OkIff, MatchResult, result_ok}
use Rattle.std.specs.Str.Parse.{digits_value, ParsesUnsigned}
use Rattle.std.specs.Char.{is_ascii_digit}
use Rattle.std.specs.Str.{all_ascii_digits, IsAscii, IsUtf8}
use Rattle.sheet.specs.Numerals.{value_up_to, trim, numeral, onward, after}

pub own : IsNumeralModel (λ ds. all_ascii_digits ds ≡ true) (digits_value 10)
own = numerals_by_value (λ ds. all_ascii_digits ds ≡ true) tells_all_ascii_digits

pub some_same : {X : Type 0} {x y : X} → Some x ≡ Some y → x ≡ y
some_same e = cc

pub none_some : {X Z : Type 0} {x : X} → None ≡ Some x → Z
none_some e = let never : ◌≡◌ {A = ℕ} 0 1 = cc in absurd (omega arith)

-- a numeral as one test
shape : (a b c : Bool) (low v : ℕ) → cond a (onward (cond (b && c) (Some v) None) (λ n. cond (leb low n) (Some n) None)) None ≡ cond (a && (b && (c && leb low v))) (Some v) None
shape false b c low v = refl
shape true false c low v = refl
shape true true false low v = refl
shape true true true low v = refl

pub numeral_test : (low high : ℕ) (ds : List ℕ) → numeral low high ds ≡ cond (trim ds && (all_ascii_digits ds && (leb (digits_value 10 ds) high && leb low (digits_value 10 ds)))) (Some (digits_value 10 ds)) None
unfolding numeral value_up_to
numeral_test low high ds = shape (trim ds) (all_ascii_digits ds) (leb (digits_value 10 ds) high) low (digits_value 10 ds)

no_value : (low high : ℕ) (ds : List ℕ) → all_ascii_digits ds ≡ false → numeral low high ds ≡ None
no_value low high ds e =
    let test = numeral_test low high ds in
    ⊎_elim (λ t. grind (arith, nat_tests)) (λ f. grind (arith, nat_tests)) (cases_Bool (trim ds))

plus_first : (ds : List ℕ) → eqb (get_or ds 0 0) 43 ≡ true → all_ascii_digits ds ≡ false
plus_first [] e = grind arith
plus_first (c ∷ cs) e = grind (arith, nat_tests)

pub untrim : (low high : ℕ) (ds : List ℕ) → false ≡ (trim ds && not (eqb (get_or ds 0 0) 43)) → None ≡ numeral low high ds
untrim low high ds e =
    let test = numeral_test low high ds in
    ⊎_elim (λ t. sym (no_value low high ds (plus_first ds (grind arith)))) (λ f. grind arith) (cases_Bool (trim ds))

digits_ascii : (ds : List ℕ) → all_ascii_digits ds ≡ true → IsAscii ds
digits_ascii [] e = λ i. omega arith
digits_ascii (c ∷ cs) e =
    let p = and_parts (is_ascii_digit c) (all_ascii_digits cs) e in
    let digit = p.0 in
    IsAscii-cons c cs (grind (arith, nat_tests)) (digits_ascii cs p.1)

pub no_text : (low high : ℕ) (ds : List ℕ) → ¬ (IsUtf8 ds) → None ≡ numeral low high ds
no_text low high ds bad =
    ⊎_elim (λ t. absurd (bad (IsUtf8-from_ascii ds (digits_ascii ds t)))) (λ f. sym (no_value low high ds f)) (cases_Bool (all_ascii_digits ds))

-- what `ok` keeps of a result
pub ok_some : {T E : Type 0} (r : Result T E) (P : T → Type 0) (Q : E → Type 0) (x : T) → result_ok r ≡ Some x → MatchResult r P Q → P x
ok_some (Ok y) P Q x e h = subst P (some_same e) h
ok_some (Err y) P Q x e h = none_some e

pub ok_none : {T E Z : Type 0} (r : Result T E) (P : T → Type 0) (Q : E → Type 0) → result_ok r ≡ None → MatchResult r P Q → ((y : E) → Q y → Z) → Z
ok_none (Ok y) P Q e h k = none_some (sym e)
ok_none (Err y) P Q e h k = k y h

-- what `parse` gives
pub parsed : {E : Type 0} (ds : List ℕ) (r : Result ℕ E) → true ≡ (trim ds && not (eqb (get_or ds 0 0) 43)) → ParsesUnsigned 64 10 ds r → result_ok r ≡ numeral 0 18446744073709551615 ds
parsed {E} ds r e h = by r (parse_plain own 64 ds r h (λ plus. grind (arith, nat_tests))) where
  by : (r : Result ℕ E) → OkIff r ((all_ascii_digits ds ≡ true) × (0 < length ds) × (digits_value 10 ds < 2 ^ 64)) (digits_value 10 ds) → result_ok r ≡ numeral 0 18446744073709551615 ds
  by (Ok x) p = let digits = p.0.0 in let small = p.0.2 in let same = p.1 in let test = numeral_test 0 18446744073709551615 ds in grind (arith, nat_tests)
  by (Err x) p =
      ⊎_elim
      (λ t. ⊎_elim (λ lt. absurd (p (t, grind (arith, nat_tests), lt))) (λ ge. let test = numeral_test 0 18446744073709551615 ds in grind (arith, nat_tests)) (cases_lt (digits_value 10 ds) (2 ^ 64)))
      (λ f. sym (no_value 0 18446744073709551615 ds f))
      (cases_Bool (all_ascii_digits ds))

-- a numeral within closer limits
pub narrow : (low high : ℕ) (ds : List ℕ) → high < 2 ^ 64 → onward (numeral 0 18446744073709551615 ds) (λ n. cond (leb low n && leb n high) (Some n) None) ≡ numeral low high ds
narrow low high ds small = rw (numeral_test 0 18446744073709551615 ds, numeral_test low high ds) (by (trim ds) (all_ascii_digits ds) (digits_value 10 ds)) where
  by : (t d : Bool) (v : ℕ) → onward (cond (t && (d && (leb v 18446744073709551615 && leb 0 v))) (Some v) None) (λ n. cond (leb low n && leb n high) (Some n) None) ≡ cond (t && (d && (leb v high && leb low v))) (Some v) None
  by false d v = refl
  by true false v = refl
  by true true v = ⊎_elim (λ lt. grind (arith, nat_tests)) (λ ge. grind (arith, nat_tests)) (cases_lt high v)

-- a line that begins with the key, and one that does not
pub after_key : (key rest : List ℕ) → after key (key ++ rest) ≡ Some rest
after_key [] rest = refl
after_key (k ∷ ks) rest = rw (eq-eqb k k refl) (after_key ks rest)

pub after_some : (key line rest : List ℕ) → after key line ≡ Some rest → line ≡ key ++ rest
after_some [] line rest e = cc
after_some (k ∷ ks) [] rest e = let never : ◌≡◌ {A = ℕ} 0 1 = cc in absurd (omega arith)
after_some (k ∷ ks) (c ∷ cs) rest e =
    ⊎_elim
    (λ t. let same = eqb-true k c t in let more = after_some ks cs rest (rw t at e) in cc)
    (λ f. let never : ◌≡◌ {A = Option (List ℕ)} None (Some rest) = rw f at e in let bad : ◌≡◌ {A = ℕ} 0 1 = cc in absurd (omega arith))
    (cases_Bool (eqb k c))

pub after_none : (key line : List ℕ) → ((rest : List ℕ) → line ≡ key ++ rest → ⊥) → after key line ≡ None
after_none key line no' = by (after key line) refl where
  by : (r : Option (List ℕ)) → after key line ≡ r → r ≡ None
  by None e = refl
  by (Some rest) e = absurd (no' rest (after_some key line rest e))
