-- A field is a key and the decimal digits of a number within limits, and nothing else is one.
use Rattle.std.proofs.Common.{◌≡◌, ℕ, ◌^◌, ◌<◌, ◌≤◌, Bool, true, false, cond, not, ◌&&◌, eqb, ltb, leb, List, ◌++◌, length, get_or, Some, None, decimal, Option, sym, refl, ap, ◌∙◌, ⊎_elim, arith}
use Rattle.std.proofs.lemmas.Fmt.{decimal-digits_value, decimal_nonempty, decimal_digit, first_decimal, digits_decimal, digits_value-decimal}
use Rattle.std.proofs.lemmas.Bool.{and_parts, lt-ltb, le-leb, leb-true, ltb-true, cases_lt}
use Rattle.std.proofs.lemmas.Bool.Decides.{nat_tests}
use Rattle.std.specs.Str.Parse.{digits_value}
use Rattle.std.specs.Str.{all_ascii_digits}
use Rattle.sheet.specs.Numerals.{value_up_to, trim, numeral, onward, after, field}
use Rattle.sheet.proofs.Numerals.{own, some_same, none_some, after_some, after_key}

pub cond_some : {X : Type 0} (b : Bool) (o : Option X) (y : X) → cond b o None ≡ Some y → (b ≡ true) × (o ≡ Some y)
cond_some true o y e = (refl, e)
cond_some false o y e = none_some e

pub onward_some : {X Y : Type 0} (o : Option X) (f : X → Option Y) (y : Y) → onward o f ≡ Some y → (x : X) × (o ≡ Some x) × (f x ≡ Some y)
onward_some None f y e = none_some e
onward_some (Some x) f y e = (x, refl, e)

-- the numeral of a number is its decimal digits
pub record Writes (low high n : ℕ) (ds : List ℕ) : Type 0 where
  pub digits : ds ≡ decimal n
  pub least : low ≤ n
  pub most : n ≤ high

value_some : (high : ℕ) (ds : List ℕ) (n : ℕ) → value_up_to high ds ≡ Some n → (all_ascii_digits ds ≡ true) × (digits_value 10 ds ≡ n) × (n ≤ high)
unfolding value_up_to
value_some high ds n e =
    let p = cond_some (all_ascii_digits ds && leb (digits_value 10 ds) high) (Some (digits_value 10 ds)) n e in
    let q = and_parts (all_ascii_digits ds) (leb (digits_value 10 ds) high) p.0 in
    let same = some_same p.1 in
    (q.0, same, omega (arith, leb-true _ _ q.1))

pub numeral_some : (low high : ℕ) (ds : List ℕ) (n : ℕ) → high < 2 ^ 64 → numeral low high ds ≡ Some n → Writes low high n ds
unfolding numeral
numeral_some low high ds n small e =
    let p = cond_some (trim ds) (onward (value_up_to high ds) (λ k. cond (leb low k) (Some k) None)) n e in
    let q = onward_some (value_up_to high ds) (λ k. cond (leb low k) (Some k) None) n p.1 in
    let m = q.0 in
    let v = value_some high ds m q.1 in
    let l = cond_some (leb low m) (Some m) n q.2 in
    let same = some_same l.1 in
    let t = and_parts (ltb 0 (length ds)) (not (ltb 1 (length ds) && eqb (get_or ds 0 0) 48)) p.0 in
    let lead : get_or ds 0 0 ≡ 48 → length ds ≡ 1 = λ z. (let some = t.0 in let trimmed = t.1 in grind (arith, nat_tests)) in
    record { digits = sym (decimal-digits_value own ds v.0 (ltb-true _ _ t.0) lead (omega (arith, v.1, v.2))) ∙ ap decimal (v.1 ∙ same); least = omega (arith, leb-true _ _ l.0); most = omega (arith, v.2) }

trim-decimal : (n : ℕ) → n < 2 ^ 64 → trim (decimal n) ≡ true
trim-decimal n small =
    let some = decimal_nonempty n small in
    ⊎_elim
    (λ h. let one = ap length (decimal_digit n (omega arith)) in grind (arith, nat_tests))
    (λ h. let first = first_decimal n (omega arith) small in grind (arith, nat_tests))
    (cases_lt n 1)

pub numeral-decimal : (low high n : ℕ) → low ≤ n → n ≤ high → high < 2 ^ 64 → numeral low high (decimal n) ≡ Some n
unfolding numeral value_up_to
numeral-decimal low high n least most small =
    let trimmed = trim-decimal n (omega arith) in
    let digits = digits_decimal own n (omega arith) in
    let same : digits_value 10 (decimal n) ≡ n = digits_value-decimal own n (omega arith) in
    rw (trimmed, digits, same, le-leb n high most, le-leb low n least)

-- a line of a key and a number within limits
pub field_some : (key : List ℕ) (low high : ℕ) (line : List ℕ) (n : ℕ) → high < 2 ^ 64 → field key low high line ≡ Some n → (line ≡ key ++ decimal n) × (low ≤ n) × (n ≤ high)
unfolding field
field_some key low high line n small e =
    let p = onward_some (after key line) (numeral low high) n e in
    let w = numeral_some low high p.0 n small p.2 in
    (after_some key line p.0 p.1 ∙ ap (λ ds. key ++ ds) w.digits, w.least, w.most)

pub field_line : (key : List ℕ) (low high n : ℕ) → low ≤ n → n ≤ high → high < 2 ^ 64 → field key low high (key ++ decimal n) ≡ Some n
unfolding field
field_line key low high n least most small =
    ap (λ r. onward r (numeral low high)) (after_key key (decimal n)) ∙ numeral-decimal low high n least most small

-- the member of a number below 32
pub seat : (n : ℕ) (o : Option ℕ) → n < 32 → o ≡ cond (ltb n 32) (Some n) None → o ≡ Some n
seat n o few e = let lt = lt-ltb n 32 few in cc
