-- A check that passed gives way to the rest, and one that failed is the answer.
-- That `s` passed is had by `ap isOk e` from `e : Ok u ≡ s`.
use Rattle.std.proofs.Common.{◌≡◌, ℕ, ◌<◌, ◌≤◌, Bool, true, false, ℤ, pos, ◌-ℤ◌, nat_abs, is_ok, Ok, Err, Result, sym, refl, arith}
use Rattle.std.proofs.lemmas.Int.{ints}
use Rattle.refusal.specs.declared.Refusal.{Refusal}
use Rattle.refusal.specs.Checks.{within, check, ◌then◌, ◌into◌, count_of, placed, raised}
use Rattle.refusal.proofs.Within.{within_low, within_high}

pub then_passes : {X E : Type 0} (s : Result Unit E) (x : Result X E) → true ≡ is_ok s → s then x ≡ x
then_passes (Ok u) x e = refl
then_passes (Err y) x e = let never : ◌≡◌ {A = Bool} true false = e in absurd (grind arith)

pub then_fails : {X E : Type 0} (s : Result Unit E) (x : Result X E) (y : E) → Err y ≡ s → s then x ≡ Err y
then_fails s x y e = rw (← e)

-- checks that passed together passed each
pub then_both : {X E : Type 0} (s : Result Unit E) (x : Result X E) → true ≡ is_ok (s then x) → (true ≡ is_ok s) × (true ≡ is_ok x)
then_both (Ok u) x e = (refl, e)
then_both (Err y) x e = let never : ◌≡◌ {A = Bool} true false = e in absurd (grind arith)

-- an answer after checks: they passed, and it is the answer of the rest
pub then_ok : {X E : Type 0} (s : Result Unit E) (x : Result X E) (y : X) → s then x ≡ Ok y → (true ≡ is_ok s) × (x ≡ Ok y)
then_ok (Ok u) x y e = (refl, e)
then_ok (Err z) x y e = let never : ◌≡◌ {A = ℕ} 0 1 = cc in absurd (omega arith)

-- what was demanded holds
pub check_passed : {E : Type 0} (ok : Bool) (r : E) → true ≡ is_ok (check ok r) → ok ≡ true
check_passed true r e = refl
check_passed false r e = sym e

-- an answer that went into the rest
pub into_ok : {X Y E : Type 0} (r : Result X E) (f : X → Result Y E) (y : Y) → r into f ≡ Ok y → (x : X) × (r ≡ Ok x) × (f x ≡ Ok y)
into_ok (Ok x) f y e = (x, refl, e)
into_ok (Err z) f y e = let never : ◌≡◌ {A = ℕ} 0 1 = cc in absurd (omega arith)

-- a count that was answered lies between its ends, and is the figure
pub count_ok : (low end : ℕ) (x : ℤ) (e : Refusal) (n : ℕ) → count_of low end x e ≡ Ok n → (low ≤ n) × (n < end) × (pos n ≡ x)
count_ok low end x e n h =
    let p = then_ok (check (within (pos low) (pos end -ℤ pos 1) x) e) (Ok (nat_abs x)) n h in
    let w = check_passed (within (pos low) (pos end -ℤ pos 1) x) e p.0 in
    let a = within_low (pos low) (pos end -ℤ pos 1) x w in
    let b = within_high (pos low) (pos end -ℤ pos 1) x w in
    let same : nat_abs x ≡ n = let q = p.1 in cc in
    (omega (arith, ints), omega (arith, ints), omega (arith, ints))

-- what came through as an answer was one below
pub placed_ok : {X : Type 0} (line : ℕ) (r : Result X Refusal) (x : X) → placed line r ≡ Ok x → r ≡ Ok x
placed_ok line (Ok y) x e = cc
placed_ok line (Err z) x e = let never : ◌≡◌ {A = ℕ} 0 1 = cc in absurd (omega arith)

pub raised_ok : {X : Type 0} (r : Result X Refusal) (x : X) → raised r ≡ Ok x → r ≡ Ok x
raised_ok (Ok y) x e = cc
raised_ok (Err z) x e = let never : ◌≡◌ {A = ℕ} 0 1 = cc in absurd (omega arith)

pub ok_from : {X E : Type 0} (r : Result X E) → true ≡ is_ok r → (x : X) × (r ≡ Ok x)
ok_from (Ok x) e = (x, refl)
ok_from (Err y) e = let never : ◌≡◌ {A = Bool} true false = e in absurd (grind arith)

pub raised_passed : (ok : Bool) (r : Refusal) → true ≡ is_ok (raised (check ok r)) → ok ≡ true
raised_passed true r e = refl
raised_passed false r e = sym e
