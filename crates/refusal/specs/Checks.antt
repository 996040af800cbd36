-- Ordered checks: the first that fails gives the refusal.
use Rattle.std.specs.Prelude.{ℕ, Bool, cond, ◌&&◌, ℤ, pos, ◌-ℤ◌, Ok, Err, Result, int_le, unsigned_abs}
use Rattle.refusal.specs.declared.Refusal.{Refusal}
use Rattle.refusal.specs.declared.Fault.{Fault}
use Rattle.refusal.specs.Refusals.{bare, on_line, on_observation}

-- a figure lies within limits, both inclusive
unfoldable pub within : ℤ → ℤ → ℤ → Bool
within low high x = int_le low x && int_le x high

-- a check passes, or gives its refusal
abbrev pub check : {E : Type 0} → Bool → E → Result Unit E
check ok e = cond ok (Ok tt) (Err e)

-- the first check that fails gives the refusal, and else the rest is the answer
infixr 10 ◌then◌
abbrev pub ◌then◌ : {X E : Type 0} → Result Unit E → Result X E → Result X E
Ok _ then rest = rest
Err e then rest = Err e

-- an answer goes into what comes next, and a refusal stays
infixr 10 ◌into◌
abbrev pub ◌into◌ : {X Y E : Type 0} → Result X E → (X → Result Y E) → Result Y E
Ok x into next = next x
Err e into next = Err e

-- a figure from low up to and without end, as a number
abbrev pub count_of : ℕ → ℕ → ℤ → Refusal → Result ℕ Refusal
count_of low end x e = check (within (pos low) (pos end -ℤ pos 1) x) e then Ok (unsigned_abs x)

-- a refusal from below, as a fault with no place
abbrev pub raised : {X : Type 0} → Result X Refusal → Result X Fault
raised (Ok x) = Ok x
raised (Err e) = Err (bare e)

-- a refusal from below, as a fault at a line
abbrev pub placed : {X : Type 0} → ℕ → Result X Refusal → Result X Fault
placed line (Ok x) = Ok x
placed line (Err e) = Err (on_line line (bare e))

-- a refusal from below, as a fault at an observation
abbrev pub seen : {X : Type 0} → ℕ → Result X Refusal → Result X Fault
seen observation (Ok x) = Ok x
seen observation (Err e) = Err (on_observation observation (bare e))
