-- Legs by their letters, and the kinds of swaps that have them.
use Rattle.std.specs.Prelude.{ℕ, Bool, true, false, cond, ℤ, Some, None, Ok, Err, Option, Result, ◌≡◌, ◌==◌}
use Rattle.refusal.specs.declared.Refusal.{Refusal}
use Rattle.refusal.specs.declared.Refusal.TheVariants.{UnknownKind}
use Rattle.coupons.specs.declared.legs.Kind.{Kind}
use Rattle.coupons.specs.declared.legs.Kind.TheVariants.{Irs, Ois, CrossCurrency}
use Rattle.coupons.specs.declared.legs.Leg.{Leg}
use Rattle.coupons.specs.declared.legs.Leg.TheVariants.{Fixed, Variable, Dollars, Overnight}

-- the kind of a letter: I, O or C
abbrev pub kind_of : ℕ → Result Kind Refusal
kind_of letter = cond (letter == 73) (Ok Irs) (cond (letter == 79) (Ok Ois) (cond (letter == 67) (Ok CrossCurrency) (Err UnknownKind)))

-- the letter of a kind
abbrev pub letter_of_kind : Kind → ℕ
letter_of_kind Irs = 73
letter_of_kind Ois = 79
letter_of_kind CrossCurrency = 67

-- each kind is that of its letter
abbrev pub KindsReadBack : Type 0
KindsReadBack = (kind : Kind) → kind_of (letter_of_kind kind) ≡ Ok kind

-- the leg of a letter, F, V, U or O, and its two figures
abbrev pub leg_of : ℕ → ℤ → ℤ → Option Leg
leg_of letter a b =
    cond (letter == 70) (Some (Fixed a b)) (cond (letter == 86) (Some (Variable a b)) (cond (letter == 85) (Some (Dollars a b)) (cond (letter == 79) (Some (Overnight a b)) None)))

-- whether a swap of that kind has such a leg
abbrev pub of_kind : Kind → Leg → Bool
of_kind Irs (Fixed r d) = true
of_kind Irs (Variable r d) = true
of_kind Irs (Dollars r d) = false
of_kind Irs (Overnight f n) = false
of_kind Ois (Fixed r d) = true
of_kind Ois (Variable r d) = false
of_kind Ois (Dollars r d) = false
of_kind Ois (Overnight f n) = true
of_kind CrossCurrency (Fixed r d) = false
of_kind CrossCurrency (Variable r d) = false
of_kind CrossCurrency (Dollars r d) = true
of_kind CrossCurrency (Overnight f n) = true
