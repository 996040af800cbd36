-- What holds of every live swap.
use Rattle.std.specs.Prelude.{◌≡◌, ℕ, ◌<◌, ◌≤◌, Bool, true, ◌&&◌, ◌||◌, List, [], ◌∷◌, length, ℤ, pos, Result, ◌==◌, ◌≢◌, nat_le, nat_lt, slice_index_or, unsigned_abs}
use Rattle.refusal.specs.declared.Refusal.{Refusal}
use Rattle.refusal.specs.declared.Refusal.TheVariants.{NotParty}
use Rattle.refusal.specs.Checks.{within, check}
use Rattle.coupons.specs.declared.legs.Kind.{Kind}
use Rattle.coupons.specs.declared.legs.Kind.TheVariants.{Irs, Ois, CrossCurrency}
use Rattle.coupons.specs.declared.lines.Terms.{Terms}
use Rattle.swaps.specs.declared.state.State.{State}
use Rattle.swaps.specs.declared.state.State.TheVariants.{Plain, Asked, Agreed}
use Rattle.swaps.specs.declared.state.Event.{Event}
use Rattle.swaps.specs.declared.state.Event.TheVariants.{Ask, Yes, No}
use Rattle.swaps.specs.declared.swap.Swap.{Swap}

-- what a list of swaps has past its end: all zeros
abbrev pub blank : Swap
blank = record { number = 0; long = 0; short = 0; terms = record { kind = Irs; millions = pos 0; thousands = pos 0 }; npv = pos 0; registered = 0; maturity = 0; state = Plain }

-- an NPV or a payment: within 10^13 centavos
abbrev pub Modest : ℤ → Type 0
Modest x = unsigned_abs x ≤ 10000000000000

-- dollars are for cross-currency swaps alone
abbrev pub dollars : Kind → ℤ → Bool
dollars Irs k = within (pos 0) (pos 0) k
dollars Ois k = within (pos 0) (pos 0) k
dollars CrossCurrency k = within (pos 1) (pos 100000) k

abbrev pub nominal : Terms → Bool
nominal t = within (pos 1) (pos 100000) t.millions && dollars t.kind t.thousands

-- an early end: its payment, and a session still to close and before maturity
abbrev pub timely : ℕ → ℕ → State → Bool
timely closed maturity Plain = true
timely closed maturity (Asked by payment session) = nat_le (unsigned_abs payment) 10000000000000 && (nat_lt closed session && nat_lt session maturity)
timely closed maturity (Agreed payment session) = nat_le (unsigned_abs payment) 10000000000000 && (nat_lt closed session && nat_lt session maturity)

-- what is asked for is such an early end
abbrev pub timely_event : ℕ → ℕ → Event → Bool
timely_event closed maturity (Ask by payment session) = timely closed maturity (Asked by payment session)
timely_event closed maturity (Yes by) = true
timely_event closed maturity (No by) = true

-- two accounts of the house that differ
abbrev pub Between : ℕ → Swap → Type 0
Between accounts s = (s.long < accounts) × (s.short < accounts) × (s.long ≢ s.short)

-- nominals and NPV within their limits
abbrev pub Limited : Swap → Type 0
Limited s = (nominal s.terms ≡ true) × Modest s.npv

-- maturity and an early end are still to close
abbrev pub Due : ℕ → Swap → Type 0
Due closed s = (closed < s.maturity) × (s.maturity ≤ 100000) × (timely closed s.maturity s.state ≡ true)

-- a live swap of a house with so many accounts that has closed so many sessions
abbrev pub Fair : ℕ → ℕ → Swap → Type 0
Fair accounts closed s = Between accounts s × Limited s × Due closed s

-- what holds of each of the swaps
abbrev pub Each : (Swap → Type 0) → List Swap → Type 0
Each P ss = (k : ℕ) → k < length ss → P (slice_index_or ss k blank)

-- the numbers rise strictly, and none is above the last one given
abbrev pub rising : ℕ → ℕ → List Swap → Bool
rising low given [] = nat_le low given
rising low given (s ∷ ss) = nat_lt low s.number && rising s.number given ss

-- the account is one of the swap's two
abbrev pub party : Swap → ℕ → Result Unit Refusal
party s a = check (s.long == a || s.short == a) NotParty
