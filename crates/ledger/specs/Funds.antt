-- What a ledger means: the funds of 32 members and the house fund, and what a charge, a credit and a top-up decide and move.
use Rattle.std.specs.Prelude.{◌≡◌, ℕ, ◌+◌, ◌-◌, ◌<◌, ◌≤◌, Bool, true, false, ◌&&◌, List, length, Ok, Err, Result, nat_le, nat_lt, slice_index, slice_set}
use Rattle.ledger.specs.declared.Rejected.{Rejected}

-- the limits of a fund and of an amount, in centavos
abbrev pub fund_limit : ℕ
fund_limit = 4000000000000000000

abbrev pub amount_limit : ℕ
amount_limit = 200000000000000000

pub record Funds : Type 0 where
  pub members : List ℕ
  pub house : ℕ

-- a member's fund, and 0 past the last member
abbrev pub fund : Funds → ℕ → ℕ
fund f m = slice_index f.members m

-- there are 32 members, and every fund is within its limits
abbrev pub Whole : Funds → Type 0
Whole f = (length f.members ≡ 32) × ((k : ℕ) → k < 32 → fund f k ≤ fund_limit) × (f.house ≤ fund_limit)

-- an amount of 1 to 2 × 10^17
abbrev pub good_amount : ℕ → Bool
good_amount a = nat_le 1 a && nat_le a amount_limit

-- a member there is, and an amount within its limits
abbrev pub good_figures : ℕ → ℕ → Bool
good_figures m a = nat_lt m 32 && good_amount a

-- a fund has the amount to give
abbrev pub covers : ℕ → ℕ → Bool
covers x a = nat_le a x

-- a fund can take the amount in
abbrev pub room : ℕ → ℕ → Bool
room x a = nat_le (x + a) fund_limit

-- what a ledger decides on a transfer
abbrev pub Decision : Type 0
Decision = Result Unit Rejected

abbrev pub approved : Decision
approved = Ok tt

abbrev pub rejected : Decision
rejected = Err (record {})

-- a condition that fails rejects, and else the rest decides
abbrev pub provided : Bool → Decision → Decision
provided true rest = rest
provided false rest = rejected

-- an amount moves from one fund to another, or comes from outside into one
abbrev pub decides_move : ℕ → ℕ → ℕ → ℕ → Decision
decides_move m a from to = provided (good_figures m a) (provided (covers from a) (provided (room to a) approved))

abbrev pub decides_inflow : ℕ → ℕ → ℕ → Decision
decides_inflow m a to = provided (good_figures m a) (provided (room to a) approved)

abbrev pub decides_charge : Funds → ℕ → ℕ → Decision
decides_charge f m a = decides_move m a (fund f m) f.house

abbrev pub decides_credit : Funds → ℕ → ℕ → Decision
decides_credit f m a = decides_move m a f.house (fund f m)

abbrev pub decides_top_up : Funds → ℕ → ℕ → Decision
decides_top_up f m a = decides_inflow m a (fund f m)

-- the funds with another fund of a member, and with another house fund
abbrev pub with_fund : Funds → ℕ → ℕ → Funds
with_fund f m x = record { members = slice_set f.members m x; house = f.house }

abbrev pub with_house : Funds → ℕ → Funds
with_house f x = record { members = f.members; house = x }

-- one of two, by the decision
abbrev pub approved_or : {X : Type 0} → Decision → X → X → X
approved_or (Ok _) x y = x
approved_or (Err _) x y = y

abbrev pub after_charge : Funds → ℕ → ℕ → Decision → Funds
after_charge f m a d = approved_or d (with_house (with_fund f m (fund f m - a)) (f.house + a)) f

abbrev pub after_credit : Funds → ℕ → ℕ → Decision → Funds
after_credit f m a d = approved_or d (with_house (with_fund f m (fund f m + a)) (f.house - a)) f

abbrev pub after_top_up : Funds → ℕ → ℕ → Decision → Funds
after_top_up f m a d = approved_or d (with_fund f m (fund f m + a)) f
