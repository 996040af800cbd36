-- What holds of every ledger, from its contract alone.
use Rattle.std.specs.Prelude.{◌≡◌, ℕ, ◌+◌, ◌<◌, ◌≤◌, ◌≢◌, List, [], ◌∷◌, sum}
use Rattle.ledger.specs.declared.transfers.Transfer.{Transfer}
use Rattle.ledger.specs.declared.transfers.Transfer.TheVariants.{Charge, Credit, TopUp}
use Rattle.ledger.specs.Funds.{Decision, Funds, Whole, fund, approved, rejected, approved_or, fund_limit, amount_limit}
use Rattle.ledger.specs.Transfers.{decides, after, decisions, funds_after}

-- one transfer on a ledger that means these funds: just what the ledger's contract promises
abbrev pub Step : Funds → Transfer → Decision → Funds → Type 0
Step f t d f' = (d ≡ decides f t) × (f' ≡ after f t d)

-- transfers one after the other, with what was decided on each
pub data Run : Funds → List Transfer → List Decision → Funds → Type 0 where
  none : {f : Funds} → Run f [] [] f
  more : {f f₁ f₂ : Funds} {t : Transfer} {ts : List Transfer} {d : Decision} {ds : List Decision} → Step f t d f₁ → Run f₁ ts ds f₂ → Run f (t ∷ ts) (d ∷ ds) f₂

-- all 33 funds
abbrev pub total : Funds → ℕ
total f = sum f.members + f.house

-- what a transfer brings in from outside, and what all of them bring in
abbrev pub paid_in : Transfer → Decision → ℕ
paid_in (Charge m a) d = 0
paid_in (Credit m a) d = 0
paid_in (TopUp m a) d = approved_or d a 0

abbrev pub all_paid_in : List Transfer → List Decision → ℕ
all_paid_in [] ds = 0
all_paid_in (t ∷ ts) [] = 0
all_paid_in (t ∷ ts) (d ∷ ds) = paid_in t d + all_paid_in ts ds

-- the member that a transfer names
abbrev pub named : Transfer → ℕ
named (Charge m a) = m
named (Credit m a) = m
named (TopUp m a) = m

-- the member is one of the 32, and the amount within its limits
abbrev pub Figures : ℕ → ℕ → Type 0
Figures m a = (m < 32) × (1 ≤ a) × (a ≤ amount_limit)

-- and no fund would leave its own limits
abbrev pub Allowed : Funds → Transfer → Type 0
Allowed f (Charge m a) = Figures m a × (a ≤ fund f m) × (f.house + a ≤ fund_limit)
Allowed f (Credit m a) = Figures m a × (a ≤ f.house) × (fund f m + a ≤ fund_limit)
Allowed f (TopUp m a) = Figures m a × (fund f m + a ≤ fund_limit)

pub record LedgerLaws : Type 0 where
  -- ledgers that mean equal funds give equal answers to every list of transfers, and end in equal funds
  pub equal : {f g f' g' : Funds} {ts : List Transfer} {ds es : List Decision} → f ≡ g → Run f ts ds f' → Run g ts es g' → (ds ≡ es) × (f' ≡ g')
  -- these are the answers and the funds of the definitions
  pub defined : {f f' : Funds} {ts : List Transfer} {ds : List Decision} → Run f ts ds f' → (ds ≡ decisions f ts) × (f' ≡ funds_after f ts)
  -- a charge or a credit leaves the sum of all funds, and a top-up raises it by its amount
  pub charge_total : (f f' : Funds) (m a : ℕ) (d : Decision) → Whole f → Step f (Charge m a) d f' → total f' ≡ total f
  pub credit_total : (f f' : Funds) (m a : ℕ) (d : Decision) → Whole f → Step f (Credit m a) d f' → total f' ≡ total f
  pub top_up_total : (f f' : Funds) (m a : ℕ) → Whole f → Step f (TopUp m a) approved f' → total f' ≡ total f + a
  pub run_total : {f f' : Funds} {ts : List Transfer} {ds : List Decision} → Whole f → Run f ts ds f' → total f' ≡ total f + all_paid_in ts ds
  -- only the member that is named and the house fund move, and by a top-up not the house fund
  pub others : (f f' : Funds) (t : Transfer) (d : Decision) (k : ℕ) → Step f t d f' → k ≢ named t → fund f' k ≡ fund f k
  pub top_up_house : (f f' : Funds) (m a : ℕ) (d : Decision) → Step f (TopUp m a) d f' → f'.house ≡ f.house
  -- just what is allowed is approved
  pub allowed : (f f' : Funds) (t : Transfer) (d : Decision) → Step f t d f' → Allowed f t → d ≡ approved
  pub approved : (f f' : Funds) (t : Transfer) → Step f t approved f' → Allowed f t
  -- a rejection moves nothing
  pub rejected : (f f' : Funds) (t : Transfer) → Step f t rejected f' → f' ≡ f
  -- funds within their limits stay within them
  pub limits : (f f' : Funds) (t : Transfer) (d : Decision) → Whole f → Step f t d f' → Whole f'
