-- What a transfer moves, and what it leaves.
use Rattle.std.proofs.Common.{◌≡◌, ℕ, ◌+◌, ◌-◌, ◌<◌, ◌≤◌, ◌≢◌, List, ◌∷◌, Ok, Err, sym, refl, ap, ◌∙◌, subst, arith}
use Rattle.std.proofs.lemmas.List.{length-set, get_or-set_other}
use Rattle.std.proofs.lemmas.List.Sums.{sum_by-set}
use Rattle.std.proofs.lemmas.Bool.Decides.{nat_tests}
use Rattle.ledger.specs.declared.transfers.Transfer.{Transfer}
use Rattle.ledger.specs.declared.transfers.Transfer.TheVariants.{Charge, Credit, TopUp}
use Rattle.ledger.specs.Funds as funds
use Rattle.ledger.specs.Funds.{Decision, Funds, Whole, fund, decides_move, decides_inflow, with_fund, with_house, fund_limit}
use Rattle.ledger.specs.Transfers.{decides, after, decisions, funds_after}
use Rattle.ledger.specs.Laws.{Step, Run, none, more, total, paid_in, all_paid_in, named, Figures, Allowed}
use Rattle.ledger.proofs.Limits.{limited_set}

-- what it tells that an amount may move from one fund to another, or come into one
pub move_approved : (m a x y : ℕ) → funds.approved ≡ decides_move m a x y → Figures m a × (a ≤ x) × (y + a ≤ fund_limit)
move_approved m a x y e = grind (arith, nat_tests)

pub inflow_approved : (m a y : ℕ) → funds.approved ≡ decides_inflow m a y → Figures m a × (y + a ≤ fund_limit)
inflow_approved m a y e = grind (arith, nat_tests)

pub move_allowed : (m a x y : ℕ) → Figures m a × (a ≤ x) × (y + a ≤ fund_limit) → decides_move m a x y ≡ funds.approved
move_allowed m a x y e = grind (arith, nat_tests)

pub inflow_allowed : (m a y : ℕ) → Figures m a × (y + a ≤ fund_limit) → decides_inflow m a y ≡ funds.approved
inflow_allowed m a y e = grind (arith, nat_tests)

-- chains of steps
pub defined : {f f' : Funds} {ts : List Transfer} {ds : List Decision} → Run f ts ds f' → (ds ≡ decisions f ts) × (f' ≡ funds_after f ts)
unfolding decisions funds_after
defined none = (refl, refl)
defined (more {f} {f₁} {f₂} {t} {ts} {d} {ds} step run) =
    let rest = defined run in
    let moved : f₁ ≡ after f t (decides f t) = step.1 ∙ ap (after f t) step.0 in (
      ap (λ e. e ∷ ds) step.0 ∙ ap (λ es. decides f t ∷ es) (rest.0 ∙ ap (λ g. decisions g ts) moved),
      rest.1 ∙ ap (λ g. funds_after g ts) moved,
    )

pub equal : {f g f' g' : Funds} {ts : List Transfer} {ds es : List Decision} → f ≡ g → Run f ts ds f' → Run g ts es g' → (ds ≡ es) × (f' ≡ g')
equal {ts = ts} e r s =
    let p = defined r in
    let q = defined s in
    (p.0 ∙ ap (λ x. decisions x ts) e ∙ sym q.0, p.1 ∙ ap (λ x. funds_after x ts) e ∙ sym q.1)

-- a rejection moves nothing
pub rejected : (f f' : Funds) (t : Transfer) → Step f t funds.rejected f' → f' ≡ f
rejected f f' (Charge m a) step = step.1
rejected f f' (Credit m a) step = step.1
rejected f f' (TopUp m a) step = step.1

-- what an approved transfer writes: the fund of the member that it names, and the house fund
record Moved (f f' : Funds) (t : Transfer) : Type 0 where
  fund-now : ℕ
  house-now : ℕ
  written : f' ≡ with_house (with_fund f (named t) fund-now) house-now
  known : named t < 32
  fund-within : fund-now ≤ fund_limit
  house-within : house-now ≤ fund_limit
  both : fund-now + house-now ≡ fund f (named t) + f.house + paid_in t funds.approved

moved : (f f' : Funds) (t : Transfer) → Whole f → Step f t funds.approved f' → Moved f f' t
moved f f' (Charge m a) whole step =
    let able = move_approved m a (fund f m) f.house step.0 in
    let low = whole.1 m able.0.0 in
    let enough = able.1 in
    record { fund-now = _; house-now = _; written = step.1; known = able.0.0; fund-within = omega arith; house-within = able.2; both = omega arith }
moved f f' (Credit m a) whole step =
    let able = move_approved m a f.house (fund f m) step.0 in
    let low = whole.2 in
    let enough = able.1 in
    record { fund-now = _; house-now = _; written = step.1; known = able.0.0; fund-within = able.2; house-within = omega arith; both = omega arith }
moved f f' (TopUp m a) whole step =
    let able = inflow_approved m a (fund f m) step.0 in
    record { fund-now = _; house-now = _; written = step.1; known = able.0.0; fund-within = able.1; house-within = whole.2; both = omega arith }

nothing-in : (t : Transfer) → paid_in t funds.rejected ≡ 0
nothing-in (Charge m a) = refl
nothing-in (Credit m a) = refl
nothing-in (TopUp m a) = refl

-- what a transfer brings into the sum of all funds
step-total : (f f' : Funds) (t : Transfer) (d : Decision) → Whole f → Step f t d f' → total f' ≡ total f + paid_in t d
step-total f f' t (Ok _) whole step =
    let p = moved f f' t whole step in
    let wide = whole.0 in
    let known = p.known in
    let sums = sum_by-set (λ y. y) f.members (named t) p.fund-now 0 (omega arith) in
    let both = p.both in
    ap total p.written ∙ omega arith
step-total f f' t (Err _) whole step = let e = nothing-in t in ap total (rejected f f' t step) ∙ omega arith

pub charge_total : (f f' : Funds) (m a : ℕ) (d : Decision) → Whole f → Step f (Charge m a) d f' → total f' ≡ total f
charge_total f f' m a d whole step = let e = step-total f f' (Charge m a) d whole step in omega arith

pub credit_total : (f f' : Funds) (m a : ℕ) (d : Decision) → Whole f → Step f (Credit m a) d f' → total f' ≡ total f
credit_total f f' m a d whole step = let e = step-total f f' (Credit m a) d whole step in omega arith

pub top_up_total : (f f' : Funds) (m a : ℕ) → Whole f → Step f (TopUp m a) funds.approved f' → total f' ≡ total f + a
top_up_total f f' m a whole step = step-total f f' (TopUp m a) funds.approved whole step

-- another member's fund stays
pub others : (f f' : Funds) (t : Transfer) (d : Decision) (k : ℕ) → Step f t d f' → k ≢ named t → fund f' k ≡ fund f k
others f f' t (Err _) k step ne = ap (λ g. fund g k) (rejected f f' t step)
others f f' (Charge m a) (Ok _) k step ne = ap (λ g. fund g k) step.1 ∙ get_or-set_other f.members m k (fund f m - a) 0 ne
others f f' (Credit m a) (Ok _) k step ne = ap (λ g. fund g k) step.1 ∙ get_or-set_other f.members m k (fund f m + a) 0 ne
others f f' (TopUp m a) (Ok _) k step ne = ap (λ g. fund g k) step.1 ∙ get_or-set_other f.members m k (fund f m + a) 0 ne

pub top_up_house : (f f' : Funds) (m a : ℕ) (d : Decision) → Step f (TopUp m a) d f' → f'.house ≡ f.house
top_up_house f f' m a (Ok _) step = ap (λ g. g.house) step.1
top_up_house f f' m a (Err _) step = ap (λ g. g.house) step.1

-- just what is allowed is approved
pub approved : (f f' : Funds) (t : Transfer) → Step f t funds.approved f' → Allowed f t
approved f f' (Charge m a) step = move_approved m a (fund f m) f.house step.0
approved f f' (Credit m a) step = move_approved m a f.house (fund f m) step.0
approved f f' (TopUp m a) step = inflow_approved m a (fund f m) step.0

pub allowed : (f f' : Funds) (t : Transfer) (d : Decision) → Step f t d f' → Allowed f t → d ≡ funds.approved
allowed f f' (Charge m a) d step able = step.0 ∙ move_allowed m a (fund f m) f.house able
allowed f f' (Credit m a) d step able = step.0 ∙ move_allowed m a f.house (fund f m) able
allowed f f' (TopUp m a) d step able = step.0 ∙ inflow_allowed m a (fund f m) able

-- funds within their limits stay within them
pub limits : (f f' : Funds) (t : Transfer) (d : Decision) → Whole f → Step f t d f' → Whole f'
limits f f' t (Ok _) whole step =
    let p = moved f f' t whole step in
    subst Whole (sym p.written) (length-set f.members (named t) p.fund-now ∙ whole.0, limited_set f.members (named t) p.fund-now p.fund-within whole.1, p.house-within)
limits f f' t (Err _) whole step = subst Whole (sym (rejected f f' t step)) whole

pub run_total : {f f' : Funds} {ts : List Transfer} {ds : List Decision} → Whole f → Run f ts ds f' → total f' ≡ total f + all_paid_in ts ds
run_total whole (none {f}) = omega arith
run_total whole (more {f} {f₁} {f₂} {t} {ts} {d} {ds} step run) =
    let here = step-total f f₁ t d whole step in
    let rest = run_total (limits f f₁ t d whole step) run in
    omega arith
