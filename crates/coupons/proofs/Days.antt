-- What it tells of observations that they passed, and their days.
use Rattle.std.proofs.Common.{◌≡◌, ℕ, zero, suc, ◌+◌, ◌<◌, ◌≤◌, List, [], ◌∷◌, length, get_or, drop, ℤ, pos, ◌+ℤ◌, ◌≤ℤ◌, Ok, Err, Result, sym, refl, ap, arith}
use lib.Signed.{le_z}
use Rattle.refusal.proofs.Then.{then_ok, check_passed}
use Rattle.refusal.specs.Checks.{check, ◌then◌, ◌into◌, seen}
use Rattle.refusal.specs.declared.Refusal.{Refusal}
use Rattle.refusal.specs.declared.Refusal.TheVariants.{MarketFigure}
use Rattle.std.proofs.lemmas.List.{at_drop_more, at_drop_all}
use Rattle.std.proofs.lemmas.Int.{ints}
use Rattle.coupons.specs.declared.overnight.Observation.{Observation}
use Rattle.coupons.specs.Limits.{overnight_checks}
use Rattle.coupons.specs.Overnight.{day_after, days_from, Modest, Good}
use Rattle.coupons.proofs.Passed.{overnight_passed}

pub ok_same : {X E : Type 0} {x y : X} → ◌≡◌ {A = Result X E} (Ok x) (Ok y) → x ≡ y
ok_same e = cc

-- an observation that passed
pub record Day (days : ℤ) (o : Observation) (after : ℤ) : Type 0 where
  pub is : days +ℤ o.days ≡ after
  pub rate_low : pos 0 ≤ℤ o.rate
  pub rate_high : o.rate ≤ℤ pos 50000
  pub days_low : pos 1 ≤ℤ o.days
  pub days_high : o.days ≤ℤ pos 10
  pub most : after ≤ℤ pos 366

pub day_passed : (days : ℤ) (o : Observation) (after : ℤ) → day_after days o ≡ Ok after → Day days o after
day_passed days o after e =
    let figures = overnight_checks o.rate o.days in
    let room = check (le_z (days +ℤ o.days) (pos 366)) MarketFigure in
    let p = then_ok figures (room then Ok (days +ℤ o.days)) after e in
    let q = then_ok room (Ok (days +ℤ o.days)) after p.1 in
    let f = overnight_passed o.rate o.days p.0 in
    let within = check_passed (le_z (days +ℤ o.days) (pos 366)) MarketFigure q.0 in
    let same = ok_same q.1 in
    record { is = same; rate_low = f.0; rate_high = f.1; days_low = f.2; days_high = f.3; most = grind (arith, ints) }

-- the next observation, by whether it passed
pub days_more : (os : List Observation) (i : ℕ) (n : ℕ) (days : ℤ) (d : Observation) → i < length os → days_from n days (drop i os) ≡ seen n (day_after days (get_or os i d)) into (λ k. days_from (n + 1) k (drop (i + 1) os))
unfolding days_from
days_more os i n days d h = at_drop_more (days_from n days) os i d h

pub days_all : (os : List Observation) (i n : ℕ) (days : ℤ) → length os ≤ i → days_from n days (drop i os) ≡ Ok days
unfolding days_from
days_all os i n days h = at_drop_all (days_from n days) os i h

pub into_ok : {X Y E : Type 0} (s : Result X E) (f : X → Result Y E) (x : X) → Ok x ≡ s → s into f ≡ f x
into_ok s f x e = rw (← e)

pub into_err : {X Y E : Type 0} (s : Result X E) (f : X → Result Y E) (y : E) → Err y ≡ s → s into f ≡ Err y
into_err s f y e = rw (← e)

pub seen_ok : {X : Type 0} (i : ℕ) (r : Result X Refusal) (x : X) → Ok x ≡ seen i r → r ≡ Ok x
seen_ok i (Ok y) x e = ap Ok (ok_same (sym e))
seen_ok i (Err y) x e = let never : ◌≡◌ {A = ℕ} 0 1 = cc in absurd (omega arith)

into_some : {X Y E : Type 0} (s : Result X E) (f : X → Result Y E) (y : Y) → s into f ≡ Ok y → (x : X) × (s ≡ Ok x) × (f x ≡ Ok y)
into_some (Ok x) f y e = (x, refl, e)
into_some (Err z) f y e = let never : ◌≡◌ {A = ℕ} 0 1 = cc in absurd (omega arith)

each_on : (o : Observation) (os : List Observation) → Modest o → ((k : ℕ) (d : Observation) → k < length os → Modest (get_or os k d)) → (k : ℕ) (d : Observation) → k < length (o ∷ os) → Modest (get_or (o ∷ os) k d)
each_on o os here rest zero d lt = here
each_on o os here rest (suc k) d lt = rest k d (omega arith)

-- observations that passed, each within its limits, and their days
pub days_good : (os : List Observation) (n : ℕ) (days after : ℤ) → pos 0 ≤ℤ days → days ≤ℤ pos 366 → days_from n days os ≡ Ok after → Good os × ((days +ℤ pos (length os)) ≤ℤ after) × (after ≤ℤ pos 366)
unfolding days_from
days_good [] n days after low high e = let same = ok_same e in (record { each = (λ k d lt. absurd (omega arith)) }, omega (arith, ints), omega (arith, ints))
days_good (o ∷ os) n days after low high e =
    let p = into_some (seen n (day_after days o)) (λ k. days_from (n + 1) k os) after e in
    let d = p.0 in
    let now = day_passed days o d (seen_ok n (day_after days o) d (sym p.1)) in
    let is = now.is in
    let some = now.days_low in
    let rest = days_good os (n + 1) d after (omega (arith, ints)) now.most p.2 in
    let more = rest.1 in
    (record { each = each_on o os (now.rate_low, now.rate_high, now.days_low, now.days_high) rest.0.each }, omega (arith, ints), rest.2)
