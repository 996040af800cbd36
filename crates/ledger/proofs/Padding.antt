-- The funds that a book is opened with: items checked in their turn, and padded to 32.
use Rattle.std.proofs.Common.{◌≡◌, ℕ, suc, ◌+◌, ◌-◌, ◌<◌, ◌≤◌, List, [], ◌∷◌, ◌++◌, map, length, get_or, take, drop, set, replicate, ℤ, pos, nat_abs, Ok, Err, Result, sym, refl, ap, ◌∙◌, arith}
use Rattle.refusal.specs.Checks.{◌then◌, placed}
use Rattle.refusal.specs.declared.Fault.{Fault}
use Rattle.refusal.specs.declared.Refusal.{Refusal}
use Rattle.std.proofs.lemmas.List.{append_assoc, length-append, length-map, length-replicate, length-take-le, at_drop_more, at_drop_all, set_at, map_more}
use Rattle.ledger.specs.Openings.{fund_check, fund_of, fund_checks, padded}

-- the next item, and none left
pub checks_more : (xs : List ℤ) (i n : ℕ) → i < length xs → fund_checks n (drop i xs) ≡ placed n (fund_check (get_or xs i (pos 0))) then fund_checks (n + 1) (drop (i + 1) xs)
unfolding fund_checks
checks_more xs i n h = at_drop_more (fund_checks n) xs i (pos 0) h

pub checks_all : (xs : List ℤ) (i n : ℕ) → length xs ≤ i → fund_checks n (drop i xs) ≡ Ok tt
unfolding fund_checks
checks_all xs i n h = at_drop_all (fund_checks n) xs i h

-- a figure that passed, and one that did not
pub fund_passed : (i : ℕ) (x : ℤ) (a : ℕ) → Ok a ≡ placed i (fund_of x) → (placed i (fund_check x) ≡ Ok tt) × (a ≡ nat_abs x)
fund_passed i x a e = by (fund_check x) e
  where
    by : (s : Result Unit Refusal) → Ok a ≡ placed i (s then Ok (nat_abs x)) → (placed i s ≡ Ok tt) × (a ≡ nat_abs x)
    by (Ok u) p = (refl, cc)
    by (Err y) p = absurd cc

pub fund_failed : (i : ℕ) (x : ℤ) (y : Fault) → Err y ≡ placed i (fund_of x) → placed i (fund_check x) ≡ Err y
fund_failed i x y e = by (fund_check x) e
  where
    by : (s : Result Unit Refusal) → Err y ≡ placed i (s then Ok (nat_abs x)) → placed i s ≡ Err y
    by (Ok u) p = cc
    by (Err z) p = cc

-- one more fund written over the first 0 that pads the list
pub padded_more : (xs : List ℤ) (i a : ℕ) → i < length xs → i < 32 → a ≡ nat_abs (get_or xs i (pos 0)) → set (padded (take i xs)) i a ≡ padded (take (i + 1) xs)
unfolding padded
padded_more xs i a h small e =
    let x = get_or xs i (pos 0) in
    let front = map nat_abs (take i xs) in
    let rest : List ℕ = replicate (32 - length (take (i + 1) xs)) 0 in
    let now = length-take-le i xs (omega arith) in
    let then-long = length-take-le (i + 1) xs (omega arith) in
    let one : 32 - length (take i xs) ≡ suc (32 - length (take (i + 1) xs)) = omega arith in
    ap (λ n. set (front ++ replicate n 0) i a) one
    ∙ set_at front 0 rest a i (length-map (take i xs) nat_abs ∙ now)
    ∙ sym (append_assoc front (a ∷ []) rest)
    ∙ ap (λ y. (front ++ y ∷ []) ++ rest) e
    ∙ ap (λ ys. ys ++ rest) (sym (map_more nat_abs xs i (pos 0) h))

pub length-padded : (xs : List ℤ) → length xs ≤ 32 → length (padded xs) ≡ 32
unfolding padded
length-padded xs few = omega (arith, length-append (map nat_abs xs) (replicate (32 - length xs) 0), length-map xs nat_abs, length-replicate {A = ℕ} (32 - length xs) 0)
