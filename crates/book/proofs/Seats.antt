-- The members of accounts, one after the other.
use Rattle.std.proofs.Common.{◌≡◌, ℕ, zero, suc, ◌+◌, ◌<◌, ◌≤◌, true, leb, List, [], ◌∷◌, map, length, get_or, ℤ, pos, nat_abs, Ok, ap, ◌∙◌, arith}
use Rattle.std.proofs.lemmas.List.{length-map, get_or-map}
use Rattle.std.proofs.lemmas.Int.{ints}
use Rattle.std.proofs.lemmas.Bool.Decides.{nat_tests}
use Rattle.refusal.specs.declared.Refusal.TheVariants.{OutOfRange}
use Rattle.refusal.specs.Checks.{check, count_of, placed, raised}
use Rattle.refusal.proofs.Then.{then_ok, into_ok, count_ok, placed_ok, raised_ok, raised_passed, ok_from}
use Rattle.book.specs.Opening.{seats_from, opening}

-- where all passed, each account has a member of the house
seats_ok : (m line : ℕ) (xs : List ℤ) (u : Unit) → seats_from m line xs ≡ Ok u → (k : ℕ) → k < length xs → nat_abs (get_or xs k (pos 0)) < m
seats_ok m line [] u e k l = absurd (omega arith)
seats_ok m line (x ∷ xs) u e zero l =
    let p = into_ok (placed line (count_of 0 m x OutOfRange)) _ u e in
    let c = count_ok 0 m x OutOfRange p.0 (placed_ok line (count_of 0 m x OutOfRange) p.0 p.1) in
    let same = c.2 in
    let below = c.1 in
    omega (arith, ints)
seats_ok m line (x ∷ xs) u e (suc k) l =
    let p = into_ok (placed line (count_of 0 m x OutOfRange)) (λ _. seats_from m (line + 1) xs) u e in
    seats_ok m (line + 1) xs u p.2 k (omega arith)

pub record Opened (m : ℕ) (accounts : List ℤ) : Type 0 where
  pub roll : m ≤ 32
  pub narrow : length accounts ≤ 64
  pub seated : (k : ℕ) → k < length accounts → nat_abs (get_or accounts k (pos 0)) < m

pub opening_ok : (members : ℤ) (accounts : List ℤ) (m : ℕ) → opening members accounts ≡ Ok m → Opened m accounts
opening_ok members accounts m e =
    let p = into_ok (raised (count_of 1 33 members OutOfRange)) _ m e in
    let q = then_ok (raised (check (leb 1 (length accounts)) OutOfRange)) _ m p.2 in
    let r = then_ok (raised (check (leb (length accounts) 64) OutOfRange)) _ m q.1 in
    let s = then_ok (seats_from p.0 1 accounts) (Ok p.0) m r.1 in
    let same : p.0 ≡ m = let z = s.1 in cc in
    let n = count_ok 1 33 members OutOfRange p.0 (raised_ok _ p.0 p.1) in
    let few : leb (length accounts) 64 ≡ true = raised_passed (leb (length accounts) 64) OutOfRange r.0 in
    let all = ok_from (seats_from p.0 1 accounts) s.0 in
    record {
      roll = omega arith;
      narrow = grind (arith, nat_tests);
      seated = λ k l. let below = seats_ok p.0 1 accounts all.0 all.1 k l in omega arith;
    }

-- the list that is written then
pub seats_written : (m : ℕ) (accounts : List ℤ) (ys : List ℕ) → ys ≡ map nat_abs accounts → Opened m accounts → (length ys ≤ 64) × ((k : ℕ) → k < length ys → get_or ys k 0 < m)
seats_written m accounts ys e o =
    let n : length ys ≡ length accounts = ap length e ∙ length-map accounts nat_abs in
    let narrow = o.narrow in
    (omega arith, λ k l. let below = o.seated k (omega arith) in let read : get_or ys k 0 ≡ nat_abs (get_or accounts k (pos 0)) = ap (λ xs. get_or xs k 0) e ∙ get_or-map nat_abs accounts k (pos 0) 0 (omega arith) in omega arith)
