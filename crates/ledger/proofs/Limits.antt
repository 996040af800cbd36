-- Funds stay within their limits where one of them is written.
use Rattle.std.proofs.Common.{ℕ, ◌<◌, ◌≤◌, List, get_or, set, replicate, arith}
use Rattle.std.proofs.lemmas.Grind.{elements}
use Rattle.std.proofs.lemmas.List.{get_or-replicate, set_past}
use Rattle.ledger.specs.Funds.{fund_limit}

pub limited_set : (xs : List ℕ) (i a : ℕ) → a ≤ fund_limit → ((k : ℕ) → k < 32 → get_or xs k 0 ≤ fund_limit) → (k : ℕ) → k < 32 → get_or (set xs i a) k 0 ≤ fund_limit
limited_set xs i a low each k h = let here = each k h in grind (arith, elements, set_past xs i a)

pub limited_none : (k : ℕ) → k < 32 → get_or (replicate 32 0) k 0 ≤ fund_limit
limited_none k h = rw (get_or-replicate {A = ℕ} 32 k 0 0 h) (omega arith)
