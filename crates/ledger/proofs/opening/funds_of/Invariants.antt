use Rattle.std.proofs.Common.{◌≡◌, ℕ, ◌+◌, ◌<◌, ◌≤◌, get_or, take, drop}
use Rattle.ledger.specs.Funds.{fund_limit}
use Rattle.ledger.specs.Openings.{fund_checks, padded}
use Rattle.ledger.proofs.opening.funds_of.Given as goal

abbrev pub invariant-loop-i : goal.invariant-loop-i
invariant-loop-i l = record {
  checks : fund_checks (l.i + 1) (drop l.i l.figures) ≡ fund_checks 1 l.figures;
  funds : l.each ≡ padded (take l.i l.figures);
  limited : (k : ℕ) → k < 32 → get_or l.each k 0 ≤ fund_limit;
}
