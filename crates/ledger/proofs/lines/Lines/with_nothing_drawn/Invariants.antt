use Rattle.std.proofs.Common.{◌≡◌, ℕ, ◌<◌, length, get_or, pos}
use Rattle.ledger.specs.Lines.{undrawn, no_limit}
use Rattle.ledger.proofs.lines.Lines.with_nothing_drawn.Given as goal

abbrev pub invariant-loop-i : goal.invariant-loop-i
invariant-loop-i l = record {
  long : length l.lines ≡ 32;
  each : (k : ℕ) → k < l.i → ((get_or l.lines k (undrawn 0 no_limit)).limit ≡ get_or l.limits.each k 0) × ((get_or l.lines k (undrawn 0 no_limit)).drawn ≡ pos 0);
}
