use Rattle.std.proofs.Common.{◌≡◌, ◌≤◌, ◌++◌, length, take, drop}
use Rattle.ledger.specs.Transfers.{decisions, funds_after}
use Rattle.ledger.proofs.transfers.run.Given as goal

-- what is promised of all transfers, of those made so far
abbrev pub invariant-loop-i : goal.invariant-loop-i
invariant-loop-i g l =
    let made = take l.i l.transfers in
    let f = g.L.Ledger.means l.initial.ledger in
    record {
      places : length l.transfers ≤ length l.initial.answers;
      funds : g.L.Ledger.means l.ledger ≡ funds_after f made;
      decided : l.answers ≡ decisions f made ++ drop l.i l.initial.answers;
    }
