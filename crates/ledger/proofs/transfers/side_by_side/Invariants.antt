use Rattle.std.proofs.Common.{◌≡◌, Decides, take}
use Rattle.ledger.specs.Transfers.{decisions, funds_after}
use Rattle.ledger.proofs.transfers.side_by_side.Given as goal

-- what is promised of all transfers, of those made so far
abbrev pub invariant-loop-transfer : goal.invariant-loop-transfer
invariant-loop-transfer g l =
    let made = take l.transfer-index l.transfers in
    let f = g.L.Ledger.means l.initial.first in
    let h = g.R.Ledger.means l.initial.second in
    record {
      first : g.L.Ledger.means l.first ≡ funds_after f made;
      second : g.R.Ledger.means l.second ≡ funds_after h made;
      alike : Decides l.alike (decisions f made ≡ decisions h made);
    }
