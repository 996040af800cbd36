use Rattle.ledger.proofs.Moves as moves
use Rattle.ledger.proofs.laws.ledger_laws.Goals as goal

pub returns : goal.returns
returns c = record {
  equal = moves.equal;
  defined = moves.defined;
  charge_total = moves.charge_total;
  credit_total = moves.credit_total;
  top_up_total = moves.top_up_total;
  run_total = moves.run_total;
  others = moves.others;
  top_up_house = moves.top_up_house;
  rejected = moves.rejected;
  approved = moves.approved;
  allowed = moves.allowed;
  limits = moves.limits;
}
