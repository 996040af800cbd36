use Rattle.std.proofs.Common.{is_ok, ap}
use Rattle.refusal.specs.declared.Refusal.TheVariants.{SettlementUnderWay}
use Rattle.refusal.specs.Checks.{check}
use Rattle.book.specs.Reading.{reading}
use Rattle.book.specs.Calls.{offered, taken}
use Rattle.house.specs.Holding.{holding, settled}
use Rattle.house.proofs.Waits.{told, waited}
use Rattle.house.proofs.house.House.accept.Goals as goal

pub returns : goal.returns
returns c =
    let h = holding c.args.self.now in
    let wait = check (settled h.orders) SettlementUnderWay in
    let through = ap is_ok c.in_ok-check_settled.ensures in
    let book = offered h.book c.args.offer.now in
    record {
      answer = told wait book (λ s. s.number) c.accept.result through c.accept.ensures.answer;
      after = waited h wait book (reading c.accept.new.self) (taken h.book) through c.accept.ensures.after;
    }
