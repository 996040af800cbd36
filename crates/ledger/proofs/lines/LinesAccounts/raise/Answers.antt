use Rattle.std.proofs.Common.{arith}
use Rattle.ledger.proofs.Drawing.{repaid_funds}
use Rattle.ledger.proofs.lines.LinesAccounts.raise.Goals as goal

pub returns : goal.returns
returns c =
    let h = c.index-i.ensures in
    let b = c.args.self.now in
    repaid_funds b.lines c.index-i.result c.args.member c.args.amount c.index-self-i.result c.repay.result b.wide h.number (omega arith) c.repay.ensures
