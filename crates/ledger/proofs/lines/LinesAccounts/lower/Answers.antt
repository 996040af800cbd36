use Rattle.std.proofs.Common.{arith}
use Rattle.ledger.proofs.Drawing.{drawn_funds}
use Rattle.ledger.proofs.lines.LinesAccounts.lower.Goals as goal

pub returns : goal.returns
returns c =
    let h = c.index-i.ensures in
    let b = c.args.self.now in
    drawn_funds b.lines c.index-i.result c.args.member c.args.amount c.index-self-i.result c.draw.result b.wide h.number (omega arith) c.requires.covered c.draw.ensures
