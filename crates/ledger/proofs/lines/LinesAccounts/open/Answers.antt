use Rattle.ledger.specs.Drawn.{undrawn_leave, undrawn_untouched}
use Rattle.ledger.proofs.lines.LinesAccounts.open.Goals as goal

pub returns : goal.returns
returns c =
    let xs = c.args.balances.each in
    let ls = c.with_nothing_drawn.result in
    let e = c.with_nothing_drawn.ensures in
    record { funds = undrawn_leave xs ls e; fresh = undrawn_untouched xs ls e }
