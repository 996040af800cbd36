use Rattle.std.proofs.Common.{rules}
use Rattle.std.proofs.iter.runs.Made.{chains}
use Rattle.sheet.proofs.Nets.{orders_count}
use Rattle.sheet.proofs.order.count_orders.Goals as goal

pub returns-clause-answer : goal.returns-clause-answer
returns-clause-answer c = search (rules, chains, orders_count)
