use Rattle.std.proofs.Common.{rules}
use Rattle.std.proofs.iter.runs.Made.{chains}
use Rattle.sheet.proofs.Nets.{sum_of_sum}
use Rattle.sheet.proofs.order.sum_of.Goals as goal

pub returns : goal.returns
returns c = search (rules, chains, sum_of_sum)
