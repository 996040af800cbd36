use Rattle.std.proofs.Common.{pos, refl, rules}
use Rattle.std.proofs.iter.runs.Made.{chains}
use Rattle.std.proofs.lemmas.List.Recursion.{and_is}
use Rattle.sheet.specs.Writing.{payable}
use Rattle.sheet.proofs.writer.payable.Goals as goal

pub returns : goal.returns
unfolding payable
returns c = and_is payable _ refl (λ _ _. refl) c.args.nets.now (pos 0) c.all.result (search (rules, chains)) (search (rules, chains))
