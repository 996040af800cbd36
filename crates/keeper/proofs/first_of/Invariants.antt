use Rattle.std.proofs.Common.{◌≤◌, length, take}
use Rattle.keeper.proofs.Filling.{Filling}
use Rattle.keeper.proofs.first_of.Given as goal

abbrev pub invariant-loop-item : goal.invariant-loop-item
invariant-loop-item g l = (l.item-index ≤ length l.items) × Filling g.T.Ordered.before l.initial.keeper (take l.item-index l.items) l.keeper
