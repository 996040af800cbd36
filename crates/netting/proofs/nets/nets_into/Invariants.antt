use Rattle.std.proofs.Common.{◌≡◌, ℕ, ◌<◌, get_or}
use Rattle.netting.specs.Nets.{net_of}
use Rattle.netting.proofs.nets.nets_into.Given as goal

abbrev pub invariant-loop-account : goal.invariant-loop-account
invariant-loop-account g l = (k : ℕ) (d : g.row.F.Denot) → k < l.account → get_or l.nets k d ≡ net_of g.F.Figure.group l.entries k
