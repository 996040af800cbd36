use Rattle.std.proofs.Common.{◌≡◌, ◌≤◌, length, take}
use Rattle.netting.specs.Nets.{net_of}
use Rattle.netting.proofs.nets.net_of.Given as goal

abbrev pub invariant-loop-e : goal.invariant-loop-e
invariant-loop-e g l = (l.e-index ≤ length l.entries) × (l.sum ≡ net_of g.F.Figure.group (take l.e-index l.entries) l.account)
