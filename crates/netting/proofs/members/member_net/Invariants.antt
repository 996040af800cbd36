use Rattle.std.proofs.Common.{◌≡◌, length, get_or}
use Rattle.netting.specs.Nets.{only, sum_below, member_of}
use Rattle.netting.proofs.members.member_net.Given as goal

abbrev pub invariant-loop-net : goal.invariant-loop-net
invariant-loop-net g l =
    let m = g.F.Figure.group in
    l.sum ≡ sum_below m (length l.yielded) (λ a. only m (member_of l.members a) (get_or l.nets a m.none) l.whose)
