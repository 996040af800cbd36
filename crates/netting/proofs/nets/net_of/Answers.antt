use Rattle.std.proofs.Common.{◌≤◌, take, arith}
use Rattle.netting.specs.Nets.{weight}
use Rattle.netting.proofs.Sums.{net_more}
use Rattle.netting.proofs.Sizes.{sum-within, size_share, size_net}
use Rattle.netting.proofs.nets.net_of.Goals as goal

pub plus-sum-requires : goal.plus-sum-requires
plus-sum-requires g c =
    let m = g.F.Figure.group in
    let w = g.met.F.Figure.lawful in
    let es = c.args.entries.now in
    let i = c.loop-e.e-index in
    let more = sum-within (λ e. m.size e.figure) es i c.e-item.result c.loop-e-test.true c.e-item.is in
    let share : m.size c.share.result ≤ m.size c.e-item.result.figure = rw c.share.ensures (size_share m w c.e-item.result c.args.account) in
    let sum : m.size c.loop-e.sum ≤ weight m (take i es) = rw c.loop-e.invariant.1 (size_net m w (take i es) c.args.account) in
    omega arith

pub loop-e-preserved : goal.loop-e-preserved
loop-e-preserved g c =
    let more = net_more g.F.Figure.group g.met.F.Figure.lawful c.args.entries.now c.loop-e.e-index c.e-item.result c.args.account c.loop-e-test.true c.e-item.is in
    let inv = c.loop-e.invariant.1 in
    (omega arith, cc)
