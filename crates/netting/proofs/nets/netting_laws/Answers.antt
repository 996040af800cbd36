use Rattle.netting.proofs.Sums.{balanced}
use Rattle.netting.proofs.Sizes.{size_net}
use Rattle.netting.proofs.Orders.{any_order, others_out}
use Rattle.netting.proofs.Membership.{members_between, members-balanced}
use Rattle.netting.proofs.nets.netting_laws.Goals as goal

pub returns : goal.returns
returns g c =
    let m = g.F.Figure.group in
    let w = g.met.F.Figure.lawful in
    record {
      balanced = balanced m w;
      any_order = any_order m w;
      others_out = others_out m w;
      bounded = size_net m w;
      members_between = members_between m w;
      members-balanced = members-balanced m w;
    }
