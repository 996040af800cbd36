use Rattle.std.proofs.Common.{ap, arith}
use Rattle.postings.specs.Postings.{postings}
use Rattle.postings.proofs.tests.what_one_gains_another_loses.Goals as goal

pub nets_into-requires : goal.nets_into-requires
nets_into-requires g c =
    let a = ap postings.size c.varied.ensures in
    let b = ap postings.size c.varied-2.ensures in
    omega arith

pub member_net-requires : goal.member_net-requires
member_net-requires g c =
    let a = ap postings.size c.varied.ensures in
    let b = ap postings.size c.varied-2.ensures in
    let l = c.nets_into.ensures.light in
    record { paired = c.nets_into.auto.nets; light = omega arith }

pub member_net-requires-2 : goal.member_net-requires-2
member_net-requires-2 g c =
    let a = ap postings.size c.varied.ensures in
    let b = ap postings.size c.varied-2.ensures in
    let l = c.nets_into.ensures.light in
    record { paired = c.nets_into.auto.nets; light = omega arith }
