use Rattle.std.proofs.Common.{arith}
use Rattle.netting.specs.Wholes.{sum_back}
use Rattle.postings.specs.PostingsLemmas.{five}
use Rattle.postings.proofs.posting.PostingFigure.plus.Goals as goal

pub returns : goal.returns
returns c =
    let x = c.args.self in
    let y = c.args.other in
    let h = c.requires in
    five (sum_back x.variation y.variation c.plus.result (omega arith) c.plus.ensures)
    (sum_back x.alignment y.alignment c.plus-2.result (omega arith) c.plus-2.ensures)
    (sum_back x.coupons y.coupons c.plus-3.result (omega arith) c.plus-3.ensures)
    (sum_back x.payment y.payment c.plus-4.result (omega arith) c.plus-4.ensures)
    (sum_back x.exchange y.exchange c.plus-5.result (omega arith) c.plus-5.ensures)
