use Rattle.std.proofs.Common.{codes, sym, ◌∙◌, arith}
use Rattle.sheet.proofs.Fields.{field_some, seat}
use Rattle.sheet.proofs.reading.member.Goals as goal

pub returns : goal.returns
returns c =
    let n = c.in_ok-number.number in
    let most = (field_some (codes "member=") c.args.lowest 31 c.args.line.now n (omega arith) (sym c.in_ok-number.ensures)).2 in
    seat n c.new.result (omega arith) c.new.ensures ∙ c.in_ok-number.ensures
