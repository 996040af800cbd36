use Rattle.std.proofs.Common.{codes, sym, arith}
use Rattle.sheet.proofs.Fields.{field_some}
use Rattle.sheet.proofs.reading.with_session.Goals as goal

pub overflow_cast-result : goal.overflow_cast-result
overflow_cast-result c =
    let most = (field_some (codes "session=") 1 100000 c.args.line.now c.in_ok-session.session (omega arith) (sym c.in_ok-session.ensures)).2 in
    record { fits = omega arith }
