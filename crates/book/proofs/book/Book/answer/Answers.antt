use Rattle.std.proofs.Common.{sym}
use Rattle.book.specs.Reading.{reading}
use Rattle.book.proofs.Events.{answering_ready}
use Rattle.book.proofs.book.Book.answer.Goals as goal

pub step-requires : goal.step-requires
step-requires c =
    let ready = answering_ready (reading c.args.self.now) c.args.reply.now (c.in_ok-i.i, c.in_ok-i.event) (sym c.in_ok-i.ensures) in
    record { within = ready.0; timely = ready.1 }
