use Rattle.sheet.proofs.Accepting.{Before}
use Rattle.sheet.proofs.reader.read.Given as goal

abbrev pub invariant-loop-part : goal.invariant-loop-part
invariant-loop-part l = Before l.bytes l.part-iterator.rest.now l.line l.reading
