use Rattle.std.proofs.Common.{arith}
use Rattle.std.proofs.lemmas.Int.{ints}
use Rattle.refusal.specs.Checks.{within}
use Rattle.refusal.proofs.inside.Goals as goal

pub returns : goal.returns
unfolding within
returns c = let v = c.contains.ensures.value in let s = c.new.ensures.start in let e = c.new.ensures.end in let x = c.new.ensures.exhausted in rw (v, s, e, x) (grind (arith, ints))
