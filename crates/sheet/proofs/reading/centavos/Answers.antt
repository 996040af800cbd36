use Rattle.std.proofs.Common.{◌≤◌, pos, Some, codes, sym, ap, ◌∙◌, arith}
use Rattle.std.proofs.lemmas.Int.{ints}
use Rattle.sheet.specs.Numerals.{onward}
use Rattle.sheet.proofs.Fields.{field_some}
use Rattle.sheet.proofs.reading.centavos.Goals as goal

most : (c : goal.In_ok-n) → c.in_ok-n.n ≤ 200000000000000000
most c = (field_some (codes "centavos=") 1 200000000000000000 c.args.line.now c.in_ok-n.n (omega arith) (sym c.in_ok-n.ensures)).2

pub overflow_cast-result : goal.overflow_cast-result
overflow_cast-result c = record { sfits = omega (arith, most c) }

pub returns : goal.returns
returns c =
    let small = most c in
    record { answer = ap Some (omega (arith, ints)) ∙ ap (λ o. onward o (λ n. Some (pos n))) c.in_ok-n.ensures; bound = omega (arith, ints) }
