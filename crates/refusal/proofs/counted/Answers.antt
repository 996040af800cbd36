use Rattle.std.proofs.Common.{◌≡◌, true, false, pos, ◌-ℤ◌, Ok, sym, ap, ◌∙◌, arith}
use Rattle.std.proofs.lemmas.Int.{ints}
use Rattle.refusal.specs.Checks.{within}
use Rattle.refusal.proofs.Within.{within_low, within_high, within_same}
use Rattle.refusal.proofs.counted.Goals as goal

yes : (c : goal.Then-inside) → within (pos c.args.low) (pos c.args.end -ℤ pos 1) c.args.figure ≡ true
yes c = within_same _ _ _ _ _ _ (omega (arith, ints)) (omega (arith, ints)) (omega (arith, ints)) ∙ sym c.if-inside.ensures

no : (c : goal.Else-inside) → within (pos c.args.low) (pos c.args.end -ℤ pos 1) c.args.figure ≡ false
no c = within_same _ _ _ _ _ _ (omega (arith, ints)) (omega (arith, ints)) (omega (arith, ints)) ∙ sym c.if-inside.ensures

pub overflow_cast-result : goal.overflow_cast-result
overflow_cast-result c =
    let low = within_low _ _ _ (yes c) in
    let high = within_high _ _ _ (yes c) in
    (grind (arith, ints), omega (arith, ints))

pub returns-then-inside : goal.returns-then-inside
returns-then-inside c =
    let low = within_low _ _ _ (yes c) in
    let high = within_high _ _ _ (yes c) in
    record { answer = rw (yes c) (ap Ok (omega (arith, ints))); bounds = (omega (arith, ints), omega (arith, ints)) }

pub returns-else-inside : goal.returns-else-inside
returns-else-inside c = record { answer = rw (no c); bounds = tt }
