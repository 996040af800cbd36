use Rattle.std.proofs.Common.{sym, ◌∙◌}
use Rattle.sheet.proofs.Numerals.{untrim, no_text, ok_some, ok_none, parsed}
use Rattle.sheet.proofs.reading.numeral.Goals as goal

pub returns-then-not-is_trim : goal.returns-then-not-is_trim
returns-then-not-is_trim c = untrim 0 18446744073709551615 c.args.digits.now c.if-not-is_trim.ensures

pub returns-in_err-ok : goal.returns-in_err-ok
returns-in_err-ok c =
    c.from_residual.ensures ∙ ok_none c.from_utf8.result _ _ (sym c.ok.ensures.value ∙ c.in_err-ok.was) c.from_utf8.ensures.cases (λ y p. no_text 0 18446744073709551615 c.args.digits.now p.0)

pub returns : goal.returns
returns c =
    let text = ok_some c.from_utf8.result _ _ c.in_ok-ok.field-0 (sym c.ok.ensures.value ∙ c.in_ok-ok.was) c.from_utf8.ensures.cases in
    c.ok-2.ensures.value ∙ parsed c.args.digits.now c.parse.result c.if-not-is_trim.ensures (rw text.0 at c.parse.ensures.value.0)
