use Rattle.std.proofs.Common.{◌≡◌, ℕ, ◌^◌, ◌<◌, Bool, true, false, ◌&&◌, cond, leb, List, ◌++◌, Some, None, Option, sym, refl, ap, ◌∙◌, arith}
use Rattle.std.proofs.lemmas.Bool.Decides.{Decides-eqb, nat_tests}
use Rattle.std.specs.Bool.{then_some}
use Rattle.std.proofs.lemmas.Slice.Eq.{strip_prefix_is}
use Rattle.sheet.specs.Numerals.{field, after, onward, numeral}
use Rattle.sheet.proofs.Numerals.{after_key, after_none, narrow}
use Rattle.sheet.proofs.reading.field.Goals as goal
use Rattle.sheet.proofs.reading.field.Goals.{In_ok-strip_prefix}

pub returns-in_err-strip_prefix : goal.returns-in_err-strip_prefix
unfolding field
returns-in_err-strip_prefix c =
    let lacks = strip_prefix_is Decides-eqb c.args.line.now c.args.key.now None c.in_err-strip_prefix.ensures.cases in
    c.from_residual.ensures ∙ sym (ap (λ r. onward r (numeral c.args.low c.args.high)) (after_none c.args.key.now c.args.line.now lacks))

-- the field of a line that begins with the key
keyed : (key line rest : List ℕ) (low high : ℕ) → high < 2 ^ 64 → line ≡ key ++ rest → onward (numeral 0 18446744073709551615 rest) (λ n. cond (leb low n && leb n high) (Some n) None) ≡ field key low high line
unfolding field
keyed key line rest low high small e = narrow low high rest small ∙ sym (ap (λ r. onward r (numeral low high)) (ap (after key) e ∙ after_key key rest))

has : (c : In_ok-strip_prefix) → c.args.line.now ≡ c.args.key.now ++ c.in_ok-strip_prefix.field-0.now
has c = strip_prefix_is Decides-eqb c.args.line.now c.args.key.now (Some c.in_ok-strip_prefix.field-0) c.in_ok-strip_prefix.ensures.cases

-- a numeral as the field of its line
kept : (key line rest : List ℕ) (low high : ℕ) (o : Option ℕ) → high < 2 ^ 64 → line ≡ key ++ rest → o ≡ numeral 0 18446744073709551615 rest → onward o (λ n. cond (leb low n && leb n high) (Some n) None) ≡ field key low high line
kept key line rest low high o small e f = ap (λ o. onward o (λ n. cond (leb low n && leb n high) (Some n) None)) f ∙ keyed key line rest low high small e

pub returns-in_err-n : goal.returns-in_err-n
returns-in_err-n c =
    c.from_residual-in_err-n.ensures ∙ kept c.args.key.now c.args.line.now c.in_ok-strip_prefix.field-0.now c.args.low c.args.high None c.ranges.high.fits (has (goal.at.returns-in_err-n c).In_ok-strip_prefix) c.in_err-n.ensures

tested : (b : Bool) (n : ℕ) → then_some b n ≡ cond b (Some n) None
tested true n = refl
tested false n = refl

pub returns : goal.returns
returns c =
    let n = c.in_ok-n.n in
    let inside : c.contains.result ≡ (leb c.args.low n && leb n c.args.high) = grind (arith, nat_tests) in
    c.then_some.ensures ∙ tested c.contains.result n ∙ ap (λ b. cond b (Some n) None) inside ∙ kept c.args.key.now c.args.line.now c.in_ok-strip_prefix.field-0.now c.args.low c.args.high (Some n) c.ranges.high.fits (has (goal.at.returns c).In_ok-strip_prefix) c.in_ok-n.ensures
