use Rattle.std.proofs.Common.{◌≡◌, ℕ, ◌+◌, ◌<◌, List, length, get_or, set, inl, inr, refl, sym, ◌∙◌, arith}
use Rattle.std.proofs.lemmas.Bool.{cases_eq}
use Rattle.std.proofs.lemmas.List.{length-set, get_or-set_same, get_or-set_other}
use Rattle.ledger.specs.declared.line.Line.{Line}
use Rattle.ledger.specs.Lines.{undrawn, no_limit}
use Rattle.ledger.proofs.lines.Lines.with_nothing_drawn.Goals as goal

-- what holds of each place before i, and of what is written there, holds of each place before the next
written : (P : ℕ → Line → Type 0) (d : Line) (ls : List Line) (i : ℕ) (l : Line) → i < length ls → P i l → ((k : ℕ) → k < i → P k (get_or ls k d)) → (k : ℕ) → k < i + 1 → P k (get_or (set ls i l) k d)
written P d ls i l w here before k h = elim (cases_eq k i) [
  | inl e ↦ rw e (rw (get_or-set_same ls i l d w) here)
  | inr ne ↦ rw (get_or-set_other ls i k l d ne) (before k (omega arith))
]

pub loop-i-init : goal.loop-i-init
loop-i-init c = record { long = refl; each = λ k h. absurd (omega arith) }

pub loop-i-preserved : goal.loop-i-preserved
loop-i-preserved c =
    let xs = c.args.limits.now.each in
    let ls = c.loop-i.lines in
    let i = c.loop-i.i in
    let long = c.loop-i.invariant.long in
    let within : i < 32 = c.loop-i-test.true in
    let wide = c.args.limits.now.wide in
    record {
      long = length-set ls i _ ∙ long;
      each = written (λ k l. (l.limit ≡ get_or xs k 0) × (l.drawn ≡ _)) (undrawn 0 no_limit) ls i c.new.result (omega arith) (c.new.ensures.limit, c.new.ensures.drawn) c.loop-i.invariant.each;
    }

pub returns : goal.returns
returns c =
    let xs = c.args.limits.now.each in
    let wide = c.args.limits.now.wide in
    let done = c.loop-i-test.false in
    (c.loop-i.invariant.long ∙ sym wide, λ k h. c.loop-i.invariant.each k (omega arith))
