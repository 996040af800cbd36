use Rattle.std.proofs.Common.{◌≡◌, [], ◌∷◌, ◌++◌, eqb, Some, None, Err, rules, tests, sym, ap, ◌∙◌, subst}
use Rattle.std.proofs.lemmas.Bool.Decides.{Decides-eqb}
use Rattle.std.proofs.lemmas.Fn.{always_returns_same}
use Rattle.std.proofs.lemmas.Slice.Eq.{strip_suffix_is}
use Rattle.sheet.specs.Laws.{Accepts}
use Rattle.sheet.specs.Reading.{reads}
use Rattle.sheet.proofs.Judging.{front_decides}
use Rattle.sheet.proofs.Accepting.{Part, before_start, accepts, good_on, bad_on, cut_on, end_on}
use Rattle.sheet.proofs.reader.read.Goals as goal
use Rattle.sheet.proofs.reader.read.Goals.{In-Some, In-Some-strip_suffix}

part : (c : In-Some) → Part c.loop-part.part-iterator.rest.now c.in-Some.part.now c.next.new.self.rest.now
part c =
    let steps = c.in-Some.ensures.steps in
    let found = steps.1.2 (λ b. eqb b 10) (always_returns_same _ _ _ (λ a r f k. search (rules, tests))) in
    record { cut = steps.0; place = steps.1.0; long = steps.1.1; first = found.1; some = steps.2 }

line : (c : In-Some-strip_suffix) → c.in-Some.part.now ≡ c.in-Some-strip_suffix.text.now ++ (10 ∷ [])
line c = strip_suffix_is Decides-eqb c.in-Some.part.now (10 ∷ []) (Some c.in-Some-strip_suffix.text) c.in-Some-strip_suffix.ensures.cases

pub loop-part-init : goal.loop-part-init
loop-part-init c = rw (c.into_iter-part-iterator.ensures.into_iter_gives, c.split_inclusive-part-items.ensures.rest, c.start-reading.ensures) (before_start c.args.bytes.now)

pub returns-in_default : goal.returns-in_default
returns-in_default c =
    let bytes = c.args.bytes.now in
    let lacks = strip_suffix_is Decides-eqb c.in-Some.part.now (10 ∷ []) None c.in_default.ensures.cases in
    let e : Err c.bad_line.result ≡ reads bytes = ap Err c.bad_line.ensures ∙ cut_on bytes _ _ _ c.loop-part.line c.loop-part.reading c.loop-part.invariant (part (goal.at.returns-in_default c).In-Some) lacks in
    record { answer = e; accepts = subst (Accepts bytes) (sym e) (accepts bytes); front = front_decides bytes }

pub returns-in_default-take : goal.returns-in_default-take
returns-in_default-take c =
    let bytes = c.args.bytes.now in
    let e : Err c.bad_line-in_default-take.result ≡ reads bytes = ap Err c.bad_line-in_default-take.ensures ∙ bad_on bytes _ _ _ c.loop-part.line c.loop-part.reading c.loop-part.invariant (part (goal.at.returns-in_default-take c).In-Some) c.in-Some-strip_suffix.text.now (line (goal.at.returns-in_default-take c).In-Some-strip_suffix) c.in_default-take.ensures in
    record { answer = e; accepts = subst (Accepts bytes) (sym e) (accepts bytes); front = front_decides bytes }

pub loop-part-preserved : goal.loop-part-preserved
loop-part-preserved c =
    good_on c.args.bytes.now _ _ _ c.loop-part.line c.loop-part.reading c.loop-part.invariant (part (goal.at.loop-part-preserved c).In-Some) c.in-Some-strip_suffix.text.now c.in-Some-take.next (line (goal.at.loop-part-preserved c).In-Some-strip_suffix) c.in-Some-take.ensures

pub returns : goal.returns
returns c =
    let bytes = c.args.bytes.now in
    let e : c.finish.result ≡ reads bytes = c.finish.ensures ∙ end_on bytes c.loop-part.part-iterator.rest.now c.loop-part.line c.loop-part.reading c.in-None.ensures.steps.0 c.loop-part.invariant in
    record { answer = e; accepts = subst (Accepts bytes) (sym e) (accepts bytes); front = front_decides bytes }
