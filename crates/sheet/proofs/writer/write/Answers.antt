use Rattle.std.proofs.Common.{◌≡◌, true, length, nat_abs, is_ok, sym, ap, ◌∙◌, arith, w64}
use Rattle.std.proofs.lemmas.List.{take_at}
use Rattle.std.proofs.lemmas.Int.{ints, to_z-of_z}
use Rattle.sheet.specs.Reading.{reads}
use Rattle.sheet.specs.Text.{text}
use Rattle.sheet.specs.Writing.{sendable, Sendable}
use Rattle.sheet.proofs.Complete.{complete}
use Rattle.sheet.proofs.Writes.{sendable_tells}
use Rattle.sheet.proofs.writer.write.Goals as goal
use Rattle.sheet.proofs.writer.write.Goals.{In_ok-check_figures, After-compose-page}

passed : (c : In_ok-check_figures) → true ≡ is_ok (sendable c.args.session c.args.nets.now)
passed c = ap is_ok c.in_ok-check_figures.ensures ∙ ap (λ z. is_ok (sendable z c.args.nets.now)) (to_z-of_z w64 c.args.session c.ranges.session)

able : (c : In_ok-check_figures) → Sendable c.args.session c.args.nets.now
able c = sendable_tells c.args.session c.args.nets.now (passed c)

pub overflow_cast-session : goal.overflow_cast-session
overflow_cast-session c =
    let h = able (goal.at.overflow_cast-session c).In_ok-check_figures in
    let low = h.from in
    let high = h.to in
    (grind (arith, ints), omega (arith, ints))

pub compose-page-requires : goal.compose-page-requires
compose-page-requires c =
    let h = able (goal.at.compose-page-requires c).In_ok-check_figures in
    let low = h.from in
    let high = h.to in
    record { session = omega (arith, ints); few = h.few; nets = h.paid }

-- the page holds the text
whole : (c : After-compose-page) → c.compose-page.result.bytes ≡ text (nat_abs c.args.session) c.args.nets.now
whole c = c.compose-page.ensures ∙ ap (λ z. text (nat_abs z) c.args.nets.now) (to_z-of_z w64 c.args.session c.ranges.session)

pub returns-clause-reads_back : goal.returns-clause-reads_back
returns-clause-reads_back c =
    let page = whole (goal.at.returns-clause-reads_back c).After-compose-page in
    let copied : c.copy_from_slice.new.self ≡ text (nat_abs c.args.session) c.args.nets.now = c.copy_from_slice.ensures.after ∙ c.as_bytes.ensures.value ∙ c.deref.ensures.0 ∙ page in
    let long = c.len-len.ensures.value ∙ ap length page in
    rw copied (ap reads (take_at _ _ c.len-len.result (sym long)) ∙ complete c.args.session c.args.nets.now (able (goal.at.returns-clause-reads_back c).In_ok-check_figures))
