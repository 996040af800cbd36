use Rattle.std.proofs.Common.{ap, ◌∙◌, w64}
use Rattle.std.proofs.lemmas.Int.{to_z-of_z}
use Rattle.std.specs.Prelude.{position, ok_or, ◌==◌}
use Rattle.refusal.specs.declared.Refusal.TheVariants.{NoSuchSwap}
use Rattle.refusal.specs.Checks.{◌into◌}
use Rattle.book.specs.Reading.{reading}
use Rattle.book.specs.Calls.{place_from, found}
use Rattle.book.proofs.Places.{place_is}
use Rattle.book.proofs.book.Book.found.Goals as goal

pub returns-clause-answer : goal.returns-clause-answer
returns-clause-answer c =
    let ss = (reading c.args.self.now).swaps in
    c.ok_or.ensures.value ∙ ap (λ p. ok_or p NoSuchSwap) (c.place.ensures ∙ ap (position (λ s. s.number == c.in_ok-number.number)) c.deref.ensures.value) ∙ place_is c.in_ok-number.number ss ∙ ap (λ r. r into λ n. place_from 0 n ss) c.in_ok-number.ensures.answer
    ∙ ap (found (reading c.args.self.now)) (to_z-of_z w64 c.args.number c.ranges.number)
