-- A call that waits for settlement, where that is through.
use Rattle.std.proofs.Common.{◌≡◌, true, is_ok, Ok, Err, Result, sym, ap, ◌∙◌}
use Rattle.refusal.specs.declared.Fault.{Fault}
use Rattle.refusal.specs.declared.Refusal.{Refusal}
use Rattle.refusal.specs.Checks.{raised, ◌then◌}
use Rattle.refusal.proofs.Then.{then_passes}
use Rattle.book.specs.Reading.{Reading}
use Rattle.book.specs.Calls.{answered, after}
use Rattle.house.specs.Holding.{Holding}
use Rattle.house.specs.Calls.{afterwards, with_book}

-- the answer is the book's
pub told : {X Y : Type 0} (s : Result Unit Refusal) (r : Result X Refusal) (f : X → Y) (z : Result Y Fault) → true ≡ is_ok s → z ≡ raised (answered r f) → z ≡ raised (answered (s then r) f)
told s r f z ok e = e ∙ ap (λ q. raised (answered q f)) (sym (then_passes s r ok))

booked : {X : Type 0} (h : Holding) (r : Result X Refusal) (b : Reading) (next : X → Reading) → b ≡ after r h.book next → with_book h b ≡ afterwards r h (λ x. with_book h (next x))
booked h (Ok x) b next e = ap (with_book h) e
booked h (Err y) b next e = ap (with_book h) e

-- and the house has the book that the book's call leaves
pub waited : {X : Type 0} (h : Holding) (s : Result Unit Refusal) (r : Result X Refusal) (b : Reading) (next : X → Reading) → true ≡ is_ok s → b ≡ after r h.book next → with_book h b ≡ afterwards (s then r) h (λ x. with_book h (next x))
waited h s r b next ok e = booked h r b next e ∙ ap (λ q. afterwards q h (λ x. with_book h (next x))) (sym (then_passes s r ok))
