-- What the calls of a house answer: what moves the book waits until no order is outstanding.
use Rattle.std.specs.Prelude.{ℕ, Ok, Err, Result}
use Rattle.refusal.specs.declared.Refusal.{Refusal}
use Rattle.refusal.specs.declared.Refusal.TheVariants.{SettlementUnderWay}
use Rattle.refusal.specs.Checks.{check, ◌then◌}
use Rattle.book.specs.declared.calls.Offer.{Offer}
use Rattle.book.specs.declared.words.Request.{Request}
use Rattle.book.specs.declared.words.Reply.{Reply}
use Rattle.swaps.specs.declared.state.State.{State}
use Rattle.swaps.specs.declared.swap.Swap.{Swap}
use Rattle.book.specs.Reading.{Reading}
use Rattle.book.specs.Calls.{offered, asked, replied}
use Rattle.house.specs.Holding.{Holding, settled}

-- what an answer does to a house: a refusal does nothing
abbrev pub afterwards : {X E : Type 0} → Result X E → Holding → (X → Holding) → Holding
afterwards (Ok x) h next = next x
afterwards (Err e) h next = h

-- the house with another book
abbrev pub with_book : Holding → Reading → Holding
with_book h b = record { book = b; orders = h.orders }

abbrev pub accepting : Holding → Offer → Result Swap Refusal
accepting h o = check (settled h.orders) SettlementUnderWay then offered h.book o

abbrev pub asking : Holding → Request → Result (ℕ × State) Refusal
asking h r = check (settled h.orders) SettlementUnderWay then asked h.book r

abbrev pub answering : Holding → Reply → Result (ℕ × State) Refusal
answering h r = check (settled h.orders) SettlementUnderWay then replied h.book r
