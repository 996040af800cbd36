-- The funds that a book means: what its accounts hold, and the house fund.
use Rattle.std.specs.Prelude.{List, ℕ, map}
use Rattle.ledger.specs.declared.accounts.Balances.{Balances}
use Rattle.ledger.specs.declared.book.Book.{Book}
use Rattle.ledger.specs.declared.lines.Lines.{Lines}
use Rattle.ledger.specs.Funds.{Funds}
use Rattle.ledger.specs.Lines.{left}

abbrev pub book_funds : {A : Type 0} → (A → List ℕ) → Book A → Funds
book_funds holds b = record { members = holds b.accounts; house = b.house }

-- a deposit book holds the members' balances, and a line book what is left of their lines
abbrev pub deposits : Book Balances → Funds
deposits = book_funds (λ a. a.each)

abbrev pub line_funds : Book Lines → Funds
line_funds = book_funds (λ a. map left a.lines)
