-- What a book holds, as values.
use Rattle.std.specs.Prelude.{ℕ, List, [], vec_items}
use Rattle.swaps.specs.declared.swap.Swap.{Swap}
use Rattle.book.specs.declared.book.Book.{Book}

pub record Reading : Type 0 where
  -- how many members there are, and the member of each account
  pub members : ℕ
  pub accounts : List ℕ
  -- the last closed session
  pub closed : ℕ
  -- the last number given
  pub given : ℕ
  -- the live swaps
  pub swaps : List Swap

abbrev pub reading : Book → Reading
reading b = record { members = b.members; accounts = vec_items b.accounts; closed = b.closed; given = b.given; swaps = vec_items b.table.swaps }

-- no swap, no number given, session 0 closed
abbrev pub new_book : ℕ → List ℕ → Reading
new_book members accounts = record { members = members; accounts = accounts; closed = 0; given = 0; swaps = [] }

-- a book that was never opened has no members and no accounts
abbrev pub unopened : Reading
unopened = new_book 0 []
