-- What a house holds, as values.
use Rattle.std.specs.Prelude.{Bool, List, replicate, None, Option, is_none}
use Rattle.std.specs.List.{list_all}
use Rattle.sheet.specs.declared.order.Order.{Order}
use Rattle.book.specs.Reading.{Reading, reading}
use Rattle.house.specs.declared.house.House.{House}

pub record Holding : Type 0 where
  pub book : Reading
  -- the order that is outstanding with each member, where there is one
  pub orders : List (Option Order)

abbrev pub holding : House → Holding
holding h = record { book = reading h.book; orders = h.orders }

-- no order is outstanding
abbrev pub settled : List (Option Order) → Bool
settled orders = list_all is_none orders

-- a book, and no order
abbrev pub new_house : Reading → Holding
new_house b = record { book = b; orders = replicate 32 None }
