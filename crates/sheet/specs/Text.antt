-- The text of a sheet.
use Rattle.std.specs.Prelude.{ℕ, ◌+◌, List, [], ◌∷◌, ◌++◌, ℤ, Some, None, codes, decimal, Option}
use Rattle.std.specs.List.{flat_map}
use Rattle.sheet.specs.declared.order.Order.{Order}
use Rattle.sheet.specs.declared.order.Side.{Side}
use Rattle.sheet.specs.declared.order.Side.TheVariants.{Charge, Credit}
use Rattle.sheet.specs.Orders.{order_of, orders}

-- a line and the LF that ends it
abbrev pub ended : List ℕ → List ℕ
ended line = line ++ (10 ∷ [])

-- the line of an order's side
abbrev pub side_line : Side → List ℕ
side_line Charge = codes "order=charge"
side_line Credit = codes "order=credit"

-- the three lines of an order of member m
abbrev pub order_lines : ℕ → Option Order → List (List ℕ)
order_lines m None = []
order_lines m (Some o) = (codes "member=" ++ decimal m) ∷ (side_line o.side ∷ ((codes "centavos=" ++ decimal o.centavos) ∷ []))

-- the lines of the orders of members m, m + 1 and on
unfoldable pub all_lines : ℕ → List ℤ → List (List ℕ)
all_lines m [] = []
all_lines m (z ∷ zs) = order_lines m (order_of z) ++ all_lines (m + 1) zs

-- the lines of a sheet
abbrev pub lines : ℕ → List ℤ → List (List ℕ)
lines session nets = (codes "session=" ++ decimal session) ∷ (all_lines 0 nets ++ ((codes "end=" ++ decimal (orders nets)) ∷ []))

-- the text of a sheet
unfoldable pub text : ℕ → List ℤ → List ℕ
text session nets = flat_map ended (lines session nets)
