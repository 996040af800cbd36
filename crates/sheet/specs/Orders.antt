-- What a list of nets orders, a net for each member from 0 on.
use Rattle.std.specs.Prelude.{ℕ, zero, suc, ◌+◌, Bool, true, false, List, [], ◌∷◌, ℤ, pos, negsuc, neg_ℤ, ◌+ℤ◌, Some, None, Option}
use Rattle.sheet.specs.declared.order.Order.{Order}
use Rattle.sheet.specs.declared.order.Side.{Side}
use Rattle.sheet.specs.declared.order.Side.TheVariants.{Charge, Credit}

-- a negative net is a charge, a positive one a credit, and a net of 0 no order
abbrev pub order_of : ℤ → Option Order
order_of (pos zero) = None
order_of (pos (suc n)) = Some (record { side = Credit; centavos = suc n })
order_of (negsuc n) = Some (record { side = Charge; centavos = suc n })

-- the net of an amount, by its side
abbrev pub net_of : Side → ℕ → ℤ
net_of Charge n = neg_ℤ (pos n)
net_of Credit n = pos n

-- 1 where there is an order
abbrev pub one : Option Order → ℕ
one None = 0
one (Some o) = 1

-- an amount, where the side is that of a charge, or 0
abbrev pub charged : Side → ℕ → ℕ
charged Charge n = n
charged Credit n = 0

-- and where it is that of a credit
abbrev pub credited : Side → ℕ → ℕ
credited Charge n = 0
credited Credit n = n

-- the centavos of an order, where it is of that side, or 0
abbrev pub moved : Side → Option Order → ℕ
moved d None = 0
moved Charge (Some o) = charged o.side o.centavos
moved Credit (Some o) = credited o.side o.centavos

-- how many orders there are
abbrev pub orders : List ℤ → ℕ
orders [] = 0
orders (z ∷ zs) = one (order_of z) + orders zs

-- what the orders of a side add up to
abbrev pub sum_of : Side → List ℤ → ℕ
sum_of d [] = 0
sum_of d (z ∷ zs) = moved d (order_of z) + sum_of d zs

-- what the charges add up to
abbrev pub charges : List ℤ → ℕ
charges = sum_of Charge

-- what the nets add up to
abbrev pub total : List ℤ → ℤ
total [] = pos 0
total (z ∷ zs) = z +ℤ total zs

-- a figure is 0
abbrev pub nil : ℤ → Bool
nil (pos zero) = true
nil (pos (suc n)) = false
nil (negsuc n) = false
