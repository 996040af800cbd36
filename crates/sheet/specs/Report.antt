-- The report on a sheet.
use Rattle.std.specs.Prelude.{ℕ, List, [], ◌∷◌, ◌++◌, Ok, Err, codes, decimal, Result}
use Rattle.refusal.specs.declared.Fault.{Fault}
use Rattle.refusal.specs.Refusals.{number}
use Rattle.sheet.specs.declared.reading.Sheet.{Sheet}
use Rattle.sheet.specs.Orders.{orders, charges}

-- two lines, each of a key, a number and LF
abbrev pub two_lines : List ℕ → ℕ → List ℕ → ℕ → List ℕ
two_lines first m second n = first ++ (decimal m ++ (10 ∷ (second ++ (decimal n ++ (10 ∷ [])))))

-- the orders and what the charges add up to, or the refusal and the first bad line
abbrev pub reported : Result Sheet Fault → List ℕ
reported (Ok s) = two_lines (codes "orders=") (orders s.nets) (codes "charges=") (charges s.nets)
reported (Err f) = two_lines (codes "fault=") (number f.refusal) (codes "line=") f.line
