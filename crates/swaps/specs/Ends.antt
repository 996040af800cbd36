-- When and why swaps end, and which end comes first.
use Rattle.std.specs.Prelude.{ℕ, Bool, cond, ◌==◌, nat_lt}
use Rattle.swaps.specs.declared.state.State.{State}
use Rattle.swaps.specs.declared.state.State.TheVariants.{Plain, Asked, Agreed}
use Rattle.swaps.specs.declared.swap.Swap.{Swap}
use Rattle.swaps.specs.declared.ends.Mark.{Mark}
use Rattle.swaps.specs.declared.ends.Mark.TheVariants as marks
use Rattle.swaps.specs.declared.ends.End.{End}

-- M for maturity, T for an agreed end
abbrev pub letter_of : Mark → ℕ
letter_of marks.Maturity = 77
letter_of marks.Agreed = 84

-- by session, then by number
abbrev pub sooner : End → End → Bool
sooner x y = cond (x.session == y.session) (nat_lt x.number y.number) (nat_lt x.session y.session)

-- an agreed swap ends in its agreed session, and any other at maturity
abbrev pub end_in : ℕ → ℕ → State → End
end_in number maturity Plain = record { session = maturity; number = number; mark = marks.Maturity }
end_in number maturity (Asked by payment session) = record { session = maturity; number = number; mark = marks.Maturity }
end_in number maturity (Agreed payment session) = record { session = session; number = number; mark = marks.Agreed }

abbrev pub end_of : Swap → End
end_of s = end_in s.number s.maturity s.state
