-- What an end and a state print.
use Rattle.std.specs.Prelude.{ℕ, List, [], ◌∷◌, ◌++◌, codes, decimal}
use Rattle.std.specs.Fmt.{signed_decimal}
use Rattle.swaps.specs.declared.state.State.{State}
use Rattle.swaps.specs.declared.state.State.TheVariants.{Plain, Asked, Agreed}
use Rattle.swaps.specs.declared.ends.End.{End}
use Rattle.swaps.specs.Ends.{letter_of}

-- session:number:letter
abbrev pub end_text : End → List ℕ
end_text end = decimal end.session ++ (codes ":" ++ (decimal end.number ++ (codes ":" ++ (letter_of end.mark ∷ []))))

-- a request with who asks, and both with their payment and session
abbrev pub state_text : State → List ℕ
state_text Plain = codes "plain"
state_text (Asked by payment session) = codes "asked " ++ (decimal by ++ (codes " " ++ (signed_decimal payment ++ (codes " " ++ decimal session))))
state_text (Agreed payment session) = codes "agreed " ++ (signed_decimal payment ++ (codes " " ++ decimal session))
