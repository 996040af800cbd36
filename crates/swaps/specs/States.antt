-- What an ask, a yes or a no makes of a swap's state.
use Rattle.std.specs.Prelude.{ℕ, not, Ok, Err, Result, ◌==◌}
use Rattle.refusal.specs.declared.Refusal.{Refusal}
use Rattle.refusal.specs.declared.Refusal.TheVariants.{NotParty, NotPlain, NothingAsked}
use Rattle.refusal.specs.Checks.{check, ◌then◌}
use Rattle.swaps.specs.declared.state.State.{State}
use Rattle.swaps.specs.declared.state.State.TheVariants.{Plain, Asked, Agreed}
use Rattle.swaps.specs.declared.state.Event.{Event}
use Rattle.swaps.specs.declared.state.Event.TheVariants.{Ask, Yes, No}

-- only the other party answers a request
abbrev pub other : ℕ → ℕ → Result Unit Refusal
other asker by = check (not (by == asker)) NotParty

abbrev pub after_event : State → Event → Result State Refusal
after_event Plain (Ask by payment session) = Ok (Asked by payment session)
after_event Plain (Yes by) = Err NothingAsked
after_event Plain (No by) = Err NothingAsked
after_event (Asked asker payment session) (Ask by p s) = Err NotPlain
after_event (Asked asker payment session) (Yes by) = other asker by then Ok (Agreed payment session)
after_event (Asked asker payment session) (No by) = other asker by then Ok Plain
after_event (Agreed payment session) (Ask by p s) = Err NotPlain
after_event (Agreed payment session) (Yes by) = Err NothingAsked
after_event (Agreed payment session) (No by) = Err NothingAsked
