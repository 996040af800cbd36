-- The number of each refusal, and a fault's place.
use Rattle.std.specs.Prelude.{ℕ, List, ◌++◌, codes, decimal}
use Rattle.refusal.specs.declared.Refusal.{Refusal}
use Rattle.refusal.specs.declared.Refusal.TheVariants.{OutOfRange, SameAccount, UnknownKind, Nominal, Amount, Session, MarketFigure, Leg, Factor, ListLength, Scenarios, Sensitivity, BadSheet, SettlementUnderWay, BookFull, NoSuchSwap, NotParty, JustRegistered, NotPlain, NothingAsked, NoSuchOrder, ChargesOutstanding, LedgerRejected, NumbersUsedUp, NpvNotZero}
use Rattle.refusal.specs.declared.Fault.{Fault}

abbrev pub number : Refusal → ℕ
number OutOfRange = 1
number SameAccount = 2
number UnknownKind = 3
number Nominal = 4
number Amount = 5
number Session = 6
number MarketFigure = 7
number Leg = 8
number Factor = 9
number ListLength = 10
number Scenarios = 11
number Sensitivity = 12
number BadSheet = 13
number SettlementUnderWay = 20
number BookFull = 21
number NoSuchSwap = 22
number NotParty = 23
number JustRegistered = 24
number NotPlain = 25
number NothingAsked = 26
number NoSuchOrder = 27
number ChargesOutstanding = 28
number LedgerRejected = 29
number NumbersUsedUp = 30
number NpvNotZero = 31

-- a refusal that no line or observation applies to
abbrev pub bare : Refusal → Fault
bare e = record { refusal = e; line = 0; observation = 0 }

-- the same fault at a line
abbrev pub on_line : ℕ → Fault → Fault
on_line n f = record { refusal = f.refusal; line = n; observation = f.observation }

-- the same fault at an observation of its line
abbrev pub on_observation : ℕ → Fault → Fault
on_observation n f = record { refusal = f.refusal; line = f.line; observation = n }

-- a fault as text: its number and its line
abbrev pub fault_text : Fault → List ℕ
fault_text f = codes "fault=" ++ decimal (number f.refusal) ++ codes " line=" ++ decimal f.line
