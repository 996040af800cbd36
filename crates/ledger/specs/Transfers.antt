-- Lists of transfers: what a ledger decides on each in its turn, and the funds after them. Of the funds alone, so the same for every ledger.
use Rattle.std.specs.Prelude.{List, [], ◌∷◌, Ok, Err, Result}
use Rattle.ledger.specs.declared.transfers.Transfer.{Transfer}
use Rattle.ledger.specs.declared.transfers.Transfer.TheVariants.{Charge, Credit, TopUp}
use Rattle.ledger.specs.Funds.{Decision, Funds, decides_charge, decides_credit, decides_top_up, after_charge, after_credit, after_top_up}

-- what a ledger decides on a transfer
abbrev pub decides : Funds → Transfer → Decision
decides f (Charge m a) = decides_charge f m a
decides f (Credit m a) = decides_credit f m a
decides f (TopUp m a) = decides_top_up f m a

-- the funds after a transfer that was so decided
abbrev pub after : Funds → Transfer → Decision → Funds
after f (Charge m a) d = after_charge f m a d
after f (Credit m a) d = after_credit f m a d
after f (TopUp m a) d = after_top_up f m a d

-- what is decided on a list of transfers, and the funds after it
unfoldable pub decisions : Funds → List Transfer → List Decision
decisions f [] = []
decisions f (t ∷ ts) = decides f t ∷ decisions (after f t (decides f t)) ts

unfoldable pub funds_after : Funds → List Transfer → Funds
funds_after f [] = f
funds_after f (t ∷ ts) = funds_after (after f t (decides f t)) ts

-- one of two, by whether a call was refused
abbrev pub granted_or : {X Y E : Type 0} → Result Y E → X → X → X
granted_or (Ok y) x z = x
granted_or (Err e) x z = z
