-- The limits of the figures, and what a C host is answered.
use Rattle.std.specs.Prelude.{ℤ, pos, negsuc, neg_ℤ, Ok, Err, Result}
use Rattle.refusal.specs.declared.Refusal.{Refusal}
use Rattle.refusal.specs.declared.Refusal.TheVariants.{Nominal, Amount, MarketFigure}
use Rattle.refusal.specs.Checks.{within, check, ◌then◌}

-- a nominal: millions of pesos, or thousands of dollars
abbrev pub nominal_check : ℤ → Result Unit Refusal
nominal_check n = check (within (pos 1) (pos 100000) n) Nominal

-- a rate in points, with its days
abbrev pub rate_checks : ℤ → ℤ → Result Unit Refusal
rate_checks rate days =
    check (within (neg_ℤ (pos 10000000)) (pos 100000000) rate) MarketFigure then
    check (within (pos 1) (pos 366) days) MarketFigure

-- centavos for a dollar
abbrev pub trm_check : ℤ → Result Unit Refusal
trm_check trm = check (within (pos 1) (pos 2000000) trm) MarketFigure

abbrev pub npv_check : ℤ → Result Unit Refusal
npv_check npv = check (within (neg_ℤ (pos 10000000000000)) (pos 10000000000000) npv) Amount

-- an overnight rate in mills, with its days
abbrev pub overnight_checks : ℤ → ℤ → Result Unit Refusal
overnight_checks rate days =
    check (within (pos 0) (pos 50000) rate) MarketFigure then
    check (within (pos 1) (pos 10) days) MarketFigure

-- the figures of a fixed or variable coupon
abbrev pub simple_checks : ℤ → ℤ → ℤ → Result Unit Refusal
simple_checks millions rate days = nominal_check millions then rate_checks rate days

-- the figures of a dollar coupon
abbrev pub dollar_checks : ℤ → ℤ → ℤ → ℤ → Result Unit Refusal
dollar_checks thousands rate days trm = nominal_check thousands then trm_check trm then rate_checks rate days

-- the figures of a price alignment
abbrev pub alignment_checks : ℤ → ℤ → ℤ → Result Unit Refusal
alignment_checks npv overnight days = npv_check npv then overnight_checks overnight days

-- what a C host is answered: the figure, or −2^63 where one of its figures is outside its limits
abbrev pub exported : Result Unit Refusal → ℤ → ℤ
exported (Ok u) figure = figure
exported (Err e) figure = negsuc 9223372036854775807
