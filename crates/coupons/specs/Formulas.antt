-- The formulas of coupons and of price alignment, on whole numbers of any size.
use Rattle.std.specs.Prelude.{ℤ, ◌*ℤ◌, neg_ℤ}
use Rattle.coupons.specs.Rounding.{rounded}

-- fixed and variable: N × rate × days / 360, in centavos
abbrev pub simple : ℤ → ℤ → ℤ → ℤ
simple millions rate days = rounded (millions *ℤ rate *ℤ days) 360

-- dollars: K × rate × days / 360,000, in cents
abbrev pub cents : ℤ → ℤ → ℤ → ℤ
cents thousands rate days = rounded (thousands *ℤ rate *ℤ days) 360000

-- those cents at the TRM, in centavos
abbrev pub dollars : ℤ → ℤ → ℤ → ℤ → ℤ
dollars thousands rate days trm = rounded (cents thousands rate days *ℤ trm) 100

-- price alignment: −(NPV × overnight × d) / 36,000,000
abbrev pub alignment : ℤ → ℤ → ℤ → ℤ
alignment npv overnight days = rounded (neg_ℤ (npv *ℤ overnight *ℤ days)) 36000000
