-- The limits of a swap's figures.
use Rattle.std.specs.Prelude.{ℕ, ℤ, pos, neg_ℤ, Ok, Result}
use Rattle.refusal.specs.declared.Refusal.{Refusal}
use Rattle.refusal.specs.declared.Refusal.TheVariants.{Nominal, Amount}
use Rattle.refusal.specs.Checks.{within, check, ◌then◌, ◌into◌}
use Rattle.coupons.specs.declared.legs.Kind.{Kind}
use Rattle.coupons.specs.declared.legs.Kind.TheVariants.{Irs, Ois, CrossCurrency}
use Rattle.coupons.specs.declared.lines.Terms.{Terms}
use Rattle.coupons.specs.Legs.{kind_of}

-- an NPV or a payment
abbrev pub amount_of : ℤ → Result ℤ Refusal
amount_of x = check (within (neg_ℤ (pos 10000000000000)) (pos 10000000000000) x) Amount then Ok x

-- dollars are for cross-currency swaps alone
abbrev pub dollars_check : Kind → ℤ → Result Unit Refusal
dollars_check Irs k = check (within (pos 0) (pos 0) k) Nominal
dollars_check Ois k = check (within (pos 0) (pos 0) k) Nominal
dollars_check CrossCurrency k = check (within (pos 1) (pos 100000) k) Nominal

abbrev pub terms_of : ℕ → ℤ → ℤ → Result Terms Refusal
terms_of letter n k =
    kind_of letter into λ kind.
    check (within (pos 1) (pos 100000) n) Nominal then
    dollars_check kind k then
    Ok (record { kind = kind; millions = n; thousands = k })
