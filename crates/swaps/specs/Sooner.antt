-- The order of ends is total.
use Rattle.std.specs.Prelude.{◌≡◌, ℕ, Bool, true, false, cond, ◌==◌, nat_lt}
use Rattle.std.proofs.Common.{arith}
use Rattle.std.proofs.lemmas.Bool.Decides.{nat_tests}
use Rattle.keeper.specs.Order.{TotalOrder}
use Rattle.swaps.specs.Ends.{sooner}

abbrev earlier : ℕ → ℕ → ℕ → ℕ → Bool
earlier a m b n = cond (a == b) (nat_lt m n) (nat_lt a b)

one-first : (a m b n : ℕ) → earlier a m b n ≡ true → earlier b n a m ≡ false
one-first a m b n h = grind (arith, nat_tests)

carries : (a m b n c k : ℕ) → earlier a m b n ≡ true → earlier b n c k ≡ true → earlier a m c k ≡ true
carries a m b n c k h l = grind (arith, nat_tests)

not_earlier : (a m b n c k : ℕ) → earlier a m b n ≡ false → earlier b n c k ≡ false → earlier a m c k ≡ false
not_earlier a m b n c k h l = grind (arith, nat_tests)

pub sooner-total : TotalOrder sooner
sooner-total = record {
  one-first = λ x y. one-first x.session x.number y.session y.number;
  carries = λ x y z. carries x.session x.number y.session y.number z.session z.number;
  equal-carries = λ x y z p q. (
    not_earlier x.session x.number y.session y.number z.session z.number p.0 q.0,
    not_earlier z.session z.number y.session y.number x.session x.number q.1 p.1,
  );
}
