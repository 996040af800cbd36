-- That the order of runners is a total order, in the numbers of their times.
use Rattle.std.specs.Prelude.{◌≡◌, true, false, ℤ, int_lt}
use Rattle.std.proofs.Common.{arith}
use Rattle.std.proofs.lemmas.Int.{ints}
use Rattle.std.proofs.lemmas.Bool.Decides.{nat_tests}

pub one-first : (a b : ℤ) → int_lt a b ≡ true → int_lt b a ≡ false
one-first a b h = grind (arith, ints, nat_tests)

pub carries : (a b c : ℤ) → int_lt a b ≡ true → int_lt b c ≡ true → int_lt a c ≡ true
carries a b c h k = grind (arith, ints, nat_tests)

pub level : (a b c : ℤ) → int_lt b a ≡ false → int_lt c b ≡ false → int_lt c a ≡ false
level a b c h k = grind (arith, ints, nat_tests)
