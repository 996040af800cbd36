-- Products that fit the machine.
use Rattle.std.proofs.Common.{◌≡◌, ℕ, ◌*◌, ◌^◌, ◌<◌, ◌≤◌, ℤ, pos, negsuc, ◌*ℤ◌, nat_abs, sym, refl, ap, ◌∙◌, subst, arith, w64, SFits, to_z, of_z}
use Rattle.std.proofs.lemmas.Nat.{mul-le}
use Rattle.std.proofs.lemmas.Int.{ints, to_z-of_z}

pub fits_small : (z : ℤ) → nat_abs z < 2 ^ 63 → SFits w64 z
fits_small (pos n) h = record { sfits = h }
fits_small (negsuc n) h = record { sfits = omega arith }

-- the size of a product is the product of the sizes
pub nat_abs_mul : (a b : ℤ) → nat_abs (a *ℤ b) ≡ nat_abs a * nat_abs b
nat_abs_mul (pos a) (pos b) = refl
nat_abs_mul (pos a) (negsuc b) = omega (arith, ints)
nat_abs_mul (negsuc a) (pos b) = omega (arith, ints)
nat_abs_mul (negsuc a) (negsuc b) = refl

pub mul_small : (a b : ℤ) (m n : ℕ) → nat_abs a ≤ m → nat_abs b ≤ n → nat_abs (a *ℤ b) ≤ m * n
mul_small a b m n h k = let e = nat_abs_mul a b in let l = mul-le (nat_abs a) (nat_abs b) m n h k in omega arith

-- a product of three figures
pub three_small : (a b c : ℤ) (l m n : ℕ) → nat_abs a ≤ l → nat_abs b ≤ m → nat_abs c ≤ n → nat_abs (a *ℤ b *ℤ c) ≤ l * m * n
three_small a b c l m n h k j = mul_small (a *ℤ b) c (l * m) n (mul_small a b l m h k) j

-- two figures in the machine, and their product
pub same_two : (a b : ℤ) → SFits w64 a → SFits w64 b → to_z w64 (of_z w64 a) *ℤ to_z w64 (of_z w64 b) ≡ a *ℤ b
same_two a b f g = ap (λ x. x *ℤ to_z w64 (of_z w64 b)) (to_z-of_z w64 a f) ∙ ap (λ y. a *ℤ y) (to_z-of_z w64 b g)

pub fits_two : (a b : ℤ) → SFits w64 a → SFits w64 b → nat_abs (a *ℤ b) ≤ 9000000000000000000 → SFits w64 (to_z w64 (of_z w64 a) *ℤ to_z w64 (of_z w64 b))
fits_two a b f g h = subst (SFits w64) (sym (same_two a b f g)) (fits_small (a *ℤ b) (omega arith))

-- the product of two, and that times a third
module _ (a b c : ℤ) (f : SFits w64 a) (g : SFits w64 b) (h : SFits w64 c) (two : nat_abs (a *ℤ b) ≤ 9000000000000000000) (three : nat_abs (a *ℤ b *ℤ c) ≤ 9000000000000000000) where
  whole : to_z w64 (of_z w64 (to_z w64 (of_z w64 a) *ℤ to_z w64 (of_z w64 b))) *ℤ to_z w64 (of_z w64 c) ≡ a *ℤ b *ℤ c
  whole = ap (λ x. x *ℤ to_z w64 (of_z w64 c)) (to_z-of_z w64 _ (fits_two a b f g two) ∙ same_two a b f g) ∙ ap (λ y. a *ℤ b *ℤ y) (to_z-of_z w64 c h)

  pub fits_three : SFits w64 (to_z w64 (of_z w64 (to_z w64 (of_z w64 a) *ℤ to_z w64 (of_z w64 b))) *ℤ to_z w64 (of_z w64 c))
  fits_three = subst (SFits w64) (sym whole) (fits_small (a *ℤ b *ℤ c) (omega arith))

  pub three_back : to_z w64 (of_z w64 (to_z w64 (of_z w64 (to_z w64 (of_z w64 a) *ℤ to_z w64 (of_z w64 b))) *ℤ to_z w64 (of_z w64 c))) ≡ a *ℤ b *ℤ c
  three_back = to_z-of_z w64 _ fits_three ∙ whole

-- a product of three figures that have limits, in the machine
pub record Fitting (x y z : ℤ) (most : ℕ) : Type 0 where
  pub fits : SFits w64 (to_z w64 (of_z w64 (to_z w64 (of_z w64 x) *ℤ to_z w64 (of_z w64 y))) *ℤ to_z w64 (of_z w64 z))
  pub back : to_z w64 (of_z w64 (to_z w64 (of_z w64 (to_z w64 (of_z w64 x) *ℤ to_z w64 (of_z w64 y))) *ℤ to_z w64 (of_z w64 z))) ≡ x *ℤ y *ℤ z
  pub small : nat_abs (x *ℤ y *ℤ z) ≤ most

pub fitting : (x y z : ℤ) (a b c : ℕ) → SFits w64 x → SFits w64 y → SFits w64 z → nat_abs x ≤ a → nat_abs y ≤ b → nat_abs z ≤ c → a * b ≤ 9000000000000000000 → a * b * c ≤ 9000000000000000000 → Fitting x y z (a * b * c)
fitting x y z a b c f g h l m n few small =
    let two = mul_small x y a b l m in
    let three = three_small x y z a b c l m n in
    record { fits = fits_three x y z f g h (omega arith) (omega arith); back = three_back x y z f g h (omega arith) (omega arith); small = three }
