-- What a figure needs to be netted: a commutative group, as whole numbers are, and a size.
use Rattle.std.specs.Prelude.{◌≡◌, ℕ, ◌+◌, ◌≤◌}

-- the largest signed number of 64 bits
abbrev pub limit : ℕ
limit = 9223372036854775807

-- nothing, a sum and an opposite, and how large a figure is
pub record Group (F : Type 0) : Type 0 where
  pub none : F
  pub add : F → F → F
  pub neg : F → F
  pub size : F → ℕ

-- the laws of whole numbers; and a sum is no larger than its parts together
pub record Lawful {F : Type 0} (g : Group F) : Type 0 where
  pub add_none : (x : F) → g.add x g.none ≡ x
  pub add_comm : (x y : F) → g.add x y ≡ g.add y x
  pub add_assoc : (x y z : F) → g.add (g.add x y) z ≡ g.add x (g.add y z)
  pub add-neg : (x : F) → g.add x (g.neg x) ≡ g.none
  pub size_none : g.size g.none ≡ 0
  pub size-add : (x y : F) → g.size (g.add x y) ≤ g.size x + g.size y
  pub size-neg : (x : F) → g.size (g.neg x) ≡ g.size x

-- a reading of figures that carries nothing, sums and opposites over
pub record Additive {F G : Type 0} (g : Group F) (h : Group G) (f : F → G) : Type 0 where
  pub of_none : f g.none ≡ h.none
  pub of_add : (x y : F) → f (g.add x y) ≡ h.add (f x) (f y)
  pub of_neg : (x : F) → f (g.neg x) ≡ h.neg (f x)
