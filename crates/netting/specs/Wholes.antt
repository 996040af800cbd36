-- The laws of whole numbers as figures, alone and in pairs.
use Rattle.std.specs.Prelude.{◌≡◌, ◌+◌, ◌≤◌, ℤ, ◌+ℤ◌, unsigned_abs, refl}
use Rattle.std.proofs.Common.{arith, to_z, of_z}
use Rattle.std.specs.Int.{w64}
use Rattle.std.proofs.lemmas.Int.{ints}
use Rattle.netting.specs.Group.{Group, Lawful, limit}
use Rattle.netting.specs.Whole.{wholes, pair_of, pairs}

pub wholes_lawful : Lawful wholes
wholes_lawful = record {
  add_none = λ x. omega (arith, ints);
  add_comm = λ x y. omega (arith, ints);
  add_assoc = λ x y z. omega (arith, ints);
  add-neg = λ x. omega (arith, ints);
  size_none = refl;
  size-add = λ x y. omega (arith, ints);
  size-neg = λ x. omega (arith, ints);
}

pub both : {A B : Type 0} {a b : A} {c d : B} → a ≡ b → c ≡ d → ◌≡◌ {A = A × B} (a, c) (b, d)
both p q = cc

-- lawful figures make lawful pairs
pub pair_lawful : {F : Type 0} {g : Group F} → Lawful g → Lawful (pair_of g)
pair_lawful w = record {
  add_none = λ x. both (w.add_none x.0) (w.add_none x.1);
  add_comm = λ x y. both (w.add_comm x.0 y.0) (w.add_comm x.1 y.1);
  add_assoc = λ x y z. both (w.add_assoc x.0 y.0 z.0) (w.add_assoc x.1 y.1 z.1);
  add-neg = λ x. both (w.add-neg x.0) (w.add-neg x.1);
  size_none = let p = w.size_none in omega arith;
  size-add = λ x y. let p = w.size-add x.0 y.0 in let q = w.size-add x.1 y.1 in omega arith;
  size-neg = λ x. let p = w.size-neg x.0 in let q = w.size-neg x.1 in omega arith;
}

pub pairs_lawful : Lawful pairs
pairs_lawful = pair_lawful wholes_lawful

-- a sum that came back from a call, of figures that went into it
pub sum_back : (a b r : ℤ) → unsigned_abs a + unsigned_abs b ≤ limit → r ≡ to_z w64 (of_z w64 a) +ℤ to_z w64 (of_z w64 b) → to_z w64 (of_z w64 r) ≡ a +ℤ b
sum_back a b r h e = omega (arith, ints)
