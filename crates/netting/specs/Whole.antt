-- Whole numbers as figures, alone and in pairs.
use Rattle.std.specs.Prelude.{◌+◌, ℤ, pos, ◌+ℤ◌, neg_ℤ, unsigned_abs}
use Rattle.netting.specs.Group.{Group}

abbrev pub wholes : Group ℤ
wholes = record { none = pos 0; add = λ x y. x +ℤ y; neg = neg_ℤ; size = unsigned_abs }

-- two figures of one kind, each by itself
abbrev pub pair_of : {F : Type 0} → Group F → Group (F × F)
pair_of g = record {
  none = (g.none, g.none);
  add = λ x y. (g.add x.0 y.0, g.add x.1 y.1);
  neg = λ x. (g.neg x.0, g.neg x.1);
  size = λ x. g.size x.0 + g.size x.1;
}

-- two whole numbers
abbrev pub pairs : Group (ℤ × ℤ)
pairs = pair_of wholes
