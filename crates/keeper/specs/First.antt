-- What it means to hold the first k of some items.
use Rattle.std.specs.Prelude.{◌≡◌, ℕ, ◌<◌, min, false, List, [], ◌∷◌, ◌++◌, length}
use Rattle.std.specs.List.Sorted.{IsPermutation}
use Rattle.std.specs.List.{AllByRecursion}
use Rattle.keeper.specs.Order.{Test}

-- none of ys comes before x
abbrev pub NoneBefore : {T : Type 0} → Test T → List T → T → Type 0
NoneBefore before ys x = AllByRecursion (λ y. before y x ≡ false) ys

-- none comes before one that stands ahead of it
abbrev pub Sorted : {T : Type 0} → Test T → List T → Type 0
Sorted before [] = Unit {0}
Sorted before (x ∷ xs) = NoneBefore before xs x × Sorted before xs

pub record FirstOf {T : Type 0} (before : Test T) (k : ℕ) (items held : List T) : Type 0 where
  -- those that are not held
  pub left : List T
  -- held and not held together are exactly what there was
  pub together : IsPermutation items (held ++ left)
  pub sorted : Sorted before held
  -- what is not held comes before nothing that is held
  pub after : AllByRecursion (NoneBefore before left) held
  -- and then all k places are filled
  pub full : 0 < length left → length held ≡ k
  pub many : length held ≡ min k (length items)
