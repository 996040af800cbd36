-- What a keeper promises, put by put.
use Rattle.std.specs.Prelude.{◌≡◌, List, [], ◌∷◌, ◌++◌}
use Rattle.keeper.specs.Order.{Test}
use Rattle.keeper.specs.First.{FirstOf}
use Rattle.keeper.specs.Keeping.{room, held_by, Put, Holds}
use Rattle.keeper.specs.declared.kept.Keeper.{Keeper}

pub record KeeperLaws {T : Type 0} (before : Test T) : Type 0 where
  -- a new keeper holds the first of nothing
  pub empty : (k : Keeper T) → k.filled ≡ 0 → Holds before [] k
  -- one that holds the first of some items holds, one more put, the first of these and that one
  pub put : (k : Keeper T) (item : T) (after : Keeper T) → Put before k item after → (items : List T) → Holds before items k → Holds before (items ++ item ∷ []) after
  -- and what it holds then is sorted, and comes after nothing that it does not hold
  pub first : (items : List T) (k : Keeper T) → Holds before items k → FirstOf before (room k) items (held_by k)
