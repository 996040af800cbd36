-- What a keeper holds, and what it holds after one more was put.
use Rattle.std.specs.Prelude.{◌≡◌, ℕ, ◌+◌, min, List, length, take, drop}
use Rattle.keeper.specs.Order.{Test, insert, first_of}
use Rattle.keeper.specs.declared.kept.Keeper.{Keeper}

-- the number of its places
abbrev pub room : {T : Type 0} → Keeper T → ℕ
room k = length k.places.now

abbrev pub held_by : {T : Type 0} → Keeper T → List T
held_by k = take k.filled k.places.now

-- one more was put
pub record Put {T : Type 0} (before : Test T) (k : Keeper T) (item : T) (after : Keeper T) : Type 0 where
  pub count : after.filled ≡ min (k.filled + 1) (room k)
  pub held : held_by after ≡ take (room k) (insert before item (held_by k))
  pub rest : drop after.filled after.places.now ≡ drop after.filled k.places.now
  pub room : room after ≡ room k

-- it holds the first of the items, as many as it has places
pub record Holds {T : Type 0} (before : Test T) (items : List T) (k : Keeper T) : Type 0 where
  pub count : k.filled ≡ min (room k) (length items)
  pub held : held_by k ≡ first_of before (room k) items
