-- A loop that puts one entry after the other, and what the lender of the places learns.
use Rattle.std.proofs.Common.{◌≡◌, min, List, [], ◌∷◌, ◌++◌, length, drop, sym, refl, ap, ◌∙◌, subst, arith}
use Rattle.keeper.specs.Order.{Test, TotalOrder, first_of}
use Rattle.keeper.specs.First.{FirstOf}
use Rattle.keeper.specs.Keeping.{room, held_by, Put, Holds}
use Rattle.keeper.specs.declared.kept.Keeper.{Keeper}
use Rattle.keeper.proofs.Inserts.{drop_later}
use Rattle.keeper.proofs.Firsts.{first_of-FirstOf}
use Rattle.keeper.proofs.Puts.{holds_none, holds_put}

-- a keeper that was at `start`, and to which the items were put since
pub record Filling {T : Type 0} (o : Test T) (start : Keeper T) (items : List T) (k : Keeper T) : Type 0 where
  pub wide : room k ≡ room start
  pub holds : Holds o items k
  pub rest : drop k.filled k.places.now ≡ drop k.filled start.places.now
  pub lent : k.places.ghost_name ≡ start.places.ghost_name

module _ {T : Type 0} (o : Test T) where
  pub filling_none : (k : Keeper T) → k.filled ≡ 0 → Filling o k [] k
  filling_none k e = record { wide = refl; holds = holds_none o k e; rest = refl; lent = refl }

  pub filling_put : (start : Keeper T) (items : List T) (k : Keeper T) (e : T) (after : Keeper T) → Filling o start items k → Put o k e after → after.places.ghost_name ≡ k.places.ghost_name → Filling o start (items ++ e ∷ []) after
  filling_put start items k e after f p lent =
      let n = f.holds.count in
      let m = p.count in
      record {
        wide = p.room ∙ f.wide;
        holds = holds_put o k e after p items f.holds;
        rest = p.rest ∙ drop_later k.filled after.filled k.places.now start.places.now (omega arith) f.rest;
        lent = lent ∙ f.lent;
      }

-- what the lender of the places, which held xs, learns at the end
pub record Filled {T : Type 0} (o : Test T) (xs items : List T) (k : Keeper T) : Type 0 where
  pub count : k.filled ≡ min (length xs) (length items)
  pub held : held_by k ≡ first_of o (length xs) items
  pub rest : drop k.filled k.places.now ≡ drop k.filled xs
  pub first : FirstOf o (length xs) items (held_by k)

module _ {T : Type 0} (o : Test T) (w : TotalOrder o) where
  pub filled_all : (xs : List T) (start : Keeper T) (items : List T) (k : Keeper T) → start.places.now ≡ xs → Filling o start items k → Filled o xs items k
  filled_all xs start items k lent f =
      let wide : room k ≡ length xs = f.wide ∙ ap length lent in
      let n = f.holds.count in
      let held : held_by k ≡ first_of o (length xs) items = f.holds.held ∙ ap (λ j. first_of o j items) wide in
      record {
        count = omega arith;
        held = held;
        rest = f.rest ∙ ap (drop k.filled) lent;
        first = subst (FirstOf o (length xs) items) (sym held) (first_of-FirstOf o w (length xs) items);
      }
