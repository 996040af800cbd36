-- What a keeper holds, put by put.
use Rattle.std.proofs.Common.{◌≡◌, ℕ, List, [], ◌∷◌, ◌++◌, take, sym, ap, ◌∙◌, arith}
use Rattle.std.proofs.lemmas.List.{length_push, take_all}
use Rattle.std.proofs.lemmas.List.Sums.{fold_push}
use Rattle.keeper.specs.Order.{Test, insert, ordered, first_of}
use Rattle.keeper.specs.Keeping.{room, Put, Holds}
use Rattle.keeper.specs.declared.kept.Keeper.{Keeper}
use Rattle.keeper.proofs.Inserts.{take-insert}

module _ {T : Type 0} (o : Test T) where
  first_push : (k : ℕ) (items : List T) (e : T) → take k (insert o e (first_of o k items)) ≡ first_of o k (items ++ e ∷ [])
  first_push k items e = take-insert o k e (ordered o items) ∙ ap (take k) (sym (fold_push (λ held x. insert o x held) [] items e))

  pub holds_put : (k : Keeper T) (e : T) (after : Keeper T) → Put o k e after → (items : List T) → Holds o items k → Holds o (items ++ e ∷ []) after
  holds_put k e after p items h =
      let a = p.count in
      let b = h.count in
      let c = p.room in
      let d = length_push items e in
      record {
        count = omega arith;
        held = p.held ∙ ap (λ xs. take (room k) (insert o e xs)) h.held ∙ first_push (room k) items e ∙ ap (λ n. first_of o n (items ++ e ∷ [])) (sym c);
      }

  pub holds_none : (k : Keeper T) → k.filled ≡ 0 → Holds o [] k
  holds_none k e = record { count = omega arith; held = ap (λ n. take n k.places.now) e ∙ sym (take_all (room k) [] (omega arith)) }
