use Rattle.std.proofs.Common.{◌≡◌, ◌+◌, [], ◌∷◌, ◌++◌, map, take, vec_items, sym, ap, ◌∙◌, subst, arith, rules}
use Rattle.std.proofs.lemmas.List.{map_more, take_all, length-map}
use Rattle.keeper.proofs.Filling.{Filling, filling_put, filled_all}
use Rattle.swaps.specs.Swaps.{blank}
use Rattle.swaps.specs.Ends.{sooner, end_of}
use Rattle.swaps.specs.Sooner.{sooner-total}
use Rattle.book.proofs.book.Book.diary.Goals as goal

pub loop-swap-preserved : goal.loop-swap-preserved
loop-swap-preserved c =
    let ss = c.deref-swap-items.result.now in
    let i = c.loop-swap.swap-index in
    let start = c.new-keeper.result in
    let after = c.put.new.self in
    let x = c.end.result in
    let next : map end_of (take i ss) ++ x ∷ [] ≡ map end_of (take (i + 1) ss) = ap (λ y. map end_of (take i ss) ++ y ∷ []) c.end.ensures ∙ sym (map_more end_of ss i blank c.loop-swap-test.true) in
    (omega arith, subst (λ l. Filling sooner start l after) next (filling_put sooner start (map end_of (take i ss)) c.loop-swap.keeper x after c.loop-swap.invariant.1 c.put.ensures.put c.put.ensures.lent))

pub returns : goal.returns
returns c =
    let ss = c.deref-swap-items.result.now in
    let start = c.new-keeper.result in
    let k = c.loop-swap.keeper in
    let items = vec_items c.args.self.now.table.swaps in
    let same : ss ≡ items = c.deref-swap-items.ensures.value in
    let whole : map end_of (take c.loop-swap.swap-index ss) ≡ map end_of items = ap (map end_of) (take_all c.loop-swap.swap-index ss c.loop-swap-test.false ∙ same) in
    let all = subst (λ l. Filling sooner start l k) whole c.loop-swap.invariant.1 in
    let f = filled_all sooner sooner-total c.args.places.now start (map end_of items) k (ap (λ x. x.now) c.new-keeper.ensures.places) all in
    let held = f.held in
    let rest = f.rest in
    let first = f.first in
    let named = all.lent ∙ ap (λ x. x.ghost_name) c.new-keeper.ensures.places in
    let count = f.count in
    let long = length-map items end_of in
    record {
      count = omega arith;
      held = search (rules, held, named);
      rest = search (rules, rest, named);
      first = search (rules, first, named);
    }
