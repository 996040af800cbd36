use Rattle.std.proofs.Common.{◌≡◌, ◌+◌, [], ◌∷◌, ◌++◌, take, sym, ap, ◌∙◌, subst, arith, rules}
use Rattle.std.proofs.lemmas.List.{take_more, take_all}
use Rattle.keeper.proofs.Filling.{Filling, filling_put, filled_all}
use Rattle.keeper.proofs.first_of.Goals as goal

pub loop-item-preserved : goal.loop-item-preserved
loop-item-preserved g c =
    let o = g.T.Ordered.before in
    let items = c.args.items.now in
    let i = c.loop-item.item-index in
    let x = c.item-item.result in
    let start = c.new-keeper.result in
    let after = c.put.new.self in
    let next : take i items ++ x ∷ [] ≡ take (i + 1) items = sym (take_more items i x c.loop-item-test.true ∙ ap (λ y. take i items ++ y ∷ []) (sym c.item-item.is)) in
    (omega arith, subst (λ l. Filling o start l after) next (filling_put o start (take i items) c.loop-item.keeper x after c.loop-item.invariant.1 c.put.ensures.put c.put.ensures.lent))

pub returns : goal.returns
returns g c =
    let o = g.T.Ordered.before in
    let items = c.args.items.now in
    let start = c.new-keeper.result in
    let k = c.loop-item.keeper in
    let all = subst (λ l. Filling o start l k) (take_all c.loop-item.item-index items c.loop-item-test.false) c.loop-item.invariant.1 in
    let f = filled_all o g.met.T.Ordered.total c.args.places.now start items k (ap (λ x. x.now) c.new-keeper.ensures.places) all in
    let held = f.held in
    let rest = f.rest in
    let first = f.first in
    let named = all.lent ∙ ap (λ x. x.ghost_name) c.new-keeper.ensures.places in
    let count = f.count in
    record {
      count = omega arith;
      held = search (rules, held, named);
      rest = search (rules, rest, named);
      first = search (rules, first, named);
    }
