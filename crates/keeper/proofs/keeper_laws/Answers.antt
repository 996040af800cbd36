use Rattle.std.proofs.Common.{sym, subst}
use Rattle.keeper.specs.First.{FirstOf}
use Rattle.keeper.specs.Keeping.{room}
use Rattle.keeper.proofs.Firsts.{first_of-FirstOf}
use Rattle.keeper.proofs.Puts.{holds_none, holds_put}
use Rattle.keeper.proofs.keeper_laws.Goals as goal

pub returns : goal.returns
returns g c =
    let o = g.T.Ordered.before in
    record {
      empty = holds_none o;
      put = holds_put o;
      first = λ items k h. subst (FirstOf o (room k) items) (sym h.held) (first_of-FirstOf o g.met.T.Ordered.total (room k) items);
    }
