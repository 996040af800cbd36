use Rattle.keeper.proofs.Inserts.{spot_at}
use Rattle.keeper.proofs.spot.Goals as goal

pub returns : goal.returns
returns g c = let s = spot_at g.T.Ordered.before c.args.item.now c.args.held.now _ _ c.next_after.ensures c.unwrap_or.ensures in record { within = s.within; splits = s.splits }
