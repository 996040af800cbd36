use Rattle.std.proofs.Common.{◌≡◌, ℕ, ◌<◌, length, get_or, sym, ◌∙◌, subst, arith}
use Rattle.std.specs.List.{AllByRecursion}
use Rattle.netting.specs.Nets.{net_of, Within}
use Rattle.netting.proofs.Sums.{balanced, together-sum}
use Rattle.netting.proofs.Sizes.{nets_weigh}
use Rattle.netting.proofs.nets.nets_into.Goals as goal

pub returns : goal.returns
returns g c =
    let m = g.F.Figure.group in
    let w = g.met.F.Figure.lawful in
    let es = c.args.entries.now in
    let xs = c.loop-account.nets in
    let each : (k : ℕ) (d : g.row.F.Denot) → k < length xs → get_or xs k d ≡ net_of m es k = λ k d l. c.loop-account.invariant k d (omega arith) in
    record {
      each = each;
      balanced = λ within. together-sum m w xs (net_of m es) each ∙ balanced m w (length xs) es (subst (λ n. AllByRecursion (Within n) es) (sym c.loop-account.auto.nets) within);
      light = nets_weigh m w es xs each;
    }
