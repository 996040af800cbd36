use Rattle.std.proofs.Common.{◌+◌, ◌++◌, take, drop, set, refl, sym, ap, ◌∙◌, arith, rules}
use Rattle.std.proofs.lemmas.List.{length-take-le}
use Rattle.ledger.specs.Transfers.{decisions, funds_after}
use Rattle.ledger.proofs.Runs.{funds_more, decisions-more, length-decisions, answers_more}
use Rattle.ledger.proofs.transfers.run.Goals as goal

pub loop-i-init : goal.loop-i-init
unfolding decisions funds_after
loop-i-init g c = record { places = search rules; funds = refl; decided = refl }

pub loop-i-preserved : goal.loop-i-preserved
loop-i-preserved g c =
    let ts = c.args.transfers.now in
    let i = c.loop-i.i in
    let f = g.L.Ledger.means c.args.ledger.now in
    let made = decisions f (take i ts) in
    let one = c.make in
    let inv = c.loop-i.invariant in
    let within = c.loop-i-test.true in
    let long = length-decisions f (take i ts) ∙ length-take-le i ts (omega arith) in
    record {
      places = inv.places;
      funds = funds_more f _ _ ts i _ within inv.funds one.ensures.answer one.ensures.funds;
      decided =
          ap (λ ds. set ds i one.result) inv.decided
          ∙ answers_more made c.args.answers.now i one.result long (omega arith)
          ∙ ap (λ ds. ds ++ drop (i + 1) c.args.answers.now) (sym (decisions-more f _ f ts i _ within inv.funds one.ensures.answer));
    }
