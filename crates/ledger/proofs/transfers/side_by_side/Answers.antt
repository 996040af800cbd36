use Rattle.std.proofs.Common.{◌≡◌, Decides, take, refl, sym, ◌∙◌, subst}
use Rattle.ledger.specs.Transfers.{decisions, funds_after}
use Rattle.ledger.proofs.Runs.{funds_more, decisions-more, length-decisions, alike_more, answers_equal}
use Rattle.ledger.proofs.transfers.side_by_side.Goals as goal

pub loop-transfer-init : goal.loop-transfer-init
unfolding decisions funds_after
loop-transfer-init g c = record { first = refl; second = refl; alike = ((λ t. refl), (λ p. refl)) }

pub loop-transfer-preserved : goal.loop-transfer-preserved
loop-transfer-preserved g c =
    let ts = c.args.transfers.now in
    let i = c.loop-transfer.transfer-index in
    let f = g.L.Ledger.means c.args.first.now in
    let h = g.R.Ledger.means c.args.second.now in
    let one = c.make in
    let two = c.make-in-loop-transfer in
    let inv = c.loop-transfer.invariant in
    let within = c.loop-transfer-test.true in
    let long = length-decisions f (take i ts) ∙ sym (length-decisions h (take i ts)) in
    let same = subst (λ b. Decides b (one.result ≡ two.result)) (sym c.eq-alike.ensures) (answers_equal _ _ refl refl one.result two.result) in
    let alike = alike_more _ _ _ _ _ _ long inv.alike same in
    record {
      first = funds_more f _ _ ts i _ within inv.first one.ensures.answer one.ensures.funds;
      second = funds_more h _ _ ts i _ within inv.second two.ensures.answer two.ensures.funds;
      alike = rw (decisions-more f _ f ts i _ within inv.first one.ensures.answer, decisions-more h _ h ts i _ within inv.second two.ensures.answer) alike;
    }
