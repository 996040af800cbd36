use Rattle.std.proofs.Common.{◌≡◌, ℕ, Result, IfOk, ◌+◌, ◌<◌, ◌≤◌, length, get_or, drop, set, pos, is_ok, Ok, Err, sym, refl, ap, ◌∙◌, arith, w64, to_z, of_z, rules}
use Rattle.refusal.proofs.Then.{then_fails, then_passes}
use Rattle.refusal.specs.Checks.{◌then◌, placed}
use Rattle.std.proofs.lemmas.List.{take_all}
use Rattle.std.proofs.lemmas.Result.{err_from_is_err_and}
use Rattle.refusal.specs.declared.Refusal.{Refusal}
use Rattle.ledger.specs.Openings.{fund_check, fund_of, fund_checks, padded}
use Rattle.ledger.proofs.Padding.{checks_more, checks_all, fund_passed, fund_failed, padded_more, length-padded}
use Rattle.ledger.proofs.Limits.{limited_set, limited_none}
use Rattle.ledger.proofs.opening.funds_of.Goals as goal
use Rattle.ledger.specs.Funds.{fund_limit}

pub loop-i-init : goal.loop-i-init
unfolding padded
loop-i-init c = record { checks = refl; funds = refl; limited = limited_none }

-- a fund that came through at its place is within its limit
within-limit : (n a : ℕ) (r : Result ℕ Refusal) → Ok a ≡ placed n r → IfOk r (λ x. x ≤ fund_limit) → a ≤ fund_limit
within-limit n a (Ok b) e h = let same : a ≡ b = cc in rw same h
within-limit n a (Err y) e h = absurd cc

pub returns-in_err-each : goal.returns-in_err-each
returns-in_err-each c =
    let xs = c.args.figures.now in
    let i = c.loop-i.i in
    let x = get_or xs i (pos 0) in
    let p = err_from_is_err_and c.from_residual.result c.from_residual.ensures.1 in
    let same : to_z w64 (of_z w64 x) ≡ x = search rules in
    let met = c.in_err-each.ensures ∙ ap (placed (i + 1)) (c.fund_of.ensures.answer ∙ ap fund_of same) in
    let failed = then_fails (placed (i + 1) (fund_check x)) (fund_checks (i + 1 + 1) (drop (i + 1) xs)) c.in_err-each.field-0.0 (sym (fund_failed (i + 1) x c.in_err-each.field-0.0 met)) in
    let checks : fund_checks 1 xs ≡ Err c.in_err-each.field-0.0 = sym c.loop-i.invariant.checks ∙ checks_more xs i (i + 1) c.loop-i-test.true ∙ failed in
    rw (p.1 ∙ ap Err p.2) (sym (then_fails (fund_checks 1 xs) (Ok (padded xs)) c.in_err-each.field-0.0 (sym checks)))

pub loop-i-preserved : goal.loop-i-preserved
loop-i-preserved c =
    let xs = c.args.figures.now in
    let i = c.loop-i.i in
    let x = get_or xs i (pos 0) in
    let a = c.in_ok-each.field-0 in
    let same : to_z w64 (of_z w64 x) ≡ x = search rules in
    let met = fund_passed (i + 1) x a (c.in_ok-each.ensures ∙ ap (placed (i + 1)) (c.fund_of.ensures.answer ∙ ap fund_of same)) in
    let within : i < length xs = c.loop-i-test.true in
    let few = c.requires in
    record {
      checks = sym (ap (λ r. r then fund_checks (i + 1 + 1) (drop (i + 1) xs)) met.0) ∙ sym (checks_more xs i (i + 1) within) ∙ c.loop-i.invariant.checks;
      funds = ap (λ ys. set ys i a) c.loop-i.invariant.funds ∙ padded_more xs i a within (omega arith) met.1;
      limited = limited_set c.loop-i.each i a (within-limit (i + 1) a c.fund_of.result c.in_ok-each.ensures c.fund_of.ensures.limited) c.loop-i.invariant.limited;
    }

pub invariant_of-result : goal.invariant_of-result
invariant_of-result c =
    let xs = c.args.figures.now in
    let all = take_all c.loop-i.i xs c.loop-i-test.false in
    record { wide = ap length (c.loop-i.invariant.funds ∙ ap padded all) ∙ length-padded xs c.requires; limited = c.loop-i.invariant.limited }

pub returns : goal.returns
returns c =
    let xs = c.args.figures.now in
    let i = c.loop-i.i in
    let checks = sym c.loop-i.invariant.checks ∙ checks_all xs i (i + 1) c.loop-i-test.false in
    ap Ok (c.loop-i.invariant.funds ∙ ap padded (take_all i xs c.loop-i-test.false)) ∙ sym (then_passes (fund_checks 1 xs) (Ok (padded xs)) (ap is_ok (sym checks)))
