use Rattle.std.proofs.Common.{◌≡◌, true, is_ok, sym, ap, ◌∙◌, arith}
use Rattle.std.proofs.lemmas.Int.{ints}
use Rattle.refusal.proofs.Then.{check_passed}
use Rattle.refusal.proofs.Within.{within_low, within_high}
use Rattle.coupons.proofs.limits.limited.Goals as goal

pub of-requires : goal.of-requires
of-requires g c =
    let ok : c.inside.result ≡ true = check_passed _ _ (ap is_ok c.in_ok-demand.ensures) in
    let within = sym c.inside.ensures ∙ ok in
    let from = within_low _ _ _ within in
    let to = within_high _ _ _ within in
    let low = c.requires.low in
    let high = c.requires.high in
    (omega arith, omega (arith, ints))
