-- What the writer's checks tell, and what they come to.
use Rattle.std.proofs.Common.{◌≡◌, ℕ, true, leb, List, length, ℤ, pos, nat_abs, is_ok, Ok, Err, Result, sym, ap, ◌∙◌, arith}
use Rattle.refusal.proofs.Then.{then_passes, then_fails, then_both, check_passed}
use Rattle.refusal.proofs.Within.{within_low, within_high}
use Rattle.refusal.specs.declared.Refusal.{Refusal}
use Rattle.refusal.specs.declared.Refusal.TheVariants.{BadSheet, ListLength}
use Rattle.refusal.specs.Checks.{within, check, ◌then◌}
use Rattle.std.proofs.lemmas.Int.{ints}
use Rattle.sheet.specs.Orders.{nil, total}
use Rattle.sheet.specs.Text.{text}
use Rattle.sheet.proofs.Nets.{nil_is}
use Rattle.sheet.specs.Writing.{payable, sendable, Sendable, writing}

-- the checks for a text of n bytes
abbrev for : ℤ → List ℤ → ℕ → ℕ → Result ℕ Refusal
for session nets room n = sendable session nets then check (leb n room) ListLength then Ok n

pub granted : (session : ℤ) (nets : List ℤ) (room n : ℕ) → n ≡ length (text (nat_abs session) nets) → true ≡ is_ok (sendable session nets) → true ≡ is_ok (check (leb n room) ListLength) → writing session nets room ≡ Ok n
granted session nets room n long passed f =
    ap (for session nets room) (sym long)
    ∙ then_passes (sendable session nets) (check (leb n room) ListLength then Ok n) passed
    ∙ then_passes (check (leb n room) ListLength) (Ok n) f

pub refused : (session : ℤ) (nets : List ℤ) (room n : ℕ) (r : Refusal) → n ≡ length (text (nat_abs session) nets) → true ≡ is_ok (sendable session nets) → Err r ≡ check (leb n room) ListLength → writing session nets room ≡ Err r
refused session nets room n r long passed f =
    ap (for session nets room) (sym long)
    ∙ then_passes (sendable session nets) (check (leb n room) ListLength then Ok n) passed
    ∙ then_fails (check (leb n room) ListLength) (Ok n) r f

pub sendable_tells : (session : ℤ) (nets : List ℤ) → true ≡ is_ok (sendable session nets) → Sendable session nets
sendable_tells session nets e =
    let count = check (within (pos 1) (pos 32) (pos (length nets))) BadSheet in
    let day = check (within (pos 1) (pos 100000) session) BadSheet in
    let paid = check (payable nets) BadSheet in
    let level = check (nil (total nets)) BadSheet in
    let p = then_both count (day then paid then level) e in
    let q = then_both day (paid then level) p.1 in
    let r = then_both paid level q.1 in
    let few = within_high _ _ _ (check_passed _ _ p.0) in
    record { few = omega (arith, ints); from = within_low _ _ _ (check_passed _ _ q.0); to = within_high _ _ _ (check_passed _ _ q.0); paid = check_passed _ _ r.0; level = nil_is (total nets) (check_passed _ _ r.1) }
