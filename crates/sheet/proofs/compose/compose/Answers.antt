use Rattle.std.proofs.Common.{◌++◌, length, get_or, pos, codes, decimal, sym, ap, ◌∙◌, arith, w64, SFits, rules}
use Rattle.std.proofs.lemmas.Int.{ints, to_z-of_z}
use Rattle.sheet.specs.Orders.{orders}
use Rattle.sheet.specs.Text.{ended, all_lines, text}
use Rattle.arrayvec.specs.ArrayString.{ArrayString}
use Rattle.sheet.proofs.Numerals.{some_same, none_some}
use Rattle.sheet.proofs.Fields.{seat}
use Rattle.sheet.proofs.Lines.{net_on, rest_all, finish}
use Rattle.sheet.proofs.Nets.{payable_at}
use Rattle.sheet.proofs.compose.compose.Goals as goal
use Rattle.sheet.proofs.compose.compose.Goals.{in-Some, in_default}

pub add_net-requires-clause-net : goal.add_net-requires-clause-net
add_net-requires-clause-net c =
    let x = get_or c.args.nets.now c.loop-number.number (pos 0) in
    let f : SFits w64 x = search rules in
    let bound = payable_at c.args.nets.now c.loop-number.number c.requires.nets in
    omega (arith, ints)

pub loop-number-preserved : goal.loop-number-preserved
loop-number-preserved c =
    let n = c.loop-number.number in
    let x = get_or c.args.nets.now n (pos 0) in
    let f : SFits w64 x = search rules in
    let own = seat n c.new.result (omega arith) c.new.ensures in
    elim c.match-new.branch [ in-Some w ↦ (let bytes = ap (λ (p : ArrayString). p.bytes) w.page-is in (omega (arith, ap length bytes, w.add_net.ensures.bound), net_on c.args.nets.now n c.loop-number.page.bytes c.match-new.page.bytes _ c.loop-number-test.true (bytes ∙ (rw (some_same (sym w.in-Some.is ∙ own), to_z-of_z w64 x f) at w.add_net.ensures.text)) c.loop-number.invariant.1)) | in_default w ↦ absurd (none_some (sym w.in_default.is ∙ own)) ]

pub returns : goal.returns
unfolding text
returns c =
    let nets = c.args.nets.now in
    let page = c.loop-number.page.bytes in
    let session = ended (codes "session=" ++ decimal c.args.session) in
    let none = rest_all nets c.loop-number.number c.loop-number-test.false in
    let last = c.add_line-2.ensures.text ∙ ap (λ n. page ++ ended (codes "end=" ++ decimal n)) c.count_orders.ensures.answer in
    finish page c.add_line-2.new.page.bytes session (all_lines 0 nets) (codes "end=" ++ decimal (orders nets)) last (ap (λ zs. page ++ zs) (sym none) ∙ c.loop-number.invariant.1)
