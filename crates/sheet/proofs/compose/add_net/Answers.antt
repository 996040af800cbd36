use Rattle.std.proofs.Common.{◌≡◌, ◌++◌, Some, sym, ap, ◌∙◌, w64, arith}
use Rattle.std.proofs.lemmas.Int.{to_z-of_z}
use Rattle.std.proofs.lemmas.Grind.{common_steps}
use Rattle.std.specs.List.{flat_map}
use Rattle.sheet.specs.Orders.{order_of}
use Rattle.sheet.specs.Text.{ended, order_lines}
use Rattle.sheet.proofs.compose.add_net.Goals as goal

pub returns-clause-text : goal.returns-clause-text
returns-clause-text c =
    let made : order_of c.args.net ≡ Some c.in-Some.order = sym (c.in-Some.ensures ∙ ap order_of (to_z-of_z w64 c.args.net c.ranges.net)) in
    let text : c.add_line-2.new.page.bytes ≡ c.args.page.now.bytes ++ flat_map ended (order_lines c.args.member (Some c.in-Some.order)) = grind (arith, common_steps) in
    text ∙ ap (λ o. c.args.page.now.bytes ++ flat_map ended (order_lines c.args.member o)) (sym made)
