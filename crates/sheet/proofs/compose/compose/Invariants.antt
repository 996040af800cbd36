use Rattle.std.proofs.Common.{◌≡◌, ◌+◌, ◌*◌, ◌≤◌, ◌++◌, length, drop, codes, decimal}
use Rattle.std.specs.List.{flat_map}
use Rattle.sheet.specs.Text.{ended, all_lines}
use Rattle.sheet.proofs.compose.compose.Given as goal

abbrev pub invariant-loop-number : goal.invariant-loop-number
invariant-loop-number l =
    (length l.page.bytes ≤ 15 + 51 * l.number)
    × (l.page.bytes ++ flat_map ended (all_lines l.number (drop l.number l.nets)) ≡ ended (codes "session=" ++ decimal l.session) ++ flat_map ended (all_lines 0 l.nets))
