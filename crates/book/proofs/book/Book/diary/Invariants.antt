use Rattle.std.proofs.Common.{◌≤◌, map, length, take}
use Rattle.keeper.proofs.Filling.{Filling}
use Rattle.swaps.specs.Ends.{sooner, end_of}
use Rattle.book.proofs.book.Book.diary.Given as goal

abbrev pub invariant-loop-swap : goal.invariant-loop-swap
invariant-loop-swap l = (l.swap-index ≤ length l.swap-items) × Filling sooner l.initial.keeper (map end_of (take l.swap-index l.swap-items)) l.keeper
