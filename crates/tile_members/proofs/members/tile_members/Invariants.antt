use Rattle.tile_members.proofs.Common.{◌+◌, ◌≤◌}
use Rattle.tile_members.proofs.FinderLaws.{IsFinding}
use Rattle.tile_members.proofs.members.tile_members.Given as goal

abbrev pub invariant-loop-tile : goal.invariant-loop-tile
invariant-loop-tile g l =
    IsFinding l.library l.records l.fn.cell.0 l.tiles l.tile-index l.finder l.numbers.items × (l.steps ≤ l.fn.steps + l.tile-index)
