use Rattle.names.proofs.Common.{AreFirstTiles}
use Rattle.names.proofs.FirstTileLaws.{AreMarked}
use Rattle.names.proofs.TakingLaws.{IsSeen}
use Rattle.names.proofs.first_tiles.first_of_classes.Given as goal

abbrev pub invariant-loop-tile : goal.invariant-loop-tile
invariant-loop-tile l = record {
  marks : AreMarked l.classes l.sorted l.tile-index l.count l.seen.items;
  firsts : AreFirstTiles l.classes (IsSeen l.sorted l.tile-index) l.firsts.items;
}
