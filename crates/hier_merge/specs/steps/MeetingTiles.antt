-- The tiles that are found where parts of a cell interact.
use Rattle.std.specs.Prelude.{List, All}
use Rattle.geo_core.specs.declared.squares.Rect.{Rect}
use Rattle.geo_core.specs.Areas.{IsNear}
use Rattle.geo_core.specs.Strips.{IsStrips}
use Rattle.tech_model.specs.declared.raw.RawTech.{RawTech}
use Rattle.cell_library.specs.LayoutModel.CellTrees.{CellTree}
use Rattle.cell_library.specs.LayoutModel.FlatSets.{parts_in}
use Rattle.interact.specs.NearBoxes.{IsShared}
use Rattle.cell_library.specs.declared.part_tiles.PartTile.{PartTile}
use Rattle.cell_library.specs.ElementBoxes.{HoldParts}
use Rattle.hier_merge.specs.steps.Visits.{AreVisits}

-- Visits hand out the tiles, of the areas that two of the boxes of the cell's parts share, each grown by one.
pub record AreMeetingTiles (raw : RawTech) (tree : CellTree) (tiles : List PartTile) : Type 0 where
  pub boxes : List Rect
  pub hold : HoldParts boxes (parts_in raw tree)
  pub areas : List Rect
  pub are_areas : IsStrips (IsShared boxes) areas
  pub near : All IsNear areas
  pub visits : AreVisits raw tree areas tiles
