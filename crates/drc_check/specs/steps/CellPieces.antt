-- The pieces of a cell's flat layout whose types rules list.
use Rattle.std.specs.Prelude.{List}
use Rattle.finite_sets.specs.Lists.{In}
use Rattle.geo_core.specs.declared.squares.Rect.{Rect}
use Rattle.geo_core.specs.declared.squares.Square.{Square}
use Rattle.geo_core.specs.Areas.{LiesWithin}
use Rattle.geo_core.specs.Covering.{Covers}
use Rattle.tech_model.specs.declared.raw.RawTech.{RawTech}
use Rattle.tech_model.specs.declared.raw.TypeId.{TypeId}
use Rattle.hierarchy_model.specs.Offences.LayoutModel.Places.{Place}
use Rattle.hierarchy_model.specs.Offences.LayoutModel.CellTrees.{CellTree}
use Rattle.hierarchy_model.specs.Offences.LayoutModel.FlatSets.{flat_sets}
use Rattle.cell_library.specs.CellTree.Hulls.{SpansInRange}
use Rattle.drc_rules.specs.declared.rules.Rule.{Rule}
use Rattle.drc_check.specs.declared.pieces.ListedPiece.{ListedPiece}
use Rattle.drc_check.specs.steps.Pieces.{AreListedPieces, IsListedAt}

-- the square is one of these, and some rule lists the type
abbrev pub IsListedIn : (Square → Type 0) → List Rule → Place → TypeId → Type 0
IsListedIn Where rules place kind = Where place.square × IsListedAt rules place kind

-- These are the pieces of the cell's flat layout at these squares, as far as rules list their types, and none goes past the area.
pub record AreListedPiecesIn (raw : RawTech) (tree : CellTree) (rules : List Rule) (Where : Square → Type 0) (area : Rect)
    (pieces : List ListedPiece) : Type 0 where
  pub are : AreListedPieces raw (flat_sets raw tree) (IsListedIn Where rules) pieces
  pub within : (piece : ListedPiece) → In piece pieces → LiesWithin piece.area area

-- These are the pieces in the area.
abbrev pub AreListedPiecesOf : RawTech → CellTree → List Rule → Rect → List ListedPiece → Type 0
AreListedPiecesOf raw tree rules area pieces = AreListedPiecesIn raw tree rules (Covers area) area pieces

-- These are all pieces whose types rules list, and they lie within the range of paint.
pub record AreCellPieces (raw : RawTech) (tree : CellTree) (rules : List Rule) (pieces : List ListedPiece) : Type 0 where
  pub are : AreListedPieces raw (flat_sets raw tree) (IsListedAt rules) pieces
  pub spans : (piece : ListedPiece) → In piece pieces → SpansInRange piece.area
