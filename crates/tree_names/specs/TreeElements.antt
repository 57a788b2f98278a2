-- The elements of a tree of records, told by the cells of a tree as they stand.
use Rattle.std.specs.Prelude.{◌≡◌, Some, List}
use Rattle.name_classes.specs.GeoCore.declared.squares.Square.{Square}
use Rattle.name_classes.specs.GeoCore.Images.{image}
use Rattle.hierarchy_model.specs.TechModel.declared.raw.RawTech.{RawTech}
use Rattle.name_classes.specs.ExtModel.declared.records.CellExt.{CellExt}
use Rattle.name_classes.specs.CircuitModel.Elements.{Element, ext_of, ids_of, placed}
use Rattle.own_record_laws.specs.TreeRecords.NamedTrees.{NamedTree, NamedStanding, own_body}
use Rattle.own_record_laws.specs.TreeRecords.TreeRecords.{IsTreeRecord}

-- The element is the cell as it stands: the same names lead to it, its uses move squares as the cell's transform does, and it has the
-- record that is found under the cell's name. The record is that of the tree of the cell.
pub record IsElementFor (raw : RawTech) (exts : List CellExt) (standing : NamedStanding) (element : Element) : Type 0 where
  pub ids : ids_of element ≡ standing.ids
  pub moves : (square : Square) → placed element.uses square ≡ image standing.placed square
  pub found : ext_of exts standing.own.name ≡ Some element.ext
  pub tree : NamedTree
  pub own : own_body tree ≡ standing.own
  pub is : IsTreeRecord raw tree element.ext
