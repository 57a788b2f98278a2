-- What edits do to the parts of a library.
use Rattle.std.specs.Prelude.{◌≡◌, ◌<◌, ◌&&◌, ℕ, ℤ, true, false, List, ◌++◌, ◌∷◌, [], length, Option, Some, None, unwrap_or, slice_get, slice_set}
use Rattle.geo_core.specs.declared.grids.Grid.{Grid}
use Rattle.geo_core.specs.declared.squares.Rect.{Rect}
use Rattle.geo_core.specs.declared.transforms.Transform.{Transform}
use Rattle.geo_core.specs.Areas.{has_square}
use Rattle.tech_model.specs.declared.raw.Label.{Label}
use Rattle.tech_model.specs.declared.raw.RawTech.{RawTech}
use Rattle.cell_bodies.specs.LayoutModel.Places.{Place}
use Rattle.cell_bodies.specs.CellPaint.Painting.{with_paint, with_erased, is_in_range}
use Rattle.cell_bodies.specs.CellPaint.Paints.{Paint, layout_of}
use Rattle.cell_bodies.specs.Numbers.{has_sides, is_displacement, are_few_elements}
use Rattle.cell_tree.specs.declared.faults.TreeFault.{TreeFault}
use Rattle.cell_tree.specs.declared.faults.TreeFault.TheVariants.{Cycle as Crossing, TooManyUses, Passed, Memory as NoMemory}
use Rattle.cell_tree.specs.declared.sizes.Dimension.TheVariants.{Depth as DepthOf, Elements as ElementsOf, Hull}
use Rattle.cell_tree.specs.declared.use_tables.UseBody.{UseBody}
use Rattle.cell_tree.specs.Sizes.{CellState}
use Rattle.cell_tree.specs.Trees.{Tree, IsAdded, IsEdited, WouldPass, RefusesUse, RefusesMove, cell_at, with_own, with_placed, with_moved, without_use}
use Rattle.cell_library.specs.declared.faults.LibFault.{LibFault}
use Rattle.cell_library.specs.declared.faults.LibFault.TheVariants.{OutOfRange, Cycle, TooMany, Memory}
use Rattle.cell_library.specs.declared.limits.LibraryLimit.TheVariants.{Uses, Depth, Elements}
use Rattle.cell_library.specs.declared.limits.TheConstants.{MOST_CELLS, MOST_EDITS}
use Rattle.cell_library.specs.Contents.{Held, held_at, position_of, with_label, without_labels, IsRepainted}
use Rattle.cell_library.specs.Edits.{transform_of, single_use, moved_use}
use Rattle.cell_library.specs.OwnBoxes.{OwnBoxIs, box_with}
use Rattle.cell_library.specs.Refusals.{FirstOf, NothingElse, has_id, has_text, are_displacements, stands_in_range}

-- the cell with a box that goes round the area too
abbrev pub with_area : Tree → ℕ → Rect → CellState
with_area tree cell area = with_own (cell_at tree.cells cell) (Some (box_with (cell_at tree.cells cell).own area))

-- the hull of some cell would go past the range, were the cell's box to go round the area too
abbrev pub BoxIsRefused : Tree → ℕ → Rect → LibFault → Type 0
BoxIsRefused tree cell area = FirstOf (WouldPass Hull tree cell (with_area tree cell area)) OutOfRange NothingElse

-- The layer was painted over the area, and the cell's box goes round it too.
pub record IsPaintedIn (raw : RawTech) (layer : ℕ) (area : Rect) (cell : ℕ) (old new : List Held) (before after : Tree) : Type 0 where
  pub edits : before.edits < MOST_EDITS
  pub proper : has_square area ≡ true
  pub near : is_in_range area ≡ true
  pub painted : IsRepainted old new cell (with_paint raw layer area)
  pub edited : IsEdited before after cell (with_area before cell area)

-- The layer was erased from the area, and the cell's box is that of what is left.
pub record IsErasedIn (raw : RawTech) (layer : ℕ) (area : Rect) (cell : ℕ) (old new : List Held) (before after : Tree) : Type 0 where
  pub edits : before.edits < MOST_EDITS
  pub proper : has_square area ≡ true
  pub near : is_in_range area ≡ true
  pub erased : IsRepainted old new cell (with_erased raw layer area)
  pub box : Option Rect
  pub own : OwnBoxIs (layout_of (held_at new cell).paint) (held_at new cell).labels box
  pub edited : IsEdited before after cell (with_own (cell_at before.cells cell) box)

-- The label was added, and the cell's box goes round it too.
pub record IsLabelledIn (label : Label) (cell : ℕ) (old new : List Held) (before after : Tree) : Type 0 where
  pub edits : before.edits < MOST_EDITS
  pub sides : has_sides label.area ≡ true
  pub near : is_in_range label.area ≡ true
  pub labelled : new ≡ slice_set old cell (with_label (held_at old cell) label)
  pub edited : IsEdited before after cell (with_area before cell label.area)

-- The labels with the text were taken away, and the cell's box is that of what is left.
pub record IsUnlabelledIn (text : List ℕ) (cell : ℕ) (old new : List Held) (before after : Tree) : Type 0 where
  pub edits : before.edits < MOST_EDITS
  pub some : has_text (held_at old cell).labels text ≡ true
  pub unlabelled : new ≡ slice_set old cell (without_labels (held_at old cell) text)
  pub box : Option Rect
  pub own : OwnBoxIs (layout_of (held_at new cell).paint) (held_at new cell).labels box
  pub edited : IsEdited before after cell (with_own (cell_at before.cells cell) box)

-- ---- uses

-- the fault of the tree, as a fault of the library
abbrev pub of_tree : List Held → TreeFault → LibFault
of_tree contents (Crossing key) = Cycle (held_at contents key).name
of_tree contents TooManyUses = TooMany Uses
of_tree contents (Passed DepthOf) = TooMany Depth
of_tree contents (Passed ElementsOf) = TooMany Elements
of_tree contents (Passed Hull) = OutOfRange
of_tree contents NoMemory = Memory

-- the tree refuses the use, which has the transform of the six numbers
pub record TreeRefusesUse (contents : List Held) (tree : Tree) (cell child : ℕ) (id : List ℕ) (six : List ℤ) (told : LibFault) : Type 0 where
  pub transform : Transform
  pub is : transform_of six ≡ Some transform
  pub fault : TreeFault
  pub refuses : RefusesUse tree cell id (single_use child transform) fault
  pub told_is : told ≡ of_tree contents fault

-- The use was added.
pub record IsPlacedIn (cell child : ℕ) (id : List ℕ) (six : List ℤ) (before after : Tree) : Type 0 where
  pub edits : before.edits < MOST_EDITS
  pub new : has_id (cell_at before.cells cell).uses id ≡ false
  pub transform : Transform
  pub is : transform_of six ≡ Some transform
  pub near : are_displacements six ≡ true
  pub edited : IsEdited before after cell (with_placed (cell_at before.cells cell) id (single_use child transform))

-- a use with the id stands at a place
pub record HasUseAt (cell : CellState) (id : List ℕ) (k : ℕ) (used : UseBody) : Type 0 where
  pub is : slice_get cell.uses k ≡ Some (id, used)

-- the tree refuses to place the use otherwise
pub record TreeRefusesMove (tree : Tree) (cell k : ℕ) (placed : Transform) (grid : Option Grid) (told : LibFault) : Type 0 where
  pub fault : TreeFault
  pub refuses : RefusesMove tree cell k placed grid fault
  pub told_is : told ≡ of_tree [] fault

-- The use was given the grid.
pub record IsArrayedIn (cell : ℕ) (id : List ℕ) (grid : Grid) (before after : Tree) : Type 0 where
  pub edits : before.edits < MOST_EDITS
  pub k : ℕ
  pub used : UseBody
  pub has : HasUseAt (cell_at before.cells cell) id k used
  pub near : (is_displacement grid.xsep && is_displacement grid.ysep) ≡ true
  pub few : are_few_elements grid.xlo grid.xhi grid.ylo grid.yhi ≡ true
  pub edited : IsEdited before after cell (with_moved (cell_at before.cells cell) k used.placed (Some grid))

-- why a use isn't given the grid
pub record GridIsRefused (tree : Tree) (cell : ℕ) (id : List ℕ) (grid : Grid) (told : LibFault) : Type 0 where
  pub k : ℕ
  pub used : UseBody
  pub has : HasUseAt (cell_at tree.cells cell) id k used
  pub why : FirstOf ((is_displacement grid.xsep && is_displacement grid.ysep) ≡ false) OutOfRange
      (FirstOf (are_few_elements grid.xlo grid.xhi grid.ylo grid.yhi ≡ false) (TooMany Elements)
      (TreeRefusesMove tree cell k used.placed (Some grid))) told

-- The use was moved.
pub record IsMovedIn (cell : ℕ) (id : List ℕ) (dx dy : ℤ) (before after : Tree) : Type 0 where
  pub edits : before.edits < MOST_EDITS
  pub k : ℕ
  pub used : UseBody
  pub has : HasUseAt (cell_at before.cells cell) id k used
  pub near : stands_in_range (moved_use dx dy used) ≡ true
  pub edited : IsEdited before after cell (with_moved (cell_at before.cells cell) k (moved_use dx dy used).placed used.grid)

-- why a use isn't moved
pub record ShiftIsRefused (tree : Tree) (cell : ℕ) (id : List ℕ) (dx dy : ℤ) (told : LibFault) : Type 0 where
  pub k : ℕ
  pub used : UseBody
  pub has : HasUseAt (cell_at tree.cells cell) id k used
  pub why : FirstOf (stands_in_range (moved_use dx dy used) ≡ false) OutOfRange
      (TreeRefusesMove tree cell k (moved_use dx dy used).placed used.grid) told

-- The use was taken away.
pub record IsDeletedIn (cell : ℕ) (id : List ℕ) (before after : Tree) : Type 0 where
  pub edits : before.edits < MOST_EDITS
  pub k : ℕ
  pub used : UseBody
  pub has : HasUseAt (cell_at before.cells cell) id k used
  pub edited : IsEdited before after cell (without_use (cell_at before.cells cell) k)

-- ---- a new cell

-- An empty cell came last, and the first one gave the scale.
pub record IsCellAdded (raw : RawTech) (name : List ℕ) (scale wider : Option (ℕ × ℕ)) (old new : List Held) (before after : Tree) : Type 0 where
  pub edits : before.edits < MOST_EDITS
  pub unknown : position_of name old ≡ None
  pub few : length old < MOST_CELLS
  pub scale_is : wider ≡ Some (unwrap_or scale (1, 1))
  pub paint : Paint
  pub kinds : paint.kinds ≡ raw.types
  pub planes : length paint.planes ≡ length raw.planes
  pub empty : (place : Place) → layout_of paint place ≡ 0
  pub contents : new ≡ old ++ record { name = name; paint = paint; labels = [] } ∷ []
  pub tree : IsAdded before after
