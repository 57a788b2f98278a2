-- What edits that give a cell back its paint or its labels do to the parts of a library, and what they ask for.
use Rattle.std.specs.Prelude.{◌≡◌, ◌⊎◌, ◌<◌, ◌&&◌, int_lt, ℕ, ℤ, false, Bool, List, Option, slice_set}
use Rattle.geo_core.specs.FiniteSets.Lists.{In}
use Rattle.geo_core.specs.declared.squares.Piece.{Piece}
use Rattle.geo_core.specs.declared.squares.Rect.{Rect}
use Rattle.geo_core.specs.Areas.{LiesWithin}
use Rattle.geo_core.specs.Covering.{is_covered}
use Rattle.tech_model.specs.declared.raw.Label.{Label}
use Rattle.cell_bodies.specs.LayoutModel.Layouts.{Layout}
use Rattle.cell_bodies.specs.LayoutModel.Places.{Place}
use Rattle.cell_bodies.specs.CellPaint.Paints.{layout_of}
use Rattle.cell_bodies.specs.CellPaint.Pieces.{with_pieces}
use Rattle.cell_tree.specs.declared.sizes.Dimension.TheVariants.{Hull}
use Rattle.cell_tree.specs.Trees.{Tree, IsEdited, IsLawfulOwn, WouldPass, cell_at, with_own}
use Rattle.cell_library.specs.declared.limits.TheConstants.{MOST_EDITS}
use Rattle.cell_library.specs.Contents.{Held, held_at, with_labels, IsRepainted}
use Rattle.cell_library.specs.OwnBoxes.{OwnBoxIs}

-- The cell has room for what it is to have of its own: the box of that is lawful, and with it no hull goes past the range of paint.
pub record HasRoomFor (tree : Tree) (cell : ℕ) (own : Layout) (labels : List Label) : Type 0 where
  pub lawful : (box : Option Rect) → OwnBoxIs own labels box → IsLawfulOwn box
  pub hulls : (box : Option Rect) → OwnBoxIs own labels box → WouldPass Hull tree cell (with_own (cell_at tree.cells cell) box) → ⊥

-- The box is that of a layout and labels that differ in the area alone: what is there now and was not, or was there and is not, lies in it.
pub record IsBoxBefore (area : Rect) (own : Layout) (labels : List Label) (box : Option Rect) : Type 0 where
  pub layout : Layout
  pub labels_before : List Label
  pub is : OwnBoxIs layout labels_before box
  pub agrees : (place : Place) → is_covered area place.square ≡ false → layout place ≡ own place
  pub came : (label : Label) → In label labels → In label labels_before ⊎ LiesWithin label.area area
  pub went : (label : Label) → In label labels_before → In label labels ⊎ LiesWithin label.area area

-- the two ends lie between the outer two
abbrev pub are_between : ℤ → ℤ → ℤ → ℤ → Bool
are_between low high from to = int_lt from low && int_lt high to

-- the area lies inside the box and touches none of its sides
abbrev pub is_inside : Rect → Rect → Bool
is_inside area box = are_between area.xlo area.xhi box.xlo box.xhi && are_between area.ylo area.yhi box.ylo box.yhi

-- The pieces were put in the area, and the cell's box is that of what it then has.
pub record IsPutBackIn (area : Rect) (pieces : List (ℕ × Piece)) (cell : ℕ) (old new : List Held) (before after : Tree) : Type 0 where
  pub edits : before.edits < MOST_EDITS
  pub put : IsRepainted old new cell (with_pieces area pieces)
  pub box : Option Rect
  pub own : OwnBoxIs (layout_of (held_at new cell).paint) (held_at new cell).labels box
  pub edited : IsEdited before after cell (with_own (cell_at before.cells cell) box)

-- The cell was given the labels, and its box is that of what it then has.
pub record IsRelabelledIn (labels : List Label) (cell : ℕ) (old new : List Held) (before after : Tree) : Type 0 where
  pub edits : before.edits < MOST_EDITS
  pub relabelled : new ≡ slice_set old cell (with_labels (held_at old cell) labels)
  pub box : Option Rect
  pub own : OwnBoxIs (layout_of (held_at new cell).paint) (held_at new cell).labels box
  pub edited : IsEdited before after cell (with_own (cell_at before.cells cell) box)
