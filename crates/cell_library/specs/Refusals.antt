-- Which fault each edit is refused for: the first that it has, in this order.
use Rattle.std.specs.Prelude.{◌≡◌, ◌⊎◌, ◌≤◌, not, ℕ, ℤ, pos, false, Bool, ◌&&◌, IsTrue, List, length, map, None, IsSome, Result, Ok, Err, slice_index_or}
use Rattle.std.specs.List.{list_any}
use Rattle.std.specs.Str.{bytes_eq}
use Rattle.geo_core.specs.declared.grids.Grid.{Grid}
use Rattle.geo_core.specs.declared.squares.Rect.{Rect}
use Rattle.geo_core.specs.Areas.{has_square}
use Rattle.tech_model.specs.declared.raw.Label.{Label}
use Rattle.cell_bodies.specs.CellPaint.Painting.{is_in_range}
use Rattle.cell_tree.specs.declared.limits.TheConstants.{MOST_USES}
use Rattle.cell_tree.specs.declared.sizes.Dimension.TheVariants.{Depth as DepthOf, Elements as ElementsOf, Hull}
use Rattle.cell_tree.specs.declared.use_tables.UseBody.{UseBody}
use Rattle.cell_tree.specs.Cells.{IsAbove}
use Rattle.cell_tree.specs.Sizes.{CellState}
use Rattle.cell_bodies.specs.Numbers.{has_sides, is_displacement, are_few_elements}
use Rattle.cell_library.specs.declared.faults.LibFault.{LibFault}
use Rattle.cell_library.specs.declared.faults.LibFault.TheVariants.{CellExists, EmptyRect, OutOfRange, BadTransform, NoUse, UseExists, Cycle, NoLabel, TooMany}
use Rattle.cell_library.specs.declared.faults.LibFault.TheVariants.{Memory}
use Rattle.cell_library.specs.declared.limits.LibraryLimit.TheVariants.{Cells, Uses, Depth, Elements, Edits}
use Rattle.cell_library.specs.declared.limits.TheConstants.{MOST_CELLS, MOST_EDITS}
use Rattle.cell_library.specs.Views.{CellView, LibraryView, cell_named, view_at}
use Rattle.cell_library.specs.Edits.{painted, erased, labelled, placed, transform_of, with_grid, moved, moved_use}
use Rattle.cell_library.specs.Limits.{GoesPast}

-- ---- the order of faults

-- What was told is this fault, where the condition holds, and else one of the later ones.
abbrev pub FirstOf : Type 0 → LibFault → (LibFault → Type 0) → LibFault → Type 0
FirstOf Condition fault Later told = (Condition × (told ≡ fault)) ⊎ ((Condition → ⊥) × Later told)

-- nothing else is refused
abbrev pub NothingElse : LibFault → Type 0
NothingElse told = ⊥

-- An edit is refused where there were too many before it, and then for its own faults.
abbrev pub EditIsRefused : ℕ → (LibFault → Type 0) → LibFault → Type 0
EditIsRefused edits IsRefused told = FirstOf (edits ≡ MOST_EDITS) (TooMany Edits) IsRefused told

-- A call that is refused for these faults alone answers with the fault, and answers Ok where there is none.
abbrev pub Answers : {X : Type 0} → (LibFault → Type 0) → Result X LibFault → Type 0
Answers IsRefused (Ok x) = (fault : LibFault) → IsRefused fault → ⊥
Answers IsRefused (Err told) = IsRefused told

-- The fault is one of these, or there was too little memory.
abbrev pub HasFaultOrLacksMemory : (LibFault → Type 0) → LibFault → Type 0
HasFaultOrLacksMemory IsRefused told = (told ≡ Memory) ⊎ IsRefused told

-- The same of a call that takes memory, of which there may be too little at any time.
abbrev pub AnswersOrLacksMemory : {X : Type 0} → (LibFault → Type 0) → Result X LibFault → Type 0
AnswersOrLacksMemory IsRefused (Ok x) = (fault : LibFault) → IsRefused fault → ⊥
AnswersOrLacksMemory IsRefused (Err told) = HasFaultOrLacksMemory IsRefused told

-- ---- a new cell

-- `new`: there is a cell of the name, or there are too many.
abbrev pub NewCellIsRefused : LibraryView → List ℕ → LibFault → Type 0
NewCellIsRefused view name =
    FirstOf (IsSome (cell_named view name)) CellExists
    (FirstOf (MOST_CELLS ≤ length view.cells) (TooMany Cells)
    NothingElse)

-- ---- paint and labels

-- The area has no square, or it goes past the range, or something else is wrong.
abbrev pub AreaIsRefused : Rect → (LibFault → Type 0) → LibFault → Type 0
AreaIsRefused area Later = FirstOf (has_square area ≡ false) EmptyRect (FirstOf (is_in_range area ≡ false) OutOfRange Later)

-- `paint`: the area has no square, or it goes past the range, or some cell's hull would.
abbrev pub PaintIsRefused : LibraryView → ℕ → ℕ → Rect → LibFault → Type 0
PaintIsRefused view cell layer area = AreaIsRefused area (FirstOf (GoesPast Hull (painted view cell layer area)) OutOfRange NothingElse)

-- `erase`: the same
abbrev pub EraseIsRefused : LibraryView → ℕ → ℕ → Rect → LibFault → Type 0
EraseIsRefused view cell layer area = AreaIsRefused area (FirstOf (GoesPast Hull (erased view cell layer area)) OutOfRange NothingElse)

-- An edge of the rectangle goes past the one on its other side, or the rectangle goes past the range, or something else is wrong.
abbrev pub LabelAreaIsRefused : Rect → (LibFault → Type 0) → LibFault → Type 0
LabelAreaIsRefused area Later = FirstOf (has_sides area ≡ false) EmptyRect (FirstOf (is_in_range area ≡ false) OutOfRange Later)

-- `label`: the rectangle ends before it begins, or it goes past the range, or some cell's hull would.
abbrev pub LabelIsRefused : LibraryView → ℕ → Label → LibFault → Type 0
LabelIsRefused view cell label = LabelAreaIsRefused label.area (FirstOf (GoesPast Hull (labelled view cell label)) OutOfRange NothingElse)

-- some label has the text
abbrev pub has_text : List Label → List ℕ → Bool
has_text labels text = list_any (λ label. bytes_eq label.text text) labels

-- `unlabel`: no label has the text.
abbrev pub UnlabelIsRefused : LibraryView → ℕ → List ℕ → LibFault → Type 0
UnlabelIsRefused view cell text = FirstOf (has_text (view_at view cell).labels text ≡ false) NoLabel NothingElse

-- ---- uses

-- some use has the id
abbrev pub has_id : List (List ℕ × UseBody) → List ℕ → Bool
has_id uses id = list_any (λ entry. bytes_eq entry.0 id) uses

-- the uses of a cell, without its own box
abbrev pub uses_of : CellView → CellState
uses_of cell = record { own = None; uses = cell.uses }

-- The upper cell is the lower one, or stands above it by a chain of uses.
abbrev pub StandsAbove : LibraryView → ℕ → ℕ → Type 0
StandsAbove view lower upper = IsAbove (map uses_of view.cells) lower upper

-- the third and the last of six numbers are displacements that a use may have
abbrev pub are_displacements : List ℤ → Bool
are_displacements six = is_displacement (slice_index_or six 2 (pos 0)) && is_displacement (slice_index_or six 5 (pos 0))

-- There is a use of the id, the six numbers aren't those of an orientation, a displacement is out of range, or something else is wrong.
abbrev pub PlacingIsRefused : List (List ℕ × UseBody) → List ℕ → List ℤ → (LibFault → Type 0) → LibFault → Type 0
PlacingIsRefused uses id six Later =
    FirstOf (IsTrue (has_id uses id)) UseExists
    (FirstOf (transform_of six ≡ None) BadTransform
    (FirstOf (are_displacements six ≡ false) OutOfRange Later))

-- `place`: there is a use of the id; the six numbers aren't those of an orientation; a displacement is out of range; the child would
-- stand below itself; the cell has too many uses; some cell would stand too deep, have too many elements, or have too far a hull.
abbrev pub PlaceIsRefused : LibraryView → ℕ → ℕ → List ℕ → List ℤ → LibFault → Type 0
PlaceIsRefused view cell child id six =
    PlacingIsRefused (view_at view cell).uses id six
    (FirstOf (StandsAbove view cell child) (Cycle (view_at view child).name)
    (FirstOf (MOST_USES ≤ length (view_at view cell).uses) (TooMany Uses)
    (FirstOf (GoesPast DepthOf (placed view cell child id six)) (TooMany Depth)
    (FirstOf (GoesPast ElementsOf (placed view cell child id six)) (TooMany Elements)
    (FirstOf (GoesPast Hull (placed view cell child id six)) OutOfRange
    NothingElse)))))

-- `array`: there is no use of the id; a separation is out of range; the grid, or some cell, would have too many elements; some hull
-- would reach too far.
abbrev pub ArrayIsRefused : LibraryView → ℕ → List ℕ → Grid → LibFault → Type 0
ArrayIsRefused view cell id grid =
    FirstOf (has_id (view_at view cell).uses id ≡ false) NoUse
    (FirstOf ((is_displacement grid.xsep && is_displacement grid.ysep) ≡ false) OutOfRange
    (FirstOf (are_few_elements grid.xlo grid.xhi grid.ylo grid.yhi ≡ false) (TooMany Elements)
    (FirstOf (GoesPast ElementsOf (with_grid view cell id grid)) (TooMany Elements)
    (FirstOf (GoesPast Hull (with_grid view cell id grid)) OutOfRange
    NothingElse))))

-- the use stands at displacements that it may have
abbrev pub stands_in_range : UseBody → Bool
stands_in_range used = is_displacement used.placed.dx && is_displacement used.placed.dy

-- some use with the id would stand, when moved, where no use may
abbrev pub moves_too_far : List (List ℕ × UseBody) → List ℕ → ℤ → ℤ → Bool
moves_too_far uses id dx dy = list_any (λ entry. bytes_eq entry.0 id && not (stands_in_range (moved_use dx dy entry.1))) uses

-- `move`: there is no use of the id; a displacement would be out of range; some hull would reach too far.
abbrev pub MoveIsRefused : LibraryView → ℕ → List ℕ → ℤ → ℤ → LibFault → Type 0
MoveIsRefused view cell id dx dy =
    FirstOf (has_id (view_at view cell).uses id ≡ false) NoUse
    (FirstOf (IsTrue (moves_too_far (view_at view cell).uses id dx dy)) OutOfRange
    (FirstOf (GoesPast Hull (moved view cell id dx dy)) OutOfRange
    NothingElse))

-- `delete`: there is no use of the id.
abbrev pub DeleteIsRefused : LibraryView → ℕ → List ℕ → LibFault → Type 0
DeleteIsRefused view cell id = FirstOf (has_id (view_at view cell).uses id ≡ false) NoUse NothingElse
