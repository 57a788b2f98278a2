-- How far reading has come: the names that are left to be read, and what holds until then.
use Rattle.std.specs.Prelude.{◌≡◌, ◌⊎◌, ◌<◌, ◌≤◌, ◌+◌, ◌-◌, ◌*◌, ℕ, true, false, IsTrue, List, [], ◌∷◌, ◌++◌, length, drop, map, Option, Some, None, All}
use Rattle.std.specs.Option.{option_or}
use Rattle.finite_sets.specs.Lists.{In, Distinct}
use Rattle.text_scan.specs.PlainNames.{is_plain_name}
use Rattle.outside_io.specs.Files.{Files}
use Rattle.session_model.specs.FileTrees.{GoesOn}
use Rattle.cell_tree.specs.declared.limits.TheConstants.{MOST_USES}
use Rattle.mag_text.specs.CellBodies.declared.bodies.CellBody.{CellBody}
use Rattle.mag_text.specs.CellBodies.Bodies.{IsBody}
use Rattle.mag_text.specs.CellLibrary.declared.limits.TheConstants.{MOST_CELLS}
use Rattle.mag_text.specs.CellLibrary.Additions.{first_scale, names_with}
use Rattle.mag_text.specs.CellLibrary.Views.{LibraryView}
use Rattle.cell_loading.specs.declared.walks.Frame.{Frame}
use Rattle.cell_loading.specs.declared.walks.Next.{Next}
use Rattle.cell_loading.specs.declared.walks.Next.TheVariants as next
use Rattle.cell_loading.specs.CellFiles.{ReadCell, cell_file, has_scale}
use Rattle.cell_loading.specs.Loads.{AreBodiesOf}
use Rattle.cell_loading.specs.steps.ReadCells.{children_of, is_among, names_in, uses_at}
use Rattle.cell_loading.specs.Readings.{cell_files}

-- the files of the cells that were read
abbrev pub files_read : List (List ℕ × CellBody) → List (List ℕ)
files_read cells = map cell_file (names_in cells)

-- the names that a cell uses and that were not taken yet
abbrev pub rest_of : List (List ℕ × CellBody) → Frame → List (List ℕ)
rest_of cells frame = drop frame.next (children_of (uses_at cells frame.cell))

-- The names that are left: those of the top frame, which stands last, come first.
abbrev pub names_left : List (List ℕ × CellBody) → List Frame → List (List ℕ)
names_left cells [] = []
names_left cells (frame ∷ frames) = names_left cells frames ++ rest_of cells frame

-- A bound on how many steps are left: each cell that may still come brings its frame and its uses.
abbrev pub work_left : List (List ℕ × CellBody) → List Frame → ℕ
work_left cells frames = (MOST_CELLS + 1 - length cells) * (MOST_USES + 2) + (length (names_left cells frames) + length frames)

-- each frame is of one of so many cells
abbrev pub AreFrames : ℕ → List Frame → Type 0
AreFrames count frames = All (λ frame. frame.cell < count) frames

-- What was taken from a frame of a cell: nothing, since its uses were all taken; or the first name that was left, which some cell has or none.
abbrev pub TakesFrom : LibraryView → List (List ℕ × CellBody) → List (List ℕ) → List (List ℕ) → Next → Type 0
TakesFrom view cells left after next.Nothing = left ≡ []
TakesFrom view cells left after next.Known = (name : List ℕ) × (left ≡ name ∷ after) × (is_among view cells name ≡ true)
TakesFrom view cells left after (next.Unknown name) = (left ≡ name ∷ after) × (is_among view cells name ≡ false)

-- What was taken from the names that are left: none or one that some cell has, or one that none has.
abbrev pub Takes : LibraryView → List (List ℕ × CellBody) → List (List ℕ) → List (List ℕ) → Option (List ℕ) → Type 0
Takes view cells left after None = (left ≡ after) ⊎ ((name : List ℕ) × (left ≡ name ∷ after) × (is_among view cells name ≡ true))
Takes view cells left after (Some name) = (left ≡ name ∷ after) × (is_among view cells name ≡ false)

-- A body that may follow these cells: it is of its form, has no more uses than it may have, has the scale that it has to have, and there is room
-- for its cell.
pub record MayFollow (view : LibraryView) (cells : List (List ℕ × CellBody)) (body : CellBody) : Type 0 where
  pub form : IsBody view.tech body
  pub few_uses : length body.uses ≤ MOST_USES
  pub scale : has_scale (option_or view.scale (first_scale cells)) body.scale ≡ true
  pub room : length view.cells + length cells < MOST_CELLS

-- What holds of the cells that were read, where these names are left: they may be added to the library as soon as the cells of the names are there.
pub record AreSoFar (view : LibraryView) (cells : List (List ℕ × CellBody)) (left : List (List ℕ)) : Type 0 where
  pub names : All (λ cell. IsTrue (is_plain_name cell.0)) cells
  pub names_differ : Distinct (names_with view cells)
  pub few : length (names_with view cells) ≤ MOST_CELLS
  pub children : All (λ cell. All (λ used. In used.cell (names_with view cells ++ left)) cell.1.uses) cells
  pub bodies : All (λ cell. IsBody view.tech cell.1) cells
  pub few_uses : All (λ cell. length cell.1.uses ≤ MOST_USES) cells
  pub one_scale : All (λ cell. Some cell.1.scale ≡ option_or view.scale (first_scale cells)) cells
  pub left_plain : All (λ name. IsTrue (is_plain_name name)) left

-- Reading went on from these cells, and names that are left, to those, whose bodies these are: what it comes to from there, it comes to from here.
pub record GoesOnToBodies (files : Files) (view : LibraryView) (read : List ReadCell) (left : List (List ℕ))
    (cells : List (List ℕ × CellBody)) (left_after : List (List ℕ)) : Type 0 where
  pub read_after : List ReadCell
  pub are_bodies : AreBodiesOf view.tech read_after cells
  pub leads : GoesOn (cell_files view) files read left read_after left_after
