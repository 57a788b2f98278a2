-- What is seen of a library: its technology, its scale, and its cells in order of arrival.
use Rattle.std.specs.Prelude.{ℕ, zero, suc, List, [], ◌∷◌, map, slice_index_or, Option}
use Rattle.std.specs.List.{position}
use Rattle.std.specs.Str.{bytes_eq}
use Rattle.tech_model.specs.declared.raw.Label.{Label}
use Rattle.tech_model.specs.declared.raw.RawTech.{RawTech}
use Rattle.cell_bodies.specs.LayoutModel.Layouts.{Layout}
use Rattle.cell_tree.specs.declared.use_tables.UseBody.{UseBody}

-- A cell: its name, its own paint, its labels, and its uses with their ids, the last two in order of arrival. A child of a use is
-- the position of a cell.
pub record CellView : Type 0 where
  pub name : List ℕ
  pub own : Layout
  pub labels : List Label
  pub uses : List (List ℕ × UseBody)

-- A library: there is a scale where there is a cell.
pub record LibraryView : Type 0 where
  pub tech : RawTech
  pub scale : Option (ℕ × ℕ)
  pub cells : List CellView

-- the list with a change of the thing at a position
abbrev pub changed_at : {X : Type 0} → List X → ℕ → (X → X) → List X
changed_at [] k change = []
changed_at (x ∷ xs) zero change = change x ∷ xs
changed_at (x ∷ xs) (suc k) change = x ∷ changed_at xs k change

-- the library with a change of one cell
abbrev pub with_cell_changed : LibraryView → ℕ → (CellView → CellView) → LibraryView
with_cell_changed view cell change = record view { cells = changed_at view.cells cell change }

-- the names of the cells
abbrev pub names_of : List CellView → List (List ℕ)
names_of cells = map (λ cell. cell.name) cells

-- the position of the cell of this name
abbrev pub cell_named : LibraryView → List ℕ → Option ℕ
cell_named view name = position (bytes_eq name) (names_of view.cells)

-- a cell without a name, paint, labels and uses
abbrev pub no_cell : CellView
no_cell = record { name = []; own = λ place. 0; labels = []; uses = [] }

-- the cell at a position
abbrev pub view_at : LibraryView → ℕ → CellView
view_at view cell = slice_index_or view.cells cell no_cell
