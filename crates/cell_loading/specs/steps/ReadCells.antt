-- Cells that were read: their names, and the names of the cells that they use.
use Rattle.std.specs.Prelude.{◌≡◌, ℕ, Bool, List, [], map, slice_index_or, Vec}
use Rattle.std.specs.List.{list_any}
use Rattle.std.specs.Str.{bytes_eq}
use Rattle.std.specs.declared.alloc.Global.{Global}
use Rattle.mag_text.specs.CellBodies.declared.bodies.CellBody.{CellBody}
use Rattle.mag_text.specs.CellBodies.declared.bodies.CellUse.{CellUse}
use Rattle.mag_text.specs.CellLibrary.Additions.{names_with}
use Rattle.mag_text.specs.CellLibrary.Views.{LibraryView}

-- the names of cells that were read
abbrev pub names_in : List (List ℕ × CellBody) → List (List ℕ)
names_in cells = map (λ cell. cell.0) cells

-- The words of the set are the names of the cells, in whatever order.
abbrev pub AreNamesOf : List (Vec ℕ Global) → List (List ℕ × CellBody) → Type 0
AreNamesOf words cells = (name : List ℕ) → list_any (λ word. bytes_eq name word.items) words ≡ list_any (bytes_eq name) (names_in cells)

-- a cell of the library, or one that was read, has the name
abbrev pub is_among : LibraryView → List (List ℕ × CellBody) → List ℕ → Bool
is_among view cells name = list_any (bytes_eq name) (names_with view cells)

-- what stands past the end of a list of cells
abbrev pub no_read : List ℕ × CellBody
no_read = ([], record { paint = record { kinds = []; planes = [] }; uses = []; labels = []; scale = (1, 1) })

-- the uses of the cell at a position
abbrev pub uses_at : List (List ℕ × CellBody) → ℕ → List CellUse
uses_at cells cell = (slice_index_or cells cell no_read).1.uses

-- the names of the cells that are used, in the order of the uses
abbrev pub children_of : List CellUse → List (List ℕ)
children_of uses = map (λ used. used.cell) uses
