-- What the edits make of a library that give a cell back what it had.
use Rattle.std.specs.Prelude.{ℕ, List, insert, Option}
use Rattle.geo_core.specs.declared.grids.Grid.{Grid}
use Rattle.geo_core.specs.declared.squares.Piece.{Piece}
use Rattle.geo_core.specs.declared.squares.Rect.{Rect}
use Rattle.tech_model.specs.declared.raw.Label.{Label}
use Rattle.cell_bodies.specs.CellPaint.Pieces.{with_pieces}
use Rattle.cell_tree.specs.declared.use_tables.UseBody.{UseBody}
use Rattle.cell_library.specs.Contents.{without_last}
use Rattle.cell_library.specs.Edits.{with_use_changed}
use Rattle.cell_library.specs.Views.{LibraryView, with_cell_changed}

-- ---- paint

-- the pieces stand in the area of a cell, and space between them
abbrev pub repainted : LibraryView → ℕ → Rect → List (ℕ × Piece) → LibraryView
repainted view cell area pieces = with_cell_changed view cell (λ body. record body { own = with_pieces area pieces body.own })

-- ---- uses

-- a use comes to a place among those of a cell, and the others keep their order
abbrev pub with_use_at : LibraryView → ℕ → ℕ → List ℕ → UseBody → LibraryView
with_use_at view cell at id used = with_cell_changed view cell (λ body. record body { uses = insert body.uses at (id, used) })

-- the use with the id has the grid, or none, in place of any earlier one
abbrev pub regridded : LibraryView → ℕ → List ℕ → Option Grid → LibraryView
regridded view cell id grid =
    with_cell_changed view cell (λ body. record body { uses = with_use_changed (λ used. record used { grid = grid }) id body.uses })

-- ---- labels

-- the last label is gone from a cell
abbrev pub without_last_label : LibraryView → ℕ → LibraryView
without_last_label view cell = with_cell_changed view cell (λ body. record body { labels = without_last body.labels })

-- a cell has these labels
abbrev pub relabelled : LibraryView → ℕ → List Label → LibraryView
relabelled view cell labels = with_cell_changed view cell (λ body. record body { labels = labels })
