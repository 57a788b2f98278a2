-- What is seen of what a library keeps.
use Rattle.std.specs.Prelude.{ℕ, List, [], ◌∷◌}
use Rattle.cell_bodies.specs.CellPaint.Paints.{layout_of}
use Rattle.cell_tree.specs.declared.use_tables.UseBody.{UseBody}
use Rattle.cell_library.specs.Contents.{Held}
use Rattle.cell_library.specs.Views.{CellView}

-- a cell with its uses
abbrev pub cell_view : Held → List (List ℕ × UseBody) → CellView
cell_view held uses = record { name = held.name; own = layout_of held.paint; labels = held.labels; uses = uses }

-- the cells with the uses of each
abbrev pub cell_views : List Held → List (List (List ℕ × UseBody)) → List CellView
cell_views [] uses = []
cell_views (held ∷ contents) [] = cell_view held [] ∷ cell_views contents []
cell_views (held ∷ contents) (of_cell ∷ uses) = cell_view held of_cell ∷ cell_views contents uses
