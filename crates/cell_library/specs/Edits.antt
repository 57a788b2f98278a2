-- What each edit makes of a library.
use Rattle.std.specs.Prelude.{not, ℕ, ℤ, ◌+ℤ◌, if◌then◌else◌, List, [], ◌∷◌, ◌++◌, map, filter, Option, Some, None, unwrap_or}
use Rattle.std.specs.Option.{option_map, option_map_or}
use Rattle.std.specs.Str.{bytes_eq}
use Rattle.geo_core.specs.declared.grids.Grid.{Grid}
use Rattle.geo_core.specs.declared.squares.Rect.{Rect}
use Rattle.geo_core.specs.declared.transforms.Transform.{Transform}
use Rattle.geo_core.specs.Orientation.{orient_of}
use Rattle.tech_model.specs.declared.raw.Label.{Label}
use Rattle.cell_bodies.specs.CellPaint.Painting.{with_paint, with_erased}
use Rattle.cell_tree.specs.declared.use_tables.UseBody.{UseBody}
use Rattle.cell_library.specs.Views.{CellView, LibraryView, with_cell_changed}

-- ---- a new cell

-- a cell without paint, labels and uses
abbrev pub empty_cell : List ℕ → CellView
empty_cell name = record { name = name; own = λ place. 0; labels = []; uses = [] }

-- An empty cell comes last. The first cell gives the library the scale 1 1, and a later one has the library's.
abbrev pub with_new_cell : LibraryView → List ℕ → LibraryView
with_new_cell view name =
    record { tech = view.tech; scale = Some (unwrap_or view.scale (1, 1)); cells = view.cells ++ empty_cell name ∷ [] }

-- ---- paint and labels

-- the layer is painted over the area in a cell
abbrev pub painted : LibraryView → ℕ → ℕ → Rect → LibraryView
painted view cell layer area = with_cell_changed view cell (λ body. record body { own = with_paint view.tech layer area body.own })

-- the layer is erased from the area in a cell
abbrev pub erased : LibraryView → ℕ → ℕ → Rect → LibraryView
erased view cell layer area = with_cell_changed view cell (λ body. record body { own = with_erased view.tech layer area body.own })

-- a label comes last in a cell
abbrev pub labelled : LibraryView → ℕ → Label → LibraryView
labelled view cell label = with_cell_changed view cell (λ body. record body { labels = body.labels ++ label ∷ [] })

-- each label with the text is gone from a cell
abbrev pub unlabelled : LibraryView → ℕ → List ℕ → LibraryView
unlabelled view cell text =
    with_cell_changed view cell (λ body. record body { labels = filter (λ label. not (bytes_eq label.text text)) body.labels })

-- ---- uses

-- The transform of six numbers a b c d e f, where a b d e are the factors of an orientation: x' = a*x + b*y + c and y' = d*x + e*y + f.
abbrev pub transform_of : List ℤ → Option Transform
transform_of (a ∷ b ∷ c ∷ d ∷ e ∷ f ∷ []) =
    option_map (λ orient. record { orient = orient; dx = c; dy = f }) (orient_of a b d e)
transform_of _ = None

-- a use of a child, one element of it, at the transform
abbrev pub single_use : ℕ → Transform → UseBody
single_use child placed = record { child = record { 0 = child }; placed = placed; grid = None }

-- A new use of the child comes last in a cell. Six numbers without an orientation place nothing.
abbrev pub placed : LibraryView → ℕ → ℕ → List ℕ → List ℤ → LibraryView
placed view cell child id six =
    option_map_or (λ transform. with_cell_changed view cell (λ body. record body { uses = body.uses ++ (id, single_use child transform) ∷ [] }))
    (transform_of six) view

-- the uses with a change of the one with the id
abbrev pub with_use_changed : (UseBody → UseBody) → List ℕ → List (List ℕ × UseBody) → List (List ℕ × UseBody)
with_use_changed change id uses = map (λ entry. if bytes_eq entry.0 id then (entry.0, change entry.1) else entry) uses

-- the use with the id has the grid, in place of any earlier one
abbrev pub with_grid : LibraryView → ℕ → List ℕ → Grid → LibraryView
with_grid view cell id grid =
    with_cell_changed view cell (λ body. record body { uses = with_use_changed (λ used. record used { grid = Some grid }) id body.uses })

-- the use stands so much farther to the right and farther up
abbrev pub moved_use : ℤ → ℤ → UseBody → UseBody
moved_use dx dy used = record used { placed = record used.placed { dx = used.placed.dx +ℤ dx; dy = used.placed.dy +ℤ dy } }

-- the use with the id is moved
abbrev pub moved : LibraryView → ℕ → List ℕ → ℤ → ℤ → LibraryView
moved view cell id dx dy = with_cell_changed view cell (λ body. record body { uses = with_use_changed (moved_use dx dy) id body.uses })

-- the use with the id is gone, and the others keep their order
abbrev pub without_use : LibraryView → ℕ → List ℕ → LibraryView
without_use view cell id = with_cell_changed view cell (λ body. record body { uses = filter (λ entry. not (bytes_eq entry.0 id)) body.uses })
