-- What the commands that edit do.
use Rattle.std.specs.Prelude.{ℕ, ℤ, suc, if◌then◌else◌, List, [], ◌∷◌, length, codes, Option, Some, None}
use Rattle.std.specs.Int.RustNames.{unsigned_abs}
use Rattle.std.specs.Option.{option_map, option_map_or}
use Rattle.std.specs.Str.{bytes_eq}
use Rattle.geo_core.specs.declared.grids.Grid.{Grid}
use Rattle.geo_core.specs.declared.squares.Rect.{Rect}
use Rattle.tech_model.specs.declared.raw.Label.{Label}
use Rattle.tech_model.specs.declared.raw.LayerId.{LayerId}
use Rattle.tech_model.specs.declared.raw.RawTech.{RawTech}
use Rattle.tech_model.specs.Types.{layer_named, layer_number}
use Rattle.cell_library.specs.Edits.{with_new_cell, painted, erased, labelled, unlabelled, placed, with_grid, moved, without_use}
use Rattle.cell_library.specs.Views.{LibraryView, cell_named}
use Rattle.script_lines.specs.declared.commands.Command.{Command}
use Rattle.script_lines.specs.declared.commands.Command.TheVariants as command
use Rattle.edit_script.specs.Editing.{Editing}

-- a grid of six numbers: the first and the last index and the separation from left to right, and the same upwards
abbrev pub grid_of : List ℤ → Option Grid
grid_of (xlo ∷ xhi ∷ xsep ∷ ylo ∷ yhi ∷ ysep ∷ []) =
    Some (record { xlo = xlo; xhi = xhi; xsep = xsep; ylo = ylo; yhi = yhi; ysep = ysep })
grid_of _ = None

-- the layer that a word names for a label, where it names one: `space` is none
abbrev pub label_layer : RawTech → List ℕ → Option (Option LayerId)
label_layer raw word =
    if bytes_eq word (codes "space") then Some None else option_map (λ layer. Some (layer_number layer)) (layer_named raw word)

-- a label of a layer, or of space
abbrev pub label_of : Option LayerId → Rect → ℤ → List ℕ → Label
label_of layer area position text = record { layer = layer; area = area; position = unsigned_abs position; text = text }

-- The library is changed in its current cell, as one more edit. Without a current cell nothing is changed.
abbrev pub in_current : Editing → (ℕ → LibraryView) → Editing
in_current editing change =
    option_map_or (λ cell. record editing { library = change cell; edits = suc editing.edits }) editing.current editing

-- the change with the layer that the word names
abbrev pub with_layer : LibraryView → List ℕ → (ℕ → LibraryView) → LibraryView
with_layer view word change = option_map_or change (layer_named view.tech word) view

-- the change with the layer that the word names for a label
abbrev pub with_label_layer : LibraryView → List ℕ → (Option LayerId → LibraryView) → LibraryView
with_label_layer view word change = option_map_or change (label_layer view.tech word) view

-- the change with the cell of the name
abbrev pub with_cell : LibraryView → List ℕ → (ℕ → LibraryView) → LibraryView
with_cell view name change = option_map_or change (cell_named view name) view

-- the change with the grid of six numbers
abbrev pub with_six_as_grid : LibraryView → List ℤ → (Grid → LibraryView) → LibraryView
with_six_as_grid view six change = option_map_or change (grid_of six) view

-- What is edited after a command that is accepted: `new` adds an empty cell and makes it the current one, `edit` makes a cell the current
-- one, and the others change the current cell. Other commands change nothing.
abbrev pub applied : Editing → Command → Editing
applied editing (command.New name) =
    record { library = with_new_cell editing.library name; edits = suc editing.edits; current = Some (length editing.library.cells) }
applied editing (command.Edit name) = record editing { current = cell_named editing.library name }
applied editing (command.Paint layer area) =
    in_current editing (λ cell. with_layer editing.library layer (λ layer. painted editing.library cell layer area))
applied editing (command.Erase layer area) =
    in_current editing (λ cell. with_layer editing.library layer (λ layer. erased editing.library cell layer area))
applied editing (command.Place name id six) =
    in_current editing (λ cell. with_cell editing.library name (λ child. placed editing.library cell child id six))
applied editing (command.Array id six) =
    in_current editing (λ cell. with_six_as_grid editing.library six (λ grid. with_grid editing.library cell id grid))
applied editing (command.Move id dx dy) = in_current editing (λ cell. moved editing.library cell id dx dy)
applied editing (command.Delete id) = in_current editing (λ cell. without_use editing.library cell id)
applied editing (command.Label layer area position text) =
    in_current editing (λ cell. with_label_layer editing.library layer (λ layer. labelled editing.library cell (label_of layer area position text)))
applied editing (command.Unlabel text) = in_current editing (λ cell. unlabelled editing.library cell text)
applied editing _ = editing
