-- Why no cells are made from a number.
use Rattle.std.specs.Prelude.{◌≡◌, ◌⊎◌, ◌==◌, ◌+◌, nat_le, if◌then◌else◌, ℕ, List, length, Option, Some, None}
use Rattle.std.specs.Option.{option_map, option_map_or, option_or}
use Rattle.tech_model.specs.declared.raw.RawTech.{RawTech}
use Rattle.tech_model.specs.Types.{layer_named}
use Rattle.cell_library.specs.declared.limits.LibraryLimit.TheVariants.{Cells, Edits}
use Rattle.cell_library.specs.declared.limits.TheConstants.{MOST_CELLS, MOST_EDITS}
use Rattle.cell_library.specs.Views.{LibraryView, cell_named}
use Rattle.layout_gen.specs.declared.faults.GenerateFault.{GenerateFault}
use Rattle.layout_gen.specs.declared.faults.GenerateFault.TheVariants.{CellExists, NoLayer, TooMany, Memory}
use Rattle.layout_gen.specs.declared.limits.TheConstants.{MADE_CELLS}
use Rattle.layout_gen.specs.Generated.{tile_name, row_name, stack_name, poly_name, diff_name}

-- there is a cell of the name
abbrev pub name_fault : LibraryView → List ℕ → Option GenerateFault
name_fault view name = option_map (λ cell. CellExists name) (cell_named view name)

-- the first of the three cells that there is already
abbrev pub names_fault : LibraryView → Option GenerateFault
names_fault view = option_or (name_fault view tile_name) (option_or (name_fault view row_name) (name_fault view stack_name))

-- no layer has the name
abbrev pub layer_fault : RawTech → List ℕ → Option GenerateFault
layer_fault raw word = option_map_or (λ layer. None) (layer_named raw word) (Some (NoLayer word))

-- the first of the two layers that the technology lacks
abbrev pub layers_fault : RawTech → Option GenerateFault
layers_fault raw = option_or (layer_fault raw poly_name) (layer_fault raw diff_name)

-- there is no room for the cells
abbrev pub room_fault : ℕ → Option GenerateFault
room_fault count = if nat_le (count + MADE_CELLS) MOST_CELLS then None else Some (TooMany Cells)

-- there were as many edits as there may be
abbrev pub edits_fault : ℕ → Option GenerateFault
edits_fault edits = if edits == MOST_EDITS then Some (TooMany Edits) else None

-- What refuses it, the first in this order: there is a cell of one of the names, `gtile`, `grow` and `gen`; the technology lacks `poly` or
-- `diff`; there would be too many cells; there were too many edits.
abbrev pub generate_fault : LibraryView → ℕ → Option GenerateFault
generate_fault view edits =
    option_or (names_fault view)
    (option_or (layers_fault view.tech)
    (option_or (room_fault (length view.cells))
    (edits_fault edits)))

-- What is told is the fault, or there was too little memory.
abbrev pub IsFaultOrMemory : Option GenerateFault → GenerateFault → Type 0
IsFaultOrMemory fault told = (told ≡ Memory) ⊎ (fault ≡ Some told)
