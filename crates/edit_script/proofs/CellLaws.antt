-- A new cell, or another current one, as what comes of a command; and what words name.
use Rattle.edit_script.proofs.Common.{◌≡◌, ◌<◌, ◌∙◌, sym, ap, subst, ℕ, List, length, Option, Some, None, arith, option_map, CellKey, LayerId}
use Rattle.edit_script.proofs.Common.{RawTech, layer_named, LibFault, LibraryParts, edits_of, seen, EditIsRefused, LibraryView, cell_named}
use Rattle.edit_script.proofs.Common.{count_seen, EditFault, editing_of, applied}
use Rattle.std.specs.Str.{bytes_eq}
use Rattle.std.proofs.lemmas.List.{length-map}
use Rattle.std.proofs.lemmas.List.Quantifiers.{position-Some}
use Rattle.finite_sets.proofs.Searches.{position_from-below}
use Rattle.tech_model.specs.Types.{has_name, layer_number}
use Rattle.cell_library.specs.Edits.{with_new_cell}
use Rattle.cell_library.specs.Libraries.{IsNextCell}
use Rattle.cell_library.specs.Refusals.{NewCellIsRefused}
use Rattle.cell_library.specs.Views.{CellView, names_of}
use Rattle.script_lines.specs.declared.commands.Command.TheVariants as command
use Rattle.edit_script.specs.Refusals.{ApplyIsRefused}

-- ---- what words name

-- the position of a cell is below their number
pub named_below : (view : LibraryView) (name : List ℕ) (cell : ℕ) → cell_named view name ≡ Some cell → cell < length view.cells
named_below view name cell named =
    let found = position-Some (bytes_eq name) (names_of view.cells) cell name named in
    omega (arith, found.0, length-map view.cells (λ (body : CellView). body.name))

-- a cell that is found is one of the library's
pub found_there : (library : LibraryParts) (name : List ℕ) (key : CellKey) → cell_named (seen library) name ≡ Some key.0 →
    key.0 < length library.contents
found_there library name key named = subst (λ (n : ℕ). key.0 < n) (count_seen library) (named_below (seen library) name key.0 named)

-- the number of a layer that is found
pub layer_found : (found : Option ℕ) (layer : LayerId) → Some layer ≡ option_map layer_number found → found ≡ Some layer.0
layer_found None layer is = cc
layer_found (Some number) layer is = let same : layer ≡ layer_number number = cc in ap (λ (l : LayerId). Some l.0) (sym same)

-- a layer that is found is one of the technology's
pub layer_there : (raw : RawTech) (word : List ℕ) (layer : LayerId) → Some layer ≡ option_map layer_number (layer_named raw word) →
    layer.0 < length raw.layers
layer_there raw word layer is =
    let below = position_from-below (has_name word) 0 raw.layers layer.0 (layer_found (layer_named raw word) layer is) in
    omega arith

-- ---- commands

-- the cell was added, and is the current one
pub new_made : (old new : LibraryParts) (before : Option CellKey) (name copied : List ℕ) (key : CellKey) → copied ≡ name →
    ((fault : LibFault) → EditIsRefused (edits_of old) (NewCellIsRefused (seen old) copied) fault → ⊥) → seen new ≡ with_new_cell (seen old) copied →
    key.0 ≡ length old.contents → IsNextCell old new →
    (editing_of new (Some key) ≡ applied (editing_of old before) (command.New name))
    × ((fault : EditFault) → ApplyIsRefused (editing_of old before) (command.New name) fault → ⊥)
new_made old new before name copied key same accepts added last next =
    let view : seen new ≡ with_new_cell (seen old) name = added ∙ ap (with_new_cell (seen old)) same in
    let place : key.0 ≡ length (seen old).cells = last ∙ sym (count_seen old) in (
      λ i. record { library = view i; edits = next.edits i; current = Some (place i) },
      λ fault refused. accepts refused.fault (subst (λ (n : List ℕ). EditIsRefused (edits_of old) (NewCellIsRefused (seen old) n) refused.fault)
          (sym same)
          refused.is_refused),
    )
