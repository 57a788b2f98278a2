-- What a command leaves of the cells: a command of the current cell leaves all others, and `new` all that were there.
use Rattle.edit_script.proofs.Common.{◌≡◌, ◌<◌, ℕ, ℤ, List, [], ◌∷◌, length, Option, Some, None, arith, option_map_or, Grid, LayerId, layer_named}
use Rattle.edit_script.proofs.Common.{empty_cell, erased, labelled, moved, painted, placed, transform_of, unlabelled, with_grid, without_use}
use Rattle.edit_script.proofs.Common.{LibraryView, cell_named, length-changed_at, Command, Editing, applied, grid_of, in_current, label_layer}
use Rattle.edit_script.proofs.Common.{label_of, with_cell, with_label_layer, with_layer, with_six_as_grid}
use Rattle.std.proofs.Common.{◌≢◌, zero, suc, refl, length-append}
use Rattle.std.specs.Prelude.{IfSome, slice_index_or}
use Rattle.std.proofs.lemmas.List.{get_or_append_left}
use Rattle.geo_core.specs.declared.transforms.Transform.{Transform}
use Rattle.cell_library.specs.Views.{CellView, changed_at, no_cell, view_at, with_cell_changed}
use Rattle.script_lines.specs.declared.commands.Command.TheVariants as command

-- The technology and the number of cells stay, and so does each cell but this one.
pub record KeepsOthers (cell : ℕ) (view after : LibraryView) : Type 0 where
  pub tech : after.tech ≡ view.tech
  pub count : length after.cells ≡ length view.cells
  pub others : (k : ℕ) → k ≢ cell → view_at after k ≡ view_at view k

-- One cell came last. The technology stays, and so does each cell that was there.
pub record KeepsEarlier (view after : LibraryView) : Type 0 where
  pub tech : after.tech ≡ view.tech
  pub count : length after.cells ≡ suc (length view.cells)
  pub earlier : (k : ℕ) → k < length view.cells → view_at after k ≡ view_at view k

-- the command leaves all cells but the current one, if there is one
abbrev pub KeepsButCurrent : Editing → Command → Type 0
KeepsButCurrent editing command = IfSome editing.current (λ cell. KeepsOthers cell editing.library (applied editing command).library)

-- what each command leaves of the cells
abbrev pub KeepsCells : Editing → Command → Type 0
KeepsCells editing (command.New name) = KeepsEarlier editing.library (applied editing (command.New name)).library
KeepsCells editing (command.Paint layer area) = KeepsButCurrent editing (command.Paint layer area)
KeepsCells editing (command.Erase layer area) = KeepsButCurrent editing (command.Erase layer area)
KeepsCells editing (command.Place name id six) = KeepsButCurrent editing (command.Place name id six)
KeepsCells editing (command.Array id six) = KeepsButCurrent editing (command.Array id six)
KeepsCells editing (command.Move id dx dy) = KeepsButCurrent editing (command.Move id dx dy)
KeepsCells editing (command.Delete id) = KeepsButCurrent editing (command.Delete id)
KeepsCells editing (command.Label layer area position text) = KeepsButCurrent editing (command.Label layer area position text)
KeepsCells editing (command.Unlabel text) = KeepsButCurrent editing (command.Unlabel text)
KeepsCells editing command = (applied editing command).library ≡ editing.library

-- ---- changes of one cell

-- a change at one place leaves the others
changed_at-other : (cells : List CellView) (cell k : ℕ) (change : CellView → CellView) → k ≢ cell
    → slice_index_or (changed_at cells cell change) k no_cell ≡ slice_index_or cells k no_cell
changed_at-other [] cell k change other = refl
changed_at-other (body ∷ cells) zero zero change other = absurd (other refl)
changed_at-other (body ∷ cells) zero (suc k) change other = refl
changed_at-other (body ∷ cells) (suc cell) zero change other = refl
changed_at-other (body ∷ cells) (suc cell) (suc k) change other = changed_at-other cells cell k change (λ same. other (λ i. suc (same i)))

changed_keeps : (view : LibraryView) (cell : ℕ) (change : CellView → CellView) → KeepsOthers cell view (with_cell_changed view cell change)
changed_keeps view cell change = record {
  tech = refl;
  count = length-changed_at view.cells cell change;
  others = λ k other. changed_at-other view.cells cell k change other;
}

-- a change with what a word names, if it names something
found_keeps : {A : Type 0} (view : LibraryView) (cell : ℕ) (change : A → LibraryView) (found : Option A)
    → ((it : A) → KeepsOthers cell view (change it)) → KeepsOthers cell view (option_map_or change found view)
found_keeps view cell change None keeps = record { tech = refl; count = refl; others = λ k other. refl }
found_keeps view cell change (Some it) keeps = keeps it

placed_keeps : (view : LibraryView) (cell child : ℕ) (id : List ℕ) (six : List ℤ) → KeepsOthers cell view (placed view cell child id six)
placed_keeps view cell child id six = found_keeps {A = Transform} view cell _ (transform_of six) (λ transform. changed_keeps view cell _)

-- a change of the current cell
current_keeps : (view : LibraryView) (edits : ℕ) (current : Option ℕ) (change : ℕ → LibraryView)
    → ((cell : ℕ) → KeepsOthers cell view (change cell))
    → IfSome current (λ cell. KeepsOthers cell view (in_current (record { library = view; edits = edits; current = current }) change).library)
current_keeps view edits None change keeps = tt
current_keeps view edits (Some cell) change keeps = keeps cell

-- ---- commands

-- each command leaves the cells so
pub cells_kept : (editing : Editing) (command : Command) → KeepsCells editing command
cells_kept editing (command.New name) = record {
  tech = refl;
  count = omega (arith, length-append editing.library.cells (empty_cell name ∷ []));
  earlier = λ k below. get_or_append_left editing.library.cells (empty_cell name ∷ []) no_cell k below;
}
cells_kept editing (command.Edit name) = refl
cells_kept editing (command.Paint layer area) =
    let view : LibraryView = editing.library in
    current_keeps view editing.edits editing.current (λ cell. with_layer view layer (λ l. painted view cell l area))
    (λ cell. found_keeps {A = ℕ} view cell (λ l. painted view cell l area) (layer_named view.tech layer) (λ l. changed_keeps view cell _))
cells_kept editing (command.Erase layer area) =
    let view : LibraryView = editing.library in
    current_keeps view editing.edits editing.current (λ cell. with_layer view layer (λ l. erased view cell l area))
    (λ cell. found_keeps {A = ℕ} view cell (λ l. erased view cell l area) (layer_named view.tech layer) (λ l. changed_keeps view cell _))
cells_kept editing (command.Place name id six) =
    let view : LibraryView = editing.library in
    current_keeps view editing.edits editing.current (λ cell. with_cell view name (λ child. placed view cell child id six))
    (λ cell. found_keeps {A = ℕ} view cell (λ child. placed view cell child id six) (cell_named view name)
    (λ child. placed_keeps view cell child id six))
cells_kept editing (command.Array id six) =
    let view : LibraryView = editing.library in
    current_keeps view editing.edits editing.current (λ cell. with_six_as_grid view six (λ grid. with_grid view cell id grid))
    (λ cell. found_keeps {A = Grid} view cell (λ grid. with_grid view cell id grid) (grid_of six) (λ grid. changed_keeps view cell _))
cells_kept editing (command.Move id dx dy) =
    current_keeps editing.library editing.edits editing.current (λ cell. moved editing.library cell id dx dy)
    (λ cell. changed_keeps editing.library cell _)
cells_kept editing (command.Delete id) =
    current_keeps editing.library editing.edits editing.current (λ cell. without_use editing.library cell id)
    (λ cell. changed_keeps editing.library cell _)
cells_kept editing (command.Label layer area position text) =
    let view : LibraryView = editing.library in
    current_keeps view editing.edits editing.current (λ cell. with_label_layer view layer (λ l. labelled view cell (label_of l area position text)))
    (λ cell. found_keeps {A = Option LayerId} view cell (λ l. labelled view cell (label_of l area position text)) (label_layer view.tech layer)
    (λ l. changed_keeps view cell _))
cells_kept editing (command.Unlabel text) =
    current_keeps editing.library editing.edits editing.current (λ cell. unlabelled editing.library cell text)
    (λ cell. changed_keeps editing.library cell _)
cells_kept editing _ = refl
