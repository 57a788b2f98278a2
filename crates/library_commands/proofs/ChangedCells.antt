-- Commands of the current cell change it alone.
use Rattle.library_commands.proofs.Common.{◌≡◌, ℕ, List, Option, Some, None, refl, sym, IfSome, CellView, LibraryView, cell_named, with_cell_changed}
use Rattle.library_commands.proofs.Common.{Command, Editing, applied}
use Rattle.std.proofs.Common.{ℤ}
use Rattle.std.specs.Option.{option_map_or}
use Rattle.geo_core.specs.declared.grids.Grid.{Grid}
use Rattle.geo_core.specs.declared.transforms.Transform.{Transform}
use Rattle.tech_model.specs.declared.raw.LayerId.{LayerId}
use Rattle.tech_model.specs.Types.{layer_named}
use Rattle.cell_library.specs.Edits.{erased, labelled, moved, painted, placed, transform_of, unlabelled, with_grid, without_use}
use Rattle.cell_library.proofs.ViewLaws.{changed_at-same}
use Rattle.script_lines.specs.declared.commands.Command.TheVariants as command
use Rattle.uniqueness.specs.EditScript.Edits.{grid_of, in_current, label_layer, label_of, with_cell, with_label_layer, with_layer, with_six_as_grid}

-- one cell was changed, or none
abbrev pub ChangesCell : ℕ → LibraryView → LibraryView → Type 0
ChangesCell cell view after = (change : CellView → CellView) × (after ≡ with_cell_changed view cell change)

-- the command changes the current cell alone, if there is one
abbrev pub ChangesCurrent : Editing → Command → Type 0
ChangesCurrent editing command = IfSome editing.current (λ cell. ChangesCell cell editing.library (applied editing command).library)

-- what each command changes of the cells that there are
abbrev pub ChangesCells : Editing → Command → Type 0
ChangesCells editing (command.Paint layer area) = ChangesCurrent editing (command.Paint layer area)
ChangesCells editing (command.Erase layer area) = ChangesCurrent editing (command.Erase layer area)
ChangesCells editing (command.Place name id six) = ChangesCurrent editing (command.Place name id six)
ChangesCells editing (command.Array id six) = ChangesCurrent editing (command.Array id six)
ChangesCells editing (command.Move id dx dy) = ChangesCurrent editing (command.Move id dx dy)
ChangesCells editing (command.Delete id) = ChangesCurrent editing (command.Delete id)
ChangesCells editing (command.Label layer area position text) = ChangesCurrent editing (command.Label layer area position text)
ChangesCells editing (command.Unlabel text) = ChangesCurrent editing (command.Unlabel text)
ChangesCells editing command = Unit {0}

-- ---- changes of one cell

-- a change
changed : (view : LibraryView) (cell : ℕ) (change : CellView → CellView) → ChangesCell cell view (with_cell_changed view cell change)
changed view cell change = (change, refl)

-- no change
unchanged : (view : LibraryView) (cell : ℕ) → ChangesCell cell view view
unchanged view cell =
    ((λ body. body), λ i. record view { cells = sym (changed_at-same view.cells cell (λ body. body) (λ body. refl)) i })

-- a change with what a word names, if it names something
found_changes : {A : Type 0} (view : LibraryView) (cell : ℕ) (change : A → LibraryView) (found : Option A)
    → ((it : A) → ChangesCell cell view (change it)) → ChangesCell cell view (option_map_or change found view)
found_changes view cell change None changes = unchanged view cell
found_changes view cell change (Some it) changes = changes it

-- a use that is placed
placed_changes : (view : LibraryView) (cell child : ℕ) (id : List ℕ) (six : List ℤ) → ChangesCell cell view (placed view cell child id six)
placed_changes view cell child id six = found_changes {A = Transform} view cell _ (transform_of six) (λ transform. changed view cell _)

-- a change of the current cell
current_changes : (view : LibraryView) (edits : ℕ) (current : Option ℕ) (change : ℕ → LibraryView) → ((cell : ℕ) → ChangesCell cell view (change cell))
    → IfSome current (λ cell. ChangesCell cell view (in_current (record { library = view; edits = edits; current = current }) change).library)
current_changes view edits None change changes = tt
current_changes view edits (Some cell) change changes = changes cell

-- ---- commands

-- each command changes the cells so
pub cells_changed : (editing : Editing) (command : Command) → ChangesCells editing command
cells_changed editing (command.Paint layer area) =
    let view : LibraryView = editing.library in
    current_changes view editing.edits editing.current (λ cell. with_layer view layer (λ l. painted view cell l area))
    (λ cell. found_changes {A = ℕ} view cell (λ l. painted view cell l area) (layer_named view.tech layer) (λ l. changed view cell _))
cells_changed editing (command.Erase layer area) =
    let view : LibraryView = editing.library in
    current_changes view editing.edits editing.current (λ cell. with_layer view layer (λ l. erased view cell l area))
    (λ cell. found_changes {A = ℕ} view cell (λ l. erased view cell l area) (layer_named view.tech layer) (λ l. changed view cell _))
cells_changed editing (command.Place name id six) =
    let view : LibraryView = editing.library in
    current_changes view editing.edits editing.current (λ cell. with_cell view name (λ child. placed view cell child id six))
    (λ cell. found_changes {A = ℕ} view cell (λ child. placed view cell child id six) (cell_named view name)
    (λ child. placed_changes view cell child id six))
cells_changed editing (command.Array id six) =
    let view : LibraryView = editing.library in
    current_changes view editing.edits editing.current (λ cell. with_six_as_grid view six (λ grid. with_grid view cell id grid))
    (λ cell. found_changes {A = Grid} view cell (λ grid. with_grid view cell id grid) (grid_of six) (λ grid. changed view cell _))
cells_changed editing (command.Move id dx dy) =
    current_changes editing.library editing.edits editing.current (λ cell. moved editing.library cell id dx dy)
    (λ cell. changed editing.library cell _)
cells_changed editing (command.Delete id) =
    current_changes editing.library editing.edits editing.current (λ cell. without_use editing.library cell id)
    (λ cell. changed editing.library cell _)
cells_changed editing (command.Label layer area position text) =
    let view : LibraryView = editing.library in
    current_changes view editing.edits editing.current (λ cell. with_label_layer view layer (λ l. labelled view cell (label_of l area position text)))
    (λ cell. found_changes {A = Option LayerId} view cell (λ l. labelled view cell (label_of l area position text)) (label_layer view.tech layer)
    (λ l. changed view cell _))
cells_changed editing (command.Unlabel text) =
    current_changes editing.library editing.edits editing.current (λ cell. unlabelled editing.library cell text)
    (λ cell. changed editing.library cell _)
cells_changed editing _ = tt
