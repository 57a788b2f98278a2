-- The current cell stays one of the library's: no command takes a cell away.
use Rattle.edit_script.proofs.Common.{◌≡◌, ◌<◌, ◌∙◌, sym, ap, subst, arith, ℕ, ℤ, List, [], ◌∷◌, length, Option, Some, None, Result, Ok, Err}
use Rattle.edit_script.proofs.Common.{option_map_or, Grid, LayerId, layer_named, CellKey, empty_cell, erased, labelled, moved, painted, placed}
use Rattle.edit_script.proofs.Common.{transform_of, unlabelled, with_grid, without_use, LibraryParts, LibraryView, cell_named, length-changed_at}
use Rattle.edit_script.proofs.Common.{count_seen, Command, EditFault, Applies, Editing, editing_of, applied, grid_of, in_current, label_layer}
use Rattle.edit_script.proofs.Common.{label_of, with_cell, with_label_layer, with_layer, with_six_as_grid}
use Rattle.std.proofs.Common.{refl, length-append}
use Rattle.std.specs.Prelude.{IfSome}
use Rattle.geo_core.specs.declared.transforms.Transform.{Transform}
use Rattle.script_lines.specs.declared.commands.Command.TheVariants as command
use Rattle.edit_script.specs.Editing.{IsCurrent}
use Rattle.edit_script.proofs.CellLaws.{named_below}

-- the current cell, if there is one, is one of those that are seen
abbrev HasCurrent : Editing → Type 0
HasCurrent editing = IfSome editing.current (λ cell. cell < length editing.library.cells)

-- a change that keeps the number of cells
abbrev KeepsCount : LibraryView → LibraryView → Type 0
KeepsCount view after = length after.cells ≡ length view.cells

found_keeps : {A : Type 0} (view : LibraryView) (change : A → LibraryView) (found : Option A) → ((it : A) → KeepsCount view (change it)) →
    KeepsCount view (option_map_or change found view)
found_keeps view change None keeps = refl
found_keeps view change (Some it) keeps = keeps it

placed_keeps : (view : LibraryView) (cell child : ℕ) (id : List ℕ) (six : List ℤ) → KeepsCount view (placed view cell child id six)
placed_keeps view cell child id six = found_keeps {A = Transform} view _ (transform_of six) (λ transform. length-changed_at view.cells cell _)

stays_current : (view : LibraryView) (edits : ℕ) (current : Option ℕ) (change : ℕ → LibraryView) → ((cell : ℕ) → KeepsCount view (change cell)) →
    IfSome current (λ cell. cell < length view.cells) → HasCurrent (in_current (record { library = view; edits = edits; current = current }) change)
stays_current view edits None change keeps is = tt
stays_current view edits (Some cell) change keeps is = subst (λ (n : ℕ). cell < n) (sym (keeps cell)) is

edit_current : (view : LibraryView) (name : List ℕ) (found : Option ℕ) → cell_named view name ≡ found →
    IfSome found (λ cell. cell < length view.cells)
edit_current view name None named = tt
edit_current view name (Some cell) named = named_below view name cell named

applied_current : (editing : Editing) (command : Command) → HasCurrent editing → HasCurrent (applied editing command)
applied_current editing (command.New name) is = omega (arith, length-append editing.library.cells (empty_cell name ∷ []))
applied_current editing (command.Edit name) is = edit_current editing.library name (cell_named editing.library name) refl
applied_current editing (command.Paint layer area) is =
    let view : LibraryView = editing.library in
    stays_current view editing.edits editing.current (λ cell. with_layer view layer (λ l. painted view cell l area))
    (λ cell. found_keeps {A = ℕ} view (λ l. painted view cell l area) (layer_named view.tech layer) (λ l. length-changed_at view.cells cell _)) is
applied_current editing (command.Erase layer area) is =
    let view : LibraryView = editing.library in
    stays_current view editing.edits editing.current (λ cell. with_layer view layer (λ l. erased view cell l area))
    (λ cell. found_keeps {A = ℕ} view (λ l. erased view cell l area) (layer_named view.tech layer) (λ l. length-changed_at view.cells cell _)) is
applied_current editing (command.Place name id six) is =
    let view : LibraryView = editing.library in
    stays_current view editing.edits editing.current (λ cell. with_cell view name (λ child. placed view cell child id six))
    (λ cell. found_keeps {A = ℕ} view (λ child. placed view cell child id six) (cell_named view name) (λ child. placed_keeps view cell child id six))
    is
applied_current editing (command.Array id six) is =
    let view : LibraryView = editing.library in
    stays_current view editing.edits editing.current (λ cell. with_six_as_grid view six (λ grid. with_grid view cell id grid))
    (λ cell. found_keeps {A = Grid} view (λ grid. with_grid view cell id grid) (grid_of six) (λ grid. length-changed_at view.cells cell _)) is
applied_current editing (command.Move id dx dy) is =
    stays_current editing.library editing.edits editing.current (λ cell. moved editing.library cell id dx dy)
    (λ cell. length-changed_at editing.library.cells cell _) is
applied_current editing (command.Delete id) is =
    stays_current editing.library editing.edits editing.current (λ cell. without_use editing.library cell id)
    (λ cell. length-changed_at editing.library.cells cell _) is
applied_current editing (command.Label layer area position text) is =
    let view : LibraryView = editing.library in
    stays_current view editing.edits editing.current
    (λ cell. with_label_layer view layer (λ l. labelled view cell (label_of l area position text)))
    (λ cell. found_keeps {A = Option LayerId} view (λ l. labelled view cell (label_of l area position text)) (label_layer view.tech layer)
    (λ l. length-changed_at view.cells cell _)) is
applied_current editing (command.Unlabel text) is =
    stays_current editing.library editing.edits editing.current (λ cell. unlabelled editing.library cell text)
    (λ cell. length-changed_at editing.library.cells cell _) is
applied_current editing _ is = is

to_seen : (library : LibraryParts) (current : Option CellKey) → IsCurrent library current → HasCurrent (editing_of library current)
to_seen library None is = tt
to_seen library (Some key) is = subst (λ (n : ℕ). key.0 < n) (sym (count_seen library)) is

from_seen : (library : LibraryParts) (current : Option CellKey) → HasCurrent (editing_of library current) → IsCurrent library current
from_seen library None is = tt
from_seen library (Some key) is = subst (λ (n : ℕ). key.0 < n) (count_seen library) is

-- whatever comes of a command
pub current_stays : {X : Type 0} (old : LibraryParts) (before : Option CellKey) (new : LibraryParts) (now : Option CellKey) (command : Command)
    (result : Result X EditFault) → IsCurrent old before → Applies old before new now command result → IsCurrent new now
current_stays old before new now command (Ok done) is applies =
    from_seen new now (subst HasCurrent (sym applies.0) (applied_current (editing_of old before) command (to_seen old before is)))
current_stays old before new now command (Err told) is applies =
    let cells : length old.contents ≡ length new.contents =
    sym (count_seen old) ∙ ap (λ (view : LibraryView). length view.cells) (sym applies.1.seen) ∙ count_seen new in
    subst (λ (current : Option CellKey). IsCurrent new current) (sym applies.2) (moved_to before is cells)
  where
    moved_to : (current : Option CellKey) → IsCurrent old current → length old.contents ≡ length new.contents → IsCurrent new current
    moved_to None is cells = tt
    moved_to (Some key) is cells = subst (λ (n : ℕ). key.0 < n) cells is
