-- Edits of uses, as what comes of a command.
use Rattle.edit_script.proofs.Common.{◌≡◌, ℕ, ℤ, List, Option, Some, Result, Grid, CellKey, LibFault, placed, with_grid, moved, without_use}
use Rattle.edit_script.proofs.Common.{LibraryParts, seen, ArrayIsRefused, MoveIsRefused, DeleteIsRefused, cell_named, EditFault, Applies, IsTold}
use Rattle.edit_script.proofs.Common.{Editing, editing_of, grid_of, with_cell, with_six_as_grid}
use Rattle.cell_library.specs.Refusals.{PlaceIsRefused}
use Rattle.script_lines.specs.declared.commands.Command.TheVariants as command
use Rattle.edit_script.specs.declared.faults.EditFault.TheVariants.{NoCell}
use Rattle.edit_script.specs.Refusals.{CellIsRefused, GridIsRefused, LibraryRefuses}
use Rattle.edit_script.proofs.AnswerLaws.{Answered, answered_as, answered_leaves, in_cell, in_found}

pub place_applies : {X Y : Type 0} (old new : LibraryParts) (current : Option CellKey) (name id : List ℕ) (six : List ℤ) (cell : CellKey) (child : ℕ)
    (given : List ℕ) (answer : Result X LibFault) (result : Result Y EditFault) → current ≡ Some cell → cell_named (seen old) name ≡ Some child →
    given ≡ id → Answered old new cell.0 (placed (seen old) cell.0 child given six) (PlaceIsRefused (seen old) cell.0 child given six) answer →
    IsTold id answer result → Applies old current new current (command.Place name id six) result
place_applies old new current name id six cell child given answer result is named same answered told =
    let editing : Editing = editing_of old current in
    in_cell old new current (λ at. with_cell (seen old) name (λ below. placed (seen old) at below id six))
    (λ at. CellIsRefused editing name (λ below. LibraryRefuses editing id (PlaceIsRefused (seen old) at below id six))) result cell is
    (in_found {A = ℕ} old new current (λ below. placed (seen old) cell.0 below id six) (λ fault. fault ≡ NoCell name)
    (λ below. LibraryRefuses editing id (PlaceIsRefused (seen old) cell.0 below id six)) result (cell_named (seen old) name) child named
    (answered_leaves old new current cell.0 id (placed (seen old) cell.0 child id six) (PlaceIsRefused (seen old) cell.0 child id six) answer result
    (answered_as {A = List ℕ} old new cell.0 (λ n. placed (seen old) cell.0 child n six) (λ n. PlaceIsRefused (seen old) cell.0 child n six) answer
    given id same answered) told))

pub array_applies : {X Y : Type 0} (old new : LibraryParts) (current : Option CellKey) (id : List ℕ) (six : List ℤ) (cell : CellKey) (grid : Grid)
    (given : List ℕ) (answer : Result X LibFault) (result : Result Y EditFault) → current ≡ Some cell → grid_of six ≡ Some grid → given ≡ id →
    Answered old new cell.0 (with_grid (seen old) cell.0 given grid) (ArrayIsRefused (seen old) cell.0 given grid) answer → IsTold id answer result →
    Applies old current new current (command.Array id six) result
array_applies old new current id six cell grid given answer result is named same answered told =
    let editing : Editing = editing_of old current in
    in_cell old new current (λ at. with_six_as_grid (seen old) six (λ g. with_grid (seen old) at id g))
    (λ at. GridIsRefused six (λ g. LibraryRefuses editing id (ArrayIsRefused (seen old) at id g))) result cell is
    (in_found {A = Grid} old new current (λ g. with_grid (seen old) cell.0 id g) (λ fault. ⊥)
    (λ g. LibraryRefuses editing id (ArrayIsRefused (seen old) cell.0 id g)) result (grid_of six) grid named
    (answered_leaves old new current cell.0 id (with_grid (seen old) cell.0 id grid) (ArrayIsRefused (seen old) cell.0 id grid) answer result
    (answered_as {A = List ℕ} old new cell.0 (λ n. with_grid (seen old) cell.0 n grid) (λ n. ArrayIsRefused (seen old) cell.0 n grid) answer given id
    same answered) told))

pub move_applies : {X Y : Type 0} (old new : LibraryParts) (current : Option CellKey) (id : List ℕ) (dx dy : ℤ) (cell : CellKey) (given : List ℕ)
    (across up : ℤ) (answer : Result X LibFault) (result : Result Y EditFault) → current ≡ Some cell → given ≡ id → across ≡ dx → up ≡ dy →
    Answered old new cell.0 (moved (seen old) cell.0 given across up) (MoveIsRefused (seen old) cell.0 given across up) answer →
    IsTold id answer result → Applies old current new current (command.Move id dx dy) result
move_applies old new current id dx dy cell given across up answer result is same same_across same_up answered told =
    let far = answered_as {A = ℤ} old new cell.0 (λ x. moved (seen old) cell.0 given x up) (λ x. MoveIsRefused (seen old) cell.0 given x up) answer
    across dx
    same_across answered in
    let high = answered_as {A = ℤ} old new cell.0 (λ y. moved (seen old) cell.0 given dx y) (λ y. MoveIsRefused (seen old) cell.0 given dx y) answer
    up dy
    same_up far in
    in_cell old new current (λ at. moved (seen old) at id dx dy)
    (λ at. LibraryRefuses (editing_of old current) id (MoveIsRefused (seen old) at id dx dy)) result cell is
    (answered_leaves old new current cell.0 id (moved (seen old) cell.0 id dx dy) (MoveIsRefused (seen old) cell.0 id dx dy) answer result
    (answered_as {A = List ℕ} old new cell.0 (λ n. moved (seen old) cell.0 n dx dy) (λ n. MoveIsRefused (seen old) cell.0 n dx dy) answer given id
    same high) told)

pub delete_applies : {X Y : Type 0} (old new : LibraryParts) (current : Option CellKey) (id : List ℕ) (cell : CellKey) (given : List ℕ)
    (answer : Result X LibFault) (result : Result Y EditFault) → current ≡ Some cell → given ≡ id →
    Answered old new cell.0 (without_use (seen old) cell.0 given) (DeleteIsRefused (seen old) cell.0 given) answer → IsTold id answer result →
    Applies old current new current (command.Delete id) result
delete_applies old new current id cell given answer result is same answered told =
    in_cell old new current (λ at. without_use (seen old) at id)
    (λ at. LibraryRefuses (editing_of old current) id (DeleteIsRefused (seen old) at id)) result cell is
    (answered_leaves old new current cell.0 id (without_use (seen old) cell.0 id) (DeleteIsRefused (seen old) cell.0 id) answer result
    (answered_as {A = List ℕ} old new cell.0 (λ n. without_use (seen old) cell.0 n) (λ n. DeleteIsRefused (seen old) cell.0 n) answer given id same
    answered) told)
