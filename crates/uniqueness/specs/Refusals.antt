-- What the refusals of edits are held to.
use Rattle.std.specs.Prelude.{◌≡◌, ◌≢◌, ℕ, ℤ, List, Option, Ok, Err}
use Rattle.geo_core.specs.declared.grids.Grid.{Grid}
use Rattle.geo_core.specs.declared.squares.Rect.{Rect}
use Rattle.tech_model.specs.declared.raw.Label.{Label}
use Rattle.ext_model.specs.declared.tables.CellKey.{CellKey}
use Rattle.cell_loading.specs.CellBodies.declared.bodies.CellBody.{CellBody}
use Rattle.edit_script.specs.CellLibrary.Additions.{AddAllIsRefused}
use Rattle.edit_script.specs.CellLibrary.Libraries.{LibraryParts}
use Rattle.edit_script.specs.CellLibrary.Refusals.{ArrayIsRefused, DeleteIsRefused, EraseIsRefused, LabelIsRefused, MoveIsRefused, NewCellIsRefused}
use Rattle.edit_script.specs.CellLibrary.Refusals.{PaintIsRefused, PlaceIsRefused, UnlabelIsRefused}
use Rattle.edit_script.specs.CellLibrary.Views.{LibraryView}
use Rattle.edit_script.specs.ScriptLines.declared.commands.Command.{Command}
use Rattle.edit_script.specs.declared.faults.EditFault.{EditFault}
use Rattle.edit_script.specs.declared.faults.EditFault.TheVariants.{Memory}
use Rattle.edit_script.specs.Answers.{Applies}
use Rattle.edit_script.specs.Editing.{Editing, editing_of}
use Rattle.edit_script.specs.Refusals.{ApplyIsRefused}

-- what is refused so is refused for one fault
abbrev pub IsForOneFault : {Fault : Type 0} → (Fault → Type 0) → Type 0
IsForOneFault {Fault} IsRefused = (told other : Fault) → IsRefused told → IsRefused other → told ≡ other

-- each edit of a library is refused for one fault
pub record LibraryFaultsAreUnique : Type 0 where
  pub new_cell : (view : LibraryView) (name : List ℕ) → IsForOneFault (NewCellIsRefused view name)
  pub paint : (view : LibraryView) (cell layer : ℕ) (area : Rect) → IsForOneFault (PaintIsRefused view cell layer area)
  pub erase : (view : LibraryView) (cell layer : ℕ) (area : Rect) → IsForOneFault (EraseIsRefused view cell layer area)
  pub label : (view : LibraryView) (cell : ℕ) (label : Label) → IsForOneFault (LabelIsRefused view cell label)
  pub unlabel : (view : LibraryView) (cell : ℕ) (text : List ℕ) → IsForOneFault (UnlabelIsRefused view cell text)
  pub place : (view : LibraryView) (cell child : ℕ) (id : List ℕ) (six : List ℤ) → IsForOneFault (PlaceIsRefused view cell child id six)
  pub array : (view : LibraryView) (cell : ℕ) (id : List ℕ) (grid : Grid) → IsForOneFault (ArrayIsRefused view cell id grid)
  pub move : (view : LibraryView) (cell : ℕ) (id : List ℕ) (dx dy : ℤ) → IsForOneFault (MoveIsRefused view cell id dx dy)
  pub delete : (view : LibraryView) (cell : ℕ) (id : List ℕ) → IsForOneFault (DeleteIsRefused view cell id)
  pub add_all : (view : LibraryView) (cells : List (List ℕ × CellBody)) → IsForOneFault (AddAllIsRefused view cells)

-- and so is each command
abbrev pub CommandFaultsAreUnique : Type 0
CommandFaultsAreUnique = (editing : Editing) (command : Command) → IsForOneFault (ApplyIsRefused editing command)

-- What comes of a command, but for want of memory, is one: what is edited after it, or the fault that it is refused for.
pub record CommandsHaveOneOutcome (X : Type 0) : Type 0 where
  pub made : (old new other : LibraryParts) (before now later : Option CellKey) (command : Command) (done also : X)
      → Applies {X = X} old before new now command (Ok done) → Applies {X = X} old before other later command (Ok also)
      → editing_of new now ≡ editing_of other later
  pub refused : (old new other : LibraryParts) (before now later : Option CellKey) (command : Command) (told also : EditFault)
      → told ≢ Memory → also ≢ Memory → Applies {X = X} old before new now command (Err told)
      → Applies {X = X} old before other later command (Err also) → told ≡ also
  pub either : (old new other : LibraryParts) (before now later : Option CellKey) (command : Command) (done : X) (told : EditFault)
      → Applies {X = X} old before new now command (Ok done) → Applies {X = X} old before other later command (Err told) → told ≡ Memory
