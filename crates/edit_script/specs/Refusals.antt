-- Why a command that edits is refused: for the first fault that it has.
use Rattle.std.specs.Prelude.{◌≡◌, ◌⊎◌, ℕ, ℤ, List, Option, MatchOption}
use Rattle.geo_core.specs.declared.grids.Grid.{Grid}
use Rattle.tech_model.specs.declared.raw.LayerId.{LayerId}
use Rattle.tech_model.specs.Types.{layer_named}
use Rattle.cell_library.specs.declared.faults.LibFault.{LibFault}
use Rattle.cell_library.specs.declared.faults.LibFault.TheVariants as library
use Rattle.cell_library.specs.Refusals.{EditIsRefused, NewCellIsRefused, PaintIsRefused, EraseIsRefused, LabelIsRefused, UnlabelIsRefused}
use Rattle.cell_library.specs.Refusals.{PlaceIsRefused, ArrayIsRefused, MoveIsRefused, DeleteIsRefused}
use Rattle.cell_library.specs.Views.{cell_named}
use Rattle.script_lines.specs.declared.commands.Command.{Command}
use Rattle.script_lines.specs.declared.commands.Command.TheVariants as command
use Rattle.edit_script.specs.declared.faults.EditFault.{EditFault}
use Rattle.edit_script.specs.declared.faults.EditFault.TheVariants.{NoCurrent, NoCell, CellExists, NoLayer, EmptyRect, OutOfRange, BadTransform}
use Rattle.edit_script.specs.declared.faults.EditFault.TheVariants.{NoUse, UseExists, Cycle, NoLabel, TooMany, Memory}
use Rattle.edit_script.specs.Editing.{Editing}
use Rattle.edit_script.specs.Edits.{grid_of, label_layer, label_of}

-- the fault of a command for which the library refuses an edit: the word is that of the command which the fault tells of
abbrev pub with_word : List ℕ → LibFault → EditFault
with_word word library.CellExists = CellExists word
with_word word library.EmptyRect = EmptyRect
with_word word library.OutOfRange = OutOfRange
with_word word library.BadTransform = BadTransform
with_word word library.NoUse = NoUse word
with_word word library.UseExists = UseExists word
with_word word (library.Cycle name) = Cycle name
with_word word library.NoLabel = NoLabel word
with_word word (library.TooMany limit) = TooMany limit
with_word word library.Memory = Memory

-- the library refuses the edit
pub record LibraryRefuses (editing : Editing) (word : List ℕ) (IsRefused : LibFault → Type 0) (told : EditFault) : Type 0 where
  pub fault : LibFault
  pub is_refused : EditIsRefused editing.edits IsRefused fault
  pub is : told ≡ with_word word fault

-- there is no current cell, or an edit of it is refused
abbrev pub CurrentIsRefused : Editing → (ℕ → EditFault → Type 0) → EditFault → Type 0
CurrentIsRefused editing IsRefused told = MatchOption editing.current (told ≡ NoCurrent) (λ cell. IsRefused cell told)

-- there is no cell of the name, or something else is wrong
abbrev pub CellIsRefused : Editing → List ℕ → (ℕ → EditFault → Type 0) → EditFault → Type 0
CellIsRefused editing name IsRefused told = MatchOption (cell_named editing.library name) (told ≡ NoCell name) (λ cell. IsRefused cell told)

-- the word names no layer, or something else is wrong
abbrev pub LayerIsRefused : Editing → List ℕ → (ℕ → EditFault → Type 0) → EditFault → Type 0
LayerIsRefused editing word IsRefused told =
    MatchOption (layer_named editing.library.tech word) (told ≡ NoLayer word) (λ layer. IsRefused layer told)

-- the word names no layer for a label, or something else is wrong
abbrev pub LabelLayerIsRefused : Editing → List ℕ → (Option LayerId → EditFault → Type 0) → EditFault → Type 0
LabelLayerIsRefused editing word IsRefused told =
    MatchOption (label_layer editing.library.tech word) (told ≡ NoLayer word) (λ layer. IsRefused layer told)

-- six numbers are a grid, which is refused
abbrev pub GridIsRefused : List ℤ → (Grid → EditFault → Type 0) → EditFault → Type 0
GridIsRefused six IsRefused told = MatchOption (grid_of six) ⊥ (λ grid. IsRefused grid told)

-- What refuses each command. `edit` is refused alone where there is no cell of the name. Other commands than those of edits are never
-- refused here.
abbrev pub ApplyIsRefused : Editing → Command → EditFault → Type 0
ApplyIsRefused editing (command.New name) told = LibraryRefuses editing name (NewCellIsRefused editing.library name) told
ApplyIsRefused editing (command.Edit name) told = CellIsRefused editing name (λ _ _. ⊥) told
ApplyIsRefused editing (command.Paint layer area) told =
    CurrentIsRefused editing (λ cell. LayerIsRefused editing layer (λ number. LibraryRefuses editing layer
    (PaintIsRefused editing.library cell number area))) told
ApplyIsRefused editing (command.Erase layer area) told =
    CurrentIsRefused editing (λ cell. LayerIsRefused editing layer (λ number. LibraryRefuses editing layer
    (EraseIsRefused editing.library cell number area))) told
ApplyIsRefused editing (command.Place name id six) told =
    CurrentIsRefused editing (λ cell. CellIsRefused editing name (λ child. LibraryRefuses editing id
    (PlaceIsRefused editing.library cell child id six))) told
ApplyIsRefused editing (command.Array id six) told =
    CurrentIsRefused editing (λ cell. GridIsRefused six (λ grid. LibraryRefuses editing id (ArrayIsRefused editing.library cell id grid))) told
ApplyIsRefused editing (command.Move id dx dy) told =
    CurrentIsRefused editing (λ cell. LibraryRefuses editing id (MoveIsRefused editing.library cell id dx dy)) told
ApplyIsRefused editing (command.Delete id) told =
    CurrentIsRefused editing (λ cell. LibraryRefuses editing id (DeleteIsRefused editing.library cell id)) told
ApplyIsRefused editing (command.Label layer area position text) told =
    CurrentIsRefused editing (λ cell. LabelLayerIsRefused editing layer (λ named. LibraryRefuses editing text
    (LabelIsRefused editing.library cell (label_of named area position text)))) told
ApplyIsRefused editing (command.Unlabel text) told =
    CurrentIsRefused editing (λ cell. LibraryRefuses editing text (UnlabelIsRefused editing.library cell text)) told
ApplyIsRefused editing _ told = ⊥

-- it is refused so, or there was too little memory
abbrev pub IsRefusedOrLacksMemory : Editing → Command → EditFault → Type 0
IsRefusedOrLacksMemory editing command told = (told ≡ Memory) ⊎ ApplyIsRefused editing command told
