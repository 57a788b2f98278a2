-- What comes of a command: what is answered, and what is edited then.
use Rattle.std.specs.Prelude.{◌≡◌, ◌⊎◌, ℕ, List, Option, None, Result, Ok, Err}
use Rattle.ext_model.specs.declared.tables.CellKey.{CellKey}
use Rattle.cell_library.specs.declared.faults.LibFault.{LibFault}
use Rattle.cell_library.specs.Libraries.{LibraryParts, IsSame}
use Rattle.script_lines.specs.declared.commands.Command.{Command}
use Rattle.edit_script.specs.declared.faults.EditFault.{EditFault}
use Rattle.edit_script.specs.declared.faults.EditFault.TheVariants.{Memory}
use Rattle.edit_script.specs.Editing.{Editing, editing_of}
use Rattle.edit_script.specs.Edits.{applied}
use Rattle.edit_script.specs.Refusals.{ApplyIsRefused, with_word}

-- The fault is the absent one since nothing was found, or there was too little memory to tell of it.
abbrev pub IsNotFound : {A : Type 0} → Option A → EditFault → EditFault → Type 0
IsNotFound found absent told = (told ≡ Memory) ⊎ ((found ≡ None) × (told ≡ absent))

-- What the library answers is told with this word, or there was too little memory to tell of it.
abbrev pub IsTold : {X Y : Type 0} → List ℕ → Result X LibFault → Result Y EditFault → Type 0
IsTold word (Ok done) (Ok told) = Unit {0}
IsTold word (Ok done) (Err told) = ⊥
IsTold word (Err fault) (Ok told) = ⊥
IsTold word (Err fault) (Err told) = (told ≡ Memory) ⊎ (told ≡ with_word word fault)

-- This was made of what is edited and nothing refuses it, or one of these faults or want of memory was told and nothing has changed.
abbrev pub Leaves : {X : Type 0} → LibraryParts → Option CellKey → LibraryParts → Option CellKey → Editing → (EditFault → Type 0) → Result X EditFault
    → Type 0
Leaves old before new now made IsRefused (Ok done) = (editing_of new now ≡ made) × ((fault : EditFault) → IsRefused fault → ⊥)
Leaves old before new now made IsRefused (Err told) = ((told ≡ Memory) ⊎ IsRefused told) × IsSame old new × (now ≡ before)

-- the same of a command
abbrev pub Applies : {X : Type 0} → LibraryParts → Option CellKey → LibraryParts → Option CellKey → Command → Result X EditFault → Type 0
Applies old before new now command result =
    Leaves old before new now (applied (editing_of old before) command) (ApplyIsRefused (editing_of old before) command) result
