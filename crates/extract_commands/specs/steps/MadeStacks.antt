-- What the program makes of the cells of a stack.
use Rattle.std.specs.Prelude.{◌≡◌, ◌<◌, ℕ, Some, None}
use Rattle.layout_gen.specs.CellLibrary.Views.{LibraryView}
use Rattle.layout_gen.specs.Generated.{IsGenerated}
use Rattle.layout_gen.specs.Refusals.{generate_fault}
use Rattle.extract_commands.specs.declared.command_generate.MadeStack.{MadeStack}
use Rattle.extract_commands.specs.declared.command_generate.MadeStack.TheVariants.{Made, Refused}
use Rattle.extract_commands.specs.CommandGenerate.{stack_cell, with_stack}
use Rattle.workspace.specs.States.{Workspace}

-- The cells of a stack of n rows came, and this is the stack.
pub record StackCame (n : ℕ) (work now : Workspace) (cell : ℕ) : Type 0 where
  pub accepted : generate_fault work.editing.library work.editing.edits ≡ None
  pub after : LibraryView
  pub generated : IsGenerated work.editing.library n after
  pub is : now ≡ with_stack work after
  pub place : cell ≡ stack_cell work

-- They came, or they are refused and nothing changed.
abbrev pub IsStackMade : ℕ → Workspace → Workspace → MadeStack → Type 0
IsStackMade n work now (Made cell) = StackCame n work now cell.0
IsStackMade n work now (Refused fault) = (generate_fault work.editing.library work.editing.edits ≡ Some fault) × (now ≡ work)

-- the stack is one of so many cells
abbrev pub IsCellOf : ℕ → MadeStack → Type 0
IsCellOf count (Made cell) = cell.0 < count
IsCellOf count (Refused fault) = Unit {0}
