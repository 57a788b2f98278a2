-- How commands change the stamps of cells.
use Rattle.std.specs.Prelude.{Option, IsSomeAnd}
use Rattle.ext_model.specs.declared.tables.CellKey.{CellKey}
use Rattle.cell_library.specs.Libraries.{LibraryParts, IsNextCell, IsNextEdit, IsSame}
use Rattle.script_lines.specs.declared.commands.Command.{Command}
use Rattle.script_lines.specs.declared.commands.Command.TheVariants as command

-- there is a current cell, and an edit of it was made
abbrev pub IsCurrentEdit : LibraryParts → LibraryParts → Option CellKey → Type 0
IsCurrentEdit old new current = IsSomeAnd current (λ cell. IsNextEdit old new cell.0)

-- What a command that is accepted does to the stamps, by the cell that is the current one before it: `new` stamps the cell that comes, the
-- commands of the current cell stamp it and all above it, and others stamp nothing.
abbrev pub IsStamped : LibraryParts → LibraryParts → Option CellKey → Command → Type 0
IsStamped old new current (command.New name) = IsNextCell old new
IsStamped old new current (command.Edit name) = IsSame old new
IsStamped old new current (command.Paint layer area) = IsCurrentEdit old new current
IsStamped old new current (command.Erase layer area) = IsCurrentEdit old new current
IsStamped old new current (command.Place name id six) = IsCurrentEdit old new current
IsStamped old new current (command.Array id six) = IsCurrentEdit old new current
IsStamped old new current (command.Move id dx dy) = IsCurrentEdit old new current
IsStamped old new current (command.Delete id) = IsCurrentEdit old new current
IsStamped old new current (command.Label layer area position text) = IsCurrentEdit old new current
IsStamped old new current (command.Unlabel text) = IsCurrentEdit old new current
IsStamped old new current _ = IsSame old new
