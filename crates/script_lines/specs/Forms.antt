-- The forms of the fields of commands.
use Rattle.std.specs.Prelude.{◌≡◌, ℕ, ℤ, pos, IsTrue, List, length, All}
use Rattle.geo_core.specs.declared.squares.Rect.{Rect}
use Rattle.text_scan.specs.PlainNames.{is_plain_name}
use Rattle.cell_bodies.specs.Words.{is_use_id, is_label_text}
use Rattle.cell_bodies.specs.declared.limits.TheConstants.{LAST_POSITION}
use Rattle.script_lines.specs.declared.commands.Command.{Command}
use Rattle.script_lines.specs.declared.commands.Command.TheVariants as command
use Rattle.script_lines.specs.declared.limits.TheConstants.{LEAST_NUMBER, GREATEST_NUMBER, MOST_GENERATED}
use Rattle.script_lines.specs.Arguments.{is_between}

-- a number of 32 bits with sign
abbrev pub IsNumber : ℤ → Type 0
IsNumber z = IsTrue (is_between LEAST_NUMBER GREATEST_NUMBER z)

-- a name of a cell or of a file
abbrev pub IsPlain : List ℕ → Type 0
IsPlain name = IsTrue (is_plain_name name)

-- the edges are such numbers; the rectangle may be empty
pub record HasNumbers (area : Rect) : Type 0 where
  pub xlo : IsNumber area.xlo
  pub ylo : IsNumber area.ylo
  pub xhi : IsNumber area.xhi
  pub yhi : IsNumber area.yhi

-- six such numbers
pub record AreSixNumbers (six : List ℤ) : Type 0 where
  pub count : length six ≡ 6
  pub each : All IsNumber six

-- The fields of a command are of the forms that the words of its line are to have. The name of a layer may be any word.
abbrev pub IsFormed : Command → Type 0
IsFormed (command.Tech file) = IsPlain file
IsFormed (command.Load cell) = IsPlain cell
IsFormed (command.New cell) = IsPlain cell
IsFormed (command.Edit cell) = IsPlain cell
IsFormed (command.Paint layer area) = HasNumbers area
IsFormed (command.Erase layer area) = HasNumbers area
IsFormed (command.Place cell id six) = IsPlain cell × IsTrue (is_use_id id) × AreSixNumbers six
IsFormed (command.Array id six) = IsTrue (is_use_id id) × AreSixNumbers six
IsFormed (command.Move id dx dy) = IsTrue (is_use_id id) × IsNumber dx × IsNumber dy
IsFormed (command.Delete id) = IsTrue (is_use_id id)
IsFormed (command.Label layer area position text) =
    HasNumbers area × IsTrue (is_between (pos 0) (pos LAST_POSITION) position) × IsTrue (is_label_text text)
IsFormed (command.Unlabel text) = IsTrue (is_label_text text)
IsFormed command.Undo = Unit {0}
IsFormed command.Redo = Unit {0}
IsFormed (command.Save cell) = IsPlain cell
IsFormed (command.Nodes cell) = IsPlain cell
IsFormed (command.Squares cell) = IsPlain cell
IsFormed (command.Drc cell file) = IsPlain cell × IsPlain file
IsFormed (command.Cif cell) = IsPlain cell
IsFormed (command.Cifstat file) = IsPlain file
IsFormed (command.Extract cell) = IsPlain cell
IsFormed (command.Flat cell) = IsPlain cell
IsFormed (command.Sim cell) = IsPlain cell
IsFormed (command.Vectors cell file) = IsPlain cell × IsPlain file
IsFormed (command.Grade cell file) = IsPlain cell × IsPlain file
IsFormed (command.Generate count) = IsTrue (is_between (pos 1) MOST_GENERATED count)
IsFormed (command.Ext2sim cell) = IsPlain cell
IsFormed (command.Simrun cell file) = IsPlain cell × IsPlain file
