-- The commands of a script: one on a line.
use Rattle.std.specs.Prelude.{◌==◌, ◌∷◌, ◌++◌, ℕ, Bool, false, if◌then◌else◌, List, [], Option, Some, None, Result, Ok, Err}
use Rattle.script_lines.specs.declared.commands.Command.{Command}
use Rattle.script_lines.specs.declared.commands.Command.TheVariants as command
use Rattle.script_lines.specs.declared.faults.LineFault.{LineFault}
use Rattle.script_lines.specs.declared.faults.LineFault.TheVariants.{BadWord}
use Rattle.script_lines.specs.declared.verbs.Verb.{Verb}
use Rattle.script_lines.specs.declared.verbs.Verb.TheVariants as verb
use Rattle.text_scan.specs.Words.{words_of}
use Rattle.script_lines.specs.Arguments.{ArgumentKind, Plain, Layer, UseId, Number, Position, Count, Text, Argument, read_arguments}
use Rattle.script_lines.specs.Arguments.{word_at, value_at, rect_at, six_at, behind_word}
use Rattle.script_lines.specs.Verbs.{verb_of}

abbrev pub two_numbers : List ArgumentKind
two_numbers = Number ∷ Number ∷ []

abbrev pub four_numbers : List ArgumentKind
four_numbers = Number ∷ Number ∷ Number ∷ Number ∷ []

abbrev pub six_numbers : List ArgumentKind
six_numbers = Number ∷ Number ∷ Number ∷ Number ∷ Number ∷ Number ∷ []

-- the kinds of the further words of a label
abbrev pub label_kinds : List ArgumentKind
label_kinds = Layer ∷ (four_numbers ++ Position ∷ Text ∷ [])

-- what the further words of each command are to be
abbrev pub kinds_of : Verb → List ArgumentKind
kinds_of verb.Tech = Plain ∷ []
kinds_of verb.Load = Plain ∷ []
kinds_of verb.New = Plain ∷ []
kinds_of verb.Edit = Plain ∷ []
kinds_of verb.Paint = Layer ∷ four_numbers
kinds_of verb.Erase = Layer ∷ four_numbers
kinds_of verb.Place = Plain ∷ UseId ∷ six_numbers
kinds_of verb.Array = UseId ∷ six_numbers
kinds_of verb.Move = UseId ∷ two_numbers
kinds_of verb.Delete = UseId ∷ []
kinds_of verb.Label = label_kinds
kinds_of verb.Unlabel = Text ∷ []
kinds_of verb.Undo = []
kinds_of verb.Redo = []
kinds_of verb.Save = Plain ∷ []
kinds_of verb.Nodes = Plain ∷ []
kinds_of verb.Squares = Plain ∷ []
kinds_of verb.Drc = Plain ∷ Plain ∷ []
kinds_of verb.Cif = Plain ∷ []
kinds_of verb.Cifstat = Plain ∷ []
kinds_of verb.Extract = Plain ∷ []
kinds_of verb.Flat = Plain ∷ []
kinds_of verb.Sim = Plain ∷ []
kinds_of verb.Vectors = Plain ∷ Plain ∷ []
kinds_of verb.Grade = Plain ∷ Plain ∷ []
kinds_of verb.Generate = Count ∷ []
kinds_of verb.Ext2sim = Plain ∷ []
kinds_of verb.Simrun = Plain ∷ Plain ∷ []

-- the command with these arguments: they are its fields, in their order
abbrev pub command_with : Verb → List Argument → Command
command_with verb.Tech given = command.Tech (word_at 0 given)
command_with verb.Load given = command.Load (word_at 0 given)
command_with verb.New given = command.New (word_at 0 given)
command_with verb.Edit given = command.Edit (word_at 0 given)
command_with verb.Paint given = command.Paint (word_at 0 given) (rect_at 1 given)
command_with verb.Erase given = command.Erase (word_at 0 given) (rect_at 1 given)
command_with verb.Place given = command.Place (word_at 0 given) (word_at 1 given) (six_at 2 given)
command_with verb.Array given = command.Array (word_at 0 given) (six_at 1 given)
command_with verb.Move given = command.Move (word_at 0 given) (value_at 1 given) (value_at 2 given)
command_with verb.Delete given = command.Delete (word_at 0 given)
command_with verb.Label given = command.Label (word_at 0 given) (rect_at 1 given) (value_at 5 given) (word_at 6 given)
command_with verb.Unlabel given = command.Unlabel (word_at 0 given)
command_with verb.Undo given = command.Undo
command_with verb.Redo given = command.Redo
command_with verb.Save given = command.Save (word_at 0 given)
command_with verb.Nodes given = command.Nodes (word_at 0 given)
command_with verb.Squares given = command.Squares (word_at 0 given)
command_with verb.Drc given = command.Drc (word_at 0 given) (word_at 1 given)
command_with verb.Cif given = command.Cif (word_at 0 given)
command_with verb.Cifstat given = command.Cifstat (word_at 0 given)
command_with verb.Extract given = command.Extract (word_at 0 given)
command_with verb.Flat given = command.Flat (word_at 0 given)
command_with verb.Sim given = command.Sim (word_at 0 given)
command_with verb.Vectors given = command.Vectors (word_at 0 given) (word_at 1 given)
command_with verb.Grade given = command.Grade (word_at 0 given) (word_at 1 given)
command_with verb.Generate given = command.Generate (value_at 0 given)
command_with verb.Ext2sim given = command.Ext2sim (word_at 0 given)
command_with verb.Simrun given = command.Simrun (word_at 0 given) (word_at 1 given)

abbrev pub given_to : {A B : Type 0} → (A → B) → Result A LineFault → Result B LineFault
given_to make (Ok given) = Ok (make given)
given_to make (Err fault) = Err fault

-- the command of a line, of which this is the verb and what follows it
abbrev pub command_on : Verb → List ℕ → Result Command LineFault
command_on verb line = given_to (command_with verb) (read_arguments (kinds_of verb) line)

-- An unknown first word comes before all other faults.
abbrev pub command_from : Option Verb → List ℕ → Result (Option Command) LineFault
command_from None line = Err BadWord
command_from (Some verb) line = given_to Some (command_on verb line)

-- the command of a line of these words, with what follows the first of them
abbrev pub command_of_words : List (List ℕ) → List ℕ → Result (Option Command) LineFault
command_of_words [] line = Ok None
command_of_words (word ∷ words) line = command_from (verb_of word) line

abbrev pub begins_with_hash : List ℕ → Bool
begins_with_hash [] = false
begins_with_hash (byte ∷ bytes) = byte == 35

-- What a line asks for: nothing where it has no word, or its first byte is `#`.
abbrev pub command_of : List ℕ → Result (Option Command) LineFault
command_of line = if begins_with_hash line then Ok None else command_of_words (words_of line) (behind_word line)
