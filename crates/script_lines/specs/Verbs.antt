-- The first words of commands.
use Rattle.std.specs.Prelude.{ℕ, List, Option, find, codes}
use Rattle.std.specs.Str.{bytes_eq}
use Rattle.script_lines.specs.declared.verbs.TheConstants.{VERBS}
use Rattle.script_lines.specs.declared.verbs.Verb.{Verb}
use Rattle.script_lines.specs.declared.verbs.Verb.TheVariants as verb

-- the first word of the lines of a command
abbrev pub word_of : Verb → List ℕ
word_of verb.Tech = codes "tech"
word_of verb.Load = codes "load"
word_of verb.New = codes "new"
word_of verb.Edit = codes "edit"
word_of verb.Paint = codes "paint"
word_of verb.Erase = codes "erase"
word_of verb.Place = codes "place"
word_of verb.Array = codes "array"
word_of verb.Move = codes "move"
word_of verb.Delete = codes "delete"
word_of verb.Label = codes "label"
word_of verb.Unlabel = codes "unlabel"
word_of verb.Undo = codes "undo"
word_of verb.Redo = codes "redo"
word_of verb.Save = codes "save"
word_of verb.Nodes = codes "nodes"
word_of verb.Squares = codes "squares"
word_of verb.Drc = codes "drc"
word_of verb.Cif = codes "cif"
word_of verb.Cifstat = codes "cifstat"
word_of verb.Extract = codes "extract"
word_of verb.Flat = codes "flat"
word_of verb.Sim = codes "sim"
word_of verb.Vectors = codes "vectors"
word_of verb.Grade = codes "grade"
word_of verb.Generate = codes "generate"
word_of verb.Ext2sim = codes "ext2sim"
word_of verb.Simrun = codes "simrun"

-- the one among these commands that has the first word
abbrev pub verb_among : List Verb → List ℕ → Option Verb
verb_among verbs word = find (λ verb. bytes_eq (word_of verb) word) verbs

-- the command that has the first word
unfoldable pub verb_of : List ℕ → Option Verb
verb_of word = verb_among VERBS word
