-- The record of a cell that a circuit file says.
use Rattle.std.specs.Prelude.{◌||◌, ℕ, Bool, true, false, not, List, [], fold, Result, Ok, Err, if◌then◌else◌, ◌++◌, ◌∷◌, codes}
use Rattle.std.specs.Option.{is_some}
use Rattle.std.specs.Str.{bytes_eq}
use Rattle.text_scan.specs.Lines.{lines_of}
use Rattle.text_scan.specs.Words.{words_of}
use Rattle.text_form.specs.declared.reading.At.{At}
use Rattle.text_form.specs.Folds.{last_number, text_state}
use Rattle.text_form.specs.SaidLines.{and_then}
use Rattle.ext_model.specs.declared.arrays.ArrayExt.{ArrayExt}
use Rattle.element_index.specs.declared.uses.UseElements.{UseElements}
use Rattle.element_index.specs.GivenNames.{gives_again}
use Rattle.ext_reading.specs.declared.faults.ExtReadFault.{ExtReadFault}
use Rattle.ext_reading.specs.declared.lines.UseName.{UseName}
use Rattle.ext_reading.specs.declared.lines.ExtLine.{ExtLine}
use Rattle.ext_reading.specs.declared.lines.ExtLine.TheVariants.{Use}
use Rattle.ext_reading.specs.declared.outlines.Outline.{Outline}
use Rattle.ext_reading.specs.LineForms.{use_line}
use Rattle.ext_reading.specs.Ranges.{grid_in}
use Rattle.ext_reading.specs.Drafts.{Draft, nothing_yet, step, finish}

-- the uses and one more, unless it gives an element a name that one of them gives
abbrev pub with_elements : List UseElements → UseElements → List UseElements
with_elements uses used = if gives_again uses used then uses else uses ++ used ∷ []

-- the same where a use may be an array, or may not
abbrev pub with_allowed : Bool → List UseElements → UseElements → List UseElements
with_allowed arrays uses used = if arrays || not (is_some used.grid) then with_elements uses used else uses

-- the same of a use whose grid has its range; a grid past its range has no elements
abbrev pub with_use_name : Bool → List UseElements → UseName → List UseElements
with_use_name arrays uses name = elim (grid_in name.grid) [
  | Ok grid ↦ with_allowed arrays uses (record { id = name.id; grid = grid })
  | Err fault ↦ uses
]

-- the same with a use where one is said
abbrev pub with_use_said : Bool → List UseElements → Result ExtLine ExtReadFault → List UseElements
with_use_said arrays uses (Ok (Use line)) = with_use_name arrays uses line.name
with_use_said arrays uses _ = uses

-- the same where the words are those of a use
abbrev pub with_words : Bool → List UseElements → List (List ℕ) → List UseElements
with_words arrays uses [] = uses
with_words arrays uses (key ∷ words) = if bytes_eq key (codes "use") then with_use_said arrays uses (use_line words) else uses

abbrev pub with_line : Bool → List UseElements → List ℕ → List UseElements
with_line arrays uses line = with_words arrays uses (words_of line)

-- The uses of all lines that say one, those without a grid and all of them, and the number of the last line: a path may begin with an element
-- whose line stands later. A use that gives an element a name that one before it gives is left out.
abbrev pub outline_of : List (List ℕ) → Outline
outline_of lines = record { singles = fold (with_line false) [] lines; all = fold (with_line true) [] lines; last = last_number lines }

-- what the text says, or its first faulty line with that line's first fault
unfoldable pub draft_in : List ℕ → Result Draft (At ExtReadFault)
draft_in text = text_state (step (outline_of (lines_of text))) finish nothing_yet (lines_of text)

-- the record of the cell of this name
abbrev pub record_of : List ℕ → Draft → ArrayExt
record_of cell draft = record {
  cell = cell;
  tech = draft.tech;
  classes = draft.classes;
  uses = draft.uses;
  nodes = draft.nodes;
  fets = draft.fets;
  merges = draft.merges;
}

-- The record of the cell of this name that a text says, or the first faulty line of the text with that line's first fault.
abbrev pub ext_in : List ℕ → List ℕ → Result ArrayExt (At ExtReadFault)
ext_in cell text = and_then (draft_in text) (λ draft. Ok (record_of cell draft))
