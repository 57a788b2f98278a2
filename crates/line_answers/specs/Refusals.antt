-- Why lines are refused: the texts that several commands share, and the line that refuses.
use Rattle.std.specs.Prelude.{ℕ, pos, List, ◌++◌, codes}
use Rattle.text_scan.specs.Decimal.{decimal}
use Rattle.session_model.specs.declared.fetching.FetchFault.{FetchFault}
use Rattle.session_model.specs.declared.fetching.FetchFault.TheVariants as fetch
use Rattle.session_model.specs.declared.report.Cause.TheVariants.{Inside}
use Rattle.session_model.specs.declared.report.LineKind.TheVariants as kind
use Rattle.session_model.specs.declared.report.ReportLine.{ReportLine}
use Rattle.session_model.specs.Fetches.{cause_of_fault}
use Rattle.line_answers.specs.declared.refusals.Refusal.{Refusal}

-- `line N: ` and the text, with N the number of the script's line from 1
abbrev pub refusal_text : ℕ → List ℕ → List ℕ
refusal_text number text = codes "line " ++ decimal (pos number) ++ codes ": " ++ text

-- the line that refuses a line
abbrev pub refusal_line : ℕ → Refusal → ReportLine
refusal_line number refusal = record { kind = kind.Refusal refusal.cause; text = refusal_text number refusal.text }

-- a refusal for which no shelf has to answer
abbrev pub of_inside : List ℕ → Refusal
of_inside text = record { cause = Inside; text = text }

-- ---- the session and its cells

-- no technology was read yet
abbrev pub no_tech : Refusal
no_tech = of_inside (codes "E4 no technology")

-- there is no cell of the name
abbrev pub no_cell_text : List ℕ → List ℕ
no_cell_text cell = codes "E8 no cell " ++ cell

abbrev pub no_cell : List ℕ → Refusal
no_cell cell = of_inside (no_cell_text cell)

-- there is a cell of the name
abbrev pub cell_exists_text : List ℕ → List ℕ
cell_exists_text cell = codes "E9 cell exists " ++ cell

abbrev pub cell_exists : List ℕ → Refusal
cell_exists cell = of_inside (cell_exists_text cell)

-- no layer has the name
abbrev pub no_layer_text : List ℕ → List ℕ
no_layer_text word = codes "E10 no layer " ++ word

abbrev pub no_layer : List ℕ → Refusal
no_layer word = of_inside (no_layer_text word)

abbrev pub out_of_range_text : List ℕ
out_of_range_text = codes "E12 out of range"

abbrev pub out_of_range : Refusal
out_of_range = of_inside out_of_range_text

-- the cell would stand below itself
abbrev pub cycle_text : List ℕ → List ℕ
cycle_text cell = codes "E16 cycle " ++ cell

abbrev pub cycle : List ℕ → Refusal
cycle cell = of_inside (cycle_text cell)

-- there would be too many of what the word names
abbrev pub too_many_text : List ℕ → List ℕ
too_many_text word = codes "E18 too many " ++ word

abbrev pub too_many : List ℕ → Refusal
too_many word = of_inside (too_many_text word)

-- ---- files

-- why there is no text of a file
abbrev pub file_fault_text : List ℕ → FetchFault → List ℕ
file_fault_text file fetch.Absent = codes "E6 no file " ++ file
file_fault_text file fetch.TooLong = too_many_text (codes "Bytes")

abbrev pub file_refusal : List ℕ → FetchFault → Refusal
file_refusal file fault = record { cause = cause_of_fault fault; text = file_fault_text file fault }

-- what stands in a line of a file: the words, the file, the line's number, and what the fault is
abbrev pub at_line_text : List ℕ → List ℕ → ℕ → List ℕ → List ℕ
at_line_text words file number fault = words ++ file ++ codes " " ++ decimal (pos number) ++ codes " " ++ fault

abbrev pub at_line : List ℕ → List ℕ → ℕ → List ℕ → Refusal
at_line words file number fault = of_inside (at_line_text words file number fault)
