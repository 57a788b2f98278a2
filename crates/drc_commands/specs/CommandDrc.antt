-- `drc c f`: tells where c violates the design rules of f.drc.
use Rattle.std.specs.Prelude.{◌≡◌, ℕ, pos, List, [], ◌∷◌, ◌++◌, map, length, Result, Ok, Err, codes}
use Rattle.text_scan.specs.Decimal.{decimal}
use Rattle.text_form.specs.declared.reading.At.{At}
use Rattle.outside_io.specs.Files.{Files}
use Rattle.session_model.specs.declared.fetching.FetchFault.{FetchFault}
use Rattle.session_model.specs.declared.report.LineKind.TheVariants as kind
use Rattle.session_model.specs.declared.report.ReportLine.{ReportLine}
use Rattle.session_model.specs.Fetches.{text_in}
use Rattle.tech_model.specs.declared.raw.RawTech.{RawTech}
use Rattle.tech_model.specs.Types.{plane_name}
use Rattle.drc_rules.specs.declared.faults.DrcFault.{DrcFault}
use Rattle.drc_rules.specs.declared.rules.Rule.{Rule}
use Rattle.drc_rules.specs.RuleFiles.{rules_of}
use Rattle.cell_library.specs.LayoutTrees.{tree_at}
use Rattle.cell_library.specs.Views.{LibraryView}
use Rattle.drc_check.specs.declared.violations.Violation.{Violation}
use Rattle.drc_check.specs.Violations.{AreViolations}
use Rattle.line_answers.specs.LineEffects.{FreeEffect, accepted, refused, reply}
use Rattle.line_answers.specs.Refusals.{file_refusal}
use Rattle.line_answers.specs.Texts.{bounds_text}
use Rattle.drc_commands.specs.Refusals.{drc_refusal}

-- ---- what is told

-- `violation CELL RULE PLANE XLO YLO XHI YHI`: a strip of squares at which the cell violates the rule of this number
abbrev pub violation_line : RawTech → List ℕ → Violation → ReportLine
violation_line raw cell violation = record {
  kind = kind.Violation;
  text = codes "violation " ++ cell ++ codes " " ++ decimal (pos violation.rule) ++ codes " " ++ plane_name raw violation.plane
      ++ bounds_text violation.area;
}

-- `drc CELL: R rules S strips`
abbrev pub sum_text : List ℕ → ℕ → ℕ → List ℕ
sum_text cell rules strips = codes "drc " ++ cell ++ codes ": " ++ decimal (pos rules) ++ codes " rules " ++ decimal (pos strips) ++ codes " strips"

-- a line for each strip, and then the sum of rules and strips
abbrev pub check_lines : RawTech → List ℕ → ℕ → List Violation → List ReportLine
check_lines raw cell rules found = map (violation_line raw cell) found ++ reply (sum_text cell rules (length found)) ∷ []

-- The lines tell where the cell, which has this name, violates the rules.
pub record TellsViolations (library : LibraryView) (cell : ℕ) (name : List ℕ) (rules : List Rule) (lines : List ReportLine) : Type 0 where
  pub found : List Violation
  pub are : AreViolations library.tech (tree_at library cell) rules found
  pub lines_are : lines ≡ check_lines library.tech name (length rules) found

-- ---- what the command does, once there is the cell

-- the file of design rules of this name
abbrev pub drc_file : List ℕ → List ℕ
drc_file name = name ++ codes ".drc"

-- The cell is checked by these rules.
pub record ChecksCell (library : LibraryView) (cell : ℕ) (name : List ℕ) (rules : List Rule) (fetched : List (List ℕ)) (effect : FreeEffect)
    : Type 0 where
  pub lines : List ReportLine
  pub tells : TellsViolations library cell name rules lines
  pub is : effect ≡ accepted tt lines fetched

-- A text that is no file of rules is refused.
abbrev pub ChecksText : ℕ → LibraryView → ℕ → List ℕ → List ℕ → Result (List Rule) (At DrcFault) → FreeEffect → Type 0
ChecksText number library cell name file (Ok rules) effect = ChecksCell library cell name rules (file ∷ []) effect
ChecksText number library cell name file (Err at) effect = effect ≡ refused number tt (drc_refusal file at) (file ∷ [])

-- There may be no such file.
abbrev pub ChecksFetched : ℕ → LibraryView → ℕ → List ℕ → List ℕ → Result (List ℕ) FetchFault → FreeEffect → Type 0
ChecksFetched number library cell name file (Ok text) effect = ChecksText number library cell name file (rules_of library.tech text) effect
ChecksFetched number library cell name file (Err fault) effect = effect ≡ refused number tt (file_refusal file fault) (file ∷ [])

-- The cell of the library, which has this name, is checked by the rules of a file, clean or not.
abbrev pub DrcMeans : ℕ → Files → LibraryView → ℕ → List ℕ → List ℕ → FreeEffect → Type 0
DrcMeans number files library cell name file effect =
    ChecksFetched number library cell name (drc_file file) (text_in files (drc_file file)) effect
