-- `drc` does one thing to a cell, since the violations of a cell are one list.
use Rattle.std.proofs.Common.{◌≡◌, ◌∙◌, ℕ, List, [], ◌∷◌, ap, sym}
use Rattle.std.specs.Prelude.{Result, Ok, Err, length}
use Rattle.text_form.specs.declared.reading.At.{At}
use Rattle.session_model.specs.declared.fetching.FetchFault.{FetchFault}
use Rattle.session_model.specs.declared.report.ReportLine.{ReportLine}
use Rattle.session_model.specs.Fetches.{text_in}
use Rattle.drc_rules.specs.declared.faults.DrcFault.{DrcFault}
use Rattle.drc_rules.specs.declared.rules.Rule.{Rule}
use Rattle.drc_rules.specs.RuleFiles.{rules_of}
use Rattle.cell_library.specs.LayoutTrees.{tree_at}
use Rattle.cell_library.specs.Views.{LibraryView}
use Rattle.drc_check.specs.Violations.{ViolationsAreUnique}
use Rattle.line_answers.specs.LineEffects.{FreeEffect, accepted}
use Rattle.drc_commands.specs.CommandDrc.{ChecksCell, ChecksFetched, ChecksText, check_lines, drc_file}
use Rattle.drc_commands.specs.OneEffect.{DrcMeansOneEffect}

module _ (one : ViolationsAreUnique) (number : ℕ) (library : LibraryView) (cell : ℕ) (name file : List ℕ) (effect other : FreeEffect) where
  one_check : (rules : List Rule) → ChecksCell library cell name rules (file ∷ []) effect → ChecksCell library cell name rules (file ∷ []) other
      → effect ≡ other
  one_check rules p q =
      let found = one library.tech (tree_at library cell) rules p.tells.found q.tells.found p.tells.are q.tells.are in
      let lines = p.tells.lines_are ∙ ap (check_lines library.tech name (length rules)) found ∙ sym q.tells.lines_are in
      p.is ∙ ap (λ (told : List ReportLine). accepted tt told (file ∷ [])) lines ∙ sym q.is

  one_text : (read : Result (List Rule) (At DrcFault)) → ChecksText number library cell name file read effect
      → ChecksText number library cell name file read other → effect ≡ other
  one_text (Ok rules) p q = one_check rules p q
  one_text (Err at) p q = p ∙ sym q

  one_file : (text : Result (List ℕ) FetchFault) → ChecksFetched number library cell name file text effect
      → ChecksFetched number library cell name file text other → effect ≡ other
  one_file (Ok text) p q = one_text (rules_of library.tech text) p q
  one_file (Err fault) p q = p ∙ sym q

pub drc_does_one_thing : ViolationsAreUnique → DrcMeansOneEffect
drc_does_one_thing one number files library cell name file effect other p q =
    one_file one number library cell name (drc_file file) effect other (text_in files (drc_file file)) p q
