-- What `drc` answers in each case.
use Rattle.std.proofs.Common.{◌≡◌, ℕ, List, [], ◌∷◌, map, refl, sym, subst}
use Rattle.std.specs.Prelude.{Result, Ok, Err, length}
use Rattle.text_form.specs.declared.reading.At.{At}
use Rattle.session_model.specs.declared.answer.Answer.{Answer}
use Rattle.session_model.specs.declared.fetching.FetchFault.{FetchFault}
use Rattle.session_model.specs.declared.report.ReportLine.{ReportLine}
use Rattle.session_model.specs.Effects.{AnswersFetching}
use Rattle.tech_model.specs.declared.raw.RawTech.{RawTech}
use Rattle.drc_rules.specs.declared.faults.DrcFault.{DrcFault}
use Rattle.drc_rules.specs.declared.rules.Rule.{Rule}
use Rattle.drc_rules.specs.RuleFiles.{rules_of}
use Rattle.cell_library.specs.Views.{LibraryView}
use Rattle.drc_check.specs.declared.violations.Violation.{Violation}
use Rattle.line_answers.proofs.AnswerLaws.{answers_refusal, answers_with}
use Rattle.line_answers.proofs.InsideLaws.{both_inside, no_lines_inside, reply_inside}
use Rattle.line_answers.specs.LineEffects.{IsOfInside, accepted, refused, reply}
use Rattle.line_answers.specs.Refusals.{file_refusal, refusal_line}
use Rattle.drc_commands.specs.CommandDrc.{ChecksFetched, ChecksText, TellsViolations, check_lines, sum_text, violation_line}
use Rattle.drc_commands.specs.Refusals.{drc_refusal}

-- ---- no shelf has to answer for what is told

each_inside : (raw : RawTech) (cell : List ℕ) (found : List Violation) → IsOfInside (map (violation_line raw cell) found)
each_inside raw cell [] = no_lines_inside
each_inside raw cell (violation ∷ found) =
    let rest = each_inside raw cell found in
    record { present = rest.present; fits = rest.fits }

-- the lines of a check
check_inside : (raw : RawTech) (cell : List ℕ) (rules : ℕ) (found : List Violation) → IsOfInside (check_lines raw cell rules found)
check_inside raw cell rules found =
    both_inside (map (violation_line raw cell) found) (reply (sum_text cell rules (length found)) ∷ []) (each_inside raw cell found)
    (reply_inside (sum_text cell rules (length found)) [] no_lines_inside)

-- so it is where the lines are these
pub lines_inside : (raw : RawTech) (cell : List ℕ) (rules : ℕ) (found : List Violation) (lines : List ReportLine)
    → lines ≡ check_lines raw cell rules found → IsOfInside lines
lines_inside raw cell rules found lines are = subst (λ (all : List ReportLine). IsOfInside all) (sym are) (check_inside raw cell rules found)

-- ---- what is answered

module _ (number : ℕ) (library : LibraryView) (cell : ℕ) (name file : List ℕ) (answer : Answer) where
  -- the cell is checked by the rules of a text
  pub text_checked : (read : Result (List Rule) (At DrcFault)) (rules : List Rule) → read ≡ Ok rules
      → TellsViolations library cell name rules answer.lines.items → answer.stores.items ≡ []
      → AnswersFetching (file ∷ []) (ChecksText number library cell name file read) tt answer
  text_checked read rules is tells stores =
      answers_with (ChecksText number library cell name file read) tt answer answer.lines.items [] (file ∷ []) refl stores
      (subst
      (λ (r : Result (List Rule) (At DrcFault)). ChecksText number library cell name file r (accepted tt answer.lines.items (file ∷ [])))
      (sym is) (record { lines = answer.lines.items; tells = tells; is = refl }))

  -- the text has a fault
  pub text_refused : (read : Result (List Rule) (At DrcFault)) (at : At DrcFault) → read ≡ Err at
      → answer.lines.items ≡ refusal_line number (drc_refusal file at) ∷ [] → answer.stores.items ≡ []
      → AnswersFetching (file ∷ []) (ChecksText number library cell name file read) tt answer
  text_refused read at is lines stores =
      answers_refusal (ChecksText number library cell name file read) number tt (drc_refusal file at) (file ∷ []) answer lines stores
      (subst
      (λ (r : Result (List Rule) (At DrcFault)). ChecksText number library cell name file r (refused number tt (drc_refusal file at) (file ∷ [])))
      (sym is) refl)

  -- the file was fetched
  pub file_checked : (fetch : Result (List ℕ) FetchFault) (text : List ℕ) → fetch ≡ Ok text
      → AnswersFetching (file ∷ []) (ChecksText number library cell name file (rules_of library.tech text)) tt answer
      → AnswersFetching (file ∷ []) (ChecksFetched number library cell name file fetch) tt answer
  file_checked fetch text is means =
      subst (λ (f : Result (List ℕ) FetchFault). AnswersFetching (file ∷ []) (ChecksFetched number library cell name file f) tt answer) (sym is)
      means

  -- there is none
  pub file_refused : (fetch : Result (List ℕ) FetchFault) (fault : FetchFault) → fetch ≡ Err fault
      → answer.lines.items ≡ refusal_line number (file_refusal file fault) ∷ [] → answer.stores.items ≡ []
      → AnswersFetching (file ∷ []) (ChecksFetched number library cell name file fetch) tt answer
  file_refused fetch fault is lines stores =
      answers_refusal (ChecksFetched number library cell name file fetch) number tt (file_refusal file fault) (file ∷ []) answer lines stores
      (subst
      (λ (f : Result (List ℕ) FetchFault). ChecksFetched number library cell name file f (refused number tt (file_refusal file fault) (file ∷ [])))
      (sym is) refl)
