-- What `drc` does rests on the file alone that it fetches.
use Rattle.std.proofs.Common.{◌≡◌, ℕ, List, [], ◌∷◌, refl, sym, ap, subst, arith}
use Rattle.std.specs.Prelude.{Result, Ok, Err}
use Rattle.text_form.specs.declared.reading.At.{At}
use Rattle.outside_io.specs.Files.{Files}
use Rattle.session_model.specs.declared.fetching.FetchFault.{FetchFault}
use Rattle.session_model.specs.Fetches.{AgreeOn, text_in}
use Rattle.session_model.proofs.FetchLaws.{text_same}
use Rattle.drc_rules.specs.declared.faults.DrcFault.{DrcFault}
use Rattle.drc_rules.specs.declared.rules.Rule.{Rule}
use Rattle.drc_rules.specs.RuleFiles.{rules_of}
use Rattle.cell_library.specs.Views.{LibraryView}
use Rattle.line_answers.specs.LineEffects.{FreeEffect}
use Rattle.drc_commands.specs.CommandDrc.{ChecksFetched, ChecksText, DrcMeans, drc_file}

module _ (number : ℕ) (library : LibraryView) (cell : ℕ) (name file : List ℕ) (effect : FreeEffect) where
  -- the file was fetched, whatever its text says
  text_fetched : (read : Result (List Rule) (At DrcFault)) → ChecksText number library cell name file read effect → effect.fetched ≡ file ∷ []
  text_fetched (Ok rules) checks = ap (λ (e : FreeEffect). e.fetched) checks.is
  text_fetched (Err at) is = ap (λ (e : FreeEffect). e.fetched) is

  -- and so it was whether it is there or not
  file_fetched : (text : Result (List ℕ) FetchFault) → ChecksFetched number library cell name file text effect → effect.fetched ≡ file ∷ []
  file_fetched (Ok text) checks = text_fetched (rules_of library.tech text) checks
  file_fetched (Err fault) is = ap (λ (e : FreeEffect). e.fetched) is

  -- so the text is the same
  checks_rest : (files others : Files) → ChecksFetched number library cell name file (text_in files file) effect
      → AgreeOn effect.fetched files others → ChecksFetched number library cell name file (text_in others file) effect
  checks_rest files others checks agree =
      let fetched = file_fetched (text_in files file) checks in
      let here = subst (λ (names : List (List ℕ)). AgreeOn names files others) fetched agree in
      let same = text_same files others file (here file (0, omega arith, refl)) in
      subst (λ (text : Result (List ℕ) FetchFault). ChecksFetched number library cell name file text effect) (sym same) checks

-- what the command does is the same over files that agree on what it fetches
pub drc_rests : (number : ℕ) (files others : Files) (library : LibraryView) (cell : ℕ) (name file : List ℕ) (effect : FreeEffect)
    → DrcMeans number files library cell name file effect → AgreeOn effect.fetched files others
    → DrcMeans number others library cell name file effect
drc_rests number files others library cell name file effect means agree =
    checks_rest number library cell name (drc_file file) effect files others means agree
