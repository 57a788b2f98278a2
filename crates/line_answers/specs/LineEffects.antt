-- What lines do, whatever the state of their session is.
use Rattle.std.specs.Prelude.{◌≡◌, ℕ, List, [], ◌∷◌, false}
use Rattle.std.specs.List.{list_any}
use Rattle.session_model.specs.declared.report.LineKind.TheVariants.{Reply}
use Rattle.session_model.specs.declared.report.ReportLine.{ReportLine}
use Rattle.session_model.specs.Causes.{line_kinds}
use Rattle.session_model.specs.Effects.{Effect}
use Rattle.session_model.specs.Reports.{is_for_absent, is_for_too_long}
use Rattle.line_answers.specs.declared.refusals.Refusal.{Refusal}
use Rattle.line_answers.specs.Refusals.{refusal_line}

-- a line of a reply
abbrev pub reply : List ℕ → ReportLine
reply text = record { kind = Reply; text = text }

-- An accepted line leaves this state and replies these lines. It fetched these names, and stores nothing.
abbrev pub accepted : {State : Type 0} → State → List ReportLine → List (List ℕ) → Effect State
accepted state lines fetched = record { state = state; lines = lines; stores = []; fetched = fetched }

-- A refused line changes nothing.
abbrev pub refused : {State : Type 0} → ℕ → State → Refusal → List (List ℕ) → Effect State
refused number state refusal fetched = record { state = state; lines = refusal_line number refusal ∷ []; stores = []; fetched = fetched }

-- What a command does that neither needs the state of a session nor changes it.
abbrev pub FreeEffect : Type 0
FreeEffect = Effect (Unit {0})

-- The state stays, and the rest is what such a command does.
abbrev pub LeavesState : {State : Type 0} → State → (FreeEffect → Type 0) → Effect State → Type 0
LeavesState state Means effect =
    (effect.state ≡ state) × Means (record { state = tt; lines = effect.lines; stores = effect.stores; fetched = effect.fetched })

-- No line is refused for what the shelf said.
pub record IsOfInside (lines : List ReportLine) : Type 0 where
  pub present : list_any is_for_absent (line_kinds lines) ≡ false
  pub fits : list_any is_for_too_long (line_kinds lines) ≡ false
