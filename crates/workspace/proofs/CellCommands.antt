-- Commands on a cell: what answers them where the cell is found and where it is not.
use Rattle.workspace.proofs.Common.{◌≡◌, ℕ, List, [], ◌∷◌, Some, None, refl, State, Workspace}
use Rattle.session_model.specs.declared.answer.Answer.{Answer}
use Rattle.session_model.specs.Effects.{AnswersAlone, AnswersFetching, Effect}
use Rattle.ext_cache.specs.CellLibrary.Views.{cell_named}
use Rattle.line_answers.proofs.AnswerLaws.{answers_refusal}
use Rattle.line_answers.specs.Refusals.{no_cell, refusal_line}
use Rattle.workspace.specs.Extractions.{OnCell}

-- where the cell is found, what is meant for it is meant
pub answers_on_cell : (number : ℕ) (work : Workspace) (name : List ℕ) (Means : Workspace → ℕ → Effect State → Type 0) (after : State) (cell : ℕ)
    (answer : Answer) (fetched : List (List ℕ)) → cell_named work.editing.library name ≡ Some cell → AnswersFetching fetched (Means work cell) after answer
    → AnswersFetching fetched (OnCell number (Some work) name Means) after answer
answers_on_cell number work name Means after cell answer fetched named means = rw named means

-- where it isn't, the command is refused
pub refused_on_cell : (number : ℕ) (work : Workspace) (name : List ℕ) (Means : Workspace → ℕ → Effect State → Type 0) (answer : Answer)
    → cell_named work.editing.library name ≡ None → answer.lines.items ≡ refusal_line number (no_cell name) ∷ [] → answer.stores.items ≡ []
    → AnswersAlone (OnCell number (Some work) name Means) (Some work) answer
refused_on_cell number work name Means answer none lines stores =
    answers_refusal (OnCell number (Some work) name Means) number (Some work) (no_cell name) [] answer lines stores (rw none refl)
