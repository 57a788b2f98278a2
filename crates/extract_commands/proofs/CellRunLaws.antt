-- What the commands answer that run something on the network of a cell's circuit.
use Rattle.extract_commands.proofs.Common.{◌≡◌, ℕ, List, [], ◌∷◌, ◌++◌, Some, refl, sym, subst, Result, Ok, Err, Answer, Store, FetchFault}
use Rattle.extract_commands.proofs.Common.{ReportLine, AnswersFetching, answers_refusal, refused, refusal_line, NetworkRun, Done, Extraction}
use Rattle.extract_commands.proofs.Common.{IsExtracted, State, Workspace, RunsCell, TellsAt, RunsFetched, VectorQuestion}
use Rattle.line_answers.specs.Refusals.{file_refusal}

-- the cell was extracted, and lines behind those of the extraction answer what was run
pub runs_cell : (run : NetworkRun) (budget number : ℕ) (fetched : List (List ℕ)) (work after : Workspace) (cell : ℕ) (extraction : Extraction)
    (lines all : List ReportLine) (stores : List Store) → IsExtracted number work after cell (Done extraction)
    → TellsAt run budget number work.editing.library cell lines → all ≡ extraction.lines ++ lines → stores ≡ extraction.stores
    → RunsCell run budget number fetched work cell (record { state = Some after; lines = all; stores = stores; fetched = fetched })
runs_cell run budget number fetched work after cell extraction lines all stores is tells lines_are stores_are = record {
  extraction = extraction;
  is_extraction = is.0;
  lines = lines;
  tells = tells;
  is = λ i. record { state = Some (is.1 i); lines = lines_are i; stores = stores_are i; fetched = fetched };
}

-- ---- `vectors` and `grade`

-- the vector file was fetched
pub runs_fetched : (question : VectorQuestion) (budget number : ℕ) (name file text : List ℕ) (fetch : Result (List ℕ) FetchFault) (work : Workspace)
    (cell : ℕ) (after : State) (answer : Answer)
    → fetch ≡ Ok text
    → RunsFetched question budget number name file (Ok text) work cell
    (record { state = after; lines = answer.lines.items; stores = answer.stores.items; fetched = file ∷ [] })
    → AnswersFetching (file ∷ []) (RunsFetched question budget number name file fetch work cell) after answer
runs_fetched question budget number name file text fetch work cell after answer is runs =
    subst
    (λ (f : Result (List ℕ) FetchFault).
    RunsFetched question budget number name file f work cell
    (record { state = after; lines = answer.lines.items; stores = answer.stores.items; fetched = file ∷ [] }))
    (sym is) runs

-- there is none
pub refuses_fetched : (question : VectorQuestion) (budget number : ℕ) (name file : List ℕ) (fault : FetchFault) (fetch : Result (List ℕ) FetchFault)
    (work : Workspace) (cell : ℕ)
    (answer : Answer)
    → fetch ≡ Err fault → answer.lines.items ≡ refusal_line number (file_refusal file fault) ∷ [] → answer.stores.items ≡ []
    → AnswersFetching (file ∷ []) (RunsFetched question budget number name file fetch work cell) (Some work) answer
refuses_fetched question budget number name file fault fetch work cell answer is lines stores =
    answers_refusal (RunsFetched question budget number name file fetch work cell) number (Some work) (file_refusal file fault) (file ∷ []) answer lines stores
    (subst
    (λ (f : Result (List ℕ) FetchFault). RunsFetched question budget number name file f work cell
    (refused number (Some work) (file_refusal file fault) (file ∷ [])))
    (sym is) refl)
