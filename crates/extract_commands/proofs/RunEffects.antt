-- What is run on the network of the circuit of a cell.
use Rattle.extract_commands.proofs.Common.{◌≡◌, ◌<◌, ◌++◌, ℕ, List, [], ◌∷◌, length, Some, inl, inr, sym, ap, ◌∙◌, subst, Result, Ok, Err}
use Rattle.extract_commands.proofs.Common.{FetchFault, ReportLine, Effect, text_in, Circuit, CircuitLimit, LibraryView, refusal_line, IsCleanCell}
use Rattle.extract_commands.proofs.Common.{NetworkRun, vec_file, Extraction, with_clean, State, RunsCell, RunsExtracted, TellsAt, RunsFetched}
use Rattle.extract_commands.proofs.Common.{run_of, VectorQuestion, CellCircuitsAreUnique, CellCircuitsPassNoLimit, CellLimitsAreUnique}
use Rattle.extract_commands.proofs.Common.{ExtractedCellsAreNotRefused, ExtractionsAreUnique, UncleanRefusalsAreUnique, IsSoundView}
use Rattle.line_answers.specs.Refusals.{too_many}
use Rattle.uniqueness.specs.CircuitCommands.Refusals.{circuit_limit_word}
use Rattle.workspace.specs.NetworkRuns.NetworkRuns.{TellsCircuit}
use Rattle.uniqueness.specs.Simulations.{CircuitAnswersAreUnique}
use Rattle.extract_commands.specs.OneEffects.{VectorsMeansOneEffect}
use Rattle.extract_commands.proofs.OnCells.{MeansOneOnCells, one_extracted, one_on_cell}

module _ (one_circuit : CellCircuitsAreUnique) (one_limit : CellLimitsAreUnique) (either : CellCircuitsPassNoLimit)
    (one_answer : CircuitAnswersAreUnique) where
  -- a run at a clean cell is answered by the same lines
  same_told : (run : NetworkRun) (budget number : ℕ) (view : LibraryView) (cell : ℕ) (lines more : List ReportLine) → IsSoundView view
      → cell < length view.cells → IsCleanCell view cell → TellsAt run budget number view cell lines → TellsAt run budget number view cell more
      → lines ≡ more
  same_told run budget number view cell lines more sound there clean (inl p) (inl q) =
      let limit = one_limit view cell p.limit q.limit sound there clean p.passes q.passes in
      p.are ∙ ap (λ (told : CircuitLimit). refusal_line number (too_many (circuit_limit_word told)) ∷ []) limit ∙ sym q.are
  same_told run budget number view cell lines more sound there clean (inl p) (inr q) =
      absurd (either view cell q.circuit p.limit sound there clean q.is_circuit p.passes)
  same_told run budget number view cell lines more sound there clean (inr p) (inl q) =
      absurd (either view cell p.circuit q.limit sound there clean p.is_circuit q.passes)
  same_told run budget number view cell lines more sound there clean (inr p) (inr q) =
      let circuit = one_circuit view cell p.circuit q.circuit sound there clean p.is_circuit q.is_circuit in
      one_answer run budget number p.circuit lines more p.tells
      (subst (λ (of : Circuit). TellsCircuit run budget number of more) (sym circuit) q.tells)

  module _ (one_extraction : ExtractionsAreUnique) (one_refusal : UncleanRefusalsAreUnique) (not_both : ExtractedCellsAreNotRefused) where
    -- it has one effect
    same_runs : (run : NetworkRun) (budget number : ℕ) (fetched : List (List ℕ)) → MeansOneOnCells (RunsCell run budget number fetched)
    same_runs run budget number fetched work cell sound there effect other p q =
        let same = one_extraction work cell p.extraction q.extraction sound there p.is_extraction q.is_extraction in
        let lines =
        same_told run budget number work.editing.library cell p.lines q.lines sound there p.is_extraction.clean p.tells q.tells in
        let after : Extraction → List ℕ → List ReportLine → Effect State = λ extraction order told. record {
          state = Some (with_clean work order);
          lines = extraction.lines ++ told;
          stores = extraction.stores;
          fetched = fetched;
        } in
        p.is ∙ (λ i. after (same.0 i) (same.1 i) (lines i)) ∙ sym q.is

    -- also where the cell may be not clean
    pub same_run : (run : NetworkRun) (budget number : ℕ) (fetched : List (List ℕ)) → MeansOneOnCells (RunsExtracted run budget number fetched)
    same_run run budget number fetched =
        one_extracted one_extraction one_refusal not_both number fetched (RunsCell run budget number fetched)
        (λ work cell effect p. (p.extraction, p.is_extraction)) (same_runs run budget number fetched)

    -- and so has what is fetched for it
    same_fetched : (question : VectorQuestion) (budget number : ℕ) (name file : List ℕ) (text : Result (List ℕ) FetchFault)
        → MeansOneOnCells (RunsFetched question budget number name file text)
    same_fetched question budget number name file (Ok text) work cell sound there effect other p q =
        same_run (run_of question name text) budget number (file ∷ []) work cell sound there effect other p q
    same_fetched question budget number name file (Err fault) work cell sound there effect other p q = p ∙ sym q

    -- so `vectors` and `grade` have one effect
    pub same_vectors : VectorsMeansOneEffect
    same_vectors question budget number state files name file effect other sees =
        one_on_cell number state name (RunsFetched question budget number name (vec_file file) (text_in files (vec_file file))) sees
        (same_fetched question budget number name (vec_file file) (text_in files (vec_file file))) effect other
