-- What `vectors` and `grade` do rests on the file alone that they fetch.
use Rattle.extract_commands.proofs.Common.{◌≡◌, ℕ, List, [], ◌∷◌, Option, Some, None, inl, inr, refl, sym, ap, subst, arith, MatchOption, Result, Ok}
use Rattle.extract_commands.proofs.Common.{Err, FetchFault, Effect, text_in, cell_named, refused, no_cell, NetworkRun, vec_file, State, Workspace}
use Rattle.extract_commands.proofs.Common.{RunsExtracted, RunsFetched, VectorsMeans, run_of, VectorQuestion}
use Rattle.outside_io.specs.Files.{Files}
use Rattle.session_model.specs.Fetches.{AgreeOn}
use Rattle.session_model.proofs.FetchLaws.{text_same}

-- the names that are fetched are those that were fetched before the cell is extracted
extracted_fetched : (run : NetworkRun) (budget number : ℕ) (fetched : List (List ℕ)) (work : Workspace) (cell : ℕ) (effect : Effect State)
    → RunsExtracted run budget number fetched work cell effect → effect.fetched ≡ fetched
extracted_fetched run budget number fetched work cell effect (inl runs) = ap (λ (e : Effect State). e.fetched) runs.is
extracted_fetched run budget number fetched work cell effect (inr refuses) = ap (λ (e : Effect State). e.fetched) refuses.is

-- the vector file was fetched, whatever came of it
vectors_fetched : (question : VectorQuestion) (budget number : ℕ) (name file : List ℕ) (text : Result (List ℕ) FetchFault) (work : Workspace)
    (cell : ℕ) (effect : Effect State) → RunsFetched question budget number name file text work cell effect → effect.fetched ≡ file ∷ []
vectors_fetched question budget number name file (Ok text) work cell effect runs =
    extracted_fetched (run_of question name text) budget number (file ∷ []) work cell effect runs
vectors_fetched question budget number name file (Err fault) work cell effect is = ap (λ (e : Effect State). e.fetched) is

module _ (question : VectorQuestion) (budget number : ℕ) (files others : Files) where
  -- so the text is the same
  runs_rest : (name file : List ℕ) (work : Workspace) (cell : ℕ) (effect : Effect State)
      → RunsFetched question budget number name file (text_in files file) work cell effect → AgreeOn effect.fetched files others
      → RunsFetched question budget number name file (text_in others file) work cell effect
  runs_rest name file work cell effect runs agree =
      let fetched = vectors_fetched question budget number name file (text_in files file) work cell effect runs in
      let here = subst (λ (names : List (List ℕ)). AgreeOn names files others) fetched agree in
      let same = text_same files others file (here file (0, omega arith, refl)) in
      subst (λ (text : Result (List ℕ) FetchFault). RunsFetched question budget number name file text work cell effect) (sym same) runs

  -- where the cell is there or not
  cell_rests : (name file : List ℕ) (work : Workspace) (cell : Option ℕ) (effect : Effect State)
      → MatchOption cell (effect ≡ refused number (Some work) (no_cell name) [])
      (λ found. RunsFetched question budget number name file (text_in files file) work found effect)
      → AgreeOn effect.fetched files others
      → MatchOption cell (effect ≡ refused number (Some work) (no_cell name) [])
      (λ found. RunsFetched question budget number name file (text_in others file) work found effect)
  cell_rests name file work None effect is agree = is
  cell_rests name file work (Some cell) effect runs agree = runs_rest name file work cell effect runs agree

  pub vectors_rest : (state : State) (name file : List ℕ) (effect : Effect State)
      → VectorsMeans question budget number state files name file effect → AgreeOn effect.fetched files others
      → VectorsMeans question budget number state others name file effect
  vectors_rest None name file effect is agree = is
  vectors_rest (Some work) name file effect means agree =
      cell_rests name (vec_file file) work (cell_named work.editing.library name) effect means agree
