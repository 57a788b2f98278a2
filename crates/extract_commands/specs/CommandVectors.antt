-- `vectors c f` and `grade c f`: f.vec is run on the network of the circuit of c, and its replies, or the stuck faults that it detects, are told.
use Rattle.std.specs.Prelude.{◌≡◌, ℕ, List, [], ◌∷◌, Some, Result, Ok, Err}
use Rattle.outside_io.specs.Files.{Files}
use Rattle.session_model.specs.declared.fetching.FetchFault.{FetchFault}
use Rattle.session_model.specs.Effects.{Effect}
use Rattle.session_model.specs.Fetches.{text_in}
use Rattle.line_answers.specs.LineEffects.{refused}
use Rattle.line_answers.specs.Refusals.{file_refusal}
use Rattle.workspace.specs.NetworkRuns.declared.network_runs.NetworkRun.{NetworkRun}
use Rattle.workspace.specs.NetworkRuns.declared.network_runs.NetworkRun.TheVariants as run
use Rattle.workspace.specs.NetworkRuns.Simulations.{vec_file}
use Rattle.workspace.specs.Extractions.{OnCell}
use Rattle.workspace.specs.States.{State, Workspace}
use Rattle.extract_commands.specs.CellRuns.{RunsExtracted}
use Rattle.extract_commands.specs.declared.command_vectors.VectorQuestion.{VectorQuestion}
use Rattle.extract_commands.specs.declared.command_vectors.VectorQuestion.TheVariants.{Faults, Replies}

-- what is run to answer the question, of vectors of this text on the circuit of the cell of this name
abbrev pub run_of : VectorQuestion → List ℕ → List ℕ → NetworkRun
run_of Replies name text = run.Vectors text
run_of Faults name text = run.Grade name text

-- The vector file is fetched first: where there is none, nothing is extracted.
abbrev pub RunsFetched : VectorQuestion → ℕ → ℕ → List ℕ → List ℕ → Result (List ℕ) FetchFault → Workspace → ℕ → Effect State → Type 0
RunsFetched question budget number name file (Ok text) work cell effect =
    RunsExtracted (run_of question name text) budget number (file ∷ []) work cell effect
RunsFetched question budget number name file (Err fault) work cell effect =
    effect ≡ refused number (Some work) (file_refusal file fault) (file ∷ [])

abbrev pub VectorsMeans : VectorQuestion → ℕ → ℕ → State → Files → List ℕ → List ℕ → Effect State → Type 0
VectorsMeans question budget number state files name file effect =
    OnCell number state name (RunsFetched question budget number name (vec_file file) (text_in files (vec_file file))) effect
