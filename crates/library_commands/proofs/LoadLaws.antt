-- What `load` does in each case.
use Rattle.library_commands.proofs.Common.{◌≡◌, ◌∙◌, ℕ, suc, List, [], ◌∷◌, length, Option, Some, inl, inr, refl, sym, subst, Files, Answer}
use Rattle.library_commands.proofs.Common.{AnswersFetching, Effect, CellKey, LibraryParts, IsSame, seen, edits_of, LoadFault, count_seen, Inverses}
use Rattle.library_commands.proofs.Common.{no_inverses, kept_versions, Records, is_dirty, load_refusal, loaded_text, LoadMeans, with_loaded}
use Rattle.library_commands.proofs.Common.{refusal_line, refused, reply, State, Workspace, answers_refusal, same_workspace, workspace_of}
use Rattle.uniqueness.specs.CellLoading.Loads.{IsLoaded, LoadIsRefused}
use Rattle.line_answers.proofs.AnswerLaws.{answers_with}

-- the load is refused, and nothing changed
pub load_refused : (number : ℕ) (old new : LibraryParts) (current : Option CellKey) (records : Records) (log : Inverses) (files : Files) (cell : List ℕ)
    (fault : LoadFault)
    (fetched : List (List ℕ)) (answer : Answer) → IsSame old new
    → LoadIsRefused files (seen old) (edits_of old) cell fetched fault
    → answer.lines.items ≡ refusal_line number (load_refusal fault) ∷ [] → answer.stores.items ≡ []
    → AnswersFetching fetched (LoadMeans number (Some (workspace_of old current records log)) files cell) (Some (workspace_of new current records log)) answer
load_refused number old new current records log files cell fault fetched answer same is_refused lines stores =
    let work = workspace_of old current records log in
    let means : LoadMeans number (Some work) files cell (refused number (Some work) (load_refusal fault) fetched) =
    inr (record { fault = fault; fetched = fetched; is_refused = is_refused; is = refl }) in
    subst (λ (w : Workspace). AnswersFetching fetched (LoadMeans number (Some work) files cell) (Some w) answer)
    (sym (same_workspace old new current records log same))
    (answers_refusal (LoadMeans number (Some work) files cell) number (Some work) (load_refusal fault) fetched answer lines stores means)

-- the cells came
pub load_done : (number : ℕ) (old new : LibraryParts) (current : Option CellKey) (records : Records) (log later : Inverses) (first : ℕ) (files : Files)
    (cell : List ℕ) (count : ℕ) (fetched : List (List ℕ)) (answer : Answer) → later ≡ no_inverses
    → ((key : ℕ) → is_dirty new records key ≡ is_dirty old records key)
    → IsLoaded files (seen old) (seen new) (edits_of old) cell count fetched → edits_of new ≡ suc (edits_of old) → first ≡ length old.contents
    → answer.lines.items ≡ reply (loaded_text cell count) ∷ [] → answer.stores.items ≡ []
    → AnswersFetching fetched (LoadMeans number (Some (workspace_of old current records log)) files cell)
    (Some (workspace_of new (Some (record { 0 = first })) records later)) answer
load_done number old new current records log later first files cell count fetched answer forgotten dirty is_loaded next first_is lines stores =
    let work = workspace_of old current records log in
    let now = workspace_of new (Some (record { 0 = first })) records later in
    let effect : Workspace → Effect State = λ w. record { state = Some w; lines = reply (loaded_text cell count) ∷ []; stores = []; fetched = fetched } in
    let means : LoadMeans number (Some work) files cell (effect (with_loaded work (seen new))) =
    inl (record { after = seen new; count = count; fetched = fetched; is_loaded = is_loaded; is = refl }) in
    let place : first ≡ length (seen old).cells = first_is ∙ sym (count_seen old) in
    let is : now ≡ with_loaded work (seen new) = λ i. record {
      editing = record { library = seen new; edits = next i; current = Some (place i) };
      dirty = λ key. dirty key i;
      versions = kept_versions (seen new) (forgotten i);
    } in
    let here = subst (λ (w : Workspace). LoadMeans number (Some work) files cell (effect w)) (sym is) means in
    answers_with (LoadMeans number (Some work) files cell) (Some now) answer (reply (loaded_text cell count) ∷ []) [] fetched lines stores here
