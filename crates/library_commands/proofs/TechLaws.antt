-- What `tech` does in each case.
use Rattle.library_commands.proofs.Common.{◌≡◌, ℕ, List, [], ◌∷◌, Ok, Err, None, refl, sym, ap, subst, ◌∙◌, Files, Answer, FetchFault}
use Rattle.library_commands.proofs.Common.{AnswersFetching, Effect, text_in, technology_of, refusal_line, state_of, RawTech, TechAt, LibraryParts}
use Rattle.library_commands.proofs.Common.{Inverses, no_inverses, Records, tech_text, TechMeans, file_effect, tech_effect, tech_file, refused, reply}
use Rattle.library_commands.proofs.Common.{State, answers_refusal, workspace_of}
use Rattle.workspace.specs.declared.cells.LayoutSession.{LayoutSession}
use Rattle.line_answers.specs.Refusals.{file_refusal}
use Rattle.std.specs.Prelude.{Result, Some}
use Rattle.cell_tree.specs.Trees.{empty_tree}
use Rattle.workspace.specs.Caches.{no_records}
use Rattle.workspace.proofs.RecordLaws.{dirty_none}
use Rattle.workspace.specs.LibraryAnswers.Refusals.{tech_refusal}
use Rattle.workspace.specs.States.{begun_with}
use Rattle.workspace.proofs.SessionLaws.{state_of_nothing}

-- the effect of a file's text is meant where there is no technology
meant_at_first : (number : ℕ) (session : LayoutSession) (files : Files) (name : List ℕ) (effect : Effect State) → session.edited ≡ None
    → effect ≡ file_effect number (tech_file name) (text_in files (tech_file name)) → TechMeans number (state_of session) files name effect
meant_at_first number session files name effect none is =
    subst (λ (s : State). TechMeans number s files name effect) (sym (state_of_nothing session none)) is

-- the file is refused
pub tech_file_refused : (number : ℕ) (session : LayoutSession) (files : Files) (name file : List ℕ) (fault : FetchFault) (answer : Answer)
    → session.edited ≡ None → file ≡ tech_file name → text_in files file ≡ Err fault
    → answer.lines.items ≡ refusal_line number (file_refusal file fault) ∷ [] → answer.stores.items ≡ []
    → AnswersFetching (tech_file name ∷ []) (TechMeans number (state_of session) files name) (state_of session) answer
tech_file_refused number session files name file fault answer none file_is there lines stores =
    let here = subst (λ (f : List ℕ). text_in files f ≡ Err fault) file_is there in
    let told = subst (λ (f : List ℕ). answer.lines.items ≡ refusal_line number (file_refusal f fault) ∷ []) file_is lines in
    let effect = refused number (state_of session) (file_refusal (tech_file name) fault) (tech_file name ∷ []) in
    let is : effect ≡ file_effect number (tech_file name) (text_in files (tech_file name)) =
    rw (here, state_of_nothing session none) refl in
    answers_refusal (TechMeans number (state_of session) files name) number (state_of session) (file_refusal (tech_file name) fault) (tech_file name ∷ [])
    answer told stores (meant_at_first number session files name effect none is)

-- a text that was asked for decides
pub tech_read : (number : ℕ) (session after : LayoutSession) (files : Files) (name file text : List ℕ) (answer : Answer)
    → session.edited ≡ None → file ≡ tech_file name → text_in files file ≡ Ok text
    → ◌≡◌ {A = Effect State} (record { state = state_of after; lines = answer.lines.items; stores = answer.stores.items; fetched = file ∷ [] })
    (tech_effect number file (technology_of text))
    → AnswersFetching (file ∷ []) (TechMeans number (state_of session) files name) (state_of after) answer
tech_read number session after files name file text answer none file_is there is =
    let effect : Effect State = record { state = state_of after; lines = answer.lines.items; stores = answer.stores.items; fetched = file ∷ [] } in
    let here : file_effect number file (text_in files file) ≡ tech_effect number file (technology_of text) = rw there refl in
    let meant : effect ≡ file_effect number (tech_file name) (text_in files (tech_file name)) =
    is ∙ sym here ∙ ap (λ (f : List ℕ). file_effect number f (text_in files f)) file_is in
    meant_at_first number session files name effect none meant

-- what is edited at first
pub begun : (raw : RawTech) (library : LibraryParts) (records : Records) (log : Inverses)
    → library ≡ record { tech = raw; scale = None; contents = []; tree = empty_tree }
    → records ≡ no_records → log ≡ no_inverses → workspace_of library None records log ≡ begun_with raw
begun raw library records log is none unlogged =
    (λ i. workspace_of (is i) None (none i) (unlogged i))
    ∙ (λ i. record {
      editing = (begun_with raw).editing;
      dirty = λ cell. dirty_none (record { tech = raw; scale = None; contents = []; tree = empty_tree }) cell i;
      versions = (begun_with raw).versions;
    })

-- a technology was read
pub tech_accepted : (number : ℕ) (file : List ℕ) (read : Result RawTech TechAt) (raw : RawTech) (library : LibraryParts) (records : Records) (log : Inverses)
    (answer : Answer)
    → read ≡ Ok raw → library ≡ record { tech = raw; scale = None; contents = []; tree = empty_tree } → records ≡ no_records → log ≡ no_inverses
    → answer.lines.items ≡ reply (tech_text raw) ∷ [] → answer.stores.items ≡ []
    → ◌≡◌ {A = Effect State}
    (record { state = Some (workspace_of library None records log); lines = answer.lines.items; stores = answer.stores.items; fetched = file ∷ [] })
    (tech_effect number file read)
tech_accepted number file read raw library records log answer is library_is none unlogged lines stores =
    (λ i. record { state = Some (begun raw library records log library_is none unlogged i); lines = lines i; stores = stores i; fetched = file ∷ [] })
    ∙ ap (tech_effect number file) (sym is)

-- a technology's text is refused
pub tech_text_refused : (number : ℕ) (file : List ℕ) (read : Result RawTech TechAt) (at : TechAt) (state : State) (answer : Answer)
    → read ≡ Err at → state ≡ None → answer.lines.items ≡ refusal_line number (tech_refusal file at) ∷ [] → answer.stores.items ≡ []
    → ◌≡◌ {A = Effect State}
    (record { state = state; lines = answer.lines.items; stores = answer.stores.items; fetched = file ∷ [] })
    (tech_effect number file read)
tech_text_refused number file read at state answer is none lines stores =
    (λ i. record { state = none i; lines = lines i; stores = stores i; fetched = file ∷ [] })
    ∙ ap (tech_effect number file) (sym is)
