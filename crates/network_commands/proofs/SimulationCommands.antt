-- What `simrun` answers in each case.
use Rattle.network_commands.proofs.Common.{◌≡◌, ◌∙◌, ℕ, List, [], ◌∷◌, ◌++◌, refl, sym, ap, subst, inl, inr, Files, At, FetchFault, text_in, SimFile}
use Rattle.network_commands.proofs.Common.{sim_in, Network, RunsRead, RunsRecords, RunsSource, RunsVectors, SimrunMeans, sim_file, IsNetOf, vec_file}
use Rattle.std.specs.Prelude.{Option, Result, Ok, Err}
use Rattle.std.proofs.lemmas.List.{append-nil}
use Rattle.outside_io.specs.CallPlans.{CallPlan, told_after_call}
use Rattle.session_model.specs.declared.answer.Answer.{Answer}
use Rattle.session_model.specs.declared.report.ReportLine.{ReportLine}
use Rattle.session_model.specs.Effects.{Answers, AnswersAfter, after_fetches}
use Rattle.sim_text.specs.declared.faults.SimFault.{SimFault}
use Rattle.sim_text.specs.declared.limits.SimLimit.{SimLimit}
use Rattle.line_answers.proofs.AnswerLaws.{answers_refusal}
use Rattle.line_answers.specs.LineEffects.{FreeEffect, IsOfInside, refused}
use Rattle.line_answers.specs.Refusals.{file_refusal, refusal_line, too_many}
use Rattle.network_commands.specs.Refusals.{sim_refusal}
use Rattle.network_runs.specs.Refusals.{sim_limit_word}
use Rattle.network_runs.specs.Simulations.{PassesNet, TellsVectors}

-- the refusal of a sim file
pub sim_inside : (number : ℕ) (file : List ℕ) (at : At SimFault) (lines : List ReportLine)
    → lines ≡ refusal_line number (sim_refusal file at) ∷ [] → IsOfInside lines
sim_inside number file at lines are = subst (λ (all : List ReportLine). IsOfInside all) (sym are) (record { present = refl; fits = refl })

-- `simrun`: the vector file was fetched
pub vectors_run : (budget number : ℕ) (file text : List ℕ) (fetch : Result (List ℕ) FetchFault) (net : Network) (names : List (List ℕ × ℕ))
    (fetched : List (List ℕ)) (answer : Answer) (old new : Option CallPlan)
    → fetch ≡ Ok text → new ≡ told_after_call old → TellsVectors budget number text net names answer.lines.items → answer.stores.items ≡ []
    → AnswersAfter fetched (RunsVectors budget number fetch file net names fetched) tt answer old new
vectors_run budget number file text fetch net names fetched answer old new is asked tells stores =
    let effect : FreeEffect =
    record { state = tt; lines = answer.lines.items; stores = answer.stores.items; fetched = fetched ++ file ∷ [] } in (
      file ∷ [],
      subst (λ (f : Result (List ℕ) FetchFault). RunsVectors budget number f file net names fetched effect) (sym is) (record {
        lines = answer.lines.items;
        tells = tells;
        is = λ i. record { state = tt; lines = answer.lines.items; stores = stores i; fetched = fetched ++ file ∷ [] };
      }),
      asked,
    )

-- there is none
pub vectors_refused : (budget number : ℕ) (file : List ℕ) (fault : FetchFault) (fetch : Result (List ℕ) FetchFault) (net : Network)
    (names : List (List ℕ × ℕ)) (fetched : List (List ℕ)) (answer : Answer) (old new : Option CallPlan)
    → fetch ≡ Err fault → new ≡ told_after_call old → answer.lines.items ≡ refusal_line number (file_refusal file fault) ∷ []
    → answer.stores.items ≡ [] → AnswersAfter fetched (RunsVectors budget number fetch file net names fetched) tt answer old new
vectors_refused budget number file fault fetch net names fetched answer old new is asked lines stores = (
  file ∷ [],
  answers_refusal (RunsVectors budget number fetch file net names fetched) number tt (file_refusal file fault) (fetched ++ file ∷ []) answer lines stores
      (subst
      (λ (f : Result (List ℕ) FetchFault). RunsVectors budget number f file net names fetched (refused number tt (file_refusal file fault)
      (fetched ++ file ∷ [])))
      (sym is) refl),
  asked,
)

-- the sim records have a network
pub net_run : (budget number : ℕ) (files : Files) (sim : SimFile) (net : Network) (names : List (List ℕ × ℕ)) (file : List ℕ)
    (fetched : List (List ℕ)) (answer : Answer) (old new : Option CallPlan) → IsNetOf sim net names
    → AnswersAfter fetched (RunsVectors budget number (text_in files file) file net names fetched) tt answer old new
    → AnswersAfter fetched (RunsRecords budget number files sim file fetched) tt answer old new
net_run budget number files sim net names file fetched answer old new is (more, means, asked) =
    (more, inr (record { net = net; names = names; is_net = is; runs = means }), asked)

-- it would pass a limit
pub net_refused : (budget number : ℕ) (files : Files) (sim : SimFile) (limit : SimLimit) (file : List ℕ) (fetched : List (List ℕ))
    (answer : Answer) (plan : Option CallPlan)
    → PassesNet sim limit → answer.lines.items ≡ refusal_line number (too_many (sim_limit_word limit)) ∷ [] → answer.stores.items ≡ []
    → AnswersAfter fetched (RunsRecords budget number files sim file fetched) tt answer plan plan
net_refused budget number files sim limit file fetched answer plan passes lines stores =
    let effect : List (List ℕ) → FreeEffect =
    λ names. record { state = tt; lines = answer.lines.items; stores = answer.stores.items; fetched = names } in (
      [],
      subst (λ (names : List (List ℕ)). RunsRecords budget number files sim file fetched (effect names)) (sym (append-nil fetched))
          (answers_refusal (RunsRecords budget number files sim file fetched) number tt (too_many (sim_limit_word limit)) fetched answer lines stores
          (inl (record { limit = limit; passes = passes; is = refl }))),
      refl,
    )

-- the sim file was read
pub read_run : (budget number : ℕ) (files : Files) (source : List ℕ) (read : Result SimFile (At SimFault)) (sim : SimFile) (file : List ℕ)
    (answer : Answer) (old new : Option CallPlan) → read ≡ Ok sim
    → AnswersAfter (source ∷ []) (RunsRecords budget number files sim file (source ∷ [])) tt answer old new
    → AnswersAfter (source ∷ []) (RunsRead budget number files source read file) tt answer old new
read_run budget number files source read sim file answer old new is (more, means, asked) =
    let effect : FreeEffect = record { state = tt; lines = answer.lines.items; stores = answer.stores.items; fetched = source ∷ more } in
    (more, subst (λ (r : Result SimFile (At SimFault)). RunsRead budget number files source r file effect) (sym is) means, asked)

-- it has a fault
pub read_refused : (budget number : ℕ) (files : Files) (source : List ℕ) (read : Result SimFile (At SimFault)) (at : At SimFault)
    (file : List ℕ) (answer : Answer) (plan : Option CallPlan)
    → read ≡ Err at → answer.lines.items ≡ refusal_line number (sim_refusal source at) ∷ [] → answer.stores.items ≡ []
    → AnswersAfter (source ∷ []) (RunsRead budget number files source read file) tt answer plan plan
read_refused budget number files source read at file answer plan is lines stores = (
  [],
  answers_refusal (RunsRead budget number files source read file) number tt (sim_refusal source at) (source ∷ []) answer lines stores
      (subst (λ (r : Result SimFile (At SimFault)). RunsRead budget number files source r file (refused number tt (sim_refusal source at)
      (source ∷ []))) (sym is) refl),
  refl,
)

-- the sim file was fetched
pub source_run : (budget number : ℕ) (files : Files) (source text : List ℕ) (fetch : Result (List ℕ) FetchFault) (file : List ℕ)
    (answer : Answer) (old middle new : Option CallPlan) → fetch ≡ Ok text → middle ≡ told_after_call old
    → AnswersAfter (source ∷ []) (RunsRead budget number files source (sim_in text) file) tt answer middle new
    → Answers (RunsSource budget number files source fetch file) tt answer old new
source_run budget number files source text fetch file answer old middle new is once (more, means, asked) =
    let effect : FreeEffect = record { state = tt; lines = answer.lines.items; stores = answer.stores.items; fetched = source ∷ more } in (
      source ∷ more,
      subst (λ (f : Result (List ℕ) FetchFault). RunsSource budget number files source f file effect) (sym is) means,
      asked ∙ ap (λ (plan : Option CallPlan). after_fetches plan more) once,
    )

-- there is none
pub source_refused : (budget number : ℕ) (files : Files) (source : List ℕ) (fault : FetchFault) (fetch : Result (List ℕ) FetchFault)
    (file : List ℕ) (answer : Answer) (old new : Option CallPlan)
    → fetch ≡ Err fault → new ≡ told_after_call old → answer.lines.items ≡ refusal_line number (file_refusal source fault) ∷ []
    → answer.stores.items ≡ [] → Answers (RunsSource budget number files source fetch file) tt answer old new
source_refused budget number files source fault fetch file answer old new is asked lines stores = (
  source ∷ [],
  answers_refusal (RunsSource budget number files source fetch file) number tt (file_refusal source fault) (source ∷ []) answer lines stores
      (subst
      (λ (f : Result (List ℕ) FetchFault). RunsSource budget number files source f file (refused number tt (file_refusal source fault) (source ∷ [])))
      (sym is) refl),
  asked,
)

-- the files of `simrun` have these names
pub simrun_means : (budget number : ℕ) (files : Files) (name file source vectors : List ℕ) (answer : Answer) (old new : Option CallPlan)
    → source ≡ sim_file name → vectors ≡ vec_file file
    → Answers (RunsSource budget number files source (text_in files source) vectors) tt answer old new
    → Answers (SimrunMeans budget number files name file) tt answer old new
simrun_means budget number files name file source vectors answer old new source_is vectors_are means =
    subst (λ (v : List ℕ). Answers (RunsSource budget number files (sim_file name) (text_in files (sim_file name)) v) tt answer old new) vectors_are
    (subst (λ (s : List ℕ). Answers (RunsSource budget number files s (text_in files s) vectors) tt answer old new) source_is means)
