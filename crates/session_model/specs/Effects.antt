-- What a line of a script does.
use Rattle.std.specs.Prelude.{◌≡◌, ◌++◌, ℕ, List, [], fold, Option}
use Rattle.outside_io.specs.CallPlans.{CallPlan, told_after_call}
use Rattle.outside_io.specs.Files.{Files, with_file}
use Rattle.session_model.specs.declared.answer.Answer.{Answer}
use Rattle.session_model.specs.declared.answer.Store.{Store}
use Rattle.session_model.specs.declared.report.ReportLine.{ReportLine}

-- What a line does: the state that it leaves, the lines that it adds to the report, the files that it stores in order, and the
-- names of the files that it fetches.
pub record Effect (State : Type 0) : Type 0 where
  pub state : State
  pub lines : List ReportLine
  pub stores : List Store
  pub fetched : List (List ℕ)

-- the files after these stores in order
abbrev pub with_stores : Files → List Store → Files
with_stores files stores = fold (λ files store. with_file files store.name store.bytes) files stores

-- the state after these effects in order
abbrev pub state_after : {State : Type 0} → State → List (Effect State) → State
state_after first effects = fold (λ state effect. effect.state) first effects

-- what a shelf tells of its calls after one for each of these names: it counts them, and does not tell which names they were
abbrev pub after_fetches : Option CallPlan → List (List ℕ) → Option CallPlan
after_fetches plan names = fold (λ plan name. told_after_call plan) plan names

-- What is given is so for names that are fetched, and between the two plans as many files were asked for.
abbrev pub GivesFetching : (List (List ℕ) → Type 0) → Option CallPlan → Option CallPlan → Type 0
GivesFetching Gives old new = (fetched : List (List ℕ)) × Gives fetched × (new ≡ after_fetches old fetched)

-- The answer, with the state after it, is what is meant, where these names are fetched.
abbrev pub AnswersFetching : {State : Type 0} → List (List ℕ) → (Effect State → Type 0) → State → Answer → Type 0
AnswersFetching fetched Means state answer =
    Means (record { state = state; lines = answer.lines.items; stores = answer.stores.items; fetched = fetched })

-- It is what is meant, and no file is fetched.
abbrev pub AnswersAlone : {State : Type 0} → (Effect State → Type 0) → State → Answer → Type 0
AnswersAlone Means state answer = AnswersFetching [] Means state answer

-- It is what is meant, where names were fetched before, and between the two plans as many files were asked for as others are fetched.
abbrev pub AnswersAfter : {State : Type 0} → List (List ℕ) → (Effect State → Type 0) → State → Answer → Option CallPlan → Option CallPlan → Type 0
AnswersAfter before Means state answer old new =
    (fetched : List (List ℕ)) × AnswersFetching (before ++ fetched) Means state answer × (new ≡ after_fetches old fetched)

-- It is what is meant, and between the two plans as many files were asked for as names are fetched.
abbrev pub Answers : {State : Type 0} → (Effect State → Type 0) → State → Answer → Option CallPlan → Option CallPlan → Type 0
Answers Means state answer old new = AnswersAfter [] Means state answer old new
