-- What a script does, whatever each of its lines means.
use Rattle.std.specs.Prelude.{◌≡◌, ◌+◌, ℕ, List, [], ◌∷◌, map}
use Rattle.std.specs.List.{flat_map}
use Rattle.outside_io.specs.Files.{Files}
use Rattle.session_model.specs.declared.answer.Store.{Store}
use Rattle.session_model.specs.declared.report.ReportLine.{ReportLine}
use Rattle.session_model.specs.Effects.{Effect, with_stores}

-- What these lines do one after the other, the first being the script's line of this number: one effect for each. A line finds the
-- state and the files that the line before it left.
abbrev pub LinesMean : {State : Type 0} → (ℕ → State → Files → List ℕ → Effect State → Type 0)
    → ℕ → State → Files → List (List ℕ) → List (Effect State) → Type 0
LinesMean Means number state files [] effects = effects ≡ []
LinesMean {State} Means number state files (line ∷ lines) effects =
    (first : Effect State) × (rest : List (Effect State)) × (effects ≡ first ∷ rest)
    × Means number state files line first
    × LinesMean Means (number + 1) first.state (with_stores files first.stores) lines rest

-- What a line does outside: the lines that it adds to the report, the files that it stores in order, and the names of the files
-- that it fetches.
pub record Act : Type 0 where
  pub lines : List ReportLine
  pub stores : List Store
  pub fetched : List (List ℕ)

-- what effects are outside
abbrev pub acts_of : {State : Type 0} → List (Effect State) → List Act
acts_of effects = map (λ effect. record { lines = effect.lines; stores = effect.stores; fetched = effect.fetched }) effects

-- the lines of the report, the files that are stored, and the names that are fetched, each in their order
abbrev pub lines_in : List Act → List ReportLine
lines_in acts = flat_map (λ act. act.lines) acts

abbrev pub stores_in : List Act → List Store
stores_in acts = flat_map (λ act. act.stores) acts

abbrev pub fetched_in : List Act → List (List ℕ)
fetched_in acts = flat_map (λ act. act.fetched) acts

-- what each line is answered, in their order
abbrev pub answers_in : List Act → List (List ReportLine)
answers_in acts = map (λ act. act.lines) acts

-- A session: what each line of its script does outside, and how it ends.
pub record WholeSession (Status : Type 0) : Type 0 where
  pub acts : List Act
  pub status : Status

-- A script of these lines does this outside, from this state and over these files.
abbrev pub ScriptActs : {State : Type 0} → (ℕ → State → Files → List ℕ → Effect State → Type 0)
    → State → Files → List (List ℕ) → List Act → Type 0
ScriptActs {State} Means state files lines acts =
    (effects : List (Effect State)) × LinesMean Means 1 state files lines effects × (acts ≡ acts_of effects)

-- A sound session is in the state.
abbrev pub IsSoundState : {Self State : Type 0} → (Self → State) → (Self → Type 0) → State → Type 0
IsSoundState {Self} state_of IsSound state = (session : Self) × IsSound session × (state_of session ≡ state)

-- the meaning of a line where sound sessions are in the states before it and after it
abbrev pub MeansInSound : {Self State : Type 0} → (Self → State) → (Self → Type 0) → (ℕ → State → Files → List ℕ → Effect State → Type 0)
    → ℕ → State → Files → List ℕ → Effect State → Type 0
MeansInSound state_of IsSound Means number state files line effect =
    IsSoundState state_of IsSound state × IsSoundState state_of IsSound effect.state × Means number state files line effect

-- What a line is seen to do is all that it can mean.
abbrev pub HasOneEffect : {State : Type 0} → (Seen Means : ℕ → State → Files → List ℕ → Effect State → Type 0) → Type 0
HasOneEffect {State} Seen Means =
    (number : ℕ) (state : State) (files : Files) (line : List ℕ) (effect other : Effect State)
    → Seen number state files line effect → Means number state files line other → effect ≡ other
