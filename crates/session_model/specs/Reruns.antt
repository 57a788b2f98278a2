-- What a session rests on: the files that it fetches. So a run that was cut short can be made good by another.
use Rattle.std.specs.Prelude.{◌≡◌, ℕ, Bool, true, List, Contains, map}
use Rattle.outside_io.specs.Files.{Files}
use Rattle.session_model.specs.declared.answer.Store.{Store}
use Rattle.session_model.specs.Effects.{Effect, with_stores}
use Rattle.session_model.specs.Fetches.{AgreeOn}
use Rattle.session_model.specs.Progress.{IsCutShort, StoresSome}
use Rattle.session_model.specs.Scripts.{Act, ScriptActs, fetched_in, stores_in}

-- What a line does rests on no files but those that it fetches: over others that agree with them on these, it does the same.
abbrev pub RestsOnFetched : {State : Type 0} → (ℕ → State → Files → List ℕ → Effect State → Type 0) → Type 0
RestsOnFetched {State} Means =
    (number : ℕ) (state : State) (files others : Files) (line : List ℕ) (effect : Effect State)
    → Means number state files line effect → AgreeOn effect.fetched files others → Means number state others line effect

-- the names under which these are stored
abbrev pub names_stored : List Store → List (List ℕ)
names_stored stores = map (λ store. store.name) stores

-- none of the names that these acts fetch is one that they store
abbrev pub FetchesNoneStored : List Act → Type 0
FetchesNoneStored acts = (name : List ℕ) → Contains (fetched_in acts) name → Contains (names_stored (stores_in acts)) name → ⊥

-- A session that fetches no name that it stores is the same one over the files that are left after a first few of its stores, with any
-- bytes, or none, under the name of the next. It then leaves the files that it leaves from the start.
abbrev pub IsMadeGood : {State : Type 0} → (ℕ → State → Files → List ℕ → Effect State → Type 0) → Type 0
IsMadeGood {State} Means =
    (first : State) (files after : Files) (lines : List (List ℕ)) (acts : List Act)
    → ScriptActs Means first files lines acts → FetchesNoneStored acts → StoresSome (Unit {0}) files (stores_in acts) after
    → ScriptActs Means first after lines acts × (with_stores after (stores_in acts) ≡ with_stores files (stores_in acts))

-- So over the files that a run left which was cut short, the session is the same one.
abbrev pub IsMadeGoodAgain : {State : Type 0} → (ℕ → State → Files → List ℕ → Effect State → Type 0) → Type 0
IsMadeGoodAgain {State} Means =
    (first : State) (files after : Files) (lines : List (List ℕ)) (acts : List Act) (quiet failed : Bool) (reported : List ℕ)
    → ScriptActs Means first files lines acts → FetchesNoneStored acts → IsCutShort quiet (failed ≡ true) files acts reported after
    → ScriptActs Means first after lines acts × (with_stores after (stores_in acts) ≡ with_stores files (stores_in acts))
