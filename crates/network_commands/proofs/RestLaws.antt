-- What `simrun` does rests on the files alone that it fetches.
use Rattle.network_commands.proofs.Common.{◌≡◌, ◌∙◌, ℕ, List, [], ◌∷◌, ◌++◌, inl, inr, refl, sym, ap, subst, arith, Files, At, FetchFault, text_in}
use Rattle.network_commands.proofs.Common.{SimFile, sim_in, Network, RunsRead, RunsRecords, RunsSource, RunsVectors, SimrunMeans, sim_file, vec_file}
use Rattle.std.specs.Prelude.{Contains, Result, Ok, Err}
use Rattle.std.proofs.lemmas.List.Elements.{Contains-append_right}
use Rattle.session_model.specs.Fetches.{AgreeOn}
use Rattle.session_model.proofs.FetchLaws.{text_same}
use Rattle.sim_text.specs.declared.faults.SimFault.{SimFault}
use Rattle.line_answers.specs.LineEffects.{FreeEffect}

-- the last of these names is one of them
last_there : (fetched : List (List ℕ)) (file : List ℕ) → Contains (fetched ++ file ∷ []) file
last_there fetched file = Contains-append_right fetched (file ∷ []) file (0, omega arith, refl)

-- ---- the vector file

-- it was fetched, whatever came of it
vectors_fetched : (budget number : ℕ) (text : Result (List ℕ) FetchFault) (file : List ℕ) (net : Network) (names : List (List ℕ × ℕ))
    (fetched : List (List ℕ)) (effect : FreeEffect) → RunsVectors budget number text file net names fetched effect
    → effect.fetched ≡ fetched ++ file ∷ []
vectors_fetched budget number (Ok text) file net names fetched effect runs = ap (λ (e : FreeEffect). e.fetched) runs.is
vectors_fetched budget number (Err fault) file net names fetched effect is = ap (λ (e : FreeEffect). e.fetched) is

records_rest : (budget number : ℕ) (files others : Files) (sim : SimFile) (file : List ℕ) (fetched : List (List ℕ)) (effect : FreeEffect)
    → RunsRecords budget number files sim file fetched effect → AgreeOn effect.fetched files others
    → RunsRecords budget number others sim file fetched effect
records_rest budget number files others sim file fetched effect (inl refuses) agree = inl refuses
records_rest budget number files others sim file fetched effect (inr runs) agree =
    let names = vectors_fetched budget number (text_in files file) file runs.net runs.names fetched effect runs.runs in
    let here = subst (λ (all : List (List ℕ)). AgreeOn all files others) names agree in
    let same = text_same files others file (here file (last_there fetched file)) in
    inr (record {
      net = runs.net;
      names = runs.names;
      is_net = runs.is_net;
      runs = subst (λ (text : Result (List ℕ) FetchFault). RunsVectors budget number text file runs.net runs.names fetched effect) (sym same) runs.runs;
    })

read_rest : (budget number : ℕ) (files others : Files) (source : List ℕ) (read : Result SimFile (At SimFault)) (file : List ℕ) (effect : FreeEffect)
    → RunsRead budget number files source read file effect → AgreeOn effect.fetched files others
    → RunsRead budget number others source read file effect
read_rest budget number files others source (Ok sim) file effect runs agree =
    records_rest budget number files others sim file (source ∷ []) effect runs agree
read_rest budget number files others source (Err at) file effect is agree = is

source_rest : (budget number : ℕ) (files others : Files) (source : List ℕ) (text : Result (List ℕ) FetchFault) (file : List ℕ) (effect : FreeEffect)
    → RunsSource budget number files source text file effect → AgreeOn effect.fetched files others
    → RunsSource budget number others source text file effect
source_rest budget number files others source (Ok text) file effect runs agree =
    read_rest budget number files others source (sim_in text) file effect runs agree
source_rest budget number files others source (Err fault) file effect is agree = is

-- ---- the sim file

-- it was fetched, whatever came of it
records_fetched : (budget number : ℕ) (files : Files) (sim : SimFile) (file source : List ℕ) (effect : FreeEffect)
    → RunsRecords budget number files sim file (source ∷ []) effect → Contains effect.fetched source
records_fetched budget number files sim file source effect (inl refuses) =
    subst (λ (all : List (List ℕ)). Contains all source) (sym (ap (λ (e : FreeEffect). e.fetched) refuses.is)) (0, omega arith, refl)
records_fetched budget number files sim file source effect (inr runs) =
    subst (λ (all : List (List ℕ)). Contains all source)
    (sym (vectors_fetched budget number (text_in files file) file runs.net runs.names (source ∷ []) effect runs.runs)) (0, omega arith, refl)

read_fetched : (budget number : ℕ) (files : Files) (source : List ℕ) (read : Result SimFile (At SimFault)) (file : List ℕ) (effect : FreeEffect)
    → RunsRead budget number files source read file effect → Contains effect.fetched source
read_fetched budget number files source (Ok sim) file effect runs = records_fetched budget number files sim file source effect runs
read_fetched budget number files source (Err at) file effect is =
    subst (λ (all : List (List ℕ)). Contains all source) (sym (ap (λ (e : FreeEffect). e.fetched) is)) (0, omega arith, refl)

source_fetched : (budget number : ℕ) (files : Files) (source : List ℕ) (text : Result (List ℕ) FetchFault) (file : List ℕ) (effect : FreeEffect)
    → RunsSource budget number files source text file effect → Contains effect.fetched source
source_fetched budget number files source (Ok text) file effect runs = read_fetched budget number files source (sim_in text) file effect runs
source_fetched budget number files source (Err fault) file effect is =
    subst (λ (all : List (List ℕ)). Contains all source) (sym (ap (λ (e : FreeEffect). e.fetched) is)) (0, omega arith, refl)

pub simrun_rests : (budget number : ℕ) (files others : Files) (name file : List ℕ) (effect : FreeEffect)
    → SimrunMeans budget number files name file effect → AgreeOn effect.fetched files others → SimrunMeans budget number others name file effect
simrun_rests budget number files others name file effect means agree =
    let source = sim_file name in
    let there = source_fetched budget number files source (text_in files source) (vec_file file) effect means in
    let same = text_same files others source (agree source there) in
    source_rest budget number files others source (text_in others source) (vec_file file) effect
    (subst (λ (text : Result (List ℕ) FetchFault). RunsSource budget number files source text (vec_file file) effect) (sym same) means) agree
