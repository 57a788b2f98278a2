-- What lines leave of a network that rests.
use Rattle.vector_runs.proofs.Common.{◌≡◌, ℕ, ◌<◌, List, [], Bool, true, sym, ap, subst, ◌∙◌, All, Net, Level, network_of, Network, is_input}
use Rattle.vector_runs.proofs.Common.{IsPhase, sound_of, with_input}
use Rattle.std.proofs.Common.{Option, Some, None, slice_set}
use Rattle.std.specs.Prelude.{IfSome, Vec}
use Rattle.std.proofs.lemmas.List.{set-get_or}
use Rattle.std.proofs.lemmas.List.Elements.{All-nil, All-push}
use Rattle.std.specs.Global.{Global}
use Rattle.steady_state.specs.Marked.{IsRestedBut}
use Rattle.steady_state.proofs.Resting.{rested, rested_more}
use Rattle.vector_runs.specs.Running.{AreTouchedAfter}

-- the network rests but for these nodes, where they are told
abbrev pub RestsBut : Network → List Level → Option (Vec ℕ Global) → Type 0
RestsBut net states touched = IfSome touched (λ nodes. All (λ (v : ℕ). v < net.nodes) nodes.items × IsRestedBut net states nodes.items)

-- to set an input leaves the network as it is
set_again : (net : Network) (node : ℕ) → is_input net node ≡ true → with_input net node true ≡ net
set_again net node input =
    let same : slice_set net.inputs node true ≡ net.inputs =
    ap (slice_set net.inputs node) (sym input) ∙ set-get_or net.inputs node _ in
    ap (λ (inputs : List Bool). record net { inputs = inputs }) same

-- an input was set
pub set_rests : (net new : Net) (states : List Level) (node : ℕ) (x : Level) (was_input : Bool) (touched after : Option (Vec ℕ Global)) → node < net.nodes
    → was_input ≡ is_input (network_of net) node → RestsBut (network_of net) states touched → IfSome after (AreTouchedAfter touched was_input node)
    → network_of new ≡ with_input (network_of net) node true → RestsBut (network_of new) (slice_set states node x) after
set_rests net new states node x was_input touched None below was rests told is = tt
set_rests net new states node x was_input None (Some nodes) below was rests told is = absurd told.1
set_rests net new states node x was_input (Some before) (Some nodes) below was rests told is =
    let input : is_input (network_of net) node ≡ true = sym was ∙ told.0 in
    let same : network_of net ≡ network_of new = sym (is ∙ set_again (network_of net) node input) in
    let more = rested_more (network_of net) states before.items node x (sound_of net) input rests.1 in
    subst (λ (one : Network). All (λ (v : ℕ). v < one.nodes) nodes.items × IsRestedBut one (slice_set states node x) nodes.items) same (
      subst (λ (all : List ℕ). All (λ (v : ℕ). v < net.nodes) all) (sym told.1) (All-push (λ (v : ℕ). v < net.nodes) before.items node rests.0 below),
      subst (IsRestedBut (network_of net) (slice_set states node x)) (sym told.1) more,
    )

-- a phase has settled
pub phase_rests : (net new : Net) (budget : ℕ) (old states : List Level) (done : Bool) (steps : ℕ) → done ≡ true
    → IsPhase (network_of net) budget old done steps states → network_of new ≡ network_of net → IsRestedBut (network_of new) states []
phase_rests net new budget old states done steps settled phase same =
    let ends = subst (λ (d : Bool). IsPhase (network_of net) budget old d steps states) settled phase in
    subst (λ (one : Network). IsRestedBut one states []) (sym same) (rested (network_of net) states ends.0.rests)

-- so it rests but for no nodes, where these are told
pub phase_touches_none : (net new : Net) (budget : ℕ) (old states : List Level) (done : Bool) (steps : ℕ) (after : Option (Vec ℕ Global))
    → IsPhase (network_of net) budget old done steps states → network_of new ≡ network_of net
    → IfSome after (λ nodes. (done ≡ true) × (nodes.items ≡ [])) → RestsBut (network_of new) states after
phase_touches_none net new budget old states done steps None phase same told = tt
phase_touches_none net new budget old states done steps (Some nodes) phase same told =
    subst (λ (all : List ℕ). All (λ (v : ℕ). v < new.nodes) all × IsRestedBut (network_of new) states all) (sym told.1)
    (All-nil (λ (v : ℕ). v < new.nodes), phase_rests net new budget old states done steps told.0 phase same)
