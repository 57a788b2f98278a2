-- A run of lines, cut in two; what lines leave as it is, and the states that a settled phase leaves.
use Rattle.vector_runs.proofs.Common.{◌≡◌, ℕ, suc, ◌<◌, List, [], ◌∷◌, ◌++◌, Bool, true, false, refl, sym, ap, subst, ◌∙◌, arith, append_assoc}
use Rattle.vector_runs.proofs.Common.{replicate, All, All-head, All-tail, Level, Network, is_input, state_of, IsPhase, VecLine, Set, Free, Size}
use Rattle.vector_runs.proofs.Common.{Phase, Show, VecReply, LineRuns, LinesRun, RunsPhase, Standing, phase_reply}
use Rattle.std.proofs.Common.{zero}
use Rattle.switch_net.specs.Phase.{Steps}
use Rattle.switch_net.specs.Steady.{IsStep}
use Rattle.switch_net.proofs.Forcing.{rounds_keep}
use Rattle.vector_runs.specs.declared.replies.VecReply.TheVariants.{Settled}
use Rattle.vector_runs.specs.Laws.{IsAtRest, IsShow, RunsBoth}

-- a run of two lists of lines is one of the first and then one of the second
pub split_run : (budget : ℕ) (lines others : List VecLine) (old new : Standing) (told : List VecReply) →
    LinesRun budget old (lines ++ others) new told → RunsBoth budget old lines others new told
split_run budget [] others old new told runs = record {
  between = old;
  first = [];
  second = told;
  runs_first = (refl, refl);
  runs_second = runs;
  replied = refl;
}
split_run budget (line ∷ lines) others old new told runs =
    let rest = split_run budget lines others runs.between new runs.others runs.rest in
    record {
      between = rest.between;
      first = runs.first ++ rest.first;
      second = rest.second;
      runs_first = record {
        between = runs.between;
        first = runs.first;
        others = rest.first;
        runs = runs.runs;
        rest = rest.runs_first;
        replied = refl;
      };
      runs_second = rest.runs_second;
      replied = runs.replied ∙ ap (λ (more : List VecReply). runs.first ++ more) rest.replied
          ∙ sym (append_assoc runs.first rest.first rest.second);
    }

-- a line leaves a network its nodes and its switches
line_keeps : (budget : ℕ) (line : VecLine) (old new : Standing) (told : List VecReply) → LineRuns budget old line new told →
    (new.net.nodes ≡ old.net.nodes) × (new.net.switches ≡ old.net.switches)
line_keeps budget (Set v x) old new told runs =
    (ap (λ (at : Standing). at.net.nodes) runs.0, ap (λ (at : Standing). at.net.switches) runs.0)
line_keeps budget (Free v) old new told runs =
    (ap (λ (at : Standing). at.net.nodes) runs.0, ap (λ (at : Standing). at.net.switches) runs.0)
line_keeps budget (Size v k) old new told runs =
    (ap (λ (at : Standing). at.net.nodes) runs.0, ap (λ (at : Standing). at.net.switches) runs.0)
line_keeps budget Phase old new told runs =
    (ap (λ (net : Network). net.nodes) runs.same_net, ap (λ (net : Network). net.switches) runs.same_net)
line_keeps budget (Show asked) old new told runs =
    (ap (λ (at : Standing). at.net.nodes) runs.0, ap (λ (at : Standing). at.net.switches) runs.0)

-- and so do several
pub lines_keep : (budget : ℕ) (lines : List VecLine) (old new : Standing) (told : List VecReply) → LinesRun budget old lines new told →
    (new.net.nodes ≡ old.net.nodes) × (new.net.switches ≡ old.net.switches)
lines_keep budget [] old new told runs =
    (ap (λ (at : Standing). at.net.nodes) runs.0, ap (λ (at : Standing). at.net.switches) runs.0)
lines_keep budget (line ∷ lines) old new told runs =
    let first = line_keeps budget line old runs.between runs.first runs.runs in
    let rest = lines_keep budget lines runs.between new runs.others runs.rest in
    (rest.0 ∙ first.0, rest.1 ∙ first.1)

-- a line that only asks for states changes nothing
show_keeps : (budget : ℕ) (line : VecLine) (old new : Standing) (told : List VecReply) → IsShow line → LineRuns budget old line new told →
    new ≡ old
show_keeps budget (Set v x) old new told shows runs = absurd shows
show_keeps budget (Free v) old new told shows runs = absurd shows
show_keeps budget (Size v k) old new told shows runs = absurd shows
show_keeps budget Phase old new told shows runs = absurd shows
show_keeps budget (Show asked) old new told shows runs = runs.0

-- and so do several
pub shows_keep : (budget : ℕ) (lines : List VecLine) (old new : Standing) (told : List VecReply) → All IsShow lines →
    LinesRun budget old lines new told → new ≡ old
shows_keep budget [] old new told shows runs = runs.0
shows_keep budget (line ∷ lines) old new told shows runs =
    shows_keep budget lines runs.between new runs.others (All-tail IsShow line lines shows) runs.rest
    ∙ show_keeps budget line old runs.between runs.first (All-head IsShow line lines shows) runs.runs

-- lists of one reply that are one have one reply
head_is : {a b : VecReply} → (a ∷ []) ≡ (b ∷ []) → a ≡ b
head_is same = cc

-- a phase of which it is told that it settled ends in states that a step leaves as they are
rests_where_told : (net : Network) (budget : ℕ) (s t : List Level) (done : Bool) (n phases number steps : ℕ) →
    IsPhase net budget s done n t → phase_reply phases done n ≡ Settled number steps → IsStep net t t
rests_where_told net budget s t true n phases number steps ran is = ran.0.rests
rests_where_told net budget s t false n phases number steps ran is = absurd (cc)

-- a node is at rest in states that a step leaves as they are
at_rest_where_stepped : (net : Network) (at : Standing) (v : ℕ) → at.net ≡ net → IsStep net at.states at.states → v < net.nodes →
    IsAtRest at v
at_rest_where_stepped net at v same step below =
    let own : IsStep at.net at.states at.states = subst (λ (net : Network). IsStep net at.states at.states) (sym same) step in
    let within : v < at.net.nodes = subst (λ (net : Network). v < net.nodes) (sym same) below in
    λ storage. (own.each v within).storage storage

-- behind a settled phase, as long as lines only show, each node is at rest
pub settled_rests : (budget number steps : ℕ) (old settled at : Standing) (since : List VecLine) (told : List VecReply)
    → RunsPhase budget old settled (Settled number steps ∷ []) → LinesRun budget settled since at told → All IsShow since
    → (v : ℕ) → v < at.net.nodes → IsAtRest at v
settled_rests budget number steps old settled at since told phase runs shows v below =
    let kept : at ≡ settled = shows_keep budget since settled at told shows runs in
    let reply : phase_reply settled.phases phase.done phase.steps ≡ Settled number steps = head_is (sym phase.replied) in
    let step = rests_where_told old.net budget old.states settled.states phase.done phase.steps settled.phases number steps phase.is_phase reply in
    let within : v < settled.net.nodes = subst (λ (one : Standing). v < one.net.nodes) kept below in
    let nodes : settled.net.nodes ≡ old.net.nodes = ap (λ (net : Network). net.nodes) phase.same_net in
    let rests = at_rest_where_stepped old.net settled v phase.same_net step (omega (arith, within, nodes)) in
    subst (λ (one : Standing). IsAtRest one v) (sym kept) rests

module _ (net : Network) (v : ℕ) (within : v < net.nodes) (input : is_input net v ≡ true) where
  -- an input keeps its state over steps
  steps_keep : (n : ℕ) (s t : List Level) → Steps net n s t → state_of t v ≡ state_of s v
  steps_keep zero s t same = ap (λ (states : List Level). state_of states v) (sym same)
  steps_keep (suc n) s t steps = (steps.2.each v within).input input ∙ steps_keep n s steps.0 steps.1

  -- and so over a phase
  pub phase_keeps : (budget : ℕ) (s t : List Level) (done : Bool) (n : ℕ) → IsPhase net budget s done n t → state_of t v ≡ state_of s v
  phase_keeps budget s t true n phase = steps_keep n s t phase.0.reached
  phase_keeps budget s t false n phase =
      let forced = phase.2.forced in
      rounds_keep net phase.1 (replicate net.nodes false) forced.forced phase.2.last t v input forced.reached
      ∙ steps_keep budget s phase.2.last phase.2.reached
