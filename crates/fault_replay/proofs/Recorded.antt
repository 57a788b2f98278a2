-- Runs that are recorded.
use Rattle.fault_replay.proofs.Common.{◌≡◌, ℕ, ◌<◌, List, [], ◌∷◌, ◌++◌, true, false, refl, sym, ap, subst, ◌∙◌, length, arith, slice_set, All, None}
use Rattle.fault_replay.proofs.Common.{false≢true, NodeSet, Level, IsSound, Network, is_input, state_of, IsInside, IsStep, IsStorage, AreSteady}
use Rattle.fault_replay.proofs.Common.{VecLine, Set, Free, Size, Phase, Show, with_input, with_size, changed, taken_from, Follows, IsQuietBut}
use Rattle.fault_replay.proofs.Common.{Records, StepsBy, listed}
use Rattle.steady_state.specs.Marked.{IsGated, IsNear, IsQuiet}
use Rattle.steady_state.proofs.Moving.{all_quiet, part_steps, quiet_next}
use Rattle.fault_replay.proofs.Beside.{each_inside, is_inside, is_listed}
use Rattle.fault_replay.proofs.ChangedStates.{changed-length, changed_of, taken_here, taken_other}

-- ---- steps

-- one step more
pub steps_by_more : (net : Network) (s t : List Level) (steps : List (List (ℕ × Level))) (changes : List (ℕ × Level)) → StepsBy net s steps t
    → IsStep net t (changed changes t) → StepsBy net s (steps ++ changes ∷ []) (changed changes t)
steps_by_more net s t [] changes by step =
    (subst (λ (x : List Level). IsStep net x (changed changes x)) by step, ap (changed changes) by)
steps_by_more net s t (first ∷ steps) changes by step = (by.0, steps_by_more net (changed first s) t steps changes by.1 step)

-- an input keeps its state over steps
pub steps_by_keep : (net : Network) (v : ℕ) → v < net.nodes → is_input net v ≡ true → (s t : List Level) (steps : List (List (ℕ × Level)))
    → StepsBy net s steps t → state_of t v ≡ state_of s v
steps_by_keep net v below input s t [] by = ap (λ (x : List Level). state_of x v) by
steps_by_keep net v below input s t (changes ∷ steps) by =
    steps_by_keep net v below input (changed changes s) t steps by.1 ∙ (by.0.each v below).input input

module _ (net : Network) (sound : IsSound net) (s : List Level) (moved marks : NodeSet) (next : List Level) (len : length s ≡ net.nodes)
    (near : IsNear net s (listed moved) None marks.inside) where
  -- where all else is quiet, the marked nodes that take their steady values make a step
  pub near_step : IsQuiet net s marks.inside → AreSteady net s marks.inside next → IsStep net s (changed (taken_from next (listed marks)) s)
  near_step quiet steady =
      part_steps net s (changed (taken_from next (listed marks)) s) marks.inside marks.inside sound (changed-length (taken_from next (listed marks)) s) quiet
      (λ v ins. ins) (λ n p ins chain. near.closed n _ ins (record { chain = p; is_chain = chain; ends = refl })) near.storage
      (λ v ins. rw (taken_here next (listed marks) s v (is_listed marks v ins) (omega (arith, (near.storage v ins).0, len))) (steady v ins))
      (λ v out. taken_other next (listed marks) s v (λ stands. false≢true (sym out ∙ is_inside marks v stands)))

-- behind a step all is quiet that is not near what it changed
pub quiet_behind : (net : Network) (s : List Level) (changes : List (ℕ × Level)) (moved : NodeSet) → IsSound net → IsStep net s (changed changes s)
    → All (λ change. IsInside moved.inside change.0) changes → IsQuietBut net (changed changes s) (listed moved)
quiet_behind net s changes moved sound step told inside near =
    quiet_next net s (changed changes s) inside sound step
    (λ v differ. each_inside moved (λ u. IsStorage net u → IsInside inside u) near.listed v (changed_of (IsInside moved.inside) changes s v told differ))
    (λ v differ. each_inside moved (IsGated net inside) near.gated v (changed_of (IsInside moved.inside) changes s v told differ))

-- near all nodes, all nodes are marked
pub quiet_first : (net : Network) (s : List Level) (all : NodeSet) → ((v : ℕ) → v < net.nodes → IsInside all.inside v) → IsQuietBut net s (listed all)
quiet_first net s all every inside near =
    all_quiet net s inside (λ v st. each_inside all (λ u. IsStorage net u → IsInside inside u) near.listed v (every v st.0) st)

-- ---- lines

-- where nothing is recorded, a line needs nothing
follows_none : (budget : ℕ) (net : Network) (s : List Level) (line : VecLine) (lines : List (ℕ × VecLine))
    → ((new : Network) (t : List Level) → Records budget new t lines []) → Follows budget net s line [] (λ new t later. Records budget new t lines later)
follows_none budget net s (Set v x) lines rest = rest (with_input net v true) (slice_set s v x)
follows_none budget net s (Free v) lines rest = rest (with_input net v false) s
follows_none budget net s (Size v k) lines rest = rest (with_size net v k) s
follows_none budget net s Phase lines rest = tt
follows_none budget net s (Show asked) lines rest = rest net s

-- so a record may end anywhere
pub none_recorded : (budget : ℕ) (net : Network) (s : List Level) (lines : List (ℕ × VecLine)) → Records budget net s lines []
none_recorded budget net s [] = tt
none_recorded budget net s (line ∷ lines) = follows_none budget net s line.1 lines (λ new t. none_recorded budget new t lines)
