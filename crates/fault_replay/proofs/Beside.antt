-- Steps of two runs beside each other.
use Rattle.fault_replay.proofs.Common.{◌≡◌, ◌≢◌, ℕ, ◌<◌, ◌≤◌, ◌==◌, List, Bool, true, false, inl, inr, refl, sym, ap, subst, ◌∙◌, length, get_or}
use Rattle.fault_replay.proofs.Common.{arith, drop, slice_index, slice_index_or, ◌+◌, All, Some, cases_Bool, cases_eq, cases_lt, eq-eqb, eqb-true}
use Rattle.fault_replay.proofs.Common.{false≢true, In, NodeSet, Level, X, IsSound, Network, is_input, state_of, IsInside, IsStep, IsStorage}
use Rattle.fault_replay.proofs.Common.{input_in_range, level_cases, AreSteady, IsTold, changed, is_copied, taken_from, IsAlong, StepsBy, listed}
use Rattle.std.proofs.Common.{◌⊎◌, get_or-take}
use Rattle.std.specs.Prelude.{Contains, filter}
use Rattle.std.proofs.lemmas.List.{drop_all, drop_more, get_or_past, length-take-le}
use Rattle.finite_sets.proofs.Members.{In-get_or, In-index}
use Rattle.switch_net.specs.declared.switches.Switch.{Switch}
use Rattle.switch_net.specs.Path.{Joins, root_strength}
use Rattle.switch_net.specs.Steady.{IsNextLevel}
use Rattle.switch_net.proofs.Listing.{count-le, inside_range, known}
use Rattle.switch_net.proofs.Vicinities.{chain_from}
use Rattle.steady_state.specs.Marked.{EndsInside, IsGated, IsNear}
use Rattle.replay_laws.specs.Differences.{AreWiredAlike, HoldsDifferences, IsAlike}
use Rattle.replay_laws.proofs.TwoRuns.{far_step}
use Rattle.fault_replay.specs.Changes.{replayed}
use Rattle.fault_replay.proofs.ChangedStates.{changed-length, passed_alike, stopped_same, taken_here, taken_other}

-- ---- sets and their lists

-- so many nodes are listed as the set has
pub listed-length : (set : NodeSet) → length (listed set) ≡ set.count
listed-length set =
    let few = count-le set.inside set.order set.count set.listed in
    length-take-le set.count set.order (omega (arith, few, set.listed.room))

-- a node of the set is listed
pub is_listed : (set : NodeSet) (v : ℕ) → IsInside set.inside v → In v (listed set)
is_listed set v inside =
    let at = known set.inside set.order set.count v set.listed inside in
    let below : at.0 < length (listed set) = omega (arith, at.1, listed-length set) in
    let same : slice_index (listed set) at.0 ≡ v = get_or-take set.count set.order at.0 0 at.1 ∙ at.2 in
    subst (λ (u : ℕ). In u (listed set)) same (In-get_or (listed set) at.0 0 below)

-- a listed node is one of the set
pub is_inside : (set : NodeSet) (v : ℕ) → In v (listed set) → IsInside set.inside v
is_inside set v stands =
    let at = In-index v (listed set) stands in
    let below : at.0 < set.count = omega (arith, at.1.0, listed-length set) in
    let same : slice_index set.order at.0 ≡ v = sym (get_or-take set.count set.order at.0 0 below) ∙ at.1.1 0 in
    subst (IsInside set.inside) same (set.listed.listed at.0 below)

-- a fact of each listed node holds of each node of the set
pub each_inside : (set : NodeSet) (P : ℕ → Type 0) → ((i : ℕ) → i < length (listed set) → P (slice_index (listed set) i)) → (v : ℕ)
    → IsInside set.inside v → P v
each_inside set P each v inside =
    let at = In-index v (listed set) (is_listed set v inside) in
    subst P (at.1.1 0) (each at.0 at.1.0)

-- the same where the list is known to be this
pub each_of : (set : NodeSet) (nodes : List ℕ) (P : ℕ → Type 0) → nodes ≡ listed set → ((i : ℕ) → i < length nodes → P (slice_index nodes i)) → (v : ℕ)
    → IsInside set.inside v → P v
each_of set nodes P is each =
    each_inside set P (subst (λ (all : List ℕ). (i : ℕ) → i < length all → P (slice_index all i)) is each)

-- the listed nodes are among as many as have marks
pub listed_below : (set : NodeSet) (nodes : List ℕ) (n : ℕ) → nodes ≡ listed set → length set.inside ≡ n → All (λ v. v < n) nodes
listed_below set nodes n is fits = subst (All (λ (v : ℕ). v < n)) (sym is) (λ k d lt.
    let below = inside_range set.inside (slice_index_or (listed set) k d) (is_inside set (slice_index_or (listed set) k d) (In-get_or (listed set) k d lt)) in
    omega (arith, below, fits))

-- ---- a step beside another

-- an end of a switch
end_inside : (net : Network) (inside : List Bool) (w : Switch) (a b : ℕ) → Joins w a b → EndsInside net inside w → IsStorage net b → IsInside inside b
end_inside net inside w a b (inl (p, q)) ends st = subst (IsInside inside) q (ends.1 (subst (IsStorage net) (sym q) st))
end_inside net inside w a b (inr (p, q)) ends st = subst (IsInside inside) q (ends.0 (subst (IsStorage net) (sym q) st))

module _ (good net : Network) (held : ℕ) (s t : List Level) (differing : NodeSet) (inside : List Bool) (sound : IsSound net)
    (along : IsAlong good net held s t differing.inside) (near : IsNear net t (listed differing) (Some held) inside) where
  -- but for the held node, a node that is not alike has two states
  two_states : (v : ℕ) → v ≢ held → ¬ (IsAlike good net s t v) → state_of s v ≢ state_of t v
  two_states v ne not_alike same =
      let input = along.alike.inputs v ne in
      let size = along.alike.sizes v ne in
      let root : root_strength good v ≡ root_strength net v = rw (input, size) refl in
      not_alike (record { state = same; root = root })

  -- a storage node that differs is marked
  marked : (v : ℕ) → state_of s v ≢ state_of t v → IsStorage net v → IsInside inside v
  marked v ne = each_inside differing (λ u. IsStorage net u → IsInside inside u) near.listed v (along.covers v ne)

  -- the marked nodes hold the seeds of what differs, where these store charge
  seeds : HoldsDifferences good net s t (λ v. IsStorage net v → IsInside inside v)
  seeds = record {
    own = λ v not_alike st. elim (cases_eq v held) [
      | inl e ↦ (let out : is_input net held ≡ false = subst (λ (u : ℕ). is_input net u ≡ false) e st.1 in absurd (false≢true (sym out ∙ along.is_held)))
      | inr ne ↦ marked v (two_states v ne not_alike) st
    ];
    gated = λ w a b stands j ne st. (
        let c : Contains net.switches w = subst (λ (all : List Switch). Contains all w) (sym along.alike.switches) stands in
        let gated = each_inside differing (IsGated net inside) near.gated w.gate (along.covers w.gate ne) in
        let ends = gated c.0 w c.1 (rw c.2 refl) in
        end_inside net inside w a b j (rw c.2 at ends) st);
    beside = λ w a b stands j input not_alike st. elim (cases_eq a held) [
      | inl e ↦ beside_held w b (subst (λ (all : List Switch). Contains all w) (sym along.alike.switches) stands) (subst (λ (u : ℕ). Joins w u b) e j) st
      | inr ne ↦ absurd (two_states a ne not_alike (along.inputs a ne input))
    ];
  }
    where
      beside_held : (w : Switch) (b : ℕ) → Contains net.switches w → Joins w held b → IsStorage net b → IsInside inside b
      beside_held w b c (inl (p, q)) st =
          let ends = near.beside.0 c.0 w c.1 (rw c.2 p) in
          end_inside net inside w held b (inl (p, q)) (rw c.2 at ends) st
      beside_held w b c (inr (p, q)) st =
          let ends = near.beside.1 c.0 w c.1 (rw c.2 p) in
          end_inside net inside w held b (inr (p, q)) (rw c.2 at ends) st

  -- the marked nodes are neither held nor inputs
  input_outside : (v : ℕ) → is_input net v ≡ true → slice_index_or inside v false ≡ false
  input_outside v input = elim (cases_Bool (slice_index_or inside v false)) [
    | inl ins ↦ absurd (false≢true (sym (near.storage v ins).1 ∙ input))
    | inr out ↦ out
  ]

  -- an unmarked node that is not held has one state in both
  one_state : (v : ℕ) → v ≢ held → slice_index_or inside v false ≡ false → state_of t v ≡ state_of s v
  one_state v ne out = elim (level_cases (state_of s v) (state_of t v)) [
    | inl same ↦ sym same
    | inr differ ↦ elim (cases_lt v net.nodes) [
      | inr past ↦ absurd (differ (get_or_past s v X (omega (arith, past, along.good_states)) ∙ sym (get_or_past t v X (omega (arith, past, along.states)))))
      | inl below ↦ elim (cases_Bool (is_input net v)) [
        | inl input ↦ absurd (differ (along.inputs v ne input))
        | inr st ↦ absurd (false≢true (sym out ∙ marked v differ (below, st)))
      ]
    ]
  ]

  module _ (s' t' : List Level) (step : IsStep good s s') (len : length t' ≡ length t) (steady : AreSteady net t inside t')
      (kept : state_of t' held ≡ state_of t held)
      (copied : (v : ℕ) → v ≢ held → slice_index_or inside v false ≡ false → state_of t v ≡ state_of s v → state_of t' v ≡ state_of s' v) where
    -- an unmarked node that is not held becomes the same in both
    same_next : (v : ℕ) → v ≢ held → slice_index_or inside v false ≡ false → state_of t' v ≡ state_of s' v
    same_next v ne out = copied v ne out (one_state v ne out)

    -- an input of the run without the fault keeps its state there
    good_input : (v : ℕ) → v < net.nodes → v ≢ held → is_input net v ≡ true → state_of s' v ≡ state_of s v
    good_input v below ne input =
        let there : v < good.nodes = omega (arith, below, along.alike.nodes) in
        (step.each v there).input (along.alike.inputs v ne ∙ input)

    -- an input keeps its state
    input_kept : (v : ℕ) → v < net.nodes → is_input net v ≡ true → state_of t' v ≡ state_of t v
    input_kept v below input = elim (cases_eq v held) [
      | inl e ↦ rw e kept
      | inr ne ↦ same_next v ne (input_outside v input) ∙ good_input v below ne input ∙ along.inputs v ne input
    ]

    -- an unmarked storage node takes the step of the run without the fault
    far_next : (v : ℕ) → IsStorage net v → slice_index_or inside v false ≡ false → IsNextLevel net t v (state_of t' v)
    far_next v st out =
        let ne : v ≢ held = λ e. (let f : is_input net held ≡ false = subst (λ (u : ℕ). is_input net u ≡ false) e st.1 in false≢true (sym f ∙ along.is_held)) in
        let there : v < good.nodes = omega (arith, st.0, along.alike.nodes) in
        let wired : AreWiredAlike good net = record { nodes = along.alike.nodes; switches = along.alike.switches } in
        let far = far_step good net s t (λ u. IsStorage net u → IsInside inside u) v (state_of s' v) along.sound sound wired seeds st
        (λ m seed i. false≢true (sym out ∙ near.closed m v (seed (chain_from net t m i.chain i.is_chain)) i)) (step.each v there) in
        subst (IsNextLevel net t v) (sym (same_next v ne out)) far

    -- so this is a step
    pub is_step : IsStep net t t'
    is_step = record {
      same_length = len;
      each = λ v below. elim (cases_Bool (is_input net v)) [
        | inl input ↦ record { input = λ e. input_kept v below input; storage = λ e. absurd (false≢true (sym e ∙ input)) }
        | inr st ↦ elim (cases_Bool (slice_index_or inside v false)) [
          | inl ins ↦ record { input = λ e. absurd (false≢true (sym st ∙ e)); storage = λ e. steady v ins }
          | inr out ↦ far_next v (below, st) out
        ]
      ];
    }

    -- and the runs are beside each other again, where what differs now is told
    pub along_next : (told : List Bool) → ((v : ℕ) → IsInside inside v ⊎ (v ≡ held) → IsTold s' t' told v) → IsAlong good net held s' t' told
    along_next told tells = record {
      sound = along.sound;
      alike = along.alike;
      good_states = step.same_length ∙ along.good_states;
      states = len ∙ along.states;
      is_held = along.is_held;
      inputs = λ v ne input.
          let below = input_in_range net sound v input in
          good_input v below ne input ∙ along.inputs v ne input ∙ sym (input_kept v below input);
      covers = λ v differ. elim (cases_eq v held) [
        | inl e ↦ tells v (inr e) differ
        | inr ne ↦ elim (cases_Bool (slice_index_or inside v false)) [
          | inl ins ↦ tells v (inl ins) differ
          | inr out ↦ absurd (differ (sym (same_next v ne out)))
        ]
      ];
    }

-- ---- the states that are replayed

-- a node that is neither marked nor held is copied
is_copied_there : (inside : List Bool) (held v : ℕ) → v ≢ held → slice_index_or inside v false ≡ false → is_copied inside held v ≡ true
is_copied_there inside held v ne out = elim (cases_Bool (v == held)) [
  | inl e ↦ absurd (ne (eqb-true v held e))
  | inr other ↦ rw (other, out) refl
]

-- the held node is not
held_stays : (inside : List Bool) (held : ℕ) → is_copied inside held held ≡ false
held_stays inside held = rw (eq-eqb held held refl) refl

module _ (good net : Network) (held : ℕ) (s t : List Level) (differing marks : NodeSet) (next : List Level) (changes : List (ℕ × Level))
    (sound : IsSound net) (along : IsAlong good net held s t differing.inside)
    (near : IsNear net t (listed differing) (Some held) marks.inside) (steady : AreSteady net t marks.inside next) where
  -- the states after the step
  abbrev pub new : List Level
  new = replayed changes marks.inside (listed marks) held next t

  -- those in which the run without the fault is copied
  abbrev pub copy : List Level
  copy = changed (filter (λ change. is_copied marks.inside held change.0) changes) t

  new-length : length new ≡ length t
  new-length = changed-length (taken_from next (listed marks)) copy
      ∙ changed-length (filter (λ change. is_copied marks.inside held change.0) changes) t

  -- an unmarked node is not listed
  not_listed : (v : ℕ) → slice_index_or marks.inside v false ≡ false → ¬ (In v (listed marks))
  not_listed v out stands = false≢true (sym out ∙ is_inside marks v stands)

  -- a marked node has its next state
  new_marked : AreSteady net t marks.inside new
  new_marked v ins =
      let below : v < length copy = omega (
        arith,
        (near.storage v ins).0,
        along.states,
        changed-length (filter (λ change. is_copied marks.inside held change.0) changes) t,
      ) in
      rw (taken_here next (listed marks) copy v (is_listed marks v ins) below) (steady v ins)

  new_held : state_of new held ≡ state_of t held
  new_held = taken_other next (listed marks) copy held
      (not_listed held (input_outside good net held s t differing marks.inside sound along near held along.is_held))
      ∙ stopped_same (is_copied marks.inside held) changes t held (held_stays marks.inside held)

  new_copied : (v : ℕ) → v ≢ held → slice_index_or marks.inside v false ≡ false → state_of t v ≡ state_of s v
      → state_of new v ≡ state_of (changed changes s) v
  new_copied v ne out same =
      taken_other next (listed marks) copy v (not_listed v out)
      ∙ passed_alike (is_copied marks.inside held) changes s t v (is_copied_there marks.inside held v ne out) (along.good_states ∙ sym along.states) same

  -- what is replayed is a step
  pub replayed_step : IsStep good s (changed changes s) → IsStep net t new
  replayed_step step = is_step good net held s t differing marks.inside sound along near (changed changes s) new step new-length new_marked new_held new_copied

  -- and leaves the runs beside each other
  pub replayed_along : (told : List Bool) → IsStep good s (changed changes s)
      → ((v : ℕ) → IsInside marks.inside v ⊎ (v ≡ held) → IsTold (changed changes s) new told v) → IsAlong good net held (changed changes s) new told
  replayed_along told step tells =
      along_next good net held s t differing marks.inside sound along near (changed changes s) new step new-length new_marked new_held new_copied told tells

  -- where no marked node has another next state, and the run without the fault rests, this one rests
  pub rests : IsStep good s s → ((v : ℕ) → IsInside marks.inside v → state_of t v ≡ state_of next v) → IsStep net t t
  rests step still =
      is_step good net held s t differing marks.inside sound along near s t step refl (λ v ins. rw (still v ins) (steady v ins)) refl (λ v ne out same. same)

-- the same of states that are known to be these
module _ (good net : Network) (held held' : ℕ) (s s1 t : List Level) (differing marks : NodeSet) (next : List Level) (changes : List (ℕ × Level))
    (good' new' : List Level) (same_held : held' ≡ held) (same_good : s1 ≡ s) (is_good : good' ≡ changed changes s1)
    (is_new : new' ≡ replayed changes marks.inside (listed marks) held' next t) (sound : IsSound net) (along : IsAlong good net held s t differing.inside)
    (near : IsNear net t (listed differing) (Some held) marks.inside) (steady : AreSteady net t marks.inside next)
    (step : IsStep good s (changed changes s)) where
  abbrev pub there : List Level
  there = replayed changes marks.inside (listed marks) held next t

  is_there : new' ≡ there
  is_there = is_new ∙ ap (λ (h : ℕ). replayed changes marks.inside (listed marks) h next t) same_held

  is_changed : good' ≡ changed changes s
  is_changed = is_good ∙ ap (changed changes) same_good

  pub taken_step : IsStep net t new'
  taken_step = subst (IsStep net t) (sym is_there) (replayed_step good net held s t differing marks next changes sound along near steady step)

  pub taken_along : (told : List Bool) → ((v : ℕ) → IsInside marks.inside v ⊎ (v ≡ held') → IsTold good' new' told v) → IsAlong good net held good' new' told
  taken_along told tells =
      let tells' : (v : ℕ) → IsInside marks.inside v ⊎ (v ≡ held) → IsTold (changed changes s) there told v =
      λ v at differ. tells v (elim at [ inl ins ↦ inl ins | inr e ↦ inr (e ∙ sym same_held) ])
      (λ same. differ (ap (λ (x : List Level). state_of x v) (sym is_changed) ∙ same ∙ ap (λ (x : List Level). state_of x v) is_there)) in
      let there_along = replayed_along good net held s t differing marks next changes sound along near steady told step tells' in
      subst (λ (g : List Level). IsAlong good net held g new' told) (sym is_changed)
      (subst (λ (n : List Level). IsAlong good net held (changed changes s) n told) (sym is_there) there_along)

-- ---- steps that are recorded

-- the first of the steps that are left, and those behind it
pub split_steps : (good : Network) (s t : List Level) (steps : List (List (ℕ × Level))) (i : ℕ) (item d : List (ℕ × Level)) → i < length steps
    → item ≡ get_or steps i d → StepsBy good s (drop i steps) t → IsStep good s (changed item s) × StepsBy good (changed item s) (drop (i + 1) steps) t
split_steps good s t steps i item d below is by =
    let split = drop_more steps i d below in
    let both : IsStep good s (changed (get_or steps i d) s) × StepsBy good (changed (get_or steps i d) s) (drop (i + 1) steps) t =
    subst (λ (left : List (List (ℕ × Level))). StepsBy good s left t) split by in
    subst (λ (changes : List (ℕ × Level)). IsStep good s (changed changes s) × StepsBy good (changed changes s) (drop (i + 1) steps) t) (sym is) both

-- where none are left, they lead nowhere
pub no_steps : (good : Network) (s t : List Level) (steps : List (List (ℕ × Level))) (i : ℕ) → length steps ≤ i → StepsBy good s (drop i steps) t → t ≡ s
no_steps good s t steps i all by = subst (λ (left : List (List (ℕ × Level))). StepsBy good s left t) (drop_all i steps all) by

-- the same network and node
pub along_at : (good net other : Network) (held node : ℕ) (s t : List Level) (told : List Bool) → net ≡ other → held ≡ node
    → IsAlong good net held s t told → IsAlong good other node s t told
along_at good net other held node s t told same is along =
    subst (λ (v : ℕ). IsAlong good other v s t told) is (subst (λ (n : Network). IsAlong good n held s t told) same along)

-- and the same states of the run without the fault
pub along_as : (good net other : Network) (held node : ℕ) (s last t : List Level) (told : List Bool) → net ≡ other → held ≡ node → s ≡ last
    → IsAlong good net held s t told → IsAlong good other node last t told
along_as good net other held node s last t told same is at along =
    subst (λ (x : List Level). IsAlong good other node x t told) at (along_at good net other held node s t told same is along)
