-- Networks that rest, and what an input that is set leaves at rest.
use Rattle.steady_state.proofs.Common.{◌≡◌, ◌≢◌, ℕ, ◌<◌, List, [], ◌∷◌, ◌++◌, Bool, true, inl, inr, sym, ap, subst, ◌∙◌, length, slice_index}
use Rattle.steady_state.proofs.Common.{slice_index_or, slice_set, get_or-set_other, Contains, cases_Bool, cases_eq, In, Level, X, Switch, Left}
use Rattle.steady_state.proofs.Common.{Right, Terminal, Gate, End, Network, IsSound, Hop, Joins, end_of, is_closed_or_unknown, is_input, state_of}
use Rattle.steady_state.proofs.Common.{IsInside, IsNextLevel, IsStep, IsSteadyValue, node_at, IsChain, IsInVicinity, IsStorage, ends_in_range}
use Rattle.steady_state.proofs.Common.{in_more, in_self, EndsInside, IsRestedBut, IsTouched}
use Rattle.switch_net.proofs.FiniteSets.Members.{In-append_left, In-index, In-push}
use Rattle.switch_net.specs.Path.{is_closed_or_unknown_at}
use Rattle.switch_net.proofs.Locality.{AgreeOn, same_steady}
use Rattle.switch_net.proofs.Vicinities.{chain_to, in_turn, turned}
use Rattle.steady_state.specs.Marked.{AreMarkedAt}
use Rattle.steady_state.proofs.Moving.{ends_grown}

-- ---- marks

marked_grown : (net : Network) (inside new : List Bool) (terminal : Terminal) (v : ℕ) → ((u : ℕ) → IsInside inside u → IsInside new u)
    → AreMarkedAt net inside terminal v → AreMarkedAt net new terminal v
marked_grown net inside new terminal v grown marked k d lt e = ends_grown net inside new (slice_index_or net.switches k d) grown (marked k d lt e)

-- more marks leave the ends of the switches of a node marked
pub touched_grown : (net : Network) (inside new : List Bool) (v : ℕ) → ((u : ℕ) → IsInside inside u → IsInside new u)
    → IsTouched net inside v → IsTouched net new v
touched_grown net inside new v grown touched terminal = marked_grown net inside new terminal v grown (touched terminal)

-- they are marked terminal by terminal
pub touched_from : (net : Network) (one two three : List Bool) (v : ℕ) → ((u : ℕ) → IsInside one u → IsInside two u)
    → ((u : ℕ) → IsInside two u → IsInside three u) → AreMarkedAt net one Gate v → AreMarkedAt net two (End Left) v
    → AreMarkedAt net three (End Right) v → IsTouched net three v
touched_from net one two three v first second gate left right Gate =
    marked_grown net two three Gate v second (marked_grown net one two Gate v first gate)
touched_from net one two three v first second gate left right (End Left) = marked_grown net two three (End Left) v second left
touched_from net one two three v first second gate left right (End Right) = right

-- a list of nodes whose switches have marked ends
pub all_touched : (net : Network) (nodes : List ℕ) (inside : List Bool)
    → ((i : ℕ) → i < length nodes → IsTouched net inside (slice_index nodes i)) → (v : ℕ) → In v nodes → IsTouched net inside v
all_touched net nodes inside each v i =
    let at = In-index v nodes i in
    subst (IsTouched net inside) (at.1.1 0) (each at.0 at.1.0)

-- ---- rest

-- where a step changes nothing, the network rests
pub rested : (net : Network) (s : List Level) → IsStep net s s → IsRestedBut net s []
rested net s step inside none v storage outside = step.each v storage.0

-- An input is set, and the ends of the switches at which it stands are marked. A node in no vicinity of a marked node keeps its value.
module _ (net : Network) (sound : IsSound net) (s : List Level) (node : ℕ) (x : Level) (input : is_input net node ≡ true) (inside : List Bool)
    (touched : IsTouched net inside node) where
  -- the states after it
  abbrev after : List Level
  after = slice_set s node x

  kept : (u : ℕ) → u ≢ node → state_of after u ≡ state_of s u
  kept u other = get_or-set_other s node u x X other

  conducts : (w : Switch) → w.gate ≢ node → is_closed_or_unknown s w ≡ true → is_closed_or_unknown after w ≡ true
  conducts w other is = ap (is_closed_or_unknown_at w.kind) (kept w.gate other) ∙ is

  -- the ends of a switch with the node at a terminal are marked
  marked_ends : (terminal : Terminal) (w : Switch) → Contains net.switches w → node_at terminal w ≡ node → EndsInside net inside w
  marked_ends terminal w c at = let r = touched terminal c.0 w c.1 (rw c.2 at) in rw c.2 at r

  far_marked : (w : Switch) (a b : ℕ) → Joins w a b → EndsInside net inside w → IsStorage net b → IsInside inside b
  far_marked w a b (inl j) ends storage = rw j.1 at (ends.1 (rw j.1 storage))
  far_marked w a b (inr j) ends storage = rw j.1 at (ends.0 (rw j.1 storage))

  -- a switch that leads from the node has a marked far end
  beside_marked : (w : Switch) (a b : ℕ) → Contains net.switches w → Joins w a b → a ≡ node → IsStorage net b → IsInside inside b
  beside_marked w a b c (inl j) at storage = far_marked w a b (inl j) (marked_ends (End Left) w c (j.0 ∙ at)) storage
  beside_marked w a b c (inr j) at storage = far_marked w a b (inr j) (marked_ends (End Right) w c (j.0 ∙ at)) storage

  -- what a marked node reached before is reached by a marked node after
  marked_chain : (n : ℕ) (p : List Hop) → IsInside inside n → IsChain net s n p → (m : ℕ) × IsInside inside m × IsInVicinity net after m (end_of n p)
  marked_chain n [] ins i = (n, ins, in_self net after n i)
  marked_chain n (h ∷ p) ins i = elim (cases_eq h.through.gate node) [
    | inl at ↦ (h.to, far_marked h.through (end_of n p) h.to i.2 (marked_ends Gate h.through i.1 at) i.4, in_self net after h.to i.4)
    | inr other ↦ (
        let before = marked_chain n p ins i.0 in (
          before.0,
          before.1,
          in_more net after before.0 (end_of n p) h.to h.through before.2 i.1 i.2 (conducts h.through other i.3) i.4,
        ))
  ]

  module _ (v : ℕ) (storage : IsStorage net v) (outside : (m : ℕ) → IsInside inside m → IsInVicinity net after m v → ⊥) where
    free : (u : ℕ) → IsInVicinity net after v u → IsInside inside u → ⊥
    free u i ins = outside u ins (in_turn net after v u i)

    stores : (u : ℕ) → IsInVicinity net after v u → IsStorage net u
    stores u i = rw i.ends at (chain_to net after v i.chain i.is_chain)

    no_gate : (w : Switch) (a b : ℕ) → Contains net.switches w → Joins w a b → IsInVicinity net after v b → w.gate ≢ node
    no_gate w a b c j i at = free b i (far_marked w a b j (marked_ends Gate w c at) (stores b i))

    no_input : (u : ℕ) → IsStorage net u → u ≢ node
    no_input u st at = (let e = ap (is_input net) at in let f = st.1 in absurd (cc))

    agree : AgreeOn net s after (IsInVicinity net after v)
    agree = record {
      closed = λ w a b c j o i. elim (cases_Bool (is_input net a)) [
        | inl e ↦ inr e
        | inr e ↦ inl
            (in_more net after v b a w i c (turned net after w a b j) (conducts w (no_gate w a b c j i) o) ((ends_in_range net sound w a b c j).0, e))
      ];
      gates = λ w a b c j i. sym (kept w.gate (no_gate w a b c j i));
      inputs = λ w a b c j o e i. sym (kept a (λ at. free b i (beside_marked w a b c j at (stores b i))));
      nodes = λ u i. sym (kept u (no_input u (stores u i)));
    }

    still : IsNextLevel net s v (state_of s v) → IsNextLevel net after v (state_of after v)
    still next =
        let steady = same_steady net s after (IsInVicinity net after v) sound agree v (state_of s v) (in_self net after v storage) (next.storage storage.1) in
        let value = subst (IsSteadyValue net after v) (sym (kept v (no_input v storage))) steady in
        record { input = λ e. (let f = storage.1 in absurd (cc)); storage = λ e. value }

-- one input more is set
pub rested_more : (net : Network) (s : List Level) (nodes : List ℕ) (node : ℕ) (x : Level) → IsSound net → is_input net node ≡ true
    → IsRestedBut net s nodes → IsRestedBut net (slice_set s node x) (nodes ++ node ∷ [])
rested_more net s nodes node x sound input before inside all v storage outside =
    let touched = all node (In-push nodes node) in
    let old = before inside (λ u i. all u (In-append_left u nodes (node ∷ []) i)) v storage
    (λ m ins i.
    let chain = marked_chain net sound s node x input inside touched m i.chain ins i.is_chain in
    outside chain.0 chain.1 (subst (IsInVicinity net (slice_set s node x) chain.0) i.ends chain.2)) in
    still net sound s node x input inside touched v storage outside old
