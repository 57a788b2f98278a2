-- A node that no difference between two runs reaches takes the same step in both.
use Rattle.std.proofs.Common.{◌≡◌, ◌≢◌, ℕ, ◌<◌, ◌≤◌, List, [], ◌∷◌, true, false, ◌⊎◌, inl, inr, min, refl, sym, ap, subst, arith, ◌∙◌, slice_index}
use Rattle.std.specs.Prelude.{Contains, cond}
use Rattle.std.proofs.lemmas.Bool.{cases_Bool, cases_eq}
use Rattle.switch_net.specs.declared.switches.Level.{Level}
use Rattle.switch_net.specs.declared.switches.Level.TheVariants.{Zero, One, X}
use Rattle.switch_net.specs.declared.switches.Switch.{Switch}
use Rattle.switch_net.specs.Network.{Network, IsSound}
use Rattle.switch_net.specs.Path.{Hop, Joins, IsPath, IsDefinite, IsBlocked, DefiniteTo, strength, switch_strength, root_strength, is_input, state_of}
use Rattle.switch_net.specs.Path.{end_of, is_closed, is_closed_or_unknown}
use Rattle.switch_net.specs.Steady.{AllRootsAre, IsSteadyValue, IsNextLevel}
use Rattle.switch_net.specs.Vicinity.{IsStorage, IsInVicinity}
use Rattle.switch_net.proofs.Paths.{NotOvercome, drop_not_overcome, drop_unblocked, unblocked-hop, unblocked-root}
use Rattle.switch_net.proofs.Ranges.{strength_low, at_input, end_in_range, ends_in_range, input_strength, input_stands, level_cases, low_everywhere}
use Rattle.switch_net.proofs.Vicinities.{in_more, in_self, in_turn, turned, chain_to}
use Rattle.switch_net.proofs.Locality.{IsMatched}
use Rattle.replay_laws.specs.Differences.{AreWiredAlike, IsAlike, HoldsDifferences}

-- Two runs agree on a part: its nodes are alike; the gates of all switches that end in it have the same states; and where a switch that may conduct
-- leads into it, that is from the part, or from an input of both that is in one state.
record AgreeOn (net other : Network) (s t : List Level) (V : ℕ → Type 0) : Type 0 where
  nodes_are : other.nodes ≡ net.nodes
  switches_are : other.switches ≡ net.switches
  closed : (w : Switch) (a b : ℕ) → Contains net.switches w → Joins w a b → is_closed_or_unknown s w ≡ true → V b
      → V a ⊎ ((is_input net a ≡ true) × (is_input other a ≡ true) × (state_of s a ≡ state_of t a))
  gates : (w : Switch) (a b : ℕ) → Contains net.switches w → Joins w a b → V b → state_of s w.gate ≡ state_of t w.gate
  nodes : (v : ℕ) → V v → state_of s v ≡ state_of t v
  roots : (v : ℕ) → V v → root_strength net v ≡ root_strength other v

-- and so they do the other way round
other_way : (net other : Network) (s t : List Level) (V : ℕ → Type 0) → AgreeOn net other s t V → AgreeOn other net t s V
other_way net other s t V g = record {
  nodes_are = sym g.nodes_are;
  switches_are = sym g.switches_are;
  closed = λ w a b c j o in_b.
      let c' : Contains net.switches w = rw g.switches_are at c in
      let e = g.gates w a b c' j in_b in
      elim (g.closed w a b c' j (rw e o) in_b) [ inl in_a ↦ inl in_a | inr i ↦ inr (i.1, i.0, sym i.2) ];
  gates = λ w a b c j in_b. sym (g.gates w a b (rw g.switches_are at c) j in_b);
  nodes = λ v e. sym (g.nodes v e);
  roots = λ v e. sym (g.roots v e);
}

-- each definite path to the part has a match
matched : (net other : Network) (s t : List Level) (V : ℕ → Type 0) → IsSound net → AgreeOn net other s t V → (root : ℕ) (p : List Hop)
    → IsPath net s root p → IsDefinite s p → V (end_of root p) → IsMatched other t (end_of root p) (strength net root p)
matched net other s t V sound g root [] i d in_v =
    let e = g.roots root in_v in
    let within : root < other.nodes = rw g.nodes_are i in
    record {
      by = root_strength other root;
      path = record { root = root; path = []; is_path = within; is_definite = tt; ends = refl; is_strength = refl };
      as_strong = omega (arith, e);
    }
matched net other s t V sound g root (h ∷ p) i d in_v =
    let e = g.gates h.through (end_of root p) h.to i.1 i.2 in_v in
    let stands : Contains other.switches h.through = rw g.switches_are i.1 in
    let open_t : is_closed_or_unknown t h.through ≡ true = rw e at i.3 in
    let closed_t : is_closed t h.through ≡ true = rw e at d.1 in
    elim (g.closed h.through (end_of root p) h.to i.1 i.2 i.3 in_v) [
      | inl in_a ↦ (let m = matched net other s t V sound g root p i.0 d.0 in_a in
          record {
            by = min m.by (switch_strength h.through.kind);
            path = record {
              root = m.path.root;
              path = h ∷ m.path.path;
              is_path = (m.path.is_path, stands, rw m.path.ends i.2, open_t);
              is_definite = (m.path.is_definite, closed_t);
              ends = refl;
              is_strength = ap (λ n. min n (switch_strength h.through.kind)) m.path.is_strength;
            };
            as_strong = omega (arith, m.as_strong);
          })
      | inr input ↦ (let a : ℕ = end_of root p in
          let six = input_strength other a input.1 in
          let within : a < other.nodes = rw g.nodes_are (end_in_range net s sound root p i.0) in
          record {
            by = min (root_strength other a) (switch_strength h.through.kind);
            path = record {
              root = a;
              path = h ∷ [];
              is_path = (within, stands, i.2, open_t);
              is_definite = (tt, closed_t);
              ends = refl;
              is_strength = refl;
            };
            as_strong = let low = strength_low net s sound root p in omega (arith, six, low);
          })
    ]

-- what is not overcome in one run is not in the other
keeps : (net other : Network) (s t : List Level) (V : ℕ → Type 0) → IsSound net → IsSound other → AgreeOn net other s t V → (root : ℕ) (p q : List Hop)
    → V (end_of root p) → end_of root q ≡ end_of root p → strength net root p ≤ strength other root q → NotOvercome net s root p → NotOvercome other t root q
unfolding NotOvercome
keeps net other s t V sound sound' g root p q in_v same_end as_strong n = λ k d.
    let at : end_of d.root d.path ≡ end_of root p = d.ends ∙ same_end in
    let m = matched other net t s V sound' (other_way net other s t V g) d.root d.path d.is_path d.is_definite (rw at in_v) in
    let le = n m.by (subst (λ (v : ℕ). DefiniteTo net s v m.by) at m.path) in
    omega (arith, m.as_strong, le, d.is_strength, as_strong)

-- an unblocked path to the part is one in the other run, as strong, from a root in the same state
record IsSame (net other : Network) (s t : List Level) (root : ℕ) (p : List Hop) : Type 0 where
  is_path : IsPath other t root p
  is_unblocked : ¬ (IsBlocked other t root p)
  same_root : state_of s root ≡ state_of t root
  as_strong : strength net root p ≤ strength other root p

-- each unblocked path to the part has one
same : (net other : Network) (s t : List Level) (V : ℕ → Type 0) → IsSound net → IsSound other → AgreeOn net other s t V → (root : ℕ) (p : List Hop)
    → IsPath net s root p → ¬ (IsBlocked net s root p) → V (end_of root p) → IsSame net other s t root p
same net other s t V sound sound' g root [] i u in_v =
    let e = g.roots root in_v in
    let le : strength net root [] ≤ strength other root [] = omega (arith, e) in
    record {
      is_path = rw g.nodes_are i;
      is_unblocked = unblocked-root other t root (keeps net other s t V sound sound' g root [] [] in_v refl le (drop_not_overcome net s root [] [] u));
      same_root = g.nodes root in_v;
      as_strong = le;
    }
same net other s t V sound sound' g root (h ∷ p) i u in_v =
    let e = g.gates h.through (end_of root p) h.to i.1 i.2 in_v in
    let stands : Contains other.switches h.through = rw g.switches_are i.1 in
    let open_t : is_closed_or_unknown t h.through ≡ true = rw e at i.3 in
    let up = drop_unblocked net s root (h ∷ []) p u in
    let r : IsSame net other s t root p = elim (g.closed h.through (end_of root p) h.to i.1 i.2 i.3 in_v) [
      | inl in_a ↦ same net other s t V sound sound' g root p i.0 up in_a
      | inr input ↦ (let nil = at_input net s sound root p i.0 up input.0 (end_in_range net s sound root p i.0) in
          let root_input : is_input net root ≡ true = rw nil at input.0 in
          let root_input' : is_input other root ≡ true = rw nil at input.1 in
          let range : root < net.nodes = rw nil at i.0 in
          let one = input_strength net root root_input in
          let two = input_strength other root root_input' in
          let whole : IsSame net other s t root [] = record {
            is_path = rw g.nodes_are range;
            is_unblocked = unblocked-root other t root (input_stands other t sound' root root_input');
            same_root = rw nil at input.2;
            as_strong = omega (arith, one, two);
          } in
          rw nil whole)
    ] in
    let le : strength net root (h ∷ p) ≤ strength other root (h ∷ p) = let b = r.as_strong in omega (arith, b) in
    let n = keeps net other s t V sound sound' g root (h ∷ p) (h ∷ p) in_v refl le (drop_not_overcome net s root [] (h ∷ p) u) in
    record {
      is_path = (r.is_path, stands, i.2, open_t);
      is_unblocked = unblocked-hop other t root h p r.is_unblocked n;
      same_root = r.same_root;
      as_strong = le;
    }

-- the roots of all unblocked paths to a node of the part are in this state in both runs or in none
all_same : (net other : Network) (s t : List Level) (V : ℕ → Type 0) → IsSound net → IsSound other → AgreeOn net other s t V → (v : ℕ) (x : Level) → V v
    → AllRootsAre net s v x → AllRootsAre other t v x
all_same net other s t V sound sound' g v x in_v all root path u =
    let at = u.ends in
    let r = same other net t s V sound' sound (other_way net other s t V g) root path u.is_path u.is_unblocked (rw at in_v) in
    r.same_root ∙ all root path (record { is_path = r.is_path; ends = u.ends; is_unblocked = r.is_unblocked })

-- a node of the part has the same steady value in both runs
same_steady : (net other : Network) (s t : List Level) (V : ℕ → Type 0) → IsSound net → IsSound other → AgreeOn net other s t V → (v : ℕ) (x : Level) → V v
    → IsSteadyValue net s v x → IsSteadyValue other t v x
same_steady net other s t V sound sound' g v One in_v st = all_same net other s t V sound sound' g v One in_v st
same_steady net other s t V sound sound' g v Zero in_v st = all_same net other s t V sound sound' g v Zero in_v st
same_steady net other s t V sound sound' g v X in_v st =
    let back = other_way net other s t V g in
    (λ all. st.0 (all_same other net t s V sound' sound back v One in_v all), λ all. st.1 (all_same other net t s V sound' sound back v Zero in_v all))

-- the size of a node is below the strength of an input
storage_low : (net : Network) → IsSound net → (v : ℕ) → slice_index net.sizes v ≤ 3
storage_low net sound v = low_everywhere net.sizes 3 (λ k lt. let size = sound.sizes_in_range k 0 lt in omega (arith, size)) v

-- a node that is as strong in both is an input of both or of none
input_too : (net other : Network) → IsSound net → (v : ℕ) → root_strength net v ≡ root_strength other v → is_input other v ≡ true → is_input net v ≡ true
input_too net other sound v e i = elim (cases_Bool (is_input net v)) [
  | inl stands ↦ stands
  | inr isnt ↦ (
      let six = input_strength other v i in
      let low = storage_low net sound v in
      let own : root_strength net v ≡ slice_index net.sizes v = rw isnt refl in
      absurd (omega (arith, six, low, own, e)))
]

-- whether a node is alike in both can be decided
alike_cases : (net other : Network) (s t : List Level) (v : ℕ) → IsAlike net other s t v ⊎ (IsAlike net other s t v → ⊥)
alike_cases net other s t v = elim (level_cases (state_of s v) (state_of t v)) [
  | inr ne ↦ inr (λ a. ne a.state)
  | inl e ↦ elim (cases_eq (root_strength net v) (root_strength other v)) [
    | inl r ↦ inl (record { state = e; root = r })
    | inr ne ↦ inr (λ a. ne a.root)
  ]
]

-- a storage node of the other network that is in no vicinity of a seed there
module _ (net other : Network) (s t : List Level) (IsSeed : ℕ → Type 0) (v : ℕ) (sound : IsSound net) (sound' : IsSound other)
    (wired : AreWiredAlike net other) (seeds : HoldsDifferences net other s t IsSeed) (storage : IsStorage other v)
    (outside : (m : ℕ) → IsSeed m → IsInVicinity other t m v → ⊥) where
  -- no node of its vicinity is a seed
  none_seed : (u : ℕ) → IsInVicinity other t v u → IsSeed u → ⊥
  none_seed u i sd = outside u sd (in_turn other t v u i)

  -- each is alike in both runs
  alike : (u : ℕ) → IsInVicinity other t v u → IsAlike net other s t u
  alike u i = elim (alike_cases net other s t u) [ inl e ↦ e | inr ne ↦ absurd (none_seed u i (seeds.own u ne)) ]

  -- and so are the gates of the switches at it
  same_gate : (w : Switch) (a b : ℕ) → Contains net.switches w → Joins w a b → IsInVicinity other t v b → state_of s w.gate ≡ state_of t w.gate
  same_gate w a b c j i = elim (level_cases (state_of s w.gate) (state_of t w.gate)) [
    | inl e ↦ e
    | inr ne ↦ absurd (none_seed b i (seeds.gated w a b c j ne))
  ]

  -- so the runs agree on it
  agree : AgreeOn net other s t (IsInVicinity other t v)
  agree = record {
    nodes_are = wired.nodes;
    switches_are = wired.switches;
    closed = λ w a b c j o i. elim (cases_Bool (is_input other a)) [
      | inl e ↦ elim (alike_cases net other s t a) [
        | inl same ↦ inr (input_too net other sound a same.root e, e, same.state)
        | inr ne ↦ absurd (none_seed b i (seeds.beside w a b c j e ne))
      ]
      | inr e ↦ (
          let stands : Contains other.switches w = rw wired.switches c in
          let gate = same_gate w a b c j i in
          inl (in_more other t v b a w i stands (turned other t w a b j) (rw gate at o) ((ends_in_range other sound' w a b stands j).0, e)))
    ];
    gates = same_gate;
    nodes = λ u i. (alike u i).state;
    roots = λ u i. (alike u i).root;
  }

  -- and the node takes one step in both
  far : (x : Level) → IsNextLevel net s v x → IsNextLevel other t v x
  far x next =
      let own = alike v (in_self other t v storage) in
      let store : is_input net v ≡ false = elim (cases_Bool (is_input net v)) [
        | inl is ↦ (let i = input_too other net sound' v (sym own.root) is in let f = storage.1 in absurd (cc))
        | inr isnt ↦ isnt
      ] in
      let st = same_steady net other s t (IsInVicinity other t v) sound sound' agree v x (in_self other t v storage) (next.storage store) in
      record { input = λ e. absurd (let f = storage.1 in cc); storage = λ e. st }

-- the same, with all that it rests on
pub far_step : (net other : Network) (s t : List Level) (IsSeed : ℕ → Type 0) (v : ℕ) (x : Level) → IsSound net → IsSound other → AreWiredAlike net other
    → HoldsDifferences net other s t IsSeed → IsStorage other v → ((m : ℕ) → IsSeed m → IsInVicinity other t m v → ⊥)
    → IsNextLevel net s v x → IsNextLevel other t v x
far_step net other s t IsSeed v x sound sound' wired seeds storage outside next =
    far net other s t IsSeed v sound sound' wired seeds storage outside x next
