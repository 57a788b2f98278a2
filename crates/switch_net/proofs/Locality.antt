-- The steady value of a node depends on its part of the network alone.
use Rattle.switch_net.proofs.Common.{◌≡◌, ℕ, ◌<◌, ◌≤◌, List, [], ◌∷◌, true, ◌⊎◌, inl, inr, refl, sym, ap, subst, arith, ◌∙◌, Contains, Level, Zero}
use Rattle.switch_net.proofs.Common.{One, X, Switch, Network, IsSound, Hop, Joins, IsPath, IsDefinite, IsBlocked, DefiniteTo, strength}
use Rattle.switch_net.proofs.Common.{switch_strength, root_strength, is_input, state_of, end_of, is_closed_or_unknown, IsSteadyValue}
use Rattle.std.proofs.Common.{min}
use Rattle.switch_net.specs.Path.{is_closed}
use Rattle.switch_net.specs.Steady.{AllRootsAre}
use Rattle.switch_net.proofs.Paths.{NotOvercome, drop_not_overcome, drop_unblocked, unblocked-hop, unblocked-root}
use Rattle.switch_net.proofs.Ranges.{strength_low, at_input, end_in_range, input_strength, input_stands}

-- two states agree on a part, on the gates of all switches that end in the part, and on the inputs from which conducting switches lead to it, and
-- conducting switches lead from inputs or the part alone
pub record AgreeOn (net : Network) (s t : List Level) (V : ℕ → Type 0) : Type 0 where
  pub closed : (w : Switch) (a b : ℕ) → Contains net.switches w → Joins w a b → is_closed_or_unknown s w ≡ true → V b → V a ⊎ (is_input net a ≡ true)
  pub gates : (w : Switch) (a b : ℕ) → Contains net.switches w → Joins w a b → V b → state_of s w.gate ≡ state_of t w.gate
  pub inputs : (w : Switch) (a b : ℕ) → Contains net.switches w → Joins w a b → is_closed_or_unknown s w ≡ true → is_input net a ≡ true → V b
      → state_of s a ≡ state_of t a
  pub nodes : (v : ℕ) → V v → state_of s v ≡ state_of t v

pub other_way : (net : Network) (s t : List Level) (V : ℕ → Type 0) → AgreeOn net s t V → AgreeOn net t s V
other_way net s t V g = record {
  closed = λ w a b c j o in_b. let e = g.gates w a b c j in_b in g.closed w a b c j (rw e o) in_b;
  gates = λ w a b c j in_b. sym (g.gates w a b c j in_b);
  inputs = λ w a b c j o input in_b. let e = g.gates w a b c j in_b in sym (g.inputs w a b c j (rw e o) input in_b);
  nodes = λ v e. sym (g.nodes v e);
}

-- a definite path to a node is in the other state one at least as strong
pub record IsMatched (net : Network) (s : List Level) (v k : ℕ) : Type 0 where
  pub by : ℕ
  pub path : DefiniteTo net s v by
  pub as_strong : k ≤ by

matched : (net : Network) (s t : List Level) (V : ℕ → Type 0) → IsSound net → AgreeOn net s t V → (root : ℕ) (p : List Hop) → IsPath net s root p →
    IsDefinite s p → V (end_of root p) →
    IsMatched net t (end_of root p) (strength net root p)
matched net s t V sound g root [] i d in_v = record {
  by = root_strength net root;
  path = record
      { root = root; path = []; is_path = i; is_definite = tt; ends = refl; is_strength = refl };
  as_strong = omega arith;
}
matched net s t V sound g root (h ∷ p) i d in_v =
    let e = g.gates h.through (end_of root p) h.to i.1 i.2 in_v in
    let open_t : is_closed_or_unknown t h.through ≡ true = rw e at i.3 in
    let closed_t : is_closed t h.through ≡ true = rw e at d.1 in
    elim (g.closed h.through (end_of root p) h.to i.1 i.2 i.3 in_v) [
      | inl in_a ↦ (let m = matched net s t V sound g root p i.0 d.0 in_a in
          record {
            by = min m.by (switch_strength h.through.kind);
            path = record {
              root = m.path.root;
              path = h ∷ m.path.path;
              is_path = (m.path.is_path, i.1, rw m.path.ends i.2, open_t);
              is_definite = (m.path.is_definite, closed_t);
              ends = refl;
              is_strength = ap (λ n. min n (switch_strength h.through.kind)) m.path.is_strength;
            };
            as_strong = omega (arith, m.as_strong);
          })
      | inr input ↦ (let a : ℕ = end_of root p in
          let six = input_strength net a input in
          record {
            by = min (root_strength net a) (switch_strength h.through.kind);
            path = record {
              root = a;
              path = h ∷ [];
              is_path = (end_in_range net s sound root p i.0, i.1, i.2, open_t);
              is_definite = (tt, closed_t);
              ends =
                  refl;
              is_strength = refl;
            };
            as_strong = let low = strength_low net s sound root p in omega (arith, six, low);
          })
    ]

-- what is not overcome in one state is not in the other
keeps : (net : Network) (s t : List Level) (V : ℕ → Type 0) → IsSound net → AgreeOn net s t V → (root : ℕ) (p : List Hop) → V (end_of root p) →
    NotOvercome net s root p → NotOvercome net t root p
unfolding NotOvercome
keeps net s t V sound g root p in_v n = λ k d.
    let at = d.ends in
    let m = matched net t s V sound (other_way net s t V g) d.root d.path d.is_path d.is_definite (rw at in_v) in
    let le = n m.by (subst (λ (v : ℕ). DefiniteTo net s v m.by) at m.path) in
    omega (arith, m.as_strong, le, d.is_strength)

-- an unblocked path to the part is one in the other state, from a root in the same state
pub record IsSame (net : Network) (s t : List Level) (root : ℕ) (p : List Hop) : Type 0 where
  pub is_path : IsPath net t root p
  pub is_unblocked : ¬ (IsBlocked net t root p)
  pub same_root : state_of s root ≡ state_of t root

same : (net : Network) (s t : List Level) (V : ℕ → Type 0) → IsSound net → AgreeOn net s t V → (root : ℕ) (p : List Hop) → IsPath net s root p →
    ¬ (IsBlocked net s root p) → V (end_of root p) → IsSame net s t root p
same net s t V sound g root [] i u in_v = record {
  is_path = i;
  is_unblocked = unblocked-root net t root
      (keeps net s t V sound g root [] in_v (drop_not_overcome net s root [] [] u));
  same_root = g.nodes root in_v;
}
same net s t V sound g root (h ∷ p) i u in_v =
    let e = g.gates h.through (end_of root p) h.to i.1 i.2 in_v in
    let open_t : is_closed_or_unknown t h.through ≡ true = rw e at i.3 in
    let up = drop_unblocked net s root (h ∷ []) p u in
    let n = keeps net s t V sound g root (h ∷ p) in_v (drop_not_overcome net s root [] (h ∷ p) u) in
    let r : IsSame net s t root p = elim (g.closed h.through (end_of root p) h.to i.1 i.2 i.3 in_v) [
      | inl in_a ↦ same net s t V sound g root p i.0 up in_a
      | inr input ↦ (let nil = at_input net s sound root p i.0 up input (end_in_range net s sound root p i.0) in
          let root_input : is_input net root ≡ true = rw nil at input in
          let range : root < net.nodes = rw nil at i.0 in
          let whole : IsSame net s t root [] = record {
            is_path = range;
            is_unblocked = unblocked-root net t root (input_stands net t sound root root_input);
            same_root = let one = g.inputs h.through (end_of root p) h.to i.1 i.2 i.3 input in_v in rw nil at one;
          } in
          rw nil whole)
    ] in
    record { is_path = (r.is_path, i.1, i.2, open_t); is_unblocked = unblocked-hop net t root h p r.is_unblocked n; same_root = r.same_root }

all_same : (net : Network) (s t : List Level) (V : ℕ → Type 0) → IsSound net → AgreeOn net s t V → (v : ℕ) (x : Level) → V v → AllRootsAre net s v x →
    AllRootsAre net t v x
all_same net s t V sound g v x in_v all root path u =
    let at = u.ends in
    let r = same net t s V sound (other_way net s t V g) root path u.is_path u.is_unblocked (rw at in_v) in
    r.same_root ∙ all root path (record { is_path = r.is_path; ends = u.ends; is_unblocked = r.is_unblocked })

-- a node of the part has the same steady value in both states
pub same_steady : (net : Network) (s t : List Level) (V : ℕ → Type 0) → IsSound net → AgreeOn net s t V → (v : ℕ) (x : Level) → V v →
    IsSteadyValue net s v x → IsSteadyValue net t v x
same_steady net s t V sound g v One in_v st = all_same net s t V sound g v One in_v st
same_steady net s t V sound g v Zero in_v st = all_same net s t V sound g v Zero in_v st
same_steady net s t V sound g v X in_v st =
    let back = other_way net s t V g in
    (λ all. st.0 (all_same net t s V sound back v One in_v all), λ all. st.1 (all_same net t s V sound back v Zero in_v all))
