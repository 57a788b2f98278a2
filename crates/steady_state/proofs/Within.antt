-- When no arc brings more, each entry of the part is the greatest strength of a path of the kind.
use Rattle.steady_state.proofs.Common.{◌≡◌, ℕ, ◌<◌, ◌≤◌, List, [], ◌∷◌, true, ◌⊎◌, inl, inr, min, refl, ap, subst, arith, slice_index}
use Rattle.steady_state.proofs.Common.{slice_index_or, Contains, Level, Switch, PathKind, Definite, FromOther, Side, Network, IsSound, Hop, Joins}
use Rattle.steady_state.proofs.Common.{strength, switch_strength, root_strength, is_input, end_of, is_closed_or_unknown, IsStrongestDefinite}
use Rattle.steady_state.proofs.Common.{goes_through, IsFloor, HasPath}
use Rattle.switch_net.specs.Path.{IsBlocked}
use Rattle.steady_state.specs.steps.Kinds.{IsOfKind, BeginsAt}
use Rattle.steady_state.specs.steps.Spreading.{BringsAtMost, IsPulled}
use Rattle.switch_net.proofs.Paths.{NotOvercome, drop_not_overcome, drop_unblocked, unblocked-root}
use Rattle.steady_state.proofs.UnderWay.{extend}
use Rattle.switch_net.proofs.Ranges.{switch_strength-le, at_input, end_in_range, input_stands}

module _ (net : Network) (s : List Level) (sound : IsSound net) where
  -- an unblocked path is at least as strong as the strongest definite path to its end
  above_definite : (root : ℕ) (p : List Hop) (k : ℕ) → ¬ (IsBlocked net s root p) → IsStrongestDefinite net s (end_of root p) k → k ≤ strength net root p
  unfolding NotOvercome
  above_definite root p k u st = drop_not_overcome net s root [] p u k st.attained

-- nothing more is brought to a node of the part, by its own strength, from an input or from the part
pub record IsSpread (net : Network) (s : List Level) (kind : PathKind) (Inner : ℕ → Type 0) (floor best : List ℕ) : Type 0 where
  pub closed : (w : Switch) (a b : ℕ) → Contains net.switches w → Joins w a b → is_closed_or_unknown s w ≡ true → Inner b →
      Inner a ⊎ (is_input net a ≡ true)
  pub floors : (v : ℕ) → Inner v → IsFloor net s kind v (slice_index floor v)
  pub own : (v : ℕ) → Inner v → BeginsAt s kind v → slice_index floor v ≤ root_strength net v → root_strength net v ≤ slice_index best v
  pub from_inputs : (w : Switch) (a b : ℕ) → Contains net.switches w → Joins w a b → goes_through s kind w ≡ true → is_input net a ≡ true →
      BeginsAt s kind a → Inner b →
      slice_index floor b ≤ switch_strength w.kind → switch_strength w.kind ≤ slice_index best b
  pub relaxed : (w : Switch) (a b : ℕ) → Contains net.switches w → Joins w a b → goes_through s kind w ≡ true → Inner a → Inner b →
      slice_index floor b ≤ min (slice_index best a) (switch_strength w.kind) → min (slice_index best a) (switch_strength w.kind) ≤ slice_index best b

pub bound : (net : Network) (s : List Level) → IsSound net → (kind : PathKind) (Inner : ℕ → Type 0) (floor best : List ℕ) →
    IsSpread net s kind Inner floor best →
    (root : ℕ) (p : List Hop) → IsOfKind net s kind root p → Inner (end_of root p) → strength net root p ≤ slice_index best (end_of root p)
bound net s sound Definite Inner floor best x root [] i ins = x.own root ins tt (omega (arith, x.floors root ins))
bound net s sound Definite Inner floor best x root (h ∷ p) i ins =
    elim (x.closed h.through (end_of root p) h.to i.0.1 i.0.2 i.0.3 ins) [
      | inl ins_a ↦ (let ih = bound net s sound Definite Inner floor best x root p (i.0.0, i.1.0) ins_a in
          let r = x.relaxed h.through (end_of root p) h.to i.0.1 i.0.2 i.1.1 ins_a ins (omega (arith, x.floors h.to ins)) in omega (arith, ih, r))
      | inr input ↦ (let r = x.from_inputs h.through (end_of root p) h.to i.0.1 i.0.2 i.1.1 input tt ins (omega (arith, x.floors h.to ins)) in omega (arith, r))
    ]
bound net s sound (FromOther kept) Inner floor best x root [] i ins = x.own root ins i.2
    (above_definite net s sound root [] (slice_index floor root) i.1 (x.floors root ins))
bound net s sound (FromOther kept) Inner floor best x root (h ∷ p) i ins =
    let fl = above_definite net s sound root (h ∷ p) (slice_index floor h.to) i.1 (x.floors h.to ins) in
    let u = drop_unblocked net s root (h ∷ []) p i.1 in
    elim (x.closed h.through (end_of root p) h.to i.0.1 i.0.2 i.0.3 ins) [
      | inl ins_a ↦ (let ih = bound net s sound (FromOther kept) Inner floor best x root p (i.0.0, u, i.2) ins_a in
          let r = x.relaxed h.through (end_of root p) h.to i.0.1 i.0.2 i.0.3 ins_a ins (omega (arith, fl, ih)) in omega (arith, ih, r))
      | inr input ↦ (let nil = at_input net s sound root p i.0.0 u input (end_in_range net s sound root p i.0.0) in
          let at : end_of root p ≡ root = ap (end_of root) nil in
          let r = x.from_inputs h.through (end_of root p) h.to i.0.1 i.0.2 i.0.3 input (rw at i.2) ins (omega (arith, fl)) in omega (arith, r))
    ]

-- an input brings the strength of the switch
pub brought : (net : Network) (s : List Level) → IsSound net → (kind : PathKind) (w : Switch) (a b f : ℕ) → Contains net.switches w → Joins w a b →
    goes_through s kind w ≡ true → is_input net a ≡ true → a < net.nodes → BeginsAt s kind a →
    IsFloor net s kind b f → f ≤ switch_strength w.kind → HasPath net s kind b (switch_strength w.kind)
brought net s sound kind w a b f c j g input in_a adm fl le =
    let six : root_strength net a ≡ 6 = rw input refl in
    let five = switch_strength-le w in
    let e : min 6 (switch_strength w.kind) ≡ switch_strength w.kind = omega arith in
    let own : HasPath net s kind a 6 = record { root = a; path = []; of_kind = alone kind adm; ends = refl; is_strength = six } in
    subst (λ (k : ℕ). HasPath net s kind b k) e (extend net s kind w a b 6 f own c j g fl (omega arith))
  where
    alone : (kind : PathKind) → BeginsAt s kind a → IsOfKind net s kind a []
    alone Definite adm = (in_a, tt)
    alone (FromOther kept) adm = (in_a, unblocked-root net s a (input_stands net s sound a input), adm)

-- what inputs bring at most they bring at most where that is more
pub brings_up : (net : Network) (s : List Level) (kind : PathKind) (floor : List ℕ) (side : Side) (best new : ℕ) (w : Switch) → best ≤ new →
    BringsAtMost net s kind floor side best w → BringsAtMost net s kind floor side new w
brings_up net s kind floor side best new w more x go inp adm le = let r = x go inp adm le in omega (arith, r)

-- a node by itself
pub by_itself : (net : Network) (s : List Level) (kind : PathKind) (v f : ℕ) → v < net.nodes → BeginsAt s kind v → IsFloor net s kind v f →
    f ≤ root_strength net v → HasPath net s kind v (root_strength net v)
unfolding NotOvercome
by_itself net s Definite v f lt adm fl le = record { root = v; path = []; of_kind = (lt, tt); ends = refl; is_strength = refl }
by_itself net s (FromOther kept) v f lt adm fl le = record {
  root = v;
  path = [];
  of_kind =
      (lt, unblocked-root net s v (λ k d. omega (arith, fl.bound k d)), adm);
  ends = refl;
  is_strength = refl;
}

pub pulled_up : (net : Network) (s : List Level) (kind : PathKind) (floor : List ℕ) (side : Side) (v best new : ℕ) → best ≤ new →
    IsPulled net s kind floor side v best → IsPulled net s kind floor side v new
pulled_up net s kind floor side v best new more x k d lt near = brings_up net s kind floor side best new (slice_index_or net.switches k d) more (x k d lt near)
