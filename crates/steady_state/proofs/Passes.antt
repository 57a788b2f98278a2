-- A kind over a part, from its start to its end.
use Rattle.steady_state.proofs.Common.{◌≡◌, ℕ, ◌<◌, ◌≤◌, List, [], Bool, true, ◌⊎◌, inl, inr, min, refl, ap, arith, slice_index, slice_index_or}
use Rattle.steady_state.proofs.Common.{Contains, get_or_default, cases_Bool, Level, Switch, Zero, One, X, PathKind, Definite, FromOther}
use Rattle.steady_state.proofs.Common.{IsStrongestDefinite, IsLevelOf, level_cases, root_strength-pos, ends_in_range, Side, Left, Right, Network}
use Rattle.steady_state.proofs.Common.{IsSound, Joins, switch_strength, root_strength, is_input, end_of, strength, state_of, is_closed_or_unknown}
use Rattle.steady_state.proofs.Common.{IsSteadyValue, goes_through, IsFloor, near_end, far_end, NodeSet, IsInside, IsRelaxed, IsWorking}
use Rattle.steady_state.proofs.Common.{IsFirstStrength, IsStorage, Part, IsInPart, IsPartOf, none_inside}
use Rattle.std.specs.Prelude.{All}
use Rattle.switch_net.proofs.Ranges.{strength-pos}
use Rattle.switch_net.specs.Steady.{AllRootsAre}
use Rattle.steady_state.specs.steps.Kinds.{BeginsAt, IsStrongestOfKind}
use Rattle.steady_state.proofs.Within.{IsSpread, bound}

module _ (net : Network) (s : List Level) (kind : PathKind) (Inner : ℕ → Type 0) (floor : List ℕ) where
  -- strengths that paths begin with are under way, where each node waits or brings no more
  pub begun_working : (best : List ℕ) (waiting : List Bool) → ((v : ℕ) → Inner v → IsFirstStrength net s kind floor v (slice_index best v)) →
      ((v : ℕ) → IsInside waiting v → Inner v) →
      ((side : Side) (w : Switch) → Inner (near_end side w) → IsInside waiting (near_end side w) ⊎ IsRelaxed s kind Inner floor best side w) →
      IsWorking net s kind Inner floor best waiting []
  begun_working best waiting begun inner ready = record {
    attained = λ a ins pos. (begun a ins).attained pos;
    waits = inner;
    settled = λ side k d lt ins. inr (ready side (slice_index_or net.switches k d) ins);
  }

  -- with none waiting, nothing more is brought
  pub done : (start best : List ℕ) (idle : List Bool) → IsSound net → ((v : ℕ) → Inner v → IsFirstStrength net s kind floor v (slice_index start v)) →
      ((v : ℕ) → slice_index start v ≤ slice_index best v) →
      ((v : ℕ) → Inner v → IsFloor net s kind v (slice_index floor v)) →
      ((side : Side) (w : Switch) → Contains net.switches w → Inner (near_end side w) → is_closed_or_unknown s w ≡ true → IsStorage net (far_end side w) →
      Inner (far_end side w)) →
      IsWorking net s kind Inner floor best idle [] → ((v : ℕ) → IsInside idle v → ⊥) → IsSpread net s kind Inner floor best
  done start best idle sound begun above floors closed k none = record {
    closed = λ w a b c j o ins. elim (cases_Bool (is_input net a)) [
      | inl e ↦ inr e
      | inr e ↦ inl
          (covers w a b c j o ins ((ends_in_range net sound w a b c j).0, e))
    ];
    floors = floors;
    own = λ v ins adm fl. let r = (begun v ins).own adm fl in omega (arith, r, above v);
    from_inputs = λ w a b c j go inp adm ins le. let r = pulls w a b c j go inp adm ins le in omega (arith, r, above b);
    relaxed = λ w a b c j go in_a in_b le. relaxes w a b c j go in_a in_b le;
  }
    where
      covers : (w : Switch) (a b : ℕ) → Contains net.switches w → Joins w a b → is_closed_or_unknown s w ≡ true → Inner b → IsStorage net a → Inner a
      covers w a b c (inl (p, q)) o ins st = let r = closed Right w c (rw q ins) o (rw p st) in rw p at r
      covers w a b c (inr (p, q)) o ins st = let r = closed Left w c (rw q ins) o (rw p st) in rw p at r

      pulls : (w : Switch) (a b : ℕ) → Contains net.switches w → Joins w a b → goes_through s kind w ≡ true → is_input net a ≡ true → BeginsAt s kind a →
          Inner b → slice_index floor b ≤ switch_strength w.kind → switch_strength w.kind ≤ slice_index start b
      pulls w a b c (inl (p, q)) go inp adm ins le = let r = (begun b ins).right c.0 w c.1 (rw c.2 q) (rw c.2 go) (rw (c.2, p) inp) (rw (c.2, p) adm)
          (rw (c.2, q) le) in rw c.2 at r
      pulls w a b c (inr (p, q)) go inp adm ins le = let r = (begun b ins).left c.0 w c.1 (rw c.2 q) (rw c.2 go) (rw (c.2, p) inp) (rw (c.2, p) adm)
          (rw (c.2, q) le) in rw c.2 at r

      settled_at : (side : Side) (w : Switch) → Contains net.switches w → Inner (near_end side w) → IsRelaxed s kind Inner floor best side w
      settled_at side w c ins = elim (k.settled side c.0 w c.1 (rw c.2 ins)) [
        | inl busy ↦ absurd busy
        | inr y ↦ elim y [ inl q ↦ absurd (none (near_end side w) (rw c.2 at q)) | inr rel ↦ rw c.2 at rel ]
      ]

      relaxes : (w : Switch) (a b : ℕ) → Contains net.switches w → Joins w a b → goes_through s kind w ≡ true → Inner a → Inner b →
          slice_index floor b ≤ min (slice_index best a) (switch_strength w.kind) →
          min (slice_index best a) (switch_strength w.kind) ≤ slice_index best b
      relaxes w a b c (inl (p, q)) go in_a in_b le = let r = settled_at Left w c (rw p in_a) go (rw q in_b) (rw (p, q) le) in rw (p, q) at r
      relaxes w a b c (inr (p, q)) go in_a in_b le = let r = settled_at Right w c (rw p in_a) go (rw q in_b) (rw (p, q) le) in rw (p, q) at r

  -- so each entry is the strongest
  pub strongest_of : (best : List ℕ) (idle : List Bool) → IsSound net → IsSpread net s kind Inner floor best →
      IsWorking net s kind Inner floor best idle [] → (v : ℕ) → Inner v → IsStrongestOfKind net s kind v (slice_index best v)
  strongest_of best idle sound x k v ins = record {
    attained = λ pos. k.attained v ins pos;
    bound = λ j p. let at = p.ends in let b = bound net s sound kind Inner floor best x p.root p.path p.of_kind (rw at ins) in
        let f : slice_index best (end_of p.root p.path) ≡ slice_index best v = ap (slice_index best) at in omega (arith, b, f, p.is_strength);
  }

-- the kind of definite paths gives the strongest
pub definite_of : (net : Network) (s : List Level) → IsSound net → (v k : ℕ) → v < net.nodes → IsStrongestOfKind net s Definite v k →
    IsStrongestDefinite net s v k
definite_of net s sound v k lt x = record {
  attained =
      let own = x.bound (root_strength net v) (record { root = v; path = []; of_kind = (lt, tt); ends = refl; is_strength = refl }) in
      let pos = root_strength-pos net sound v lt in
      let p = x.attained (omega arith) in
      record { root = p.root; path = p.path; is_path = p.of_kind.0; is_definite = p.of_kind.1; ends = p.ends; is_strength = p.is_strength };
  bound = λ j d. x.bound j (record { root = d.root; path = d.path; of_kind = (d.is_path, d.is_definite); ends = d.ends; is_strength = d.is_strength });
}

-- a kind from roots in another state than this finds nothing exactly where all roots are in this state
none_other : (net : Network) (s : List Level) → IsSound net → (kept : Level) (v k : ℕ) → IsStrongestOfKind net s (FromOther kept) v k → k ≡ 0 →
    AllRootsAre net s v kept
none_other net s sound kept v k x z root path u = elim (level_cases (state_of s root) kept) [
  | inl e ↦ e
  | inr ne ↦ (let b = x.bound (strength net root path) (record {
    root = root;
    path = path;
    of_kind = (u.is_path, u.is_unblocked, ne);
    ends = u.ends;
    is_strength = refl;
  }) in
      let pos = strength-pos net s sound root path u.is_path in absurd (omega arith))
]

some_other : (net : Network) (s : List Level) (kept : Level) (v k : ℕ) → IsStrongestOfKind net s (FromOther kept) v k → 0 < k → ¬ (AllRootsAre net s v kept)
some_other net s kept v k x pos all = let p = x.attained pos in p.of_kind.2 (all p.root p.path
    (record { is_path = p.of_kind.0; ends = p.ends; is_unblocked = p.of_kind.1 }))

pub steady_of : (net : Network) (s : List Level) → IsSound net → (v p q : ℕ) (x : Level) → IsStrongestOfKind net s (FromOther One) v p →
    IsStrongestOfKind net s (FromOther Zero) v q → IsLevelOf p q x → IsSteadyValue net s v x
steady_of net s sound v p q One a b l = none_other net s sound One v p a l
steady_of net s sound v p q Zero a b l = none_other net s sound Zero v q b l
steady_of net s sound v p q X a b l = (some_other net s One v p a l.0, some_other net s Zero v q b l.1)

-- the nodes of a part's list are nodes of the network
pub order_below : (net : Network) (part : Part) → IsPartOf net part → All (λ v. v < net.nodes) part.order.now
order_below net part p k d lt = rw (get_or_default part.order.now k d 0 lt) ((p.storage (slice_index part.order.now k) (k, lt, refl)).0)

module _ (net : Network) (sound : IsSound net) (part : Part) (p : IsPartOf net part) (kind : PathKind) (floor : List ℕ)
    (floors : (v : ℕ) → IsInPart part v → IsFloor net part.state.now kind v (slice_index floor v)) where
  -- when none waits, the strongest paths to the nodes of the part are found
  pub found : (start best : List ℕ) (waiting : NodeSet) →
      ((v : ℕ) → IsInPart part v → IsFirstStrength net part.state.now kind floor v (slice_index start v)) →
      ((v : ℕ) → slice_index start v ≤ slice_index best v) →
      IsWorking net part.state.now kind (λ v. IsInPart part v) floor best waiting.inside [] → waiting.count ≡ 0 →
      (v : ℕ) → IsInPart part v → IsStrongestOfKind net part.state.now kind v (slice_index best v)
  found start best waiting begun above working idle v ins =
      strongest_of net part.state.now kind (λ u. IsInPart part u) floor best waiting.inside sound
      (done net part.state.now kind (λ u. IsInPart part u) floor start best waiting.inside sound begun above floors p.closed working
      (λ u waits. none_inside waiting.inside waiting.order waiting.count u waiting.listed idle waits)) working v ins
