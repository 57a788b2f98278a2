-- Lemmas on a kind under way.
use Rattle.steady_state.proofs.Common.{◌≡◌, ℕ, ◌+◌, ◌*◌, ◌<◌, ◌≤◌, List, [], ◌∷◌, Bool, true, ◌⊎◌, inl, inr, min, refl, sym, ap, arith, length}
use Rattle.steady_state.proofs.Common.{slice_index, slice_index_or, slice_set, get_or-set_other, get_or-set_same, Contains, cases_eq, Level, Switch}
use Rattle.steady_state.proofs.Common.{PathKind, Definite, FromOther, Side, Left, Right, Network, Hop, Joins, strength, switch_strength, state_of}
use Rattle.steady_state.proofs.Common.{end_of, is_closed_or_unknown, IsRelaxed, IsWorking, IsRaised, total, goes_through, IsFloor, HasPath, near_end}
use Rattle.steady_state.proofs.Common.{far_end, IsInside, In}
use Rattle.std.proofs.Common.{get_or}
use Rattle.std.proofs.lemmas.List.Sums.{sum_by-set, sum_by-le}
use Rattle.std.proofs.lemmas.List.Elements.{All-from_get_or}
use Rattle.switch_net.specs.Path.{DefiniteTo}
use Rattle.steady_state.specs.steps.Spreading.{IsLift}
use Rattle.switch_net.proofs.Paths.{NotOvercome, unblocked-hop}
use Rattle.switch_net.proofs.Ranges.{closed_or_more}

pub joins : (side : Side) (w : Switch) → Joins w (near_end side w) (far_end side w)
joins Left w = inl (refl, refl)
joins Right w = inr (refl, refl)

-- what paths of a kind go through is closed or unknown
pub conducts : (s : List Level) (kind : PathKind) (w : Switch) → goes_through s kind w ≡ true → is_closed_or_unknown s w ≡ true
conducts s Definite w go = closed_or_more w.kind (state_of s w.gate) go
conducts s (FromOther level) w go = go

-- a path of the kind goes on through a switch
pub extend : (net : Network) (s : List Level) (kind : PathKind) (w : Switch) (a b k f : ℕ) → HasPath net s kind a k → Contains net.switches w → Joins w a b →
    goes_through s kind w ≡ true → IsFloor net s kind b f → f ≤ min k (switch_strength w.kind) → HasPath net s kind b (min k (switch_strength w.kind))
unfolding NotOvercome
extend net s Definite w a b k f t c j g fl le = record {
  root = t.root;
  path = record { through = w; to = b } ∷ t.path;
  of_kind = ((t.of_kind.0, c, rw t.ends j, closed_or_more w.kind (state_of s w.gate) g), (t.of_kind.1, g));
  ends = refl;
  is_strength = ap (λ n. min n (switch_strength w.kind)) t.is_strength;
}
extend net s (FromOther kept) w a b k f t c j g fl le =
    let h : Hop = record { through = w; to = b } in
    let e : strength net t.root (h ∷ t.path) ≡ min k (switch_strength w.kind) = ap (λ n. min n (switch_strength w.kind)) t.is_strength in
    record {
      root = t.root;
      path = h ∷ t.path;
      of_kind = (
        (t.of_kind.0, c, rw t.ends j, g),
        unblocked-hop net s t.root h t.path t.of_kind.1
            (not_overcome t.root (h ∷ t.path) (λ j d. omega (arith, fl.bound j d, e))),
        t.of_kind.2,
      );
      ends = refl;
      is_strength = e;
    }
  where
    not_overcome : (root : ℕ) (p : List Hop) → ((k : ℕ) → DefiniteTo net s (end_of root p) k → k ≤ strength net root p) → NotOvercome net s root p
    not_overcome root p n = n

module _ (net : Network) (s : List Level) (kind : PathKind) (Inner : ℕ → Type 0) (floor : List ℕ) where
  -- a node rises and waits
  pub rise : (best : List ℕ) (waiting new : List Bool) (busy : List ℕ) (v : ℕ) (w : Switch) (b c : ℕ) → IsWorking net s kind Inner floor best waiting busy →
      Contains net.switches w → Joins w v b → goes_through s kind w ≡ true → Inner v → Inner b →
      IsFloor net s kind b (slice_index floor b) →
      c ≡ min (slice_index best v) (switch_strength w.kind) → slice_index best b < c → slice_index floor b ≤ c → b < length best →
      IsInside new b → ((u : ℕ) → IsInside waiting u → IsInside new u) → ((u : ℕ) → IsInside new u → IsInside waiting u ⊎ (u ≡ b)) →
      IsWorking net s kind Inner floor (slice_set best b c) new busy
  rise best waiting new busy v w b c k con j g in_v in_b fl e more above in_best here grown others = record {
    attained = λ a ins pos. elim (cases_eq a b) [
      | inl same ↦ (let pos_v : 0 < slice_index best v = omega arith in
          let t = extend net s kind w v b (slice_index best v) (slice_index floor b) (k.attained v in_v pos_v) con j g fl (omega arith) in
          rw (same, get_or-set_same best b c 0 in_best, e) t)
      | inr other ↦ (let kept : get_or (slice_set best b c) a 0 ≡ get_or best a 0 = get_or-set_other best b a c 0 other in
          let pos_old : 0 < get_or best a 0 = omega (arith, kept) in rw kept (k.attained a ins pos_old))
    ];
    waits = λ u ins. elim (others u ins) [ inl old ↦ k.waits u old | inr is ↦ rw is in_b ];
    settled = λ side i d lt ins. elim (k.settled side i d lt ins) [
      | inl x ↦ inl x
      | inr y ↦ inr (waits_on side (slice_index_or net.switches i d) y)
    ];
  }
    where
      waits_on : (side : Side) (x : Switch) → IsInside waiting (near_end side x) ⊎ IsRelaxed s kind Inner floor best side x →
          IsInside new (near_end side x) ⊎ IsRelaxed s kind Inner floor (slice_set best b c) side x
      waits_on side x (inl q) = inl (grown (near_end side x) q)
      waits_on side x (inr rel) = elim (cases_eq (near_end side x) b) [
        | inl same ↦ inl (rw same here)
        | inr other ↦ inr (λ go in_far le.
            let kept : get_or (slice_set best b c) (near_end side x) 0 ≡ get_or best (near_end side x) 0 = get_or-set_other best b (near_end side x) c 0
            other in
            let old = rel go in_far (rw kept at le) in
            rw kept (elim (cases_eq (far_end side x) b) [
              | inl at ↦ rw (at, get_or-set_same best b c 0 in_best) (let f : slice_index best (far_end side x) ≡ slice_index best b = ap (slice_index best)
                  at in omega (arith, old, f, more))
              | inr off ↦ rw (get_or-set_other best b (far_end side x) c 0 off) old
            ]))
      ]

  -- a node that waits is taken to be looked at
  pub take : (best : List ℕ) (waiting new : List Bool) (node : ℕ) → IsWorking net s kind Inner floor best waiting [] → ((u : ℕ) → IsInside new u →
      IsInside waiting u) →
      ((u : ℕ) → IsInside waiting u → (u ≡ node) ⊎ IsInside new u) → IsWorking net s kind Inner floor best new (node ∷ [])
  take best waiting new node w left kept = record {
    attained = w.attained;
    waits = λ v ins. w.waits v (left v ins);
    settled = λ side k d lt ins. elim (w.settled side k d lt ins) [
      | inl none ↦ absurd none
      | inr y ↦ go side (slice_index_or net.switches k d) y
    ];
  }
    where
      go : (side : Side) (x : Switch) → IsInside waiting (near_end side x) ⊎ IsRelaxed s kind Inner floor best side x →
          In (near_end side x) (node ∷ []) ⊎ (IsInside new (near_end side x) ⊎ IsRelaxed s kind Inner floor best side x)
      go side x (inl q) = elim (kept (near_end side x) q) [ inl is ↦ inl (inl (sym is)) | inr still ↦ inr (inl still) ]
      go side x (inr rel) = inr (inr rel)

  -- it is done with when its switches bring no more
  pub finish : (best : List ℕ) (waiting : List Bool) (node : ℕ) → IsWorking net s kind Inner floor best waiting (node ∷ []) →
      ((k : ℕ) (d : Switch) → k < length net.switches → near_end Left (slice_index_or net.switches k d) ≡ node →
      IsRelaxed s kind Inner floor best Left (slice_index_or net.switches k d)) →
      ((k : ℕ) (d : Switch) → k < length net.switches → near_end Right (slice_index_or net.switches k d) ≡ node →
      IsRelaxed s kind Inner floor best Right (slice_index_or net.switches k d)) →
      IsWorking net s kind Inner floor best waiting []
  finish best waiting node w left right = record {
    attained = w.attained;
    waits = w.waits;
    settled = λ side k d lt ins. elim (w.settled side k d lt ins) [
      | inl q ↦ elim q [ inl is ↦ inr (inr (both side k d lt (sym is))) | inr none ↦ absurd none ]
      | inr y ↦ inr y
    ];
  }
    where
      both : (side : Side) (k : ℕ) (d : Switch) → k < length net.switches → near_end side (slice_index_or net.switches k d) ≡ node →
          IsRelaxed s kind Inner floor best side (slice_index_or net.switches k d)
      both Left k d lt is = left k d lt is
      both Right k d lt is = right k d lt is

-- a switch that brings no more brings no more when other entries rise
pub relaxed_up : (s : List Level) (kind : PathKind) (Inner : ℕ → Type 0) (floor best new : List ℕ) (side : Side) (w : Switch) →
    slice_index new (near_end side w) ≡ slice_index best (near_end side w) →
    ((a : ℕ) → slice_index best a ≤ slice_index new a) → IsRelaxed s kind Inner floor best side w → IsRelaxed s kind Inner floor new side w
relaxed_up s kind Inner floor best new side w same above old go ins le = let r = old go ins (rw same at le) in rw same
    (omega (arith, r, above (far_end side w)))

-- a node rises only for what it pays
pub raised_more : (best : List ℕ) (before after b c : ℕ) → b < length best → slice_index best b < c → after ≤ before + 1 →
    IsRaised best (slice_set best b c) before after
raised_more best before after b c in_b more few = record {
  above = λ a. elim (cases_eq a b) [
    | inl same ↦ rw (same, get_or-set_same best b c 0 in_b) (omega arith)
    | inr other ↦ rw (get_or-set_other best b a c 0 other) (omega arith)
  ];
  risen = omega (arith, sum_by-set (λ (x : ℕ). x) best b c 0 in_b);
  paid = omega (arith, sum_by-set (λ (x : ℕ). x) best b c 0 in_b);
}

pub raised_same : (best : List ℕ) (waiting : ℕ) → IsRaised best best waiting waiting
raised_same best waiting = record { above = λ a. omega arith; risen = omega arith; paid = omega arith }

pub raised_then : (a b c : List ℕ) (i j k : ℕ) → IsRaised a b i j → IsRaised b c j k → IsRaised a c i k
raised_then a b c i j k r q = record {
  above = λ v. omega (arith, r.above v, q.above v);
  risen = omega (arith, r.risen, q.risen);
  paid = omega
      (arith, r.paid, q.paid);
}

-- a node rises by a lift and waits
pub rise_by_lift : (net : Network) (s : List Level) (kind : PathKind) (Inner : ℕ → Type 0) (floor best lifted : List ℕ) (waiting new : List Bool)
    (busy : List ℕ) (side : Side) (w : Switch) (a b g : ℕ) →
    a ≡ near_end side w → b ≡ far_end side w → g ≡ switch_strength w.kind → IsLift floor best lifted a b g true → goes_through s kind w ≡ true →
    Inner (near_end side w) → Inner b →
    ((v : ℕ) → Inner v → IsFloor net s kind v (slice_index floor v)) → Contains net.switches w → b < length best →
    IsInside new b → ((u : ℕ) → IsInside waiting u → IsInside new u) → ((u : ℕ) → IsInside new u → IsInside waiting u ⊎ (u ≡ b)) →
    IsWorking net s kind Inner floor best waiting busy → IsWorking net s kind Inner floor lifted new busy
rise_by_lift net s kind Inner floor best lifted waiting new busy side w a b g ea eb eg lift go in_a in_b floors con lt here grown others k =
    let same : slice_index best a ≡ slice_index best (near_end side w) = ap (slice_index best) ea in
    rw lift.0 (rise net s kind Inner floor best waiting new busy (near_end side w) w b (min (slice_index best a) g) k con (rw eb (joins side w)) go in_a
    in_b (floors b in_b)
    (rw (same, eg) refl) lift.1 lift.2 lt here grown others)

pub far_below : (side : Side) (w : Switch) (n : ℕ) → w.left < n → w.right < n → far_end side w < n
far_below Left w n l r = r
far_below Right w n l r = l

-- bytes are at most 255
pub total-le : (best : List ℕ) → ((v : ℕ) → v < length best → slice_index best v < 256) → total best ≤ length best * 255
total-le best low = sum_by-le (λ (x : ℕ). x) 255 best (All-from_get_or (λ x. x ≤ 255) best 0 (λ k lt. let r = low k lt in omega (arith, r)))
