-- A vicinity that is explored behind others.
use Rattle.steady_state.proofs.Common.{◌≡◌, ℕ, ◌+◌, ◌-◌, ◌<◌, ◌≤◌, List, true, false, inl, inr, refl, sym, ap, subst, arith, length, ◌∙◌}
use Rattle.steady_state.proofs.Common.{slice_index, slice_index_or, take, drop, get_or-take, Contains, cases_lt, cases_Bool, length-take-le, NodeSet}
use Rattle.steady_state.proofs.Common.{Level, Switch, Side, Left, Right, Network, is_closed_or_unknown, IsAmong, IsInside, near_end, far_end}
use Rattle.steady_state.proofs.Common.{IsStorage, count-le, known, Part, AreMarked, AddsMarks, IsCovered, IsInPart, IsPartOf}
use Rattle.std.proofs.lemmas.List.{get_or-drop, length-drop}
use Rattle.steady_state.specs.Marked.{AreClosed, IsLate}

-- the list from there on has those that are listed late
module _ (marks : NodeSet) (before : ℕ) (order : List ℕ) (is_order : order ≡ drop before (take marks.count marks.order)) where
  room : marks.count ≤ length marks.order
  room = omega (arith, count-le marks.inside marks.order marks.count marks.listed, marks.listed.room)

  late_length : length order ≡ marks.count - before
  late_length = rw is_order (omega (arith, length-drop before (take marks.count marks.order), length-take-le marks.count marks.order room))

  late_get : (i : ℕ) → before + i < marks.count → slice_index order i ≡ slice_index marks.order (before + i)
  late_get i lt = rw is_order (get_or-drop before (take marks.count marks.order) i 0 ∙ get_or-take marks.count marks.order (before + i) 0 lt)

  pub among_late : (v : ℕ) → IsAmong order (length order) v → IsLate marks before v
  among_late v q =
      let lt : before + q.0 < marks.count = omega (arith, q.1, late_length) in
      (before + q.0, omega arith, lt, sym (late_get q.0 lt) ∙ q.2)

  pub late_among : (v : ℕ) → IsLate marks before v → IsAmong order (length order) v
  late_among v q =
      let e : before + (q.0 - before) ≡ q.0 = omega (arith, q.1) in
      (q.0 - before, omega (arith, q.1, q.2, late_length), late_get (q.0 - before) (omega (arith, e, q.2)) ∙ (ap (slice_index marks.order) e ∙ q.3))

module _ (old new : NodeSet) (adds : AddsMarks old new) where
  -- what was marked before is not listed late
  pub apart : (v : ℕ) → IsLate new old.count v → IsInside old.inside v → ⊥
  apart v late ins =
      let q = known old.inside old.order old.count v old.listed ins in
      new.listed.distinct q.0 late.0 (omega (arith, q.1, late.1)) late.2 (adds.same q.0 q.1 ∙ (q.2 ∙ sym late.3))

  -- a marked node that was not marked before is listed late
  pub late : (v : ℕ) → IsInside new.inside v → ¬ (IsInside old.inside v) → IsLate new old.count v
  late v ins out =
      let q = known new.inside new.order new.count v new.listed ins in (
        q.0,
        elim (cases_lt q.0 old.count) [
          | inl before ↦ absurd (out (subst (λ (u : ℕ). IsInside old.inside u) (sym (adds.same q.0 before) ∙ q.2) (old.listed.listed q.0 before)))
          | inr ge ↦ ge
        ],
        q.1,
        q.2,
      )

  pub late_inside : (v : ℕ) → IsLate new old.count v → IsInside new.inside v
  late_inside v q = subst (λ (u : ℕ). IsInside new.inside u) q.3 (new.listed.listed q.0 q.2)

  module _ (net : Network) (s : List Level) (closed : AreClosed net s old.inside) (marks : AreMarked net new)
      (left : (i : ℕ) → old.count ≤ i → i < new.count → IsCovered net s Left new.inside (slice_index new.order i))
      (right : (i : ℕ) → old.count ≤ i → i < new.count → IsCovered net s Right new.inside (slice_index new.order i)) where
    -- more marks leave covered what was covered
    grown : (side : Side) (v : ℕ) → IsCovered net s side old.inside v → IsCovered net s side new.inside v
    grown side v c k d lt near o st = adds.grown (far_end side (slice_index_or net.switches k d)) (c k d lt near o st)

    covered_at : (side : Side) {a b : ℕ} → a ≡ b → IsCovered net s side new.inside a → IsCovered net s side new.inside b
    covered_at side {a} {b} e c = subst (λ (x : ℕ). IsCovered net s side new.inside x) e c

    -- all marked nodes are closed
    pub closed_again : AreClosed net s new.inside
    closed_again = record {
      left = λ v ins. elim (cases_Bool (slice_index_or old.inside v false)) [
        | inl before ↦ grown Left v (closed.left v before)
        | inr out ↦ (let q = late v ins (λ e. cc) in covered_at Left q.3 (left q.0 q.1 q.2))
      ];
      right = λ v ins. elim (cases_Bool (slice_index_or old.inside v false)) [
        | inl before ↦ grown Right v (closed.right v before)
        | inr out ↦ (let q = late v ins (λ e. cc) in covered_at Right q.3 (right q.0 q.1 q.2))
      ];
    }

    -- a switch that leads to a node that was marked before comes from one
    before_far : (side : Side) (w : Switch) → Contains net.switches w → is_closed_or_unknown s w ≡ true → IsStorage net (near_end side w) →
        IsInside old.inside (far_end side w) → IsInside old.inside (near_end side w)
    before_far Left w c o st ins = let r = closed.right w.right ins c.0 w c.1 (rw c.2 refl) (rw c.2 o) in rw c.2 at (r (rw c.2 st))
    before_far Right w c o st ins = let r = closed.left w.left ins c.0 w c.1 (rw c.2 refl) (rw c.2 o) in rw c.2 at (r (rw c.2 st))

    far_late : (side : Side) (w : Switch) → Contains net.switches w → is_closed_or_unknown s w ≡ true → IsLate new old.count (near_end side w) →
        IsInside new.inside (far_end side w) → IsLate new old.count (far_end side w)
    far_late side w c o near ins = late (far_end side w) ins (λ before. apart (near_end side w) near
        (before_far side w c o (marks.storage (near_end side w) (late_inside (near_end side w) near)) before))

    -- what is listed late is closed
    pub late_closed : (side : Side) (w : Switch) → Contains net.switches w → IsLate new old.count (near_end side w) → is_closed_or_unknown s w ≡ true →
        IsStorage net (far_end side w) → IsLate new old.count (far_end side w)
    late_closed Left w c near o st = far_late Left w c o near
        (let r = closed_again.left w.left (late_inside w.left near) c.0 w c.1 (rw c.2 refl) (rw c.2 o) in rw c.2 at (r (rw c.2 st)))
    late_closed Right w c near o st = far_late Right w c o near
        (let r = closed_again.right w.right (late_inside w.right near) c.0 w c.1 (rw c.2 refl) (rw c.2 o) in rw c.2 at (r (rw c.2 st)))

    -- and so makes a part
    pub part_of : (part : Part) → part.state.now ≡ s → length s ≡ net.nodes → ((v : ℕ) → IsInPart part v → IsLate new old.count v) →
        ((v : ℕ) → IsLate new old.count v → IsInPart part v) → IsPartOf net part
    part_of part same len to from = record {
      state = ap length same ∙ len;
      storage = λ v ins. marks.storage v (late_inside v (to v ins));
      closed = λ side w c ins o st. from (far_end side w) (late_closed side w c (to (near_end side w) ins) (rw same at o) st);
    }
