-- What paths begin with at a node, and the strengths with which a pass begins.
use Rattle.steady_state.proofs.Common.{◌≡◌, ◌≢◌, ℕ, ◌+◌, ◌<◌, ◌≤◌, List, [], inl, inr, ap, subst, arith, length, slice_index, slice_index_or}
use Rattle.steady_state.proofs.Common.{slice_set, get_or-set_same, get_or-set_other, cases_eq, Level, One, Zero, Switch, Side, Left, Right, Network}
use Rattle.steady_state.proofs.Common.{IsSound, IsAmong, near_end, far_end, root_strength-pos, ends_in_range, PathKind, Definite, FromOther}
use Rattle.steady_state.proofs.Common.{AreGathering, AreGatheredAt, AreMore, BringAtMost, IsFloor, HasPath, IsFirstStrength, IsRelaxed}
use Rattle.steady_state.specs.declared.beginning.Begun.{Begun}
use Rattle.steady_state.specs.steps.Gathering.{IsGathered, AreGathered, ArePulled}
use Rattle.steady_state.proofs.Within.{brings_up, brought, by_itself, pulled_up}

pub none_more : (b : Begun) → AreMore b b
none_more b = record { definite = omega arith; other_than_one = omega arith; other_than_zero = omega arith }

pub more_then : (a b c : Begun) → AreMore a b → AreMore b c → AreMore a c
more_then a b c p q = record {
  definite = omega (arith, p.definite, q.definite);
  other_than_one = omega (arith, p.other_than_one, q.other_than_one);
  other_than_zero = omega (arith, p.other_than_zero, q.other_than_zero);
}

-- what inputs bring at most they bring at most where that is more
pub bring_up : (net : Network) (s : List Level) (side : Side) (w : Switch) (a b : Begun) → AreMore a b → BringAtMost net s side w a → BringAtMost net s side w b
bring_up net s side w a b more x = record {
  of_definite = brings_up net s Definite [] side a.definite b.definite w more.definite x.of_definite;
  of_other_than_one = brings_up net s (FromOther One) [] side a.other_than_one b.other_than_one w more.other_than_one x.of_other_than_one;
  of_other_than_zero = brings_up net s (FromOther Zero) [] side a.other_than_zero b.other_than_zero w more.other_than_zero x.of_other_than_zero;
}

pub pulled_of : (net : Network) (s : List Level) (side : Side) (v : ℕ) (b : Begun) →
    ((k : ℕ) (d : Switch) → k < length net.switches → near_end side (slice_index_or net.switches k d) ≡ v →
    BringAtMost net s side (slice_index_or net.switches k d) b) → ArePulled net s side v b
pulled_of net s side v b each = record {
  of_definite = λ k d lt is. (each k d lt is).of_definite;
  of_other_than_one = λ k d lt is. (each k d lt is).of_other_than_one;
  of_other_than_zero = λ k d lt is. (each k d lt is).of_other_than_zero;
}

-- when the switches on both sides were looked at, all is gathered
pub gathered_of : (net : Network) (s : List Level) (v : ℕ) (a b : Begun) → AreMore a b → ArePulled net s Left v a → ArePulled net s Right v b →
    AreGathering net s v b → AreGathered net s v b
gathered_of net s v a b more left right g = record {
  of_definite = record {
    gathering = g.of_definite;
    left = pulled_up net s Definite [] Left v a.definite b.definite more.definite left.of_definite;
    right = right.of_definite;
  };
  of_other_than_one = record {
    gathering = g.of_other_than_one;
    left = pulled_up net s (FromOther One) [] Left v a.other_than_one b.other_than_one more.other_than_one left.of_other_than_one;
    right = right.of_other_than_one;
  };
  of_other_than_zero = record {
    gathering = g.of_other_than_zero;
    left = pulled_up net s (FromOther Zero) [] Left v a.other_than_zero b.other_than_zero more.other_than_zero left.of_other_than_zero;
    right = right.of_other_than_zero;
  };
}

-- the entries of one node more are written
pub gathered_more : (net : Network) (s : List Level) (order after : List ℕ) (a n : ℕ) (d o z : List ℕ) (b : Begun) →
    slice_index order n < length d → slice_index order n < length o → slice_index order n < length z →
    ((i : ℕ) → i < n → slice_index order i ≢ slice_index order n) → ((i : ℕ) → i < n + 1 → slice_index after i ≡ slice_index order i) →
    AreGathered net s (slice_index order n) b → ((i : ℕ) → a ≤ i → i < n → AreGatheredAt net s (slice_index order i) d o z) →
    (i : ℕ) → a ≤ i → i < n + 1 →
    AreGatheredAt net s (slice_index after i) (slice_set d (slice_index order n) b.definite) (slice_set o (slice_index order n) b.other_than_one)
    (slice_set z (slice_index order n) b.other_than_zero)
gathered_more net s order after a n d o z b in_d in_o in_z distinct same here old i above lt = rw (same i lt) (elim (cases_eq i n) [
  | inl is ↦ rw (is, get_or-set_same d v b.definite 0 in_d, get_or-set_same o v b.other_than_one 0 in_o, get_or-set_same z v b.other_than_zero 0 in_z) here
  | inr other ↦ (let before : i < n = omega arith in
      let ne = distinct i before in
      rw (
        get_or-set_other d v (slice_index order i) b.definite 0 ne,
        get_or-set_other o v (slice_index order i) b.other_than_one 0 ne,
        get_or-set_other z v (slice_index order i) b.other_than_zero 0 ne,
      ) (old i above before))
])
  where
    v : ℕ
    v = slice_index order n

module _ (net : Network) (s : List Level) (sound : IsSound net) (kind : PathKind) (floor : List ℕ) (v k : ℕ) (in_v : v < net.nodes)
    (fl : IsFloor net s kind v (slice_index floor v)) (g : IsGathered net s kind v k) where
  -- what is no less than the floor is the first strength
  pub first_above : slice_index floor v ≤ k → IsFirstStrength net s kind floor v k
  first_above le = record {
    attained = λ pos. elim (g.gathering.source pos) [
      | inl own ↦ (let e = own.is_strength in
          subst (λ (n : ℕ). HasPath net s kind v n) e (by_itself net s kind v (slice_index floor v) in_v own.begins fl (omega (arith, e))))
      | inr b ↦ (let e = b.is_strength in
          subst (λ (n : ℕ). HasPath net s kind v n) e (brought net s sound kind b.through b.root v (slice_index floor v) b.stands b.joins b.goes b.input
          (ends_in_range net sound b.through b.root v b.stands b.joins).0 b.begins fl (omega (arith, e))))
    ];
    own = λ adm le'. g.gathering.own adm;
    left = λ i d lt is go inp adm le'. g.left i d lt is go inp adm (omega arith);
    right = λ i d lt is go inp adm le'. g.right i d lt is go inp adm (omega arith);
  }

  -- what is less than the floor is none
  pub first_below : k < slice_index floor v → IsFirstStrength net s kind floor v 0
  first_below less = record {
    attained = λ pos. absurd (omega arith);
    own = λ adm le. absurd (let r = g.gathering.own adm in omega (arith, r));
    left = λ i d lt is go inp adm le. absurd (let r = g.left i d lt is go inp adm (omega arith) in let e = ap (slice_index floor) is in omega (arith, r, e));
    right = λ i d lt is go inp adm le. absurd (let r = g.right i d lt is go inp adm (omega arith) in let e = ap (slice_index floor) is in omega (arith, r, e));
  }

-- two nodes of a list that has one alone are the same
alone : (order : List ℕ) (a b : ℕ) → length order ≤ 1 → IsAmong order (length order) a → IsAmong order (length order) b → a ≡ b
alone order a b few p q =
    let e : p.0 ≡ q.0 = omega (arith, p.1, q.1) in
    cc (p.2, q.2, ap (slice_index order) e)

module _ (s : List Level) (kind : PathKind) (order floor best : List ℕ) (side : Side) (w : Switch) where
  -- a switch that leads to the node that it comes from brings no more
  pub relaxed_alone : length order ≤ 1 → IsAmong order (length order) (near_end side w) →
      IsRelaxed s kind (λ v. IsAmong order (length order) v) floor best side w
  relaxed_alone few ins go far le =
      let e = ap (slice_index best) (alone order (far_end side w) (near_end side w) few far ins) in omega (arith, e)

  -- nor does one from a node that has no more than others have at least
  pub relaxed_least : (n : ℕ) → slice_index best (near_end side w) ≤ n → ((v : ℕ) → IsAmong order (length order) v → n ≤ slice_index best v) →
      IsRelaxed s kind (λ v. IsAmong order (length order) v) floor best side w
  relaxed_least n few least go far le = let r = least (far_end side w) far in omega (arith, r)

-- each node has at least the strength 1 by itself
pub least_definite : (net : Network) (s : List Level) (sound : IsSound net) (v k : ℕ) → v < net.nodes → IsGathered net s Definite v k → 1 ≤ k
least_definite net s sound v k lt g = let r = g.gathering.own tt in omega (arith, r, root_strength-pos net sound v lt)
