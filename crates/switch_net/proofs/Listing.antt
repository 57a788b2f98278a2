-- Sets of nodes.
use Rattle.switch_net.proofs.Common.{◌≡◌, ◌≢◌, ℕ, zero, suc, ◌+◌, ◌-◌, ◌<◌, ◌≤◌, List, Bool, true, false, inl, inr, sym, ap, subst, arith, length}
use Rattle.switch_net.proofs.Common.{slice_index, slice_index_or, slice_set, get_or-set_same, get_or-set_other, ◌∙◌, cond, cases_eq, cases_lt}
use Rattle.switch_net.proofs.Common.{length-set, get_or-eq_default}
use Rattle.std.specs.Prelude.{count_by}
use Rattle.std.proofs.lemmas.List.Sums.{count_by-le-length, sum_by-set}
use Rattle.switch_net.specs.Sets.{IsInside, IsAmong, AreListed}

-- one more is marked
count-set : (inside : List Bool) (v : ℕ) → v < length inside → slice_index_or inside v false ≡ false →
    count_by (λ b. b) (slice_set inside v true) ≡ count_by (λ b. b) inside + 1
count-set inside v lt e = let r = sum_by-set (λ (b : Bool). cond b 1 0) inside v true false lt in let r' = rw e at r in omega (arith, r')

-- one less is marked
count-unset : (inside : List Bool) (v : ℕ) → v < length inside → IsInside inside v → count_by (λ b. b) (slice_set inside v false) + 1 ≡ count_by (λ b. b) inside
count-unset inside v lt e = let r = sum_by-set (λ (b : Bool). cond b 1 0) inside v false false lt in let r' = rw e at r in omega (arith, r')

-- a marked node is one of those that have a mark
pub inside_range : (inside : List Bool) (v : ℕ) → IsInside inside v → v < length inside
inside_range inside v e = elim (cases_lt v (length inside)) [
  | inl lt ↦ lt
  | inr ge ↦ (let f : slice_index_or inside v false ≡ false = get_or-eq_default inside false ge in absurd (cc))
]

-- a mark more takes none off
pub set_grown : (inside : List Bool) (v u : ℕ) → v < length inside → IsInside inside u → IsInside (slice_set inside v true) u
set_grown inside v u in_v ins = elim (cases_eq u v) [
  | inl same ↦ rw same (get_or-set_same inside v true false in_v)
  | inr other ↦ rw (get_or-set_other inside v u true false other) ins
]

-- a node that is not known to differ from each listed one is listed
among : (order : List ℕ) (count v : ℕ) → ¬ ((i : ℕ) → i < count → slice_index order i ≢ v) → IsAmong order count v
among order zero v not_none = absurd (not_none (λ i lt. absurd (omega arith)))
among order (suc n) v not_none = elim (cases_eq (slice_index order n) v) [
  | inl same ↦ (n, omega arith, same)
  | inr other ↦ (let r = among order n v (λ none. not_none (λ i lt. elim (cases_eq i n) [ inl e ↦ rw e other | inr ne ↦ none i (omega arith) ])) in
      (r.0, omega (arith, r.1), r.2))
]

-- a marked node is listed
pub known : (inside : List Bool) (order : List ℕ) (count v : ℕ) → AreListed inside order count → IsInside inside v → IsAmong order count v
known inside order count v k ins = among order count v (k.known v ins)

-- where none is listed, none is marked
pub none_inside : (inside : List Bool) (order : List ℕ) (count v : ℕ) → AreListed inside order count → count ≡ 0 → IsInside inside v → ⊥
none_inside inside order count v k none ins = k.known v ins (λ i lt. absurd (omega arith))

-- at most all are listed
pub count-le : (inside : List Bool) (order : List ℕ) (count : ℕ) → AreListed inside order count → count ≤ length inside
count-le inside order count k = omega (arith, count_by-le-length (λ (b : Bool). b) inside, k.counted)

-- a list with an unmarked node has room for it
pub has_room : (inside : List Bool) (order : List ℕ) (count v : ℕ) → AreListed inside order count → v < length inside →
    slice_index_or inside v false ≡ false → count < length order
has_room inside order count v k lt free =
    omega (arith, count-set inside v lt free, count_by-le-length (λ (b : Bool). b) (slice_set inside v true), length-set {A = Bool}, k.counted, k.room)

-- one more is added
pub added : (inside : List Bool) (order : List ℕ) (count v : ℕ) → AreListed inside order count → v < length inside → slice_index_or inside v false ≡ false →
    AreListed (slice_set inside v true) (slice_set order count v) (count + 1)
added inside order count v k in_v free = record {
  room = simp length-set k.room;
  counted = omega (arith, count-set inside v in_v free, k.counted);
  listed = λ i lt. elim (cases_eq i count) [
    | inl same ↦ rw (same, at_end) (get_or-set_same inside v true false in_v)
    | inr other ↦ rw (get_or-set_other order count i v 0 other) (set_grown inside v (slice_index order i) in_v (k.listed i (omega arith)))
  ];
  distinct = λ i j lt below same.
      let e = before i (omega arith) in
      elim (cases_eq j count) [
        | inl at ↦ (let f : slice_index order i ≡ v = sym e ∙ (same ∙ (ap (slice_index (slice_set order count v)) at ∙ at_end)) in
            let ins = rw f at (k.listed i (omega arith)) in absurd (cc))
        | inr ne ↦ k.distinct i j lt (omega arith) (sym e ∙ (same ∙ get_or-set_other order count j v 0 ne))
      ];
  known = λ u ins none. elim (cases_eq u v) [
    | inl same ↦ none count (omega arith) (at_end ∙ sym same)
    | inr other ↦ k.known u (rw (get_or-set_other inside v u true false other) at ins) (λ i lt e. none i (omega arith) (before i lt ∙ e))
  ];
}
  where
    at_end : slice_index (slice_set order count v) count ≡ v
    at_end = get_or-set_same order count v 0 (has_room inside order count v k in_v free)

    before : (i : ℕ) → i < count → slice_index (slice_set order count v) i ≡ slice_index order i
    before i lt = let ne : i ≢ count = omega arith in get_or-set_other order count i v 0 ne

-- the last one is taken
pub taken : (inside : List Bool) (order : List ℕ) (count v : ℕ) → AreListed inside order (count + 1) → v ≡ slice_index order count →
    AreListed (slice_set inside v false) order count
taken inside order count v k is_v = record {
  room = simp length-set k.room;
  counted = omega (arith, count-unset inside v in_v (rw is_v (k.listed count (omega arith))), k.counted);
  listed = λ i lt. let ne : slice_index order i ≢ v = λ e. k.distinct i count lt (omega arith) (e ∙ is_v) in
      rw (get_or-set_other inside v (slice_index order i) false false ne) (k.listed i (omega arith));
  distinct = λ i j lt below. k.distinct i j lt (omega arith);
  known = λ u ins none. elim (cases_eq u v) [
    | inl same ↦ absurd (let f = rw (same, get_or-set_same inside v false false in_v) at ins in cc)
    | inr other ↦ k.known u (rw (get_or-set_other inside v u false false other) at ins) (λ i lt e. elim (cases_eq i count) [
      | inl at ↦ other (sym e ∙ (ap (slice_index order) at ∙ sym is_v))
      | inr ne ↦ none i (omega arith) e
    ])
  ];
}
  where
    in_v : v < length inside
    in_v = inside_range inside v (rw is_v (k.listed count (omega arith)))

pub taken_from : (inside : List Bool) (order : List ℕ) (n v : ℕ) → 0 < n → AreListed inside order n → v ≡ slice_index order (n - 1) →
    AreListed (slice_set inside v false) order (n - 1)
taken_from inside order n v pos k is_v = let e : n ≡ (n - 1) + 1 = omega arith in taken inside order (n - 1) v
    (subst (λ (m : ℕ). AreListed inside order m) e k) is_v
