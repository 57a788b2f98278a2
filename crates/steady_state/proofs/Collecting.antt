-- Marks.
use Rattle.steady_state.proofs.Common.{◌≡◌, ℕ, ◌+◌, ◌<◌, ◌≤◌, List, [], ◌∷◌, Bool, true, inl, inr, refl, sym, ap, subst, arith, length, ◌∙◌}
use Rattle.steady_state.proofs.Common.{slice_index, slice_index_or, Contains, cases_eq, get_or_default, NodeSet, Level, Switch, Side, Left, Right}
use Rattle.steady_state.proofs.Common.{Network, Hop, end_of, is_closed_or_unknown, IsInside, near_end, far_end, IsStorage, IsChain, IsReached}
use Rattle.steady_state.proofs.Common.{count-le, none_inside, in_more, in_self, chain_from, AreMarked, AddsMarks, AreReached, IsCovered, LeadsInside}
use Rattle.steady_state.proofs.UnderWay.{joins}

pub adds_none : (marks : NodeSet) → AddsMarks marks marks
adds_none marks = record { grown = λ u ins. ins; same = λ i lt. refl; more = omega arith }

pub adds_then : (a b c : NodeSet) → AddsMarks a b → AddsMarks b c → AddsMarks a c
adds_then a b c p q = record {
  grown = λ u ins. q.grown u (p.grown u ins);
  same = λ n lt. q.same n (omega (arith, p.more)) ∙ p.same n lt;
  more = omega (arith, p.more, q.more);
}

-- in an empty set no node is marked
pub none_marked : (net : Network) (marks : NodeSet) → length marks.inside ≡ net.nodes → marks.count ≡ 0 → AreMarked net marks
none_marked net marks fits none = record { fits = fits; storage = λ v ins. absurd (none_inside marks.inside marks.order marks.count v marks.listed none ins) }

-- with none marked, the marked nodes are reached from any seeds
pub none_reached : (net : Network) (s : List Level) (seeds : List ℕ) (marks : NodeSet) → marks.count ≡ 0 → AreReached net s seeds marks.inside
none_reached net s seeds marks none v ins = absurd (none_inside marks.inside marks.order marks.count v marks.listed none ins)

-- at most all nodes are marked
pub marked-le : (net : Network) (marks : NodeSet) → AreMarked net marks → marks.count ≤ net.nodes
marked-le net marks k = omega (arith, count-le marks.inside marks.order marks.count marks.listed, k.fits)

-- more marks leave what leads to marked nodes so
pub leads_grown : (net : Network) (s : List Level) (side : Side) (inside new : List Bool) (w : Switch) → ((u : ℕ) → IsInside inside u → IsInside new u) →
    LeadsInside net s side inside w → LeadsInside net s side new w
leads_grown net s side inside new w grown old o st = grown (far_end side w) (old o st)

pub covered_grown : (net : Network) (s : List Level) (side : Side) (inside new : List Bool) (v : ℕ) → ((u : ℕ) → IsInside inside u → IsInside new u) →
    IsCovered net s side inside v → IsCovered net s side new v
covered_grown net s side inside new v grown c k d lt near = leads_grown net s side inside new (slice_index_or net.switches k d) grown (c k d lt near)

-- what a reached node leads to is reached
pub reached_more : (net : Network) (s : List Level) (seeds : List ℕ) (side : Side) (w : Switch) → IsReached net s seeds (near_end side w) →
    Contains net.switches w → is_closed_or_unknown s w ≡ true →
    IsStorage net (far_end side w) → IsReached net s seeds (far_end side w)
reached_more net s seeds side w r c o st = record {
  seed = r.seed;
  is_seed = r.is_seed;
  joined = in_more net s r.seed (near_end side w) (far_end side w) w
      r.joined c (joins side w) o st;
}

-- a seed is reached
pub seed_reached : (net : Network) (s : List Level) (seeds : List ℕ) (v : ℕ) → Contains seeds v → IsStorage net v → IsReached net s seeds v
seed_reached net s seeds v c st = record { seed = v; is_seed = c; joined = in_self net s v st }

-- one seed more is marked
pub seeded_more : (net : Network) (seeds : List ℕ) (inside new : List Bool) (n : ℕ) → n < length seeds → ((u : ℕ) → IsInside inside u → IsInside new u) →
    (IsStorage net (slice_index seeds n) → IsInside new (slice_index seeds n)) → ((k d : ℕ) → k < n → IsStorage net (slice_index_or seeds k d) →
    IsInside inside (slice_index_or seeds k d)) →
    (k d : ℕ) → k < n + 1 → IsStorage net (slice_index_or seeds k d) → IsInside new (slice_index_or seeds k d)
seeded_more net seeds inside new n in_n grown here old k d lt st = elim (cases_eq k n) [
  | inl same ↦ (let e : slice_index_or seeds k d ≡ slice_index seeds n = rw (same, get_or_default seeds n d 0 in_n) refl in rw e (here (rw e at st)))
  | inr other ↦ grown (slice_index_or seeds k d) (old k d (omega arith) st)
]

-- the nodes that are gone by are covered, from some node on
pub covered_late : (net : Network) (s : List Level) (side : Side) (inside new : List Bool) (order after : List ℕ) (first n count : ℕ) → n < count →
    ((u : ℕ) → IsInside inside u → IsInside new u) →
    ((i : ℕ) → i < count → slice_index after i ≡ slice_index order i) → IsCovered net s side new (slice_index order n) → ((i : ℕ) → first ≤ i → i < n →
    IsCovered net s side inside (slice_index order i)) →
    (i : ℕ) → first ≤ i → i < n + 1 → IsCovered net s side new (slice_index after i)
covered_late net s side inside new order after first n count in_n grown same here old i from lt = elim (cases_eq i n) [
  | inl e ↦ (let f : slice_index after i ≡ slice_index order n = same i (omega arith) ∙ ap (slice_index order) e in covered_at f here)
  | inr other ↦ covered_at (same i (omega arith)) (covered_grown net s side inside new (slice_index order i) grown (old i from (omega arith)))
]
  where
    covered_at : {a b : ℕ} → a ≡ b → IsCovered net s side new b → IsCovered net s side new a
    covered_at {a} {b} e c = subst (λ (x : ℕ). IsCovered net s side new x) (sym e) c

-- what a chain of the part reaches is in the part
pub chain_inside : (net : Network) (s : List Level) (inside : List Bool) → ((v : ℕ) → IsInside inside v → IsCovered net s Left inside v) → ((v : ℕ) →
    IsInside inside v → IsCovered net s Right inside v) →
    (n : ℕ) (p : List Hop) → IsInside inside n → IsChain net s n p → IsInside inside (end_of n p)
chain_inside net s inside left right n [] ins i = ins
chain_inside net s inside left right n (h ∷ p) ins i =
    let before = chain_inside net s inside left right n p ins i.0 in
    let c = i.1 in
    elim i.2 [
      | inl j ↦ (let r = left (end_of n p) before c.0 h.through c.1 (rw c.2 j.0) (rw c.2 i.3) in rw (c.2, j.1) at (r (rw (c.2, j.1) i.4)))
      | inr j ↦ (let r = right (end_of n p) before c.0 h.through c.1 (rw c.2 j.0) (rw c.2 i.3) in rw (c.2, j.1) at (r (rw (c.2, j.1) i.4)))
    ]

pub reached_inside : (net : Network) (s : List Level) (seeds : List ℕ) (inside : List Bool) → ((v : ℕ) → IsInside inside v →
    IsCovered net s Left inside v) → ((v : ℕ) → IsInside inside v → IsCovered net s Right inside v) →
    ((v : ℕ) → Contains seeds v → IsStorage net v → IsInside inside v) → (v : ℕ) → IsReached net s seeds v → IsInside inside v
reached_inside net s seeds inside left right seeded v r =
    let st = chain_from net s r.seed r.joined.chain r.joined.is_chain in
    let e = r.joined.ends in
    rw e at (chain_inside net s inside left right r.seed r.joined.chain (seeded r.seed r.is_seed st) r.joined.is_chain)
