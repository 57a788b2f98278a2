-- A step leads to a later state.
use Rattle.use_orders.proofs.Common.{◌≡◌, ℕ, ◌<◌, ◌≤◌, Bool, true, false, List, [], ◌∷◌, ◌++◌, ◌⊎◌, inl, inr, refl, sym, ap, subst, arith, length}
use Rattle.use_orders.proofs.Common.{slice_index, append_assoc, ◌∙◌, reverse, Chain, stay, In, In-push_cases, Mark, Unmet, Open, Listed, OpenCell}
use Rattle.use_orders.proofs.Common.{used_by, UsesNewCell, AreCells, Visits, WalkState, walk_mark, listed_by, cells_of, with_open, one_further}
use Rattle.use_orders.proofs.Common.{after_meeting, after_listing, after_following, IsWalking, IsAtRest, IsLater, Continues, LeadsToOpen, HasCycle}
use Rattle.use_orders.proofs.Common.{HasVisited, work_left}
use Rattle.std.proofs.lemmas.List.{append-nil, reverse-append}
use Rattle.use_orders.proofs.UnderWay.{under_way_listed, under_way_further, under_way_followed, reached_listed}
use Rattle.use_orders.proofs.UnderWay.{reached_met, reached_followed, next_is_used, cycle_followed, noted}
use Rattle.use_orders.proofs.Advancing.{advances_then, advances_listed, advances_followed, visits_met}
use Rattle.use_orders.proofs.Thorough.{met_listed, met_kept, met_met, met_cases, thorough_listed, thorough_followed, thorough_met}
use Rattle.use_orders.proofs.Working.{less_listed, less_followed}

pub later_then : (children : List (List ℕ)) (first : ℕ) (a b c : WalkState) → IsLater children first a b → IsLater children first b c
    → IsLater children first a c
later_then children first a b c p q = record {
  under_way = q.under_way;
  advances = advances_then children first a b c p.advances q.advances;
  reached = λ root r. q.reached root (p.reached root r);
  cyclic = λ root r e. elim (q.cyclic root (p.reached root r) e) [ inl was ↦ p.cyclic root r was | inr has ↦ inr has ];
  met = λ d m. q.met d (p.met d m);
  grows = (p.grows.0 ++ q.grows.0, q.grows.1 ∙ ap (λ z. z ++ q.grows.0) p.grows.1 ∙ append_assoc a.order p.grows.0 q.grows.0);
  source = λ root r d h. elim (q.source root (p.reached root r) d h) [ inl k ↦ p.source root r d k | inr down ↦ inr down ];
  thorough = λ t. q.thorough (p.thorough t);
}

-- to meet a cell lists none
order_met : (m : Mark) (c : ℕ) (s : WalkState) → (after_meeting m c s).order ≡ s.order
order_met Unmet c s = refl
order_met Open c s = refl
order_met Listed c s = refl

pub later_listed : (children : List (List ℕ)) (first : ℕ) (at : OpenCell) (s t : WalkState) → IsWalking children first (with_open at s)
    → length (used_by children at.cell) ≤ at.followed → t ≡ after_listing at.cell s → IsLater children first (with_open at s) t
later_listed children first at s t u all e =
    let P : WalkState → Type 0 = λ z. IsLater children first (with_open at s) z in
    let l : P (after_listing at.cell s) = record {
      under_way = under_way_listed children first at s u;
      advances = advances_listed children first at s u all;
      reached = λ root r. reached_listed children first root at s r;
      cyclic = λ root r c. inl c;
      met = λ d m. met_listed s at.cell d (omega (arith, (u.within at (inl refl)).0, u.fits)) m;
      grows = (at.cell ∷ [], refl);
      source = λ root r d h. elim (In-push_cases d s.order at.cell h) [
        | inl k ↦ inl k
        | inr same ↦ inr (let Q : ℕ → Type 0 = λ z. Chain (UsesNewCell children first) root z in subst Q same (r at.cell (inl refl)))
      ];
      thorough = λ th. thorough_listed children first at s u all th;
    } in
    subst P (sym e) l

pub later_followed : (children : List (List ℕ)) (first : ℕ) (at : OpenCell) (s t : WalkState) → AreCells children → IsWalking children first (with_open at s)
    → at.followed < length (used_by children at.cell) → t ≡ after_following children at s → IsLater children first (with_open at s) t
later_followed children first at s t cells u lt e =
    let child : ℕ = slice_index (used_by children at.cell) at.followed in
    let in_marks : child < length s.marks = omega (arith, cells at.cell child (next_is_used children at lt), u.fits) in
    let P : WalkState → Type 0 = λ z. IsLater children first (with_open at s) z in
    let l : P (after_following children at s) = record {
      under_way = under_way_followed children first at s cells u lt;
      advances = advances_followed children first at s u lt;
      reached = λ root r. reached_followed children first root at s u lt r;
      cyclic = λ root r c. cycle_followed children first root at s u lt r c;
      met = λ d k. met_kept (with_open (one_further at) s) child (walk_mark s.marks child) d in_marks k;
      grows = ([], order_met (walk_mark s.marks child) child (with_open (one_further at) s) ∙ sym (append-nil s.order));
      source = λ root r d h. inl (rw (order_met (walk_mark s.marks child) child (with_open (one_further at) s)) at h);
      thorough = λ th. thorough_followed children first at s in_marks th;
    } in
    subst P (sym e) l

pub less_after_listing : (children : List (List ℕ)) (first : ℕ) (at : OpenCell) (s t : WalkState) → IsWalking children first (with_open at s)
    → t ≡ after_listing at.cell s → work_left children t < work_left children (with_open at s)
less_after_listing children first at s t u e =
    let P : WalkState → Type 0 = λ z. work_left children z < work_left children (with_open at s) in subst P (sym e) (less_listed children first at s u)

pub less_after_following : (children : List (List ℕ)) (first : ℕ) (at : OpenCell) (s t : WalkState) → AreCells children
    → IsWalking children first (with_open at s)
    → at.followed < length (used_by children at.cell) → t ≡ after_following children at s → work_left children t < work_left children (with_open at s)
less_after_following children first at s t cells u lt e =
    let P : WalkState → Type 0 = λ z. work_left children z < work_left children (with_open at s) in
    subst P (sym e) (less_followed children first at s cells u (under_way_further children first at s u lt) lt)

-- the present cell is taken off the way
pub later_popped : (children : List (List ℕ)) (first : ℕ) (a : WalkState) (marks : List Mark) (path rest : List OpenCell) (order : List ℕ) (is_cyclic : Bool)
    (at : OpenCell) → path ≡ rest ++ at ∷ [] → IsLater children first a (record { marks = marks; way = reverse path; order = order; is_cyclic = is_cyclic })
    → IsLater children first a (with_open at (record { marks = marks; way = reverse rest; order = order; is_cyclic = is_cyclic }))
later_popped children first a marks path rest order is_cyclic at e l =
    let P : List OpenCell → Type 0 = λ z. IsLater children first a (record { marks = marks; way = z; order = order; is_cyclic = is_cyclic }) in
    let f : reverse path ≡ at ∷ reverse rest = rw e (reverse-append rest (at ∷ [])) in
    subst P f l

-- a cell that was met from rest leads to all open cells
pub reached_from_rest : (children : List (List ℕ)) (first root : ℕ) (m : Mark) (s : WalkState) → s.way ≡ []
    → LeadsToOpen children first root (after_meeting m root s)
reached_from_rest children first root m s none =
    reached_met children first root root m s
    (λ c h. absurd (let P : List OpenCell → Type 0 = λ z. In c (cells_of z) in let k : ⊥ = subst P none h in k)) (λ _. stay)

-- a visit from rest to rest
module _ (children : List (List ℕ)) (first root : ℕ) (s t : WalkState) (in_cells : root < length children) (rest : IsAtRest children first s)
    (l : IsLater children first (after_meeting (walk_mark s.marks root) root s) t) (done : t.way ≡ []) where
  abbrev m : Mark
  m = walk_mark s.marks root

  in_marks : root < length s.marks
  in_marks = omega (arith, in_cells, rest.1.fits)

  visited : t.is_cyclic ≡ false → (s.is_cyclic ≡ false) × Visits children (listed_by first s.order) (root ∷ []) (listed_by first t.order)
  visited calm =
      let adv = l.advances calm in
      let C : List OpenCell → Type 0 = λ z. Continues children z (listed_by first t.order) (listed_by first t.order) in
      let k = adv.1 (listed_by first t.order) (subst C (sym done) refl) in
      let met = visits_met children first root m s rest.1 refl adv.0 in
      let v = met.1 (listed_by first t.order) k in
      let D : List OpenCell → Type 0 = λ z. Continues children z v.0 (listed_by first t.order) in
      let same : v.0 ≡ listed_by first t.order = subst D rest.0 v.2 in
      let Q : List ℕ → Type 0 = λ z. Visits children (listed_by first s.order) (root ∷ []) z in
      (met.0, subst Q same v.1)

  -- where an open cell was met, the root leads to a cycle
  closed : t.is_cyclic ≡ true → (s.is_cyclic ≡ true) ⊎ HasCycle children first root
  closed cyclic = elim (l.cyclic root (reached_from_rest children first root m s rest.0) cyclic) [
    | inl was ↦ elim (noted m root s was) [
      | inl old ↦ inl old
      | inr is_open ↦ absurd (let D : List OpenCell → Type 0 = λ z. In root (cells_of z) in let k : ⊥ = subst D rest.0 (rest.1.on_way root is_open) in k)
    ]
    | inr has ↦ inr has
  ]

  root_listed : In root (listed_by first t.order)
  root_listed = elim (met_cases children first t root l.under_way (l.met root (met_met s root m in_marks refl))) [
    | inl k ↦ k
    | inr o ↦ absurd (let D : List OpenCell → Type 0 = λ z. In root (cells_of z) in let k : ⊥ = subst D done o in k)
  ]

  was_visited : HasVisited children first root s t
  was_visited = record {
    rest = (done, l.under_way);
    visits = visited;
    cyclic = closed;
    listed = root_listed;
    grows = (l.grows.0, l.grows.1 ∙ ap (λ z. z ++ l.grows.0) (order_met m root s));
    source = λ c h. rw (order_met m root s) at (l.source root (reached_from_rest children first root m s rest.0) c h);
    thorough = λ th. l.thorough (thorough_met children first root m s in_marks th);
  }

-- a visit from rest to rest
pub has_visited : (children : List (List ℕ)) (first root : ℕ) (s met t : WalkState) → root < length children → IsAtRest children first s
    → met ≡ after_meeting (walk_mark s.marks root) root s → IsLater children first met t → t.way ≡ [] → HasVisited children first root s t
has_visited children first root s met t in_cells rest e later done =
    let P : WalkState → Type 0 = λ z. IsLater children first z t in
    was_visited children first root s t in_cells rest (subst P e later) done
