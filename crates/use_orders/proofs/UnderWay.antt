-- A walk that is under way stays so.
use Rattle.use_orders.proofs.Common.{◌≡◌, ℕ, ◌<◌, ◌≤◌, true, List, [], ◌∷◌, ◌++◌, ◌⊎◌, inl, inr, refl, sym, subst, arith, length, ◌∙◌, slice_index}
use Rattle.use_orders.proofs.Common.{cases_eq, cases_lt, length-set, Chain, stay, In, Chain-push, Distinct-push, In-append_left, In-push}
use Rattle.use_orders.proofs.Common.{In-push_cases, In-get_or, Mark, Unmet, Open, Listed, OpenCell, used_by, UsesCell, UsesNewCell, AreCells}
use Rattle.use_orders.proofs.Common.{WalkState, walk_mark, listed_by, cells_of, with_open, one_further, after_meeting, after_listing}
use Rattle.use_orders.proofs.Common.{after_following, IsWalking, LeadsToOpen, HasCycle}
use Rattle.finite_sets.proofs.Chains.{Chain-one}
use Rattle.use_orders.specs.steps.Walks.{IsOpenCell, AllLeadTo}
use Rattle.use_orders.proofs.Listed.{In-old, In-order, listed_by-push, walk_mark-set_same, walk_mark-set_other}

-- no cell has two marks
pub not_both : (marks : List Mark) (c : ℕ) → walk_mark marks c ≡ Open → walk_mark marks c ≡ Listed → ⊥
not_both marks c a b = let e = sym a ∙ b in cc

-- a cell that is not listed is new
pub new_from_mark : (children : List (List ℕ)) (first : ℕ) (s : WalkState) (c : ℕ) → IsWalking children first s → (walk_mark s.marks c ≡ Listed → ⊥) → first ≤ c
new_from_mark children first s c u free = elim (cases_lt c first) [ inl lt ↦ absurd (free (u.marked c (In-old first s.order c lt))) | inr ge ↦ ge ]

pub new_from_open : (children : List (List ℕ)) (first : ℕ) (s : WalkState) (c : ℕ) → IsWalking children first s → walk_mark s.marks c ≡ Open → first ≤ c
new_from_open children first s c u e = new_from_mark children first s c u (λ l. not_both s.marks c e l)

-- the present cell is listed
pub under_way_listed : (children : List (List ℕ)) (first : ℕ) (at : OpenCell) (s : WalkState) → IsWalking children first (with_open at s)
    → IsWalking children first (after_listing at.cell s)
under_way_listed children first at s u = record {
  fits = rw length-set u.fits;
  listed = λ c e. elim (cases_eq c at.cell) [
    | inl same ↦ (let P : ℕ → Type 0 = λ z. In z (listed_by first (s.order ++ at.cell ∷ [])) in
        subst P (sym same) (In-order first (s.order ++ at.cell ∷ []) at.cell (In-push s.order at.cell)))
    | inr other ↦ (let h = u.listed c (sym (walk_mark-set_other s.marks at.cell c Listed other) ∙ e) in
        rw (listed_by-push first s.order at.cell) (pushed c h))
  ];
  marked = λ c h. elim (In-push_cases c (listed_by first s.order) at.cell (rw (listed_by-push first s.order at.cell) at h)) [
    | inl k ↦ elim (cases_eq c at.cell) [
      | inl same ↦ absurd (not_both s.marks at.cell here (rw same at (u.marked c k)))
      | inr other ↦ walk_mark-set_other s.marks at.cell c Listed other ∙ u.marked c k
    ]
    | inr e ↦ rw (← e) (walk_mark-set_same s.marks at.cell Listed in_marks)
  ];
  on_way = λ c e. elim (cases_eq c at.cell) [
    | inl same ↦ absurd (let f = sym (walk_mark-set_same s.marks at.cell Listed in_marks) ∙ (rw same at e) in cc)
    | inr other ↦ elim (u.on_way c (sym (walk_mark-set_other s.marks at.cell c Listed other) ∙ e)) [ inl k ↦ absurd (other (sym k)) | inr k ↦ k ]
  ];
  are_open = λ c h. elim (cases_eq c at.cell) [
    | inl same ↦ absurd (let P : ℕ → Type 0 = λ z. In z (cells_of s.way) in u.once.0 (subst P same h))
    | inr other ↦ walk_mark-set_other s.marks at.cell c Listed other ∙ u.are_open c (inr h)
  ];
  once = u.once.1;
  distinct = rw (listed_by-push first s.order at.cell) (Distinct-push (listed_by first s.order) at.cell u.distinct
      (λ h. not_both s.marks at.cell here (u.marked at.cell h)));
  nested = u.nested.1;
  within = λ o h. u.within o (inr h);
}
  where
    here : walk_mark s.marks at.cell ≡ Open
    here = u.are_open at.cell (inl refl)

    in_marks : at.cell < length s.marks
    in_marks = omega (arith, (u.within at (inl refl)).0, u.fits)

    pushed : (c : ℕ) → In c (listed_by first s.order) → In c (listed_by first s.order ++ at.cell ∷ [])
    pushed c h = In-append_left c (listed_by first s.order) (at.cell ∷ []) h

-- one more use of the present cell is followed
pub under_way_further : (children : List (List ℕ)) (first : ℕ) (at : OpenCell) (s : WalkState) → IsWalking children first (with_open at s)
    → at.followed < length (used_by children at.cell) → IsWalking children first (with_open (one_further at) s)
under_way_further children first at s u lt = record {
  fits = u.fits;
  listed = u.listed;
  marked = u.marked;
  on_way = u.on_way;
  are_open = u.are_open;
  once = u.once;
  distinct = u.distinct;
  nested = u.nested;
  within = λ o h. elim h [
    | inl e ↦ (let P : OpenCell → Type 0 = λ z. IsOpenCell children z in subst P e ((u.within at (inl refl)).0, omega arith))
    | inr k ↦ u.within o (inr k)
  ];
}

-- an unmet cell is opened
pub under_way_opened : (children : List (List ℕ)) (first c : ℕ) (s : WalkState) → IsWalking children first s → c < length children → walk_mark s.marks c ≡ Unmet
    → AllLeadTo children first (cells_of s.way) c → IsWalking children first (after_meeting Unmet c s)
under_way_opened children first c s u lt free lead = record {
  fits = rw length-set u.fits;
  listed = λ d e. elim (cases_eq d c) [
    | inl same ↦ absurd (let f = sym (walk_mark-set_same s.marks c Open in_marks) ∙ (rw same at e) in cc)
    | inr other ↦ u.listed d (sym (walk_mark-set_other s.marks c d Open other) ∙ e)
  ];
  marked = λ d h. elim (cases_eq d c) [
    | inl same ↦ absurd (let f : Unmet ≡ Listed = sym free ∙ (rw same at (u.marked d h)) in cc)
    | inr other ↦ walk_mark-set_other s.marks c d Open other ∙ u.marked d h
  ];
  on_way = λ d e. elim (cases_eq d c) [
    | inl same ↦ inl (sym same)
    | inr other ↦ inr (u.on_way d (sym (walk_mark-set_other s.marks c d Open other) ∙ e))
  ];
  are_open = λ d h. elim (cases_eq d c) [
    | inl same ↦ rw same (walk_mark-set_same s.marks c Open in_marks)
    | inr other ↦ elim h [
      | inl e ↦ absurd (other (sym e))
      | inr k ↦ walk_mark-set_other s.marks c d Open other ∙ u.are_open d k
    ]
  ];
  once = ((λ h. let f : Unmet ≡ Open = sym free ∙ u.are_open c h in cc), u.once);
  distinct = u.distinct;
  nested = (lead, u.nested);
  within = λ o h. elim h [
    | inl e ↦ (let P : OpenCell → Type 0 = λ z. IsOpenCell children z in subst P e (lt, omega arith))
    | inr k ↦ u.within o k
  ];
}
  where
    in_marks : c < length s.marks
    in_marks = omega (arith, lt, u.fits)

-- that an open cell was met is noted
under_way_noted : (children : List (List ℕ)) (first c : ℕ) (s : WalkState) → IsWalking children first s → IsWalking children first (after_meeting Open c s)
under_way_noted children first c s u = record {
  fits = u.fits;
  listed = u.listed;
  marked = u.marked;
  on_way = u.on_way;
  are_open = u.are_open;
  once = u.once;
  distinct = u.distinct;
  nested = u.nested;
  within = u.within;
}

-- a cell is met
pub under_way_met : (children : List (List ℕ)) (first c : ℕ) (m : Mark) (s : WalkState) → IsWalking children first s → c < length children
    → walk_mark s.marks c ≡ m
    → (m ≡ Unmet → AllLeadTo children first (cells_of s.way) c) → IsWalking children first (after_meeting m c s)
under_way_met children first c Unmet s u lt e lead = under_way_opened children first c s u lt e (lead refl)
under_way_met children first c Open s u lt e lead = under_way_noted children first c s u
under_way_met children first c Listed s u lt e lead = u

-- the child of the present cell's next use
pub next_is_used : (children : List (List ℕ)) (at : OpenCell) → at.followed < length (used_by children at.cell)
    → UsesCell children at.cell (slice_index (used_by children at.cell) at.followed)
next_is_used children at lt = In-get_or (used_by children at.cell) at.followed 0 lt

-- a step from the present cell to a new child
pub step_down : (children : List (List ℕ)) (first : ℕ) (at : OpenCell) (s : WalkState) → IsWalking children first (with_open at s)
    → at.followed < length (used_by children at.cell) → (walk_mark s.marks (slice_index (used_by children at.cell) at.followed) ≡ Listed → ⊥)
    → UsesNewCell children first at.cell (slice_index (used_by children at.cell) at.followed)
step_down children first at s u lt free = (
  new_from_open children first (with_open at s) at.cell u (u.are_open at.cell (inl refl)),
  new_from_mark children first (with_open at s) (slice_index (used_by children at.cell) at.followed) u free,
  next_is_used children at lt,
)

-- the next use of the present cell is followed
pub under_way_followed : (children : List (List ℕ)) (first : ℕ) (at : OpenCell) (s : WalkState) → AreCells children → IsWalking children first (with_open at s)
    → at.followed < length (used_by children at.cell) → IsWalking children first (after_following children at s)
under_way_followed children first at s cells u lt =
    under_way_met children first child (walk_mark s.marks child) (with_open (one_further at) s) (under_way_further children first at s u lt)
    (cells at.cell child (next_is_used children at lt)) refl
    (λ free c h. let down = step_down children first at s u lt (λ l. let f : Unmet ≡ Listed = sym free ∙ l in cc) in
    elim h [
      | inl e ↦ (let P : ℕ → Type 0 = λ z. Chain (UsesNewCell children first) z child in subst P e (Chain-one down))
      | inr k ↦ Chain-push (u.nested.0 c k) down
    ])
  where
    child : ℕ
    child = slice_index (used_by children at.cell) at.followed

-- the root leads to what is opened below the present cell
pub reached_listed : (children : List (List ℕ)) (first root : ℕ) (at : OpenCell) (s : WalkState) → LeadsToOpen children first root (with_open at s)
    → LeadsToOpen children first root (after_listing at.cell s)
reached_listed children first root at s r c h = r c (inr h)

pub reached_met : (children : List (List ℕ)) (first root c : ℕ) (m : Mark) (s : WalkState) → LeadsToOpen children first root s
    → (m ≡ Unmet → Chain (UsesNewCell children first) root c) → LeadsToOpen children first root (after_meeting m c s)
reached_met children first root c Unmet s r here = λ d h.
    elim h [ inl e ↦ (let P : ℕ → Type 0 = λ z. Chain (UsesNewCell children first) root z in subst P e (here refl)) | inr k ↦ r d k ]
reached_met children first root c Open s r here = r
reached_met children first root c Listed s r here = r

pub reached_followed : (children : List (List ℕ)) (first root : ℕ) (at : OpenCell) (s : WalkState) → IsWalking children first (with_open at s)
    → at.followed < length (used_by children at.cell) → LeadsToOpen children first root (with_open at s)
    → LeadsToOpen children first root (after_following children at s)
reached_followed children first root at s u lt r =
    reached_met children first root child (walk_mark s.marks child) (with_open (one_further at) s) r
    (λ free. Chain-push (r at.cell (inl refl)) (step_down children first at s u lt (λ l. let f : Unmet ≡ Listed = sym free ∙ l in cc)))
  where
    child : ℕ
    child = slice_index (used_by children at.cell) at.followed

-- an open cell that is met is its own descendant, and so is the present one
pub cycle_closed : (children : List (List ℕ)) (first root : ℕ) (at : OpenCell) (s : WalkState) → IsWalking children first (with_open at s)
    → at.followed < length (used_by children at.cell) → LeadsToOpen children first root (with_open at s)
    → walk_mark s.marks (slice_index (used_by children at.cell) at.followed) ≡ Open → HasCycle children first root
cycle_closed children first root at s u lt r open_child = (at.cell, r at.cell (inl refl), (child, (down, back)))
  where
    child : ℕ
    child = slice_index (used_by children at.cell) at.followed

    down : UsesNewCell children first at.cell child
    down = step_down children first at s u lt (λ l. not_both s.marks child open_child l)

    back : Chain (UsesNewCell children first) child at.cell
    back = elim (u.on_way child open_child) [
      | inl e ↦ (let P : ℕ → Type 0 = λ z. Chain (UsesNewCell children first) z at.cell in subst P e stay)
      | inr k ↦ u.nested.0 child k
    ]

pub noted : (m : Mark) (c : ℕ) (s : WalkState) → (after_meeting m c s).is_cyclic ≡ true → (s.is_cyclic ≡ true) ⊎ (m ≡ Open)
noted Unmet c s e = inl e
noted Open c s e = inr refl
noted Listed c s e = inl e

pub cycle_followed : (children : List (List ℕ)) (first root : ℕ) (at : OpenCell) (s : WalkState) → IsWalking children first (with_open at s)
    → at.followed < length (used_by children at.cell) → LeadsToOpen children first root (with_open at s)
    → (after_following children at s).is_cyclic ≡ true → (s.is_cyclic ≡ true) ⊎ HasCycle children first root
cycle_followed children first root at s u lt r e =
    elim (noted (walk_mark s.marks child) child (with_open (one_further at) s) e) [
      | inl was ↦ inl was
      | inr m ↦ inr (cycle_closed children first root at s u lt r m)
    ]
  where
    child : ℕ
    child = slice_index (used_by children at.cell) at.followed
