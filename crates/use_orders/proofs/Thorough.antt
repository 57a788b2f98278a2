-- A walk looks at every use of what it lists.
use Rattle.use_orders.proofs.Common.{◌≡◌, ◌≢◌, ℕ, ◌+◌, ◌<◌, ◌≤◌, List, [], ◌∷◌, ◌++◌, ◌⊎◌, inl, inr, refl, sym, subst, arith, length, ◌∙◌}
use Rattle.use_orders.proofs.Common.{slice_index, slice_set, cases_eq, length-append, get_or_append_left, get_or_push, Chain, stay, go, In}
use Rattle.use_orders.proofs.Common.{Chain-append, Chain-push, In-append_left, In-push, In-push_cases, In-index, Mark, Unmet, Open, Listed, OpenCell}
use Rattle.use_orders.proofs.Common.{used_by, UsesNewCell, WalkState, walk_mark, listed_by, cells_of, with_open, one_further, after_meeting}
use Rattle.use_orders.proofs.Common.{after_listing, after_following, IsWalking, AreMutual, IsThorough}
use Rattle.use_orders.specs.steps.Walks.{IsUpTo, ComesUpTo, WasMet}
use Rattle.use_orders.proofs.Listed.{In-listed_cases, walk_mark-set_same, walk_mark-set_other}

-- a cell that was met stays met
met_set : (marks : List Mark) (c : ℕ) (m : Mark) (d : ℕ) → c < length marks → m ≢ Unmet → walk_mark marks d ≢ Unmet → walk_mark (slice_set marks c m) d ≢ Unmet
met_set marks c m d lt new old e = elim (cases_eq d c) [
  | inl same ↦ new (sym (walk_mark-set_same marks c m lt) ∙ (rw same at e))
  | inr other ↦ old (sym (walk_mark-set_other marks c d m other) ∙ e)
]

pub met_listed : (s : WalkState) (c d : ℕ) → c < length s.marks → WasMet s d → WasMet (after_listing c s) d
met_listed s c d lt met = met_set s.marks c Listed d lt (λ e. cc) met

pub met_kept : (s : WalkState) (c : ℕ) (m : Mark) (d : ℕ) → c < length s.marks → WasMet s d → WasMet (after_meeting m c s) d
met_kept s c Unmet d lt met = met_set s.marks c Open d lt (λ e. cc) met
met_kept s c Open d lt met = met
met_kept s c Listed d lt met = met

-- the cell that is met is
pub met_met : (s : WalkState) (c : ℕ) (m : Mark) → c < length s.marks → walk_mark s.marks c ≡ m → WasMet (after_meeting m c s) c
met_met s c Unmet lt is e = let f : Open ≡ Unmet = sym (walk_mark-set_same s.marks c Open lt) ∙ e in cc
met_met s c Open lt is e = let f : Open ≡ Unmet = sym is ∙ e in cc
met_met s c Listed lt is e = let f : Listed ≡ Unmet = sym is ∙ e in cc

-- a cell that was met is listed or open
pub met_cases : (children : List (List ℕ)) (first : ℕ) (s : WalkState) (c : ℕ) → IsWalking children first s → WasMet s c
    → In c (listed_by first s.order) ⊎ In c (cells_of s.way)
met_cases children first s c u met = by_mark (walk_mark s.marks c) refl
  where
    by_mark : (m : Mark) → walk_mark s.marks c ≡ m → In c (listed_by first s.order) ⊎ In c (cells_of s.way)
    by_mark Unmet e = absurd (met e)
    by_mark Open e = inr (u.on_way c e)
    by_mark Listed e = inl (u.listed c e)

module _ (children : List (List ℕ)) (first : ℕ) where
  mutual_self : (c : ℕ) → AreMutual children first c c
  mutual_self c = (stay, stay)

  mutual_then : (a b c : ℕ) → AreMutual children first a b → AreMutual children first b c → AreMutual children first a c
  mutual_then a b c p q = (Chain-append p.0 q.0, Chain-append q.1 p.1)

  up_to_push : (order : List ℕ) (c v w : ℕ) → IsUpTo order v w → IsUpTo (order ++ c ∷ []) v w
  up_to_push order c v w h = (
    h.0,
    h.1,
    h.2,
    omega (arith, h.3, length-append order (c ∷ [])),
    (get_or_append_left order (c ∷ []) 0 h.0 (omega (arith, h.2, h.3)) ∙ h.4),
    (get_or_append_left order (c ∷ []) 0 h.1 h.3 ∙ h.5),
  )

  -- what is listed comes up to the one that is listed last
  up_to_last : (order : List ℕ) (c v : ℕ) → In v (order ++ c ∷ []) → IsUpTo (order ++ c ∷ []) v c
  up_to_last order c v h =
      let at = In-index v (order ++ c ∷ []) h in
      let longer = length-append order (c ∷ []) in
      (at.0, length order, omega (arith, at.1.0, longer), omega (arith, longer), at.1.1 0, get_or_push order c 0 (length order) refl)

  module _ (at : OpenCell) (s : WalkState) (u : IsWalking children first (with_open at s)) (all : length (used_by children at.cell) ≤ at.followed)
      (t : IsThorough children first (with_open at s)) where
    -- the new children of the present cell were met, once its uses were followed
    here_closed : (child : ℕ) → UsesNewCell children first at.cell child → WasMet s child
    here_closed child used =
        let k = In-index child (used_by children at.cell) used.2 in
        let P : ℕ → Type 0 = λ z. walk_mark s.marks z ≢ Unmet in
        subst P (k.1.1 0) (t.followed at (inl refl) k.0 (omega (arith, k.1.0)))

    -- a new child that was met is listed now, or open still
    here_cases : (child : ℕ) → first ≤ child → WasMet s child → In child (s.order ++ at.cell ∷ []) ⊎ In child (cells_of s.way)
    here_cases child new met = elim (met_cases children first (with_open at s) child u met) [
      | inl l ↦ elim (In-listed_cases first s.order child l) [
        | inl old ↦ absurd (omega arith)
        | inr k ↦ inl (In-append_left child s.order (at.cell ∷ []) k)
      ]
      | inr o ↦ elim o [
        | inl e ↦ inl (let P : ℕ → Type 0 = λ z. In z (s.order ++ at.cell ∷ []) in subst P e (In-push s.order at.cell))
        | inr k ↦ inr k
      ]
    ]

    -- what the present cell leads to by way of another is listed, unless the way goes through an open cell
    goes_on : {x v : ℕ} → Chain (UsesNewCell children first) x v → Chain (UsesNewCell children first) at.cell x
        → In x (s.order ++ at.cell ∷ []) ⊎ In x (cells_of s.way)
        → In v (s.order ++ at.cell ∷ []) ⊎ ((w : ℕ) × (AreMutual children first at.cell w × In w (cells_of s.way)))
    goes_on {x} {v} c to (inr o) = inr (x, ((to, u.nested.0 x o), o))
    goes_on stay to (inl h) = inl h
    goes_on (go {a = x} {b = y} step c) to (inl h) = goes_on c (Chain-push to step) (here_cases y step.1 (elim (In-push_cases x s.order at.cell h) [
      | inl k ↦ t.closed x y k step
      | inr e ↦ here_closed y (let P : ℕ → Type 0 = λ z. UsesNewCell children first z y in subst P (sym e) step)
    ]))

    from_here : (v : ℕ) → Chain (UsesNewCell children first) at.cell v → ComesUpTo children first (after_listing at.cell s) at.cell v
    from_here v c = elim (goes_on c stay (inl (In-push s.order at.cell))) [
      | inl h ↦ inl (at.cell, (mutual_self at.cell, up_to_last s.order at.cell v h))
      | inr o ↦ inr o
    ]

    by_way_of_here : (x v : ℕ) → AreMutual children first x at.cell → ComesUpTo children first (after_listing at.cell s) at.cell v
        → ComesUpTo children first (after_listing at.cell s) x v
    by_way_of_here x v m (inl h) = inl (h.0, (mutual_then x at.cell h.0 m h.1.0, h.1.1))
    by_way_of_here x v m (inr h) = inr (h.0, (mutual_then x at.cell h.0 m h.1.0, h.1.1))

    -- the present cell is listed
    pub thorough_listed : IsThorough children first (after_listing at.cell s)
    thorough_listed = record {
      closed = λ x y h step. met_listed s at.cell y in_marks (elim (In-push_cases x s.order at.cell h) [
        | inl k ↦ t.closed x y k step
        | inr e ↦ here_closed y (let P : ℕ → Type 0 = λ z. UsesNewCell children first z y in subst P (sym e) step)
      ]);
      followed = λ o h k lt. met_listed s at.cell (slice_index (used_by children o.cell) k) in_marks (t.followed o (inr h) k lt);
      together = λ x v h c. elim (In-push_cases x s.order at.cell h) [
        | inl k ↦ elim (t.together x v k c) [
          | inl l ↦ inl (l.0, (l.1.0, up_to_push s.order at.cell v l.0 l.1.1))
          | inr o ↦ elim o.1.1 [
            | inl e ↦ (let P : ℕ → Type 0 = λ z. AreMutual children first x z in let m = subst P (sym e) o.1.0 in
                by_way_of_here x v m (from_here v (Chain-append m.1 c)))
            | inr k ↦ inr (o.0, (o.1.0, k))
          ]
        ]
        | inr e ↦ (let P : ℕ → Type 0 = λ z. Chain (UsesNewCell children first) z v in
            let Q : ℕ → Type 0 = λ z. ComesUpTo children first (after_listing at.cell s) z v in
            subst Q e (from_here v (subst P (sym e) c)))
      ];
    }
      where
        in_marks : at.cell < length s.marks
        in_marks = omega (arith, (u.within at (inl refl)).0, u.fits)

  -- a cell is met
  pub thorough_met : (c : ℕ) (m : Mark) (s : WalkState) → c < length s.marks → IsThorough children first s → IsThorough children first (after_meeting m c s)
  thorough_met c Unmet s lt t = record {
    closed = λ x y h step. met_kept s c Unmet y lt (t.closed x y h step);
    followed = λ o h k l. elim h [
      | inl e ↦ absurd (let P : OpenCell → Type 0 = λ z. k < z.followed in let z : k < 0 = subst P (sym e) l in omega arith)
      | inr i ↦ met_kept s c Unmet (slice_index (used_by children o.cell) k) lt (t.followed o i k l)
    ];
    together = λ x v h d. elim (t.together x v h d) [ inl l ↦ inl l | inr o ↦ inr (o.0, (o.1.0, inr o.1.1)) ];
  }
  thorough_met c Open s lt t = record { closed = t.closed; followed = t.followed; together = t.together }
  thorough_met c Listed s lt t = t

  -- the next use of the present cell is followed
  module _ (at : OpenCell) (s : WalkState) (lt : slice_index (used_by children at.cell) at.followed < length s.marks)
      (t : IsThorough children first (with_open at s)) where
    abbrev child : ℕ
    child = slice_index (used_by children at.cell) at.followed

    -- the child is met now, besides those of the uses before
    further : (m : Mark) → walk_mark s.marks child ≡ m → (o : OpenCell) → In o (one_further at ∷ s.way) → (k : ℕ) → k < o.followed
        → WasMet (after_meeting m child (with_open (one_further at) s)) (slice_index (used_by children o.cell) k)
    further m e o (inl is) k l =
        let P : OpenCell → Type 0 = λ z. k < z.followed in
        let Q : OpenCell → Type 0 = λ z. WasMet (after_meeting m child (with_open (one_further at) s)) (slice_index (used_by children z.cell) k) in
        let below : k < at.followed + 1 = subst P (sym is) l in
        subst Q is (elim (cases_eq k at.followed) [
          | inl same ↦ rw same (met_met (with_open (one_further at) s) child m lt e)
          | inr other ↦ met_kept (with_open (one_further at) s) child m (slice_index (used_by children at.cell) k) lt (t.followed at (inl refl) k (omega arith))
        ])
    further m e o (inr i) k l = met_kept (with_open (one_further at) s) child m (slice_index (used_by children o.cell) k) lt (t.followed o (inr i) k l)

    thorough_after : (m : Mark) → walk_mark s.marks child ≡ m → IsThorough children first (after_meeting m child (with_open (one_further at) s))
    thorough_after Unmet e = record {
      closed = λ x y h step. met_kept (with_open (one_further at) s) child Unmet y lt (t.closed x y h step);
      followed = λ o h k l. elim h [
        | inl is ↦ absurd (let P : OpenCell → Type 0 = λ z. k < z.followed in let z : k < 0 = subst P (sym is) l in omega arith)
        | inr i ↦ further Unmet e o i k l
      ];
      together = λ x v h d. elim (t.together x v h d) [ inl l ↦ inl l | inr o ↦ inr (o.0, (o.1.0, inr o.1.1)) ];
    }
    thorough_after Open e = record { closed = t.closed; followed = λ o h k l. further Open e o h k l; together = t.together }
    thorough_after Listed e = record { closed = t.closed; followed = λ o h k l. further Listed e o h k l; together = t.together }

    pub thorough_followed : IsThorough children first (after_following children at s)
    thorough_followed = thorough_after (walk_mark s.marks child) refl
