-- The users of cells.
use Rattle.use_orders.proofs.Common.{◌≡◌, ◌≢◌, ℕ, ◌+◌, ◌<◌, ◌≤◌, List, [], ◌∷◌, ◌++◌, ◌⊎◌, inl, inr, refl, sym, ap, subst, arith, length}
use Rattle.use_orders.proofs.Common.{slice_index, slice_set, ◌∙◌, get_or-set_same, get_or-set_other, Global, Vec, cases_eq, length-set, In}
use Rattle.use_orders.proofs.Common.{In-append_left, In-push, In-push_cases, In-get_or, In-index, used_by, UsesNewCell, AreCells, lists_of}
use Rattle.std.proofs.Common.{slice_index_or}
use Rattle.std.proofs.lemmas.List.{length-map, map-set, get_or-map}

-- The first so many uses of a cell were added to the users of their children.
pub record AreAdded (children : List (List ℕ)) (first parent place : ℕ) (old now : List (List ℕ)) : Type 0 where
  pub fits : length now ≡ length old
  pub grown : (user cell : ℕ) → In user (used_by old cell) → In user (used_by now cell)
  pub there : (k : ℕ) → k < place → first ≤ slice_index (used_by children parent) k
      → In parent (used_by now (slice_index (used_by children parent) k))
  pub back : (user cell : ℕ) → In user (used_by now cell) → In user (used_by old cell) ⊎ UsesNewCell children first user cell

pub added_none : (children : List (List ℕ)) (first parent : ℕ) (old : List (List ℕ)) → AreAdded children first parent 0 old old
added_none children first parent old = record {
  fits = refl;
  grown = λ user cell h. h;
  there = λ k lt new. absurd (omega arith);
  back = λ user cell h. inl h;
}

-- the next use is of an old child
pub added_old : (children : List (List ℕ)) (first parent place child : ℕ) (old now : List (List ℕ)) → child ≡ slice_index (used_by children parent) place
    → child < first → AreAdded children first parent place old now → AreAdded children first parent (place + 1) old now
added_old children first parent place child old now is lt a = record {
  fits = a.fits;
  grown = a.grown;
  there = λ k below new. elim (cases_eq k place) [
    | inl same ↦ absurd (let n : first ≤ slice_index (used_by children parent) place = rw same at new in omega (arith, n, is, lt))
    | inr other ↦ a.there k (omega arith) new
  ];
  back = a.back;
}

-- the next use is of a new child
pub added_new : (children : List (List ℕ)) (first parent place child : ℕ) (old now next : List (List ℕ)) → child ≡ slice_index (used_by children parent) place
    → place < length (used_by children parent) → first ≤ parent → first ≤ child → child < length now
    → next ≡ slice_set now child (used_by now child ++ parent ∷ [])
    → AreAdded children first parent place old now → AreAdded children first parent (place + 1) old next
added_new children first parent place child old now next is lt new_parent new in_now e a =
    let P : List (List ℕ) → Type 0 = λ z. AreAdded children first parent (place + 1) old z in subst P (sym e) added
  where
    later : List (List ℕ)
    later = slice_set now child (used_by now child ++ parent ∷ [])

    here : used_by later child ≡ used_by now child ++ parent ∷ []
    here = get_or-set_same now child (used_by now child ++ parent ∷ []) [] in_now

    elsewhere : (c : ℕ) → c ≢ child → used_by later c ≡ used_by now c
    elsewhere c other = get_or-set_other now child c (used_by now child ++ parent ∷ []) [] other

    kept : (user c : ℕ) → In user (used_by now c) → In user (used_by later c)
    kept user c h = elim (cases_eq c child) [
      | inl same ↦ rw (same, here) (In-append_left user (used_by now child) (parent ∷ []) (rw same at h))
      | inr other ↦ rw (elsewhere c other) h
    ]

    added : AreAdded children first parent (place + 1) old later
    added = record {
      fits = length-set now child (used_by now child ++ parent ∷ []) ∙ a.fits;
      grown = λ user c h. kept user c (a.grown user c h);
      there = λ k below n. elim (cases_eq k place) [
        | inl same ↦ rw (same, ← is, here) (In-push (used_by now child) parent)
        | inr other ↦ kept parent (slice_index (used_by children parent) k) (a.there k (omega arith) n)
      ];
      back = λ user c h. elim (cases_eq c child) [
        | inl same ↦ elim (In-push_cases user (used_by now child) parent (rw (same, here) at h)) [
          | inl k ↦ (let r = a.back user child k in rw same r)
          | inr user_is ↦ inr (let Q : ℕ → Type 0 = λ z. UsesNewCell children first z c in
              subst Q user_is (new_parent, rw same new, rw (same, is) (In-get_or (used_by children parent) place 0 lt)))
        ]
        | inr other ↦ a.back user c (rw (elsewhere c other) at h)
      ];
    }

-- all uses of the cell were added
pub added_all : (children : List (List ℕ)) (first parent place : ℕ) (old now : List (List ℕ)) → length (used_by children parent) ≤ place
    → AreAdded children first parent place old now → (child : ℕ) → UsesNewCell children first parent child → In parent (used_by now child)
added_all children first parent place old now all a child step =
    let k = In-index child (used_by children parent) step.2 in
    let is = k.1.1 0 in
    let P : ℕ → Type 0 = λ z. In parent (used_by now z) in
    subst P is (a.there k.0 (omega (arith, k.1.0, all)) (omega (arith, is, step.1)))

-- The users of cells, by parents up to a number.
pub record AreUsersBelow (children : List (List ℕ)) (first upto : ℕ) (users : List (List ℕ)) : Type 0 where
  pub fits : length users ≡ length children
  pub there : (parent child : ℕ) → parent < upto → UsesNewCell children first parent child → In parent (used_by users child)
  pub back : (parent child : ℕ) → In parent (used_by users child) → UsesNewCell children first parent child

pub users_more : (children : List (List ℕ)) (first parent : ℕ) (users next : List (List ℕ)) → AreUsersBelow children first parent users
    → length next ≡ length users → ((user c : ℕ) → In user (used_by users c) → In user (used_by next c))
    → ((child : ℕ) → UsesNewCell children first parent child → In parent (used_by next child))
    → ((user c : ℕ) → In user (used_by next c) → In user (used_by users c) ⊎ UsesNewCell children first user c)
    → AreUsersBelow children first (parent + 1) next
users_more children first parent users next u len grown there back = record {
  fits = len ∙ u.fits;
  there = λ p child lt step. elim (cases_eq p parent) [
    | inl same ↦ rw same (there child (rw same at step))
    | inr other ↦ grown p child (u.there p child (omega arith) step)
  ];
  back = λ p child h. elim (back p child h) [ inl old ↦ u.back p child old | inr step ↦ step ];
}

-- the users of a cell are those of its vector
pub used_by-lists : (users : List (Vec ℕ Global)) (cell : ℕ) (was : Vec ℕ Global) → cell < length users → was ≡ slice_index_or users cell was
    → used_by (lists_of users) cell ≡ was.items
used_by-lists users cell was lt is =
    get_or-map (λ (vector : Vec ℕ Global). vector.items) users cell was [] lt ∙ ap (λ (vector : Vec ℕ Global). vector.items) (sym is)

-- a user is added to those of a cell
pub lists_of-set : (users : List (Vec ℕ Global)) (cell user : ℕ) (was now : Vec ℕ Global) → cell < length users → was ≡ slice_index_or users cell was
    → now.items ≡ was.items ++ user ∷ []
    → lists_of (slice_set users cell now) ≡ slice_set (lists_of users) cell (used_by (lists_of users) cell ++ user ∷ [])
lists_of-set users cell user was now lt is new =
    map-set (λ (vector : Vec ℕ Global). vector.items) users cell now
    ∙ ap (λ (items : List ℕ). slice_set (lists_of users) cell items)
    (new ∙ ap (λ (items : List ℕ). items ++ user ∷ []) (sym (used_by-lists users cell was lt is)))

pub length-lists_of : (lists : List (Vec ℕ Global)) → length (lists_of lists) ≡ length lists
length-lists_of lists = length-map lists (λ (vector : Vec ℕ Global). vector.items)

-- the child of the next use has a list
pub child_fits : (children : List (List ℕ)) (first parent place child : ℕ) (old now : List (Vec ℕ Global)) → AreCells children
    → length old ≡ length children → child ≡ slice_index (used_by children parent) place → place < length (used_by children parent)
    → AreAdded children first parent place (lists_of old) (lists_of now) → child < length now
child_fits children first parent place child old now cells fits is lt a =
    let c = cells parent (slice_index (used_by children parent) place) (In-get_or (used_by children parent) place 0 lt) in
    omega (arith, c, is, fits, a.fits, length-lists_of old, length-lists_of now)
