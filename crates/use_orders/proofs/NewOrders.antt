-- A walk that visits the new cells one after another.
use Rattle.use_orders.proofs.Common.{◌≡◌, ℕ, ◌+◌, ◌<◌, ◌≤◌, Bool, true, false, refl, List, [], ◌∷◌, inl, inr, sym, subst, arith, length, take}
use Rattle.use_orders.proofs.Common.{slice_index, ◌∙◌, range_with_len, cases_eq, length-append, In, In-append_left, In-append_cases, In-get_or}
use Rattle.use_orders.proofs.Common.{UsesNewCell, AreBehindChildren, IsOwnDescendant, IsChildrenFirst, WalkState, listed_by, cells_of, IsAtRest}
use Rattle.use_orders.proofs.Common.{IsThorough, HasVisited, OpenCell}
use Rattle.std.proofs.Common.{not}
use Rattle.std.proofs.Math.Seq.{take-append-add}
use Rattle.std.proofs.lemmas.List.{get_or-append-add}
use Rattle.use_orders.specs.steps.Searches.{HasWalked, IsWalkOrder}
use Rattle.use_orders.proofs.Listed.{In-listed_cases, In-numbers_below}
use Rattle.use_orders.proofs.Rings.{listed_new, listed_once}
use Rattle.use_orders.proofs.Visiting.{IsBehind, Visits-behind}

-- The new cells up to a number were visited.
pub record IsWalked (children : List (List ℕ)) (first upto : ℕ) (s : WalkState) : Type 0 where
  pub rest : IsAtRest children first s
  pub all : (cell : ℕ) → first ≤ cell → cell < upto → In cell s.order
  pub behind : s.is_cyclic ≡ false → IsBehind children (range_with_len 0 first) (listed_by first s.order)
  pub cyclic : s.is_cyclic ≡ true → (cell : ℕ) × IsOwnDescendant children first cell
  pub thorough : IsThorough children first s

-- old cells stand behind none
behind_old : (children : List (List ℕ)) (first : ℕ) → IsBehind children (range_with_len 0 first) (listed_by first [])
behind_old children first place child lt free u =
    absurd (free (elim (In-append_cases cell (range_with_len 0 first) [] here) [ inl k ↦ k | inr n ↦ absurd n ]))
  where
    cell : ℕ
    cell = slice_index (listed_by first []) place

    here : In cell (listed_by first [])
    here = In-get_or (listed_by first []) place 0 lt

pub walked_none : (children : List (List ℕ)) (first : ℕ) (s : WalkState) → IsAtRest children first s → IsThorough children first s → s.order ≡ []
    → s.is_cyclic ≡ false → IsWalked children first first s
walked_none children first s rest t none calm = record {
  rest = rest;
  all = λ c from lt. absurd (omega arith);
  behind = λ e. let P : List ℕ → Type 0 = λ z. IsBehind children (range_with_len 0 first) (listed_by first z) in subst P (sym none) (behind_old children first);
  cyclic = λ e. absurd (let f : false ≡ true = sym calm ∙ e in cc);
  thorough = t;
}

-- one cell more is visited
pub walked_more : (children : List (List ℕ)) (first cell : ℕ) (s t : WalkState) → first ≤ cell → IsWalked children first cell s
    → HasVisited children first cell s t
    → IsWalked children first (cell + 1) t
walked_more children first cell s t new w v = record {
  rest = v.rest;
  all = λ c from lt. elim (cases_eq c cell) [
    | inl same ↦ rw same (elim (In-listed_cases first t.order cell v.listed) [ inl old ↦ absurd (omega arith) | inr k ↦ k ])
    | inr other ↦ (let P : List ℕ → Type 0 = λ z. In c z in subst P (sym v.grows.1) (In-append_left c s.order v.grows.0 (w.all c from (omega arith))))
  ];
  behind = λ calm. let r = v.visits calm in
      Visits-behind children (range_with_len 0 first) (listed_by first s.order) (cell ∷ []) (listed_by first t.order) r.1 (w.behind r.0);
  cyclic = λ e. elim (v.cyclic e) [ inl was ↦ w.cyclic was | inr has ↦ (has.0, has.2) ];
  thorough = v.thorough w.thorough;
}

-- new cells stand behind their new children
behind_new : (children : List (List ℕ)) (first : ℕ) (order : List ℕ) → IsBehind children (range_with_len 0 first) (listed_by first order)
    → AreBehindChildren (UsesNewCell children first) order
behind_new children first order b place child lt step =
    let old : List ℕ = range_with_len 0 first in
    let e = get_or-append-add old order place 0 in
    let f = take-append-add old order place in
    let k = b (length old + place) child (omega (arith, length-append old order))
    (λ h. let i = In-numbers_below first (slice_index order place) (rw e at h) in omega (arith, i, step.0)) (rw e step.2) in
    elim (In-append_cases child old (take place order) (rw f at k)) [
      | inl o ↦ absurd (let i = In-numbers_below first child o in omega (arith, i, step.1))
      | inr n ↦ n
    ]

-- all were visited
pub walked_all : (children : List (List ℕ)) (first upto : ℕ) (s : WalkState) → length children ≡ upto → IsWalked children first upto s
    → HasWalked children first s
walked_all children first upto s len w = record {
  order = record {
    each = (listed_once children first s w.rest, (λ c new. w.all c new.0 (omega (arith, new.1))), (λ c h. listed_new children first s w.rest c h));
    up_to = λ c other h down. elim (w.thorough.together c other h down) [
      | inl k ↦ k
      | inr o ↦ absurd (let D : List OpenCell → Type 0 = λ z. In o.0 (cells_of z) in let k : ⊥ = subst D w.rest.0 o.1.1 in k)
    ];
  };
  behind = λ calm. behind_new children first s.order (w.behind calm);
  cyclic = w.cyclic;
}

-- the order of a walk that met no open cell
pub in_order : (children : List (List ℕ)) (first : ℕ) (is_cyclic : Bool) (order : List ℕ) → IsWalkOrder children first order
    → (is_cyclic ≡ false → AreBehindChildren (UsesNewCell children first) order) → not is_cyclic ≡ true → IsChildrenFirst children first order
in_order children first false order w behind e = record { each = w.each; behind = behind refl }
in_order children first true order w behind e = absurd (let f : false ≡ true = e in cc)

-- a walk that met an open cell leaves a cycle
pub must_cycle : (children : List (List ℕ)) (first : ℕ) (is_cyclic : Bool) → (is_cyclic ≡ true → (cell : ℕ) × IsOwnDescendant children first cell)
    → (not is_cyclic ≡ false) → ((cell : ℕ) → IsOwnDescendant children first cell → ⊥) → ⊥
must_cycle children first false has e none = let f : true ≡ false = e in cc
must_cycle children first true has e none = let k = has refl in none k.0 k.1
