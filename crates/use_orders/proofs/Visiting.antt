-- What visits list.
use Rattle.use_orders.proofs.Common.{◌≡◌, ℕ, ◌<◌, List, [], ◌∷◌, ◌++◌, ◌⊎◌, inl, inr, refl, sym, subst, arith, length, take, slice_index, cases_lt}
use Rattle.use_orders.proofs.Common.{length-append, get_or_append_left, get_or_push, Chain, stay, go, In, Distinct, Chain-carries, Distinct-push}
use Rattle.use_orders.proofs.Common.{In-append_left, In-index, In-push, In-push_cases, In-take, used_by, UsesCell, AreBehindChildren, Visits}
use Rattle.use_orders.proofs.Common.{IsLibraryOrder, none, again, anew}
use Rattle.std.proofs.lemmas.List.{take-append-le, take_at}
use Rattle.finite_sets.specs.Lists.{Lists}
use Rattle.use_orders.specs.Uses.{IsAtOrBelow}

-- a list in which each cell stands behind its children has the children of its cells
pub children_in : (Step : ℕ → ℕ → Type 0) (order : List ℕ) → AreBehindChildren Step order → (cell child : ℕ) → In cell order → Step cell child → In child order
children_in Step order behind cell child h s =
    let at = In-index cell order h in
    let P : ℕ → Type 0 = λ z. Step z child in
    In-take at.0 order child (behind at.0 child at.1.0 (subst P (sym (at.1.1 0)) s))

module _ (children : List (List ℕ)) where
  -- some cells are visited, and then others
  pub Visits-append : (before first mid rest after : List ℕ) → Visits children before first mid → Visits children mid rest after
      → Visits children before (first ++ rest) after
  Visits-append before [] mid rest after none w = w
  Visits-append before (cell ∷ cells) mid rest after (again known v) w = again known (Visits-append before cells mid rest after v w)
  Visits-append before (cell ∷ cells) mid rest after (anew {below = below} down free v) w =
      anew down free (Visits-append (below ++ cell ∷ []) cells mid rest after v w)

  -- what was listed stays listed
  pub Visits-keeps : (before cells after : List ℕ) → Visits children before cells after → (c : ℕ) → In c before → In c after
  Visits-keeps before [] after none c h = h
  Visits-keeps before (cell ∷ cells) after (again known v) c h = Visits-keeps before cells after v c h
  Visits-keeps before (cell ∷ cells) after (anew {below = below} down free v) c h =
      Visits-keeps (below ++ cell ∷ []) cells after v c
      (In-append_left c below (cell ∷ []) (Visits-keeps before (used_by children cell) below down c h))

  -- what is visited is listed
  pub Visits-lists : (before cells after : List ℕ) → Visits children before cells after → (c : ℕ) → In c cells → In c after
  Visits-lists before [] after none c h = absurd h
  Visits-lists before (cell ∷ cells) after (again known v) c (inl e) =
      let P : ℕ → Type 0 = λ z. In z before in Visits-keeps before cells after v c (subst P e known)
  Visits-lists before (cell ∷ cells) after (again known v) c (inr h) = Visits-lists before cells after v c h
  Visits-lists before (cell ∷ cells) after (anew {below = below} down free v) c (inl e) =
      let P : ℕ → Type 0 = λ z. In z (below ++ cell ∷ []) in Visits-keeps (below ++ cell ∷ []) cells after v c (subst P e (In-push below cell))
  Visits-lists before (cell ∷ cells) after (anew {below = below} down free v) c (inr h) = Visits-lists (below ++ cell ∷ []) cells after v c h

  -- what is listed was, or is at or below a cell that is visited
  pub Visits-source : (before cells after : List ℕ) → Visits children before cells after → (c : ℕ) → In c after
      → In c before ⊎ ((top : ℕ) × (In top cells × Chain (UsesCell children) top c))
  Visits-source before [] after none c h = inl h
  Visits-source before (cell ∷ cells) after (again known v) c h = elim (Visits-source before cells after v c h) [
    | inl k ↦ inl k
    | inr k ↦ inr (k.0, (inr k.1.0, k.1.1))
  ]
  Visits-source before (cell ∷ cells) after (anew {below = below} down free v) c h = elim (Visits-source (below ++ cell ∷ []) cells after v c h) [
    | inl k ↦ elim (In-push_cases c below cell k) [
      | inl old ↦ elim (Visits-source before (used_by children cell) below down c old) [
        | inl b ↦ inl b
        | inr u ↦ inr (cell, (inl refl, go u.1.0 u.1.1))
      ]
      | inr e ↦ inr (cell, (inl refl, (let P : ℕ → Type 0 = λ z. Chain (UsesCell children) cell z in subst P e stay)))
    ]
    | inr k ↦ inr (k.0, (inr k.1.0, k.1.1))
  ]

  -- nothing is listed twice
  pub Visits-distinct : (before cells after : List ℕ) → Visits children before cells after → Distinct before → Distinct after
  Visits-distinct before [] after none d = d
  Visits-distinct before (cell ∷ cells) after (again known v) d = Visits-distinct before cells after v d
  Visits-distinct before (cell ∷ cells) after (anew {below = below} down free v) d =
      Visits-distinct (below ++ cell ∷ []) cells after v (Distinct-push below cell (Visits-distinct before (used_by children cell) below down d) free)

  -- those that were not listed at first stand behind their children
  abbrev pub IsBehind : List ℕ → List ℕ → Type 0
  IsBehind old order = (place child : ℕ) → place < length order → (In (slice_index order place) old → ⊥) → UsesCell children (slice_index order place) child
      → In child (take place order)

  behind_push : (old below : List ℕ) (cell : ℕ) → ((child : ℕ) → UsesCell children cell child → In child below) → IsBehind old below
      → IsBehind old (below ++ cell ∷ [])
  behind_push old below cell all b place child lt free u = elim (cases_lt place (length below)) [
    | inl in_below ↦ (let e = get_or_append_left below (cell ∷ []) 0 place in_below in
        let f = take-append-le place below (cell ∷ []) (omega arith) in
        rw f (b place child in_below (λ h. free (rw e h)) (rw e at u)))
    | inr past ↦ (let last : length below ≡ place = omega (arith, length-append below (cell ∷ [])) in
        let e = get_or_push below cell 0 place last in
        let f = take_at below (cell ∷ []) place last in
        rw f (all child (rw e at u)))
  ]

  pub Visits-behind : (old before cells after : List ℕ) → Visits children before cells after → IsBehind old before → IsBehind old after
  Visits-behind old before [] after none b = b
  Visits-behind old before (cell ∷ cells) after (again known v) b = Visits-behind old before cells after v b
  Visits-behind old before (cell ∷ cells) after (anew {below = below} down free v) b =
      Visits-behind old (below ++ cell ∷ []) cells after v
      (behind_push old below cell (λ child u. Visits-lists before (used_by children cell) below down child u)
      (Visits-behind old before (used_by children cell) below down b))

  -- a visit lists the same cells in the same order
  pub Visits-unique : (before cells one other : List ℕ) → Visits children before cells one → Visits children before cells other → one ≡ other
  Visits-unique before [] one other none none = refl
  Visits-unique before (cell ∷ cells) one other (again known v) (again k w) = Visits-unique before cells one other v w
  Visits-unique before (cell ∷ cells) one other (again known v) (anew {below = below} down free w) =
      absurd (free (Visits-keeps before (used_by children cell) below down cell known))
  Visits-unique before (cell ∷ cells) one other (anew {below = below} down free v) (again known w) =
      absurd (free (Visits-keeps before (used_by children cell) below down cell known))
  Visits-unique before (cell ∷ cells) one other (anew {below = below} down free v) (anew {below = below'} down' free' w) =
      let e = Visits-unique before (used_by children cell) below below' down down' in
      let P : List ℕ → Type 0 = λ z. Visits children (z ++ cell ∷ []) cells one in
      Visits-unique (below' ++ cell ∷ []) cells one other (subst P e v) w

  -- the laws of the library order
  module _ (root : ℕ) (order : List ℕ) (is_order : IsLibraryOrder children root order) where
    pub library_order-behind : AreBehindChildren (UsesCell children) order
    library_order-behind place child lt u = Visits-behind [] [] (root ∷ []) order is_order (λ p d below free v. absurd (omega arith)) place child lt (λ n. n) u

    pub library_order-lists : Lists (IsAtOrBelow children root) order
    library_order-lists = (
      Visits-distinct [] (root ∷ []) order is_order tt,
      (λ c down. Chain-carries (λ x. In x order) (λ a b u h. children_in (UsesCell children) order library_order-behind a b h u) down
          (Visits-lists [] (root ∷ []) order is_order root (inl refl))),
      (λ c h. elim (Visits-source [] (root ∷ []) order is_order c h) [
        | inl n ↦ absurd n
        | inr k ↦ elim k.1.0 [ inl e ↦ (let P : ℕ → Type 0 = λ z. Chain (UsesCell children) z c in subst P (sym e) k.1.1) | inr n ↦ absurd n ]
      ]),
    )

  -- the root stands last
  pub library_order-last : (root : ℕ) (order : List ℕ) → IsLibraryOrder children root order → (front : List ℕ) × (order ≡ front ++ root ∷ [])
  library_order-last root order (again known v) = absurd known
  library_order-last root order (anew {below = below} down free none) = (below, refl)
