-- The search for the least cell that is its own descendant.
use Rattle.use_orders.proofs.Common.{◌≡◌, ◌≢◌, ℕ, ◌+◌, ◌<◌, ◌≤◌, List, [], ◌++◌, ◌⊎◌, inl, inr, refl, sym, ap, subst, arith, length, drop}
use Rattle.use_orders.proofs.Common.{slice_index, ◌∙◌, IfSome, IsSomeAnd, range_with_len, cases_eq, cases_lt, Chain, stay, go, In, Distinct}
use Rattle.use_orders.proofs.Common.{Chain-append, Chain-push, Distinct-places, In-append_left, In-append_right, In-append_cases, In-get_or}
use Rattle.use_orders.proofs.Common.{In-index, Unmet, Listed, OpenCell, UsesCell, UsesNewCell, IsDescendant, IsOwnDescendant, IsSearched, WalkState}
use Rattle.use_orders.proofs.Common.{cells_of, AreMutual, IsAtRest, IsThorough, HasVisited}
use Rattle.std.specs.Prelude.{Option, Some, None, MatchOption}
use Rattle.std.proofs.lemmas.List.{drop_at, get_or_past}
use Rattle.finite_sets.specs.Least.{IsLeast}
use Rattle.finite_sets.proofs.Distincts.{Distinct-append_apart, Distinct-append_right}
use Rattle.use_orders.specs.NewCells.{IsNew}
use Rattle.use_orders.specs.steps.Searches.{IsWalkOrder, AreUsers, IsRing, LowersLeast}
use Rattle.use_orders.proofs.Listed.{In-order, In-listed_cases, In-numbers}
use Rattle.use_orders.proofs.Thorough.{met_cases}

-- the rest of a walk, after it was at rest
module _ (children : List (List ℕ)) (first : ℕ) (s : WalkState) (rest : IsAtRest children first s) where
  -- what was listed is new
  pub listed_new : (c : ℕ) → In c s.order → IsNew children first c
  listed_new c h = (new, within)
    where
      new : first ≤ c
      new = elim (cases_lt c first) [
        | inl old ↦ absurd (Distinct-append_apart (range_with_len 0 first) s.order rest.1.distinct c (In-numbers first c old) h)
        | inr ge ↦ ge
      ]

      within : c < length children
      within = elim (cases_lt c (length s.marks)) [
        | inl lt ↦ omega (arith, lt, rest.1.fits)
        | inr ge ↦ absurd (let f : Unmet ≡ Listed = sym (get_or_past s.marks c Unmet ge) ∙ rest.1.marked c (In-order first s.order c h) in cc)
      ]

  -- nor is anything listed twice
  pub listed_once : Distinct s.order
  listed_once = Distinct-append_right (range_with_len 0 first) s.order rest.1.distinct

  -- the new children of what is listed are
  pub listed_closed : IsThorough children first s → (cell child : ℕ) → In cell s.order → UsesNewCell children first cell child → In child s.order
  listed_closed t cell child h step = elim (met_cases children first s child rest.1 (t.closed cell child h step)) [
    | inl k ↦ elim (In-listed_cases first s.order child k) [ inl old ↦ absurd (omega (arith, old, step.1)) | inr i ↦ i ]
    | inr o ↦ absurd (let D : List OpenCell → Type 0 = λ z. In child (cells_of z) in let k : ⊥ = subst D rest.0 o in k)
  ]

-- a step before, or none
descendant_before : {Step : ℕ → ℕ → Type 0} {a b c : ℕ} → Chain Step a b → IsDescendant Step b c → IsDescendant Step a c
descendant_before stay d = d
descendant_before (go s rest) d = (_, (s, Chain-append rest (go d.1.0 d.1.1)))

descendant_after : {Step : ℕ → ℕ → Type 0} {a b c : ℕ} → IsDescendant Step a b → Chain Step b c → IsDescendant Step a c
descendant_after d rest = (d.0, (d.1.0, Chain-append d.1.1 rest))

-- a chain between two different cells is a step at least
descendant_other : {Step : ℕ → ℕ → Type 0} {a b : ℕ} → Chain Step a b → a ≢ b → IsDescendant Step a b
descendant_other stay other = absurd (other refl)
descendant_other (go s rest) other = (_, (s, rest))

-- the members of a list that is no longer than 1 are one
single : (xs : List ℕ) (a b : ℕ) → length xs ≤ 1 → In a xs → In b xs → a ≡ b
single xs a b few h k =
    let i = In-index a xs h in
    let j = In-index b xs k in
    let z : i.0 ≡ j.0 = omega (arith, few, i.1.0, j.1.0) in
    sym (i.1.1 0) ∙ ap (λ n. slice_index xs n) z ∙ j.1.1 0

-- a cell with a use is one of the cells
pub has_use : (children : List (List ℕ)) (c child : ℕ) → UsesCell children c child → c < length children
has_use children c child u = elim (cases_lt c (length children)) [
  | inl lt ↦ lt
  | inr ge ↦ absurd (let k : In child [] = rw (get_or_past children c [] ge) at u in k)
]

-- a cell with a new child is new
pub own_is_new : (children : List (List ℕ)) (first c : ℕ) → IsOwnDescendant children first c → IsNew children first c
own_is_new children first c own = (own.1.0.0, has_use children c own.0 own.1.0.2)

-- users are cells, and their users are
pub users_are_cells : (children users : List (List ℕ)) (first : ℕ) → AreUsers children first users → (child parent : ℕ) → UsesCell users child parent
    → parent < length users
users_are_cells children users first are child parent u =
    let used = are.back parent child u in omega (arith, has_use children parent child used.2, are.fits)

-- One visit by way of the users, of the cell at a place of the order, after those behind it were visited.
module _ (children users : List (List ℕ)) (first : ℕ) (order : List ℕ) (walked : IsWalkOrder children first order) (are : AreUsers children first users)
    (place : ℕ) (in_order : place < length order) (s t : WalkState) (known least : Option ℕ)
    (before : IsSearched children users first order (place + 1) s known)
    (visit : HasVisited users first (slice_index order place) s t) where
  abbrev root : ℕ
  root = slice_index order place

  abbrev more : List ℕ
  more = visit.grows.0

  root_new : IsNew children first root
  root_new = walked.each.2 root (In-get_or order place 0 in_order)

  -- a step by way of the users, turned
  turned : (a b : ℕ) → UsesNewCell users first a b → UsesNewCell children first b a
  turned a b step = are.back b a step.2

  turned_back : (a b : ℕ) → UsesNewCell children first b a → UsesNewCell users first a b
  turned_back a b step = (step.1, step.0, are.there b a step)

  chain_turned : {a b : ℕ} → Chain (UsesNewCell users first) a b → Chain (UsesNewCell children first) b a
  chain_turned stay = stay
  chain_turned (go {a = a} {b = b} step c) = Chain-push (chain_turned c) (turned a b step)

  -- what leads to a listed cell is listed, before the visit and after it
  closed_before : {d c : ℕ} → Chain (UsesNewCell children first) d c → In c s.order → In d s.order
  closed_before stay h = h
  closed_before (go {a = d} {b = e} step c) h =
      listed_closed users first s before.rest before.thorough e d (closed_before c h) (turned_back e d step)

  closed_after : {d c : ℕ} → Chain (UsesNewCell children first) d c → In c t.order → In d t.order
  closed_after stay h = h
  closed_after (go {a = d} {b = e} step c) h =
      listed_closed users first t visit.rest (visit.thorough before.thorough) e d (closed_after c h) (turned_back e d step)

  root_listed : In root t.order
  root_listed = elim (In-listed_cases first t.order root visit.listed) [ inl old ↦ absurd (omega (arith, old, root_new.0)) | inr k ↦ k ]

  after_cases : (c : ℕ) → In c t.order → In c s.order ⊎ In c more
  after_cases c h = In-append_cases c s.order more (rw visit.grows.1 at h)

  more_after : (c : ℕ) → In c more → In c t.order
  more_after c h = let P : List ℕ → Type 0 = λ z. In c z in subst P (sym visit.grows.1) (In-append_right c s.order more h)

  before_after : (c : ℕ) → In c s.order → In c t.order
  before_after c h = let P : List ℕ → Type 0 = λ z. In c z in subst P (sym visit.grows.1) (In-append_left c s.order more h)

  once_after : Distinct (s.order ++ more)
  once_after = let P : List ℕ → Type 0 = λ z. Distinct z in subst P visit.grows.1 (listed_once users first t visit.rest)

  not_before : (c : ℕ) → In c more → In c s.order → ⊥
  not_before c h k = Distinct-append_apart s.order more once_after c k h

  -- what the visit lists leads to the root
  group_down : (c : ℕ) → In c more → Chain (UsesNewCell children first) c root
  group_down c h = elim (visit.source c (more_after c h)) [ inl old ↦ absurd (not_before c h old) | inr k ↦ chain_turned k ]

  in_walk : (c : ℕ) → In c more → In c order
  in_walk c h = let new = listed_new users first t visit.rest c (more_after c h) in walked.each.1 c (new.0, omega (arith, new.1, are.fits))

  same_place : (i : ℕ) → i < length order → slice_index order i ≡ root → i ≡ place
  same_place i lt e = elim (cases_lt i place) [
    | inl below ↦ absurd (Distinct-places order i place 0 walked.each.0 below in_order e)
    | inr ge ↦ elim (cases_lt place i) [
      | inl above ↦ absurd (Distinct-places order place i 0 walked.each.0 above lt (sym e))
      | inr le ↦ omega arith
    ]
  ]

  -- and the root leads to it
  group_mutual : (c : ℕ) → In c more → AreMutual children first c root
  group_mutual c h =
      let up = walked.up_to c root (in_walk c h) (group_down c h) in
      let last = up.0 in
      let at = up.1.1 in
      let i_is : at.0 ≡ place = same_place at.0 (omega (arith, at.2, at.3)) at.4 in
      elim (cases_eq at.1 place) [
        | inl same ↦ (let e : last ≡ root = sym at.5 ∙ ap (λ n. slice_index order n) same in
            let P : ℕ → Type 0 = λ z. AreMutual children first c z in subst P e up.1.0)
        | inr other ↦ absurd (let h' : In last s.order = (let P : ℕ → Type 0 = λ z. In z s.order in
            subst P at.5 (before.done at.1 (omega (arith, i_is, at.2)) at.3)) in
            not_before c h (closed_before up.1.0.0 h'))
      ]

  -- where the root is its own descendant, all of them are; and where one of them is, the root is
  own_from_root : (c : ℕ) → In c more → IsOwnDescendant children first root → IsOwnDescendant children first c
  own_from_root c h own = let m = group_mutual c h in descendant_after (descendant_before m.0 own) m.1

  own_of_root : (c : ℕ) → In c more → IsOwnDescendant children first c → IsOwnDescendant children first root
  own_of_root c h own = let m = group_mutual c h in descendant_after (descendant_before m.1 own) m.0

  -- a ring's cells are their own descendants
  ring_owns : (c : ℕ) → In c more → IsRing users root more → IsOwnDescendant children first c
  ring_owns c h (inr self) = let step = are.back root root self in own_from_root c h (root, (step, stay))
  ring_owns c h (inl many) =
      let a : ℕ = slice_index more 0 in
      let b : ℕ = slice_index more 1 in
      let in_a = In-get_or more 0 0 (omega (arith, many)) in
      let in_b = In-get_or more 1 0 many in
      let ma = group_mutual a in_a in
      let mb = group_mutual b in_b in
      let apart = Distinct-places more 0 1 0 (Distinct-append_right s.order more once_after) (omega arith) many in
      let own : IsOwnDescendant children first a = descendant_after (descendant_other (Chain-append ma.0 mb.1) apart) (Chain-append mb.0 ma.1) in
      own_from_root c h (own_of_root a in_a own)

  -- and only those
  own_rings : (c : ℕ) → In c more → IsOwnDescendant children first c → IsRing users root more
  own_rings c h own =
      let r = own_of_root c h own in
      let d : ℕ = r.0 in
      let root_more : In root more = elim (after_cases root root_listed) [
        | inl old ↦ absurd (not_before c h (closed_before (group_down c h) old))
        | inr k ↦ k
      ] in
      let d_more : In d more = elim (after_cases d (closed_after r.1.1 root_listed)) [
        | inl old ↦ absurd (not_before root root_more (closed_before (go r.1.0 stay) old))
        | inr k ↦ k
      ] in
      elim (cases_lt 1 (length more)) [
        | inl many ↦ inl many
        | inr few ↦ inr (let e = single more d root few d_more root_more in
            let P : ℕ → Type 0 = λ z. UsesNewCell children first root z in are.there root root (subst P e r.1.0))
      ]

  group_is : drop (length s.order) t.order ≡ more
  group_is = ap (drop (length s.order)) visit.grows.1 ∙ drop_at s.order more (length s.order) refl

  -- the search goes on
  module _ (lowered : LowersLeast users root (drop (length s.order) t.order) known least) where
    lowered_more : LowersLeast users root more known least
    lowered_more = let P : List ℕ → Type 0 = λ z. LowersLeast users root z known least in subst P group_is lowered

    own_after : (o : Option ℕ) → o ≡ least → IfSome o (IsOwnDescendant children first)
    own_after None e = tt
    own_after (Some m) e =
        let from : IfSome (Some m) (λ new. (known ≡ Some new) ⊎ (IsRing users root more × In new more)) =
        (let P : Option ℕ → Type 0 = λ z. IfSome z (λ new. (known ≡ Some new) ⊎ (IsRing users root more × In new more)) in
        subst P (sym e) lowered_more.source) in
        elim from [
          | inl was ↦ (let P : Option ℕ → Type 0 = λ z. IfSome z (IsOwnDescendant children first) in subst P was before.own)
          | inr k ↦ ring_owns m k.1 k.0
        ]

    -- what was known to be low enough still is
    kept_low : (a b : Option ℕ) (c : ℕ) → IfSome a (λ old. IsSomeAnd b (λ new. new ≤ old)) → IsSomeAnd a (λ l. l ≤ c) → IsSomeAnd b (λ l. l ≤ c)
    kept_low None b c kept low = absurd low
    kept_low (Some l) None c kept low = absurd kept
    kept_low (Some l) (Some m) c kept low = omega (arith, kept, low)

    pub searched_more : IsSearched children users first order place t least
    searched_more = record {
      rest = visit.rest;
      thorough = visit.thorough before.thorough;
      done = λ i from lt. elim (cases_eq i place) [
        | inl same ↦ rw same root_listed
        | inr other ↦ before_after (slice_index order i) (before.done i (omega arith) lt)
      ];
      own = own_after least refl;
      covers = λ c h own. elim (after_cases c h) [
        | inl old ↦ kept_low known least c lowered_more.kept (before.covers c old own)
        | inr k ↦ lowered_more.below (own_rings c k own) c k
      ];
    }

-- all was searched
pub searched_all : (children users : List (List ℕ)) (first : ℕ) (order : List ℕ) (s : WalkState) (least : Option ℕ) → IsWalkOrder children first order
    → IsSearched children users first order 0 s least
    → MatchOption least ((cell : ℕ) → IsOwnDescendant children first cell → ⊥) (IsLeast ◌≤◌ (IsOwnDescendant children first))
searched_all children users first order s None walked k = λ c own. k.covers c (visited c own) own
  where
    visited : (c : ℕ) → IsOwnDescendant children first c → In c s.order
    visited c own =
        let at = In-index c order (walked.each.1 c (own_is_new children first c own)) in
        let P : ℕ → Type 0 = λ z. In z s.order in
        subst P (at.1.1 0) (k.done at.0 (omega arith) at.1.0)
searched_all children users first order s (Some m) walked k = (k.own, λ c own. k.covers c (visited c own) own)
  where
    visited : (c : ℕ) → IsOwnDescendant children first c → In c s.order
    visited c own =
        let at = In-index c order (walked.each.1 c (own_is_new children first c own)) in
        let P : ℕ → Type 0 = λ z. In z s.order in
        subst P (at.1.1 0) (k.done at.0 (omega arith) at.1.0)
