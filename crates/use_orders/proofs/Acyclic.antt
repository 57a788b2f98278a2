-- Where no cell is its own descendant.
use Rattle.use_orders.proofs.Common.{◌≡◌, ℕ, ◌<◌, ◌≤◌, Bool, true, false, List, [], ◌∷◌, ◌⊎◌, inl, inr, refl, arith, subst, sym, length, take}
use Rattle.use_orders.proofs.Common.{slice_index, ◌∙◌, cases_lt, Chain, stay, go, In, Chain-carries, Distinct-places, In-index, In-take}
use Rattle.use_orders.proofs.Common.{IsOwnDescendant, IsChildrenFirst, UsesCell, UsesNewCell, IsDescendant, AreBehindChildren, Visits}
use Rattle.use_orders.proofs.Common.{IsLibraryOrder, HasCycle, listed_by}
use Rattle.std.proofs.lemmas.List.{length-take, get_or-take, take-take}
use Rattle.finite_sets.proofs.Chains.{Chain-weaker}
use Rattle.use_orders.specs.Uses.{IsAcyclicBelow}
use Rattle.use_orders.proofs.Rings.{own_is_new}

-- a walk below such a root meets no open cell
pub not_cyclic : (children : List (List ℕ)) (root : ℕ) (is_cyclic : Bool) → IsAcyclicBelow children root
    → (is_cyclic ≡ true → (false ≡ true) ⊎ HasCycle children 0 root) → is_cyclic ≡ false
not_cyclic children root false acyclic has = refl
not_cyclic children root true acyclic has = elim (has refl) [
  | inl was ↦ absurd (let f : false ≡ true = was in cc)
  | inr k ↦ absurd (acyclic k.0 (Chain-weaker old k.1) (k.2.0, (k.2.1.0.2, Chain-weaker old k.2.1.1)))
]
  where
    old : (a b : ℕ) → UsesNewCell children 0 a b → UsesCell children a b
    old a b u = u.2

-- what a walk from nothing lists is the library order
pub order_from_walk : (children : List (List ℕ)) (root first : ℕ) (old new : List ℕ) → first ≡ 0 → old ≡ []
    → Visits children (listed_by first old) (root ∷ []) (listed_by first new) → IsLibraryOrder children root new
order_from_walk children root first old new e f v =
    let P : ℕ → Type 0 = λ z. Visits children (listed_by z old) (root ∷ []) (listed_by z new) in
    let Q : List ℕ → Type 0 = λ z. Visits children (listed_by 0 z) (root ∷ []) (listed_by 0 new) in
    let r : IsLibraryOrder children root new = subst Q f (subst P e v) in
    r

-- where a rank falls with each step, it falls along each chain
rank_falls : (Step : ℕ → ℕ → Type 0) (rank : ℕ → ℕ) → ((parent child : ℕ) → Step parent child → rank child < rank parent) → {a b : ℕ} → Chain Step a b
    → rank b ≤ rank a
rank_falls Step rank falls stay = omega arith
rank_falls Step rank falls (go {a = a} {b = b} s c) = omega (arith, falls a b s, rank_falls Step rank falls c)

-- where each cell has a rank above those of its children, no cell is its own descendant
pub acyclic_by_rank : (children : List (List ℕ)) (rank : ℕ → ℕ) (root : ℕ) → ((parent child : ℕ) → UsesCell children parent child → rank child < rank parent)
    → IsAcyclicBelow children root
acyclic_by_rank children rank root falls cell down own =
    omega (arith, falls cell own.0 own.1.0, rank_falls (UsesCell children) rank falls own.1.1)

-- a front of a list in which cells stand behind their children has the children of its cells
front_closed : (Step : ℕ → ℕ → Type 0) (order : List ℕ) → AreBehindChildren Step order → (n a b : ℕ) → n ≤ length order → In a (take n order) → Step a b
    → In b (take n order)
front_closed Step order behind n a b few h s =
    let at = In-index a (take n order) h in
    let lt : at.0 < n = omega (arith, at.1.0, length-take n order) in
    let is : slice_index order at.0 ≡ a = sym (get_or-take n order at.0 0 lt) ∙ at.1.1 0 in
    let P : ℕ → Type 0 = λ z. Step z b in
    In-take at.0 (take n order) b (rw (take-take at.0 n order (omega (arith, lt)))
    (behind at.0 b (omega (arith, lt)) (subst P (sym is) s)))

-- where the new cells have an order, none is its own descendant
pub order_leaves_no_cycle : (children : List (List ℕ)) (first : ℕ) (order : List ℕ) → IsChildrenFirst children first order → (cell : ℕ)
    → IsOwnDescendant children first cell → ⊥
order_leaves_no_cycle children first order o cell own =
    let at = In-index cell order (o.each.1 cell (own_is_new children first cell own)) in
    let is = at.1.1 0 in
    let P : ℕ → Type 0 = λ z. UsesNewCell children first z own.0 in
    let child = o.behind at.0 own.0 at.1.0 (subst P (sym is) own.1.0) in
    let back = Chain-carries (λ z. In z (take at.0 order))
    (λ a b s h. front_closed (UsesNewCell children first) order o.behind at.0 a b (omega (arith, at.1.0)) h s)
    own.1.1 child in
    let j = In-index cell (take at.0 order) back in
    let lt : j.0 < at.0 = omega (arith, j.1.0, length-take at.0 order) in
    Distinct-places order j.0 at.0 0 o.each.0 lt at.1.0 (sym (get_or-take at.0 order j.0 0 lt) ∙ j.1.1 0 ∙ sym is)

-- where old cells use old ones alone, what leads to a new cell is new
chain_new : (children : List (List ℕ)) (first : ℕ) → ((parent child : ℕ) → parent < first → UsesCell children parent child → child < first) → {a c : ℕ}
    → first ≤ c → Chain (UsesCell children) a c → (first ≤ a) × Chain (UsesNewCell children first) a c
chain_new children first old new stay = (new, stay)
chain_new children first old new (go {a = a} {b = b} s rest) =
    let r = chain_new children first old new rest in
    let at : first ≤ a = elim (cases_lt a first) [ inl lt ↦ absurd (omega (arith, old a b lt s, r.0)) | inr ge ↦ ge ] in
    (at, go (at, r.0, s) r.1)

-- a new cell that is its own descendant is so by way of new cells
pub own_by_new : (children : List (List ℕ)) (first : ℕ) → ((parent child : ℕ) → parent < first → UsesCell children parent child → child < first) → (cell : ℕ)
    → first ≤ cell → IsDescendant (UsesCell children) cell cell → IsOwnDescendant children first cell
own_by_new children first old cell new own = let r = chain_new children first old new own.1.1 in (own.0, ((new, r.0, own.1.0), r.1))

-- where all cells have an order, none is its own descendant
pub acyclic_by_order : (children : List (List ℕ)) (order : List ℕ) (root : ℕ) → IsChildrenFirst children 0 order → IsAcyclicBelow children root
acyclic_by_order children order root o cell down own =
    order_leaves_no_cycle children 0 order o cell (own_by_new children 0 (λ a b lt. absurd (omega arith)) cell (omega arith) own)
