-- Library orders: what stands below a cell is listed before it.
use Rattle.ext_cache.proofs.Common.{◌≡◌, ◌<◌, ◌∙◌, ℕ, sym, subst, arith, List, length, take, get_or, stay, go, In, AreBehindChildren, UsesCell}
use Rattle.ext_cache.proofs.Common.{HasChild, children_in, LibraryParts, seen, LibraryView, view_at, IsBelow}
use Rattle.std.proofs.lemmas.List.{get_or-take, length-take-le}
use Rattle.finite_sets.proofs.Members.{In-get_or, In-index}
use Rattle.tree_merges.proofs.CellLibrary.ChildLaws.{child_used}
use Rattle.tree_merges.specs.ElementPaths.LibraryTrees.NamedCells.{IsAtOrBelow as IsSeenAtOrBelow}

-- ---- what stands below

-- what is seen to be a child is used
child_is_used : (view : LibraryView) (upper lower : ℕ) → HasChild (view_at view upper).uses lower → UsesCell (children_in view) upper lower
child_is_used view upper lower has =
    subst (λ (cell : ℕ). UsesCell (children_in view) upper cell) has.same (child_used view upper has.k has.entry has.stands)

-- where a cell of an order is listed with all that is listed before it, what stands at or below it is
listed_below : (view : LibraryView) (cells : List ℕ)
    → ((upper lower : ℕ) → In upper cells → UsesCell (children_in view) upper lower → In lower cells)
    → (upper lower : ℕ) → In upper cells → IsSeenAtOrBelow view upper lower → In lower cells
listed_below view cells closed upper lower listed stay = listed
listed_below view cells closed upper lower listed (go {b = child} step rest) =
    listed_below view cells closed child lower (closed upper child listed (child_is_used view upper child step)) rest

-- what is among the first cells of an order stands at a place of it
pub place_of : (order : List ℕ) (place cell : ℕ) → place < length order → In cell (take place order)
    → (at : ℕ) × ((at < place) × (get_or order at 0 ≡ cell))
place_of order place cell below listed =
    let at = In-index cell (take place order) listed in
    let short : length (take place order) ≡ place = length-take-le place order (omega (arith, below)) in (
      at.0,
      (omega (arith, at.1.0, short), sym (get_or-take place order at.0 0 (omega (arith, at.1.0, short))) ∙ at.1.1 0),
    )

-- what is among the first cells is among more of them
In-take_wider : (order : List ℕ) (few more cell : ℕ) → few < more → more < length order → In cell (take few order) → In cell (take more order)
In-take_wider order few more cell fewer below listed =
    let at = place_of order few cell (omega (arith, fewer, below)) listed in
    let long : length (take more order) ≡ more = length-take-le more order (omega (arith, below)) in
    subst (λ (c : ℕ). In c (take more order)) (get_or-take more order at.0 0 (omega (arith, at.1.0, fewer)) ∙ at.1.1)
    (In-get_or (take more order) at.0 0 (omega (arith, at.1.0, fewer, long)))

-- the first cells of an order are closed: what they use is among them
first_closed : (children : List (List ℕ)) (order : List ℕ) → AreBehindChildren (UsesCell children) order → (place : ℕ) → place < length order
    → (upper lower : ℕ) → In upper (take place order) → UsesCell children upper lower → In lower (take place order)
first_closed children order behind place below upper lower listed uses =
    let at = place_of order place upper below listed in
    let earlier : In lower (take at.0 order) =
    behind at.0 lower (omega (arith, below, at.1.0)) (subst (λ (cell : ℕ). UsesCell children cell lower) (sym at.1.1) uses) in
    In-take_wider order at.0 place lower at.1.0 below earlier

-- what stands below the cell at a place of an order is listed before it
pub below_is_before : (library : LibraryParts) (order : List ℕ) → AreBehindChildren (UsesCell (children_in (seen library))) order → (place : ℕ)
    → place < length order → (below : ℕ) → IsBelow (seen library) (get_or order place 0) below → In below (take place order)
below_is_before library order behind place there below is =
    let view : LibraryView = seen library in
    let first : In is.child (take place order) = behind place is.child there (child_is_used view (get_or order place 0) is.child is.uses) in
    listed_below view (take place order) (first_closed (children_in view) order behind place there) is.child below first is.at_or_below
