-- Where the cells of a tree stand: what they have, how many they are, and that they are the standings.
use Rattle.cell_library.proofs.Common.{◌≡◌, ◌+◌, ◌*◌, ◌<◌, ◌≤◌, ℕ, zero, suc, ℤ, List, [], ◌∷◌, ◌++◌, map, length, refl, sym, ap, subst, ◌∙◌, arith}
use Rattle.cell_library.proofs.Common.{inl, inr, Some, slice_get, map-append, In, In-append_cases, Rect, Transform, Covers, composed, identity}
use Rattle.cell_library.proofs.Common.{Place, Size, UseBody, displacements, CellState, AreSizes, size_at, elements_below, cell_at, child_is_lower}
use Rattle.cell_library.proofs.Common.{cell_is, CellTree, Standing, place_back, standings, cell_tree, no_elements, element_and, elements_at}
use Rattle.cell_library.proofs.Common.{elements_from, tree_to, AreStatesOf, HasMaterial, HasMaterialBelow, LibraryView, view_at, placed_cells}
use Rattle.cell_library.proofs.Common.{placed_below, HasThere, AreOutside}
use Rattle.std.proofs.lemmas.List.{length-append}
use Rattle.cell_tree.specs.Sizes.{size_of}
use Rattle.cell_bodies.specs.LayoutModel.CellTrees.{Elements, under, standings_from}
use Rattle.cell_library.proofs.ElementCounts.{size_elements}
use Rattle.cell_library.proofs.HullsHoldMaterial.{hull_holds_material, state_uses}
use Rattle.cell_library.proofs.PlacedRects.{back_on, composed_assoc, identity_then, then_identity}
use Rattle.cell_library.proofs.SizeLaws.{HaveChildren, some_depth}

-- ---- material

-- what a cell of a tree has at a place, the tree has at the place from which the tree's transform brings it
mutual
  pub placed_has : (step part : ℕ) (placed : Transform) (tree : CellTree) (standing : Standing) (place : Place)
      → In standing (placed_cells step part placed tree)
      → HasThere standing place → HasMaterial tree (place_back placed place)
  placed_has step part placed (cell_tree own under_it) standing place (inl same) has = inl (subst (λ (s : Standing). HasThere s place) (sym same) has)
  placed_has step part placed (cell_tree own under_it) standing place (inr below) has =
      inr (placed_below_has step (part + step) placed under_it standing place below has)

  pub placed_below_has : (step part : ℕ) (outer : Transform) (elements : Elements) (standing : Standing) (place : Place)
      → In standing (placed_below step part outer elements) → HasThere standing place → HasMaterialBelow elements (place_back outer place)
  placed_below_has step part outer no_elements standing place none has = none
  placed_below_has step part outer (element_and placed tree rest) standing place stands has =
      elim (In-append_cases standing (placed_cells 0 part (composed placed outer) tree) (placed_below step (part + step) outer rest) stands) [
        | inl here ↦
            inl (subst (HasMaterial tree) (back_on placed outer place) (placed_has 0 part (composed placed outer) tree standing place here has))
        | inr later ↦ inr (placed_below_has step (part + step) outer rest standing place later has)
      ]

-- Where the hull of a cell has nothing in common with an area that comes back to it, nothing at or below the cell has anything there.
pub outside_hull : (view : LibraryView) (states : List CellState) (sizes : List Size) → AreStatesOf view.cells states → AreSizes states sizes
    → (depth cell step part : ℕ) (placed : Transform) (area : Rect)
    → ((hull : Rect) (place : Place) → (size_at sizes cell).hull ≡ Some hull → Covers hull (place_back placed place).square
    → Covers area place.square → ⊥)
    → AreOutside area (placed_cells step part placed (tree_to view depth cell))
outside_hull view states sizes are right depth cell step part placed area apart standing stands place covers has =
    let found = hull_holds_material view states sizes are right depth cell (place_back placed place)
    (placed_has step part placed (tree_to view depth cell) standing place stands has) in
    apart found.0 place found.1 found.2 covers

-- ---- how many

-- how many cells stand in a tree
abbrev mutual
  pub cells_in : CellTree → ℕ
  cells_in (cell_tree own elements) = suc (cells_below elements)

  pub cells_below : Elements → ℕ
  cells_below no_elements = 0
  cells_below (element_and placed tree rest) = cells_in tree + cells_below rest

-- they all stand in the list
mutual
  pub length-placed : (step part : ℕ) (placed : Transform) (tree : CellTree) → length (placed_cells step part placed tree) ≡ cells_in tree
  length-placed step part placed (cell_tree own elements) = ap suc (length-placed_below step (part + step) placed elements)

  pub length-placed_below : (step part : ℕ) (outer : Transform) (elements : Elements)
      → length (placed_below step part outer elements) ≡ cells_below elements
  length-placed_below step part outer no_elements = refl
  length-placed_below step part outer (element_and placed tree rest) =
      let first = length-placed 0 part (composed placed outer) tree in
      let later = length-placed_below step (part + step) outer rest in
      length-append (placed_cells 0 part (composed placed outer) tree) (placed_below step (part + step) outer rest) ∙ omega (arith, first, later)

cells_below-at : (tree : CellTree) (placed : Transform) (steps : List (ℤ × ℤ)) (rest : Elements)
    → cells_below (elements_at tree placed steps rest) ≡ length steps * cells_in tree + cells_below rest
cells_below-at tree placed [] rest = omega arith
cells_below-at tree placed (step ∷ steps) rest = let later = cells_below-at tree placed steps rest in omega (arith, later)

cells_below-from : (trees : ℕ → CellTree) (sizes : ℕ → Size) (uses : List (List ℕ × UseBody))
    → ((k : ℕ) (entry : List ℕ × UseBody) → slice_get uses k ≡ Some entry → cells_in (trees entry.1.child.0) ≡ (sizes entry.1.child.0).elements)
    → cells_below (elements_from trees uses) ≡ elements_below sizes uses
cells_below-from trees sizes [] same = refl
cells_below-from trees sizes (entry ∷ rest) same =
    let later = cells_below-from trees sizes rest (λ k other is. same (suc k) other is) in
    let steps = displacements entry.1.grid in
    cells_below-at (trees entry.1.child.0) entry.1.placed steps (elements_from trees rest)
    ∙ ap (λ (n : ℕ). length steps * n + cells_below (elements_from trees rest)) (same 0 entry refl)
    ∙ ap (λ (n : ℕ). length steps * (sizes entry.1.child.0).elements + n) later

-- A cell has as many elements at and below it as its tree has cells, where the tree goes down as far as the cell.
pub cells_counted : (view : LibraryView) (states : List CellState) (sizes : List Size) → AreStatesOf view.cells states → AreSizes states sizes
    → HaveChildren states
    → (depth cell : ℕ) → cell < length states → (size_at sizes cell).depth ≤ suc depth
    → cells_in (tree_to view depth cell) ≡ (size_at sizes cell).elements
cells_counted view states sizes are right children zero cell below deep =
    let state = cell_at states cell in
    let there = cell_is states cell below in
    let size : size_at sizes cell ≡ size_of (size_at sizes) state = right cell state there in
    let depths : (size_at sizes cell).depth ≡ (size_of (size_at sizes) state).depth = ap (λ (s : Size). s.depth) size in
    sym (ap (λ (s : Size). s.elements) size ∙ size_elements (size_at sizes) state
    ∙ ap suc (no_uses state.uses (λ k entry is.
    let child = children cell state there k entry is in
    let falls = child_is_lower (size_at sizes) state k entry is in
    let some = some_depth (size_at sizes) (cell_at states entry.1.child.0) in
    let its : (size_at sizes entry.1.child.0).depth ≡ (size_of (size_at sizes) (cell_at states entry.1.child.0)).depth =
    ap (λ (s : Size). s.depth) (right entry.1.child.0 (cell_at states entry.1.child.0) (cell_is states entry.1.child.0 child)) in
    omega (arith, falls, some, its, depths, deep))))
  where
    no_uses : (uses : List (List ℕ × UseBody)) → ((k : ℕ) (entry : List ℕ × UseBody) → slice_get uses k ≡ Some entry → ⊥)
        → elements_below (size_at sizes) uses ≡ 0
    no_uses [] none = refl
    no_uses (entry ∷ rest) none = absurd (none 0 entry refl)
cells_counted view states sizes are right children (suc depth) cell below deep =
    let state = cell_at states cell in
    let there = cell_is states cell below in
    let size : size_at sizes cell ≡ size_of (size_at sizes) state = right cell state there in
    let depths : (size_at sizes cell).depth ≡ (size_of (size_at sizes) state).depth = ap (λ (s : Size). s.depth) size in
    let uses : state.uses ≡ (view_at view cell).uses = state_uses view.cells states cell are below in
    let counted : cells_below (elements_from (tree_to view depth) state.uses) ≡ elements_below (size_at sizes) state.uses =
    cells_below-from (tree_to view depth) (size_at sizes) state.uses (λ k entry is.
    let child = children cell state there k entry is in
    let falls = child_is_lower (size_at sizes) state k entry is in
    cells_counted view states sizes are right children depth entry.1.child.0 child (omega (arith, falls, depths, deep))) in
    ap (λ (u : List (List ℕ × UseBody)). suc (cells_below (elements_from (tree_to view depth) u))) (sym uses)
    ∙ ap suc counted ∙ sym (ap (λ (s : Size). s.elements) size ∙ size_elements (size_at sizes) state)

-- ---- standings

-- cells of a tree that stand in a part of a cell above
mutual
  pub under_placed : (part : ℕ) (outer : Transform) (step first : ℕ) (placed : Transform) (tree : CellTree)
      → map (under part outer) (placed_cells step first placed tree) ≡ placed_cells 0 part (composed placed outer) tree
  under_placed part outer step first placed (cell_tree own elements) =
      ap (λ (rest : List Standing). record { part = part; own = own; placed = composed placed outer } ∷ rest)
      (under_placed_below part outer step (first + step) placed elements
      ∙ ap (λ (n : ℕ). placed_below 0 n (composed placed outer) elements) (let e : part ≡ part + 0 = omega arith in e))

  pub under_placed_below : (part : ℕ) (outer : Transform) (step first : ℕ) (inner : Transform) (elements : Elements)
      → map (under part outer) (placed_below step first inner elements) ≡ placed_below 0 part (composed inner outer) elements
  under_placed_below part outer step first inner no_elements = refl
  under_placed_below part outer step first inner (element_and placed tree rest) =
      map-append (under part outer) (placed_cells 0 first (composed placed inner) tree) (placed_below step (first + step) inner rest)
      ∙ ap (λ (cells : List Standing). cells ++ map (under part outer) (placed_below step (first + step) inner rest))
      (under_placed part outer 0 first (composed placed inner) tree
      ∙ ap (λ (t : Transform). placed_cells 0 part t tree) (sym (composed_assoc placed inner outer)))
      ∙ ap (λ (cells : List Standing). placed_cells 0 part (composed placed (composed inner outer)) tree ++ cells)
      (under_placed_below part outer step (first + step) inner rest
      ∙ ap (λ (n : ℕ). placed_below 0 n (composed inner outer) rest) (let e : part ≡ part + 0 = omega arith in e))

-- The standings of a tree are where its cells stand, the parts of its elements counted.
mutual
  pub standings_placed : (tree : CellTree) → standings tree ≡ placed_cells 1 0 identity tree
  standings_placed (cell_tree own elements) = ap (λ (rest : List Standing). record {
    part = 0;
    own = own;
    placed =
        identity;
  } ∷ rest) (standings_from_placed 1 elements)

  pub standings_from_placed : (part : ℕ) (elements : Elements) → standings_from part elements ≡ placed_below 1 part identity elements
  standings_from_placed part no_elements = refl
  standings_from_placed part (element_and placed tree rest) =
      ap (λ (cells : List Standing). map (under part placed) cells ++ standings_from (suc part) rest) (standings_placed tree)
      ∙ ap (λ (cells : List Standing). cells ++ standings_from (suc part) rest) (under_placed part placed 1 0 identity tree)
      ∙ ap (λ (t : Transform). placed_cells 0 part t tree ++ standings_from (suc part) rest) (moved placed)
      ∙ ap (λ (cells : List Standing). placed_cells 0 part (composed placed identity) tree ++ cells)
      (standings_from_placed (suc part) rest ∙ ap (λ (n : ℕ). placed_below 1 n identity rest) (let e : suc part ≡ part + 1 = omega arith in e))
    where
      moved : (placed : Transform) → composed identity placed ≡ composed placed identity
      moved placed = identity_then placed ∙ sym (then_identity placed)
