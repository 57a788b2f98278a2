-- The hull of a cell holds all material at and below it.
use Rattle.cell_library.proofs.Common.{◌≡◌, ◌≢◌, ◌⊎◌, ◌<◌, ℕ, zero, suc, ℤ, List, [], ◌∷◌, ◌++◌, map, length, Option, refl, sym, ap, subst, ◌∙◌}
use Rattle.cell_library.proofs.Common.{arith, inl, inr, Some, None, slice_index_or, option_to_list, cases_lt, ints, get_or_past, In, In-append_left}
use Rattle.cell_library.proofs.Common.{In-append_right, Orient, R0, Square, Rect, Transform, LiesWithin, Covers, image, inverted, rect_is}
use Rattle.cell_library.proofs.Common.{transform_of, image-forth, rect_image-covers, RawTech, parts_of, Place, IsMaterial, Size, UseBody}
use Rattle.cell_library.proofs.Common.{displacements, displaced, element_hulls, round_all, IsInside, CellState, AreSizes, hulls_below, size_at}
use Rattle.cell_library.proofs.Common.{cell_at, inside_all, cell_is, CellTree, place_back, cell_tree, no_elements, element_and, flat_sets}
use Rattle.cell_library.proofs.Common.{sets_below, element_transform, elements_at, elements_from, tree_to, AreStatesOf, HasMaterial}
use Rattle.cell_library.proofs.Common.{HasMaterialBelow, OwnBoxIs, CellView, LibraryView, no_cell, view_at}
use Rattle.geo_core.specs.Images.{rect_image}
use Rattle.cell_tree.specs.Sizes.{size_of}
use Rattle.cell_bodies.specs.LayoutModel.CellTrees.{Elements}
use Rattle.cell_bodies.specs.LayoutModel.FlatSets.{sets_in}
use Rattle.cell_bodies.proofs.LayoutModel.SetUnions.{union_some}
use Rattle.cell_library.proofs.ViewLaws.{length-states, state_there}

-- ---- elements

element_image-by_orient : (o : Orient) (dx dy x y : ℤ) (area : Rect)
    → rect_image (element_transform (transform_of o dx dy) (x, y)) area ≡ rect_image (transform_of o dx dy) (displaced area (x, y))
unfolding rect_image
element_image-by_orient R0 dx dy x y area = rect_is _ _ (omega (arith, ints)) (omega (arith, ints)) (omega (arith, ints)) (omega (arith, ints))
element_image-by_orient _ dx dy x y area = rect_is _ _ (omega (arith, ints)) (omega (arith, ints)) (omega (arith, ints)) (omega (arith, ints))

-- an element of a use takes rectangles where the use takes them once they are displaced
pub element_image : (placed : Transform) (step : ℤ × ℤ) (area : Rect) → rect_image (element_transform placed step) area ≡ rect_image placed
    (displaced area step)
element_image placed step area = element_image-by_orient placed.orient placed.dx placed.dy step.0 step.1 area

-- what a rectangle has at the place from which an element brings a place, its image has there
pub covers_from_back : (placed : Transform) (area : Rect) (place : Place) → Covers area (place_back placed place).square
    → Covers (rect_image placed area) place.square
covers_from_back placed area place covers =
    subst (Covers (rect_image placed area)) (image-forth placed place.square) (rect_image-covers placed area (image
    (inverted placed) place.square) covers)

-- ---- a rectangle that goes round others

-- what a rectangle of a list covers, the one round all covers
pub covered_by_all : (areas : List Rect) (area : Rect) (square : Square) → In area areas → Covers area square
    → (hull : Rect) × (round_all areas ≡ Some hull) × Covers hull square
covered_by_all areas area square stands covers = inside (round_all areas) refl (inside_all areas area stands)
  where
    larger : (core hull : Rect) (square : Square) → LiesWithin core hull → Covers core square → Covers hull square
    larger core hull square within covers = omega (arith, ints)

    inside : (all : Option Rect) → round_all areas ≡ all → IsInside (Some area) all
        → (hull : Rect) × (round_all areas ≡ Some hull) × Covers hull square
    inside None is within = absurd within
    inside (Some hull) is within = (hull, is, larger area hull square within covers)

-- ---- own material

-- the uses of a cell's state are those of the cell
pub state_uses : (cells : List CellView) (states : List CellState) (k : ℕ) → AreStatesOf cells states → k < length states
    → (cell_at states k).uses ≡ (slice_index_or cells k no_cell).uses
state_uses [] [] k are below = absurd (omega arith)
state_uses [] (s ∷ states) k are below = absurd are
state_uses (c ∷ cells) [] k are below = absurd are
state_uses (c ∷ cells) (s ∷ states) zero are below = are.1
state_uses (c ∷ cells) (s ∷ states) (suc k) are below = state_uses cells states k are.2 (omega arith)

-- material of a cell lies in its own box
own_covered : (cell : CellView) (own : Option Rect) (place : Place) → OwnBoxIs cell.own cell.labels own → IsMaterial cell.own place
    → (box : Rect) × (own ≡ Some box) × Covers box place.square
own_covered cell None place is material = absurd (is (inl (place, material)))
own_covered cell (Some box) place is material = (box, refl, is.holds.material place material)

-- where a cell has material or an element, it is one of the list
there_or_none : (view : LibraryView) (states : List CellState) (cell : ℕ) → AreStatesOf view.cells states
    → (cell < length states) ⊎ (view_at view cell ≡ no_cell)
there_or_none view states cell are =
    let long = length-states view.cells states are in
    elim (cases_lt cell (length states)) [
      | inl below ↦ inl below
      | inr past ↦ inr (get_or_past view.cells cell no_cell (omega arith))
    ]

-- the hull of a cell, from a box that goes into it
hull_from : (sizes : List Size) (states : List CellState) (cell : ℕ) (area : Rect) (square : Square) → AreSizes states sizes → cell < length states
    → In area (option_to_list (cell_at states cell).own ++ hulls_below (size_at sizes) (cell_at states cell).uses) → Covers area square
    → (hull : Rect) × ((size_at sizes cell).hull ≡ Some hull) × Covers hull square
unfolding size_of
hull_from sizes states cell area square right below stands covers =
    let found = covered_by_all (option_to_list (cell_at states cell).own ++ hulls_below (size_at sizes)
    (cell_at states cell).uses) area square stands covers in
    (found.0, ap (λ (size : Size). size.hull) (right cell (cell_at states cell) (cell_is states cell below)) ∙ found.1, found.2)

own_in_hull : (view : LibraryView) (states : List CellState) (sizes : List Size) (cell : ℕ) (place : Place) → AreStatesOf view.cells states
    → AreSizes states sizes → IsMaterial (view_at view cell).own place
    → (hull : Rect) × ((size_at sizes cell).hull ≡ Some hull) × Covers hull place.square
own_in_hull view states sizes cell place are right material = elim (there_or_none view states cell are) [
  | inl below ↦ (
      let box = own_covered (view_at view cell) (cell_at states cell).own place (state_there view.cells states cell are below) material in
      hull_from sizes states cell box.0 place.square right below
      (In-append_left box.0 (option_to_list (cell_at states cell).own) (hulls_below (size_at sizes) (cell_at states cell).uses)
      (subst (λ (own : Option Rect). In box.0 (option_to_list own)) (sym box.1) (inl refl))) box.2)
  | inr none ↦ absurd (material (ap (λ (c : CellView). c.own place) none))
]

-- ---- material below

-- the hulls of cells hold what the trees have
abbrev pub HoldIn : (ℕ → CellTree) → (ℕ → Size) → Type 0
HoldIn trees sizes =
    (cell : ℕ) (place : Place) → HasMaterial (trees cell) place → (hull : Rect) × ((sizes cell).hull ≡ Some hull) × Covers hull place.square

-- where elements of one child have material at a place, the child's hull in one of them covers it, or the elements after them have it
steps_covered : (tree : CellTree) (hull : Option Rect) (placed : Transform) (steps : List (ℤ × ℤ)) (rest : Elements) (place : Place)
    → ((place : Place) → HasMaterial tree place → (area : Rect) × (hull ≡ Some area) × Covers area place.square)
    → HasMaterialBelow (elements_at tree placed steps rest) place
    → ((area : Rect) × (hull ≡ Some area) × ((step : ℤ × ℤ) × In step steps × Covers (rect_image placed (displaced area step)) place.square))
    ⊎ HasMaterialBelow rest place
steps_covered tree hull placed [] rest place holds some = inr some
steps_covered tree hull placed (step ∷ steps) rest place holds (inl here) =
    let found = holds (place_back (element_transform placed step) place) here in
    inl (
      found.0,
      found.1,
      (
        step,
        inl refl,
        subst (λ (area : Rect). Covers area place.square) (element_image placed step found.0) (covers_from_back
            (element_transform placed step) found.0 place found.2),
      ),
    )
steps_covered tree hull placed (step ∷ steps) rest place holds (inr later) = elim (steps_covered tree hull placed steps rest place holds later) [
  | inl found ↦ inl (found.0, found.1, (found.2.0, inr found.2.1, found.2.2))
  | inr past ↦ inr past
]

-- the hull of the child in an element of a use is one of those of its elements
pub In-element_hulls : (used : UseBody) (hull : Option Rect) (area : Rect) (step : ℤ × ℤ) → hull ≡ Some area → In step (displacements used.grid)
    → In (rect_image used.placed (displaced area step)) (element_hulls used hull)
In-element_hulls used None area step is stands = absurd (cc)
In-element_hulls used (Some other) area step is stands =
    let same : other ≡ area = cc in
    subst (λ (a : Rect). In (rect_image used.placed (displaced area step)) (map (λ s. rect_image used.placed (displaced a s))
    (displacements used.grid))) (sym same)
    (among (displacements used.grid) stands)
  where
    among : (steps : List (ℤ × ℤ)) → In step steps → In (rect_image used.placed (displaced area step)) (map (λ s. rect_image used.placed
        (displaced area s)) steps)
    among [] stands = absurd stands
    among (s ∷ steps) (inl same) = inl (ap (λ (t : ℤ × ℤ). rect_image used.placed (displaced area t)) same)
    among (s ∷ steps) (inr later) = inr (among steps later)

-- where the elements of uses have material at a place, the hull of one of them covers it
below_covered : (trees : ℕ → CellTree) (sizes : ℕ → Size) (uses : List (List ℕ × UseBody)) (place : Place) → HoldIn trees sizes
    → HasMaterialBelow (elements_from trees uses) place → (area : Rect) × In area (hulls_below sizes uses) × Covers area place.square
below_covered trees sizes [] place holds some = absurd some
below_covered trees sizes (entry ∷ rest) place holds some =
    elim (steps_covered (trees entry.1.child.0) (sizes entry.1.child.0).hull entry.1.placed (displacements entry.1.grid)
    (elements_from trees rest) place
    (holds entry.1.child.0) some) [
      | inl found ↦ (
        rect_image entry.1.placed (displaced found.0 found.2.0),
        In-append_left _ (element_hulls entry.1 (sizes entry.1.child.0).hull) (hulls_below sizes rest)
            (In-element_hulls entry.1 (sizes entry.1.child.0).hull found.0 found.2.0 found.1 found.2.1),
        found.2.2,
      )
      | inr later ↦ (
          let found = below_covered trees sizes rest place holds later in
          (found.0, In-append_right found.0 (element_hulls entry.1 (sizes entry.1.child.0).hull) (hulls_below sizes rest) found.1, found.2))
    ]

below_in_hull : (view : LibraryView) (states : List CellState) (sizes : List Size) (trees : ℕ → CellTree) (cell : ℕ) (place : Place)
    → AreStatesOf view.cells states → AreSizes states sizes → HoldIn trees (size_at sizes)
    → HasMaterialBelow (elements_from trees (view_at view cell).uses) place
    → (hull : Rect) × ((size_at sizes cell).hull ≡ Some hull) × Covers hull place.square
below_in_hull view states sizes trees cell place are right holds some = elim (there_or_none view states cell are) [
  | inl below ↦ (
      let uses : (cell_at states cell).uses ≡ (view_at view cell).uses = state_uses view.cells states cell are below in
      let found = below_covered trees (size_at sizes) (view_at view cell).uses place holds some in
      let stands = subst (λ (u : List (List ℕ × UseBody)). In found.0 (hulls_below (size_at sizes) u)) (sym uses) found.1 in
      hull_from sizes states cell found.0 place.square right below
      (In-append_right found.0 (option_to_list (cell_at states cell).own) (hulls_below (size_at sizes) (cell_at states cell).uses) stands) found.2)
  | inr none ↦ absurd (subst (λ (c : CellView). HasMaterialBelow (elements_from trees c.uses) place) none some)
]

-- A place with material at or below a cell, down to any depth, lies in the cell's hull.
pub hull_holds_material : (view : LibraryView) (states : List CellState) (sizes : List Size) → AreStatesOf view.cells states → AreSizes states sizes
    → (depth cell : ℕ) (place : Place) → HasMaterial (tree_to view depth cell) place
    → (hull : Rect) × ((size_at sizes cell).hull ≡ Some hull) × Covers hull place.square
hull_holds_material view states sizes are right zero cell place (inl own) = own_in_hull view states sizes cell place are right own
hull_holds_material view states sizes are right zero cell place (inr none) = absurd none
hull_holds_material view states sizes are right (suc depth) cell place (inl own) = own_in_hull view states sizes cell place are right own
hull_holds_material view states sizes are right (suc depth) cell place (inr below) =
    below_in_hull view states sizes (tree_to view depth) cell place are right (hull_holds_material view states sizes are right depth) below

-- ---- sets

-- where there are parts of tiles, there is material
mutual
  pub material_of_sets : (raw : RawTech) (tree : CellTree) (place : Place) → flat_sets raw tree place ≢ 0 → HasMaterial tree place
  material_of_sets raw (cell_tree own elements) place some = elim (union_some (sets_in raw own.layout place) (sets_below raw elements place) some) [
    | inl here ↦ inl (λ none. here (ap (parts_of raw) none))
    | inr below ↦ inr (material_of_sets_below raw elements place below)
  ]

  material_of_sets_below : (raw : RawTech) (elements : Elements) (place : Place) → sets_below raw elements place ≢ 0 → HasMaterialBelow elements place
  material_of_sets_below raw no_elements place some = some refl
  material_of_sets_below raw (element_and placed tree rest) place some =
      elim (union_some (flat_sets raw tree (place_back placed place)) (sets_below raw rest place) some) [
        | inl here ↦ inl (material_of_sets raw tree (place_back placed place) here)
        | inr later ↦ inr (material_of_sets_below raw rest place later)
      ]

-- A place where the tree of a cell has parts of tiles lies in the cell's hull.
pub hull_holds : (raw : RawTech) (view : LibraryView) (states : List CellState) (sizes : List Size) → AreStatesOf view.cells states
    → AreSizes states sizes
    → (depth cell : ℕ) (place : Place) → flat_sets raw (tree_to view depth cell) place ≢ 0
    → (hull : Rect) × ((size_at sizes cell).hull ≡ Some hull) × Covers hull place.square
hull_holds raw view states sizes are right depth cell place some =
    hull_holds_material view states sizes are right depth cell place (material_of_sets raw (tree_to view depth cell) place some)
