-- The elements of the uses of a cell: at which position each stands, and how many cells stand before what stands below it.
use Rattle.element_paths.proofs.Common.{◌≡◌, ℕ, ℤ, zero, suc, ◌+◌, ◌*◌, ◌<◌, List, [], ◌∷◌, length, map, take, Some, None, refl, sym, ap, subst, ◌∙◌}
use Rattle.element_paths.proofs.Common.{arith, Option, slice_get, length-append, length-map, same_Some, Grid, Transform, elements_of, CellTree}
use Rattle.element_paths.proofs.Common.{standings, under, UseBody, displacements, element_transform, tree_at, LibraryParts, IsLawfulLibrary, seen}
use Rattle.element_paths.proofs.Common.{element_count, view_at, NamedTree, layouts_of, UseElement, array_element, use_elements, NamedElement}
use Rattle.element_paths.proofs.Common.{element_at, standing_below}
use Rattle.library_trees.specs.LayoutModel.CellTrees.{Elements, standings_from}
use Rattle.library_trees.specs.CellLibrary.LayoutTrees.{elements_at, elements_from}
use Rattle.library_trees.proofs.CellLibrary.LayoutTreeLaws.{tree_unfolds}
use Rattle.library_trees.specs.NamedCells.{named_elements_from}
use Rattle.element_paths.proofs.ElementLaws.{before_behind, before_element, element_behind, element_of_use, standing_before}

-- uses of a cell, each with its id
abbrev pub UsesWithIds : Type 0
UsesWithIds = List (List ℕ × UseBody)

-- a use has as many names as elements
pub length-use_elements : (id : List ℕ) (grid : Option Grid) → length (use_elements id grid) ≡ length (displacements grid)
length-use_elements id None = refl
length-use_elements id (Some grid) =
    length-map (elements_of grid) (array_element id)
    ∙ sym (length-map (elements_of grid) (λ (element : ℤ × ℤ × ℤ × ℤ). (element.2, element.3)))

-- ---- one use of many

-- an element of the k-th use
abbrev pub element_made : (ℕ → NamedTree) → UseBody → UseElement → NamedElement
element_made s used element =
    record { id = element.name; placed = element_transform used.placed element.step; tree = s used.child.0 }

-- an element of the k-th use stands behind those of the uses before it
pub element_of_uses : (s : ℕ → NamedTree) (uses : UsesWithIds) (k : ℕ) (entry : List ℕ × UseBody) (n : ℕ) (element : UseElement)
    → slice_get uses k ≡ Some entry → slice_get (use_elements entry.0 entry.1.grid) n ≡ Some element
    → element_at (named_elements_from s uses) (element_count (take k uses) + n) ≡ Some (element_made s entry.1 element)
element_of_uses s [] k entry n element is at = absurd (cc)
element_of_uses s (first ∷ uses) zero entry n element is at =
    subst
    (λ (e : List ℕ × UseBody). slice_get (use_elements e.0 e.1.grid) n ≡ Some element
    → element_at (named_elements_from s (first ∷ uses)) (0 + n) ≡ Some (element_made s e.1 element))
    (same_Some first entry is)
    (λ there. ap (element_at (named_elements_from s (first ∷ uses))) (let e : 0 + n ≡ n = omega arith in e)
    ∙ element_of_use (s first.1.child.0) first.1.placed (named_elements_from s uses) (use_elements first.0 first.1.grid) n element there)
    at
element_of_uses s (first ∷ uses) (suc k) entry n element is at =
    let own = use_elements first.0 first.1.grid in
    let long = length-use_elements first.0 first.1.grid in
    let place : (length (displacements first.1.grid) + element_count (take k uses)) + n ≡ length own + (element_count (take k uses) + n) =
    omega (arith, long) in
    ap (element_at (named_elements_from s (first ∷ uses))) place
    ∙ element_behind (s first.1.child.0) first.1.placed (named_elements_from s uses) own (element_count (take k uses) + n)
    ∙ element_of_uses s uses k entry n element is at

module _ (s : ℕ → NamedTree) (trees : ℕ → CellTree) (are : (cell : ℕ) → layouts_of (s cell) ≡ trees cell) where
  -- as many cells stand at and below a cell in both trees
  same_count : (cell : ℕ) → length (standings (layouts_of (s cell))) ≡ length (standings (trees cell))
  same_count cell = ap (λ (tree : CellTree). length (standings tree)) (are cell)

  -- what stands before what stands below an element of the k-th use
  pub before_in_uses : (uses : UsesWithIds) (k : ℕ) (entry : List ℕ × UseBody) (n : ℕ) (element : UseElement)
      → slice_get uses k ≡ Some entry → slice_get (use_elements entry.0 entry.1.grid) n ≡ Some element
      → standing_before (named_elements_from s uses) (element_count (take k uses) + n)
      ≡ standing_below trees (take k uses) + n * length (standings (trees entry.1.child.0))
  before_in_uses [] k entry n element is at = absurd (cc)
  before_in_uses (first ∷ uses) zero entry n element is at =
      subst
      (λ (e : List ℕ × UseBody). slice_get (use_elements e.0 e.1.grid) n ≡ Some element
      → standing_before (named_elements_from s (first ∷ uses)) (0 + n) ≡ 0 + n * length (standings (trees e.1.child.0)))
      (same_Some first entry is)
      (λ there. ap (standing_before (named_elements_from s (first ∷ uses))) (let e : 0 + n ≡ n = omega arith in e)
      ∙ before_element (s first.1.child.0) first.1.placed (named_elements_from s uses) (use_elements first.0 first.1.grid) n element there
      ∙ ap (λ (size : ℕ). n * size) (same_count first.1.child.0)
      ∙ omega arith)
      at
  before_in_uses (first ∷ uses) (suc k) entry n element is at =
      let own = use_elements first.0 first.1.grid in
      let long = length-use_elements first.0 first.1.grid in
      let later = before_in_uses uses k entry n element is at in
      let place : (length (displacements first.1.grid) + element_count (take k uses)) + n ≡ length own + (element_count (take k uses) + n) =
      omega (arith, long) in
      let sizes : length own * length (standings (layouts_of (s first.1.child.0)))
      ≡ length (displacements first.1.grid) * length (standings (trees first.1.child.0)) =
      λ i. long i * same_count first.1.child.0 i in
      ap (standing_before (named_elements_from s (first ∷ uses))) place
      ∙ before_behind (s first.1.child.0) first.1.placed (named_elements_from s uses) own (element_count (take k uses) + n)
      ∙ omega (arith, sizes, later)

-- ---- how many stand at and below a cell

count_at : (part more : ℕ) (tree : CellTree) (placed : Transform) (steps : List (ℤ × ℤ)) (rest : Elements)
    → ((p : ℕ) → length (standings_from p rest) ≡ more)
    → length (standings_from part (elements_at tree placed steps rest)) ≡ length steps * length (standings tree) + more
count_at part more tree placed [] rest behind = behind part ∙ omega arith
count_at part more tree placed (step ∷ steps) rest behind =
    let own = map (under part (element_transform placed step)) (standings tree) in
    let later = count_at (suc part) more tree placed steps rest behind in
    let long : length own ≡ length (standings tree) = length-map (standings tree) (under part (element_transform placed step)) in
    length-append own (standings_from (suc part) (elements_at tree placed steps rest)) ∙ omega (arith, later, long)

count_from : (part : ℕ) (trees : ℕ → CellTree) (uses : UsesWithIds)
    → length (standings_from part (elements_from trees uses)) ≡ standing_below trees uses
count_from part trees [] = refl
count_from part trees (entry ∷ rest) =
    count_at part (standing_below trees rest) (trees entry.1.child.0) entry.1.placed (displacements entry.1.grid) (elements_from trees rest)
    (λ p. count_from p trees rest)

-- the cell itself and what stands at and below the elements of its uses are all that stands there
pub standing_all : (library : LibraryParts) → IsLawfulLibrary library → (cell : ℕ) → cell < length library.contents
    → length (standings (tree_at (seen library) cell)) ≡ suc (standing_below (tree_at (seen library)) (view_at (seen library) cell).uses)
standing_all library lawful cell below =
    ap (λ (tree : CellTree). length (standings tree)) (tree_unfolds library lawful cell below)
    ∙ ap suc (count_from 1 (tree_at (seen library)) (view_at (seen library) cell).uses)
