-- Elements one after another: which stands at a position, and where what stands below it stands in the cell above.
use Rattle.element_paths.proofs.Common.{◌≡◌, ℕ, zero, suc, ◌+◌, ◌*◌, List, [], ◌∷◌, ◌++◌, length, map, Some, refl, ap, subst, ◌∙◌, arith, slice_get}
use Rattle.element_paths.proofs.Common.{option_map, length-map, same_Some, slice_get-map, Transform, Standing, standings, under, element_transform}
use Rattle.element_paths.proofs.Common.{NamedTree, layouts_of, UseElement, NamedElement, element_at}
use Rattle.finite_sets.proofs.Places.{slice_get-append_left, slice_get-append_right}
use Rattle.library_trees.specs.LayoutModel.CellTrees.{standings_from}
use Rattle.library_trees.specs.TreeRecords.NamedTrees.{NamedElements, layouts_below}
use Rattle.library_trees.specs.TreeRecords.NamedTrees.NamedElements.{no_more, element_then}
use Rattle.library_trees.specs.NamedCells.{named_elements_at}

-- how many cells stand at and below the elements before this position
abbrev pub standing_before : NamedElements → ℕ → ℕ
standing_before no_more position = 0
standing_before (element_then id placed tree rest) zero = 0
standing_before (element_then id placed tree rest) (suc position) = length (standings (layouts_of tree)) + standing_before rest position

-- how many cells stand at and below a cell
abbrev pub standing_in : NamedTree → ℕ
standing_in tree = length (standings (layouts_of tree))

-- what stands below the first of some elements stands in the cell above
below_first : (part : ℕ) (below : NamedElement) (others : NamedElements) (rest : ℕ) (lower : Standing)
    → slice_get (standings (layouts_of below.tree)) rest ≡ Some lower
    → slice_get (standings_from part (layouts_below (element_then below.id below.placed below.tree others))) (0 + rest)
    ≡ Some (under (part + 0) below.placed lower)
below_first part below others rest lower there =
    let own = standings (layouts_of below.tree) in
    let all = standings_from part (layouts_below (element_then below.id below.placed below.tree others)) in
    let moved : slice_get (map (under part below.placed) own) rest ≡ Some (under part below.placed lower) =
    slice_get-map (under part below.placed) own rest ∙ ap (option_map (under part below.placed)) there in
    ap (slice_get all) (let e : 0 + rest ≡ rest = omega arith in e)
    ∙ slice_get-append_left (map (under part below.placed) own) (standings_from (suc part) (layouts_below others)) rest
    (under part below.placed lower) moved
    ∙ ap (λ (n : ℕ). Some (under n below.placed lower)) (let e : part ≡ part + 0 = omega arith in e)

-- What stands below an element stands in the cell above behind what stands at and below the elements before it.
pub below_element : (elements : NamedElements) (part position : ℕ) (below : NamedElement) (rest : ℕ) (lower : Standing)
    → element_at elements position ≡ Some below → slice_get (standings (layouts_of below.tree)) rest ≡ Some lower
    → slice_get (standings_from part (layouts_below elements)) (standing_before elements position + rest)
    ≡ Some (under (part + position) below.placed lower)
below_element no_more part position below rest lower is there = absurd (cc)
below_element (element_then id placed tree others) part zero below rest lower is there =
    let first : NamedElement = record { id = id; placed = placed; tree = tree } in
    subst
    (λ (e : NamedElement). slice_get (standings (layouts_of e.tree)) rest ≡ Some lower
    → slice_get (standings_from part (layouts_below (element_then id placed tree others))) (0 + rest) ≡ Some (under (part + 0) e.placed lower))
    (same_Some first below is) (below_first part first others rest lower) there
below_element (element_then id placed tree others) part (suc position) below rest lower is there =
    let own = map (under part placed) (standings (layouts_of tree)) in
    let later = standings_from (suc part) (layouts_below others) in
    let long : length own ≡ standing_in tree = length-map (standings (layouts_of tree)) (under part placed) in
    let place : (standing_in tree + standing_before others position) + rest ≡ length own + (standing_before others position + rest) =
    omega (arith, long) in
    ap (slice_get (own ++ later)) place
    ∙ slice_get-append_right own later (standing_before others position + rest) (length own + (standing_before others position + rest)) refl
    ∙ (below_element others (suc part) position below rest lower is there)
    ∙ ap (λ (n : ℕ). Some (under n below.placed lower)) (let e : suc part + position ≡ part + suc position = omega arith in e)

-- ---- the elements of one use, and others behind them

module _ (tree : NamedTree) (placed : Transform) (rest : NamedElements) where
  -- the element that this one of a use makes
  abbrev pub made : UseElement → NamedElement
  made element = record { id = element.name; placed = element_transform placed element.step; tree = tree }

  -- an element of the use
  pub element_of_use : (elements : List UseElement) (n : ℕ) (element : UseElement) → slice_get elements n ≡ Some element
      → element_at (named_elements_at tree placed elements rest) n ≡ Some (made element)
  element_of_use [] n element is = absurd (cc)
  element_of_use (first ∷ elements) zero element is = ap (λ (e : UseElement). Some (made e)) (same_Some first element is)
  element_of_use (first ∷ elements) (suc n) element is = element_of_use elements n element is

  -- what stands at and below the elements of the use before it
  pub before_element : (elements : List UseElement) (n : ℕ) (element : UseElement) → slice_get elements n ≡ Some element
      → standing_before (named_elements_at tree placed elements rest) n ≡ n * standing_in tree
  before_element [] n element is = absurd (cc)
  before_element (first ∷ elements) zero element is = omega arith
  before_element (first ∷ elements) (suc n) element is = let later = before_element elements n element is in omega (arith, later)

  -- the elements behind those of the use
  pub element_behind : (elements : List UseElement) (position : ℕ)
      → element_at (named_elements_at tree placed elements rest) (length elements + position) ≡ element_at rest position
  element_behind [] position = ap (element_at rest) (let e : 0 + position ≡ position = omega arith in e)
  element_behind (first ∷ elements) position =
      ap (element_at (named_elements_at tree placed (first ∷ elements) rest))
      (let e : suc (length elements) + position ≡ suc (length elements + position) = omega arith in e)
      ∙ element_behind elements position

  -- what stands at and below the elements before one of these
  pub before_behind : (elements : List UseElement) (position : ℕ)
      → standing_before (named_elements_at tree placed elements rest) (length elements + position)
      ≡ length elements * standing_in tree + standing_before rest position
  before_behind [] position = ap (standing_before rest) (let e : 0 + position ≡ position = omega arith in e) ∙ omega arith
  before_behind (first ∷ elements) position =
      let later = before_behind elements position in
      ap (standing_before (named_elements_at tree placed (first ∷ elements) rest))
      (let e : suc (length elements) + position ≡ suc (length elements + position) = omega arith in e)
      ∙ omega (arith, later)
