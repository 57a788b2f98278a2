-- The step down to an element, and the steps of a path.
use Rattle.element_paths.proofs.Common.{◌≡◌, ℕ, suc, ◌+◌, ◌-◌, ◌*◌, ◌/◌, ◌%◌, ◌<◌, ◌≤◌, List, [], ◌∷◌, ◌++◌, length, get_or, take, Some, inl, inr}
use Rattle.element_paths.proofs.Common.{refl, sym, ap, subst, ◌∙◌, arith, slice_get, append_assoc, take_all, get_or_from_slice_get, same_Some}
use Rattle.element_paths.proofs.Common.{slice_get_within, CellTree, Standing, standings, under, MOST_ELEMENTS_BELOW, UseBody, displacements}
use Rattle.element_paths.proofs.Common.{element_transform, tree_at, LibraryParts, IsLawfulLibrary, seen, element_count, LibraryView, view_at}
use Rattle.element_paths.proofs.Common.{use_is_lawful, NamedTree, layouts_of, named_elements_in, UseElement, use_elements, UseStart, Step}
use Rattle.element_paths.proofs.Common.{element_at, standing_below, HasBegun, HasNameAt, IsLastBegun}
use Rattle.std.proofs.Math.Nat.{div-lt_iff_lt-mul}
use Rattle.std.proofs.lemmas.Bool.{cases_lt}
use Rattle.std.proofs.lemmas.List.{append-nil}
use Rattle.finite_sets.proofs.Places.{slice_get-below}
use Rattle.library_trees.specs.LayoutModel.CellTrees.CellTree.{cell_tree}
use Rattle.library_trees.specs.TreeRecords.NamedTrees.NamedTree.{named_tree}
use Rattle.library_trees.specs.NamedCells.{named_elements_from, named_tree_at, own_body_of}
use Rattle.library_trees.proofs.LayoutLaws.{layouts_of_cell}
use Rattle.library_trees.proofs.WholeTrees.{named_tree_unfolds}
use Rattle.element_paths.specs.ElementPaths.{AreStepsTo, LeadsDown}
use Rattle.element_paths.specs.UseStarts.{start_of, AreStartsIn, IsStepDown}
use Rattle.element_paths.proofs.ElementLaws.{below_element, standing_before}
use Rattle.element_paths.proofs.StartLaws.{below_next, ends_within, standing_of}
use Rattle.element_paths.proofs.UseLaws.{before_in_uses, element_made, element_of_uses, standing_all}

-- a cell stands at and below itself
pub some_stand : (tree : CellTree) → 0 < length (standings tree)
some_stand (cell_tree own below) = omega arith

module _ (library : LibraryParts) (lawful : IsLawfulLibrary library) (cell : ℕ) (below : cell < length library.contents) where
  -- the trees of the cells, without names and with them, and the uses of the cell
  abbrev trees : ℕ → CellTree
  trees = tree_at (seen library)

  abbrev named : ℕ → NamedTree
  named = named_tree_at (seen library)

  abbrev uses : List (List ℕ × UseBody)
  uses = (view_at (seen library) cell).uses

  -- ---- which use

  -- the first use begins no later than what stands below the cell
  pub has_begun : (starts : List UseStart) (element : ℕ) → AreStartsIn (seen library) cell starts → 0 < element
      → element < length (standings (trees cell)) → HasBegun starts element
  has_begun starts element are some within =
      let all = standing_all library lawful cell below in
      let first = are.each 0 (some_uses uses (let e : 0 < standing_below trees uses = omega (arith, all, some, within) in e)) in
      record { first = start_of trees uses 0; there = first; begun = let e = none_before uses in omega (arith, e, some) }
    where
      some_uses : (uses : List (List ℕ × UseBody)) → 0 < standing_below trees uses → 0 < length uses
      some_uses [] none = none
      some_uses (entry ∷ rest) _ = omega arith

      none_before : (uses : List (List ℕ × UseBody)) → standing_below trees (take 0 uses) ≡ 0
      none_before [] = refl
      none_before (entry ∷ rest) = refl

  -- The k-th use has this id and this body, begins here, and has what stands below the cell with this number below one of its elements.
  pub record IsUseAbove (element k : ℕ) (start : UseStart) (entry : List ℕ × UseBody) : Type 0 where
    pub there : slice_get uses k ≡ Some entry
    pub start_is : start ≡ start_of trees uses k
    pub begun : start.element ≤ element
    pub ends : element < start.element + standing_of trees entry.1

  -- the last use that has begun is that use
  pub use_above : (starts : List UseStart) (element k : ℕ) (d : UseStart) (entry : List ℕ × UseBody) → AreStartsIn (seen library) cell starts
      → element < length (standings (trees cell)) → IsLastBegun starts element k → slice_get uses k ≡ Some entry
      → IsUseAbove element k (get_or starts k d) entry
  use_above starts element k d entry are within last is =
      let inside = slice_get_within uses k entry is in
      let same : get_or starts k d ≡ start_of trees uses k = get_or_from_slice_get starts k (start_of trees uses k) d (are.each k inside) in
      let element_is : (get_or starts k d).element ≡ suc (standing_below trees (take k uses)) = ap (λ (s : UseStart). s.element) same in
      let own : last.start.element ≡ suc (standing_below trees (take k uses)) =
      ap (λ (s : UseStart). s.element) (same_Some last.start (start_of trees uses k) (sym last.there ∙ are.each k inside)) in
      let begun = last.begun in
      let next = below_next trees uses k entry is in
      let end : element < suc (standing_below trees (take (suc k) uses)) = elim (cases_lt (suc k) (length uses)) [
        | inl more ↦ last.later (suc k) (start_of trees uses (suc k)) (omega arith) (are.each (suc k) more)
        | inr past ↦
            let all = standing_all library lawful cell below in
            let whole : standing_below trees (take (suc k) uses) ≡ standing_below trees uses =
            ap (standing_below trees) (take_all (suc k) uses past) in
            omega (arith, whole, all, within)
      ] in
      record { there = is; start_is = same; begun = omega (arith, begun, element_is, own); ends = omega (arith, end, next, element_is) }

  -- ---- which element of the use

  -- it is one of the use's
  pub element_is_within : (element k : ℕ) (start : UseStart) (entry : List ℕ × UseBody) → IsUseAbove element k start entry
      → (element - start.element) / length (standings (trees entry.1.child.0)) < length (displacements entry.1.grid)
  element_is_within element k start entry above =
      let size = length (standings (trees entry.1.child.0)) in
      let begun = above.begun in
      let ends = above.ends in
      let past : element - start.element < length (displacements entry.1.grid) * size = omega (arith, begun, ends) in
      (div-lt_iff_lt-mul (some_stand (trees entry.1.child.0))).1 past

  -- its position is below the limit
  pub position_fits : (element k n : ℕ) (start : UseStart) (entry : List ℕ × UseBody) → IsUseAbove element k start entry
      → n < length (displacements entry.1.grid) → start.position + n < MOST_ELEMENTS_BELOW
  position_fits element k n start entry above within =
      let position : start.position ≡ element_count (take k uses) = ap (λ (s : UseStart). s.position) above.start_is in
      let ends = (ends_within library lawful cell below k entry above.there).positions in
      omega (arith, position, ends, within)

  -- what stands below it has this number
  leads : (k n rest element : ℕ) (entry : List ℕ × UseBody) (made : UseElement) (lower : Standing) → slice_get uses k ≡ Some entry
      → slice_get (use_elements entry.0 entry.1.grid) n ≡ Some made
      → slice_get (standings (layouts_of (named entry.1.child.0))) rest ≡ Some lower
      → element ≡ suc (standing_below trees (take k uses) + n * length (standings (trees entry.1.child.0)) + rest)
      → LeadsDown (named cell) element (element_count (take k uses) + n) rest (element_made named entry.1 made)
  leads k n rest element entry made lower is at under_it number =
      let elements = named_elements_from named uses in
      let position = element_count (take k uses) + n in
      let tree = named_tree_unfolds library lawful cell below in
      let found = element_of_uses named uses k entry n made is at in
      let before = before_in_uses named trees (layouts_of_cell (seen library)) uses k entry n made is at in
      let place : element ≡ suc (standing_before elements position + rest) = omega (arith, before, number) in
      record {
        there = ap (λ (t : NamedTree). element_at (named_elements_in t) position) tree ∙ found;
        lower = lower;
        lower_there = under_it;
        upper = ap (λ (t : NamedTree). slice_get (standings (layouts_of t)) element) tree
            ∙ ap (slice_get (standings (layouts_of (named_tree (own_body_of (seen library) cell) elements)))) place
            ∙ below_element elements 1 position (element_made named entry.1 made) rest lower found under_it
            ∙ ap (λ (p : ℕ). Some (under p (element_made named entry.1 made).placed lower)) (let e : 1 + position ≡ suc position = omega arith in e);
      }

  -- the step to the element of the use
  pub step_to : (element k n : ℕ) (start : UseStart) (entry : List ℕ × UseBody) (name : List ℕ) → IsUseAbove element k start entry
      → n ≡ (element - start.element) / length (standings (trees entry.1.child.0)) → HasNameAt entry.0 entry.1.grid n name
      → IsStepDown library cell element (record {
        position = start.position + n;
        id = name;
        child = entry.1.child;
        element = (element - start.element) % length (standings (trees entry.1.child.0));
      })
  step_to element k n start entry name above n_is named_so =
      let size = length (standings (trees entry.1.child.0)) in
      let rest = (element - start.element) % size in
      let some : 0 < size = some_stand (trees entry.1.child.0) in
      let lower : rest < size = omega (arith, some) in
      let begins : start.element ≡ suc (standing_below trees (take k uses)) = ap (λ (s : UseStart). s.element) above.start_is in
      let begun = above.begun in
      let shared : size * n + rest ≡ element - start.element = ap (λ (m : ℕ). size * m + rest) n_is ∙ omega (arith, some) in
      let number : element ≡ suc (standing_below trees (take k uses) + n * size + rest) = omega (arith, shared, begins, begun) in
      let position : start.position ≡ element_count (take k uses) = ap (λ (s : UseStart). s.position) above.start_is in
      let made : UseElement = record { name = name; step = named_so.displaced } in
      let same : length (standings (layouts_of (named entry.1.child.0))) ≡ size =
      ap (λ (tree : CellTree). length (standings tree)) (layouts_of_cell (seen library) entry.1.child.0) in
      let found = slice_get-below (standings (layouts_of (named entry.1.child.0))) rest (omega (arith, lower, same)) in
      record {
        placed = element_transform entry.1.placed named_so.displaced;
        leads = subst (λ (p : ℕ). LeadsDown (named cell) element (p + n) rest (element_made named entry.1 made)) (sym position)
            (leads k n rest element entry made found.0 above.there named_so.there found.1 number);
        child = (use_is_lawful library lawful cell below k entry.0 entry.1 above.there).1;
        there = lower;
        nearer = omega (arith, number);
      }

-- ---- paths

-- Whatever leads on from what some steps lead to, leads there from the cell where they begin.
abbrev pub LeadsOn : LibraryView → ℕ → ℕ → List Step → ℕ → ℕ → Type 0
LeadsOn view cell element steps upper below = (rest : List Step) → AreStepsTo view upper below rest → AreStepsTo view cell element (steps ++ rest)

-- without steps they lead to where they begin
pub none_yet : (view : LibraryView) (cell element : ℕ) (steps : List Step) → steps ≡ [] → LeadsOn view cell element steps cell element
none_yet view cell element steps none rest are =
    subst (λ (s : List Step). AreStepsTo view cell element (s ++ rest)) (sym none) are

-- one step more
pub one_more : (library : LibraryParts) (cell element upper below : ℕ) (steps : List Step) (step : Step)
    → LeadsOn (seen library) cell element steps upper below → IsStepDown library upper below step
    → LeadsOn (seen library) cell element (steps ++ step ∷ []) step.child.0 step.element
one_more library cell element upper below steps step on down rest are =
    subst (AreStepsTo (seen library) cell element) (sym (append_assoc steps (step ∷ []) rest)) (on (step ∷ rest) (down.placed, down.leads, are))

-- at the cell itself the steps end
pub at_end : (view : LibraryView) (cell element upper below : ℕ) (steps : List Step) → LeadsOn view cell element steps upper below → below ≡ 0
    → AreStepsTo view cell element steps
at_end view cell element upper below steps on end = subst (AreStepsTo view cell element) (append-nil steps) (on [] end)
