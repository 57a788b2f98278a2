-- The parts of a cell lie in the boxes of its elements.
use Rattle.cell_library.proofs.Common.{◌≡◌, ◌≢◌, inl, inr, ℕ, ℤ, List, [], ◌∷◌, ◌++◌, map, Option, refl, sym, subst, Some, None, cases_eq, Rect}
use Rattle.cell_library.proofs.Common.{Transform, Covers, RawTech, Place, CellTree, place_back, element_parts, elements_in, flat_sets, Size, UseBody}
use Rattle.cell_library.proofs.Common.{displaced, element_hulls, hulls_below, size_at, displacements, HoldParts, element_transform, elements_at}
use Rattle.cell_library.proofs.Common.{elements_from, tree_to, IsLawfulLibrary, LibraryParts, seen, view_at}
use Rattle.geo_core.specs.Images.{rect_image}
use Rattle.cell_bodies.specs.LayoutModel.CellTrees.{Elements}
use Rattle.cell_library.specs.LayoutTrees.{tree_at}
use Rattle.cell_library.proofs.HullsHoldMaterial.{covers_from_back, element_image, hull_holds}

-- elements that have nothing need no boxes
empty_elements : (raw : RawTech) (tree : CellTree) (placed : Transform) (steps : List (ℤ × ℤ)) (rest : Elements) (boxes : List Rect)
    → ((place : Place) → flat_sets raw tree place ≡ 0) → HoldParts boxes (element_parts raw rest)
    → HoldParts boxes (element_parts raw (elements_at tree placed steps rest))
empty_elements raw tree placed [] rest boxes none later = later
empty_elements raw tree placed (step ∷ steps) rest boxes none later =
    inl ((λ place. none (place_back (element_transform placed step) place)), empty_elements raw tree placed steps rest boxes none later)

-- elements of a child with a hull lie in that hull where they stand
held_elements : (raw : RawTech) (tree : CellTree) (hull : Rect) (placed : Transform) (steps : List (ℤ × ℤ)) (rest : Elements) (boxes : List Rect)
    → ((place : Place) → flat_sets raw tree place ≢ 0 → Covers hull place.square) → HoldParts boxes (element_parts raw rest)
    → HoldParts (map (λ step. rect_image placed (displaced hull step)) steps ++ boxes) (element_parts raw (elements_at tree placed steps rest))
held_elements raw tree hull placed [] rest boxes holds later = later
held_elements raw tree hull placed (step ∷ steps) rest boxes holds later =
    inr (
      rect_image placed (displaced hull step),
      map (λ s. rect_image placed (displaced hull s)) steps ++ boxes,
      refl,
      (λ place some.
          subst (λ (area : Rect). Covers area place.square) (element_image placed step hull)
          (covers_from_back (element_transform placed step) hull place (holds (place_back (element_transform placed step) place) some))),
      held_elements raw tree hull placed steps rest boxes holds later,
    )

-- the elements of a use
use_held : (raw : RawTech) (tree : CellTree) (hull : Option Rect) (body : UseBody) (rest : Elements) (boxes : List Rect)
    → ((place : Place) → flat_sets raw tree place ≢ 0 → (area : Rect) × (hull ≡ Some area) × Covers area place.square)
    → HoldParts boxes (element_parts raw rest)
    → HoldParts (element_hulls body hull ++ boxes) (element_parts raw (elements_at tree body.placed (displacements body.grid) rest))
use_held raw tree None body rest boxes holds later =
    empty_elements raw tree body.placed (displacements body.grid) rest boxes
    (λ place. elim (cases_eq (flat_sets raw tree place) 0) [
      | inl none ↦ none
      | inr some ↦ absurd (let found = holds place some in let never = found.1 in cc)
    ]) later
use_held raw tree (Some hull) body rest boxes holds later =
    held_elements raw tree hull body.placed (displacements body.grid) rest boxes
    (λ place some.
    let found = holds place some in
    let same : hull ≡ found.0 = (let is = found.1 in cc) in
    subst (λ (area : Rect). Covers area place.square) (sym same) found.2)
    later

-- The hull of each cell holds all that its tree has.
abbrev AreHullsOf : RawTech → (ℕ → CellTree) → (ℕ → Size) → Type 0
AreHullsOf raw trees sizes =
    (cell : ℕ) (place : Place) → flat_sets raw (trees cell) place ≢ 0 → (hull : Rect) × ((sizes cell).hull ≡ Some hull) × Covers hull place.square

-- the elements of uses
uses_held : (raw : RawTech) (trees : ℕ → CellTree) (sizes : ℕ → Size) (uses : List (List ℕ × UseBody)) → AreHullsOf raw trees sizes
    → HoldParts (hulls_below sizes uses) (element_parts raw (elements_from trees uses))
uses_held raw trees sizes [] holds = tt
uses_held raw trees sizes (entry ∷ rest) holds =
    use_held raw (trees entry.1.child.0) (sizes entry.1.child.0).hull entry.1 (elements_from trees rest) (hulls_below sizes rest)
    (holds entry.1.child.0)
    (uses_held raw trees sizes rest holds)

-- The boxes of the elements of a cell of a lawful library hold its parts.
pub boxes_hold_parts : (library : LibraryParts) → IsLawfulLibrary library → (cell : ℕ) (boxes : List Rect)
    → boxes ≡ hulls_below (size_at library.tree.sizes) (view_at (seen library) cell).uses
    → HoldParts boxes (element_parts library.tech (elements_in (tree_at (seen library) cell)))
unfolding tree_at
boxes_hold_parts library lawful cell boxes is =
    let held : HoldParts (hulls_below (size_at library.tree.sizes) (view_at (seen library) cell).uses)
    (element_parts library.tech (elements_from (tree_to (seen library) 63) (view_at (seen library) cell).uses)) =
    uses_held library.tech (tree_to (seen library) 63) (size_at library.tree.sizes) (view_at (seen library) cell).uses
    (hull_holds library.tech (seen library) library.tree.cells library.tree.sizes lawful.boxes lawful.tree.sizes.right 63) in
    subst
    (λ (list : List Rect).
    HoldParts list (element_parts library.tech (elements_from (tree_to (seen library) 63) (view_at (seen library) cell).uses))) (sym is) held
