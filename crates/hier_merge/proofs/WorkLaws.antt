-- The work over the areas in which parts of a cell interact is a work over the strips of what its boxes share.
use Rattle.hier_merge.proofs.Common.{◌≡◌, ◌≤◌, ◌+◌, ◌++◌, ℕ, List, [], ◌∷◌, length, refl, sym, ap, subst, ◌∙◌, Option, Some, None, option_to_list}
use Rattle.hier_merge.proofs.Common.{length-append, Square, Rect, IsStrips, strips_same, RawTech, Layout, CellTree, IsShared, PartTile, tree_at}
use Rattle.hier_merge.proofs.Common.{IsLawfulLibrary, LibraryParts, seen, view_at, IsWorkOver, PaintBoxIs, AreVisits}
use Rattle.interact.proofs.GeoStrips.StripListLaws.{one_list}
use Rattle.geo_core.proofs.CoveringLaws.{within_antisym}
use Rattle.hier_merge.specs.Interactions.{ArePartBoxes, IsInteraction, IsWork}
use Rattle.cell_library.proofs.PartLaws.{one_list_of_boxes}

-- a layout has one box of paint, or none
one_paint_box : (layout : Layout) (a b : Option Rect) → PaintBoxIs layout a → PaintBoxIs layout b → a ≡ b
one_paint_box layout None None p q = refl
one_paint_box layout None (Some b) p q = absurd (q.material (p q.place))
one_paint_box layout (Some a) None p q = absurd (p.material (q p.place))
one_paint_box layout (Some a) (Some b) p q =
    ap (λ (r : Rect). Some r) (within_antisym a b (p.least b q.covers) (q.least a p.covers))

-- a cell has one list of boxes of its parts
one_list_of_part_boxes : (library : LibraryParts) → IsLawfulLibrary library → (cell : ℕ) (boxes others : List Rect)
    → ArePartBoxes (seen library) cell boxes → ArePartBoxes (seen library) cell others → boxes ≡ others
one_list_of_part_boxes library lawful cell boxes others p q =
    p.are
    ∙ ap (λ (own : Option Rect). option_to_list own ++ p.elements) (one_paint_box (view_at (seen library) cell).own p.own q.own p.is_own q.is_own)
    ∙ ap (λ (elements : List Rect). option_to_list q.own ++ elements)
    (one_list_of_boxes library lawful cell p.elements q.elements p.are_elements q.are_elements)
    ∙ sym q.are

-- the squares that the boxes share are those where parts interact
module _ (library : LibraryParts) (lawful : IsLawfulLibrary library) (cell : ℕ) (boxes : List Rect) (are_boxes : ArePartBoxes (seen library) cell boxes) where
  interaction_shared : (square : Square) → IsInteraction (seen library) cell square → IsShared boxes square
  interaction_shared square meets =
      subst (λ (others : List Rect). IsShared others square)
      (one_list_of_part_boxes library lawful cell meets.boxes boxes meets.are_boxes are_boxes) meets.shared

  shared_interaction : (square : Square) → IsShared boxes square → IsInteraction (seen library) cell square
  shared_interaction square meets = record { boxes = boxes; are_boxes = are_boxes; shared = meets }

  -- the strips of what the boxes share are the areas of the cell's work
  pub work_over_areas : (areas : List Rect) (work : ℕ) → IsStrips (IsShared boxes) areas → IsWork (seen library) cell work
      → IsWorkOver (tree_at (seen library) cell) areas work
  work_over_areas areas work are_areas is =
      let same : is.areas ≡ areas =
      one_list (IsShared boxes) is.areas areas
      (strips_same (IsInteraction (seen library) cell) (IsShared boxes) interaction_shared shared_interaction is.areas is.are_areas) are_areas in
      subst (λ (all : List Rect). IsWorkOver (tree_at (seen library) cell) all work) same is.over

  -- a work over those areas is the cell's
  pub work_of_areas : (areas : List Rect) (work : ℕ) → IsStrips (IsShared boxes) areas → IsWorkOver (tree_at (seen library) cell) areas work
      → IsWork (seen library) cell work
  work_of_areas areas work are_areas over = record {
    areas = areas;
    are_areas = strips_same (IsShared boxes) (IsInteraction (seen library) cell) shared_interaction interaction_shared areas are_areas;
    over = over;
  }

-- what the work over visited areas bounds, the cell's work bounds, where those are the strips of what its boxes share
pub within_work : (library : LibraryParts) → IsLawfulLibrary library → (cell : ℕ) (boxes shared areas visited : List Rect) (before after : ℕ)
    → ArePartBoxes (seen library) cell boxes → shared ≡ boxes → IsStrips (IsShared shared) areas → visited ≡ areas
    → ((work : ℕ) → IsWorkOver (tree_at (seen library) cell) visited work → after ≤ before + work)
    → (work : ℕ) → IsWork (seen library) cell work → after ≤ before + work
within_work library lawful cell boxes shared areas visited before after are_boxes same_boxes are_areas same_areas bound work is =
    let strips : IsStrips (IsShared boxes) areas = subst (λ (b : List Rect). IsStrips (IsShared b) areas) same_boxes are_areas in
    let over = work_over_areas library lawful cell boxes are_boxes areas work strips is in
    bound work (subst (λ (a : List Rect). IsWorkOver (tree_at (seen library) cell) a work) (sym same_areas) over)

-- what visits of areas hand out is a work over them
visited_over : (raw : RawTech) (tree : CellTree) (areas : List Rect) (tiles : List PartTile) → AreVisits raw tree areas tiles
    → IsWorkOver tree areas (length tiles)
visited_over raw tree [] tiles visits = ap (λ (t : List PartTile). length t) visits
visited_over raw tree (area ∷ areas) tiles (first, rest, are, visit, visits) = (
  first,
  length rest,
  visit.lists,
  visited_over raw tree areas rest visits,
  ap (λ (t : List PartTile). length t) are ∙ length-append first rest,
)

-- what visits of the strips of what a cell's boxes share hand out is the cell's work
pub visited_work : (library : LibraryParts) → IsLawfulLibrary library → (cell : ℕ) (boxes shared areas visited : List Rect) (tiles : List PartTile)
    → ArePartBoxes (seen library) cell boxes → shared ≡ boxes → IsStrips (IsShared shared) areas → visited ≡ areas
    → AreVisits library.tech (tree_at (seen library) cell) visited tiles → IsWork (seen library) cell (length tiles)
visited_work library lawful cell boxes shared areas visited tiles are_boxes same_boxes are_areas same_areas visits =
    let strips : IsStrips (IsShared boxes) areas = subst (λ (b : List Rect). IsStrips (IsShared b) areas) same_boxes are_areas in
    let over = visited_over library.tech (tree_at (seen library) cell) areas tiles
    (subst (λ (a : List Rect). AreVisits library.tech (tree_at (seen library) cell) a tiles) same_areas visits) in
    work_of_areas library lawful cell boxes are_boxes areas (length tiles) strips over
