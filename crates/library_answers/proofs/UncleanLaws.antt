-- Squares that offend, in cells of a library order.
use Rattle.std.proofs.Common.{◌≡◌, ◌<◌, ◌+◌, ℕ, zero, suc, inl, inr, refl, sym, ap, subst, arith}
use Rattle.std.proofs.Common.{List, ◌∷◌, length, map, get_or}
use Rattle.std.specs.Prelude.{All}
use Rattle.finite_sets.specs.Lists.{In}
use Rattle.finite_sets.proofs.Members.{In-append_cases, In-append_right, In-get_or, In-map_source}
use Rattle.geo_core.specs.declared.squares.Rect.{Rect}
use Rattle.geo_core.specs.declared.squares.Square.{Square}
use Rattle.use_orders.proofs.Visiting.{library_order-lists}
use Rattle.cell_loading.specs.LayoutModel.FlatSets.{parts_in}
use Rattle.hier_merge.specs.Offences.Offences.{OffendsOn}
use Rattle.hier_merge.specs.StripLists.{AreStripsByPlane, AreStripsFrom}
use Rattle.hier_merge.specs.UncleanCells.{AreOffendingOf, IsUncleanBelow}
use Rattle.hier_merge.specs.CellLibrary.Additions.{children_in}
use Rattle.hier_merge.specs.CellLibrary.LayoutTrees.{tree_at}
use Rattle.hier_merge.specs.CellLibrary.Libraries.{IsLawfulLibrary, LibraryParts, seen}
use Rattle.hier_merge.specs.CellLibrary.Views.{LibraryView}
use Rattle.hier_merge.proofs.CellLibrary.ChildLaws.{below_there}

-- ---- strips by plane

-- the strips of so many planes from one on lie on these planes
planes_from : (Set : ℕ → Square → Type 0) (plane count : ℕ) (found : List (ℕ × Rect)) → AreStripsFrom Set plane count found
    → (strip : ℕ × Rect) → In strip found → strip.0 < plane + count
planes_from Set plane zero found are strip here = absurd (subst (λ (xs : List (ℕ × Rect)). In strip xs) are here)
planes_from Set plane (suc count) found are strip here =
    elim (In-append_cases strip (map (λ (area : Rect). (plane, area)) are.0) are.1 (subst (λ (xs : List (ℕ × Rect)). In strip xs) are.2 here)) [
      | inl first ↦
          let source = In-map_source (λ (area : Rect). (plane, area)) strip are.0 first in
          let same : plane ≡ strip.0 = ap (λ (s : ℕ × Rect). s.0) source.1.1 in
          omega arith
      | inr later ↦ let below = planes_from Set (suc plane) count are.1 are.4 strip later in omega arith
    ]

-- strips by plane lie on the planes
planes_below : (Set : ℕ → Square → Type 0) (count : ℕ) (found : List (ℕ × Rect)) → AreStripsByPlane Set count found
    → All (λ strip. strip.0 < count) found
planes_below Set count found are k d below =
    let within = planes_from Set 0 count found are (get_or found k d) (In-get_or found k d below) in
    omega arith

-- those of the squares of a cell lie on planes of the technology
pub offending_planes : (library : LibraryView) (cell : ℕ) (squares : List (ℕ × Rect)) → AreOffendingOf library cell squares
    → All (λ strip. strip.0 < length library.tech.planes) squares
offending_planes library cell squares are =
    planes_below (OffendsOn library.tech (parts_in library.tech (tree_at library cell))) (length library.tech.planes) squares are

-- ---- the first cell that is not clean

-- the first cell at or below a cell of the library that is not clean is one of the library
pub unclean_is_cell : (library : LibraryParts) → IsLawfulLibrary library → (root cell : ℕ) (squares : List (ℕ × Rect)) → root < length library.contents
    → IsUncleanBelow (seen library) root cell squares → cell < length library.contents
unclean_is_cell library lawful root cell squares there unclean =
    let stands : In cell unclean.order =
    subst (λ (order : List ℕ). In cell order) (sym unclean.first.stands)
    (In-append_right cell unclean.first.before (cell ∷ unclean.first.after) (inl refl)) in
    below_there library lawful root cell there
    ((library_order-lists (children_in (seen library)) root unclean.order unclean.is_order).2 cell stands)
