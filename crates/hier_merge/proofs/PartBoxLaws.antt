-- The boxes of the parts of a cell, its own first.
use Rattle.hier_merge.proofs.Common.{◌≡◌, ℕ, zero, suc, List, ◌∷◌, ◌++◌, inl, inr, refl, sym, ap, subst, arith, ints, Option, Some, None, All, ◌↔◌}
use Rattle.hier_merge.proofs.Common.{slice_index_or, option_to_list, Rect, RawTech, parts_of, Place, Layout, CellTree, cell_tree, parts_in}
use Rattle.hier_merge.proofs.Common.{IsLawfulBox, HoldParts, own_cell, tree_at, LibraryView, view_at, PaintBoxIs}
use Rattle.std.specs.Prelude.{IsNone, IfSome, ◌<◌, length}
use Rattle.geo_core.specs.Areas.{LiesWithin}
use Rattle.tech_model.specs.declared.raw.TypeRec.{TypeRec}
use Rattle.cell_library.specs.LayoutModel.FlatSets.{element_parts, elements_in, sets_in}
use Rattle.cell_library.specs.CellPaint.Painting.{paint_range}
use Rattle.cell_library.specs.CellPaint.Paints.{IsPaintBox, IsSoundPaint}
use Rattle.cell_library.specs.LayoutTrees.{elements_from}

-- what a search for the box of paint tells
pub paint_box : (layout : Layout) (found : Option Rect) → (IsNone found ↔ ((place : Place) → layout place ≡ 0)) → IfSome found (IsPaintBox layout)
    → PaintBoxIs layout found
paint_box layout None none some = none.0 refl
paint_box layout (Some box) none some = some

-- the box of a cell's paint is lawful
pub paint_box_lawful : (kinds : List TypeRec) (layout : Layout) (box : Rect) → IsSoundPaint kinds layout → IsPaintBox layout box → IsLawfulBox box
paint_box_lawful kinds layout box sound is =
    let inside : LiesWithin box paint_range = is.least paint_range sound.range in
    let covers = is.covers is.place is.material in
    record {
      wide = omega (arith, ints, covers.right_of_xlo, covers.left_of_xhi);
      high = omega (arith, ints, covers.above_ylo, covers.below_yhi);
      spans = record {
        xlo = record { low = inside.right_of_xlo; high = omega (arith, ints, covers.right_of_xlo, covers.left_of_xhi, inside.left_of_xhi) };
        ylo = record { low = inside.above_ylo; high = omega (arith, ints, covers.above_ylo, covers.below_yhi, inside.below_yhi) };
        xhi = record { low = omega (arith, ints, covers.right_of_xlo, covers.left_of_xhi, inside.right_of_xlo); high = inside.left_of_xhi };
        yhi = record { low = omega (arith, ints, covers.above_ylo, covers.below_yhi, inside.above_ylo); high = inside.below_yhi };
      };
    }

-- all boxes are lawful
pub boxes_lawful : (kinds : List TypeRec) (layout : Layout) (own : Option Rect) (elements : List Rect) → IsSoundPaint kinds layout → PaintBoxIs layout own
    → All IsLawfulBox elements → All IsLawfulBox (option_to_list own ++ elements)
boxes_lawful kinds layout None elements sound is lawful = lawful
boxes_lawful kinds layout (Some box) elements sound is lawful = each where
  each : (k : ℕ) (default : Rect) → k < length (box ∷ elements) → IsLawfulBox (slice_index_or (box ∷ elements) k default)
  each zero default below = paint_box_lawful kinds layout box sound is
  each (suc k) default below = lawful k default (omega (arith, below))

-- the box of own paint holds it, and those of elements what they hold
pub boxes_hold : (raw : RawTech) (layout : Layout) (own : Option Rect) (elements : List Rect) (parts : List (Place → ℕ)) → PaintBoxIs layout own
    → HoldParts elements parts → HoldParts (option_to_list own ++ elements) (sets_in raw layout ∷ parts)
boxes_hold raw layout None elements parts is hold = inl ((λ place. ap (parts_of raw) (is place)), hold)
boxes_hold raw layout (Some box) elements parts is hold =
    inr (box, elements, refl, (λ place some. is.covers place (λ space. some (ap (parts_of raw) space))), hold)

-- the same, of a cell's tree
pub boxes_hold_parts : (raw : RawTech) (view : LibraryView) (cell : ℕ) (own : Option Rect) (elements : List Rect)
    → tree_at view cell ≡ cell_tree (own_cell view cell) (elements_from (tree_at view) (view_at view cell).uses)
    → PaintBoxIs (view_at view cell).own own → HoldParts elements (element_parts raw (elements_in (tree_at view cell)))
    → HoldParts (option_to_list own ++ elements) (parts_in raw (tree_at view cell))
boxes_hold_parts raw view cell own elements unfolds is hold =
    let below = elements_from (tree_at view) (view_at view cell).uses in
    let held : HoldParts elements (element_parts raw below) =
    subst (λ (tree : CellTree). HoldParts elements (element_parts raw (elements_in tree))) unfolds hold in
    subst (λ (tree : CellTree). HoldParts (option_to_list own ++ elements) (parts_in raw tree)) (sym unfolds)
    (boxes_hold raw (view_at view cell).own own elements (element_parts raw below) is held)
