-- Where parts meet the boxes that hold them are near each other, so the tiles found there are enough.
use Rattle.hier_merge.proofs.Common.{◌⊎◌, ◌≤ℤ◌, ◌<ℤ◌, ℕ, List, length, inl, inr, sym, ap, ◌∙◌, arith, ints, get_or_from_slice_get}
use Rattle.hier_merge.proofs.Common.{length-map-range_with_len, Square, Rect, Covers, IsStrips, IsInUnion, strip_within, RawTech, Place, CellTree}
use Rattle.hier_merge.proofs.Common.{parts_in, IsShared, widened, covers_widened, SetLayout, HoldsMeetings, IsRestriction, PartTile, HoldParts}
use Rattle.hier_merge.proofs.Common.{set_of_tiles, AreVisits}
use Rattle.std.specs.Option.{option_map}
use Rattle.std.proofs.lemmas.Option.{slice_get-map}
use Rattle.geo_core.specs.Neighbours.{AreEdgeNeighbours}
use Rattle.geo_core.proofs.NeighbourLaws.{AreEdgeNeighbours-sym}
use Rattle.meeting_laws.specs.HierarchyModel.Restrictions.{PartStands}
use Rattle.hier_merge.proofs.NumberedParts.{numbered, made_from}
use Rattle.cell_library.proofs.PartLaws.{HasPartAt, HaveTwoBoxes, parts_have_boxes}
use Rattle.hier_merge.proofs.VisitLaws.{in_union_or_not, visits_inside, visits_outside}

-- ---- boxes, grown by one

-- and so is each square beside it
covers_beside : (box : Rect) (square beside : Square) → AreEdgeNeighbours square beside → Covers box square → Covers (widened box) beside
covers_beside box square beside neighbours covers =
    let left : box.xlo ≤ℤ square.x = covers.right_of_xlo in
    let right : square.x <ℤ box.xhi = covers.left_of_xhi in
    let low : box.ylo ≤ℤ square.y = covers.above_ylo in
    let high : square.y <ℤ box.yhi = covers.below_yhi in
    record {
      right_of_xlo = grind (arith, ints, neighbours);
      left_of_xhi = grind (arith, ints, neighbours);
      above_ylo = grind (arith, ints, neighbours);
      below_yhi = grind (arith, ints, neighbours);
    }

-- a square of both boxes, each grown by one, is shared
pub both_share : (boxes : List Rect) (one other : Place) (two : HaveTwoBoxes boxes one other) (square : Square)
    → Covers (widened two.covers_first.box) square → Covers (widened two.covers_second.box) square → IsShared boxes square
both_share boxes one other two square in_one in_other = record {
  first = two.j;
  second = two.k;
  differ = two.apart;
  in_first = record {
    area = widened two.covers_first.box;
    there = slice_get-map widened boxes two.j ∙ ap (option_map widened) two.covers_first.there;
    covers = in_one;
  };
  in_second = record {
    area = widened two.covers_second.box;
    there = slice_get-map widened boxes two.k ∙ ap (option_map widened) two.covers_second.there;
    covers = in_other;
  };
}

-- a part that stands at a place has something there
pub has_part : (parts : List SetLayout) (position : ℕ) (place : Place) → PartStands parts position place → HasPartAt parts position place
has_part parts position place stands = record { part = stands.part; there = stands.there; some = stands.material }

-- boxes that hold parts are near each other where the parts meet
pub meetings_held : (boxes : List Rect) (parts : List SetLayout) → HoldParts boxes parts → HoldsMeetings (IsShared boxes) parts
meetings_held boxes parts hold = record {
  here = λ j k place differ one other.
      let two = parts_have_boxes boxes parts j k place place hold differ (has_part parts j place one) (has_part parts k place other) in
      both_share boxes place place two place.square
      (covers_widened two.covers_first.box place.square two.covers_first.covers)
      (covers_widened two.covers_second.box place.square two.covers_second.covers);
  beside = λ j k place beside differ one other neighbours.
      let two = parts_have_boxes boxes parts j k place beside hold differ (has_part parts j place one) (has_part parts k beside other) in
      both_share boxes place beside two place.square
      (covers_widened two.covers_first.box place.square two.covers_first.covers)
      (covers_beside two.covers_second.box beside.square place.square (AreEdgeNeighbours-sym place.square beside.square neighbours.1)
      two.covers_second.covers);
}

-- ---- what the visits leave out

-- what the tiles make of so many parts
abbrev pub parts_of_tiles : RawTech → List PartTile → ℕ → List SetLayout
parts_of_tiles raw tiles count = numbered (set_of_tiles raw tiles) count

-- a square in one of the strips of a set is of the set
pub of_strips : (S : Square → Type 0) (areas : List Rect) (square : Square) → IsStrips S areas → IsInUnion areas square → S square
of_strips S areas square are found = strip_within S found.0 (are.each found.0 found.1.0) square.x square.y found.1.1

-- it is decided which squares are of a set that has strips
pub decided : (S : Square → Type 0) (areas : List Rect) → IsStrips S areas → (square : Square) → S square ⊎ (S square → ⊥)
decided S areas are square = elim (in_union_or_not areas square) [
  | inl found ↦ inl (of_strips S areas square are found)
  | inr nowhere ↦ inr (λ of. nowhere (are.whole square of))
]

-- visits of the strips of a set leave the parts as they are there, and nothing elsewhere
pub visits_restrict : (S : Square → Type 0) (raw : RawTech) (tree : CellTree) (areas : List Rect) (tiles : List PartTile) → IsStrips S areas
    → AreVisits raw tree areas tiles → IsRestriction S (parts_in raw tree) (parts_of_tiles raw tiles (length (parts_in raw tree)))
visits_restrict S raw tree areas tiles are visits = record {
  count = length-map-range_with_len (set_of_tiles raw tiles) 0 (length (parts_in raw tree));
  inside = λ position part other there also place within.
      ap (λ (p : SetLayout). p place) (sym (made_from (set_of_tiles raw tiles) (length (parts_in raw tree)) position other also))
      ∙ visits_inside raw tree areas tiles visits position place (are.whole place.square within)
      ∙ ap (λ (p : SetLayout). p place) (get_or_from_slice_get (parts_in raw tree) position part (λ p. 0) there);
  outside = λ position other also place outside.
      ap (λ (p : SetLayout). p place) (sym (made_from (set_of_tiles raw tiles) (length (parts_in raw tree)) position other also))
      ∙ visits_outside raw tree areas tiles visits position place (λ found. outside (of_strips S areas place.square are found));
  decided = decided S areas are;
}
