-- The squares in which tiles of a cell's parts are found have all places at which the parts meet.
use Rattle.hier_merge.proofs.Common.{Bool, List, length, inl, inr, sym, subst, ◌∙◌, cases_Bool, false≢true, In, Rect, Square, Covers, is_covered}
use Rattle.hier_merge.proofs.Common.{IsInUnion, IsStrips, Covers-is_covered, is_covered-Covers, covers_widened, RawTech, CellTree, parts_in}
use Rattle.hier_merge.proofs.Common.{IsShared, SetLayout, HoldsMeetings, IsRestriction, PartTile, HoldParts, AreMeetingTiles}
use Rattle.std.specs.List.{list_any}
use Rattle.finite_sets.proofs.Searches.{list_any-In, list_any-source}
use Rattle.meeting_laws.specs.PartLayouts.{HoldsAllMeetings, Passes}
use Rattle.cell_library.proofs.PartLaws.{parts_have_boxes}
use Rattle.hier_merge.proofs.MeetingBoxes.{both_share, has_part, meetings_held, of_strips, parts_of_tiles, visits_restrict}

-- ---- the squares

-- the square lies in one of the areas
abbrev pub lies_in : List Rect → Square → Bool
lies_in areas square = list_any (λ area. is_covered area square) areas

-- so it tests
lies_in_union : (areas : List Rect) (square : Square) → Passes (lies_in areas) square → IsInUnion areas square
lies_in_union areas square lies =
    let found = list_any-source (λ (area : Rect). is_covered area square) areas lies in
    (found.0, (found.1.0, Covers-is_covered found.0 square found.1.1))

union_lies_in : (areas : List Rect) (square : Square) → IsInUnion areas square → Passes (lies_in areas) square
union_lies_in areas square inside = elim (cases_Bool (lies_in areas square)) [
  | inl lies ↦ lies
  | inr nowhere ↦
      absurd (false≢true (sym (list_any-In (λ (area : Rect). is_covered area square) areas inside.0 nowhere inside.1.0)
      ∙ is_covered-Covers inside.0 square inside.1.1))
]

module _ (boxes areas : List Rect) (are : IsStrips (IsShared boxes) areas) where
  shared_lies : (square : Square) → IsShared boxes square → Passes (lies_in areas) square
  shared_lies square shared = union_lies_in areas square (are.whole square shared)

  lies_shared : (square : Square) → Passes (lies_in areas) square → IsShared boxes square
  lies_shared square lies = of_strips (IsShared boxes) areas square are (lies_in_union areas square lies)

  -- they have all places at which parts meet that the boxes hold
  all_meetings : (parts : List SetLayout) → HoldParts boxes parts → HoldsAllMeetings (Passes (lies_in areas)) parts
  all_meetings parts hold =
      let held : HoldsMeetings (IsShared boxes) parts = meetings_held boxes parts hold in
      record {
        on_plane = record {
          here = λ j k place differ one other. shared_lies place.square (held.here j k place differ one other);
          beside = λ j k place beside differ one other neighbours. shared_lies place.square (held.beside j k place beside differ one other neighbours);
        };
        stacked = λ j k place other differ one also above.
            let two = parts_have_boxes boxes parts j k place other hold differ (has_part parts j place one) (has_part parts k other also) in
            shared_lies place.square
            (both_share boxes place other two place.square
            (covers_widened two.covers_first.box place.square two.covers_first.covers)
            (covers_widened two.covers_second.box place.square
            (subst (λ (s : Square). Covers two.covers_second.box s) (sym above.1) two.covers_second.covers)));
      }

  restricted_there : (parts others : List SetLayout) → IsRestriction (IsShared boxes) parts others → IsRestriction (Passes (lies_in areas)) parts others
  restricted_there parts others restricted = record {
    count = restricted.count;
    inside = λ position part other there also place within. restricted.inside position part other there also place (lies_shared place.square within);
    outside = λ position other also place outside.
        restricted.outside position other also place (λ shared. outside (shared_lies place.square shared));
    decided = λ square. elim (restricted.decided square) [
      | inl shared ↦ inl (shared_lies square shared)
      | inr apart ↦ inr (λ lies. apart (lies_shared square lies))
    ];
  }

-- ---- both

-- A cell's parts, restricted to squares that have all places at which they meet: there the tiles make them.
pub record MeetAndMake (raw : RawTech) (tree : CellTree) (tiles : List PartTile) : Type 0 where
  pub areas : List Rect
  pub holds : HoldsAllMeetings (Passes (lies_in areas)) (parts_in raw tree)
  pub restricted : IsRestriction (Passes (lies_in areas)) (parts_in raw tree) (parts_of_tiles raw tiles (length (parts_in raw tree)))

pub meet_and_make : (raw : RawTech) (tree : CellTree) (tiles : List PartTile) → AreMeetingTiles raw tree tiles → MeetAndMake raw tree tiles
meet_and_make raw tree tiles are = record {
  areas = are.areas;
  holds = all_meetings are.boxes are.areas are.are_areas (parts_in raw tree) are.hold;
  restricted = restricted_there are.boxes are.areas are.are_areas (parts_in raw tree)
      (parts_of_tiles raw tiles (length (parts_in raw tree)))
      (visits_restrict (IsShared are.boxes) raw tree are.areas tiles are.are_areas are.visits);
}
