-- The tiles that are found where parts interact tell which squares of each plane offend.
use Rattle.hier_merge.proofs.Common.{◌≡◌, ◌<◌, ℕ, List, [], length, inl, inr, refl, sym, ap, ◌∙◌, arith, ◌↔◌, cases_eq, cases_lt, slice_get_within}
use Rattle.hier_merge.proofs.Common.{length-map-range_with_len, Rect, Square, RawTech, joined, KeepsRules, IsWellFormed, Place, CellTree, cell_tree}
use Rattle.hier_merge.proofs.Common.{parts_in, IsTyped, IsShared, HaveTypes, OffendsOn, SetLayout, joined_at, tile_part, IsClean, IsCleanBelow}
use Rattle.hier_merge.proofs.Common.{IsRestriction, PartTile, set_of_tiles, AreMeetingTiles, parts_of_plane, AreStripsByPlane, tiles_on, AreOfParts}
use Rattle.meeting_laws.specs.Offences.Offences.{Offends}
use Rattle.meeting_laws.proofs.HierarchyModel.MeetingLaws.{meetings_decide, none_offends, offences_on_plane, AreAlikeAt}
use Rattle.hier_merge.proofs.MeetingBoxes.{meetings_held, parts_of_tiles, visits_restrict}
use Rattle.hier_merge.proofs.NearAreas.{tiles_are_of_parts}
use Rattle.hier_merge.proofs.NumberedParts.{made_from, stands_made}
use Rattle.hier_merge.proofs.PartTypes.{none_past, parts_have_types, restriction_has_types, space_is_defined}
use Rattle.hier_merge.proofs.PlaneStrips.{no_strips, nothing_there, strips_of_same}
use Rattle.hier_merge.proofs.PlaneTiles.{nothing_off_plane, set_on_plane}

-- ---- the parts of one plane

-- on a plane its tiles make of the parts what all tiles make of them
alike_on_plane : (raw : RawTech) (tiles : List PartTile) (count plane : ℕ) (place : Place) → place.plane ≡ plane
    → AreAlikeAt (parts_of_tiles raw tiles count) (parts_of_plane raw tiles count plane) place
alike_on_plane raw tiles count plane place on = record {
  count = length-map-range_with_len (tile_part (tiles_on raw plane tiles) plane) 0 count
      ∙ sym (length-map-range_with_len (set_of_tiles raw tiles) 0 count);
  same = λ position part other there also.
      ap (λ (p : SetLayout). p place) (sym (made_from (tile_part (tiles_on raw plane tiles) plane) count position other also))
      ∙ set_on_plane raw plane tiles position place on
      ∙ ap (λ (p : SetLayout). p place) (made_from (set_of_tiles raw tiles) count position part there);
}

-- where what all tiles make has types, what those of a plane make has
pub plane_has_types : (raw : RawTech) (tiles : List PartTile) (count plane : ℕ) → HaveTypes raw (parts_of_tiles raw tiles count)
    → HaveTypes raw (parts_of_plane raw tiles count plane)
plane_has_types raw tiles count plane types position part there place none =
    let make = tile_part (tiles_on raw plane tiles) plane in
    let made : make position ≡ part = made_from make count position part there in
    let within : position < length (parts_of_plane raw tiles count plane) =
    slice_get_within (parts_of_plane raw tiles count plane) position part there in
    let below : position < count = omega (arith, length-map-range_with_len make 0 count) in
    elim (cases_eq place.plane plane) [
      | inl on ↦
          types position (set_of_tiles raw tiles position) (stands_made (set_of_tiles raw tiles) count position below) place
          (ap (joined raw place.plane) (sym (set_on_plane raw plane tiles position place on))
          ∙ ap (λ (p : SetLayout). joined_at raw p place) made
          ∙ none)
      | inr off ↦
          space_is_defined raw part place
          (ap (λ (p : SetLayout). p place) (sym made) ∙ nothing_off_plane (tiles_on raw plane tiles) plane position place off) none
    ]

-- ---- tiles that are found where parts interact

module _ (raw : RawTech) (tree : CellTree) (tiles : List PartTile) (formed : IsWellFormed raw) (rules : KeepsRules raw) (typed : IsTyped raw tree)
    (clean : IsCleanBelow raw tree) (are : AreMeetingTiles raw tree tiles) where
  -- they are of the cell's parts, and near
  pub meeting_tiles_are_of_parts : AreOfParts (length (parts_in raw tree)) tiles
  meeting_tiles_are_of_parts = tiles_are_of_parts raw tree are.areas tiles are.visits are.near

  restricted : IsRestriction (IsShared are.boxes) (parts_in raw tree) (parts_of_tiles raw tiles (length (parts_in raw tree)))
  restricted = visits_restrict (IsShared are.boxes) raw tree are.areas tiles are.are_areas are.visits

  types : HaveTypes raw (parts_in raw tree)
  types = parts_have_types raw formed rules tree typed clean

  -- what they make on a plane has types
  pub meeting_tiles_have_types : (plane : ℕ) → HaveTypes raw (parts_of_plane raw tiles (length (parts_in raw tree)) plane)
  meeting_tiles_have_types plane =
      plane_has_types raw tiles (length (parts_in raw tree)) plane
      (restriction_has_types raw (IsShared are.boxes) (parts_in raw tree) (parts_of_tiles raw tiles (length (parts_in raw tree))) types restricted)

  same_offences : (plane : ℕ) (square : Square)
      → OffendsOn raw (parts_of_plane raw tiles (length (parts_in raw tree)) plane) plane square ↔ OffendsOn raw (parts_in raw tree) plane square
  same_offences plane square =
      let count = length (parts_in raw tree) in
      let place : Place = record { plane = plane; square = square } in
      let decide =
      meetings_decide raw (IsShared are.boxes) (parts_in raw tree) (parts_of_tiles raw tiles count) formed types
      (meetings_held are.boxes (parts_in raw tree) are.hold) restricted place in
      let here =
      offences_on_plane raw (parts_of_tiles raw tiles count) (parts_of_plane raw tiles count plane) plane (alike_on_plane raw tiles count plane)
      place refl in
      ((λ offends. decide.1 (here.1 offends)), (λ offends. here.0 (decide.0 offends)))

  -- the strips of what offends of them are those of what offends of the cell's parts
  pub offences_of_tiles : (planes : ℕ) (found : List (ℕ × Rect))
      → AreStripsByPlane (λ plane. OffendsOn raw (parts_of_plane raw tiles (length (parts_in raw tree)) plane) plane) planes found
      → AreStripsByPlane (OffendsOn raw (parts_in raw tree)) planes found
  offences_of_tiles planes found strips =
      strips_of_same (λ plane. OffendsOn raw (parts_of_plane raw tiles (length (parts_in raw tree)) plane) plane) (OffendsOn raw (parts_in raw tree))
      same_offences 0 planes found strips

-- ---- clean cells

-- a cell is clean where all below it are and no place offends
clean_from_places : (raw : RawTech) (tree : CellTree) → IsCleanBelow raw tree → ((place : Place) → Offends raw (parts_in raw tree) place → ⊥)
    → IsClean raw tree
clean_from_places raw (cell_tree _ _) below none = (below, none)

-- and no place of a clean cell offends
pub places_of_clean : (raw : RawTech) (tree : CellTree) → IsClean raw tree → (place : Place) → Offends raw (parts_in raw tree) place → ⊥
places_of_clean raw (cell_tree _ _) clean = clean.1

-- there is no strip of what offends exactly where the cell is clean
pub clean_without_strips : (raw : RawTech) (tree : CellTree) (found : List (ℕ × Rect)) → IsWellFormed raw → IsTyped raw tree → IsCleanBelow raw tree
    → AreStripsByPlane (OffendsOn raw (parts_in raw tree)) (length raw.planes) found → (found ≡ []) ↔ IsClean raw tree
clean_without_strips raw tree found formed typed below strips = (
  (λ none. clean_from_places raw tree below (λ place offends. elim (cases_lt place.plane (length raw.planes)) [
    | inl there ↦
        no_strips (OffendsOn raw (parts_in raw tree)) 0 (length raw.planes) found strips none place.plane (omega arith) (omega arith)
        place.square offends
    | inr past ↦
        none_offends raw formed (parts_in raw tree) place (none_past raw formed tree typed place (omega (arith, past))) offends
  ])),
  (λ clean.
      nothing_there (OffendsOn raw (parts_in raw tree)) 0 (length raw.planes) found strips
      (λ plane square. places_of_clean raw tree clean (record { plane = plane; square = square }))),
)
