-- The tiles that are found where the parts of a cell meet, and the pieces that are found of them.
use Rattle.hier_merge.proofs.Common.{◌≡◌, ◌≤◌, ◌<◌, ℕ, List, length, inl, inr, refl, ◌∙◌, arith, All, Some, slice_get, slice_get_within}
use Rattle.hier_merge.proofs.Common.{slice_get-get_or, In, All-from_In, All-In, slice_get-below, Rect, RawTech, KeepsRules, IsWellFormed, Place}
use Rattle.hier_merge.proofs.Common.{CellTree, IsTyped, parts_in, PlaneStack, HaveTypes, OffendsOn, SetLayout, tile_parts, IsCleanBelow, PartTile}
use Rattle.hier_merge.proofs.Common.{AreMeetingTiles, ArePiecesFrom, HasTiles, HaveTypedParts, plane_stack, AreStripsByPlane, AreOfParts, tiles_on}
use Rattle.finite_sets.proofs.Places.{In-slice_get}
use Rattle.meeting_laws.proofs.HierarchyModel.MeetingLaws.{meetings_decide}
use Rattle.meeting_laws.specs.PartLayouts.{Passes}
use Rattle.hier_merge.specs.MeetingPieces.{AreMeetingPieces, CoversSomePiece, HasCoveringTiles, IsPartTile}
use Rattle.hier_merge.proofs.CoveringTileLaws.{covering_tiles, tile_is_member, tile_type}
use Rattle.hier_merge.proofs.MeetingBoxes.{parts_of_tiles}
use Rattle.hier_merge.proofs.MeetingOffences.{plane_has_types}
use Rattle.hier_merge.proofs.MeetingPieceLaws.{all_pieces, by_plane, piece_of_plane, plane_is_found, plane_pieces, strips_of_pieces}
use Rattle.hier_merge.proofs.MeetingSquares.{lies_in, meet_and_make, MeetAndMake}
use Rattle.hier_merge.proofs.NearAreas.{in_some_area, tiles_are_of_parts}
use Rattle.hier_merge.proofs.PartTypes.{part_past, parts_have_types, restriction_has_types}
use Rattle.hier_merge.proofs.PlaneStrips.{strips_of_same}

module _ (raw : RawTech) (tree : CellTree) (formed : IsWellFormed raw) (rules : KeepsRules raw) (typed : IsTyped raw tree)
    (clean : IsCleanBelow raw tree) (tiles : List PartTile) (are : AreMeetingTiles raw tree tiles) where
  abbrev count : ℕ
  count = length (parts_in raw tree)

  of_parts : AreOfParts count tiles
  of_parts = tiles_are_of_parts raw tree are.areas tiles are.visits are.near

  met : MeetAndMake raw tree tiles
  met = meet_and_make raw tree tiles are

  have_types : HaveTypes raw (parts_of_tiles raw tiles count)
  have_types =
      restriction_has_types raw (Passes (lies_in met.areas)) (parts_in raw tree) (parts_of_tiles raw tiles count)
      (parts_have_types raw formed rules tree typed clean) met.restricted

  plane_types : (plane : ℕ) → HaveTypes raw (tile_parts (tiles_on raw plane tiles) plane count)
  plane_types plane = plane_has_types raw tiles count plane have_types

  -- what the tiles make has types
  pub typed_parts : HaveTypedParts raw tiles
  typed_parts = record { count = count; of_parts = of_parts; types = plane_types }

  part_tiles : All (IsPartTile tree) tiles
  part_tiles = All-from_In (IsPartTile tree) tiles (λ tile among.
      let found = in_some_area raw tree are.areas tiles are.visits tile among in
      (found.0, found.1.1))

  -- where no plane is, nothing stands
  past_planes : (place : Place) → length raw.planes ≤ place.plane → (position : ℕ) (part : SetLayout)
      → slice_get (parts_of_tiles raw tiles count) position ≡ Some part → part place ≡ 0
  past_planes place past position part there = elim (met.restricted.decided place.square) [
    | inr outside ↦ met.restricted.outside position part there place outside
    | inl inside ↦
        let own = counterpart position (slice_get_within (parts_of_tiles raw tiles count) position part there) in
        met.restricted.inside position own.0 part own.1 there place inside
        ∙ part_past raw formed tree typed place past position own.0 own.1
  ]
    where
      counterpart : (k : ℕ) → k < length (parts_of_tiles raw tiles count) → (own : SetLayout) × (slice_get (parts_in raw tree) k ≡ Some own)
      counterpart k below = (_, slice_get-get_or (parts_in raw tree) k (λ p. 0) (omega (arith, below, met.restricted.count)))

  module _ (stacks : List PlaneStack) (offending : List (ℕ × Rect)) (found : ArePiecesFrom raw tiles 0 (length raw.planes) stacks offending) where
    -- the strips are those of what offends of the cell's parts
    pub offending_strips : AreStripsByPlane (OffendsOn raw (parts_in raw tree)) (length raw.planes) offending
    offending_strips =
        strips_of_same (OffendsOn raw (parts_of_tiles raw tiles count)) (OffendsOn raw (parts_in raw tree)) (λ plane square.
        let decide =
        meetings_decide raw (Passes (lies_in met.areas)) (parts_in raw tree) (parts_of_tiles raw tiles count) formed
        (parts_have_types raw formed rules tree typed clean) met.holds.on_plane met.restricted (record { plane = plane; square = square }) in
        (decide.1, decide.0)) 0 (length raw.planes) offending
        (strips_of_pieces raw tiles count of_parts plane_types 0 (length raw.planes) stacks offending found)

    covered : (piece : PlaneStack) → In piece stacks → HasCoveringTiles tiles piece
    covered piece among =
        let of = piece_of_plane raw tiles count of_parts plane_types 0 (length raw.planes) stacks offending found piece among in
        covering_tiles raw tree formed typed tiles part_tiles count of_parts piece.plane piece.stack
        ((plane_pieces raw tiles count of_parts plane_types piece.plane of.found of.strips of.has).each piece.stack of.listed)
        (All-In (HasTiles tiles 0 (length tiles) piece.plane) of.found piece.stack of.has.members of.listed)

    all_cover : (number : ℕ) → number < length tiles → CoversSomePiece stacks number
    all_cover number below =
        let at = slice_get-below tiles number below in
        let plane = at.0.plane in
        let type = tile_type raw tree formed typed at.0
        (All-In (IsPartTile tree) tiles at.0 part_tiles (In-slice_get tiles number at.0 at.1)) in
        let pieces = plane_is_found raw tiles count of_parts plane_types 0 (length raw.planes) stacks offending found plane (omega arith)
        (omega (arith, type.plane)) in
        let member = tile_is_member raw tree formed typed tiles part_tiles count of_parts plane pieces.0
        (plane_pieces raw tiles count of_parts plane_types plane pieces.0 pieces.1 pieces.2) pieces.2.members number at.0 at.1 refl in
        record { piece = plane_stack plane member.0; listed = pieces.3 member.0 member.1; is_member = member.2 }

    -- these are the pieces at which the parts meet
    pub are_meeting_pieces : AreMeetingPieces raw tree tiles stacks
    are_meeting_pieces = record {
      within = lies_in met.areas;
      others = parts_of_tiles raw tiles count;
      holds = met.holds;
      restricted = met.restricted;
      pieces = all_pieces raw tiles count of_parts plane_types (length raw.planes) stacks offending found past_planes;
      by_plane = by_plane raw tiles count of_parts plane_types (length raw.planes) stacks offending found;
      planes = All-from_In (λ (piece : PlaneStack). piece.plane < length raw.planes) stacks (λ piece among.
          let of = piece_of_plane raw tiles count of_parts plane_types 0 (length raw.planes) stacks offending found piece among in
          omega (arith, of.below));
      are_tiles = part_tiles;
      covered = All-from_In (HasCoveringTiles tiles) stacks covered;
      all_cover = all_cover;
    }
