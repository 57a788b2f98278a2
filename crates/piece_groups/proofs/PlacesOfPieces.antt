-- The places of pieces: each piece has one, and the parts that have material there stand in the piece.
use Rattle.piece_groups.proofs.Common.{◌≡◌, ℕ, List, Some, slice_get, get_or, inl, inr, refl, sym, ap, subst, ◌∙◌, arith, slice_get_within}
use Rattle.piece_groups.proofs.Common.{slice_get-get_or, get_or_from_slice_get, In, Square, RawTech, Layout, IsMaterial, Place, RegionTile}
use Rattle.piece_groups.proofs.Common.{PlaneStack, SetLayout, LiesInPiece}
use Rattle.finite_sets.proofs.Members.{In-get_or}
use Rattle.geo_core.proofs.CornerLaws.{corner_covers}
use Rattle.tech_model.specs.Types.{joined}
use Rattle.group_meetings.specs.LayoutModel.LayerTypes.{or_space}
use Rattle.group_meetings.specs.LayoutModel.RegionTiles.{LiesIn, AreLayoutTiles}
use Rattle.meeting_sums.specs.Offences.Offences.{joined_at}
use Rattle.meeting_sums.specs.Offences.PlaneStacks.{ArePlaneStacks}
use Rattle.meeting_sums.specs.Offences.TypedStacks.{IsTypedStack, kind_in, on_plane}
use Rattle.meeting_sums.proofs.Offences.KindLaws.{kind_is_listed}
use Rattle.group_meetings.specs.HierarchyModel.Restrictions.{PartStands, IsRestriction}
use Rattle.group_meetings.specs.MeetingLaws.PartLayouts.{parts_layout}
use Rattle.group_meetings.proofs.MeetingLaws.LinkLaws.{someone_stands}
use Rattle.group_meetings.proofs.MeetingLaws.RestrictionLaws.{layout_elsewhere}
use Rattle.group_meetings.proofs.MemberMaterial.{PartIsMaterial}
use Rattle.piece_groups.specs.PieceMembers.{StandsInPiece}

-- a place of a tile has material
pub tile_is_material : (layout : Layout) (tiles : List RegionTile) → AreLayoutTiles layout tiles → (index : ℕ) (place : Place) → LiesIn tiles index place
    → IsMaterial layout place
tile_is_material layout tiles are index place lies space =
    let stands : get_or tiles index lies.tile ≡ lies.tile = get_or_from_slice_get tiles index lies.tile lies.tile lies.there in
    are.material index lies.tile (slice_get_within tiles index lies.tile lies.there)
    (ap (λ (tile : RegionTile). tile.kind.0) stands ∙ sym (are.kinds index place lies) ∙ space)

module _ (raw : RawTech) (others : List SetLayout) (stacks : List PlaneStack) (are : ArePlaneStacks raw others stacks) where
  -- what is said of pieces holds of the piece at an index
  typed_at : (index : ℕ) (piece : PlaneStack) → slice_get stacks index ≡ Some piece → IsTypedStack raw others piece.plane piece.stack
  typed_at index piece there =
      are.each piece
      (subst (λ (one : PlaneStack). In one stacks) (get_or_from_slice_get stacks index piece piece there)
      (In-get_or stacks index piece (slice_get_within stacks index piece there)))

  -- a piece has a place, at its corner
  pub place_of_piece : (index : ℕ) (piece : PlaneStack) → slice_get stacks index ≡ Some piece → (place : Place) × LiesInPiece stacks index place
  place_of_piece index piece there =
      let corner : Square = record { x = piece.stack.area.xlo; y = piece.stack.area.ylo } in (
        on_plane piece.plane corner,
        record {
          piece = piece;
          there = there;
          plane = refl;
          covers = corner_covers piece.stack.area corner (typed_at index piece there).proper refl refl;
        },
      )

  -- a part that has material at a place of a piece stands in the piece
  pub stands_in_piece : (index : ℕ) (place : Place) → LiesInPiece stacks index place → (part : ℕ) → PartIsMaterial raw others part place
      → StandsInPiece stacks index part
  stands_in_piece index place lies part is =
      let piece = lies.piece in
      let kind : joined_at raw is.part place ≡ Some (kind_in piece.stack.kinds part) =
      ap (λ (plane : ℕ). joined_at raw is.part (on_plane plane place.square)) lies.plane
      ∙ (typed_at index piece lies.there).kinds place.square lies.covers part is.part is.there in
      let listed = kind_is_listed piece.stack.kinds part (λ space. is.material (ap or_space kind ∙ space)) in
      record { piece = piece; there = lies.there; entry = listed.entry; listed = listed.listed; is = listed.is }

module _ (Within : Square → Type 0) (raw : RawTech) (parts others : List SetLayout) (restricted : IsRestriction Within parts others) where
  -- the restricted flat layout has material only in the squares that the parts are restricted to
  pub material_is_within : (place : Place) → IsMaterial (parts_layout raw others) place → Within place.square
  material_is_within place material = elim (restricted.decided place.square) [
    | inl within ↦ within
    | inr outside ↦ absurd (material (layout_elsewhere Within parts others restricted raw place outside))
  ]

  -- a part that has material in these squares still has it where it is restricted to them
  pub restricted_is_material : (position : ℕ) (place : Place) → Within place.square → PartIsMaterial raw parts position place
      → PartIsMaterial raw others position place
  restricted_is_material position place within is =
      let below = slice_get_within parts position is.part is.there in
      let other = get_or others position is.part in
      let there = slice_get-get_or others position is.part (omega (arith, below, restricted.count)) in
      let same : other place ≡ is.part place = restricted.inside position is.part other is.there there place within in
      record {
        part = other;
        there = there;
        material = λ space. is.material (ap (λ (set : ℕ). or_space (joined raw place.plane set)) (sym same) ∙ space);
      }

  -- where the restricted flat layout has material some part stands
  pub part_stands_there : (place : Place) → IsMaterial (parts_layout raw others) place → (position : ℕ) × PartStands parts position place
  part_stands_there place material =
      let someone = someone_stands raw others place material in
      let stands = someone.1 in
      let below = slice_get_within others someone.0 stands.part stands.there in
      let part = get_or parts someone.0 stands.part in
      let there = slice_get-get_or parts someone.0 stands.part (omega (arith, below, restricted.count)) in
      let same : stands.part place ≡ part place =
      restricted.inside someone.0 part stands.part there stands.there place (material_is_within place material) in
      (someone.0, record { part = part; there = there; material = λ empty. stands.material (same ∙ empty) })
