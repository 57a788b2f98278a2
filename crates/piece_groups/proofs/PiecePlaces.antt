-- The pieces at which the parts of a cell meet, and the members that are listed in them.
use Rattle.piece_groups.proofs.Common.{◌≡◌, ℕ, Bool, List, slice_get, sym, ap, subst, ◌∙◌, same_Some, slice_get_within, Square, RawTech, KeepsRules}
use Rattle.piece_groups.proofs.Common.{IsWellFormed, RegionTile, IsMaterial, Place, PlaneStack, SetLayout, NamedTree, flat_layout, IsMemberAt}
use Rattle.piece_groups.proofs.Common.{Passes, tree_parts, flat_is_of_parts, member_at_part, part_of_member, member_is_material, one_of_part}
use Rattle.piece_groups.proofs.Common.{AreMarkedPieces, LiesInPiece}
use Rattle.std.specs.Prelude.{Some}
use Rattle.piece_groups.specs.MeetingLaws.PartLayouts.{parts_layout}
use Rattle.piece_groups.proofs.MeetingLaws.RestrictionLaws.{layout_inside}
use Rattle.group_meetings.specs.Members.{IsMemberOfPart}
use Rattle.group_meetings.proofs.MemberMaterial.{flat_of_part}
use Rattle.piece_groups.proofs.PlacesOfPieces.{tile_is_material, place_of_piece, stands_in_piece, material_is_within, restricted_is_material}

module _ (raw : RawTech) (formed : IsWellFormed raw) (rules : KeepsRules raw) (within : Square → Bool) (tree : NamedTree) (others : List SetLayout)
    (stacks : List PlaneStack) (names : List (List ℕ)) (pairs : List (ℕ × ℕ)) (tiles : List RegionTile) (count : ℕ) (marks : List ℕ)
    (pieces : AreMarkedPieces raw within tree others stacks names pairs tiles count marks) where
  abbrev parts : List SetLayout
  parts = tree_parts raw tree

  -- pieces lie in the squares at which parts meet
  pub piece_is_within : (index : ℕ) (place : Place) → LiesInPiece stacks index place → Passes within place.square
  piece_is_within index place lies =
      material_is_within (Passes within) raw parts others pieces.restricted.restricted place
      (tile_is_material (parts_layout raw others) tiles pieces.regions.are_tiles index place ((pieces.one_each index place).0 lies))

  -- and each place of these squares at which the flat layout has material lies in a piece
  pub piece_at : (place : Place) → IsMaterial (flat_layout raw tree) place → Passes within place.square
      → (index : ℕ) × LiesInPiece stacks index place
  piece_at place material inside =
      let same = layout_inside (Passes within) parts others pieces.restricted.restricted raw place inside in
      let found = pieces.regions.are_tiles.every place (λ space. material (flat_is_of_parts raw tree place ∙ sym same ∙ space)) in
      (found.0, (pieces.one_each found.0 place).1 found.1)

  -- a member of a part with a place in these squares is listed
  part_is_listed : (position : ℕ) (place : Place) (member : List ℕ) → IsMemberOfPart raw tree position place member
      → Passes within place.square → (number : ℕ) × (slice_get names number ≡ Some member)
  part_is_listed position place member is inside =
      let clean = pieces.clean in
      let whole = member_is_material raw formed rules tree clean.typed clean.clean position place member is in
      let at = piece_at place (flat_of_part raw tree clean.clean position place whole) inside in
      let part = restricted_is_material (Passes within) raw parts others pieces.restricted.restricted position place inside whole in
      let listed = pieces.names.whole at.0 position (stands_in_piece raw others stacks pieces.stacks at.0 place at.1 position part) in
      let numbered = listed.2 in
      let same : numbered.name ≡ member = one_of_part raw tree position place numbered.name member (numbered.is.has place at.1) is in
      (listed.0, numbered.there ∙ ap (λ (name : List ℕ). Some name) same)

  -- and so is each member with such a place
  pub member_is_listed : (place : Place) (member : List ℕ) → IsMemberAt raw tree place member → Passes within place.square
      → (number : ℕ) × (slice_get names number ≡ Some member)
  member_is_listed place member has inside =
      let of = part_of_member raw tree place member has in part_is_listed of.0 place member of.1 inside

  -- a listed member has a place
  pub listed_has_place : (number : ℕ) (name : List ℕ) → slice_get names number ≡ Some name → (place : Place) × IsMemberAt raw tree place name
  listed_has_place number name there =
      let used = pieces.names.used number (slice_get_within names number name there) in
      let found = pieces.names.sound number used.0 used.1 in
      let numbered = found.1 in
      let stands = numbered.is.stands in
      let at = place_of_piece raw others stacks pieces.stacks used.0 stands.piece stands.there in
      let same : numbered.name ≡ name = same_Some numbered.name name (sym numbered.there ∙ there) in
      (at.0, subst (IsMemberAt raw tree at.0) same (member_at_part raw tree found.0 at.0 numbered.name (numbered.is.has at.0 at.1)))
