-- Members and regions of one mark are of one group, and members and pieces of one group have one mark.
use Rattle.piece_groups.proofs.Common.{◌≡◌, ◌⊎◌, ℕ, ◌+◌, ◌<◌, Bool, List, Some, map, length, slice_get, slice_index, inl, inr, refl, sym, ap, subst}
use Rattle.piece_groups.proofs.Common.{◌∙◌, arith, length-map, slice_get_within, same_Some, In, In-map, In-map_source, Square, RawTech, KeepsRules}
use Rattle.piece_groups.proofs.Common.{IsWellFormed, RegionTile, IsMaterial, Place, PlaneStack, SetLayout, tree_parts, member_is_material}
use Rattle.piece_groups.proofs.Common.{one_of_part, part_of_member, member_at_part, AreMarkedPieces, LiesInPiece}
use Rattle.finite_sets.specs.Chain.{EitherWay}
use Rattle.finite_sets.proofs.Chains.{Chain-one, Chain-carries}
use Rattle.finite_sets.proofs.Places.{one_place}
use Rattle.partition.specs.Divides.{IsPair}
use Rattle.tech_model.specs.Types.{connects}
use Rattle.group_meetings.specs.LayoutModel.Links.{AreOneNode}
use Rattle.group_meetings.specs.LayoutModel.RegionTiles.{regions_of}
use Rattle.group_meetings.specs.TreeRecords.NamedTrees.{NamedTree}
use Rattle.group_meetings.specs.TreeRecords.MemberGroups.{AreOneGroup, IsMemberAt, IsMemberOf}
use Rattle.group_meetings.proofs.TreeNames.GroupNames.{group_then, members_together}
use Rattle.group_meetings.specs.MeetingLaws.PartLayouts.{parts_layout, Passes}
use Rattle.group_meetings.specs.Members.{MeetInRegion}
use Rattle.group_meetings.proofs.GroupRegions.{members_joined}
use Rattle.group_meetings.proofs.RegionLaws.{region_in_group}
use Rattle.piece_groups.specs.MemberLaws.{ClassesAreGroups}
use Rattle.piece_groups.specs.MemberMarks.{region_position, mark_at}
use Rattle.piece_groups.proofs.PlacesOfPieces.{tile_is_material, place_of_piece, stands_in_piece, material_is_within, restricted_is_material}
use Rattle.piece_groups.proofs.PlacesOfPieces.{part_stands_there}

-- The member of this name is listed, and has the mark.
abbrev IsMarked : List (List ℕ) → List ℕ → ℕ → List ℕ → Type 0
IsMarked names marks mark name = (number : ℕ) × (slice_get names number ≡ Some name) × (slice_index marks number ≡ mark)

-- The position in the list of marks is that of a listed member, which has a place of the group.
record IsMemberPosition (raw : RawTech) (tree : NamedTree) (names : List (List ℕ)) (place : Place) (position : ℕ) : Type 0 where
  pub name : List ℕ
  pub there : slice_get names position ≡ Some name
  pub here : Place
  pub has : IsMemberAt raw tree here name
  pub together : AreOneGroup raw tree place here

-- The position is that of the region of a piece, which has a place of the group.
record IsPiecePosition (raw : RawTech) (tree : NamedTree) (stacks : List PlaneStack) (members : ℕ) (tiles : List RegionTile) (place : Place)
    (position : ℕ) : Type 0 where
  pub index : ℕ
  pub is : position ≡ region_position members tiles index
  pub here : Place
  pub lies : LiesInPiece stacks index here
  pub together : AreOneGroup raw tree place here

module _ (raw : RawTech) (formed : IsWellFormed raw) (rules : KeepsRules raw) (within : Square → Bool) (tree : NamedTree) (others : List SetLayout)
    (stacks : List PlaneStack) (names : List (List ℕ)) (pairs : List (ℕ × ℕ)) (tiles : List RegionTile) (count : ℕ) (marks : List ℕ)
    (are : AreMarkedPieces raw within tree others stacks names pairs tiles count marks) where
  abbrev parts : List SetLayout
  parts = tree_parts raw tree

  abbrev members : ℕ
  members = length names

  abbrev position_pair : ℕ × ℕ → ℕ × ℕ
  position_pair pair = (pair.0, region_position members tiles pair.1)

  -- the positions of listed members and of regions are within the list of marks
  number_within : (number : ℕ) (name : List ℕ) → slice_get names number ≡ Some name → number < length marks
  number_within number name there = omega (arith, slice_get_within names number name there, are.marks.long)

  region_within : (index : ℕ) (place : Place) → LiesInPiece stacks index place → region_position members tiles index < length marks
  region_within index place lies =
      let in_tile = (are.one_each index place).0 lies in
      let below = slice_get_within tiles index in_tile.tile in_tile.there in
      let low : slice_index (regions_of tiles) index < count =
      are.regions.numbered.below index 0 (omega (arith, below, length-map tiles (λ (tile : RegionTile). tile.region))) in
      omega (arith, low, are.marks.long)

  -- a piece lies where the restricted flat layout has material, and each such place is in a piece
  piece_is_material : (index : ℕ) (place : Place) → LiesInPiece stacks index place → IsMaterial (parts_layout raw others) place
  piece_is_material index place lies =
      tile_is_material (parts_layout raw others) tiles are.regions.are_tiles index place ((are.one_each index place).0 lies)

  piece_at : (place : Place) → IsMaterial (parts_layout raw others) place → (index : ℕ) × LiesInPiece stacks index place
  piece_at place material =
      let found = are.regions.are_tiles.every place material in (found.0, (are.one_each found.0 place).1 found.1)

  -- pieces that links of the restricted flat layout join have one region, and the other way round
  one_region : (i j : ℕ) (a b : Place) → LiesInPiece stacks i a → LiesInPiece stacks j b → AreOneNode (connects raw) (parts_layout raw others) a b
      → slice_index (regions_of tiles) i ≡ slice_index (regions_of tiles) j
  one_region i j a b here there joined =
      (are.regions.joined i j a b ((are.one_each i a).0 here) ((are.one_each j b).0 there)).1 joined

  region_together : (i j : ℕ) (a b : Place) → LiesInPiece stacks i a → LiesInPiece stacks j b
      → region_position members tiles i ≡ region_position members tiles j → AreOneGroup raw tree a b
  region_together i j a b here there same =
      let region : slice_index (regions_of tiles) i ≡ slice_index (regions_of tiles) j = omega (arith, same) in
      region_in_group (Passes within) raw tree others are.restricted.restricted a b
      ((are.regions.joined i j a b ((are.one_each i a).0 here) ((are.one_each j b).0 there)).0 region)

  -- a member that has a place of a piece is listed, and stands in the piece
  pair_at : (index : ℕ) (place : Place) (member : List ℕ) → LiesInPiece stacks index place → IsMemberAt raw tree place member
      → (number : ℕ) × (slice_get names number ≡ Some member) × In {X = ℕ × ℕ} (number, index) pairs
  pair_at index place member lies has =
      let of = part_of_member raw tree place member has in
      let whole = member_is_material raw formed rules tree are.clean.typed are.clean.clean of.0 place member of.1 in
      let inside = material_is_within (Passes within) raw parts others are.restricted.restricted place (piece_is_material index place lies) in
      let is = restricted_is_material (Passes within) raw parts others are.restricted.restricted of.0 place inside whole in
      let found = are.names.whole index of.0 (stands_in_piece raw others stacks are.stacks index place lies of.0 is) in
      let same : found.2.name ≡ member = one_of_part raw tree of.0 place found.2.name member (found.2.is.has place lies) of.1 in
      (found.0, found.2.there ∙ ap (λ (name : List ℕ). Some name) same, found.1)

  -- and so it has the mark of the piece
  marked_in_piece : (index : ℕ) (place : Place) (member : List ℕ) → LiesInPiece stacks index place → IsMemberAt raw tree place member
      → IsMarked names marks (mark_at members tiles marks index) member
  marked_in_piece index place member lies has =
      let found = pair_at index place member lies has in
      let pair : IsPair (map position_pair pairs) found.0 (region_position members tiles index) =
      In-map position_pair (found.0, index) pairs found.2 in (
        found.0,
        found.1,
        (are.marks.divides found.0 (region_position members tiles index) (number_within found.0 member found.1) (region_within index place lies)).1
            (Chain-one (inl pair)),
      )

  -- a listed member has one number, and so one mark
  one_mark : (i j : ℕ) (name : List ℕ) → slice_get names i ≡ Some name → slice_get names j ≡ Some name → slice_index marks i ≡ slice_index marks j
  one_mark i j name here there = ap (slice_index marks) (one_place names i j name are.names.distinct here there)

  -- the second of two members that meet in a region has the mark of the first
  mark_along : (mark : ℕ) (first second : List ℕ) → MeetInRegion raw tree others first second → IsMarked names marks mark first
      → IsMarked names marks mark second
  mark_along mark first second meet is =
      let material : IsMaterial (parts_layout raw others) meet.there =
      Chain-carries (IsMaterial (parts_layout raw others)) (λ a b link from. link.there) meet.joined meet.material in
      let here = piece_at meet.here meet.material in
      let there = piece_at meet.there material in
      let one = marked_in_piece here.0 meet.here first here.1 meet.first_has in
      let other = marked_in_piece there.0 meet.there second there.1 meet.second_has in
      let region = one_region here.0 there.0 meet.here meet.there here.1 there.1 meet.joined in
      let same : mark_at members tiles marks here.0 ≡ mark_at members tiles marks there.0 = ap (λ (n : ℕ). slice_index marks (members + n)) region in
      (other.0, other.1, other.2 ∙ sym same ∙ sym one.2 ∙ one_mark one.0 is.0 first one.1 is.1 ∙ is.2)

  -- the members of the group of a place at which a listed member stands have its mark
  group_is_marked : (number : ℕ) (name : List ℕ) (place : Place) → slice_get names number ≡ Some name → IsMemberAt raw tree place name
      → (other : List ℕ) → IsMemberOf raw tree place other → IsMarked names marks (slice_index marks number) other
  group_is_marked number name place there has other is =
      Chain-carries (IsMarked names marks (slice_index marks number)) (mark_along (slice_index marks number))
      (members_joined raw formed rules within tree others are.restricted are.members place is.0 name other has is.2 is.1) (number, there, refl)

  -- and so have the pieces of the group
  piece_is_marked : (number index : ℕ) (name : List ℕ) (place here : Place) → slice_get names number ≡ Some name → IsMemberAt raw tree place name
      → LiesInPiece stacks index here → AreOneGroup raw tree place here → mark_at members tiles marks index ≡ slice_index marks number
  piece_is_marked number index name place here there has lies together =
      let some = part_stands_there (Passes within) raw parts others are.restricted.restricted here (piece_is_material index here lies) in
      let member = are.members some.0 here some.1 in
      let at = member_at_part raw tree some.0 here member.0 member.1 in
      let marked = group_is_marked number name place there has member.0 (here, together, at) in
      let in_piece = marked_in_piece index here member.0 lies at in
      sym in_piece.2 ∙ one_mark in_piece.0 marked.0 member.0 in_piece.1 marked.1 ∙ marked.2

  -- The position is that of a member, or of the region of a piece, with a place of the group.
  abbrev IsOfGroup : Place → ℕ → Type 0
  IsOfGroup place position = IsMemberPosition raw tree names place position ⊎ IsPiecePosition raw tree stacks members tiles place position

  -- the pieces in which a member of the group stands are of the group
  to_piece : (place : Place) (number index : ℕ) → In {X = ℕ × ℕ} (number, index) pairs → IsMemberPosition raw tree names place number
      → IsPiecePosition raw tree stacks members tiles place (region_position members tiles index)
  to_piece place number index listed of =
      let found = are.names.sound number index listed in
      let is = found.1 in
      let at = place_of_piece raw others stacks are.stacks index is.is.stands.piece is.is.stands.there in
      let same : is.name ≡ of.name = same_Some is.name of.name (sym is.there ∙ of.there) in
      let has : IsMemberAt raw tree at.0 of.name =
      subst (IsMemberAt raw tree at.0) same (member_at_part raw tree found.0 at.0 is.name (is.is.has at.0 at.1)) in
      record {
        index = index;
        is = refl;
        here = at.0;
        lies = at.1;
        together = group_then raw tree place of.here at.0 of.together (members_together raw formed tree are.clean of.here at.0 of.name of.has has);
      }

  -- and so are the members that stand in pieces of a region of the group
  to_member : (place : Place) (number index : ℕ) → In {X = ℕ × ℕ} (number, index) pairs
      → IsPiecePosition raw tree stacks members tiles place (region_position members tiles index) → IsMemberPosition raw tree names place number
  to_member place number index listed of =
      let found = are.names.sound number index listed in
      let is = found.1 in
      let at = place_of_piece raw others stacks are.stacks index is.is.stands.piece is.is.stands.there in
      record {
        name = is.name;
        there = is.there;
        here = at.0;
        has = member_at_part raw tree found.0 at.0 is.name (is.is.has at.0 at.1);
        together = group_then raw tree place of.here at.0 of.together (region_together of.index index of.here at.0 of.lies at.1 (sym of.is));
      }

  -- no position is that of a member and of a region
  member_or_region : (number index : ℕ) (name : List ℕ) → slice_get names number ≡ Some name → number ≡ region_position members tiles index → ⊥
  member_or_region number index name there is = let below = slice_get_within names number name there in omega (arith, below, is)

  -- a pair joins positions of one group
  along_pair : (place : Place) (a b : ℕ) → EitherWay (IsPair (map position_pair pairs)) a b → IsOfGroup place a → IsOfGroup place b
  along_pair place a b (inl pair) of =
      let source = In-map_source position_pair (a, b) pairs pair in
      let number : source.0.0 ≡ a = ap (λ (p : ℕ × ℕ). p.0) source.1.1 in
      let region : region_position members tiles source.0.1 ≡ b = ap (λ (p : ℕ × ℕ). p.1) source.1.1 in
      let listed = (are.names.sound source.0.0 source.0.1 source.1.0).1 in
      elim of [
        | inl member ↦ inr (subst (IsPiecePosition raw tree stacks members tiles place) region
            (to_piece place source.0.0 source.0.1 source.1.0 (subst (IsMemberPosition raw tree names place) (sym number) member)))
        | inr piece ↦ absurd (member_or_region source.0.0 piece.index listed.name listed.there (number ∙ piece.is))
      ]
  along_pair place a b (inr pair) of =
      let source = In-map_source position_pair (b, a) pairs pair in
      let number : source.0.0 ≡ b = ap (λ (p : ℕ × ℕ). p.0) source.1.1 in
      let region : region_position members tiles source.0.1 ≡ a = ap (λ (p : ℕ × ℕ). p.1) source.1.1 in
      elim of [
        | inl member ↦ absurd (member_or_region a source.0.1 member.name member.there (sym region))
        | inr piece ↦ inl (subst (IsMemberPosition raw tree names place) number
            (to_member place source.0.0 source.0.1 source.1.0 (subst (IsPiecePosition raw tree stacks members tiles place) (sym region) piece)))
      ]

  -- what has the mark of a listed member is of the group of each place at which the member stands
  of_mark : (number : ℕ) (name : List ℕ) (place : Place) → slice_get names number ≡ Some name → IsMemberAt raw tree place name
      → (position : ℕ) → position < length marks → slice_index marks position ≡ slice_index marks number → IsOfGroup place position
  of_mark number name place there has position below same =
      Chain-carries (IsOfGroup place) (along_pair place)
      ((are.marks.divides number position (number_within number name there) below).0 (sym same))
      (inl (record {
        name = name;
        there = there;
        here = place;
        has = has;
        together = members_together raw formed tree are.clean place place name has has;
      }))

  -- a member with the mark is of the group
  marked_is_of_group : (number : ℕ) (name : List ℕ) (place : Place) → slice_get names number ≡ Some name → IsMemberAt raw tree place name
      → (other : List ℕ) → IsMarked names marks (slice_index marks number) other → IsMemberOf raw tree place other
  marked_is_of_group number name place there has other is =
      elim (of_mark number name place there has is.0 (number_within is.0 other is.1) is.2) [
        | inr piece ↦ absurd (member_or_region is.0 piece.index other is.1 piece.is)
        | inl member ↦
            let same : member.name ≡ other = same_Some member.name other (sym member.there ∙ is.1) in
            (member.here, member.together, subst (IsMemberAt raw tree member.here) same member.has)
      ]

  -- and so is a piece with the mark
  marked_piece_is_of_group : (number index : ℕ) (name : List ℕ) (place here : Place) → slice_get names number ≡ Some name
      → IsMemberAt raw tree place name → LiesInPiece stacks index here → mark_at members tiles marks index ≡ slice_index marks number
      → AreOneGroup raw tree place here
  marked_piece_is_of_group number index name place here there has lies same =
      elim (of_mark number name place there has (region_position members tiles index) (region_within index here lies) same) [
        | inl member ↦ absurd (member_or_region (region_position members tiles index) index member.name member.there refl)
        | inr piece ↦ group_then raw tree place piece.here here piece.together
            (region_together piece.index index piece.here here piece.lies lies (sym piece.is))
      ]

-- the law, of any cell
pub marks_tell_groups : (raw : RawTech) → ClassesAreGroups raw
marks_tell_groups raw formed rules within tree others stacks names pairs tiles count marks are = record {
  members = λ number name place there has other. (
    group_is_marked raw formed rules within tree others stacks names pairs tiles count marks are number name place there has other,
    marked_is_of_group raw formed rules within tree others stacks names pairs tiles count marks are number name place there has other,
  );
  pieces = λ number index name place here there has lies. (
    marked_piece_is_of_group raw formed rules within tree others stacks names pairs tiles count marks are number index name place here there has lies,
    piece_is_marked raw formed rules within tree others stacks names pairs tiles count marks are number index name place here there has lies,
  );
}
