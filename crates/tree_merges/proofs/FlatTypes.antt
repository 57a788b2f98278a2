-- The flat type of each piece of a clean cell is one of the technology, and of the piece's plane.
use Rattle.tree_merges.proofs.Common.{◌≡◌, ℕ, suc, zero, List, [], ◌∷◌, length, get_or, Option, Some, None, inl, inr, refl, sym, ap, subst, ◌∙◌}
use Rattle.tree_merges.proofs.Common.{arith, slice_get, slice_get-get_or, In, All-In, Covers, RawTech, Place, CellTree, parts_in, PlaneStack}
use Rattle.tree_merges.proofs.Common.{SetLayout, IsClean, AreMeetingPieces, HasCoveringTiles, tile_of, tiles_of, PartTile}
use Rattle.std.proofs.Common.{◌≢◌}
use Rattle.std.specs.Prelude.{IsTrue, bit_or, unwrap_or}
use Rattle.std.specs.Int.{bit_at}
use Rattle.std.specs.Option.{option_map}
use Rattle.geo_core.specs.declared.squares.Square.{Square}
use Rattle.geo_core.specs.Areas.{corner_of}
use Rattle.geo_core.proofs.CornerLaws.{corner_covers}
use Rattle.tech_model.specs.declared.raw.TypeId.{TypeId}
use Rattle.tech_model.specs.Types.{is_type, joined, parts_of, plane_of, type_number}
use Rattle.tech_model.proofs.JoinedLaws.{joined-found}
use Rattle.tech_model.proofs.SetLaws.{or_bit_left, or_bit_right}
use Rattle.offences.specs.Changes.{number_of}
use Rattle.offences.specs.Offences.{Offends, flat_type, union_of}
use Rattle.offences.specs.TypedStacks.{IsTypedStack, on_plane}
use Rattle.offences.proofs.KindLaws.{kind_in-listed}
use Rattle.offences.proofs.UnionLaws.{no_part, same_sets}
use Rattle.hierarchy_model.specs.Restrictions.{IsRestriction, PartStands}
use Rattle.hierarchy_model.proofs.CleanLaws.{flat_defined}
use Rattle.hierarchy_model.proofs.PartSearch.{flat_of_none, kind_stands}
use Rattle.piece_groups.specs.MeetingSums.LowerMeetingLaws.PartLayouts.{Passes}
use Rattle.piece_groups.proofs.MeetingSums.LowerMeetingLaws.RestrictionLaws.{none_elsewhere}
use Rattle.flood_nodes.specs.Stacking.{AreTyped}
use Rattle.hier_merge.proofs.MeetingOffences.{places_of_clean}
use Rattle.tree_merges.proofs.PieceTiles.{all_tiles}

-- ---- what all parts have together

-- where the parts are the same, what they have together is
union_same : (parts others : List SetLayout) (place : Place) → length others ≡ length parts
    → ((position : ℕ) (part other : SetLayout) → slice_get parts position ≡ Some part → slice_get others position ≡ Some other → other place ≡ part place)
    → union_of others place ≡ union_of parts place
union_same [] [] place count same = refl
union_same [] (other ∷ others) place count same = absurd (omega (arith, count))
union_same (part ∷ parts) [] place count same = absurd (omega (arith, count))
union_same (part ∷ parts) (other ∷ others) place count same =
    ap (λ (set : ℕ). bit_or set (union_of others place)) (same zero part other refl refl)
    ∙ ap (bit_or (part place))
    (union_same parts others place (omega (arith, count)) (λ position p o there also. same (suc position) p o there also))

-- what a part has all have together
union_has : (parts : List SetLayout) (place : Place) (position : ℕ) (part : SetLayout) → slice_get parts position ≡ Some part → (i : ℕ)
    → bit_at (part place) i ≡ 1 → bit_at (union_of parts place) i ≡ 1
union_has [] place position part there i has = cc
union_has (first ∷ parts) place zero part there i has =
    or_bit_left (first place) (union_of parts place) i
    (ap (λ (one : SetLayout). bit_at (one place) i) (some_is first part there) ∙ has)
  where
    some_is : (a b : SetLayout) → Some a ≡ Some b → a ≡ b
    some_is a b same = cc
union_has (first ∷ parts) place (suc position) part there i has =
    or_bit_right (first place) (union_of parts place) i (union_has parts place position part there i has)

-- where a part stands, all together are something
union_is_some : (parts : List SetLayout) (position : ℕ) (place : Place) → PartStands parts position place → union_of parts place ≢ 0
union_is_some parts position place stands empty =
    stands.material
    (same_sets (stands.part place) 0
    (λ i has. absurd (no_part i
    (ap (λ (set : ℕ). bit_at set i) (sym empty) ∙ union_has parts place position stands.part stands.there i has)))
    (λ i has. absurd (no_part i has)))

module _ (raw : RawTech) (Within : Square → Type 0) (parts others : List SetLayout) (restricted : IsRestriction Within parts others)
    (fine : (place : Place) → Offends raw parts place → ⊥) where
  -- where no place of the parts offends, the flat type of the restricted parts is defined
  restricted_flat : (place : Place) → (flat : ℕ) × (flat_type raw others place ≡ Some flat)
  restricted_flat place = elim (restricted.decided place.square) [
    | inl within ↦
        let flat = flat_defined raw parts place (fine place) in (
          flat.0,
          ap (joined raw place.plane)
              (union_same parts others place restricted.count
              (λ position part other there also. restricted.inside position part other there also place within))
              ∙ flat.1,
        )
    | inr outside ↦ (0, flat_of_none raw others place (none_elsewhere Within parts others restricted raw place outside))
  ]

  -- a type that is defined where a part stands is one of the technology, and of the plane
  type_there : (plane position flat : ℕ) (square : Square) → PartStands others position (on_plane plane square)
      → flat_type raw others (on_plane plane square) ≡ Some flat → IsTrue (is_type raw flat) × (plane_of raw flat ≡ plane)
  type_there plane position flat square stands is =
      let found = joined-found raw plane (union_of others (on_plane plane square)) flat is in
      elim found.1 [
        | inl space ↦ absurd (union_is_some others position (on_plane plane square) stands (sym found.0 ∙ ap (parts_of raw) space))
        | inr typed ↦ typed
      ]

  module _ (tiles : List PartTile) (piece : PlaneStack) (is : IsTypedStack raw others piece.plane piece.stack)
      (covering : HasCoveringTiles tiles piece) where
    abbrev corner : Square
    corner = corner_of piece.stack.area

    corner_in : Covers piece.stack.area corner
    corner_in = corner_covers piece.stack.area corner is.proper refl refl

    -- some part stands at the corner of a piece
    someone_there : (position : ℕ) × PartStands others position (on_plane piece.plane corner)
    someone_there =
        let member = some_member piece.stack.members covering.some in
        let covers = covering.each member.0 member.1 in
        let entry = covers.entry in
        let none : SetLayout = λ place. 0 in
        let part = get_or others entry.part none in
        let there = slice_get-get_or others entry.part none (is.within entry covers.listed) in (
          entry.part,
          kind_stands raw others entry.part (on_plane piece.plane corner) entry.kind.0
              (record {
                part = part;
                there = there;
                is = is.kinds corner corner_in entry.part part there
                    ∙ ap (λ (kind : ℕ). Some kind) (kind_in-listed piece.stack.kinds is.ordered entry covers.listed);
              })
              (is.material entry covers.listed),
        )
      where
        some_member : (members : List ℕ) → members ≢ [] → (member : ℕ) × In member members
        some_member [] some = absurd (some refl)
        some_member (member ∷ members) some = (member, inl refl)

    -- the type of the piece as a tile is one of the technology, and of its plane
    pub typed_piece : IsTrue (is_type raw (tile_of piece).kind.0) × (plane_of raw (tile_of piece).kind.0 ≡ piece.plane)
    typed_piece =
        let flat = restricted_flat (on_plane piece.plane corner) in
        let told : option_map number_of piece.stack.flat ≡ Some flat.0 = sym (is.flat corner corner_in) ∙ flat.1 in
        let stands = someone_there in
        subst (λ (kind : ℕ). IsTrue (is_type raw kind) × (plane_of raw kind ≡ piece.plane)) (sym (kind_told piece.stack.flat flat.0 told))
        (type_there piece.plane stands.0 flat.0 corner stands.1 flat.1)
      where
        kind_told : (flat : Option TypeId) (kind : ℕ) → option_map number_of flat ≡ Some kind → (unwrap_or flat (type_number 0)).0 ≡ kind
        kind_told None kind told = cc
        kind_told (Some type) kind told = cc

-- the pieces of a clean cell have types
pub pieces_are_typed : (raw : RawTech) (tree : CellTree) (tiles : List PartTile) (stacks : List PlaneStack) → IsClean raw tree
    → AreMeetingPieces raw tree tiles stacks → AreTyped raw (tiles_of stacks)
pieces_are_typed raw tree tiles stacks clean pieces =
    all_tiles (λ tile. IsTrue (is_type raw tile.kind.0) × (plane_of raw tile.kind.0 ≡ tile.plane)) stacks
    (λ piece among.
    typed_piece raw (Passes pieces.within) (parts_in raw tree) pieces.others pieces.restricted (places_of_clean raw tree clean) tiles piece
    (pieces.pieces.each piece among) (All-In (HasCoveringTiles tiles) stacks piece pieces.covered among))
