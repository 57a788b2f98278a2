-- The tiles that cover the pieces at which the parts of a cell meet.
use Rattle.hier_merge.proofs.Common.{◌≡◌, ◌≢◌, ◌⊎◌, ◌<◌, ℕ, suc, List, [], ◌∷◌, length, map, inl, inr, refl, sym, ap, subst, ◌∙◌, arith, Some}
use Rattle.hier_merge.proofs.Common.{slice_get, All, bit_at, cases_Bool, cases_eq, false≢true, length-map-range_with_len, slice_get_within, In}
use Rattle.hier_merge.proofs.Common.{In-append_cases, In-map_source, All-In, Square, IsNear, Covers, is_covered, Covers-is_covered}
use Rattle.hier_merge.proofs.Common.{is_covered-Covers, strip_is_proper, strip_within, RawTech, joined, parts_of, IsWellFormed, HasTypesOf, Place}
use Rattle.hier_merge.proofs.Common.{CellTree, Elements, cell_tree, no_elements, element_and, AreTyped, IsTyped, SetTile, TypedStack, tile_part}
use Rattle.hier_merge.proofs.Common.{AreTypedStacks, IsTypedStack, on_plane, part_bit, part_kept, no_part, same_sets, PartTile, set_of_tiles}
use Rattle.hier_merge.proofs.Common.{HasTiles, AreOfParts, set_tile, tiles_on}
use Rattle.finite_sets.proofs.Places.{In-slice_get, slice_get-In, slice_get-one}
use Rattle.geo_core.specs.Areas.{corner_of}
use Rattle.geo_core.proofs.CornerLaws.{corner_covers}
use Rattle.tech_model.specs.Types.{is_type, plane_of}
use Rattle.tech_model.proofs.JoinedLaws.{joined-found}
use Rattle.tech_model.proofs.SetLaws.{set_not_empty}
use Rattle.cell_library.specs.LayoutModel.CellTrees.{Standing, standings, standings_from, under}
use Rattle.meeting_laws.specs.Offences.TypedStacks.{kind_in}
use Rattle.meeting_laws.proofs.Offences.KindLaws.{kind_in-listed, kind_is_listed}
use Rattle.meeting_laws.proofs.HierarchyModel.KindLaws.{material_set}
use Rattle.hier_merge.specs.MeetingPieces.{CoversPiece, HasCoveringTiles, IsPartTile}
use Rattle.hier_merge.proofs.MeetingBoxes.{parts_of_tiles}
use Rattle.hier_merge.proofs.NumberedParts.{stands_made}
use Rattle.hier_merge.proofs.PlaneTiles.{from_tiles, on_tiles, set_on_plane}

-- ---- types of tiles

mutual
  -- each own layout of a typed tree has types of the technology
  standing_typed : (raw : RawTech) (tree : CellTree) → IsTyped raw tree → (standing : Standing) → In standing (standings tree)
      → HasTypesOf raw standing.own.layout
  standing_typed raw (cell_tree own uses) typed standing (inl same) =
      subst (λ (s : Standing). HasTypesOf raw s.own.layout) same typed.0
  standing_typed raw (cell_tree own uses) typed standing (inr below) = standings_typed raw uses typed.1 1 standing below

  standings_typed : (raw : RawTech) (elements : Elements) → AreTyped raw elements → (part : ℕ) (standing : Standing)
      → In standing (standings_from part elements) → HasTypesOf raw standing.own.layout
  standings_typed raw no_elements typed part standing among = absurd among
  standings_typed raw (element_and placed tree rest) typed part standing among =
      elim (In-append_cases standing (map (under part placed) (standings tree)) (standings_from (suc part) rest) among) [
        | inl first ↦
            let source = In-map_source (under part placed) standing (standings tree) first in
            subst (λ (s : Standing). HasTypesOf raw s.own.layout) source.1.1 (standing_typed raw tree typed.0 source.0 source.1.0)
        | inr later ↦ standings_typed raw rest typed.1 (suc part) standing later
      ]

-- The type of a part tile is the technology's and of its plane, so its set is not empty.
pub record HasTileType (raw : RawTech) (tile : PartTile) : Type 0 where
  pub is : plane_of raw tile.kind.0 ≡ tile.plane
  pub plane : tile.plane < length raw.planes
  pub some : parts_of raw tile.kind.0 ≢ 0

pub tile_type : (raw : RawTech) (tree : CellTree) → IsWellFormed raw → IsTyped raw tree → (tile : PartTile) → IsPartTile tree tile → HasTileType raw tile
tile_type raw tree formed typed tile part =
    let is = part.1 in
    let own = is.standing.own.layout in
    let Kind : Square → Type 0 = λ square. own (record { plane = tile.plane; square = square }) ≡ tile.kind.0 in
    let corner = corner_of is.strip in
    let covers = corner_covers is.strip corner (strip_is_proper Kind is.strip is.is_strip) refl refl in
    let here : Kind corner = strip_within Kind is.strip is.is_strip corner.x corner.y covers in
    let place : Place = record { plane = tile.plane; square = corner } in
    let type = standing_typed raw tree typed is.standing (In-slice_get (standings tree) tile.element is.standing is.there) place
    (λ space. is.material (sym here ∙ space)) in
    let known : is_type raw tile.kind.0 ≡ is_type raw (own place) = ap (is_type raw) (sym here) in
    let same : plane_of raw tile.kind.0 ≡ tile.plane = ap (plane_of raw) (sym here) ∙ type.1 in
    record {
      is = same;
      plane = subst (λ (p : ℕ). p < length raw.planes) same (formed.type_planes tile.kind.0 (known ∙ type.0));
      some = set_not_empty raw tile.kind.0 formed (known ∙ type.0);
    }

-- ---- what a tile makes of its part

module _ (raw : RawTech) (tiles : List PartTile) (plane : ℕ) where
  abbrev here : List SetTile
  here = tiles_on raw plane tiles

  -- where a tile of the plane with a set covers a place its part has something
  tile_makes : (tile : PartTile) (square : Square) → In tile tiles → tile.plane ≡ plane → Covers tile.area square → parts_of raw tile.kind.0 ≢ 0
      → tile_part here plane tile.part (on_plane plane square) ≢ 0
  tile_makes tile square listed on covers some empty =
      some (same_sets (parts_of raw tile.kind.0) 0
      (λ i bit. subst (λ (s : ℕ). bit_at s i ≡ 1) empty (part_kept here plane tile.part (on_plane plane square) i (record {
        tile = set_tile raw tile;
        listed = on_tiles raw plane tiles tile listed on;
        of_part = refl;
        same_plane = refl;
        covers = covers;
        bit = bit;
      })))
      (λ i bit. absurd (no_part i bit)))

  -- where a part has something one of some tiles covers the place, if all that cover it are among these
  tile_there : (members : List ℕ) (part : ℕ) (square : Square)
      → ((number : ℕ) → In number members → (tile : PartTile) × (slice_get tiles number ≡ Some tile))
      → ((number : ℕ) (tile : PartTile) → slice_get tiles number ≡ Some tile → tile.plane ≡ plane → Covers tile.area square → In number members)
      → tile_part here plane part (on_plane plane square) ≢ 0
      → (number : ℕ) × In number members × ((tile : PartTile) → slice_get tiles number ≡ Some tile → tile.part ≡ part)
  tile_there members part square there all some = elim (search members there) [
    | inl found ↦ found
    | inr none ↦ absurd (some (same_sets (tile_part here plane part (on_plane plane square)) 0
        (λ i bit.
        let has = part_bit here plane part (on_plane plane square) i bit in
        let from = from_tiles raw plane tiles has.tile has.listed in
        let at = slice_get-In from.0 tiles from.1.0 in
        absurd (none at.0 from.0
        (all at.0 from.0 at.1 from.2 (subst (λ (t : SetTile). Covers t.area square) (sym from.1.1) has.covers)) at.1
        (ap (λ (t : SetTile). t.part) from.1.1 ∙ has.of_part)))
        (λ i bit. absurd (no_part i bit))))
  ]
    where
      search : (list : List ℕ) → ((number : ℕ) → In number list → (tile : PartTile) × (slice_get tiles number ≡ Some tile))
          → ((number : ℕ) × In number list × ((tile : PartTile) → slice_get tiles number ≡ Some tile → tile.part ≡ part))
          ⊎ ((number : ℕ) (tile : PartTile) → In number list → slice_get tiles number ≡ Some tile → tile.part ≡ part → ⊥)
      search [] at = inr (λ number tile among is same. among)
      search (number ∷ list) at =
          let here = at number (inl refl) in
          elim (cases_eq here.0.part part) [
            | inl same ↦ inl (
              number,
              inl refl,
              (λ tile is. ap (λ (t : PartTile). t.part) (slice_get-one tiles number tile here.0 is here.1) ∙ same),
            )
            | inr differ ↦ elim (search list (λ other among. at other (inr among))) [
              | inl found ↦ inl (found.0, inr found.1, found.2)
              | inr none ↦ inr (λ other tile among is same. elim among [
                | inl first ↦
                    differ (ap (λ (t : PartTile). t.part) (slice_get-one tiles number here.0 tile here.1 (ap (slice_get tiles) first ∙ is)) ∙ same)
                | inr later ↦ none other tile later is same
              ])
            ]
          ]

-- ---- pieces and the tiles that cover them

module _ (raw : RawTech) (tree : CellTree) (formed : IsWellFormed raw) (typed : IsTyped raw tree) (tiles : List PartTile)
    (are : All (IsPartTile tree) tiles) (count : ℕ) (of_parts : AreOfParts count tiles) (plane : ℕ) where
  part_below : (tile : PartTile) → In tile tiles → tile.part < count
  part_below tile listed = (All-In (λ (t : PartTile). (t.part < count) × IsNear t.area) tiles tile of_parts listed).0

  type_of : (tile : PartTile) → In tile tiles → HasTileType raw tile
  type_of tile listed = tile_type raw tree formed typed tile (All-In (IsPartTile tree) tiles tile are listed)

  module _ (piece : TypedStack) (is : IsTypedStack raw (parts_of_tiles raw tiles count) plane piece) (has : HasTiles tiles 0 (length tiles) plane piece) where
    abbrev corner : Square
    corner = corner_of piece.area

    corner_in : Covers piece.area corner
    corner_in = corner_covers piece.area corner is.proper refl refl

    kind_there : (part : ℕ) → part < count → joined raw plane (set_of_tiles raw tiles part (on_plane plane corner)) ≡ Some (kind_in piece.kinds part)
    kind_there part below = is.kinds corner corner_in part (set_of_tiles raw tiles part) (stands_made (set_of_tiles raw tiles) count part below)

    -- a member covers the piece, and its part has material there
    covering : (number : ℕ) → In number piece.members → CoversPiece tiles (record { plane = plane; stack = piece }) number
    covering number among =
        let of = has.each number among in
        let tile = of.tile in
        let listed : In tile tiles = In-slice_get tiles number tile of.there in
        let some : tile_part (tiles_on raw plane tiles) plane tile.part (on_plane plane corner) ≢ 0 =
        tile_makes raw tiles plane tile corner listed of.on (of.covers corner corner_in) (type_of tile listed).some in
        let kind : kind_in piece.kinds tile.part ≢ 0 =
        λ space. some (set_on_plane raw plane tiles tile.part (on_plane plane corner) refl
        ∙ sym (joined-found raw plane (set_of_tiles raw tiles tile.part (on_plane plane corner)) 0
        (kind_there tile.part (part_below tile listed) ∙ ap Some space)).0) in
        let entry = kind_is_listed piece.kinds tile.part kind in
        record {
          tile = tile;
          there = of.there;
          plane = of.on;
          covers = of.covers;
          entry = entry.entry;
          listed = entry.listed;
          part = entry.is;
        }

    pub covering_tiles : HasCoveringTiles tiles (record { plane = plane; stack = piece })
    covering_tiles = record {
      some = has.some;
      each = covering;
      all = λ number tile square there on inside covers.
          has.all number tile square (omega arith) (slice_get_within tiles number tile there) there on inside covers;
      every = λ entry listed.
          let below : entry.part < count = omega (arith, is.within entry listed, length-map-range_with_len (set_of_tiles raw tiles) 0 count) in
          let kind : kind_in piece.kinds entry.part ≡ entry.kind.0 = kind_in-listed piece.kinds is.ordered entry listed in
          let some : tile_part (tiles_on raw plane tiles) plane entry.part (on_plane plane corner) ≢ 0 =
          λ empty. material_set raw plane (set_of_tiles raw tiles entry.part (on_plane plane corner)) (kind_in piece.kinds entry.part)
          (kind_there entry.part below) (λ space. is.material entry listed (sym kind ∙ space))
          (sym (set_on_plane raw plane tiles entry.part (on_plane plane corner) refl) ∙ empty) in
          let found = tile_there raw tiles plane piece.members entry.part corner
          (λ number among. let of = has.each number among in (of.tile, of.there))
          (λ number tile there on covers.
          has.all number tile corner (omega arith) (slice_get_within tiles number tile there) there on corner_in covers) some in
          let covers = covering found.0 found.1 in
          (found.0, found.1, covers, found.2 covers.tile covers.there);
    }

  -- a tile of the plane is a member of some piece of it
  pub tile_is_member : (found : List TypedStack) → AreTypedStacks raw (parts_of_tiles raw tiles count) plane found
      → All (HasTiles tiles 0 (length tiles) plane) found → (number : ℕ) (tile : PartTile) → slice_get tiles number ≡ Some tile → tile.plane ≡ plane
      → (piece : TypedStack) × In piece found × In number piece.members
  tile_is_member found pieces have number tile there on =
      let listed : In tile tiles = In-slice_get tiles number tile there in
      let part = All-In (IsPartTile tree) tiles tile are listed in
      let square = corner_of tile.area in
      let covers : Covers tile.area square = corner_covers tile.area square part.1.meets refl refl in
      let some : tile_part (tiles_on raw plane tiles) plane tile.part (on_plane plane square) ≢ 0 =
      tile_makes raw tiles plane tile square listed on covers (type_of tile listed).some in
      elim (piece_or_none found square) [
        | inl over ↦
            let has = All-In (HasTiles tiles 0 (length tiles) plane) found over.0 have over.1 in
            (over.0, over.1, has.all number tile square (omega arith) (slice_get_within tiles number tile there) there on over.2 covers)
        | inr none ↦
            absurd (some (set_on_plane raw plane tiles tile.part (on_plane plane square) refl
            ∙ pieces.outside square none tile.part (set_of_tiles raw tiles tile.part)
            (stands_made (set_of_tiles raw tiles) count tile.part (part_below tile listed))))
      ]
    where
      piece_or_none : (list : List TypedStack) (square : Square) → ((piece : TypedStack) × In piece list × Covers piece.area square)
          ⊎ ((piece : TypedStack) → In piece list → Covers piece.area square → ⊥)
      piece_or_none [] square = inr (λ piece among covers. among)
      piece_or_none (piece ∷ list) square = elim (cases_Bool (is_covered piece.area square)) [
        | inl covered ↦ inl (piece, inl refl, Covers-is_covered piece.area square covered)
        | inr not_covered ↦ elim (piece_or_none list square) [
          | inl later ↦ inl (later.0, inr later.1, later.2)
          | inr none ↦ inr (λ other among covers. elim among [
            | inl same ↦ false≢true (sym not_covered ∙ ap (λ (p : TypedStack). is_covered p.area square) same ∙ is_covered-Covers other.area square covers)
            | inr further ↦ none other further covers
          ])
        ]
      ]
