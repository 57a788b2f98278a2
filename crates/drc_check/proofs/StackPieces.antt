-- The pieces of a plane, from the stacks that its tiles make.
use Rattle.drc_check.proofs.Common.{◌≡◌, ◌≢◌, ◌&&◌, ◌==◌, ◌<◌, inl, inr, ℕ, Bool, true, false, cond, bit_or, List, [], ◌∷◌, ◌++◌, length, map, refl}
use Rattle.drc_check.proofs.Common.{sym, ap, subst, ◌∙◌, arith, eqb-true, eq-eqb, Option, Some, None, slice_index_or, bit_at, filter_map, and_parts}
use Rattle.drc_check.proofs.Common.{cases_Bool, In, In-filter, In-filter_passes, In-filter_source, All-from_In, Square, Rect, Covers, IsProper}
use Rattle.drc_check.proofs.Common.{is_covered, Stack, PartSet, RawTech, TypeId, joined, parts_of, Place, on_plane, bit_kept, union_bit, PartTile}
use Rattle.drc_check.proofs.Common.{ListedPiece, member_union, stack_piece, part_set_at, set_in, set_of_all, set_of_tile, tiles_of_plane}
use Rattle.drc_check.proofs.Common.{AreListedPieces, HasMembersIn}
use Rattle.std.specs.Prelude.{slice_get}
use Rattle.std.specs.Option.{option_map}
use Rattle.std.proofs.lemmas.List.{length-map}
use Rattle.std.proofs.lemmas.Option.{get_or_from_slice_get, slice_get-map, slice_get_within}
use Rattle.finite_sets.proofs.Places.{In-slice_get, slice_get-In}
use Rattle.geo_core.specs.Areas.{corner_of}
use Rattle.geo_core.specs.Covering.{CoversAt}
use Rattle.geo_core.proofs.CoveringLaws.{Covers-is_covered, corner_covered}
use Rattle.rect_overlays.specs.Stacks.{AreStacks, IsStack}
use Rattle.tech_model.specs.Types.{type_number}
use Rattle.hierarchy_model.proofs.Offences.LayoutModel.SetUnions.{none_union, union_assoc, union_none, union_some}
use Rattle.hierarchy_model.proofs.Offences.UnionLaws.{same_sets}
use Rattle.drc_check.specs.steps.Pieces.{tile_area, is_on_plane, marked_piece}
use Rattle.drc_check.specs.steps.Pieces.{IsMarkedTypeOn, IsOnPartTile}
use Rattle.drc_check.proofs.FoundLists.{filter_map_kept, filter_map_source}
use Rattle.drc_check.proofs.TileUnions.{part_of_tile, tile_of_part}

-- ---- lists

some_member : (members : List ℕ) → members ≢ [] → (member : ℕ) × In member members
some_member [] some = absurd (some refl)
some_member (member ∷ members) some = (member, inl refl)

-- ---- marks

-- a piece that is made has the type, which is marked
marked_piece_is : (marks : List Bool) (plane : ℕ) (area : Rect) (found : Option ℕ) (piece : ListedPiece)
    → marked_piece marks plane area found ≡ Some piece → (piece.plane ≡ plane) × (piece.area ≡ area) × (found ≡ Some piece.kind.0)
marked_piece_is marks plane area None piece is = absurd (cc)
marked_piece_is marks plane area (Some kind) piece is =
    let made : ListedPiece = record { plane = plane; kind = type_number kind; area = area } in
    let P : Bool → Type 0 = λ b. cond b (Some made) None ≡ Some piece in
    elim (cases_Bool (slice_index_or marks kind false)) [
      | inl marked ↦ (
          let there : Some made ≡ Some piece = subst P marked is in
          let same : piece ≡ made = cc in
          (ap (λ (p : ListedPiece). p.plane) same, ap (λ (p : ListedPiece). p.area) same, ap (λ (p : ListedPiece). Some p.kind.0) (sym same)))
      | inr other ↦ (let none : None ≡ Some piece = subst P other is in absurd (cc))
    ]

-- where a type is marked its piece is made
marked_piece_made : (marks : List Bool) (plane : ℕ) (area : Rect) (found : Option ℕ) (kind : TypeId) → found ≡ Some kind.0
    → slice_index_or marks kind.0 false ≡ true → marked_piece marks plane area found ≡ Some (record { plane = plane; kind = kind; area = area })
marked_piece_made marks plane area found kind is marked =
    ap (marked_piece marks plane area) is
    ∙ ap (λ (b : Bool). cond b (Some (record { plane = plane; kind = kind; area = area })) None) marked

-- ---- tiles

tile_stands : (raw : RawTech) (tile : PartTile) (place : Place) → set_of_tile raw tile place ≢ 0
    → (place.plane ≡ tile.plane) × Covers tile.area place.square
tile_stands raw tile place some = elim (cases_Bool (place.plane == tile.plane && is_covered tile.area place.square)) [
  | inl passes ↦ (
      let both = and_parts (place.plane == tile.plane) (is_covered tile.area place.square) passes in
      (eqb-true place.plane tile.plane both.0, Covers-is_covered tile.area place.square both.1))
  | inr fails ↦ absurd (some (ap (λ (b : Bool). cond b (parts_of raw tile.kind.0) 0) fails))
]

-- where tiles make something, one of them stands
tile_of_set : (raw : RawTech) (tiles : List PartTile) (place : Place) → set_of_all raw tiles place ≢ 0
    → (tile : PartTile) × (In tile tiles × (place.plane ≡ tile.plane) × Covers tile.area place.square)
tile_of_set raw [] place some = absurd (some refl)
tile_of_set raw (tile ∷ tiles) place some = elim (union_some (set_of_tile raw tile place) (set_of_all raw tiles place) some) [
  | inl here ↦ (let both = tile_stands raw tile place here in (tile, (inl refl, both.0, both.1)))
  | inr later ↦ (let found = tile_of_set raw tiles place later in (found.0, (inr found.1.0, found.1.1, found.1.2)))
]

-- the areas of the tiles of the plane
abbrev pub areas_on : ℕ → List PartTile → List Rect
areas_on plane tiles = map tile_area (tiles_of_plane plane tiles)

-- the sets of their types
abbrev pub sets_on : RawTech → ℕ → List PartTile → List PartSet
sets_on raw plane tiles = map (set_in raw) (tiles_of_plane plane tiles)

-- A tile of the plane covers the square, and its set stands at the place.
record IsTileAt (raw : RawTech) (plane : ℕ) (tiles : List PartTile) (k : ℕ) (square : Square) : Type 0 where
  tile : PartTile
  among : In tile tiles
  on : tile.plane ≡ plane
  covers : Covers tile.area square
  set : part_set_at (sets_on raw plane tiles) k ≡ parts_of raw tile.kind.0

module _ (raw : RawTech) (plane : ℕ) (tiles : List PartTile) where
  -- the set of the tile at a place
  set_there : (k : ℕ) (tile : PartTile) → slice_get (tiles_of_plane plane tiles) k ≡ Some tile
      → part_set_at (sets_on raw plane tiles) k ≡ parts_of raw tile.kind.0
  set_there k tile is =
      ap (λ (set : PartSet). set.0) (get_or_from_slice_get (sets_on raw plane tiles) k (set_in raw tile) (record { 0 = 0 })
      (slice_get-map (set_in raw) (tiles_of_plane plane tiles) k ∙ ap (option_map (set_in raw)) is))

  -- what the rectangle at a place covers, the tile there does
  tile_there : (k : ℕ) (square : Square) → CoversAt (areas_on plane tiles) k square → IsTileAt raw plane tiles k square
  tile_there k square at = go (slice_get (tiles_of_plane plane tiles) k) refl
    where
      go : (found : Option PartTile) → slice_get (tiles_of_plane plane tiles) k ≡ found → IsTileAt raw plane tiles k square
      go None is =
          let none : None ≡ Some at.area = sym (slice_get-map tile_area (tiles_of_plane plane tiles) k ∙ ap (option_map tile_area) is) ∙ at.there in absurd (cc)
      go (Some tile) is =
          let among = In-slice_get (tiles_of_plane plane tiles) k tile is in
          let there : Some tile.area ≡ Some at.area = sym (slice_get-map tile_area (tiles_of_plane plane tiles) k ∙ ap (option_map tile_area) is) ∙ at.there in
          let same : at.area ≡ tile.area = cc in
          record {
            tile = tile;
            among = In-filter_source (is_on_plane plane) tile tiles among;
            on = eqb-true tile.plane plane (In-filter_passes (is_on_plane plane) tile tiles among);
            covers = subst (λ (area : Rect). Covers area square) same at.covers;
            set = set_there k tile is;
          }

  -- and each tile of the plane stands at a place
  place_of : (tile : PartTile) (square : Square) → In tile tiles → plane ≡ tile.plane → Covers tile.area square
      → (k : ℕ) × (CoversAt (areas_on plane tiles) k square × (part_set_at (sets_on raw plane tiles) k ≡ parts_of raw tile.kind.0))
  place_of tile square h same covers =
      let among = In-filter (is_on_plane plane) tile tiles h (eq-eqb tile.plane plane (sym same)) in
      let k = slice_get-In tile (tiles_of_plane plane tiles) among in (
        k.0,
        (
          record {
            area = tile.area;
            there = slice_get-map tile_area (tiles_of_plane plane tiles) k.0 ∙ ap (option_map tile_area) k.1;
            covers = covers;
          },
          set_there k.0 tile k.1,
        ),
      )

  -- ---- stacks

  module _ (stack : Stack) (is : IsStack (areas_on plane tiles) stack) where
    -- at each square of a stack the members make what all tiles make
    union_is : (square : Square) → Covers stack.area square
        → member_union (sets_on raw plane tiles) stack.members.items ≡ set_of_all raw tiles (on_plane plane square)
    union_is square covers =
        same_sets (member_union (sets_on raw plane tiles) stack.members.items) (set_of_all raw tiles (on_plane plane square))
        (λ i bit.
        let has = union_bit (member_union (sets_on raw plane tiles)) (part_set_at (sets_on raw plane tiles)) refl (λ m ms. refl) stack.members.items i bit in
        let there = tile_there has.thing square (is.members has.thing has.listed square covers) in
        part_of_tile raw tiles (on_plane plane square) i (record {
          tile = there.tile;
          among = there.among;
          plane = sym there.on;
          covers = there.covers;
          bit = subst (λ (set : ℕ). bit_at set i ≡ 1) there.set has.bit;
        }))
        (λ i bit.
        let has = tile_of_part raw tiles (on_plane plane square) i bit in
        let at = place_of has.tile square has.among has.plane has.covers in
        bit_kept (member_union (sets_on raw plane tiles)) (part_set_at (sets_on raw plane tiles)) refl (λ m ms. refl) stack.members.items i at.0
        (is.others at.0 square covers at.1.0) (subst (λ (set : ℕ). bit_at set i ≡ 1) (sym at.1.1) has.bit))

    -- members are places of the list of sets
    pub members_in : HasMembersIn (sets_on raw plane tiles) stack
    members_in = All-from_In (λ (member : ℕ). member < length (sets_on raw plane tiles)) stack.members.items (λ member among.
        let at = is.members member among (corner_of stack.area) (corner_covered stack.area is.proper) in
        omega (
          arith,
          slice_get_within (areas_on plane tiles) member at.area at.there,
          length-map (tiles_of_plane plane tiles) tile_area,
          length-map (tiles_of_plane plane tiles) (set_in raw),
        ))

    -- a square of a stack lies on a tile
    stack_on_tile : (square : Square) → Covers stack.area square → IsOnPartTile tiles square
    stack_on_tile square covers =
        let member = some_member stack.members.items is.some in
        let there = tile_there member.0 square (is.members member.0 member.1 square covers) in
        (there.tile, (there.among, there.covers))

  -- The piece is of a stack, and its type is that of what the members make.
  record IsOfStack (stacks : List Stack) (piece : ListedPiece) : Type 0 where
    stack : Stack
    among : In stack stacks
    plane_is : piece.plane ≡ plane
    area_is : piece.area ≡ stack.area
    flat : joined raw plane (member_union (sets_on raw plane tiles) stack.members.items) ≡ Some piece.kind.0

  module _ (marks : List Bool) (stacks : List Stack) (are : AreStacks (areas_on plane tiles) stacks) where
    of_stack : (piece : ListedPiece) → In piece (filter_map (stack_piece raw marks plane (sets_on raw plane tiles)) stacks) → IsOfStack stacks piece
    of_stack piece among =
        let from = filter_map_source (stack_piece raw marks plane (sets_on raw plane tiles)) stacks piece among in
        let stack = from.0 in
        let is = marked_piece_is marks plane stack.area (joined raw plane (member_union (sets_on raw plane tiles) stack.members.items)) piece from.1.1 in
        record { stack = stack; among = from.1.0; plane_is = is.0; area_is = is.1; flat = is.2 }

    -- the pieces that are made of stacks are those of the plane whose types are marked
    pub stack_pieces : AreListedPieces raw (set_of_all raw tiles) (IsMarkedTypeOn marks plane)
        (filter_map (stack_piece raw marks plane (sets_on raw plane tiles)) stacks)
    stack_pieces = record {
      proper = λ piece among.
          let of = of_stack piece among in
          subst IsProper (sym of.area_is) (are.each of.stack of.among).proper;
      sound = λ piece among square covers.
          let of = of_stack piece among in
          let inside = subst (λ (area : Rect). Covers area square) of.area_is covers in
          ap (λ (p : ℕ). joined raw p (set_of_all raw tiles (on_plane p square))) of.plane_is
          ∙ ap (joined raw plane) (sym (union_is of.stack (are.each of.stack of.among) square inside))
          ∙ of.flat;
      whole = λ place kind wanted is.
          let there : place ≡ on_plane plane place.square = ap (λ (p : ℕ). on_plane p place.square) wanted.0 in
          let at : joined raw plane (set_of_all raw tiles (on_plane plane place.square)) ≡ Some kind.0 =
          subst (λ (p : Place). joined raw p.plane (set_of_all raw tiles p) ≡ Some kind.0) there is in
          let some : set_of_all raw tiles place ≢ 0 = λ none.
          let space : Some 0 ≡ Some kind.0 = sym (ap (joined raw place.plane) none) ∙ is in
          let zero_is : 0 ≡ kind.0 = cc in
          wanted.2 (sym zero_is) in
          let tile = tile_of_set raw tiles place some in
          let k = place_of tile.0 place.square tile.1.0 (sym wanted.0 ∙ tile.1.1) tile.1.2 in
          let found = are.every k.0 place.square k.1.0 in
          let stack = found.0 in
          let flat = ap (joined raw plane) (union_is stack (are.each stack found.1.0) place.square found.1.1) ∙ at in
          record {
            piece = record { plane = plane; kind = kind; area = stack.area };
            among = filter_map_kept (stack_piece raw marks plane (sets_on raw plane tiles)) stacks stack
                (record { plane = plane; kind = kind; area = stack.area })
                found.1.0
                (marked_piece_made marks plane stack.area (joined raw plane (member_union (sets_on raw plane tiles) stack.members.items)) kind flat wanted.1);
            plane = sym wanted.0;
            is = refl;
            covers = found.1.1;
          };
    }

    -- and each square of them lies on a tile
    pub stack_pieces_lie : (piece : ListedPiece) → In piece (filter_map (stack_piece raw marks plane (sets_on raw plane tiles)) stacks) → (square : Square)
        → Covers piece.area square → IsOnPartTile tiles square
    stack_pieces_lie piece among square covers =
        let of = of_stack piece among in
        stack_on_tile of.stack (are.each of.stack of.among) square (subst (λ (area : Rect). Covers area square) of.area_is covers)

-- the union of one set more
pub member_union-push : (sets : List PartSet) (members : List ℕ) (member : ℕ)
    → member_union sets (members ++ member ∷ []) ≡ bit_or (member_union sets members) (part_set_at sets member)
member_union-push sets [] member = union_none (part_set_at sets member) ∙ sym (none_union (part_set_at sets member))
member_union-push sets (first ∷ members) member =
    ap (bit_or (part_set_at sets first)) (member_union-push sets members member)
    ∙ sym (union_assoc (part_set_at sets first) (member_union sets members) (part_set_at sets member))
