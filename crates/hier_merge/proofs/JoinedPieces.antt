-- Pieces of two lists of tiles that share no square are pieces of both lists together.
use Rattle.hier_merge.proofs.Common.{◌≡◌, ◌≢◌, ◌⊎◌, ◌<◌, ℕ, List, [], ◌∷◌, ◌++◌, map, inl, inr, refl, sym, ap, subst, ◌∙◌, arith, All, AllPairs}
use Rattle.hier_merge.proofs.Common.{IsPermutation, bit_at, range_with_len, cases_Bool, cases_eq, false≢true, map-append, IsPermutation-sym, In}
use Rattle.hier_merge.proofs.Common.{In-append_cases, In-append_left, In-append_right, In-map, In-map_source, In-permutation, AllPairs-from_Pairwise}
use Rattle.hier_merge.proofs.Common.{Pairwise-append, Pairwise-from_AllPairs, All-from_In, All-In, Rect, Square, AreDisjoint, IsNear, Covers}
use Rattle.hier_merge.proofs.Common.{is_covered, Covers-is_covered, is_covered-Covers, RawTech, joined, SetTile, TypedStack, HaveTypes, SetLayout}
use Rattle.hier_merge.proofs.Common.{tile_part, tile_parts, AreTypedStacks, HasMembers, IsTypedStack, StandForTiles, on_plane, typed_stack_areas}
use Rattle.hier_merge.proofs.Common.{part_bit, part_kept, no_part, same_sets, AreTilePieces, renumbered}
use Rattle.std.proofs.lemmas.Simd.{map-map}
use Rattle.meeting_laws.proofs.Offences.MemberLaws.{of_moved}
use Rattle.meeting_laws.proofs.Offences.StackLaws.{In-tile_at}
use Rattle.meeting_laws.proofs.Offences.TileLaws.{HasTile, at_part, length-parts, part_at}
use Rattle.hier_merge.specs.steps.Seams.{IsOnTile}
use Rattle.hier_merge.proofs.PartTypes.{space_is_defined}
use Rattle.hier_merge.proofs.PlanePieceLaws.{union_made}
use Rattle.hier_merge.proofs.PlaneTiles.{nothing_off_plane}

-- it is decided whether a tile covers the square
on_tile_or_not : (tiles : List SetTile) (square : Square) → IsOnTile tiles square ⊎ (IsOnTile tiles square → ⊥)
on_tile_or_not [] square = inr (λ on. on.1.0)
on_tile_or_not (tile ∷ tiles) square = elim (cases_Bool (is_covered tile.area square)) [
  | inl covered ↦ inl (tile, (inl refl, Covers-is_covered tile.area square covered))
  | inr not_covered ↦ elim (on_tile_or_not tiles square) [
    | inl later ↦ inl (later.0, (inr later.1.0, later.1.1))
    | inr nowhere ↦ inr (λ on. elim on.1.0 [
      | inl same ↦ false≢true (sym not_covered ∙ ap (λ (t : SetTile). is_covered t.area square) same ∙ is_covered-Covers on.0.area square on.1.1)
      | inr among ↦ nowhere (on.0, (among, on.1.1))
    ])
  ]
]

module _ (plane : ℕ) where
  -- a bit of what tiles make of a part is one of what others make, which have the tiles that cover the square
  bit_among : (tiles others : List SetTile) (square : Square) → ((tile : SetTile) → In tile tiles → Covers tile.area square → In tile others)
      → (part i : ℕ) → bit_at (tile_part tiles plane part (on_plane plane square)) i ≡ 1 → bit_at (tile_part others plane part (on_plane plane square)) i ≡ 1
  bit_among tiles others square there part i bit =
      let has = part_bit tiles plane part (on_plane plane square) i bit in
      part_kept others plane part (on_plane plane square) i (record {
        tile = has.tile;
        listed = there has.tile has.listed has.covers;
        of_part = has.of_part;
        same_plane = has.same_plane;
        covers = has.covers;
        bit = has.bit;
      })

  -- where the same tiles of two lists cover a square, both make the same of each part
  same_there : (tiles others : List SetTile) (square : Square) → ((tile : SetTile) → In tile tiles → Covers tile.area square → In tile others)
      → ((tile : SetTile) → In tile others → Covers tile.area square → In tile tiles) → (part : ℕ)
      → tile_part tiles plane part (on_plane plane square) ≡ tile_part others plane part (on_plane plane square)
  same_there tiles others square there back part =
      same_sets (tile_part tiles plane part (on_plane plane square)) (tile_part others plane part (on_plane plane square))
      (bit_among tiles others square there part) (bit_among others tiles square back part)

  -- where no tile is, nothing is made of a part
  nothing_there : (tiles : List SetTile) (square : Square) → (IsOnTile tiles square → ⊥) → (part : ℕ)
      → tile_part tiles plane part (on_plane plane square) ≡ 0
  nothing_there tiles square nowhere part =
      same_there tiles [] square (λ tile among covers. absurd (nowhere (tile, (among, covers)))) (λ tile none covers. absurd none) part

module _ (raw : RawTech) (plane : ℕ) where
  -- a piece of parts is one of others that are the same on it
  piece_alike : (tiles others : List SetTile) (count : ℕ) (piece : TypedStack)
      → ((square : Square) → Covers piece.area square → (part : ℕ)
      → tile_part tiles plane part (on_plane plane square) ≡ tile_part others plane part (on_plane plane square))
      → IsTypedStack raw (tile_parts others plane count) plane piece → IsTypedStack raw (tile_parts tiles plane count) plane piece
  piece_alike tiles others count piece same is = record {
    proper = is.proper;
    near = is.near;
    ordered = is.ordered;
    within = λ entry listed. omega (arith, is.within entry listed, length-parts tiles plane count, length-parts others plane count);
    material = is.material;
    flat = λ square covers.
        ap (joined raw plane) (union_made (tile_part tiles plane) (tile_part others plane) (range_with_len 0 count) (on_plane plane square)
        (same square covers))
        ∙ is.flat square covers;
    kinds = λ square covers position part there.
        let at = part_at tiles plane count position part there in
        ap (λ (p : SetLayout). joined raw plane (p (on_plane plane square))) at.1
        ∙ ap (joined raw plane) (same square covers position)
        ∙ is.kinds square covers position (tile_part others plane position) (at_part others plane count position at.0);
    owner = is.owner;
  }

  module _ (first second : List SetTile) (apart : (a b : SetTile) → In a first → In b second → AreDisjoint a.area b.area) where
    abbrev all : List SetTile
    all = first ++ second

    -- on a tile of the first list both together make what the first make
    as_first : (square : Square) → IsOnTile first square → (part : ℕ)
        → tile_part all plane part (on_plane plane square) ≡ tile_part first plane part (on_plane plane square)
    as_first square on = same_there plane all first square
        (λ tile among covers. elim (In-append_cases tile first second among) [
          | inl here ↦ here
          | inr there ↦ absurd (apart on.0 tile on.1.0 there square on.1.1 covers)
        ])
        (λ tile among covers. In-append_left tile first second among)

    -- and on one of the second list what the second make
    as_second : (square : Square) → IsOnTile second square → (part : ℕ)
        → tile_part all plane part (on_plane plane square) ≡ tile_part second plane part (on_plane plane square)
    as_second square on = same_there plane all second square
        (λ tile among covers. elim (In-append_cases tile first second among) [
          | inl here ↦ absurd (apart tile on.0 here on.1.0 square covers on.1.1)
          | inr there ↦ there
        ])
        (λ tile among covers. In-append_right tile first second among)

    -- what one of the lists makes has types where what both make has
    part_has_types : (tiles : List SetTile) → ((square : Square) → IsOnTile tiles square → (part : ℕ)
        → tile_part all plane part (on_plane plane square) ≡ tile_part tiles plane part (on_plane plane square))
        → (count : ℕ) → HaveTypes raw (tile_parts all plane count) → HaveTypes raw (tile_parts tiles plane count)
    part_has_types tiles same count types position part there place none =
        let at = part_at tiles plane count position part there in
        let made : part place ≡ tile_part tiles plane position place = ap (λ (p : SetLayout). p place) at.1 in
        elim (cases_eq place.plane plane) [
          | inr off ↦ space_is_defined raw part place (made ∙ nothing_off_plane tiles plane position place off) none
          | inl on ↦
              let here : place ≡ on_plane plane place.square = ap (λ (p : ℕ). on_plane p place.square) on in
              elim (on_tile_or_not tiles place.square) [
                | inl covered ↦
                    let is : tile_part all plane position place ≡ part place =
                    ap (tile_part all plane position) here ∙ same place.square covered position ∙ ap (tile_part tiles plane position) (sym here) ∙ sym made in
                    types position (tile_part all plane position) (at_part all plane count position at.0) place (ap (joined raw place.plane) is ∙ none)
                | inr nowhere ↦
                    space_is_defined raw part place
                    (made ∙ ap (tile_part tiles plane position) here ∙ nothing_there plane tiles place.square nowhere position) none
              ]
        ]

    -- where no piece is, none of a list's tiles adds anything to a part
    adds_nothing : (tiles : List SetTile) (count : ℕ) (found : List TypedStack) → AreTypedStacks raw (tile_parts tiles plane count) plane found
        → (square : Square) → ((piece : TypedStack) → In piece found → Covers piece.area square → ⊥) → (position i : ℕ) → position < count
        → HasTile tiles plane position (on_plane plane square) i → ⊥
    adds_nothing tiles count found are square none position i below has =
        let empty = are.outside square none position (tile_part tiles plane position) (at_part tiles plane count position below) in
        no_part i (subst (λ (set : ℕ). bit_at set i ≡ 1) empty (part_kept tiles plane position (on_plane plane square) i has))

    module _ (found more : List TypedStack) (one : AreTilePieces raw plane first found) (two : AreTilePieces raw plane second more) where
      module _ (count : ℕ) (types : HaveTypes raw (tile_parts all plane count))
          (ones : AreTypedStacks raw (tile_parts first plane count) plane found)
          (twos : AreTypedStacks raw (tile_parts second plane count) plane more) where
        each_piece : (piece : TypedStack) → In piece (found ++ more) → IsTypedStack raw (tile_parts all plane count) plane piece
        each_piece piece listed = elim (In-append_cases piece found more listed) [
          | inl here ↦ piece_alike all first count piece (λ square covers. as_first square (one.lie piece here square covers)) (ones.each piece here)
          | inr there ↦ piece_alike all second count piece (λ square covers. as_second square (two.lie piece there square covers)) (twos.each piece there)
        ]

        pieces_apart : AllPairs AreDisjoint (typed_stack_areas (found ++ more))
        pieces_apart =
            let across : (a b : Rect) → In a (typed_stack_areas found) → In b (typed_stack_areas more) → AreDisjoint a b = λ a b i j square in_a in_b.
            let p = In-map_source (λ (s : TypedStack). s.area) a found i in
            let q = In-map_source (λ (s : TypedStack). s.area) b more j in
            let s = one.lie p.0 p.1.0 square (subst (λ (r : Rect). Covers r square) (sym p.1.1) in_a) in
            let t = two.lie q.0 q.1.0 square (subst (λ (r : Rect). Covers r square) (sym q.1.1) in_b) in
            apart s.0 t.0 s.1.0 t.1.0 square s.1.1 t.1.1 in
            subst (AllPairs AreDisjoint) (sym (map-append (λ (s : TypedStack). s.area) found more))
            (AllPairs-from_Pairwise AreDisjoint (typed_stack_areas found ++ typed_stack_areas more)
            (Pairwise-append AreDisjoint (typed_stack_areas found) (typed_stack_areas more)
            (Pairwise-from_AllPairs AreDisjoint (typed_stack_areas found) ones.apart)
            (Pairwise-from_AllPairs AreDisjoint (typed_stack_areas more) twos.apart) across))

        nothing_outside : (square : Square) → ((piece : TypedStack) → In piece (found ++ more) → Covers piece.area square → ⊥) → (position : ℕ)
            → position < count → tile_part all plane position (on_plane plane square) ≡ 0
        nothing_outside square none position below = same_sets (tile_part all plane position (on_plane plane square)) 0
            (λ i bit.
            let has = part_bit all plane position (on_plane plane square) i bit in
            let as_in : (tiles : List SetTile) → In has.tile tiles → HasTile tiles plane position (on_plane plane square) i = λ tiles among.
            record { tile = has.tile; listed = among; of_part = has.of_part; same_plane = has.same_plane; covers = has.covers; bit = has.bit } in
            elim (In-append_cases has.tile first second has.listed) [
              | inl here ↦ absurd (adds_nothing first count found ones square
                  (λ piece listed. none piece (In-append_left piece found more listed)) position i below (as_in first here))
              | inr there ↦ absurd (adds_nothing second count more twos square
                  (λ piece listed. none piece (In-append_right piece found more listed)) position i below (as_in second there))
            ])
            (λ i bit. absurd (no_part i bit))

        are_joined : AreTypedStacks raw (tile_parts all plane count) plane (found ++ more)
        are_joined = record {
          each = each_piece;
          apart = pieces_apart;
          outside = λ square none position part there.
              let at = part_at all plane count position part there in
              ap (λ (p : SetLayout). p (on_plane plane square)) at.1 ∙ nothing_outside square none position at.0;
        }

      -- the pieces of both lists are pieces of all tiles
      pub pieces_joined : AreTilePieces raw plane all (found ++ more)
      pieces_joined = record {
        stand = λ count of_parts types.
            let IsOf : SetTile → Type 0 = λ tile. (tile.part < count) × IsNear tile.area in
            are_joined count types
            (one.stand count (All-from_In IsOf first (λ tile among. All-In IsOf all tile of_parts (In-append_left tile first second among)))
            (part_has_types first as_first count types))
            (two.stand count (All-from_In IsOf second (λ tile among. All-In IsOf all tile of_parts (In-append_right tile first second among)))
            (part_has_types second as_second count types));
        lie = λ piece listed square covers. elim (In-append_cases piece found more listed) [
          | inl here ↦ (let on = one.lie piece here square covers in (on.0, (In-append_left on.0 first second on.1.0, on.1.1)))
          | inr there ↦ (let on = two.lie piece there square covers in (on.0, (In-append_right on.0 first second on.1.0, on.1.1)))
        ];
      }

  -- no tiles make no pieces
  pub no_pieces : AreTilePieces raw plane [] []
  no_pieces = record {
    stand = λ count of_parts types. record {
      each = λ piece none. absurd none;
      apart = AllPairs-from_Pairwise AreDisjoint [] tt;
      outside = λ square none position part there.
          ap (λ (p : SetLayout). p (on_plane plane square)) (part_at [] plane count position part there).1;
    };
    lie = λ piece none. absurd none;
  }

  some_of : (members : List ℕ) → members ≢ [] → (member : ℕ) × In member members
  some_of [] none = absurd (none refl)
  some_of (member ∷ members) some = (member, inl refl)

  -- the pieces of tiles in another order
  pub pieces_moved : (tiles sorted : List SetTile) (found : List TypedStack) → IsPermutation tiles sorted → StandForTiles raw plane sorted found
      → All (HasMembers sorted) found → AreTilePieces raw plane tiles found
  pieces_moved tiles sorted found moved stand members = record {
    stand = of_moved raw plane tiles sorted moved sorted refl found stand;
    lie = λ piece listed square covers.
        let has = All-In (HasMembers sorted) found piece members listed in
        let member = some_of piece.members has.some in
        let tile = In-tile_at sorted member.0 (has.within member.0 member.1) in (
          _,
          (In-permutation _ sorted tiles (IsPermutation-sym tiles sorted moved) tile, has.cover member.0 member.1 square covers),
        );
  }

  -- pieces with other members are pieces of the same tiles
  pub pieces_renumbered : (tiles : List SetTile) (numbers : List ℕ) (found : List TypedStack) → AreTilePieces raw plane tiles found
      → AreTilePieces raw plane tiles (map (renumbered numbers) found)
  pieces_renumbered tiles numbers found are = record {
    stand = λ count of_parts types.
        let stand = are.stand count of_parts types in
        record {
          each = λ piece listed.
              let source = In-map_source (renumbered numbers) piece found listed in
              let is = stand.each source.0 source.1.0 in
              subst (IsTypedStack raw (tile_parts tiles plane count) plane) source.1.1 (record {
                proper = is.proper;
                near = is.near;
                ordered = is.ordered;
                within = is.within;
                material = is.material;
                flat = is.flat;
                kinds = is.kinds;
                owner = is.owner;
              });
          apart = subst (AllPairs AreDisjoint) (sym (map-map (λ (s : TypedStack). s.area) (renumbered numbers) found)) stand.apart;
          outside = λ square none. stand.outside square (λ piece listed covers.
              none (renumbered numbers piece) (In-map (renumbered numbers) piece found listed) covers);
        };
    lie = λ piece listed square covers.
        let source = In-map_source (renumbered numbers) piece found listed in
        are.lie source.0 source.1.0 square (subst (λ (s : TypedStack). Covers s.area square) (sym source.1.1) covers);
  }
