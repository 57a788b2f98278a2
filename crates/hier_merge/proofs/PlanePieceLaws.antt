-- Pieces that are found plane by plane, and what they are of the parts that all tiles make.
use Rattle.hier_merge.proofs.Common.{◌≡◌, ◌<◌, ◌+◌, ℕ, zero, suc, bit_or, List, [], ◌∷◌, ◌++◌, length, map, refl, sym, ap, subst, ◌∙◌, arith, Some}
use Rattle.hier_merge.proofs.Common.{slice_get, range_with_len, append-nil, append_assoc, length-map-range_with_len, slice_get_within, Rect, Square}
use Rattle.hier_merge.proofs.Common.{RawTech, joined, Place, PlaneStack, TypedStack, SetLayout, tile_part, tile_parts, AreTypedStacks, IsTypedStack}
use Rattle.hier_merge.proofs.Common.{on_plane, PartTile, set_of_tiles, ArePiecesFrom, plane_stack, tiles_on}
use Rattle.meeting_laws.specs.Offences.Offences.{flat_type, union_of}
use Rattle.hier_merge.specs.steps.PlanePieces.{AddsPlane, HasPlanePieces}
use Rattle.hier_merge.specs.declared.meetings.Pieces.{Pieces}
use Rattle.hier_merge.proofs.MeetingBoxes.{parts_of_tiles}
use Rattle.hier_merge.proofs.NumberedParts.{made_from, stands_made}
use Rattle.hier_merge.proofs.PlaneTiles.{set_on_plane}

-- ---- one plane more

-- pieces of one plane more, which are found behind those of the planes before
pub plane_added : (raw : RawTech) (tiles : List PartTile) (last : ℕ) (found : List TypedStack) (strips : List Rect)
    → HasPlanePieces raw tiles last found strips
    → (plane count : ℕ) (stacks : List PlaneStack) (offending : List (ℕ × Rect)) → last ≡ plane + count
    → ArePiecesFrom raw tiles plane count stacks offending
    → ArePiecesFrom raw tiles plane (suc count) (stacks ++ map (plane_stack last) found)
    (offending ++ map (λ (area : Rect). (last, area)) strips)
plane_added raw tiles last found strips has plane zero stacks offending here (no_stacks, no_strips) =
    let same : last ≡ plane = omega (arith, here) in (
      found,
      strips,
      [],
      [],
      subst (λ (q : ℕ). HasPlanePieces raw tiles q found strips) same has,
      ap (λ (xs : List PlaneStack). xs ++ map (plane_stack last) found) no_stacks
          ∙ ap (λ (q : ℕ). map (plane_stack q) found) same
          ∙ sym (append-nil (map (plane_stack plane) found)),
      ap (λ (xs : List (ℕ × Rect)). xs ++ map (λ (area : Rect). (last, area)) strips) no_strips
          ∙ ap (λ (q : ℕ). map (λ (area : Rect). (q, area)) strips) same
          ∙ sym (append-nil (map (λ (area : Rect). (plane, area)) strips)),
      (refl, refl),
    )
plane_added raw tiles last found strips has plane (suc count) stacks offending here
    (first, others, rest, more, first_has, stacks_are, strips_are, from_next) = (
      first,
      others,
      rest ++ map (plane_stack last) found,
      more ++ map (λ (area : Rect). (last, area)) strips,
      first_has,
      ap (λ (xs : List PlaneStack). xs ++ map (plane_stack last) found) stacks_are
          ∙ append_assoc (map (plane_stack plane) first) rest (map (plane_stack last) found),
      ap (λ (xs : List (ℕ × Rect)). xs ++ map (λ (area : Rect). (last, area)) strips) strips_are
          ∙ append_assoc (map (λ (area : Rect). (plane, area)) others) more (map (λ (area : Rect). (last, area)) strips),
      plane_added raw tiles last found strips has (suc plane) count rest more (omega (arith, here)) from_next,
    )

-- the same of the lists that are kept
pub pieces_more : (raw : RawTech) (tiles : List PartTile) (count : ℕ) (old new : Pieces)
    → ArePiecesFrom raw tiles 0 count old.stacks.items old.offending.items → AddsPlane raw tiles count old new
    → ArePiecesFrom raw tiles 0 (suc count) new.stacks.items new.offending.items
pieces_more raw tiles count old new are adds =
    rw (adds.stacks, adds.offending)
    (plane_added raw tiles count adds.found adds.strips adds.has 0 count old.stacks.items old.offending.items (omega arith) are)

-- ---- what all tiles make

-- lists of parts that are alike at a place have one union there
pub union_made : (make other : ℕ → SetLayout) (positions : List ℕ) (place : Place) → ((k : ℕ) → make k place ≡ other k place)
    → union_of (map make positions) place ≡ union_of (map other positions) place
union_made make other [] place same = refl
union_made make other (k ∷ positions) place same =
    ap (λ (set : ℕ). bit_or set (union_of (map make positions) place)) (same k)
    ∙ ap (bit_or (other k place)) (union_made make other positions place same)

module _ (raw : RawTech) (tiles : List PartTile) (count plane : ℕ) where
  abbrev pub here : List SetLayout
  here = tile_parts (tiles_on raw plane tiles) plane count

  abbrev pub all : List SetLayout
  all = parts_of_tiles raw tiles count

  flat_same : (square : Square) → flat_type raw all (on_plane plane square) ≡ flat_type raw here (on_plane plane square)
  flat_same square =
      ap (joined raw plane) (sym (union_made (tile_part (tiles_on raw plane tiles) plane) (set_of_tiles raw tiles) (range_with_len 0 count)
      (on_plane plane square) (λ part. set_on_plane raw plane tiles part (on_plane plane square) refl)))

  part_same : (position : ℕ) (part other : SetLayout) → slice_get all position ≡ Some part → slice_get here position ≡ Some other → (square : Square)
      → part (on_plane plane square) ≡ other (on_plane plane square)
  part_same position part other there also square =
      ap (λ (p : SetLayout). p (on_plane plane square)) (sym (made_from (set_of_tiles raw tiles) count position part there))
      ∙ sym (set_on_plane raw plane tiles position (on_plane plane square) refl)
      ∙ ap (λ (p : SetLayout). p (on_plane plane square)) (made_from (tile_part (tiles_on raw plane tiles) plane) count position other also)

  long : length here ≡ length all
  long =
      length-map-range_with_len (tile_part (tiles_on raw plane tiles) plane) 0 count
      ∙ sym (length-map-range_with_len (set_of_tiles raw tiles) 0 count)

  counterpart : (position : ℕ) (part : SetLayout) → slice_get all position ≡ Some part → (other : SetLayout) × (slice_get here position ≡ Some other)
  counterpart position part there =
      let below : position < length all = slice_get_within all position part there in (
        tile_part (tiles_on raw plane tiles) plane position,
        stands_made (tile_part (tiles_on raw plane tiles) plane) count position
            (omega (arith, below, length-map-range_with_len (set_of_tiles raw tiles) 0 count)),
      )

  -- a piece of the plane's parts is one of all parts
  piece_of_all : (piece : TypedStack) → IsTypedStack raw here plane piece → IsTypedStack raw all plane piece
  piece_of_all piece is = record {
    proper = is.proper;
    near = is.near;
    ordered = is.ordered;
    within = λ entry listed. omega (arith, is.within entry listed, long);
    material = is.material;
    flat = λ square covers. flat_same square ∙ is.flat square covers;
    kinds = λ square covers position part there.
        let other = counterpart position part there in
        ap (joined raw plane) (part_same position part other.0 there other.1 square) ∙ is.kinds square covers position other.0 other.1;
    owner = is.owner;
  }

  -- and so are all pieces of the plane
  pub pieces_of_all : (found : List TypedStack) → AreTypedStacks raw here plane found → AreTypedStacks raw all plane found
  pieces_of_all found are = record {
    each = λ piece listed. piece_of_all piece (are.each piece listed);
    apart = are.apart;
    outside = λ square none position part there.
        let other = counterpart position part there in
        part_same position part other.0 there other.1 square ∙ are.outside square none position other.0 other.1;
  }
