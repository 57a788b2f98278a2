-- What stands at the places of pieces, in the flat layout and in each part.
use Rattle.meeting_sums.proofs.Common.{◌≡◌, ℕ, ◌<◌, ◌≤◌, Bool, true, false, List, length, get_or, Some, inl, inr, refl, sym, ◌∙◌, ap, subst, arith}
use Rattle.meeting_sums.proofs.Common.{slice_get, All, get_or_default, All-map, slice_get_within, slice_get-get_or, get_or_from_slice_get, In-get_or}
use Rattle.meeting_sums.proofs.Common.{In-index, IsNear, Covers, IsProper, RawTech, Place, LiesIn, LieApart, AreLayoutTiles, RegionTile, AreSpread}
use Rattle.meeting_sums.proofs.Common.{no_tile, PlaneStack, SetLayout, ArePlaneStacks, AreByPart, kind_in, part_layout, parts_layout, flat_kind}
use Rattle.meeting_sums.proofs.Common.{no_piece, stack_at, tile_of, tiles_of}
use Rattle.std.proofs.Common.{◌≢◌, Option, None, IsTrue}
use Rattle.std.specs.Prelude.{unwrap_or}
use Rattle.std.specs.Option.{option_map}
use Rattle.std.proofs.lemmas.Bool.{cases_Bool, false≢true}
use Rattle.tech_model.specs.declared.raw.TypeId.{TypeId}
use Rattle.tech_model.specs.Types.{is_type, type_number}
use Rattle.tech_model.specs.WellFormed.{IsWellFormed}
use Rattle.offences.specs.LayoutModel.LayerTypes.{or_space}
use Rattle.meeting_laws.specs.FloodNodes.Stacking.{AreTyped}
use Rattle.offences.specs.Changes.{number_of}
use Rattle.offences.specs.Offences.{joined_at, flat_type}
use Rattle.offences.specs.TypedStacks.{IsTypedStack, on_plane}
use Rattle.meeting_laws.proofs.LinkLaws.{part_of_empty, layout_of_none}
use Rattle.meeting_sums.proofs.StackLaws.{tiles_long, tile_is}
use Rattle.meeting_sums.proofs.TileTests.{IsTest, stands, lies_from_test, test_from_lies}

-- the type where it is defined, and space where it is not
flat_number : (flat : Option TypeId) → or_space (option_map number_of flat) ≡ (unwrap_or flat (type_number 0)).0
flat_number None = refl
flat_number (Some kind) = refl

module _ (raw : RawTech) (parts : List SetLayout) (stacks : List PlaneStack) (are : ArePlaneStacks raw parts stacks) where
  -- the piece at a place of the list
  typed_at : (i : ℕ) (d : PlaneStack) → i < length stacks → IsTypedStack raw parts (get_or stacks i d).plane (get_or stacks i d).stack
  typed_at i d below = are.each (get_or stacks i d) (In-get_or stacks i d below)

  pub pieces_ordered : All (λ piece. AreByPart piece.stack.kinds) stacks
  pieces_ordered = λ i d below. (typed_at i d below).ordered

  -- their parts are below any number that the count of parts does not pass
  pub pieces_few : (most : ℕ) → length parts ≤ most → All (λ piece. All (λ entry. entry.part < most) piece.stack.kinds) stacks
  pieces_few most few = λ i d below k e inside.
      let kinds = (get_or stacks i d).stack.kinds in
      let within = (typed_at i d below).within (get_or kinds k e) (In-get_or kinds k e inside) in
      omega (arith, within, few)

  -- pieces with flat types of the technology lie on its planes
  pub pieces_on_planes : IsWellFormed raw → AreTyped raw (tiles_of stacks) → All (λ piece. piece.plane < length raw.planes) stacks
  pieces_on_planes well typed = λ i d below.
      let long = tiles_long stacks in
      let type = typed i no_tile (omega (arith, below, long)) in
      let tile = get_or (tiles_of stacks) i no_tile in
      let last = well.type_planes tile.kind.0 type.0 in
      let on = type.1 in
      let is = ap (λ (t : RegionTile). t.plane) (tile_is stacks i no_tile below) in
      let same = ap (λ (p : PlaneStack). p.plane) (get_or_default stacks i d no_piece below) in
      omega (arith, last, on, is, same)

  -- pieces have squares and bounds within planes, and lie apart
  pub pieces_spread : AreSpread (tiles_of stacks)
  pieces_spread = record {
    proper = All-map (λ (t : RegionTile). IsProper t.area) tile_of stacks (λ i d below. (typed_at i d below).proper);
    near = All-map (λ (t : RegionTile). IsNear t.area) tile_of stacks (λ i d below. (typed_at i d below).near);
    apart = λ i j d less below.
        let long = tiles_long stacks in
        let last : j < length stacks = omega (arith, below, long) in
        subst (λ (a : RegionTile). LieApart a (get_or (tiles_of stacks) j d)) (sym (tile_is stacks i d (omega (arith, less, last))))
        (subst (λ (b : RegionTile). LieApart (tile_of (get_or stacks i no_piece)) b) (sym (tile_is stacks j d last))
        (are.apart i j no_piece less last));
  }

  -- The place lies in the piece at this index.
  record IsInPiece (i : ℕ) (place : Place) : Type 0 where
    inside : i < length stacks
    plane : place.plane ≡ (get_or stacks i no_piece).plane
    covers : Covers (stack_at stacks i).area place.square

  piece_from_lies : (i : ℕ) (place : Place) → LiesIn (tiles_of stacks) i place → IsInPiece i place
  piece_from_lies i place lies =
      let within = slice_get_within (tiles_of stacks) i lies.tile lies.there in
      let long = tiles_long stacks in
      let below : i < length stacks = omega (arith, within, long) in
      let is : lies.tile ≡ tile_of (get_or stacks i no_piece) = sym (get_or_from_slice_get (tiles_of stacks) i lies.tile no_tile lies.there)
      ∙ tile_is stacks i no_tile below in
      record {
        inside = below;
        plane = lies.plane ∙ ap (λ (t : RegionTile). t.plane) is;
        covers = subst (λ (t : RegionTile). Covers t.area place.square) is lies.covers;
      }

  pub lies_from_piece : (i : ℕ) (place : Place) → i < length stacks → place.plane ≡ (get_or stacks i no_piece).plane
      → Covers (stack_at stacks i).area place.square → LiesIn (tiles_of stacks) i place
  lies_from_piece i place below plane covers = record {
    tile = tile_of (get_or stacks i no_piece);
    there = slice_get-get_or (tiles_of stacks) i no_tile (let long = tiles_long stacks in omega (arith, below, long))
        ∙ ap (λ (t : RegionTile). Some t) (tile_is stacks i no_tile below);
    plane = plane;
    covers = covers;
  }

  same_place : (place : Place) (plane : ℕ) → place.plane ≡ plane → place ≡ on_plane plane place.square
  same_place place plane same = λ k. record { plane = same k; square = place.square }

  -- the flat type in a piece
  pub flat_in_piece : (i : ℕ) (place : Place) → LiesIn (tiles_of stacks) i place → parts_layout raw parts place ≡ flat_kind (stack_at stacks i)
  flat_in_piece i place lies =
      let in_piece = piece_from_lies i place lies in
      let piece = get_or stacks i no_piece in
      ap (λ (p : Place). or_space (flat_type raw parts p)) (same_place place piece.plane in_piece.plane)
      ∙ ap or_space ((typed_at i no_piece in_piece.inside).flat place.square in_piece.covers) ∙ flat_number piece.stack.flat

  -- the type of a part in a piece
  pub kind_in_piece : (i : ℕ) (place : Place) (position : ℕ) (part : SetLayout) → slice_get parts position ≡ Some part → LiesIn (tiles_of stacks) i place
      → part_layout raw part place ≡ kind_in (stack_at stacks i).kinds position
  kind_in_piece i place position part there lies =
      let in_piece = piece_from_lies i place lies in
      let piece = get_or stacks i no_piece in
      ap (λ (p : Place). or_space (joined_at raw part p)) (same_place place piece.plane in_piece.plane)
      ∙ ap or_space ((typed_at i no_piece in_piece.inside).kinds place.square in_piece.covers position part there)

  -- outside the pieces no part stands
  empty_outside : (place : Place) → stands (tiles_of stacks) place ≡ false → (position : ℕ) (part : SetLayout) → slice_get parts position ≡ Some part
      → part place ≡ 0
  empty_outside place none = are.outside place (λ piece i plane covers.
      let at = In-index piece stacks i in
      let is = at.1.1 no_piece in
      false≢true (sym none ∙ test_from_lies (tiles_of stacks) at.0 place (lies_from_piece at.0 place at.1.0
      (sym plane ∙ ap (λ (p : PlaneStack). p.plane) (sym is)) (subst (λ (p : PlaneStack). Covers p.stack.area place.square) (sym is) covers))))

  -- a place with material lies in a piece
  pub flat_every : (place : Place) → parts_layout raw parts place ≢ 0 → (index : ℕ) × LiesIn (tiles_of stacks) index place
  flat_every place material = elim (cases_Bool (stands (tiles_of stacks) place)) [
    | inl stood ↦ lies_from_test (tiles_of stacks) place stood
    | inr none ↦ absurd (material (layout_of_none raw parts place (λ position part.
        part.material (empty_outside place none position part.part part.there))))
  ]

  pub part_every : (place : Place) (position : ℕ) (part : SetLayout) → slice_get parts position ≡ Some part → part_layout raw part place ≢ 0
      → (index : ℕ) × LiesIn (tiles_of stacks) index place
  part_every place position part there material = elim (cases_Bool (stands (tiles_of stacks) place)) [
    | inl stood ↦ lies_from_test (tiles_of stacks) place stood
    | inr none ↦ absurd (material (part_of_empty raw part place (empty_outside place none position part there)))
  ]

  -- the class tells of flat types, and of the types of a part, where pieces pass
  module _ (contains : ℕ → Bool) (space_out : contains 0 ≡ false) where
    pub flat_test : IsTest (tiles_of stacks) (λ i. contains (flat_kind (stack_at stacks i))) (λ place. contains (parts_layout raw parts place))
    flat_test = record {
      inside = λ i place lies. ap contains (flat_in_piece i place lies);
      every = λ place passes. flat_every place (λ none. false≢true (sym space_out ∙ ap contains (sym none) ∙ passes));
    }

    pub part_test : (position : ℕ) (part : SetLayout) → slice_get parts position ≡ Some part
        → IsTest (tiles_of stacks) (λ i. contains (kind_in (stack_at stacks i).kinds position)) (λ place. contains (part_layout raw part place))
    part_test position part there = record {
      inside = λ i place lies. ap contains (kind_in_piece i place position part there lies);
      every = λ place passes. part_every place position part there (λ none. false≢true (sym space_out ∙ ap contains (sym none) ∙ passes));
    }

  zero_is_none : (k : ℕ) → IsTrue (is_type raw k) → k ≢ 0
  zero_is_none k is e = false≢true (subst (λ (n : ℕ). is_type raw n ≡ true) e is)

  -- pieces with flat types of the technology are the tiles of the flat layout
  pub pieces_are_tiles : AreTyped raw (tiles_of stacks) → AreLayoutTiles (parts_layout raw parts) (tiles_of stacks)
  pieces_are_tiles typed = record {
    proper = pieces_spread.proper;
    near = pieces_spread.near;
    material = λ i d below. zero_is_none (get_or (tiles_of stacks) i d).kind.0 (typed i d below).0;
    apart = pieces_spread.apart;
    kinds = λ i place lies.
        let in_piece = piece_from_lies i place lies in
        flat_in_piece i place lies ∙ ap (λ (t : RegionTile). t.kind.0) (sym (tile_is stacks i no_tile in_piece.inside)
        ∙ get_or_from_slice_get (tiles_of stacks) i lies.tile no_tile lies.there);
    every = flat_every;
  }
