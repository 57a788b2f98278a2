-- The pieces of parts as tiles: they lie apart, and keep their places and their contacts when they get the numbers of their regions.
use Rattle.tree_merges.proofs.Common.{◌≡◌, ◌≤◌, ◌<◌, ℕ, List, length, get_or, Some, sym, ap, subst, ◌∙◌, arith, slice_get, slice_index, All}
use Rattle.tree_merges.proofs.Common.{AllPairs, get_or-map, length-map, slice_get_within, slice_get-get_or, get_or_from_slice_get, In, Lists}
use Rattle.tree_merges.proofs.Common.{In-map_source, All-from_In, IsNear, Covers, IsProper, RawTech, RegionTile, Place, regions_of, AreSpread}
use Rattle.tree_merges.proofs.Common.{IsTileContact, no_tile, tile_at, PlaneStack, SetLayout, ArePlaneStacks, tile_of, tiles_of}
use Rattle.std.specs.Prelude.{◌↔◌}
use Rattle.finite_sets.proofs.Pairs.{AllPairs-from_Pairwise, Pairwise-from_AllPairs, Pairwise-map}
use Rattle.flood_nodes.specs.RectContacts.declared.contacts.Contact.{Contact}
use Rattle.layout_model.specs.RegionTiles.{LieApart, LiesIn}
use Rattle.flood_nodes.specs.Renumbered.{AreRenumbered, with_region}
use Rattle.flood_nodes.proofs.Renumbering.{numbered_contacts}
use Rattle.offences.specs.TypedStacks.{no_typed_stack}
use Rattle.piece_groups.specs.PieceMembers.{LiesInPiece}

-- what holds of each piece as a tile holds of all tiles
pub all_tiles : (P : RegionTile → Type 0) (stacks : List PlaneStack) → ((piece : PlaneStack) → In piece stacks → P (tile_of piece)) → All P (tiles_of stacks)
all_tiles P stacks each =
    All-from_In P (tiles_of stacks) (λ tile among.
    let source = In-map_source tile_of tile stacks among in
    subst P source.1.1 (each source.0 source.1.0))

-- the pieces lie apart
pub tiles_are_spread : (raw : RawTech) (parts : List SetLayout) (stacks : List PlaneStack) → ArePlaneStacks raw parts stacks → AreSpread (tiles_of stacks)
tiles_are_spread raw parts stacks are = record {
  proper = all_tiles (λ tile. IsProper tile.area) stacks (λ piece among. (are.each piece among).proper);
  near = all_tiles (λ tile. IsNear tile.area) stacks (λ piece among. (are.each piece among).near);
  apart =
      AllPairs-from_Pairwise LieApart (tiles_of stacks)
      (Pairwise-map tile_of LieApart stacks
      (Pairwise-from_AllPairs (λ (a b : PlaneStack). LieApart (tile_of a) (tile_of b)) stacks are.apart));
}

-- and stand plane by plane
pub tiles_by_plane : (stacks : List PlaneStack) → AllPairs (λ a b. a.plane ≤ b.plane) stacks → AllPairs (λ a b. a.plane ≤ b.plane) (tiles_of stacks)
tiles_by_plane stacks by_plane =
    AllPairs-from_Pairwise (λ (a b : RegionTile). a.plane ≤ b.plane) (tiles_of stacks)
    (Pairwise-map tile_of (λ (a b : RegionTile). a.plane ≤ b.plane) stacks
    (Pairwise-from_AllPairs (λ (a b : PlaneStack). a.plane ≤ b.plane) stacks by_plane))

-- ---- tiles with the numbers of their regions

-- tiles without numbers are those with numbers, with their old ones
unnumbered : (tiles : List RegionTile) (labels : List ℕ) (numbered : List RegionTile) → AreRenumbered tiles labels numbered
    → AreRenumbered numbered (regions_of tiles) tiles
unnumbered tiles labels numbered are = record {
  so_many = sym are.so_many;
  each = λ k below.
      let many = are.so_many in
      let inside : k < length tiles = omega (arith, below, many) in
      sym (ap (λ (tile : RegionTile). with_region tile (slice_index (regions_of tiles) k)) (are.each k inside)
      ∙ ap (with_region (tile_at tiles k)) (get_or-map (λ (tile : RegionTile). tile.region) tiles k no_tile 0 inside));
}

-- contacts of tiles with numbers are those of the tiles without
pub unnumbered_contacts : (tiles : List RegionTile) (labels : List ℕ) (numbered : List RegionTile) → AreRenumbered tiles labels numbered
    → (contacts : List Contact) → Lists (IsTileContact numbered) contacts → Lists (IsTileContact tiles) contacts
unnumbered_contacts tiles labels numbered are contacts listed =
    numbered_contacts numbered (regions_of tiles) tiles (unnumbered tiles labels numbered are)
    (length-map tiles (λ (tile : RegionTile). tile.region) ∙ sym are.so_many) contacts listed

module _ (stacks : List PlaneStack) (labels : List ℕ) (tiles : List RegionTile) (are : AreRenumbered (tiles_of stacks) labels tiles) where
  pub as_many : length tiles ≡ length stacks
  as_many = are.so_many ∙ length-map stacks tile_of

  -- each piece has its tile at its index
  piece_there : (index : ℕ) (piece : PlaneStack) → slice_get stacks index ≡ Some piece
      → slice_get tiles index ≡ Some (with_region (tile_of piece) (slice_index labels index))
  piece_there index piece there =
      let below = slice_get_within stacks index piece there in
      let many = as_many in
      let inside : index < length (tiles_of stacks) = omega (arith, below, length-map stacks tile_of) in
      slice_get-get_or tiles index no_tile (omega (arith, below, many))
      ∙ ap (λ (tile : RegionTile). Some tile)
      (are.each index inside
      ∙ ap (λ (tile : RegionTile). with_region tile (slice_index labels index))
      (get_or-map tile_of stacks index piece no_tile below ∙ ap tile_of (get_or_from_slice_get stacks index piece piece there)))

  pub piece_is_tile : (index : ℕ) (place : Place) → LiesInPiece stacks index place ↔ LiesIn tiles index place
  piece_is_tile index place = (
    (λ lies. record {
      tile = with_region (tile_of lies.piece) (slice_index labels index);
      there = piece_there index lies.piece lies.there;
      plane = lies.plane;
      covers = lies.covers;
    }),
    (λ lies.
        let below = slice_get_within tiles index lies.tile lies.there in
        let none : PlaneStack = record { plane = 0; stack = no_typed_stack } in
        let piece = get_or stacks index none in
        let many = as_many in
        let there = slice_get-get_or stacks index none (omega (arith, below, many)) in
        let same : get_or tiles index no_tile ≡ with_region (tile_of piece) (slice_index labels index) =
        get_or_from_slice_get tiles index (with_region (tile_of piece) (slice_index labels index)) no_tile (piece_there index piece there) in
        let is : with_region (tile_of piece) (slice_index labels index) ≡ lies.tile =
        sym same ∙ get_or_from_slice_get tiles index lies.tile no_tile lies.there in
        record {
          piece = piece;
          there = there;
          plane = lies.plane ∙ sym (ap (λ (tile : RegionTile). tile.plane) is);
          covers = subst (λ (tile : RegionTile). Covers tile.area place.square) (sym is) lies.covers;
        }),
  )
