-- The tiles that one standing cell has of its own, plane by plane.
use Rattle.cell_library.proofs.Common.{◌≡◌, ◌≢◌, ◌⊎◌, ◌+◌, ◌<◌, ℕ, zero, suc, ◌<ℤ◌, List, [], ◌∷◌, ◌++◌, map, get_or, refl, sym, ap, subst, ◌∙◌}
use Rattle.cell_library.proofs.Common.{arith, inl, inr, append_assoc, slice_get, cases_lt, ints, In, Distinct, In-append_left, In-append_right}
use Rattle.cell_library.proofs.Common.{In-append_cases, In-map, In-map_source, Square, Rect, Piece, common_rect, LiesWithin, Covers, IsProper}
use Rattle.cell_library.proofs.Common.{inverted, AreTilesIn, covers_both, filled_within, image-forth, rect_image-covers, Layout, IsMaterial, Place}
use Rattle.cell_library.proofs.Common.{Standing, place_back, kinds_on, PartTile, Spot, standing_at, tile_at, AddsOwn, LibraryView, view_at, IsCutOf}
use Rattle.cell_library.proofs.Common.{HasThere, AddsTiles}
use Rattle.std.proofs.Common.{Some}
use Rattle.geo_core.proofs.FiniteSets.Distincts.{Distinct-append, Distinct-map, Distinct-from_places}
use Rattle.geo_core.specs.Images.{rect_image}
use Rattle.geo_core.specs.Planes.{HasValue, IsTileIn}
use Rattle.geo_core.specs.Strips.{IsStrip, StandsBefore}
use Rattle.geo_core.proofs.StripSets.{strip_is_proper, strip_within}
use Rattle.cell_library.specs.steps.VisitedTiles.{HasTileAt, AreOwnTold}
use Rattle.cell_library.proofs.PlacedRects.{cut_there, rect_back, rect_proper, rect_unproper, covers_back}

-- ---- pieces

not_before_itself : (a b : Rect) → a ≡ b → StandsBefore a b → ⊥
not_before_itself a b same (inl less) = omega (arith, ints, ap (λ (r : Rect). r.ylo) same, less)
not_before_itself a b same (inr less) = let x = ap (λ (r : Rect). r.xlo) same in let l : a.xlo <ℤ b.xlo = less.1 in omega (arith, ints, x, l)

distinct_pieces : (values : Square → ℕ) (area : Rect) (pieces : List Piece) → AreTilesIn values area pieces → Distinct pieces
distinct_pieces values area pieces are =
    Distinct-from_places pieces (λ i j d less below same.
    not_before_itself (get_or pieces i d).area (get_or pieces j d).area (ap (λ (p : Piece). p.area) same) (are.ordered i j d less below))

tile_injective : (spot : Spot) (plane : ℕ) (a b : Piece) → tile_at spot plane a ≡ tile_at spot plane b → a ≡ b
tile_injective spot plane a b same =
    let areas : a.area ≡ b.area =
    sym (rect_back spot.to_top a.area) ∙ ap (λ (t : PartTile). rect_image (inverted spot.to_top) t.area) same ∙ rect_back spot.to_top b.area in
    let values : a.value ≡ b.value = ap (λ (t : PartTile). t.kind.0) same in
    λ i. record { area = areas i; value = values i }

-- ---- one plane

-- all own material of the cell at the spot lies in the hull
abbrev pub HullHoldsOwn : Layout → Rect → Type 0
HullHoldsOwn layout hull = (place : Place) → IsMaterial layout place → Covers hull place.square

-- where an area comes back to the cell at a spot, within the hull
abbrev pub near_spot : Spot → Rect → Rect → Rect
near_spot spot hull area = common_rect (rect_image (inverted spot.to_top) area) hull

strip_in_hull : (layout : Layout) (hull : Rect) (plane kind : ℕ) (strip : Rect) → HullHoldsOwn layout hull → kind ≢ 0
    → IsStrip (HasValue (kinds_on layout plane) kind) strip → LiesWithin strip hull
strip_in_hull layout hull plane kind strip holds material is =
    filled_within strip hull (strip_is_proper (HasValue (kinds_on layout plane) kind) strip is) (λ square covers.
    holds (record { plane = plane; square = square }) (λ none.
    material (sym (strip_within (HasValue (kinds_on layout plane) kind) strip is square.x square.y covers) ∙ none)))

piece_is_cut : (view : LibraryView) (spot : Spot) (hull area : Rect) (plane : ℕ) (piece : Piece) → HullHoldsOwn (view_at view spot.cell.0).own hull
    → IsTileIn (kinds_on (view_at view spot.cell.0).own plane) (near_spot spot hull area) piece
    → IsCutOf (standing_at view spot) area (tile_at spot plane piece)
piece_is_cut view spot hull area plane piece holds is = record {
  part = refl;
  of = refl;
  to_cell = refl;
  strip = is.strip;
  is_strip = is.is_strip;
  material = is.material;
  cut = ap (rect_image spot.to_top) is.cut
      ∙ cut_there spot.to_top is.strip hull area (strip_in_hull (view_at view spot.cell.0).own hull plane piece.value is.strip holds is.material
      is.is_strip);
  meets = rect_proper spot.to_top piece.area is.meets;
}

-- a tile of the cell is one of the pieces
record IsPiece (spot : Spot) (values : Square → ℕ) (near : Rect) (plane : ℕ) (tile : PartTile) : Type 0 where
  piece : Piece
  is : IsTileIn values near piece
  same : tile_at spot plane piece ≡ tile

cut_is_piece : (view : LibraryView) (spot : Spot) (hull area : Rect) (plane : ℕ) (tile : PartTile) → HullHoldsOwn (view_at view spot.cell.0).own hull
    → IsCutOf (standing_at view spot) area tile → tile.element ≡ spot.element → tile.plane ≡ plane
    → IsPiece spot (kinds_on (view_at view spot.cell.0).own plane) (near_spot spot hull area) plane tile
cut_is_piece view spot hull area plane tile holds cut number on =
    let layout = (view_at view spot.cell.0).own in
    let near = near_spot spot hull area in
    let strip_is : IsStrip (HasValue (kinds_on layout plane) tile.kind.0) cut.strip =
    subst (λ (p : ℕ). IsStrip (HasValue (kinds_on layout p) tile.kind.0) cut.strip) on cut.is_strip in
    let areas : rect_image spot.to_top (common_rect cut.strip near) ≡ tile.area =
    cut_there spot.to_top cut.strip hull area (strip_in_hull layout hull plane tile.kind.0 cut.strip holds cut.material strip_is) ∙ sym cut.cut in
    let parts = sym cut.part in
    let numbers = sym number in
    let cells = sym cut.of in
    let moves = sym cut.to_cell in
    let planes = sym on in
    record {
      piece = record { area = common_rect cut.strip near; value = tile.kind.0 };
      is = record {
        material = cut.material;
        strip = cut.strip;
        is_strip = strip_is;
        cut = refl;
        meets = rect_unproper spot.to_top (common_rect cut.strip near) (subst IsProper (sym areas) cut.meets);
      };
      same = λ i. record {
        part = parts i;
        element = numbers i;
        of = record { 0 = cells i };
        to_cell = moves i;
        plane = planes i;
        area = areas i;
        kind = tile.kind;
      };
    }

-- no plane is told yet
pub own_none : (own : Standing) (number : ℕ) (area : Rect) (tiles : List PartTile) → AddsOwn 0 own number area tiles tiles
own_none own number area tiles = record {
  tiles = [];
  is = sym (append_none tiles);
  told = record {
    distinct = tt;
    each = λ tile none. absurd none;
    every = λ tile cut at low. absurd (omega (arith, low));
    whole = λ place low. absurd (omega (arith, low));
  };
}
  where
    append_none : (xs : List PartTile) → xs ++ [] ≡ xs
    append_none [] = refl
    append_none (x ∷ xs) = ap (λ ys. x ∷ ys) (append_none xs)

below_or_at : (k n : ℕ) → k < suc n → (k < n) ⊎ (k ≡ n)
below_or_at k n below = elim (cases_lt k n) [
  | inl less ↦ inl less
  | inr past ↦ inr (omega arith)
]

-- one more plane is told
pub own_plane : (view : LibraryView) (spot : Spot) (hull area : Rect) (plane : ℕ) (tiles : List PartTile) (pieces : List Piece)
    → HullHoldsOwn (view_at view spot.cell.0).own hull → AreOwnTold plane (standing_at view spot) spot.element area tiles
    → AreTilesIn (kinds_on (view_at view spot.cell.0).own plane) (near_spot spot hull area) pieces
    → AreOwnTold (suc plane) (standing_at view spot) spot.element area (tiles ++ map (tile_at spot plane) pieces)
own_plane view spot hull area plane tiles pieces holds told are =
    let layout = (view_at view spot.cell.0).own in
    let near = near_spot spot hull area in
    let more = map (tile_at spot plane) pieces in
    record {
      distinct = Distinct-append tiles more told.distinct
          (Distinct-map (tile_at spot plane) pieces (λ a b _ _ same. tile_injective spot plane a b same) (distinct_pieces
          (kinds_on layout plane) near pieces are))
          (λ tile one two.
          let low = (told.each tile one).2 in
          let source = In-map_source (tile_at spot plane) tile pieces two in
          let on : plane ≡ tile.plane = ap (λ (t : PartTile). t.plane) source.1.1 in
          absurd (omega (arith, low, on)));
      each = λ tile stands. elim (In-append_cases tile tiles more stands) [
        | inl old ↦ (let is = told.each tile old in let low = is.2 in (is.0, is.1, omega (arith, low)))
        | inr new ↦ (
            let source = In-map_source (tile_at spot plane) tile pieces new in
            let piece = source.0 in
            let whole : IsCutOf (standing_at view spot) area (tile_at spot plane piece) × (spot.element ≡ spot.element) × (plane < suc plane) =
            (piece_is_cut view spot hull area plane piece holds (are.each piece source.1.0), refl, omega arith) in
            subst (λ (t : PartTile). IsCutOf (standing_at view spot) area t × (t.element ≡ spot.element) × (t.plane < suc plane)) source.1.1 whole)
      ];
      every = λ tile cut number low. elim (below_or_at tile.plane plane low) [
        | inl before ↦ In-append_left tile tiles more (told.every tile cut number before)
        | inr on ↦ (
            let found = cut_is_piece view spot hull area plane tile holds cut number on in
            In-append_right tile tiles more
            (subst (λ (t : PartTile). In t more) found.same (In-map (tile_at spot plane) found.piece pieces (are.every found.piece found.is))))
      ];
      whole = λ place low covers has. elim (below_or_at place.plane plane low) [
        | inl before ↦ (
            let found = told.whole place before covers has in
            record {
              tile = found.tile;
              is_in = In-append_left found.tile tiles more found.is_in;
              at = found.at;
              plane = found.plane;
              covers =
                  found.covers;
            })
        | inr on ↦ (
            let back = (place_back spot.to_top place).square in
            let there : kinds_on layout plane back ≢ 0 = subst (λ (p : ℕ). kinds_on layout p back ≢ 0) on has in
            let in_near : Covers near back =
            covers_both (rect_image (inverted spot.to_top) area) hull back (covers_back spot.to_top area place covers) (holds
            (place_back spot.to_top place) has) in
            let found = are.whole back in_near there in
            record {
              tile = tile_at spot plane found.0;
              is_in = In-append_right _ tiles more (In-map (tile_at spot plane) found.0 pieces found.1);
              at = omega arith;
              plane = sym on;
              covers = subst (Covers (rect_image spot.to_top found.0.area)) (image-forth spot.to_top place.square)
                  (rect_image-covers spot.to_top found.0.area back found.2);
            })
      ];
    }

-- the tiles of one more plane were added
pub own_more : (view : LibraryView) (spot : Spot) (hull area : Rect) (plane next : ℕ) (old mid new : List PartTile) (pieces : List Piece)
    → HullHoldsOwn (view_at view spot.cell.0).own hull → AddsOwn plane (standing_at view spot) spot.element area old mid → next ≡ suc plane
    → AreTilesIn (kinds_on (view_at view spot.cell.0).own plane) (near_spot spot hull area) pieces
    → new ≡ mid ++ map (tile_at spot plane) pieces → AddsOwn next (standing_at view spot) spot.element area old new
own_more view spot hull area plane next old mid new pieces holds adds after are is = record {
  tiles = adds.tiles ++ map (tile_at spot plane) pieces;
  is = is ∙ ap (λ (xs : List PartTile). xs ++ map (tile_at spot plane) pieces) adds.is
      ∙ append_assoc old adds.tiles (map (tile_at spot plane) pieces);
  told = subst (λ (n : ℕ). AreOwnTold n (standing_at view spot) spot.element area (adds.tiles ++ map (tile_at spot plane) pieces)) (sym after)
      (own_plane view spot hull area plane adds.tiles pieces holds adds.told are);
}

-- Once all planes are told that have material, all own tiles are.
pub own_all : (view : LibraryView) (spot : Spot) (area : Rect) (planes : ℕ) (old new : List PartTile)
    → ((place : Place) → IsMaterial (view_at view spot.cell.0).own place → place.plane < planes)
    → AddsOwn planes (standing_at view spot) spot.element area old new → AddsTiles (standing_at view spot ∷ []) spot.element area old new
own_all view spot area planes old new placed adds =
    let own = standing_at view spot in
    record {
      tiles = adds.tiles;
      is = adds.is;
      told = record {
        distinct = adds.told.distinct;
        each = λ tile stands.
            let is = adds.told.each tile stands in
            let at = is.1 in record { k = 0; at = omega (arith, at); standing = own; there = refl; cut = is.0 };
        every = λ tile is. only tile is.k is.standing is.there is.at is.cut;
        whole = λ k standing there place covers has. first k standing there place covers has;
      };
    }
  where
    plane_of_cut : (tile : PartTile) → IsCutOf (standing_at view spot) area tile → tile.plane < planes
    plane_of_cut tile cut =
        let proper = strip_is_proper (λ square. (view_at view spot.cell.0).own (record {
          plane = tile.plane;
          square =
              square;
        }) ≡ tile.kind.0) cut.strip cut.is_strip in
        let corner : Covers cut.strip (record { x = cut.strip.xlo; y = cut.strip.ylo }) = record {
          right_of_xlo = omega (arith, ints);
          left_of_xhi = proper.wide;
          above_ylo = omega (arith, ints);
          below_yhi = proper.high;
        } in
        let value = strip_within (λ square. (view_at view spot.cell.0).own (record {
          plane = tile.plane;
          square =
              square;
        }) ≡ tile.kind.0) cut.strip cut.is_strip
        cut.strip.xlo cut.strip.ylo corner in
        placed (record { plane = tile.plane; square = record { x = cut.strip.xlo; y = cut.strip.ylo } }) (λ none. cut.material (sym value ∙ none))

    only : (tile : PartTile) (k : ℕ) (standing : Standing) → slice_get (standing_at view spot ∷ []) k ≡ Some standing
        → tile.element ≡ spot.element + k
        → IsCutOf standing area tile → In tile adds.tiles
    only tile zero standing there at cut =
        let same : standing ≡ standing_at view spot = cc in
        let own_cut : IsCutOf (standing_at view spot) area tile = subst (λ (s : Standing). IsCutOf s area tile) same cut in
        adds.told.every tile own_cut (omega (arith, at)) (plane_of_cut tile own_cut)
    only tile (suc k) standing there at cut = absurd (cc)

    first : (k : ℕ) (standing : Standing) → slice_get (standing_at view spot ∷ []) k ≡ Some standing → (place : Place) → Covers area place.square
        → HasThere standing place → HasTileAt spot.element k adds.tiles place
    first zero standing there place covers has =
        let same : standing ≡ standing_at view spot = cc in
        let own_has : HasThere (standing_at view spot) place = subst (λ (s : Standing). HasThere s place) same has in
        adds.told.whole place (placed (place_back spot.to_top place) own_has) covers own_has
    first (suc k) standing there place covers has = absurd (cc)
