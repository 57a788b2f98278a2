-- Tiles of pieces, value after value.
use Rattle.run_plane.proofs.Common.{◌≡◌, ◌≢◌, ◌⊎◌, inl, inr, ℕ, ◌+◌, ◌<◌, ◌≤◌, true, List, [], ◌++◌, length, get_or, refl, sym, ◌∙◌, ap, subst}
use Rattle.run_plane.proofs.Common.{arith, All, AllPairs, cases_lt, Contains-permutation, IsPermutation-sym, In, In-get_or, In-append_left}
use Rattle.run_plane.proofs.Common.{In-append_right, In-append_cases, In-map, In-map_source, Square, Rect, Piece, AreDisjoint, common_rect, Covers}
use Rattle.run_plane.proofs.Common.{IsProper, IsStrip, IsStrips, IsInUnion, corner_key, All-In, rects_with, parts_in, IsInPieces, AreTilesFrom}
use Rattle.std.proofs.Common.{Bool}
use Rattle.std.specs.Prelude.{IsPermutation, filter, ◌==◌}
use Rattle.std.specs.List.Sorted.{IsSortedByKey}
use Rattle.finite_sets.specs.Lists.{Distinct}
use Rattle.finite_sets.proofs.Distincts.{Distinct-append, Distinct-map, Distinct-filter, Distinct-places, Distinct-from_places}
use Rattle.finite_sets.proofs.Members.{In-filter, In-filter_source, In-filter_passes, Contains-from_In, In-from_Contains}
use Rattle.geo_core.specs.Areas.{has_square}
use Rattle.geo_core.specs.Strips.{StandsBefore}
use Rattle.geo_core.proofs.CoveringLaws.{IsProper-has_square, has_square-IsProper, covers_first, covers_both, covers_is_proper, corner_covered}
use Rattle.geo_core.proofs.CornerLaws.{pair_cmp, sorted_by_corner}
use Rattle.finite_sets.proofs.Pairs.{AllPairs-permutation}
use Rattle.geo_core.proofs.SquareLaws.{piece_is}
use Rattle.geo_core.proofs.StripSets.{one_strip_at, strip_within, strips_same, StandsBefore-irreflexive}
use Rattle.run_plane.specs.steps.Listings.{AgreeOnSquares, IsTileFrom, HaveTileAt}

same_number : (m n : ℕ) → (m == n) ≡ true → m ≡ n
same_number m n test = grind arith

number_same : (m n : ℕ) → m ≡ n → (m == n) ≡ true
number_same m n e = grind arith

-- the areas of pieces of one value cover what these pieces cover
pub strips_of_pieces : (pieces : List Piece) (value : ℕ) (found : List Rect) → IsStrips (IsInUnion (rects_with pieces value)) found
    → IsStrips (IsInPieces pieces value) found
strips_of_pieces pieces value found strips = strips_same (IsInUnion (rects_with pieces value)) (IsInPieces pieces value)
    (λ square covered.
    let source = In-map_source (λ (piece : Piece). piece.area) covered.0 (filter (λ piece. piece.value == value) pieces) covered.1.0 in
    let piece = source.0 in
    let test : (piece.value == value) ≡ true = In-filter_passes (λ (piece : Piece). piece.value == value) piece pieces source.1.0 in (
      piece,
      In-filter_source (λ (piece : Piece). piece.value == value) piece pieces source.1.0,
      same_number piece.value value
          test,
      subst (λ (area : Rect). Covers area square) (sym source.1.1) covered.1.1,
    ))
    (λ square covered.
    let piece = covered.0 in (
      piece.area,
      (
        In-map (λ (piece : Piece). piece.area) piece (filter (λ piece. piece.value == value) pieces)
            (In-filter (λ (piece : Piece). piece.value == value) piece pieces covered.1 (number_same piece.value value covered.2)),
        covered.3,
      ),
    ))
    found strips

strips_distinct : (S : Square → Type 0) (areas : List Rect) → IsStrips S areas → Distinct areas
strips_distinct S areas strips = Distinct-from_places areas (λ i j d less within e. StandsBefore-irreflexive (get_or areas j d)
    (subst (λ (a : Rect). StandsBefore a (get_or areas j d)) e (strips.ordered i j d less within)))

-- the tiles of the values up to below
pub record AreTilesUpTo (pieces : List Piece) (area : Rect) (below : ℕ) (tiles : List Piece) : Type 0 where
  pub each : (tile : Piece) → In tile tiles → IsTileFrom pieces area tile
  pub low : (tile : Piece) → In tile tiles → tile.value ≤ below
  pub every : (tile : Piece) → IsTileFrom pieces area tile → tile.value ≤ below → In tile tiles
  pub whole : (value : ℕ) (square : Square) → value ≢ 0 → value ≤ below → Covers area square → IsInPieces pieces value square → HaveTileAt tiles value square
  pub distinct : Distinct tiles

module _ (pieces : List Piece) (area : Rect) (agree : AgreeOnSquares pieces) where
  -- the strip of a tile covers the tile's squares, and a piece of the tile's value does
  in_strip : (tile : Piece) (is : IsTileFrom pieces area tile) (square : Square) → Covers tile.area square → Covers is.strip square
  in_strip tile is square c = covers_first is.strip area square (subst (λ (a : Rect). Covers a square) is.cut c)

  piece_of_tile : (tile : Piece) (is : IsTileFrom pieces area tile) (square : Square) → Covers tile.area square → IsInPieces pieces tile.value square
  piece_of_tile tile is square c =
      let d = in_strip tile is square c in
      let found = strip_within (IsInPieces pieces tile.value) is.strip is.is_strip square.x square.y
      (record { right_of_xlo = d.right_of_xlo; left_of_xhi = d.left_of_xhi; above_ylo = d.above_ylo; below_yhi = d.below_yhi }) in
      let c' = found.3 in
      (found.0, found.1, found.2, record { right_of_xlo = c'.right_of_xlo; left_of_xhi = c'.left_of_xhi; above_ylo = c'.above_ylo; below_yhi = c'.below_yhi })

  -- tiles that share a square are one
  one_tile : (a b : Piece) → IsTileFrom pieces area a → IsTileFrom pieces area b → (square : Square) → Covers a.area square → Covers b.area square → a ≡ b
  one_tile a b p q square c d =
      let x = piece_of_tile a p square c in
      let y = piece_of_tile b q square d in
      let values : a.value ≡ b.value = sym x.2 ∙ agree x.0 y.0 x.1 y.1 square x.3 y.3 ∙ y.2 in
      let strip : IsStrip (IsInPieces pieces b.value) p.strip = subst (λ (v : ℕ). IsStrip (IsInPieces pieces v) p.strip) values p.is_strip in
      let strips : p.strip ≡ q.strip = one_strip_at (IsInPieces pieces b.value) p.strip q.strip strip q.is_strip square (in_strip a p square c)
      (in_strip b q square d) in
      piece_is a b (p.cut ∙ ap (λ (r : Rect). common_rect r area) strips ∙ sym q.cut) values

  pub no_tiles : AreTilesUpTo pieces area 0 []
  no_tiles = record {
    each = λ tile i. absurd i;
    low = λ tile i. absurd i;
    every = λ tile is p.
        absurd (is.material (omega arith));
    whole = λ value square n p c i. absurd (n (omega arith));
    distinct = tt;
  }

  module _ (below : ℕ) (strips : List Rect) (are : IsStrips (IsInPieces pieces (below + 1)) strips) where
    Part : Rect → Piece
    Part strip = record { area = common_rect strip area; value = below + 1 }

    meets : Rect → Bool
    meets strip = has_square (common_rect strip area)

    part_is : (tile : Piece) → In tile (parts_in strips area (below + 1)) → IsTileFrom pieces area tile × (tile.value ≡ below + 1)
    part_is tile i =
        let source = In-map_source (λ (strip : Rect). record { area = common_rect strip area; value = below + 1 }) tile
        (filter (λ strip. has_square (common_rect strip area)) strips) i in
        let strip = source.0 in
        let there = In-filter_source (λ (strip : Rect). has_square (common_rect strip area)) strip strips source.1.0 in
        let proper = IsProper-has_square (common_rect strip area) (In-filter_passes (λ (strip : Rect). has_square (common_rect strip area)) strip strips
        source.1.0) in
        let is : IsTileFrom pieces area (record { area = common_rect strip area; value = below + 1 }) = record {
          material = λ e.
              omega arith;
          strip = strip;
          is_strip = are.each strip there;
          cut = refl;
          meets = proper;
        } in
        (subst (IsTileFrom pieces area) source.1.1 is, sym (ap (λ (p : Piece). p.value) source.1.1))

    part_there : (tile : Piece) → IsTileFrom pieces area tile → tile.value ≡ below + 1 → In tile (parts_in strips area (below + 1))
    part_there tile is e =
        let strip : IsStrip (IsInPieces pieces (below + 1)) is.strip = subst (λ (v : ℕ). IsStrip (IsInPieces pieces v) is.strip) e is.is_strip in
        let test = has_square-IsProper (common_rect is.strip area) (subst IsProper is.cut is.meets) in
        let there = In-map (λ (strip : Rect). record { area = common_rect strip area; value = below + 1 }) is.strip
        (filter (λ strip. has_square (common_rect strip area)) strips)
        (In-filter (λ (strip : Rect). has_square (common_rect strip area)) is.strip strips (are.every is.strip strip) test) in
        subst (λ (p : Piece). In p (parts_in strips area (below + 1))) (piece_is (record { area = common_rect is.strip area; value = below + 1 }) tile
        (sym is.cut) (sym e)) there

    part_at : (square : Square) → Covers area square → IsInPieces pieces (below + 1) square → HaveTileAt (parts_in strips area (below + 1)) (below + 1) square
    part_at square inside covered =
        let found = are.whole square covered in
        let strip = found.0 in
        let common = covers_both strip area square found.1.1 inside in
        let test = has_square-IsProper (common_rect strip area) (covers_is_proper (common_rect strip area) square common) in
        record {
          tile = record { area = common_rect strip area; value = below + 1 };
          in_list = In-map (λ (strip : Rect). record { area = common_rect strip area; value = below + 1 }) strip
              (filter (λ strip. has_square (common_rect strip area)) strips)
              (In-filter (λ (strip : Rect). has_square (common_rect strip area)) strip strips found.1.0 test);
          covers = common;
          value_is = refl;
        }

    parts_distinct : Distinct (parts_in strips area (below + 1))
    parts_distinct = Distinct-map (λ (strip : Rect). record { area = common_rect strip area; value = below + 1 })
        (filter (λ strip. has_square (common_rect strip area)) strips)
        (λ a b i j e.
        let proper = IsProper-has_square (common_rect a area) (In-filter_passes (λ (strip : Rect). has_square (common_rect strip area)) a strips i) in
        let square : Square = record { x = (common_rect a area).xlo; y = (common_rect a area).ylo } in
        let c = corner_covered (common_rect a area) proper in
        one_strip_at (IsInPieces pieces (below + 1)) a b
        (are.each a (In-filter_source (λ (strip : Rect). has_square (common_rect strip area)) a strips i))
        (are.each b (In-filter_source (λ (strip : Rect). has_square (common_rect strip area)) b strips j))
        square (covers_first a area square c) (covers_first b area square (subst (λ (p : Piece). Covers p.area square) e c)))
        (Distinct-filter (λ (strip : Rect). has_square (common_rect strip area)) strips (strips_distinct (IsInPieces pieces (below + 1)) strips are))

    -- the tiles of one more value
    pub more_tiles : (tiles : List Piece) → AreTilesUpTo pieces area below tiles
        → AreTilesUpTo pieces area (below + 1) (tiles ++ parts_in strips area (below + 1))
    more_tiles tiles old =
        let parts = parts_in strips area (below + 1) in
        record {
          each = λ tile i. elim (In-append_cases tile tiles parts i) [ inl j ↦ old.each tile j | inr j ↦ (part_is tile j).0 ];
          low = λ tile i. elim (In-append_cases tile tiles parts i) [
            | inl j ↦ (let h = old.low tile j in omega arith)
            | inr j ↦
                (let h = (part_is tile j).1 in omega arith)
          ];
          every = λ tile is p. elim (at_most tile.value below p) [
            | inl h ↦ In-append_left tile tiles parts (old.every tile is h)
            | inr e ↦ In-append_right tile tiles parts (part_there tile is e)
          ];
          whole = λ value square n p inside covered. elim (at_most value below p) [
            | inl h ↦ (let t = old.whole value square n h inside covered in
                record { tile = t.tile; in_list = In-append_left t.tile tiles parts t.in_list; covers = t.covers; value_is = t.value_is })
            | inr e ↦ (let t = part_at square inside (subst (λ (v : ℕ). IsInPieces pieces v square) e covered) in
                record { tile = t.tile; in_list = In-append_right t.tile tiles parts t.in_list; covers = t.covers; value_is = t.value_is ∙ sym e })
          ];
          distinct = Distinct-append tiles parts old.distinct parts_distinct (λ tile i j. let h = old.low tile i in let e = (part_is tile j).1 in omega arith);
        }
      where
        at_most : (m n : ℕ) → m ≤ n + 1 → (m ≤ n) ⊎ (m ≡ n + 1)
        at_most m n p = elim (cases_lt n m) [ inl h ↦ inr (omega (arith, h)) | inr h ↦ inl h ]

  -- all tiles, sorted
  pub sorted_tiles : (top : ℕ) (tiles sorted : List Piece) → All (λ piece. piece.value ≤ top) pieces → AreTilesUpTo pieces area top tiles
      → IsPermutation tiles sorted → IsSortedByKey corner_key pair_cmp sorted → AreTilesFrom pieces area sorted
  sorted_tiles top tiles sorted highest are moved in_order =
      let back : (tile : Piece) → In tile sorted → In tile tiles = λ tile i.
      In-from_Contains tile tiles (Contains-permutation sorted tiles tile (IsPermutation-sym tiles sorted moved) (Contains-from_In tile sorted i)) in
      let there : (tile : Piece) → In tile tiles → In tile sorted = λ tile i.
      In-from_Contains tile sorted (Contains-permutation tiles sorted tile moved (Contains-from_In tile tiles i)) in
      let each : (tile : Piece) → In tile sorted → IsTileFrom pieces area tile = λ tile i. are.each tile (back tile i) in
      let low : (tile : Piece) → IsTileFrom pieces area tile → tile.value ≤ top = λ tile is.
      let found = piece_of_tile tile is (record { x = tile.area.xlo; y = tile.area.ylo }) (corner_covered tile.area is.meets) in
      subst (λ (v : ℕ). v ≤ top) found.2 (All-In (λ piece. piece.value ≤ top) pieces found.0 highest found.1) in
      let two : AllPairs (λ (a b : Piece). a ≢ b) sorted =
      AllPairs-permutation (λ (a b : Piece). a ≢ b) (λ a b n e. n (sym e)) tiles sorted moved
      (λ i j d less within. Distinct-places tiles i j d are.distinct less within) in
      let at : (i : ℕ) (d : Piece) → i < length sorted → IsTileFrom pieces area (get_or sorted i d) = λ i d within. each (get_or sorted i d)
      (In-get_or sorted i d within) in
      let apart : AllPairs (λ (a b : Piece). AreDisjoint a.area b.area) sorted = λ i j d less within square c e.
      two i j d less within (one_tile (get_or sorted i d) (get_or sorted j d) (at i d (omega arith)) (at j d within) square c e) in
      record {
        each = each;
        every = λ tile is. there tile (are.every tile is (low tile is));
        whole = λ value square n inside covered.
            let most : value ≤ top = subst (λ (v : ℕ). v ≤ top) covered.2 (All-In (λ piece. piece.value ≤ top) pieces covered.0 highest covered.1) in
            let t = are.whole value square n most inside covered in
            record { tile = t.tile; in_list = there t.tile t.in_list; covers = t.covers; value_is = t.value_is };
        ordered = sorted_by_corner sorted (λ i d within. (at i d within).meets) apart in_order;
      }
