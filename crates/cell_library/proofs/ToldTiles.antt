-- Lists of the tiles of standing cells.
use Rattle.cell_library.proofs.Common.{◌≡◌, ◌+◌, ℕ, List, [], ◌++◌, length, refl, sym, ap, subst, ◌∙◌, arith, inl, inr, append_assoc}
use Rattle.cell_library.proofs.Common.{slice_get_within, append-nil, In-append_left, In-append_right, In-append_cases, In-slice_get, Square, Rect}
use Rattle.cell_library.proofs.Common.{Covers, image, inverted, image-forth, Place, Standing, PartTile, IsCutOf, HasThere, AreTold, AddsTiles}
use Rattle.cell_library.proofs.Common.{AreOutside}
use Rattle.geo_core.proofs.FiniteSets.Distincts.{Distinct-append}
use Rattle.geo_core.proofs.FiniteSets.Places.{slice_get-append_left, slice_get-append_right, slice_get-append_cases}
use Rattle.geo_core.specs.Images.{rect_image}
use Rattle.geo_core.proofs.CoveringLaws.{covers_first, covers_second, corner_covered}
use Rattle.geo_core.proofs.ImageLaws.{rect_image-covered}
use Rattle.geo_core.proofs.StripSets.{strip_within}

-- ---- places in lists

-- ---- squares of tiles

-- where a tile of a standing cell covers a place, the cell has the tile's type
pub cut_type : (standing : Standing) (area : Rect) (tile : PartTile) (square : Square) → IsCutOf standing area tile → Covers tile.area square
    → standing.own.layout (record { plane = tile.plane; square = image (inverted standing.placed) square }) ≡ tile.kind.0
cut_type standing area tile square is covers =
    let back = image (inverted standing.placed) square in
    let in_image : Covers (rect_image standing.placed is.strip) square =
    covers_first (rect_image standing.placed is.strip) area square (subst (λ (a : Rect). Covers a square) is.cut covers) in
    let in_strip : Covers is.strip back =
    rect_image-covered standing.placed is.strip back (subst (Covers (rect_image standing.placed is.strip)) (sym
    (image-forth standing.placed square)) in_image) in
    strip_within (λ s. standing.own.layout (record { plane = tile.plane; square = s }) ≡ tile.kind.0) is.strip is.is_strip back.x back.y in_strip

-- a tile of a standing cell tells of a place in the area where the cell has something
pub cut_has_place : (standing : Standing) (area : Rect) (tile : PartTile) → IsCutOf standing area tile
    → (place : Place) × Covers area place.square × HasThere standing place
cut_has_place standing area tile is =
    let corner : Square = record { x = tile.area.xlo; y = tile.area.ylo } in
    let covered = corner_covered tile.area is.meets in
    let same = cut_type standing area tile corner is covered in (
      record { plane = tile.plane; square = corner },
      covers_second (rect_image standing.placed is.strip) area corner (subst (λ (a : Rect). Covers a corner) is.cut covered),
      λ none. is.material (sym same ∙ none),
    )

-- ---- lists of tiles

-- standing cells that have nothing in the area have no tiles there
pub told_none : (cells : List Standing) (first : ℕ) (area : Rect) → AreOutside area cells → AreTold cells first area []
told_none cells first area outside = record {
  distinct = tt;
  each = λ tile none. absurd none;
  every = λ tile is.
      let place = cut_has_place is.standing area tile is.cut in
      outside is.standing (In-slice_get cells is.k is.standing is.there) place.0 place.1 place.2;
  whole = λ k standing there place covers has. absurd (outside standing (In-slice_get cells k standing there) place covers has);
}

-- the tiles of two lists of standing cells, one after the other
pub told_append : (cells others : List Standing) (first next : ℕ) (area : Rect) (tiles more : List PartTile) → AreTold cells first area tiles
    → next ≡ first + length cells → AreTold others next area more → AreTold (cells ++ others) first area (tiles ++ more)
told_append cells others first next area tiles more one after two = record {
  distinct = Distinct-append tiles more one.distinct two.distinct (λ tile a b.
      let p = one.each tile a in
      let q = two.each tile b in
      let low = slice_get_within cells p.k p.standing p.there in
      let p_at = p.at in
      let q_at = q.at in
      absurd (omega (arith, low, p_at, q_at, after)));
  each = λ tile is. elim (In-append_cases tile tiles more is) [
    | inl a ↦ (
        let p = one.each tile a in
        record { k = p.k; at = p.at; standing = p.standing; there = slice_get-append_left cells others p.k p.standing p.there; cut = p.cut })
    | inr b ↦ (
        let q = two.each tile b in
        let q_at = q.at in
        record {
          k = length cells + q.k;
          at = omega (arith, q_at, after);
          standing = q.standing;
          there = slice_get-append_right cells others q.k (length cells + q.k) refl ∙ q.there;
          cut = q.cut;
        })
  ];
  every = λ tile is. elim (slice_get-append_cases cells others is.k is.standing is.there) [
    | inl a ↦ In-append_left tile tiles more (one.every tile (record { k = is.k; at = is.at; standing = is.standing; there = a; cut = is.cut }))
    | inr b ↦ (
        let is_at = is.at in
        let same = b.1 in
        In-append_right tile tiles more (two.every tile (record {
          k = b.0;
          at = omega (arith, is_at, after, same);
          standing = is.standing;
          there = b.2;
          cut = is.cut;
        })))
  ];
  whole = λ k standing there place covers has. elim (slice_get-append_cases cells others k standing there) [
    | inl a ↦ (
        let found = one.whole k standing a place covers has in
        record {
          tile = found.tile;
          is_in = In-append_left found.tile tiles more found.is_in;
          at = found.at;
          plane = found.plane;
          covers = found.covers;
        })
    | inr b ↦ (
        let found = two.whole b.0 standing b.2 place covers has in
        let found_at = found.at in
        let same = b.1 in
        record {
          tile = found.tile;
          is_in = In-append_right found.tile tiles more found.is_in;
          at = omega (arith, found_at, after, same);
          plane = found.plane;
          covers = found.covers;
        })
  ];
}

-- no tiles were added
pub adds_none : (cells : List Standing) (first : ℕ) (area : Rect) (tiles : List PartTile) → AreOutside area cells
    → AddsTiles cells first area tiles tiles
adds_none cells first area tiles outside = record { tiles = []; is = sym (append-nil tiles); told = told_none cells first area outside }

-- tiles were added twice
pub adds_both : (cells others : List Standing) (first next : ℕ) (area : Rect) (old mid new : List PartTile) → AddsTiles cells first area old mid
    → next ≡ first + length cells → AddsTiles others next area mid new → AddsTiles (cells ++ others) first area old new
adds_both cells others first next area old mid new one after two = record {
  tiles = one.tiles ++ two.tiles;
  is = two.is ∙ ap (λ (xs : List PartTile). xs ++ two.tiles) one.is ∙ append_assoc old one.tiles two.tiles;
  told = told_append cells others first next area one.tiles two.tiles one.told after two.told;
}
