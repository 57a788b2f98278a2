-- The parts of tiles in an area: they lie apart, and cover what the tiles have of it.
use Rattle.tile_plane.proofs.Common.{◌≡◌, ◌≢◌, inl, inr, Bool, true, ℕ, ◌+◌, ◌<◌, ◌≤◌, ◌≤ℤ◌, ◌<ℤ◌, List, [], ◌∷◌, ◌++◌, length, map, take, filter}
use Rattle.tile_plane.proofs.Common.{get_or, refl, sym, ◌∙◌, ap, subst, arith, All, AllPairs, IsPermutation, IsSortedByKey, ints, map-append}
use Rattle.tile_plane.proofs.Common.{take_more, take_all, get_or-take, length-take-le, IsPermutation-sym, In, Distinct, Lists, In-append_left}
use Rattle.tile_plane.proofs.Common.{In-append_right, In-append_cases, In-push_cases, In-push, In-get_or, In-index, AllPairs-permutation}
use Rattle.tile_plane.proofs.Common.{All-from_In, Square, Rect, Piece, AreDisjoint, corner_of, IsNear, LiesWithin, Covers, IsProper, plane_range}
use Rattle.tile_plane.proofs.Common.{AreTilesIn, corner_key, pair_cmp, sorted_by_corner, Tiles, tile_at, Owns, IsPartition, value_at, IsPlane, Meets}
use Rattle.tile_plane.proofs.Common.{part_in, ArePiecesIn}
use Rattle.std.proofs.Common.{append_assoc}
use Rattle.geo_core.proofs.FiniteSets.Members.{In-map, In-map_source, In-filter}
use Rattle.geo_core.proofs.FiniteSets.Members.{In-filter_source, In-filter_passes, In-permutation}
use Rattle.geo_core.proofs.FiniteSets.Pairs.{Pairwise, Pairwise-append, Pairwise-filter, Pairwise-map, AllPairs-from_Pairwise}
use Rattle.geo_core.specs.Areas.{common_rect}
use Rattle.geo_core.specs.Planes.{IsTileIn}
use Rattle.geo_core.specs.Strips.{IsInUnion}
use Rattle.geo_core.proofs.CoveringLaws.{covers_first, covers_second, covers_both, corner_covered, within_covers, common_within}
use Rattle.geo_core.proofs.SquareLaws.{piece_is}
use Rattle.tile_plane.specs.Listings.{AddsParts, IsPieceIn}
use Rattle.tile_plane.proofs.TileLaws.{owner_taken}
use Rattle.tile_plane.proofs.ValueLaws.{value_of_owner}
use Rattle.tile_plane.proofs.FollowerLaws.{near_within}
use Rattle.tile_plane.proofs.MaterialLaws.{owner_of, tile_is_strip, strip_is_tile}

-- things of different tiles lie apart
pub images_apart : (tiles : Tiles) → IsPartition tiles → {X : Type 0} (f : ℕ → X) (area_of : X → Rect)
    → ((id : ℕ) (square : Square) → Covers (area_of (f id)) square → Owns tiles id square)
    → (ids : List ℕ) → Distinct ids → Pairwise (λ a b. AreDisjoint (area_of a) (area_of b)) (map f ids)
images_apart tiles partition {X} f area_of own ids distinct = Pairwise-map f (λ a b. AreDisjoint (area_of a) (area_of b)) ids (go ids distinct)
  where
    go : (ids : List ℕ) → Distinct ids → Pairwise (λ a b. AreDisjoint (area_of (f a)) (area_of (f b))) ids
    go [] distinct = tt
    go (id ∷ ids) distinct = (
      (λ k i square c d. distinct.0 (subst (λ (v : ℕ). In v ids) (partition.one k id square (own k square d) (own id square c)) i)),
      go ids distinct.1,
    )

module _ (tiles : Tiles) (area : Rect) where
  -- a square of the part is one of the tile
  pub part_owns : (id : ℕ) (square : Square) → Covers (part_in tiles area id).area square → Owns tiles id square
  part_owns id square c = record { covers = covers_first (tile_at tiles id).area area square c }

  -- a tile that meets the area has a square in it
  pub part_proper : (id : ℕ) → Meets tiles area id → IsProper (part_in tiles area id).area
  part_proper id meets =
      let c = covers_both (tile_at tiles id).area area meets.square meets.owns.covers meets.covers in
      let left : (part_in tiles area id).area.xlo ≤ℤ meets.square.x = c.right_of_xlo in
      let right : meets.square.x <ℤ (part_in tiles area id).area.xhi = c.left_of_xhi in
      let low : (part_in tiles area id).area.ylo ≤ℤ meets.square.y = c.above_ylo in
      let high : meets.square.y <ℤ (part_in tiles area id).area.yhi = c.below_yhi in
      record { wide = omega (arith, ints); high = omega (arith, ints) }

  module _ (plane : IsPlane tiles) (ids : List ℕ) (lists : Lists (Meets tiles area) ids) where
    abbrev parts : List Piece
    parts = map (part_in tiles area) ids

    pub parts_apart : Pairwise (λ a b. AreDisjoint a.area b.area) parts
    parts_apart = images_apart tiles plane.partition (part_in tiles area) (λ (piece : Piece). piece.area) part_owns ids lists.0

    is_tile : (id : ℕ) → In id ids → (tile_at tiles id).value ≢ 0 → IsTileIn (value_at tiles) area (part_in tiles area id)
    is_tile id i material =
        let meets = lists.2 id i in
        record {
          material = material;
          strip = (tile_at tiles id).area;
          is_strip = tile_is_strip tiles plane id (owner_taken tiles id meets.square meets.owns) material;
          cut = refl;
          meets = part_proper id meets;
        }

    tile_is_part : (tile : Piece) → IsTileIn (value_at tiles) area tile → In tile parts
    tile_is_part tile is =
        let found = strip_is_tile tiles plane tile.value is.strip is.material is.is_strip in
        let id = found.0 in
        let corner = corner_of tile.area in
        let c = subst (λ (r : Rect). Covers r corner) is.cut (corner_covered tile.area is.meets) in
        let first = covers_first is.strip area corner c in
        let meets : Meets tiles area id = record {
          square = corner;
          owns = record { covers = subst (λ (r : Rect). Covers r corner) (sym found.3) first };
          covers = covers_second is.strip area corner c;
        } in
        subst (λ (p : Piece). In p parts) (piece_is (part_in tiles area id) tile (ap (λ (r : Rect). common_rect r area) found.3 ∙ sym is.cut) found.2)
        (In-map (part_in tiles area) id ids (lists.1 id meets))

    -- the parts that pass the test of a value other than 0, sorted, are the tiles in the area
    pub tiles_listed : (test : Piece → Bool) (sorted : List Piece) → ((piece : Piece) → test piece ≡ true → piece.value ≢ 0)
        → ((piece : Piece) → piece.value ≢ 0 → test piece ≡ true) → IsPermutation (filter test parts) sorted → IsSortedByKey corner_key pair_cmp sorted
        → AreTilesIn (value_at tiles) area sorted
    tiles_listed test sorted passes pass moved in_order =
        let back : (tile : Piece) → In tile sorted → In tile (filter test parts) = λ tile i.
        In-permutation tile sorted (filter test parts) (IsPermutation-sym (filter test parts) sorted moved) i in
        let there : (tile : Piece) → In tile parts → tile.value ≢ 0 → In tile sorted = λ tile i material.
        In-permutation tile (filter test parts) sorted moved (In-filter test tile parts i (pass tile material)) in
        let each : (tile : Piece) → In tile sorted → IsTileIn (value_at tiles) area tile = λ tile i.
        let source = In-map_source (part_in tiles area) tile ids (In-filter_source test tile parts (back tile i)) in
        let material = passes tile (In-filter_passes test tile parts (back tile i)) in
        subst (IsTileIn (value_at tiles) area) source.1.1 (is_tile source.0 source.1.0 (λ e. material (sym (ap (λ (p : Piece). p.value) source.1.1) ∙ e))) in
        let apart : AllPairs (λ (a b : Piece). AreDisjoint a.area b.area) sorted =
        AllPairs-permutation (λ (a b : Piece). AreDisjoint a.area b.area) (λ a b h square c d. h square d c) (filter test parts) sorted moved
        (AllPairs-from_Pairwise (λ (a b : Piece). AreDisjoint a.area b.area) (filter test parts)
        (Pairwise-filter (λ (a b : Piece). AreDisjoint a.area b.area) test parts parts_apart)) in
        record {
          each = each;
          every = λ tile is. there tile (tile_is_part tile is) is.material;
          whole = λ square inside material.
              let found = owner_of tiles plane square material in
              let id = found.0 in
              let value = value_of_owner tiles id square plane.partition found.1 in (
                part_in tiles area id,
                there (part_in tiles area id) (In-map (part_in tiles area) id ids (lists.1 id (record { square = square; owns = found.1; covers = inside })))
                    (λ e. material (value ∙ e)),
                covers_both (tile_at tiles id).area area square found.1.covers inside,
                sym value,
              );
          ordered = sorted_by_corner sorted (λ k d within. (each (get_or sorted k d) (In-get_or sorted k d within)).meets) apart in_order;
        }

near_in_near : (core area : Rect) → IsProper core → LiesWithin core area → IsNear area → IsNear core
near_in_near core area proper within near =
    let a = near.xlo.0 in
    let b = near.ylo.0 in
    let c = near.xhi.1 in
    let d = near.yhi.1 in
    record {
      xlo = (omega (arith, ints), omega (arith, ints));
      ylo = (omega (arith, ints), omega (arith, ints));
      xhi = (omega (arith, ints), omega (arith, ints));
      yhi = (omega (arith, ints), omega (arith, ints));
    }

-- the corner of an area lies in the plane
pub corner_in_plane : (area : Rect) → IsNear area → IsProper area → Covers plane_range (corner_of area)
corner_in_plane area near proper = within_covers area plane_range (corner_of area) (near_within area near) (corner_covered area proper)

-- the next thing's image comes behind those of the things before it
pub one_more_part : {X Y : Type 0} (first so_far : List Y) (xs : List X) (f : X → Y) (index : ℕ) (x : X) → index < length xs
    → so_far ≡ first ++ map f (take index xs) → so_far ++ f (get_or xs index x) ∷ [] ≡ first ++ map f (take (index + 1) xs)
one_more_part first so_far xs f index x below is =
    ap (λ (v : List _). v ++ f (get_or xs index x) ∷ []) is
    ∙ append_assoc first (map f (take index xs)) (f (get_or xs index x) ∷ [])
    ∙ ap (λ (v : List _). first ++ v) (sym (map-append f (take index xs) (get_or xs index x ∷ [])))
    ∙ ap (λ (v : List _). first ++ map f v) (sym (take_more xs index x below))

-- where the tile of the corner goes as far as the area, it is the only one that meets it
pub alone_listed : (tiles : Tiles) (area : Rect) (id : ℕ) → IsPartition tiles → IsProper area → Owns tiles id (corner_of area)
    → area.xhi ≤ℤ (tile_at tiles id).area.xhi → area.yhi ≤ℤ (tile_at tiles id).area.yhi → Lists (Meets tiles area) (id ∷ [])
alone_listed tiles area id partition proper owns wide high = (
  ((λ none. none), tt),
  (λ k meets. inl (partition.one id k meets.square (all meets.square meets.covers) meets.owns)),
  (λ k i. elim i [
    | inl same ↦ subst (Meets tiles area) same (record { square = corner_of area; owns = owns; covers = corner_covered area proper })
    | inr none ↦ absurd none
  ]),
)
  where
    all : (square : Square) → Covers area square → Owns tiles id square
    all square inside = record {
      covers = record {
        right_of_xlo = omega (arith, ints, owns.covers.right_of_xlo);
        left_of_xhi = omega (arith, ints);
        above_ylo = omega (arith, ints, owns.covers.above_ylo);
        below_yhi = omega (arith, ints);
      };
    }

-- the pieces of the areas so far
pub record ArePiecesSoFar (values : Square → ℕ) (areas : List Rect) (pieces : List Piece) : Type 0 where
  pub each : (piece : Piece) → In piece pieces → IsPieceIn values areas piece
  pub proper : (piece : Piece) → In piece pieces → IsProper piece.area
  pub whole : (square : Square) → IsInUnion areas square → (piece : Piece) × In piece pieces × Covers piece.area square
  pub apart : Pairwise (λ (a b : Piece). AreDisjoint a.area b.area) pieces

module _ (tiles : Tiles) (plane : IsPlane tiles) (area : Rect) (near : IsNear area) where
  one_more : (areas : List Rect) (pieces new : List Piece) → ((other : Rect) → In other areas → AreDisjoint other area)
      → ArePiecesSoFar (value_at tiles) areas pieces
      → AddsParts tiles area pieces new → ArePiecesSoFar (value_at tiles) (areas ++ area ∷ []) new
  one_more areas pieces new disjoint so_far adds =
      let ids = adds.ids in
      let more = map (part_in tiles area) ids in
      let now = subst (ArePiecesSoFar (value_at tiles) (areas ++ area ∷ [])) (sym adds.joined) in
      let source : (piece : Piece) → In piece more → (id : ℕ) × In id ids × (part_in tiles area id ≡ piece) = λ piece i.
      let s = In-map_source (part_in tiles area) piece ids i in (s.0, s.1.0, s.1.1) in
      let within : (piece : Piece) → In piece more → LiesWithin piece.area area = λ piece i.
      let s = source piece i in subst (λ (p : Piece). LiesWithin p.area area) s.2 (common_within (tile_at tiles s.0).area area) in
      now (record {
        each = λ piece i. elim (In-append_cases piece pieces more i) [
          | inl j ↦ (let is = so_far.each piece j in
              record { area = is.area; in_list = In-append_left is.area areas (area ∷ []) is.in_list; within = is.within; even = is.even })
          | inr j ↦ (let s = source piece j in record {
            area = area;
            in_list = In-push areas area;
            within = within piece j;
            even = λ square c.
                let owns = part_owns tiles area s.0 square (subst (λ (p : Piece). Covers p.area square) (sym s.2) c) in
                value_of_owner tiles s.0 square plane.partition owns ∙ ap (λ (p : Piece). p.value) s.2;
          })
        ];
        proper = λ piece i. elim (In-append_cases piece pieces more i) [
          | inl j ↦ so_far.proper piece j
          | inr j ↦ (let s = source piece j in subst (λ (p : Piece). IsProper p.area) s.2 (part_proper tiles area s.0 (adds.lists.2 s.0 s.1)))
        ];
        whole = λ square covered. elim (In-push_cases covered.0 areas area covered.1.0) [
          | inl j ↦ (let found = so_far.whole square (covered.0, (j, covered.1.1)) in (found.0, In-append_left found.0 pieces more found.1, found.2))
          | inr e ↦ (
              let inside = subst (λ (r : Rect). Covers r square) (sym e) covered.1.1 in
              let found = owner square inside in (
                part_in tiles area found.0,
                In-append_right (part_in tiles area found.0) pieces more
                    (In-map (part_in tiles area) found.0 ids (adds.lists.1 found.0 (record { square = square; owns = found.1; covers = inside }))),
                covers_both (tile_at tiles found.0).area area square found.1.covers inside,
              ))
        ];
        apart = Pairwise-append (λ (a b : Piece). AreDisjoint a.area b.area) pieces more so_far.apart (parts_apart tiles area plane ids adds.lists)
            (λ x y i j square c d.
            let is = so_far.each x i in
            disjoint is.area is.in_list square (within_covers x.area is.area square is.within c) (within_covers y.area area square (within y j) d));
      })
    where
      owner : (square : Square) → Covers area square → (id : ℕ) × Owns tiles id square
      owner square inside = plane.partition.whole square (within_covers area plane_range square (near_within area near) inside)

-- one more area has its pieces
pub pieces_go_on : (tiles : Tiles) (plane : IsPlane tiles) (areas : List Rect) (index : ℕ) (area : Rect) (pieces new : List Piece) → index < length areas
    → area ≡ get_or areas index area → IsNear area → AllPairs AreDisjoint areas → ArePiecesSoFar (value_at tiles) (take index areas) pieces
    → AddsParts tiles area pieces new → ArePiecesSoFar (value_at tiles) (take (index + 1) areas) new
pieces_go_on tiles plane areas index area pieces new below here near disjoint so_far adds =
    subst (λ (v : List Rect). ArePiecesSoFar (value_at tiles) v new) (sym (take_more areas index area below
    ∙ ap (λ (r : Rect). take index areas ++ r ∷ []) (sym here)))
    (one_more tiles plane area near (take index areas) pieces new apart so_far adds)
  where
    apart : (other : Rect) → In other (take index areas) → AreDisjoint other area
    apart other i =
        let at = In-index other (take index areas) i in
        let k = at.0 in
        let short : k < index = omega (arith, at.1.0, length-take-le index areas (omega arith)) in
        let first : get_or areas k area ≡ other = sym (get_or-take index areas k area short) ∙ at.1.1 area in
        subst (λ (r : Rect). AreDisjoint r area) first (subst (λ (r : Rect). AreDisjoint (get_or areas k area) r) (sym here)
        (disjoint k index area short below))

-- where all have theirs
pub pieces_end : (values : Square → ℕ) (areas : List Rect) (index : ℕ) (pieces : List Piece) → length areas ≤ index → All IsNear areas
    → ArePiecesSoFar values (take index areas) pieces → ArePiecesIn values areas pieces
pieces_end values areas index pieces all near so_far =
    let here = subst (λ (v : List Rect). ArePiecesSoFar values v pieces) (take_all index areas all) so_far in
    record {
      each = here.each;
      whole = here.whole;
      proper = All-from_In (λ (piece : Piece). IsProper piece.area) pieces here.proper;
      near = All-from_In (λ (piece : Piece). IsNear piece.area) pieces
          (λ piece i. let is = here.each piece i in near_in_near piece.area is.area (here.proper piece i) is.within
          (In-all IsNear areas near is.area is.in_list));
      apart = AllPairs-from_Pairwise (λ (a b : Piece). AreDisjoint a.area b.area) pieces here.apart;
    }
  where
    In-all : (P : Rect → Type 0) (xs : List Rect) → All P xs → (x : Rect) → In x xs → P x
    In-all P xs each x i = let at = In-index x xs i in subst P (at.1.1 x) (each at.0 x at.1.0)
