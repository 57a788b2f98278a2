-- The tiles of an opened cell that are found at a square, and cells that are opened one after another.
use Rattle.tile_members.proofs.Common.{◌≡◌, ◌⊎◌, ◌+◌, ◌<◌, ℕ, Bool, List, length, map, get_or, cond, Some, None, inl, inr, refl, sym, ap, subst, ◌∙◌}
use Rattle.tile_members.proofs.Common.{arith, nat_eq, option_map, slice_get, slice_index, get, lookup, cases_Bool, eqb-true, slice_get-get_or}
use Rattle.tile_members.proofs.Common.{slice_get_within, In, All-slice_get, slice_get-one, Rect, Square, common_rect, Covers, LiesInReach}
use Rattle.tile_members.proofs.Common.{RegionTile, Place, AreMeeting, LibraryView, OpenedCell, OpenedCells, AreOpened, IsNumberAt, unit_at}
use Rattle.std.proofs.Common.{pos, neg_ℤ, ◌<ℤ◌}
use Rattle.std.specs.Prelude.{Option}
use Rattle.std.proofs.lemmas.Int.{ints, clamps}
use Rattle.std.proofs.lemmas.Option.{slice_get-map}
use Rattle.finite_sets.proofs.Members.{In-get_or, In-index}
use Rattle.geo_core.specs.Areas.{IsNear}
use Rattle.geo_core.specs.Covering.{IsProper}
use Rattle.layout_model.specs.RegionTiles.{LiesIn}
use Rattle.tile_members.specs.steps.OpenedCells.{HasTileAt, IsOpened, IsSearchable}

-- ---- one square

-- what has the square in common with it covers it
met_covers : (area : Rect) (square : Square) → IsProper (common_rect area (unit_at square)) → Covers area square
met_covers area square meets =
    let wide = meets.wide in
    let high = meets.high in
    record {
      right_of_xlo = omega (arith, ints, clamps);
      left_of_xhi = omega (arith, ints, clamps);
      above_ylo = omega (arith, ints, clamps);
      below_yhi = omega (arith, ints, clamps);
    }

-- and what covers it has it in common
covers_meet : (area : Rect) (square : Square) → Covers area square → IsProper (common_rect area (unit_at square))
covers_meet area square covers =
    let a = covers.right_of_xlo in
    let b = covers.left_of_xhi in
    let c = covers.above_ylo in
    let d = covers.below_yhi in
    record { wide = omega (arith, ints, clamps); high = omega (arith, ints, clamps) }

-- ---- tiles at a square

-- a tile for what is read past the end of a list
abbrev pub no_tile : RegionTile
no_tile = record { plane = 0; area = record { xlo = pos 0; ylo = pos 0; xhi = pos 0; yhi = pos 0 }; kind = record { 0 = 0 }; region = 0 }

-- The tile at this position covers the square.
pub record IsTileFound (opened : OpenedCell) (square : Square) (position : ℕ) : Type 0 where
  pub tile : RegionTile
  pub there : slice_get opened.found.regions.tiles position ≡ Some tile
  pub covers : Covers tile.area square

-- an area that is searched is that of a tile
area_of_tile : (tiles : List RegionTile) (position : ℕ) (area : Rect) → slice_get (map (λ (t : RegionTile). t.area) tiles) position ≡ Some area
    → (tile : RegionTile) × (slice_get tiles position ≡ Some tile) × (tile.area ≡ area)
area_of_tile tiles position area is = step (slice_get tiles position) refl (sym (slice_get-map (λ (t : RegionTile). t.area) tiles position) ∙ is)
  where
    step : (found : Option RegionTile) → slice_get tiles position ≡ found → option_map (λ (t : RegionTile). t.area) found ≡ Some area
        → (tile : RegionTile) × (slice_get tiles position ≡ Some tile) × (tile.area ≡ area)
    step None at here = absurd (cc)
    step (Some tile) at here = (tile, at, (let same : Some tile.area ≡ Some area = here in cc))

-- a position that is found is that of a tile that covers the square
pub found_tile : (opened : OpenedCell) (square : Square) (positions : List ℕ) (position : ℕ) → IsSearchable opened
    → AreMeeting opened.areas (unit_at square) positions → In position positions → IsTileFound opened square position
found_tile opened square positions position is are stands =
    let meets = (are.exact position).0 stands in
    let there : slice_get (map (λ (t : RegionTile). t.area) opened.found.regions.tiles) position ≡ Some meets.rect =
    subst (λ (areas : List Rect). slice_get areas position ≡ Some meets.rect) is.areas meets.there in
    let at = area_of_tile opened.found.regions.tiles position meets.rect there in
    let proper : IsProper (common_rect at.0.area (unit_at square)) =
    subst (λ (r : Rect). IsProper (common_rect r (unit_at square))) (sym at.2) meets.meets in
    record { tile = at.0; there = at.1; covers = met_covers at.0.area square proper }

-- the position of a tile that has a place is found at its square
pub tile_is_found : (opened : OpenedCell) (place : Place) (positions : List ℕ) (index : ℕ) → IsSearchable opened
    → AreMeeting opened.areas (unit_at place.square) positions → LiesIn opened.found.regions.tiles index place → In index positions
tile_is_found opened place positions index is are lies =
    let there : slice_get (map (λ (t : RegionTile). t.area) opened.found.regions.tiles) index ≡ Some lies.tile.area =
    slice_get-map (λ (t : RegionTile). t.area) opened.found.regions.tiles index ∙ ap (option_map (λ (t : RegionTile). t.area)) lies.there in
    (are.exact index).1 (record {
      rect = lies.tile.area;
      there = subst (λ (areas : List Rect). slice_get areas index ≡ Some lies.tile.area) (sym is.areas) there;
      meets = covers_meet lies.tile.area place.square lies.covers;
    })

-- so does each position that is found
pub tile_at_place : (opened : OpenedCell) (square : Square) (positions found : List ℕ) (k : ℕ) → IsSearchable opened → found ≡ positions
    → AreMeeting opened.areas (unit_at square) positions → k < length found → IsTileFound opened square (get_or found k 0)
tile_at_place opened square positions found k is same are below =
    found_tile opened square positions (get_or found k 0) is are (subst (In (get_or found k 0)) same (In-get_or found k 0 below))

-- the region of a tile has a number
pub region_below : (opened : OpenedCell) (position : ℕ) (tile : RegionTile) → IsSearchable opened
    → slice_get opened.found.regions.tiles position ≡ Some tile → tile.region < length opened.found.numbers.items
region_below opened position tile is there =
    All-slice_get (λ (t : RegionTile). t.region < length opened.found.numbers.items) opened.found.regions.tiles position tile is.numbered there

-- a tile that is read from the list is the one that is found
pub tile_read : (opened : OpenedCell) (square : Square) (tiles : List RegionTile) (position : ℕ) (d : RegionTile) → IsTileFound opened square position
    → tiles ≡ opened.found.regions.tiles → slice_get opened.found.regions.tiles position ≡ Some (get_or tiles position d)
tile_read opened square tiles position d is same =
    subst (λ (ts : List RegionTile). slice_get opened.found.regions.tiles position ≡ Some (get_or ts position d)) (sym same)
    (slice_get-get_or opened.found.regions.tiles position d (slice_get_within opened.found.regions.tiles position is.tile is.there))

-- a tile of the plane that is found tells the number
pub number_told : (opened : OpenedCell) (plane : ℕ) (square : Square) (position : ℕ) (tile : RegionTile) (number : ℕ) → IsTileFound opened square position
    → slice_get opened.found.regions.tiles position ≡ Some tile → tile.plane ≡ plane
    → number ≡ slice_index opened.found.numbers.items tile.region → IsNumberAt opened (record { plane = plane; square = square }) number
number_told opened plane square position tile number is there on number_is =
    let same = slice_get-one opened.found.regions.tiles position is.tile tile is.there there in
    record {
      index = position;
      lies = record { tile = tile; there = there; plane = sym on; covers = subst (λ (t : RegionTile). Covers t.area square) same is.covers };
      is = number_is;
    }

-- a square that a tile has is in reach
pub tile_in_reach : (opened : OpenedCell) (place : Place) → IsSearchable opened → HasTileAt opened place → LiesInReach place.square
tile_in_reach opened place is (index, lies) =
    let near = All-slice_get (λ (t : RegionTile). IsNear t.area) opened.found.regions.tiles index lies.tile is.near lies.there in
    let x0 : neg_ℤ (pos 268435456) <ℤ lies.tile.area.xlo = near.xlo.0 in
    let x1 : lies.tile.area.xhi <ℤ pos 268435456 = near.xhi.1 in
    let y0 : neg_ℤ (pos 268435456) <ℤ lies.tile.area.ylo = near.ylo.0 in
    let y1 : lies.tile.area.yhi <ℤ pos 268435456 = near.yhi.1 in
    let a = lies.covers.right_of_xlo in
    let b = lies.covers.left_of_xhi in
    let c = lies.covers.above_ylo in
    let d = lies.covers.below_yhi in
    record { x = (omega (arith, ints), omega (arith, ints)); y = (omega (arith, ints), omega (arith, ints)) }

-- None of the first tiles that were found is of the plane.
abbrev pub NoneOfPlane : OpenedCell → ℕ → List ℕ → ℕ → Type 0
NoneOfPlane opened plane positions count =
    (k : ℕ) (tile : RegionTile) → k < count → slice_get opened.found.regions.tiles (get_or positions k 0) ≡ Some tile → tile.plane ≡ plane → ⊥

-- nor is one more
pub none_more : (opened : OpenedCell) (plane : ℕ) (positions : List ℕ) (i : ℕ) (here : RegionTile) → NoneOfPlane opened plane positions i
    → slice_get opened.found.regions.tiles (get_or positions i 0) ≡ Some here → (here.plane ≡ plane → ⊥) → NoneOfPlane opened plane positions (i + 1)
none_more opened plane positions i here none there other k tile below at on = elim (last_or_before k i below) [
  | inl before ↦ none k tile before at on
  | inr last ↦
      let same = slice_get-one opened.found.regions.tiles (get_or positions i 0) here tile there
      (subst (λ (n : ℕ). slice_get opened.found.regions.tiles (get_or positions n 0) ≡ Some tile) last at) in
      other (ap (λ (t : RegionTile). t.plane) same ∙ on)
]
  where
    last_or_before : (j k : ℕ) → j < k + 1 → (j < k) ⊎ (j ≡ k)
    last_or_before j k less = grind arith

-- one of them is, where a tile of the plane has the square
pub some_of_plane : (opened : OpenedCell) (place : Place) (positions : List ℕ) → IsSearchable opened
    → AreMeeting opened.areas (unit_at place.square) positions → HasTileAt opened place → NoneOfPlane opened place.plane positions (length positions) → ⊥
some_of_plane opened place positions is are (index, lies) none =
    let at = In-index index positions (tile_is_found opened place positions index is are lies) in
    none at.0 lies.tile at.1.0
    (subst (λ (n : ℕ). slice_get opened.found.regions.tiles n ≡ Some lies.tile) (sym (at.1.1 0)) lies.there) (sym lies.plane)

-- ---- cells that are opened one after another

-- where nothing changed, what is kept is as before
pub opened_same : (view : LibraryView) (old new : OpenedCells) → AreOpened view old → new.entries.entries ≡ old.entries.entries → AreOpened view new
opened_same view old new are same cell opened is =
    are cell opened (ap (λ entries. lookup (nat_eq cell) entries) (sym same) ∙ is)

-- where a cell was opened, what is kept is so
pub opened_more : (view : LibraryView) (old new : OpenedCells) (cell : ℕ) (added : OpenedCell) → AreOpened view old → IsOpened view cell added
    → ((other : ℕ) → get nat_eq new.entries other ≡ cond (nat_eq cell other) (Some added) (get nat_eq old.entries other)) → AreOpened view new
opened_more view old new cell added are is updates other opened there = elim (cases_Bool (nat_eq cell other)) [
  | inl same ↦
      let found : Some added ≡ Some opened =
      sym (ap (λ (t : Bool). cond t (Some added) (get nat_eq old.entries other)) same) ∙ sym (updates other) ∙ there in
      let one : added ≡ opened = cc in
      subst (λ (o : OpenedCell). IsOpened view other o) one (subst (λ (n : ℕ). IsOpened view n added) (eqb-true cell other same) is)
  | inr apart ↦
      are other opened
      (sym (ap (λ (t : Bool). cond t (Some added) (get nat_eq old.entries other)) apart) ∙ sym (updates other) ∙ there)
]
