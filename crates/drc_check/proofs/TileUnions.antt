-- What tiles make together, and that it is what the flat layout has where a visit hands the tiles out.
use Rattle.drc_check.proofs.Common.{◌≡◌, ◌&&◌, ◌==◌, ◌<◌, inl, inr, ℕ, Bool, true, false, cond, List, length, get_or, refl, sym, ap, subst, ◌∙◌}
use Rattle.drc_check.proofs.Common.{eqb-true, eq-eqb, bit_at, and_parts, and_from, cases_Bool, In, Lists, In-get_or, Square, Rect, Covers}
use Rattle.drc_check.proofs.Common.{is_covered, RawTech, joined, parts_of, Place, CellTree, flat_sets, SetLayout, joined_at, bit_kept, union_bit}
use Rattle.drc_check.proofs.Common.{PartTile, IsPartTileIn, set_of_part, set_of_tiles, set_of_all, set_of_tile}
use Rattle.finite_sets.proofs.Members.{In-index}
use Rattle.geo_core.specs.Images.{rect_image}
use Rattle.geo_core.proofs.CoveringLaws.{Covers-is_covered, is_covered-Covers, covers_second}
use Rattle.hierarchy_model.specs.Offences.LayoutModel.CellTrees.CellTree.{cell_tree}
use Rattle.hierarchy_model.specs.Offences.LayoutModel.FlatSets.{parts_in}
use Rattle.hierarchy_model.specs.Offences.Offences.{flat_type, union_of}
use Rattle.hierarchy_model.proofs.Offences.UnionLaws.{no_part, same_sets}
use Rattle.hierarchy_model.proofs.CleanLaws.{flat_of_parts}
use Rattle.cell_library.specs.PartTiles.{set_from}
use Rattle.cell_library.proofs.PartLaws.{part_is_there}

-- ---- the parts of what tiles make

-- A tile of the plane covers the place, and its type has this part.
pub record HasTileAt (raw : RawTech) (tiles : List PartTile) (place : Place) (i : ℕ) : Type 0 where
  pub tile : PartTile
  pub among : In tile tiles
  pub plane : place.plane ≡ tile.plane
  pub covers : Covers tile.area place.square
  pub bit : bit_at (parts_of raw tile.kind.0) i ≡ 1

-- a part of what a tile has at a place
tile_has : (raw : RawTech) (tile : PartTile) (place : Place) (i : ℕ) → bit_at (set_of_tile raw tile place) i ≡ 1
    → (place.plane ≡ tile.plane) × Covers tile.area place.square × (bit_at (parts_of raw tile.kind.0) i ≡ 1)
tile_has raw tile place i bit =
    let P : Bool → Type 0 = λ b. bit_at (cond b (parts_of raw tile.kind.0) 0) i ≡ 1 in
    elim (cases_Bool (place.plane == tile.plane && is_covered tile.area place.square)) [
      | inl passes ↦ (
          let both = and_parts (place.plane == tile.plane) (is_covered tile.area place.square) passes in
          (eqb-true place.plane tile.plane both.0, Covers-is_covered tile.area place.square both.1, subst P passes bit))
      | inr fails ↦ absurd (no_part i (subst P fails bit))
    ]

-- a part of what tiles make at a place is one of a tile
pub tile_of_part : (raw : RawTech) (tiles : List PartTile) (place : Place) (i : ℕ) → bit_at (set_of_all raw tiles place) i ≡ 1
    → HasTileAt raw tiles place i
tile_of_part raw tiles place i bit =
    let has = union_bit (λ ts. set_of_all raw ts place) (λ tile. set_of_tile raw tile place) refl (λ t ts. refl) tiles i bit in
    let tile = tile_has raw has.thing place i has.bit in
    record { tile = has.thing; among = has.listed; plane = tile.0; covers = tile.1; bit = tile.2 }

-- and each part of a tile there is one of what they make
pub part_of_tile : (raw : RawTech) (tiles : List PartTile) (place : Place) (i : ℕ) → HasTileAt raw tiles place i
    → bit_at (set_of_all raw tiles place) i ≡ 1
part_of_tile raw tiles place i has =
    let tile = has.tile in
    let P : Bool → Type 0 = λ b. bit_at (cond b (parts_of raw tile.kind.0) 0) i ≡ 1 in
    bit_kept (λ ts. set_of_all raw ts place) (λ t. set_of_tile raw t place) refl (λ t ts. refl) tiles i tile has.among
    (subst P (sym (and_from (place.plane == tile.plane) (is_covered tile.area place.square)
    (eq-eqb place.plane tile.plane has.plane) (is_covered-Covers tile.area place.square has.covers))) has.bit)

-- ---- what a visit hands out

part_test : (part covers on : Bool) (set i : ℕ) → bit_at (cond (part && on && covers) set 0) i ≡ 1
    → (part ≡ true) × (bit_at (cond (on && covers) set 0) i ≡ 1)
part_test true covers on set i bit = (refl, bit)
part_test false covers true set i bit = absurd (no_part i bit)
part_test false covers false set i bit = absurd (no_part i bit)

of_part : (part covers on : Bool) (set i : ℕ) → part ≡ true → bit_at (cond (on && covers) set 0) i ≡ 1
    → bit_at (cond (part && on && covers) set 0) i ≡ 1
of_part true covers on set i is bit = bit
of_part false covers on set i is bit = absurd (cc)

-- the flat type is that of what the parts make
flat_of_tree : (raw : RawTech) (tree : CellTree) (place : Place) → joined_at raw (flat_sets raw tree) place ≡ flat_type raw (parts_in raw tree) place
flat_of_tree raw (cell_tree own elements) place = flat_of_parts raw own elements place

module _ (raw : RawTech) (tree : CellTree) (area : Rect) (tiles : List PartTile) (lists : Lists (IsPartTileIn tree area) tiles)
    (sets : (part : ℕ) (place : Place) → Covers area place.square → set_of_tiles raw tiles part place ≡ set_of_part raw tree part place) where
  -- a tile lies in the area
  pub tile_inside : (tile : PartTile) → In tile tiles → (square : Square) → Covers tile.area square → Covers area square
  tile_inside tile among square covers =
      let is = lists.2 tile among in
      covers_second (rect_image is.standing.placed is.strip) area square (subst (λ (a : Rect). Covers a square) is.cut covers)

  -- what the parts make the tiles make
  from_parts : (place : Place) (i : ℕ) → Covers area place.square → bit_at (union_of (parts_in raw tree) place) i ≡ 1
      → bit_at (set_of_all raw tiles place) i ≡ 1
  from_parts place i inside bit =
      let has = union_bit (λ parts. union_of parts place) (λ part. part place) refl (λ p ps. refl) (parts_in raw tree) i bit in
      let k = In-index has.thing (parts_in raw tree) has.listed in
      let made : set_of_tiles raw tiles k.0 place ≡ has.thing place =
      sets k.0 place inside ∙ ap (λ (part : SetLayout). part place) (k.1.1 (λ p. 0)) in
      let here = union_bit (λ ts. set_of_tiles raw ts k.0 place) (λ tile. set_from raw k.0 tile place) refl (λ t ts. refl) tiles i
      (subst (λ (set : ℕ). bit_at set i ≡ 1) (sym made) has.bit) in
      let tile = here.thing in
      bit_kept (λ ts. set_of_all raw ts place) (λ t. set_of_tile raw t place) refl (λ t ts. refl) tiles i tile here.listed
      (part_test (tile.part == k.0) (is_covered tile.area place.square) (place.plane == tile.plane) (parts_of raw tile.kind.0) i here.bit).1

  -- and what the tiles make the parts make
  to_parts : (place : Place) (i : ℕ) → Covers area place.square → bit_at (set_of_all raw tiles place) i ≡ 1
      → bit_at (union_of (parts_in raw tree) place) i ≡ 1
  to_parts place i inside bit =
      let here = union_bit (λ ts. set_of_all raw ts place) (λ t. set_of_tile raw t place) refl (λ t ts. refl) tiles i bit in
      let tile = here.thing in
      let none : SetLayout = λ p. 0 in
      let below : tile.part < length (parts_in raw tree) = part_is_there raw tree area tile (lists.2 tile here.listed) in
      let made = bit_kept (λ ts. set_of_tiles raw ts tile.part place) (λ t. set_from raw tile.part t place) refl (λ t ts. refl) tiles i tile here.listed
      (of_part (tile.part == tile.part) (is_covered tile.area place.square) (place.plane == tile.plane) (parts_of raw tile.kind.0) i
      (eq-eqb tile.part tile.part refl) here.bit) in
      bit_kept (λ parts. union_of parts place) (λ part. part place) refl (λ p ps. refl) (parts_in raw tree) i
      (get_or (parts_in raw tree) tile.part none) (In-get_or (parts_in raw tree) tile.part none below)
      (subst (λ (set : ℕ). bit_at set i ≡ 1) (sets tile.part place inside) made)

  -- so in the area what the tiles make has the flat type
  pub flat_of_tiles : (place : Place) → Covers area place.square
      → joined_at raw (set_of_all raw tiles) place ≡ joined_at raw (flat_sets raw tree) place
  flat_of_tiles place inside =
      ap (λ (set : ℕ). joined raw place.plane set) (same_sets (set_of_all raw tiles place) (union_of (parts_in raw tree) place)
      (λ i. to_parts place i inside) (λ i. from_parts place i inside))
      ∙ sym (flat_of_tree raw tree place)
