-- The tiles of one plane, and what they make of the parts there.
use Rattle.hier_merge.proofs.Common.{◌≡◌, ◌≢◌, ◌&&◌, ◌<◌, ℕ, Bool, true, false, cond, bit_or, List, [], ◌∷◌, inl, inr, refl, sym, ap, subst, ◌∙◌}
use Rattle.hier_merge.proofs.Common.{ne_eqb, ◌==◌, cases_Bool, eq-eqb, In, All-from_In, All-In, is_covered, IsNear, RawTech, parts_of, Place}
use Rattle.hier_merge.proofs.Common.{SetTile, tile_part, PartTile, set_from, set_of_tiles, AreOfParts, set_tile, tiles_on}
use Rattle.std.proofs.Common.{eqb-true}
use Rattle.std.proofs.lemmas.Bool.{eqb-false}
use Rattle.cell_library.proofs.LayoutModel.SetUnions.{none_union}
use Rattle.meeting_laws.specs.Offences.SetTiles.{AreTilesOfParts, set_of_set_tile}

-- each tile of the plane is one of the tiles, and lies on the plane
pub from_tiles : (raw : RawTech) (plane : ℕ) (tiles : List PartTile) (found : SetTile) → In found (tiles_on raw plane tiles)
    → (tile : PartTile) × (In tile tiles × (set_tile raw tile ≡ found)) × (tile.plane ≡ plane)
from_tiles raw plane [] found among = absurd among
from_tiles raw plane (tile ∷ tiles) found among =
    let more : In found (tiles_on raw plane tiles) → (t : PartTile) × (In t (tile ∷ tiles) × (set_tile raw t ≡ found)) × (t.plane ≡ plane) =
    λ later. let source = from_tiles raw plane tiles found later in (source.0, (inr source.1.0, source.1.1), source.2) in
    let rest = tiles_on raw plane tiles in
    let chosen : (b : Bool) → (tile.plane == plane) ≡ b → In found (cond b (set_tile raw tile ∷ rest) rest) =
    λ b is. subst (λ (t : Bool). In found (cond t (set_tile raw tile ∷ rest) rest)) is among in
    elim (cases_Bool (tile.plane == plane)) [
      | inl on ↦ elim (chosen true on) [ inl same ↦ (tile, (inl refl, same), eqb-true tile.plane plane on) | inr later ↦ more later ]
      | inr off ↦ more (chosen false off)
    ]

-- and each of the tiles that lies on the plane is one of them
pub on_tiles : (raw : RawTech) (plane : ℕ) (tiles : List PartTile) (tile : PartTile) → In tile tiles → tile.plane ≡ plane
    → In (set_tile raw tile) (tiles_on raw plane tiles)
on_tiles raw plane [] tile among on = absurd among
on_tiles raw plane (first ∷ tiles) tile among on =
    let rest = tiles_on raw plane tiles in
    let chosen : (b : Bool) → (first.plane == plane) ≡ b → In (set_tile raw tile) (cond b (set_tile raw first ∷ rest) rest)
    → In (set_tile raw tile) (tiles_on raw plane (first ∷ tiles)) =
    λ b is there. subst (λ (t : Bool). In (set_tile raw tile) (cond t (set_tile raw first ∷ rest) rest)) (sym is) there in
    elim among [
      | inl same ↦
          chosen true (eq-eqb first.plane plane (ap (λ (t : PartTile). t.plane) same ∙ on)) (inl (ap (set_tile raw) same))
      | inr later ↦
          let further = on_tiles raw plane tiles tile later on in
          elim (cases_Bool (first.plane == plane)) [
            | inl here ↦ chosen true here (inr further)
            | inr elsewhere ↦ chosen false elsewhere further
          ]
    ]

-- tiles of parts make tiles of parts on a plane
pub parts_on_plane : (raw : RawTech) (plane count : ℕ) (tiles : List PartTile) → AreOfParts count tiles
    → AreTilesOfParts count (tiles_on raw plane tiles)
parts_on_plane raw plane count tiles are =
    All-from_In (λ (found : SetTile). (found.part < count) × IsNear found.area) (tiles_on raw plane tiles) (λ found among.
    let source = from_tiles raw plane tiles found among in
    subst (λ (t : SetTile). (t.part < count) × IsNear t.area) source.1.1
    (All-In (λ (tile : PartTile). (tile.part < count) × IsNear tile.area) tiles source.0 are source.1.0))

-- a tile of another plane adds nothing
adds_nothing : (raw : RawTech) (part : ℕ) (tile : PartTile) (place : Place) → (place.plane == tile.plane) ≡ false → set_from raw part tile place ≡ 0
adds_nothing raw part tile place off =
    ap (λ (b : Bool). cond (tile.part == part && b && is_covered tile.area place.square) (parts_of raw tile.kind.0) 0) off ∙ ends (tile.part == part)
  where
    ends : (b : Bool) → cond (b && false && is_covered tile.area place.square) (parts_of raw tile.kind.0) 0 ≡ 0
    ends true = refl
    ends false = refl

-- on the plane its tiles make of a part what all tiles make of it
pub set_on_plane : (raw : RawTech) (plane : ℕ) (tiles : List PartTile) (part : ℕ) (place : Place) → place.plane ≡ plane
    → tile_part (tiles_on raw plane tiles) plane part place ≡ set_of_tiles raw tiles part place
set_on_plane raw plane [] part place on = refl
set_on_plane raw plane (tile ∷ tiles) part place on =
    let rest = set_on_plane raw plane tiles part place on in
    elim (cases_Bool (tile.plane == plane)) [
      | inl here ↦
          let same : tile.plane ≡ plane = eqb-true tile.plane plane here in
          ap (λ (b : Bool). tile_part (cond b (set_tile raw tile ∷ tiles_on raw plane tiles) (tiles_on raw plane tiles)) plane part place) here
          ∙ ap (bit_or (set_of_set_tile plane part (set_tile raw tile) place)) rest
          ∙ ap (λ (p : ℕ). bit_or (cond (tile.part == part && place.plane == p && is_covered tile.area place.square) (parts_of raw tile.kind.0) 0)
          (set_of_tiles raw tiles part place)) (sym same)
      | inr other ↦
          let off : (place.plane == tile.plane) ≡ false =
          ne_eqb place.plane tile.plane (λ same. eqb-false tile.plane plane other (sym same ∙ on)) in
          ap (λ (b : Bool). tile_part (cond b (set_tile raw tile ∷ tiles_on raw plane tiles) (tiles_on raw plane tiles)) plane part place) other
          ∙ rest
          ∙ sym (ap (λ (set : ℕ). bit_or set (set_of_tiles raw tiles part place)) (adds_nothing raw part tile place off)
          ∙ none_union (set_of_tiles raw tiles part place))
    ]

-- off the plane they make nothing
pub nothing_off_plane : (tiles : List SetTile) (plane part : ℕ) (place : Place) → place.plane ≢ plane → tile_part tiles plane part place ≡ 0
nothing_off_plane [] plane part place off = refl
nothing_off_plane (tile ∷ tiles) plane part place off =
    ap (λ (b : Bool). bit_or (cond (tile.part == part && b && is_covered tile.area place.square) tile.set.0 0) (tile_part tiles plane part place))
    (ne_eqb place.plane plane off)
    ∙ ap (λ (set : ℕ). bit_or set (tile_part tiles plane part place)) (ends (tile.part == part))
    ∙ none_union (tile_part tiles plane part place)
    ∙ nothing_off_plane tiles plane part place off
  where
    ends : (b : Bool) → cond (b && false && is_covered tile.area place.square) tile.set.0 0 ≡ 0
    ends true = refl
    ends false = refl
