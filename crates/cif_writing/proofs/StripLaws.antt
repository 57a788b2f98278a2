-- The tiles whose types have a part cover exactly the squares that hold it.
use Rattle.cif_writing.proofs.Common.{◌≡◌, ℕ, List, refl, sym, ap, subst, ◌∙◌, arith, ◌==◌, Rect, In, IsInUnion, IsStrips, RawTech, parts_of, Layout}
use Rattle.cif_writing.proofs.Common.{areas_with, HoldsPart}
use Rattle.std.proofs.Common.{◌≢◌, true, bit_and}
use Rattle.std.specs.Prelude.{filter}
use Rattle.std.proofs.lemmas.Bool.{eq-eqb, eqb-true}
use Rattle.std.proofs.lemmas.Nat.Bits.{bit_at-zero, bit_at_and, same_from_bits}
use Rattle.geo_core.specs.declared.squares.Piece.{Piece}
use Rattle.geo_core.specs.declared.squares.Square.{Square}
use Rattle.geo_core.specs.Covering.{Covers}
use Rattle.geo_core.proofs.FiniteSets.Members.{In-filter, In-filter_passes, In-filter_source, In-map, In-map_source}
use Rattle.geo_core.proofs.StripSets.{strips_same}
use Rattle.geo_core.proofs.TileSets.{tile_value}
use Rattle.tech_model.specs.declared.raw.TypeRec.{TypeRec}
use Rattle.tech_model.specs.Types.{is_subset}
use Rattle.cell_library.specs.CellPaint.Painting.{kinds_on, paint_range, place_at}
use Rattle.cell_library.specs.CellPaint.Paints.{IsSoundPaint}
use Rattle.cell_library.specs.CellPaint.Pieces.{pieces_on, AreTakenOut}
use Rattle.cif_writing.specs.Parts.{has_part}

-- a set with a part is not that of space
none_of_space : (raw : RawTech) (part kind : ℕ) → part ≢ 0 → is_subset part (parts_of raw kind) ≡ true → kind ≢ 0
none_of_space raw part kind some has none =
    some (sym (eqb-true (bit_and part 0) part (subst (λ (t : ℕ). is_subset part (parts_of raw t) ≡ true) none has)) ∙ nothing)
  where
    nothing : bit_and part 0 ≡ 0
    nothing = same_from_bits (bit_and part 0) 0 (λ i. (let none = bit_at-zero i in let both = bit_at_and part 0 i in omega (arith, none, both)))

module _ (raw : RawTech) (own : Layout) (part : ℕ) (tiles : List (ℕ × Piece)) (taken : AreTakenOut own paint_range tiles) where
  -- a square of such a tile holds the part
  holds : (square : Square) → IsInUnion (areas_with raw part tiles) square → HoldsPart raw own part square
  holds square (area, (among, covers)) =
      let source = In-map_source (λ (tile : ℕ × Piece). tile.1.area) area (filter (has_part raw part) tiles) among in
      let tile = source.0 in
      let there = In-filter_source (has_part raw part) tile tiles source.1.0 in
      let has = In-filter_passes (has_part raw part) tile tiles source.1.0 in
      let on_plane : In tile.1 (pieces_on tiles tile.0) =
      In-map (λ (entry : ℕ × Piece). entry.1) tile (filter (λ (entry : ℕ × Piece). entry.0 == tile.0) tiles)
      (In-filter (λ (entry : ℕ × Piece). entry.0 == tile.0) tile tiles there (eq-eqb tile.0 tile.0 refl)) in
      let is = (taken.tiles tile.0).each tile.1 on_plane in
      let value : kinds_on own tile.0 square ≡ tile.1.value =
      tile_value (kinds_on own tile.0) paint_range tile.1 is square (subst (λ (a : Rect). Covers a square) (sym source.1.1) covers) in
      (tile.0, subst (λ (kind : ℕ). is_subset part (parts_of raw kind) ≡ true) (sym value) has)

  -- and a square that holds it is one of such a tile
  held : (kinds : List TypeRec) → part ≢ 0 → IsSoundPaint kinds own → (square : Square) → HoldsPart raw own part square
      → IsInUnion (areas_with raw part tiles) square
  held kinds some sound square (plane, has) =
      let material = none_of_space raw part (kinds_on own plane square) some has in
      let found = (taken.tiles plane).whole square (sound.range (place_at plane square) material) material in
      let source = In-map_source (λ (entry : ℕ × Piece). entry.1) found.0 (filter (λ (entry : ℕ × Piece). entry.0 == plane) tiles) found.1 in
      let tile = source.0 in
      let there = In-filter_source (λ (entry : ℕ × Piece). entry.0 == plane) tile tiles source.1.0 in
      let value : tile.1.value ≡ kinds_on own plane square = ap (λ (piece : Piece). piece.value) source.1.1 ∙ found.3 in
      let passes : has_part raw part tile ≡ true = ap (λ (kind : ℕ). is_subset part (parts_of raw kind)) value ∙ has in (
        tile.1.area,
        (
          In-map (λ (entry : ℕ × Piece). entry.1.area) tile (filter (has_part raw part) tiles) (In-filter (has_part raw part) tile tiles there passes),
          subst (λ (a : Rect). Covers a square) (ap (λ (piece : Piece). piece.area) (sym source.1.1)) found.2,
        ),
      )

  -- so the strips of such tiles are those of the part
  pub strips_of_part : (kinds : List TypeRec) → part ≢ 0 → IsSoundPaint kinds own → (areas : List Rect)
      → IsStrips (IsInUnion (areas_with raw part tiles)) areas → IsStrips (HoldsPart raw own part) areas
  strips_of_part kinds some sound areas are =
      strips_same (IsInUnion (areas_with raw part tiles)) (HoldsPart raw own part) holds (held kinds some sound) areas are
