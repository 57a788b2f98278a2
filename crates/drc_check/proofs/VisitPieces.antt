-- The pieces that the tiles of visits make are those of the flat layout.
use Rattle.drc_check.proofs.Common.{◌≡◌, ◌+◌, ◌<◌, inl, inr, ◌⊎◌, ℕ, List, [], ◌∷◌, ◌++◌, length, take, sym, ap, subst, ◌∙◌, arith, slice_index_or}
use Rattle.drc_check.proofs.Common.{In, Lists, In-append_cases, In-push_cases, Square, Rect, LiesWithin, Covers, IsInUnion, RawTech, Place, CellTree}
use Rattle.drc_check.proofs.Common.{flat_sets, on_plane, PartTile, IsPartTileIn, set_of_part, set_of_tiles, Rule, ListedPiece, AreBandsOf}
use Rattle.drc_check.proofs.Common.{AreListedPiecesIn, AreListedPiecesOf, AddsListed}
use Rattle.std.proofs.Common.{suc}
use Rattle.std.proofs.Math.Seq.{take-suc}
use Rattle.geo_core.proofs.CoveringLaws.{within_trans, filled_within}
use Rattle.drc_check.specs.steps.CellPieces.{IsListedIn}
use Rattle.drc_check.proofs.PieceLaws.{no_pieces, pieces_for, pieces_joined}
use Rattle.drc_check.proofs.TileUnions.{flat_of_tiles, tile_inside}

-- what the tiles of a visit make are the pieces in its area
pub pieces_of_visit : (raw : RawTech) (tree : CellTree) (rules : List Rule) (area : Rect) (tiles : List PartTile) (old new : List ListedPiece)
    → Lists (IsPartTileIn tree area) tiles
    → ((part : ℕ) (place : Place) → Covers area place.square → set_of_tiles raw tiles part place ≡ set_of_part raw tree part place)
    → AddsListed raw rules tiles old new → (found : List ListedPiece) × ((new ≡ old ++ found) × AreListedPiecesOf raw tree rules area found)
pieces_of_visit raw tree rules area tiles old new lists sets adds =
    let inside : (piece : ListedPiece) → In piece adds.found → (square : Square) → Covers piece.area square → Covers area square =
    λ piece among square covers.
    let on = adds.lie piece among square covers in
    tile_inside raw tree area tiles lists sets on.0 on.1.0 square on.1.1 in
    let flat = flat_of_tiles raw tree area tiles lists sets in (
      adds.found,
      (
        adds.is,
        record {
          are = record {
            proper = adds.are.proper;
            sound = λ piece among square covers.
                sym (flat (on_plane piece.plane square) (inside piece among square covers)) ∙ adds.are.sound piece among square covers;
            whole = λ place kind wanted is. adds.are.whole place kind wanted.1 (flat place wanted.0 ∙ is);
          };
          within = λ piece among. filled_within piece.area area (adds.are.proper piece among) (inside piece among);
        },
      ),
    )

-- ---- one band after another

-- what lies in the first bands and one more lies in the first or in that one
in_more : (bands : List Rect) (k : ℕ) (band default : Rect) (square : Square) → k < length bands → band ≡ slice_index_or bands k default
    → IsInUnion (take (k + 1) bands) square → IsInUnion (take k bands) square ⊎ Covers band square
in_more bands k band default square below is found =
    let next : k + 1 ≡ suc k = omega arith in
    let more : take (k + 1) bands ≡ take k bands ++ slice_index_or bands k default ∷ [] =
    ap (λ (n : ℕ). take n bands) next ∙ take-suc bands k default below in
    elim (In-push_cases found.0 (take k bands) (slice_index_or bands k default) (subst (In found.0) more found.1.0)) [
      | inl earlier ↦ inl (found.0, (earlier, found.1.1))
      | inr last ↦ inr (subst (λ (area : Rect). Covers area square) (sym (is ∙ last)) found.1.1)
    ]

module _ (raw : RawTech) (tree : CellTree) (rules : List Rule) (hull : Rect) (bands : List Rect) where
  -- before the first band there are none
  pub no_bands : AreListedPiecesIn raw tree rules (IsInUnion (take 0 bands)) hull []
  no_bands = record {
    are = no_pieces raw (flat_sets raw tree) (IsListedIn (IsInUnion (take 0 bands)) rules) (λ place kind wanted. absurd wanted.0.1.0);
    within = λ piece among. absurd among;
  }

  -- the pieces of the next band are added
  pub next_band : (k : ℕ) (band default : Rect) (old found : List ListedPiece) → k < length bands → band ≡ slice_index_or bands k default
      → LiesWithin band hull → AreListedPiecesIn raw tree rules (IsInUnion (take k bands)) hull old → AreListedPiecesOf raw tree rules band found
      → AreListedPiecesIn raw tree rules (IsInUnion (take (k + 1) bands)) hull (old ++ found)
  next_band k band default old found below is within before here = record {
    are = pieces_joined raw (flat_sets raw tree) (IsListedIn (IsInUnion (take k bands)) rules) (IsListedIn (Covers band) rules)
        (IsListedIn (IsInUnion (take (k + 1) bands)) rules) old found
        (λ place kind wanted. elim (in_more bands k band default place.square below is wanted.0) [
          | inl earlier ↦ inl (earlier, wanted.1)
          | inr last ↦ inr (last, wanted.1)
        ]) before.are here.are;
    within = λ piece among. elim (In-append_cases piece old found among) [
      | inl earlier ↦ before.within piece earlier
      | inr last ↦ within_trans piece.area band hull (here.within piece last) within
    ];
  }

-- the pieces of bands that have all squares of a hull are those of the hull
pub bands_are_hull : (raw : RawTech) (tree : CellTree) (rules : List Rule) (hull : Rect) (bands : List Rect) (pieces : List ListedPiece)
    → AreBandsOf hull bands → AreListedPiecesIn raw tree rules (IsInUnion bands) hull pieces → AreListedPiecesOf raw tree rules hull pieces
bands_are_hull raw tree rules hull bands pieces are here = record {
  are = pieces_for raw (flat_sets raw tree) (IsListedIn (IsInUnion bands) rules) (IsListedIn (Covers hull) rules) pieces
      (λ place kind wanted. (are.whole place.square wanted.0 wanted.0.below_yhi, wanted.1)) here.are;
  within = here.within;
}
