-- Tiles of areas that lie apart have seams between the visits, and the tiles of a plane share no square over a seam.
use Rattle.hier_merge.proofs.Common.{◌≡◌, ◌≤◌, ◌<◌, ◌+◌, ◌-◌, ◌⊎◌, ℕ, zero, suc, Bool, cond, List, [], ◌∷◌, ◌++◌, length, take, drop, inl, inr, refl}
use Rattle.hier_merge.proofs.Common.{sym, ap, subst, ◌∙◌, arith, ◌==◌, All, AllPairs, slice_index_or, cases_Bool, length-append, In, In-append_cases}
use Rattle.hier_merge.proofs.Common.{AllPairs-from_Pairwise, Pairwise, Pairwise-from_AllPairs, All-from_In, All-In, Rect, Square, AreDisjoint}
use Rattle.hier_merge.proofs.Common.{Covers, rect_image, covers_second, RawTech, CellTree, SetTile, PartTile, IsPartTileIn, TypedStack}
use Rattle.hier_merge.proofs.Common.{AreTypedStacks, StandForTiles, HasTiles, HaveTypedParts, parts_of_plane, AreTilePieces, AreSeams, IsSeam}
use Rattle.hier_merge.proofs.Common.{AreVisits, IsVisit, set_tile, tiles_on}
use Rattle.std.proofs.Math.Seq.{take-length}
use Rattle.finite_sets.proofs.Members.{In-push_cases}
use Rattle.finite_sets.proofs.Pairs.{Pairwise-push}
use Rattle.finite_sets.proofs.Places.{In-take, take_both}
use Rattle.hier_merge.specs.steps.Seams.{AddsPieces}
use Rattle.hier_merge.proofs.JoinedPieces.{pieces_joined}
use Rattle.hier_merge.proofs.NearAreas.{in_some_area}
use Rattle.hier_merge.proofs.NumberedTiles.{tiles_before_seam, tiles_behind_seam}
use Rattle.hier_merge.proofs.PlaneTiles.{from_tiles, parts_on_plane}
use Rattle.hier_merge.proofs.VisitLaws.{visit_inside}

-- ---- lists of tiles that are added to

-- no tile of the first list shares a square with one of the second
abbrev pub LieApart : List PartTile → List PartTile → Type 0
LieApart tiles others = (one other : PartTile) → In one tiles → In other others → AreDisjoint one.area other.area

-- what is taken of two lists is of the first one, up to its end
In-take_append : (place : ℕ) (xs ys : List PartTile) (x : PartTile) → place ≤ length xs → In x (take place (xs ++ ys)) → In x (take place xs)
In-take_append zero xs ys x within among = among
In-take_append (suc place) [] ys x within among = absurd (omega (arith, within))
In-take_append (suc place) (y ∷ xs) ys x within (inl same) = inl same
In-take_append (suc place) (y ∷ xs) ys x within (inr among) = inr (In-take_append place xs ys x (omega (arith, within)) among)

-- and what is dropped from both is what is dropped from it, and all of the second
In-drop_append : (place : ℕ) (xs ys : List PartTile) (x : PartTile) → place ≤ length xs → In x (drop place (xs ++ ys)) → In x (drop place xs) ⊎ In x ys
In-drop_append zero xs ys x within among = In-append_cases x xs ys among
In-drop_append (suc place) [] ys x within among = absurd (omega (arith, within))
In-drop_append (suc place) (y ∷ xs) ys x within among = In-drop_append place xs ys x (omega (arith, within)) among

-- a seam stays one when tiles are added that lie apart from all before
seam_kept : (tiles found : List PartTile) (place : ℕ) → LieApart tiles found → IsSeam tiles place → IsSeam (tiles ++ found) place
seam_kept tiles found place apart seam = record {
  within = omega (arith, seam.within, length-append tiles found);
  apart = λ before after first second.
      let early = In-take_append place tiles found before seam.within first in
      elim (In-drop_append place tiles found after seam.within second) [
        | inl old ↦ seam.apart before after early old
        | inr new ↦ apart before after (In-take place tiles before early) new
      ];
}

seams_kept : (tiles found : List PartTile) (seams : List ℕ) → LieApart tiles found → AreSeams tiles seams → AreSeams (tiles ++ found) seams
seams_kept tiles found seams apart are = record {
  each = λ place among. seam_kept tiles found place apart (are.each place among);
  rising = are.rising;
}

-- nothing is behind the end
In-drop_all : (xs : List PartTile) (x : PartTile) → In x (drop (length xs) xs) → ⊥
In-drop_all [] x among = among
In-drop_all (y ∷ xs) x among = In-drop_all xs x among

-- so the end of a list is a seam
end_is_seam : (tiles : List PartTile) → IsSeam tiles (length tiles)
end_is_seam tiles = record { within = omega arith; apart = λ before after first second. absurd (In-drop_all tiles after second) }

seam_added : (tiles : List PartTile) (seams : List ℕ) → AreSeams tiles seams → AreSeams tiles (seams ++ length tiles ∷ [])
seam_added tiles seams are = record {
  each = λ place among. elim (In-push_cases place seams (length tiles) among) [
    | inl old ↦ are.each place old
    | inr end ↦ subst (IsSeam tiles) end (end_is_seam tiles)
  ];
  rising = AllPairs-from_Pairwise ◌≤◌ (seams ++ length tiles ∷ []) (Pairwise-push ◌≤◌ seams (length tiles) (Pairwise-from_AllPairs ◌≤◌ seams are.rising)
      (λ place among. (are.each place among).within));
}

-- ---- visits of areas that lie apart

-- a part tile lies in the area that it is cut to
inside : (tree : CellTree) (area : Rect) (tile : PartTile) (square : Square) → IsPartTileIn tree area tile → Covers tile.area square → Covers area square
inside tree area tile square is covers =
    covers_second (rect_image is.standing.placed is.strip) area square (subst (λ (r : Rect). Covers r square) is.cut covers)

-- an area before the place is not the one there, and so lies apart from it
earlier_apart : (areas : List Rect) (count : ℕ) (default area : Rect) → AllPairs AreDisjoint areas → count < length areas → In area (take count areas)
    → AreDisjoint area (slice_index_or areas count default)
earlier_apart areas count default area pairs below among = apart_from areas count (Pairwise-from_AllPairs AreDisjoint areas pairs) below among
  where
    at_place : (rest : List Rect) (k : ℕ) → k < length rest → In (slice_index_or rest k default) rest
    at_place [] k less = absurd (omega (arith, less))
    at_place (r ∷ rest) zero less = inl refl
    at_place (r ∷ rest) (suc k) less = inr (at_place rest k (omega (arith, less)))

    apart_from : (rest : List Rect) (k : ℕ) → Pairwise AreDisjoint rest → k < length rest → In area (take k rest)
        → AreDisjoint area (slice_index_or rest k default)
    apart_from [] k apart less first = absurd (omega (arith, less))
    apart_from (r ∷ rest) zero apart less first = absurd first
    apart_from (r ∷ rest) (suc k) apart less (inl same) =
        subst (λ (a : Rect). AreDisjoint a (slice_index_or rest k default)) same
        (apart.0 (slice_index_or rest k default) (at_place rest k (omega (arith, less))))
    apart_from (r ∷ rest) (suc k) apart less (inr first) = apart_from rest k apart.1 (omega (arith, less)) first

-- the tiles of a visit of the next area lie apart from those of the visits before
next_apart : (raw : RawTech) (tree : CellTree) (areas : List Rect) (count : ℕ) (tiles found : List PartTile) (default : Rect)
    → AllPairs AreDisjoint areas → count < length areas → AreVisits raw tree (take count areas) tiles
    → IsVisit raw tree (slice_index_or areas count default) found → LieApart tiles found
next_apart raw tree areas count tiles found default pairs below visits visit one other among also square in_one in_other =
    let source = in_some_area raw tree (take count areas) tiles visits one among in
    earlier_apart areas count default source.0 pairs below source.1.0 square (inside tree source.0 one square source.1.1 in_one)
    (visit_inside raw tree (slice_index_or areas count default) found visit other also square in_other)

-- the tiles of one visit more keep the seams, and may have one behind them
pub next_seams : (raw : RawTech) (tree : CellTree) (areas : List Rect) (count : ℕ) (before found after : List PartTile) (old new : List ℕ) (end : ℕ)
    (default : Rect) → AllPairs AreDisjoint areas → count < length areas → AreVisits raw tree (take count areas) before
    → IsVisit raw tree (slice_index_or areas count default) found → after ≡ before ++ found → end ≡ length after → AreSeams before old
    → (new ≡ old) ⊎ (new ≡ old ++ end ∷ []) → AreSeams after new
next_seams raw tree areas count before found after old new end default pairs below visits visit added at are seam =
    let kept = seams_kept before found old (next_apart raw tree areas count before found default pairs below visits visit) are in
    let here : AreSeams after old = subst (λ (tiles : List PartTile). AreSeams tiles old) (sym added) kept in
    elim seam [
      | inl same ↦ subst (AreSeams after) (sym same) here
      | inr more ↦ subst (AreSeams after) (ap (λ (n : ℕ). old ++ n ∷ []) (sym at) ∙ sym more) (seam_added after old here)
    ]

-- ---- the tiles of a plane on either side of a seam

-- the tiles of a plane that two lists have are those of the first and then those of the second
pub on_append : (raw : RawTech) (plane : ℕ) (xs ys : List PartTile) → tiles_on raw plane (xs ++ ys) ≡ tiles_on raw plane xs ++ tiles_on raw plane ys
on_append raw plane [] ys = refl
on_append raw plane (tile ∷ xs) ys = elim (cases_Bool (tile.plane == plane)) [
  | inl here ↦
      ap (λ (b : Bool). cond b (set_tile raw tile ∷ tiles_on raw plane (xs ++ ys)) (tiles_on raw plane (xs ++ ys))) here
      ∙ ap (λ (rest : List SetTile). set_tile raw tile ∷ rest) (on_append raw plane xs ys)
      ∙ sym (ap (λ (b : Bool). cond b (set_tile raw tile ∷ tiles_on raw plane xs) (tiles_on raw plane xs) ++ tiles_on raw plane ys) here)
  | inr elsewhere ↦
      ap (λ (b : Bool). cond b (set_tile raw tile ∷ tiles_on raw plane (xs ++ ys)) (tiles_on raw plane (xs ++ ys))) elsewhere
      ∙ on_append raw plane xs ys
      ∙ sym (ap (λ (b : Bool). cond b (set_tile raw tile ∷ tiles_on raw plane xs) (tiles_on raw plane xs) ++ tiles_on raw plane ys) elsewhere)
]

-- they lie apart where the lists do
pub on_apart : (raw : RawTech) (plane : ℕ) (xs ys : List PartTile) → LieApart xs ys → (a b : SetTile) → In a (tiles_on raw plane xs)
    → In b (tiles_on raw plane ys) → AreDisjoint a.area b.area
on_apart raw plane xs ys apart a b i j =
    let p = from_tiles raw plane xs a i in
    let q = from_tiles raw plane ys b j in
    subst (λ (r : Rect). AreDisjoint r b.area) (ap (λ (t : SetTile). t.area) p.1.1)
    (subst (λ (r : Rect). AreDisjoint p.0.area r) (ap (λ (t : SetTile). t.area) q.1.1) (apart p.0 q.0 p.1.0 q.1.0))

-- the pieces of tiles before a seam and those of tiles behind it
both_pieces : (raw : RawTech) (plane : ℕ) (xs ys zs : List PartTile) (old found new : List TypedStack) → xs ++ ys ≡ zs → LieApart xs ys
    → AreTilePieces raw plane (tiles_on raw plane xs) old → new ≡ old ++ found → AreTilePieces raw plane (tiles_on raw plane ys) found
    → AreTilePieces raw plane (tiles_on raw plane zs) new
both_pieces raw plane xs ys zs old found new both apart are added more =
    subst (λ (tiles : List PartTile). AreTilePieces raw plane (tiles_on raw plane tiles) new) both
    (subst (λ (tiles : List SetTile). AreTilePieces raw plane tiles new) (sym (on_append raw plane xs ys))
    (subst (AreTilePieces raw plane (tiles_on raw plane xs ++ tiles_on raw plane ys)) (sym added)
    (pieces_joined raw plane (tiles_on raw plane xs) (tiles_on raw plane ys) (on_apart raw plane xs ys apart) old found are more)))

-- pieces up to the next seam
pub pieces_to_seam : (raw : RawTech) (plane : ℕ) (tiles : List PartTile) (start next : ℕ) (old new : List TypedStack) → IsSeam tiles start → start ≤ next
    → AreTilePieces raw plane (tiles_on raw plane (take start tiles)) old → AddsPieces raw tiles start next plane old new
    → AreTilePieces raw plane (tiles_on raw plane (take next tiles)) new
pieces_to_seam raw plane tiles start next old new seam order are adds =
    let whole : start + (next - start) ≡ next = omega (arith, order) in
    both_pieces raw plane (take start tiles) (take (next - start) (drop start tiles)) (take next tiles) old adds.found new
    (sym (take_both start (next - start) tiles) ∙ ap (λ (n : ℕ). take n tiles) whole)
    (λ one other first second. seam.apart one other first (In-take (next - start) (drop start tiles) other second)) are adds.added adds.are

-- and the tiles that cover them
pub tiles_to_seam : (raw : RawTech) (plane : ℕ) (tiles : List PartTile) (start next : ℕ) (old new : List TypedStack) → IsSeam tiles start → start ≤ next
    → All (HasTiles tiles 0 start plane) old → AddsPieces raw tiles start next plane old new → All (HasTiles tiles 0 next plane) new
tiles_to_seam raw plane tiles start next old new seam order have adds = All-from_In (HasTiles tiles 0 next plane) new (λ piece among.
    elim (In-append_cases piece old adds.found (subst (λ (all : List TypedStack). In piece all) adds.added among)) [
      | inl before ↦ tiles_before_seam tiles start next plane piece seam order (All-In (HasTiles tiles 0 start plane) old piece have before)
      | inr behind ↦ tiles_behind_seam tiles start next plane piece seam (All-In (HasTiles tiles start next plane) adds.found piece adds.have behind)
    ])

-- the pieces up to the end are those of all tiles
pub pieces_to_end : (raw : RawTech) (plane : ℕ) (tiles : List PartTile) (start : ℕ) (old new : List TypedStack) → IsSeam tiles start
    → AreTilePieces raw plane (tiles_on raw plane (take start tiles)) old → AddsPieces raw tiles start (length tiles) plane old new
    → AreTilePieces raw plane (tiles_on raw plane tiles) new
pieces_to_end raw plane tiles start old new seam are adds =
    subst (λ (t : List PartTile). AreTilePieces raw plane (tiles_on raw plane t) new) (take-length tiles)
    (pieces_to_seam raw plane tiles start (length tiles) old new seam seam.within are adds)

-- where what the tiles make has types, pieces of them are pieces of these parts
pub typed_pieces : (raw : RawTech) (plane : ℕ) (tiles : List PartTile) (found : List TypedStack) → StandForTiles raw plane (tiles_on raw plane tiles) found
    → (typed : HaveTypedParts raw tiles) → AreTypedStacks raw (parts_of_plane raw tiles typed.count plane) plane found
typed_pieces raw plane tiles found stand typed = stand typed.count (parts_on_plane raw plane typed.count tiles typed.of_parts) (typed.types plane)

-- the beginning is a seam
pub seam_at_start : (tiles : List PartTile) → IsSeam tiles 0
seam_at_start tiles = record { within = omega arith; apart = λ before after none second. absurd none }
