-- Pieces set one by one on a sheet of tiles.
use Rattle.tile_plane.proofs.Common.{◌≡◌, inl, inr, ℕ, ◌+◌, ◌<◌, List, [], ◌∷◌, ◌++◌, length, take, get_or, Option, Some, None, sym, ◌∙◌, ap, subst}
use Rattle.tile_plane.proofs.Common.{arith, AllPairs, IfSome, take_more, get_or-take, length-take-le, In-index, Square, Piece, AreDisjoint, IsNear}
use Rattle.tile_plane.proofs.Common.{Covers, AreSet, Tiles, IsPartition, HasStitches, value_at, AreStrips, inner_range, IsPlane, IsSheet, IsSecond}
use Rattle.std.proofs.Common.{Vec, Global}
use Rattle.tile_plane.specs.declared.sheets.Sheet.{Sheet}
use Rattle.tile_plane.specs.declared.sheets.Second.TheVariants.{Ahead}
use Rattle.tile_plane.specs.Contents.{IsChange}
use Rattle.tile_plane.specs.Sheets.{IsStep}
use Rattle.tile_plane.proofs.SetLaws.{set_more, set_keeps_space, near_inner}

-- where a near piece is set the tiles are still those of a plane
pub plane_after_piece : (old new : Tiles) (piece : Piece) → IsPlane old → IsNear piece.area → IsPartition new → HasStitches new → AreStrips new
    → AreSet (value_at old) (value_at new) (piece ∷ []) → IsPlane new
plane_after_piece old new piece plane near partition stitches strips set = record {
  partition = partition;
  stitches = stitches;
  strips = strips;
  space = set_keeps_space inner_range (value_at old) (value_at new) (piece ∷ []) set plane.space (λ other i square c. elim i [
    | inl e ↦ near_inner piece.area near square (subst (λ (p : Piece). Covers p.area square) (sym e) c)
    | inr none ↦ absurd none
  ]);
}

-- one more of pieces that lie apart
pub set_next : (old mid new : Square → ℕ) (pieces : List Piece) (index : ℕ) (piece : Piece) → index < length pieces → piece ≡ get_or pieces index piece
    → AllPairs (λ a b. AreDisjoint a.area b.area) pieces → AreSet old mid (take index pieces) → AreSet mid new (piece ∷ [])
    → AreSet old new (take (index + 1) pieces)
set_next old mid new pieces index piece below here apart before last =
    subst (AreSet old new) (sym (take_more pieces index piece below ∙ ap (λ (p : Piece). take index pieces ++ p ∷ []) (sym here)))
    (set_more old mid new (take index pieces) piece before last (λ other i.
    let at = In-index other (take index pieces) i in
    let k = at.0 in
    let short : k < index = omega (arith, at.1.0, length-take-le index pieces (omega arith)) in
    let first : get_or pieces k piece ≡ other = sym (get_or-take index pieces k piece short) ∙ at.1.1 piece in
    subst (λ (p : Piece). AreDisjoint p.area piece.area) first (subst (λ (p : Piece). AreDisjoint (get_or pieces k piece).area p.area) (sym here)
    (apart k index piece short below))))

-- the second sheet where a change is made ready
pub change_ready : (tiles : Tiles) (next : Sheet) (again : Option (Vec Piece Global)) (pieces : List Piece) → IsSheet next → IsStep tiles next.store pieces
    → IfSome again (λ found. found.items ≡ pieces) → IsSecond tiles (Ahead next again)
change_ready tiles next None pieces sheet step is = sheet
change_ready tiles next (Some found) pieces sheet step is = (sheet, subst (IsStep tiles next.store) (sym is) step)

-- the change that was ready is made
pub change_made : (tiles new : Tiles) (next : Option Tiles) (pieces : List Piece) → IsChange tiles next pieces → IfSome next (λ found. new ≡ found)
    → AreSet (value_at tiles) (value_at new) pieces
change_made tiles new None pieces ready is = absurd ready
change_made tiles new (Some next) pieces ready is = subst (λ (v : Tiles). AreSet (value_at tiles) (value_at v) pieces) (sym is) ready
