-- A plane without tiles is all space.
use Rattle.tile_plane.proofs.Common.{◌≡◌, Bool, true, false, if◌then◌else◌, ℕ, List, [], ◌∷◌, Option, refl, ap, nat_cmp, Square, is_covered, Slot}
use Rattle.tile_plane.proofs.Common.{tile_if, tile_at, value_among, value_in}
use Rattle.std.specs.FinMap as fin_map
use Rattle.tile_plane.specs.Contents.{no_contents}

both_zero : (b : Bool) (x y : ℕ) → x ≡ 0 → y ≡ 0 → (if b then x else y) ≡ 0
both_zero true x y p q = p
both_zero false x y p q = q

none_among : (ids : List ℕ) (square : Square) → value_among fin_map.empty ids square ≡ 0
none_among [] square = refl
none_among (id ∷ ids) square = both_zero (is_covered (tile_at fin_map.empty id).area square) (tile_at fin_map.empty id).value
    (value_among fin_map.empty ids square)
    (ap (λ (found : Option Slot). (tile_if found).value) (fin_map.get-empty nat_cmp id)) (none_among ids square)

-- its squares have the value 0
pub no_contents_is_space : (square : Square) → value_in no_contents square ≡ 0
no_contents_is_space square = none_among (fin_map.keys fin_map.empty) square
