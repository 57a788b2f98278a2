-- The value at a square is that of the tile that has it.
use Rattle.tile_plane.proofs.Common.{◌≡◌, inl, inr, Bool, true, false, if◌then◌else◌, ℕ, List, [], ◌∷◌, refl, sym, ◌∙◌, ap, subst, In, Square, Rect}
use Rattle.tile_plane.proofs.Common.{Covers, is_covered, plane_range, AreSame, Tiles, tile_at, Owns, IsPartition, value_among, value_at}
use Rattle.std.specs.FinMap as fin_map
use Rattle.geo_core.proofs.CoveringLaws.{Covers-is_covered, is_covered-Covers}
use Rattle.tile_plane.proofs.TileLaws.{owner_taken, taken_in_keys}
use Rattle.tile_plane.proofs.HandLaws.{covers_or_not, owned_in_range}

not_covered : (area : Rect) (square : Square) → (Covers area square → ⊥) → is_covered area square ≡ false
not_covered area square never = by_test (is_covered area square) refl where
  by_test : (b : Bool) → is_covered area square ≡ b → is_covered area square ≡ false
  by_test true e = absurd (never (Covers-is_covered area square e))
  by_test false e = e

value_of_first : (tiles : Tiles) (k : ℕ) (ids : List ℕ) (square : Square) → Owns tiles k square → value_among tiles (k ∷ ids) square ≡ (tile_at tiles k).value
value_of_first tiles k ids square owns =
    ap (λ (b : Bool). if b then (tile_at tiles k).value else value_among tiles ids square) (is_covered-Covers (tile_at tiles k).area square owns.covers)

value_of_rest : (tiles : Tiles) (k : ℕ) (ids : List ℕ) (square : Square) → (Owns tiles k square → ⊥)
    → value_among tiles (k ∷ ids) square ≡ value_among tiles ids square
value_of_rest tiles k ids square off =
    ap (λ (b : Bool). if b then (tile_at tiles k).value else value_among tiles ids square)
    (not_covered (tile_at tiles k).area square (λ c. off (record { covers = c })))

value_of_one : (tiles : Tiles) (ids : List ℕ) (id : ℕ) (square : Square) → IsPartition tiles → Owns tiles id square → In id ids
    → value_among tiles ids square ≡ (tile_at tiles id).value
value_of_one tiles [] id square partition owns none = absurd none
value_of_one tiles (k ∷ ids) id square partition owns (inl is) =
    value_of_first tiles k ids square (subst (λ (v : ℕ). Owns tiles v square) (sym is) owns) ∙ ap (λ (v : ℕ). (tile_at tiles v).value) is
value_of_one tiles (k ∷ ids) id square partition owns (inr at) = elim (covers_or_not (tile_at tiles k).area square) [
  | inl covers ↦ (
      let its : Owns tiles k square = record { covers = covers } in
      value_of_first tiles k ids square its ∙ ap (λ (v : ℕ). (tile_at tiles v).value) (partition.one k id square its owns))
  | inr off ↦ value_of_rest tiles k ids square (λ its. off its.covers) ∙ value_of_one tiles ids id square partition owns at
]

value_of_none : (tiles : Tiles) (ids : List ℕ) (square : Square) → ((k : ℕ) → Owns tiles k square → ⊥) → value_among tiles ids square ≡ 0
value_of_none tiles [] square none = refl
value_of_none tiles (k ∷ ids) square none = value_of_rest tiles k ids square (none k) ∙ value_of_none tiles ids square none

pub value_of_owner : (tiles : Tiles) (id : ℕ) (square : Square) → IsPartition tiles → Owns tiles id square → value_at tiles square ≡ (tile_at tiles id).value
value_of_owner tiles id square partition owns =
    value_of_one tiles (fin_map.keys tiles) id square partition owns (taken_in_keys tiles id (owner_taken tiles id square owns))

pub value_off_range : (tiles : Tiles) (square : Square) → IsPartition tiles → (Covers plane_range square → ⊥) → value_at tiles square ≡ 0
value_off_range tiles square partition off = value_of_none tiles (fin_map.keys tiles) square (λ k q. off (owned_in_range tiles k square partition q))

-- where each square is in a tile of the value that it had, all values are as they were
pub same_by_owners : (old new : Tiles) → IsPartition old → IsPartition new
    → ((k : ℕ) (square : Square) → Owns new k square → (j : ℕ) × Owns old j square × ((tile_at new k).value ≡ (tile_at old j).value))
    → AreSame (value_at old) (value_at new)
same_by_owners old new p q source square = elim (covers_or_not plane_range square) [
  | inl inside ↦ (
      let owner = q.whole square inside in
      let was = source owner.0 square owner.1 in
      value_of_owner new owner.0 square q owner.1 ∙ was.2 ∙ sym (value_of_owner old was.0 square p was.1))
  | inr off ↦ value_off_range new square q off ∙ sym (value_off_range old square p off)
]
