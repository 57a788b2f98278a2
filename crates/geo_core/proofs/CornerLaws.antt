-- Pieces sorted by their lower left squares.
use Rattle.geo_core.proofs.Common.{◌≡◌, ℤ, pos, List, get_or, inl, inr, refl, arith, AllPairs, ints, Square, Rect, Piece, AreDisjoint, Covers}
use Rattle.geo_core.proofs.Common.{IsProper, StandsBefore}
use Rattle.std.proofs.Common.{◌<ℤ◌, ◌≤ℤ◌, Ordering}
use Rattle.std.specs.Prelude.{All}
use Rattle.std.specs.Cmp.{IsTotalOrder}
use Rattle.std.specs.List.Sorted.{IsSortedByKey}
use Rattle.std.specs.Ordering.{int_cmp, ordering_then}
use Rattle.std.proofs.lemmas.Cmp.{int_cmp_total, on_total, then_total}
use Rattle.std.proofs.lemmas.Int.{by_lt_z}
use Rattle.finite_sets.proofs.Orders.{int_cmp-not_less, ordering_then-not_less, IsSortedByKey-pairs}

-- what stands past the end of a list of pieces
abbrev pub no_piece : Piece
no_piece = record { area = record { xlo = pos 0; ylo = pos 0; xhi = pos 0; yhi = pos 0 }; value = 0 }

-- the key by which pieces are sorted, and its order
abbrev pub corner_key : Piece → ℤ × ℤ
corner_key piece = (piece.area.ylo, piece.area.xlo)

-- by the row and then by the column
abbrev pub pair_cmp : ℤ × ℤ → ℤ × ℤ → Ordering
pair_cmp a b = ordering_then (int_cmp a.0 b.0) (int_cmp a.1 b.1)

pair_cmp_total : IsTotalOrder pair_cmp
pair_cmp_total = then_total (on_total (λ (k : ℤ × ℤ). k.0) int_cmp_total) (on_total (λ (k : ℤ × ℤ). k.1) int_cmp_total)

-- a rectangle with a square covers its corner
pub corner_covers : (area : Rect) (square : Square) → IsProper area → area.ylo ≡ square.y → area.xlo ≡ square.x → Covers area square
corner_covers area square proper row column = record {
  right_of_xlo = omega (arith, ints);
  left_of_xhi = omega (arith, ints, proper.wide);
  above_ylo = omega (arith, ints);
  below_yhi = omega (arith, ints, proper.high);
}

-- two pieces that lie apart have two corners
before_in_row : (a b : Rect) → IsProper a → IsProper b → AreDisjoint a b → a.ylo ≡ b.ylo → a.xlo ≤ℤ b.xlo → a.xlo <ℤ b.xlo
before_in_row a b p q apart row no_later = by_lt_z a.xlo b.xlo (λ less. less)
    (λ back. absurd (apart (record { x = b.xlo; y = b.ylo })
    (corner_covers a (record { x = b.xlo; y = b.ylo }) p row (omega (arith, ints)))
    (corner_covers b (record { x = b.xlo; y = b.ylo }) q refl refl)))

-- pieces that lie apart and are sorted by their corners stand in the order of strips
pub sorted_by_corner : (pieces : List Piece) → All (λ piece. IsProper piece.area) pieces → AllPairs (λ a b. AreDisjoint a.area b.area) pieces
    → IsSortedByKey corner_key pair_cmp pieces → AllPairs (λ a b. StandsBefore a.area b.area) pieces
sorted_by_corner pieces proper apart sorted = λ i j d less within.
    let a = (get_or pieces i d).area in
    let b = (get_or pieces j d).area in
    let not_less = IsSortedByKey-pairs corner_key pair_cmp pair_cmp_total pieces sorted i j d less within in
    elim (ordering_then-not_less a.ylo b.ylo (int_cmp b.xlo a.xlo) not_less) [
      | inl lower ↦ inl lower
      | inr (row, no_later) ↦ inr (
        row,
        before_in_row a b (proper i d (omega arith)) (proper j d within) (apart i j d less within) row
            (int_cmp-not_less a.xlo b.xlo no_later),
      )
    ]
