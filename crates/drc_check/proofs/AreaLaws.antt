-- The areas of sound pieces have squares and are bounded, as sets of squares are to be.
use Rattle.drc_check.proofs.Common.{ℕ, List, subst, arith, All, filter, ints, In, In-filter_source, In-map_source, All-In, All-from_In, Rect}
use Rattle.drc_check.proofs.Common.{IsProper, SET_EDGE, IsBounded, TypeId, SpansInRange, ListedPiece, areas_of_list, is_of_list, IsSoundPiece}

-- what lies in the range of paint is bounded
spans_bounded : (area : Rect) → SpansInRange area → IsBounded SET_EDGE area
spans_bounded area spans = record {
  right_of_xlo = omega (arith, ints, spans.xlo.low);
  above_ylo = omega (arith, ints, spans.ylo.low);
  left_of_xhi = omega (arith, ints, spans.xhi.high);
  below_yhi = omega (arith, ints, spans.yhi.high);
}

module _ (pieces : List ListedPiece) (sound : All IsSoundPiece pieces) (plane : ℕ) (kinds : List TypeId) where
  -- each area is that of a sound piece
  area_source : (area : Rect) → In area (areas_of_list plane kinds pieces) → IsProper area × SpansInRange area
  area_source area among =
      let from = In-map_source (λ (piece : ListedPiece). piece.area) area (filter (is_of_list plane kinds) pieces) among in
      let is = All-In IsSoundPiece pieces from.0 sound (In-filter_source (is_of_list plane kinds) from.0 pieces from.1.0) in
      (subst IsProper from.1.1 is.proper, subst SpansInRange from.1.1 is.spans)

  -- each has a square
  pub areas_proper : All IsProper (areas_of_list plane kinds pieces)
  areas_proper = All-from_In IsProper (areas_of_list plane kinds pieces) (λ area among. (area_source area among).0)

  -- and is bounded
  pub areas_bounded : All (IsBounded SET_EDGE) (areas_of_list plane kinds pieces)
  areas_bounded = All-from_In (IsBounded SET_EDGE) (areas_of_list plane kinds pieces) (λ area among. spans_bounded area (area_source area among).1)
