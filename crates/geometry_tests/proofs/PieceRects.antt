-- What holds of the rectangles of pieces holds of the pieces.
use Rattle.std.proofs.Common.{List, subst, arith}
use Rattle.std.specs.Prelude.{map, All, AllPairs}
use Rattle.std.proofs.lemmas.List.{get_or-map, length-map}
use Rattle.geo_core.specs.declared.squares.Rect.{Rect}
use Rattle.geo_core.specs.declared.squares.Piece.{Piece}

pub All-from_rects : (P : Rect → Type 0) (pieces : List Piece) → All P (map (λ piece. piece.area) pieces) → All (λ piece. P piece.area) pieces
All-from_rects P pieces all = λ k d below.
    let long = length-map pieces (λ (p : Piece). p.area) in
    subst P (get_or-map (λ (p : Piece). p.area) pieces k d d.area below) (all k d.area (omega arith))

pub AllPairs-from_rects : (R : Rect → Rect → Type 0) (pieces : List Piece) → AllPairs R (map (λ piece. piece.area) pieces)
    → AllPairs (λ a b. R a.area b.area) pieces
AllPairs-from_rects R pieces all = λ i j d less below.
    let long = length-map pieces (λ (p : Piece). p.area) in
    let a = get_or-map (λ (p : Piece). p.area) pieces i d d.area (omega arith) in
    let b = get_or-map (λ (p : Piece). p.area) pieces j d d.area below in
    rw (← a, ← b) (all i j d.area less (omega arith))
