-- Rectangles that are grown cover what their squares reach.
use Rattle.square_sets.proofs.Common.{ℤ, pos, neg_ℤ, ◌+ℤ◌, ◌-ℤ◌, ◌≤ℤ◌, ◌<ℤ◌, List, map, sym, subst, arith, All, ints, In-map, In-map_source, All-In}
use Rattle.square_sets.proofs.Common.{All-from_In, PLANE_EDGE, Square, Rect, Covers, IsProper, IsInUnion, SET_EDGE, grown, AreSameSquares, IsBounded}
use Rattle.square_sets.proofs.Common.{IsDilated, IsReach, Reaches}
use Rattle.std.specs.Int.{int_max}
use Rattle.std.proofs.lemmas.Int.{clamps}

-- some square of a rectangle reaches each square of the rectangle that is grown
grown_reached : (low high : ℤ) (area : Rect) (square : Square) → IsReach low → IsReach high → IsProper area → Covers (grown low high area) square
    → (other : Square) × (Covers area other × Reaches low high other square)
grown_reached low high area square p q proper c =
    let least : pos 0 ≤ℤ low = p.0 in
    let most : pos 0 ≤ℤ high = q.0 in
    let wide : area.xlo <ℤ area.xhi = proper.wide in
    let tall : area.ylo <ℤ area.yhi = proper.high in
    let left : (area.xlo -ℤ low) ≤ℤ square.x = c.right_of_xlo in
    let right : square.x <ℤ (area.xhi +ℤ high) = c.left_of_xhi in
    let below : (area.ylo -ℤ low) ≤ℤ square.y = c.above_ylo in
    let above : square.y <ℤ (area.yhi +ℤ high) = c.below_yhi in (
      record { x = int_max area.xlo (square.x -ℤ high); y = int_max area.ylo (square.y -ℤ high) },
      (
        record {
          right_of_xlo = omega (arith, ints, clamps);
          left_of_xhi = omega (arith, ints, clamps);
          above_ylo = omega (arith, ints, clamps);
          below_yhi = omega (arith, ints, clamps);
        },
        record {
          left = omega (arith, ints, clamps);
          right = omega (arith, ints, clamps);
          below = omega (arith, ints, clamps);
          above = omega (arith, ints, clamps);
        },
      ),
    )

-- and what a square of it reaches is one of these
reached_grown : (low high : ℤ) (area : Rect) (square other : Square) → Covers area other → Reaches low high other square → Covers (grown low high area) square
reached_grown low high area square other c r =
    let a : area.xlo ≤ℤ other.x = c.right_of_xlo in
    let b : other.x <ℤ area.xhi = c.left_of_xhi in
    let d : area.ylo ≤ℤ other.y = c.above_ylo in
    let e : other.y <ℤ area.yhi = c.below_yhi in
    let f : (other.x -ℤ low) ≤ℤ square.x = r.left in
    let g : square.x ≤ℤ (other.x +ℤ high) = r.right in
    let h : (other.y -ℤ low) ≤ℤ square.y = r.below in
    let i : square.y ≤ℤ (other.y +ℤ high) = r.above in
    record {
      right_of_xlo = omega (arith, ints);
      left_of_xhi = omega (arith, ints);
      above_ylo = omega (arith, ints);
      below_yhi = omega (arith, ints);
    }

module _ (low high : ℤ) (areas : List Rect) (p : IsReach low) (q : IsReach high) (proper : All IsProper areas) where
  -- what holds of each rectangle that is grown holds of all of them
  each_grown : (P : Rect → Type 0) → ((area : Rect) → IsProper area → P (grown low high area)) → All P (map (grown low high) areas)
  each_grown P holds = All-from_In P (map (grown low high) areas) (λ area i.
      let source = In-map_source (grown low high) area areas i in
      subst P source.1.1 (holds source.0 (All-In IsProper areas source.0 proper source.1.0)))

  -- the rectangles, grown, cover what their squares reach
  pub grown_same : AreSameSquares (IsInUnion (map (grown low high) areas)) (IsDilated low high (IsInUnion areas))
  grown_same = record {
    to = λ square u. (let source = In-map_source (grown low high) u.0 areas u.1.0 in
        let c : Covers (grown low high source.0) square = subst (λ (area : Rect). Covers area square) (sym source.1.1) u.1.1 in
        let r = grown_reached low high source.0 square p q (All-In IsProper areas source.0 proper source.1.0) c in
        (r.0, ((source.0, (source.1.0, r.1.0)), r.1.1)));
    back = λ square d. (let u = d.1.0 in
        (grown low high u.0, (In-map (grown low high) u.0 areas u.1.0, reached_grown low high u.0 square d.0 u.1.1 d.1.1)));
  }

  -- they have squares
  pub grown_proper : All IsProper (map (grown low high) areas)
  grown_proper = each_grown IsProper (λ area had.
      let least : pos 0 ≤ℤ low = p.0 in
      let most : pos 0 ≤ℤ high = q.0 in
      let wide : area.xlo <ℤ area.xhi = had.wide in
      let tall : area.ylo <ℤ area.yhi = had.high in
      let is : IsProper (grown low high area) = record { wide = omega (arith, ints); high = omega (arith, ints) } in
      is)

-- what is grown goes nowhere past the edge of planes
pub grown_bounded : (low high : ℤ) (areas : List Rect) → IsReach low → IsReach high → All (IsBounded SET_EDGE) areas
    → All (IsBounded PLANE_EDGE) (map (grown low high) areas)
grown_bounded low high areas p q all = All-from_In (IsBounded PLANE_EDGE) (map (grown low high) areas) (λ area i.
    let source = In-map_source (grown low high) area areas i in
    let had = All-In (IsBounded SET_EDGE) areas source.0 all source.1.0 in
    let a : neg_ℤ SET_EDGE ≤ℤ source.0.xlo = had.right_of_xlo in
    let b : neg_ℤ SET_EDGE ≤ℤ source.0.ylo = had.above_ylo in
    let c : source.0.xhi ≤ℤ SET_EDGE = had.left_of_xhi in
    let d : source.0.yhi ≤ℤ SET_EDGE = had.below_yhi in
    let is : IsBounded PLANE_EDGE (grown low high source.0) = record {
      right_of_xlo = omega (arith, ints, p.1);
      above_ylo = omega (arith, ints, p.1);
      left_of_xhi = omega (arith, ints, q.1);
      below_yhi = omega (arith, ints, q.1);
    } in
    subst (IsBounded PLANE_EDGE) source.1.1 is)
