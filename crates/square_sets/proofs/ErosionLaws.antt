-- Strips that lose columns cover the squares that reach squares of their set alone along a row. Turned, the same once more does it along columns.
use Rattle.square_sets.proofs.Common.{◌≡◌, ℤ, pos, neg_ℤ, ◌+ℤ◌, ◌-ℤ◌, ◌≤ℤ◌, ◌<ℤ◌, inl, inr, List, take, map, sym, ◌∙◌, ap, subst, arith, All, filter}
use Rattle.square_sets.proofs.Common.{ints, In-map, In-map_source, In-filter, In-filter_source, In-filter_passes, All-In, All-from_In, Square, Rect}
use Rattle.square_sets.proofs.Common.{has_square, LiesWithin, Covers, IsProper, IsInUnion, IsStrips, strips_same, upright_core, AreSameSquares}
use Rattle.square_sets.proofs.Common.{IsBounded, IsEroded, IsReach}
use Rattle.std.proofs.Common.{ℕ, ◌+◌, ◌<◌, cond, [], ◌∷◌, ◌++◌, length, get_or}
use Rattle.std.proofs.lemmas.List.{map-append, take_more}
use Rattle.std.proofs.lemmas.List.Elements.{filter-append}
use Rattle.geo_core.proofs.FiniteSets.Orders.{at_most_or_greater}
use Rattle.geo_core.proofs.CoveringLaws.{IsProper-has_square, has_square-IsProper}
use Rattle.geo_core.proofs.StripSets.{strip_is_proper, strip_within}
use Rattle.square_sets.proofs.BoundLaws.{union_within}

-- ---- strips of a set

-- strips have squares, and cover their set
pub strips_cover : (S : Square → Type 0) (strips : List Rect) → IsStrips S strips → All IsProper strips × AreSameSquares (IsInUnion strips) S
strips_cover S strips are = (
  All-from_In IsProper strips (λ area i. strip_is_proper S area (are.each area i)),
  record { to = λ square u. strip_within S u.0 (are.each u.0 u.1.0) square.x square.y u.1.1; back = are.whole },
)

-- the strips of a set are those of one with the same squares
pub strips_of_same : (S T : Square → Type 0) → AreSameSquares S T → (strips : List Rect) → IsStrips S strips → IsStrips T strips
strips_of_same S T same = strips_same S T same.to same.back

-- strips are the strips of what they cover
pub strips_again : (S : Square → Type 0) (strips : List Rect) → IsStrips S strips → IsStrips (IsInUnion strips) strips
strips_again S strips are = let cover = (strips_cover S strips are).1 in strips_same S (IsInUnion strips) cover.back cover.to strips are

-- what lies round some rectangles lies round the strips of what they cover
pub strips_within : (areas strips : List Rect) (around : Rect) → All (λ area. LiesWithin area around) areas → IsStrips (IsInUnion areas) strips
    → All (λ area. LiesWithin area around) strips
strips_within areas strips around all are = let cover = strips_cover (IsInUnion areas) strips are in union_within areas strips around all cover.0 cover.1.to

-- ---- along rows, and along columns

-- in its row the square reaches squares of the set alone
abbrev pub IsRowEroded : ℤ → ℤ → (Square → Type 0) → Square → Type 0
IsRowEroded low high S square = (x : ℤ) → (square.x -ℤ low) ≤ℤ x → x ≤ℤ (square.x +ℤ high) → S (record { x = x; y = square.y })

-- the square with its row for its column
abbrev pub turned : Square → Square
turned square = record { x = square.y; y = square.x }

-- the strips less columns on both sides, turned
abbrev pub cores : ℤ → ℤ → List Rect → List Rect
cores low high strips = filter has_square (map (upright_core low high) strips)

-- one strip more: it adds its core, unless that has no square
pub cores_more : (low high : ℤ) (strips : List Rect) (i : ℕ) (core d : Rect) → i < length strips → core ≡ upright_core low high (get_or strips i d)
    → cores low high (take (i + 1) strips) ≡ cores low high (take i strips) ++ cond (has_square core) (core ∷ []) []
cores_more low high strips i core d below is =
    let here = upright_core low high (get_or strips i d) in
    ap (cores low high) (take_more strips i d below)
    ∙ ap (filter has_square) (map-append (upright_core low high) (take i strips) (get_or strips i d ∷ []))
    ∙ filter-append has_square (map (upright_core low high) (take i strips)) (here ∷ [])
    ∙ ap (λ (area : Rect). cores low high (take i strips) ++ cond (has_square area) (area ∷ []) []) (sym is)

-- what is left of them has squares
pub cores_proper : (low high : ℤ) (strips : List Rect) → All IsProper (cores low high strips)
cores_proper low high strips = All-from_In IsProper (cores low high strips)
    (λ area i. IsProper-has_square area (In-filter_passes has_square area (map (upright_core low high) strips) i))

-- and goes nowhere past an edge that they don't pass
pub cores_bounded : (edge low high : ℤ) (strips : List Rect) → IsReach low → IsReach high → All (IsBounded edge) strips
    → All (IsBounded edge) (cores low high strips)
cores_bounded edge low high strips p q all = All-from_In (IsBounded edge) (cores low high strips) (λ area i.
    let kept = In-filter_source has_square area (map (upright_core low high) strips) i in
    let source = In-map_source (upright_core low high) area strips kept in
    let had = All-In (IsBounded edge) strips source.0 all source.1.0 in
    let least : pos 0 ≤ℤ low = p.0 in
    let most : pos 0 ≤ℤ high = q.0 in
    let left : neg_ℤ edge ≤ℤ source.0.xlo = had.right_of_xlo in
    let right : source.0.xhi ≤ℤ edge = had.left_of_xhi in
    let is : IsBounded edge (upright_core low high source.0) = record {
      right_of_xlo = had.above_ylo;
      above_ylo = omega (arith, ints);
      left_of_xhi = had.below_yhi;
      below_yhi = omega (arith, ints);
    } in
    subst (IsBounded edge) source.1.1 is)

module _ (S : Square → Type 0) (low high : ℤ) (strips : List Rect) (p : IsReach low) (q : IsReach high) (are : IsStrips S strips) where
  least : pos 0 ≤ℤ low
  least = p.0

  most : pos 0 ≤ℤ high
  most = q.0

  cores_sound : (square : Square) → IsInUnion (cores low high strips) square → IsRowEroded low high S (turned square)
  cores_sound square u x from to =
      let kept = In-filter_source has_square u.0 (map (upright_core low high) strips) u.1.0 in
      let source = In-map_source (upright_core low high) u.0 strips kept in
      let c : Covers (upright_core low high source.0) square = subst (λ (area : Rect). Covers area square) (sym source.1.1) u.1.1 in
      let left : (source.0.xlo +ℤ low) ≤ℤ square.y = c.above_ylo in
      let right : square.y <ℤ (source.0.xhi -ℤ high) = c.below_yhi in
      ((are.each source.0 source.1.0).runs square.x c.right_of_xlo c.left_of_xhi).within x (omega (arith, ints)) (omega (arith, ints))

  cores_whole : (square : Square) → IsRowEroded low high S (turned square) → IsInUnion (cores low high strips) square
  cores_whole square all =
      let from = least in
      let to = most in
      let u = are.whole (turned square) (all square.y (omega (arith, ints)) (omega (arith, ints))) in
      let c = u.1.1 in
      let left : u.0.xlo ≤ℤ square.y = c.right_of_xlo in
      let right : square.y <ℤ u.0.xhi = c.left_of_xhi in
      let below : u.0.ylo ≤ℤ square.x = c.above_ylo in
      let above : square.x <ℤ u.0.yhi = c.below_yhi in
      let run = (are.each u.0 u.1.0).runs square.x below above in
      let more_left : (u.0.xlo +ℤ low) ≤ℤ square.y = elim (at_most_or_greater (u.0.xlo +ℤ low) square.y) [
        | inl far ↦ far
        | inr less ↦ absurd (run.left (all (u.0.xlo -ℤ pos 1) (omega (arith, ints, less)) (omega (arith, ints))))
      ] in
      let more_right : square.y <ℤ (u.0.xhi -ℤ high) = elim (at_most_or_greater (u.0.xhi -ℤ high) square.y) [
        | inl less ↦ absurd (run.right (all u.0.xhi (omega (arith, ints)) (omega (arith, ints, less))))
        | inr far ↦ far
      ] in
      let core = upright_core low high u.0 in
      let covers : Covers core square = record { right_of_xlo = below; left_of_xhi = above; above_ylo = more_left; below_yhi = more_right } in
      let proper : IsProper core = record { wide = omega (arith, ints); high = omega (arith, ints) } in
      let kept = In-filter has_square core (map (upright_core low high) strips) (In-map (upright_core low high) u.0 strips u.1.0)
      (has_square-IsProper core proper) in
      (core, (kept, covers))

  pub cores_same : AreSameSquares (IsInUnion (cores low high strips)) (λ square. IsRowEroded low high S (turned square))
  cores_same = record { to = cores_sound; back = cores_whole }

-- The strips of a set lose columns and are turned; so do the strips of what is left. That covers what reaches squares of the set alone.
pub eroded_same : (S : Square → Type 0) (low high : ℤ) (strips columns : List Rect) → IsReach low → IsReach high → IsStrips S strips
    → IsStrips (IsInUnion (cores low high strips)) columns → AreSameSquares (IsInUnion (cores low high columns)) (IsEroded low high S)
eroded_same S low high strips columns p q are upright =
    let rows = cores_same S low high strips p q are in
    let both = cores_same (IsInUnion (cores low high strips)) low high columns p q upright in
    record {
      to = λ square u other reached. rows.to (record { x = other.y; y = square.x }) (both.to square u other.y reached.below reached.above) other.x
          reached.left reached.right;
      back = λ square all. both.back square (λ y from to. rows.back (record { x = y; y = square.x }) (λ x before after.
          all (record { x = x; y = y }) (record { left = before; right = after; below = from; above = to })));
    }

-- what is left of a set is of the set
pub eroded_within : (S : Square → Type 0) (low high : ℤ) (square : Square) → pos 0 ≤ℤ low → pos 0 ≤ℤ high → IsEroded low high S square → S square
eroded_within S low high square p q all =
    all square (record { left = omega (arith, ints); right = omega (arith, ints); below = omega (arith, ints); above = omega (arith, ints) })
