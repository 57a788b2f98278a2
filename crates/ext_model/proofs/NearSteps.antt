-- How far the elements of lawful grids are displaced, and the uses that they are.
use Rattle.ext_model.proofs.Common.{◌≡◌, ℕ, suc, ◌≤◌, ◌<◌, ℤ, pos, negsuc, List, refl, sym, ap, subst, ◌∙◌, arith, In, Grid}
use Rattle.std.proofs.Common.{◌*◌, ◌/◌, ◌%◌, ◌^◌, neg_ℤ}
use Rattle.std.proofs.Common.{◌*ℤ◌, ◌≤ℤ◌, ◌<ℤ◌, w32, FitsSigned}
use Rattle.std.specs.Prelude.{Some, slice_get}
use Rattle.std.specs.Int.RustNames.{unsigned_abs}
use Rattle.std.proofs.Math.Nat.{mul-le-mul_right}
use Rattle.std.proofs.lemmas.Int.{ints}
use Rattle.std.proofs.lemmas.Option.{same_Some, slice_get_within, slice_get-get_or}
use Rattle.geo_core.proofs.FiniteSets.Members.{In-index}
use Rattle.geo_core.specs.declared.limits.TheConstants.{MOST_ELEMENTS}
use Rattle.geo_core.specs.declared.orients.Orient.{Orient}
use Rattle.geo_core.specs.declared.orients.Orient.TheVariants.{R0}
use Rattle.geo_core.specs.declared.transforms.Transform.{Transform}
use Rattle.geo_core.specs.Elements.{element_of, elements_of, IsLawful}
use Rattle.geo_core.specs.Images.{point_x, point_y}
use Rattle.geo_core.proofs.ElementLaws.{columns, elements_of-at, stands_at}
use Rattle.ext_model.specs.declared.limits.TheConstants.{SHIFT_EDGE, ELEMENT_EDGE}
use Rattle.ext_model.specs.Lawful.{IsPlacement}
use Rattle.ext_model.specs.Plain.{displaced}

-- the farthest that an element of a grid is displaced
abbrev SPREAD : ℤ
SPREAD = pos (2 ^ 51)

low_of : (n : ℕ) (s : ℤ) → n ≤ MOST_ELEMENTS → FitsSigned w32 s → neg_ℤ SPREAD ≤ℤ (pos n *ℤ s)
low_of n (pos a) few fits = omega (arith, ints)
low_of n (negsuc a) few fits =
    let more : n * suc a ≤ MOST_ELEMENTS * suc a = mul-le-mul_right (suc a) few in
    let small : suc a ≤ 2 ^ 31 = grind (arith, ints) in omega (arith, ints, more, small)

high_of : (n : ℕ) (s : ℤ) → n ≤ MOST_ELEMENTS → FitsSigned w32 s → (pos n *ℤ s) ≤ℤ SPREAD
high_of n (pos a) few fits =
    let more : n * a ≤ MOST_ELEMENTS * a = mul-le-mul_right a few in
    let small : a ≤ 2 ^ 31 = grind (arith, ints) in omega (arith, ints, more, small)
high_of n (negsuc a) few fits = omega (arith, ints)

record IsNear (z : ℤ) : Type 0 where
  low : neg_ℤ SPREAD ≤ℤ z
  high : z ≤ℤ SPREAD

near : (n : ℕ) (s z : ℤ) → n ≤ MOST_ELEMENTS → FitsSigned w32 s → z ≡ (pos n *ℤ s) → IsNear z
near n s z few fits is = record {
  low = subst (λ v. neg_ℤ SPREAD ≤ℤ v) (sym is) (low_of n s few fits);
  high = subst (λ v. v ≤ℤ SPREAD) (sym is) (high_of n s few fits);
}

-- an element of a lawful grid is displaced so
near_both : (grid : Grid) → IsLawful grid → (element : ℤ × ℤ × ℤ × ℤ) → In element (elements_of grid) → IsNear element.2 × IsNear element.3
near_both grid lawful element here =
    let found = In-index element (elements_of grid) here in
    let k = found.0 in
    let is : slice_get (elements_of grid) k ≡ Some element = slice_get-get_or (elements_of grid) k element found.1.0 ∙ ap Some (found.1.1 element) in
    let m = k / columns grid in
    let n = k % columns grid in
    let stands = stands_at grid k (columns grid) lawful (slice_get_within (elements_of grid) k element is) refl in
    let same : element ≡ element_of grid (pos m, pos n) =
    same_Some element (element_of grid (pos m, pos n)) (sym is ∙ elements_of-at grid k m n stands.row stands.column stands.at) in (
      near n grid.xsep element.2 stands.column_small lawful.xsep (ap (λ (e : ℤ × ℤ × ℤ × ℤ). e.2) same),
      near m grid.ysep element.3 stands.row_small lawful.ysep (ap (λ (e : ℤ × ℤ × ℤ × ℤ). e.3) same),
    )

-- the transform that displaces first
abbrev moved : Orient → ℤ → ℤ → ℤ → ℤ → Transform
moved o dx dy x y =
    let t : Transform = record { orient = o; dx = dx; dy = dy } in
    record { orient = o; dx = point_x t x y; dy = point_y t x y }

below : (z : ℤ) → neg_ℤ (pos ELEMENT_EDGE) <ℤ z → z <ℤ pos ELEMENT_EDGE → unsigned_abs z < ELEMENT_EDGE
below (pos n) low high = omega (arith, ints)
below (negsuc n) low high = omega (arith, ints)

edges : (z : ℤ) → unsigned_abs z < SHIFT_EDGE → (neg_ℤ (pos SHIFT_EDGE) <ℤ z) × (z <ℤ pos SHIFT_EDGE)
edges (pos n) h = (omega (arith, ints), omega (arith, ints))
edges (negsuc n) h = (omega (arith, ints), omega (arith, ints))

record IsBounded (t : Transform) : Type 0 where
  left : neg_ℤ (pos ELEMENT_EDGE) <ℤ t.dx
  right : t.dx <ℤ pos ELEMENT_EDGE
  down : neg_ℤ (pos ELEMENT_EDGE) <ℤ t.dy
  up : t.dy <ℤ pos ELEMENT_EDGE

bounded_by_orient : (o : Orient) (dx dy x y : ℤ) → unsigned_abs dx < SHIFT_EDGE → unsigned_abs dy < SHIFT_EDGE → IsNear x → IsNear y
    → IsBounded (moved o dx dy x y)
bounded_by_orient R0 dx dy x y hx hy nx ny =
    let ex = edges dx hx in
    let ey = edges dy hy in
    record {
      left = omega (arith, ints, ex.0, ex.1, ey.0, ey.1, nx.low, nx.high, ny.low, ny.high);
      right = omega (arith, ints, ex.0, ex.1, ey.0, ey.1, nx.low, nx.high, ny.low, ny.high);
      down = omega (arith, ints, ex.0, ex.1, ey.0, ey.1, nx.low, nx.high, ny.low, ny.high);
      up = omega (arith, ints, ex.0, ex.1, ey.0, ey.1, nx.low, nx.high, ny.low, ny.high);
    }
bounded_by_orient _ dx dy x y hx hy nx ny =
    let ex = edges dx hx in
    let ey = edges dy hy in
    record {
      left = omega (arith, ints, ex.0, ex.1, ey.0, ey.1, nx.low, nx.high, ny.low, ny.high);
      right = omega (arith, ints, ex.0, ex.1, ey.0, ey.1, nx.low, nx.high, ny.low, ny.high);
      down = omega (arith, ints, ex.0, ex.1, ey.0, ey.1, nx.low, nx.high, ny.low, ny.high);
      up = omega (arith, ints, ex.0, ex.1, ey.0, ey.1, nx.low, nx.high, ny.low, ny.high);
    }

-- the six numbers of an element of a lawful use
pub element_placement : (six : List ℤ) (grid : Grid) → IsPlacement SHIFT_EDGE six → IsLawful grid → (element : ℤ × ℤ × ℤ × ℤ)
    → In element (elements_of grid) → IsPlacement ELEMENT_EDGE (displaced six element.2 element.3)
element_placement six grid is lawful element here =
    let step = near_both grid lawful element here in
    let t = is.transform in
    let small = bounded_by_orient t.orient t.dx t.dy element.2 element.3 is.dx is.dy step.0 step.1 in
    let to = moved t.orient t.dx t.dy element.2 element.3 in
    subst (λ (s : List ℤ). IsPlacement ELEMENT_EDGE (displaced s element.2 element.3)) is.numbers
    (record {
      transform = moved t.orient t.dx t.dy element.2 element.3;
      numbers = refl;
      dx = below to.dx small.left small.right;
      dy = below to.dy small.down small.up;
    })

-- and those of one without a grid
pub use_placement : (six : List ℤ) → IsPlacement SHIFT_EDGE six → IsPlacement ELEMENT_EDGE six
use_placement six is = record {
  transform = is.transform;
  numbers = is.numbers;
  dx = (let h = is.dx in omega (arith, h));
  dy = (let h = is.dy in omega (arith, h));
}
