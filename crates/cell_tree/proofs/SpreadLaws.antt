-- How far the elements of a grid go: the numbers that are computed fit.
use Rattle.cell_tree.proofs.Common.{◌≡◌, ◌↔◌, Bool, ℕ, suc, ◌*◌, ◌≤◌, ℤ, ◌≤ℤ◌, sym, ap, subst, ◌∙◌, arith, ints, clamps, mul-le-mul_right, int_min}
use Rattle.cell_tree.proofs.Common.{int_max, Grid, Rect, rect_is, IsShift, IsLawfulGrid, IsPaintable, way_of, spread_area}
use Rattle.std.proofs.Common.{IsTrue, pos, negsuc, neg_ℤ, ◌+ℤ◌, ◌-ℤ◌, ◌*ℤ◌, ◌<ℤ◌, to_z, of_z, w64, FitsSigned}
use Rattle.std.proofs.lemmas.Int.{to_z-of_z, to_z_pos}
use Rattle.std.specs.Int.{w32}
use Rattle.std.specs.Int.RustNames.{unsigned_abs}
use Rattle.geo_core.specs.declared.limits.TheConstants.{MOST_ELEMENTS, REACH}
use Rattle.geo_core.specs.Elements.{indices}
use Rattle.geo_core.specs.Reach.{SpansInReach}
use Rattle.cell_tree.specs.declared.limits.TheConstants.{SPREAD_EDGE}
use Rattle.cell_tree.specs.Hulls.{SpansInRange}

-- a number on its way through 64 bits
abbrev pub kept : ℤ → ℤ
kept z = to_z w64 (of_z w64 z)

-- so many steps of a shift lead no further down than a spread may
pub product_low : (n : ℕ) (s : ℤ) → n ≤ MOST_ELEMENTS → IsShift s → neg_ℤ SPREAD_EDGE ≤ℤ (pos n *ℤ s)
product_low n (pos a) few shift = omega (arith, ints)
product_low n (negsuc a) few shift =
    let more : n * suc a ≤ MOST_ELEMENTS * suc a = mul-le-mul_right (suc a) few in
    let small : suc a ≤ 134217716 = omega (arith, ints, shift.low) in omega (arith, ints, more, small)

-- so many steps of a shift lead no further up than a spread may
pub product_high : (n : ℕ) (s : ℤ) → n ≤ MOST_ELEMENTS → IsShift s → (pos n *ℤ s) ≤ℤ SPREAD_EDGE
product_high n (pos a) few shift =
    let more : n * a ≤ MOST_ELEMENTS * a = mul-le-mul_right a few in
    let small : a ≤ 134217716 = omega (arith, ints, shift.high) in omega (arith, ints, more, small)
product_high n (negsuc a) few shift = omega (arith, ints)

abs_swap : (a b : ℤ) → unsigned_abs (a -ℤ b) ≡ unsigned_abs (b -ℤ a)
abs_swap a b = omega (arith, ints)

-- The way of the last element of an index.
pub record WayFits (r : ℕ) (from to step : ℤ) : Type 0 where
  pub fits : FitsSigned w64 (to_z w64 r *ℤ kept step)
  pub way : kept (to_z w64 r *ℤ kept step) ≡ way_of from to step
  pub low : neg_ℤ SPREAD_EDGE ≤ℤ kept (to_z w64 r *ℤ kept step)
  pub high : kept (to_z w64 r *ℤ kept step) ≤ℤ SPREAD_EDGE

-- it fits
pub way_fits : (r : ℕ) (from to step : ℤ) → r ≡ unsigned_abs (kept from -ℤ kept to) → indices from to ≤ MOST_ELEMENTS → FitsSigned w64 from → FitsSigned w64 to
    → FitsSigned w64 step → IsShift step → WayFits r from to step
way_fits r from to step is few fits_from fits_to fits_step shift =
    let same : r ≡ unsigned_abs (to -ℤ from) =
    is ∙ ap (λ z. unsigned_abs (z -ℤ kept to)) (to_z-of_z w64 from fits_from) ∙ ap (λ z. unsigned_abs (from -ℤ z)) (to_z-of_z w64 to fits_to)
    ∙ abs_swap from to in
    let small : r ≤ MOST_ELEMENTS = omega (arith, same, few) in
    let product : (to_z w64 r *ℤ kept step) ≡ (pos r *ℤ step) =
    ap (λ z. z *ℤ kept step) (to_z_pos w64 r (omega (arith, small))) ∙ ap (λ z. pos r *ℤ z) (to_z-of_z w64 step fits_step) in
    let low : neg_ℤ SPREAD_EDGE ≤ℤ (pos r *ℤ step) = product_low r step small shift in
    let high : (pos r *ℤ step) ≤ℤ SPREAD_EDGE = product_high r step small shift in
    let fits : FitsSigned w64 (pos r *ℤ step) = between (pos r *ℤ step) low high in
    let keeps : kept (to_z w64 r *ℤ kept step) ≡ (pos r *ℤ step) = ap kept product ∙ to_z-of_z w64 (pos r *ℤ step) fits in
    record {
      fits = subst (FitsSigned w64) (sym product) fits;
      way = keeps ∙ ap (λ n. pos n *ℤ step) same;
      low = subst (λ z. neg_ℤ SPREAD_EDGE ≤ℤ z) (sym keeps) low;
      high = subst (λ z. z ≤ℤ SPREAD_EDGE) (sym keeps) high;
    }
  where
    between : (z : ℤ) → neg_ℤ SPREAD_EDGE ≤ℤ z → z ≤ℤ SPREAD_EDGE → FitsSigned w64 z
    between z a b = grind (arith, ints)

-- One side of a rectangle, spread along an index.
side_low : (low way from to step r : ℤ) → r ≡ (kept low +ℤ int_min (kept way) (pos 0)) → way ≡ way_of (kept from) (kept to) (kept step)
    → IsPaintable low → neg_ℤ SPREAD_EDGE ≤ℤ way → way ≤ℤ SPREAD_EDGE → kept from ≡ from → kept to ≡ to → kept step ≡ step
    → kept r ≡ (low +ℤ int_min (way_of from to step) (pos 0))
side_low low way from to step r is ways p w v a b c =
    let same : way ≡ way_of from to step = ways ∙ ap (λ z. way_of z (kept to) (kept step)) a ∙ ap (λ z. way_of from z (kept step)) b ∙ ap (way_of from to) c in
    let l : neg_ℤ (pos 67108858) ≤ℤ low = p.low in
    let h : low ≤ℤ pos 67108858 = p.high in
    subst (λ z. kept r ≡ (low +ℤ int_min z (pos 0))) same (omega (arith, ints, clamps, is, w, v, l, h))

side_high : (high way from to step r : ℤ) → r ≡ (kept high +ℤ int_max (kept way) (pos 0)) → way ≡ way_of (kept from) (kept to) (kept step)
    → IsPaintable high → neg_ℤ SPREAD_EDGE ≤ℤ way → way ≤ℤ SPREAD_EDGE → kept from ≡ from → kept to ≡ to → kept step ≡ step
    → kept r ≡ (high +ℤ int_max (way_of from to step) (pos 0))
side_high high way from to step r is ways p w v a b c =
    let same : way ≡ way_of from to step = ways ∙ ap (λ z. way_of z (kept to) (kept step)) a ∙ ap (λ z. way_of from z (kept step)) b ∙ ap (way_of from to) c in
    let l : neg_ℤ (pos 67108858) ≤ℤ high = p.low in
    let h : high ≤ℤ pos 67108858 = p.high in
    subst (λ z. kept r ≡ (high +ℤ int_max z (pos 0))) same (omega (arith, ints, clamps, is, w, v, l, h))

kept_w32 : (z : ℤ) → FitsSigned w32 z → kept z ≡ z
kept_w32 z fits = omega (arith, ints, fits)

-- what a spread side is computed from
pub record IsSpread (low high from to step way r s : ℤ) : Type 0 where
  pub ways : way ≡ way_of (kept from) (kept to) (kept step)
  pub way_low : neg_ℤ SPREAD_EDGE ≤ℤ way
  pub way_high : way ≤ℤ SPREAD_EDGE
  pub first : r ≡ (kept low +ℤ int_min (kept way) (pos 0))
  pub second : s ≡ (kept high +ℤ int_max (kept way) (pos 0))

-- the rectangle of these sides is the one round the child in all elements, and lies in reach
pub record IsSpreadArea (grid : Grid) (area : Rect) (xlo ylo xhi yhi : ℤ) : Type 0 where
  pub spread : record { xlo = kept xlo; ylo = kept ylo; xhi = kept xhi; yhi = kept yhi } ≡ spread_area grid area
  pub reach : SpansInReach (record { xlo = kept xlo; ylo = kept ylo; xhi = kept xhi; yhi = kept yhi })

spread_is : (grid : Grid) (area : Rect) (across up xlo ylo xhi yhi : ℤ) → IsLawfulGrid grid → SpansInRange area
    → IsSpread area.xlo area.xhi grid.xlo grid.xhi grid.xsep across xlo xhi → IsSpread area.ylo area.yhi grid.ylo grid.yhi grid.ysep up ylo yhi
    → record { xlo = kept xlo; ylo = kept ylo; xhi = kept xhi; yhi = kept yhi } ≡ spread_area grid area
spread_is grid area across up xlo ylo xhi yhi lawful spans a b =
    rect_is _ _
    (side_low area.xlo across grid.xlo grid.xhi grid.xsep xlo a.first a.ways spans.xlo a.way_low a.way_high
    (kept_w32 _ lawful.lawful.xlo) (kept_w32 _ lawful.lawful.xhi) (kept_w32 _ lawful.lawful.xsep))
    (side_low area.ylo up grid.ylo grid.yhi grid.ysep ylo b.first b.ways spans.ylo b.way_low b.way_high
    (kept_w32 _ lawful.lawful.ylo) (kept_w32 _ lawful.lawful.yhi) (kept_w32 _ lawful.lawful.ysep))
    (side_high area.xhi across grid.xlo grid.xhi grid.xsep xhi a.second a.ways spans.xhi a.way_low a.way_high
    (kept_w32 _ lawful.lawful.xlo) (kept_w32 _ lawful.lawful.xhi) (kept_w32 _ lawful.lawful.xsep))
    (side_high area.yhi up grid.ylo grid.yhi grid.ysep yhi b.second b.ways spans.yhi b.way_low b.way_high
    (kept_w32 _ lawful.lawful.ylo) (kept_w32 _ lawful.lawful.yhi) (kept_w32 _ lawful.lawful.ysep))

reach_low : (low way r : ℤ) → r ≡ (kept low +ℤ int_min (kept way) (pos 0)) → IsPaintable low → neg_ℤ SPREAD_EDGE ≤ℤ way → way ≤ℤ SPREAD_EDGE
    → (neg_ℤ REACH <ℤ kept r) × (kept r <ℤ REACH)
reach_low low way r is p w v =
    let l : neg_ℤ (pos 67108858) ≤ℤ low = p.low in
    let h : low ≤ℤ pos 67108858 = p.high in
    (omega (arith, ints, clamps, is, w, v, l, h), omega (arith, ints, clamps, is, w, v, l, h))

reach_high : (high way r : ℤ) → r ≡ (kept high +ℤ int_max (kept way) (pos 0)) → IsPaintable high → neg_ℤ SPREAD_EDGE ≤ℤ way → way ≤ℤ SPREAD_EDGE
    → (neg_ℤ REACH <ℤ kept r) × (kept r <ℤ REACH)
reach_high high way r is p w v =
    let l : neg_ℤ (pos 67108858) ≤ℤ high = p.low in
    let h : high ≤ℤ pos 67108858 = p.high in
    (omega (arith, ints, clamps, is, w, v, l, h), omega (arith, ints, clamps, is, w, v, l, h))

spread_reaches : (grid : Grid) (area : Rect) (across up xlo ylo xhi yhi : ℤ) → SpansInRange area
    → IsSpread area.xlo area.xhi grid.xlo grid.xhi grid.xsep across xlo xhi → IsSpread area.ylo area.yhi grid.ylo grid.yhi grid.ysep up ylo yhi
    → SpansInReach (record { xlo = kept xlo; ylo = kept ylo; xhi = kept xhi; yhi = kept yhi })
spread_reaches grid area across up xlo ylo xhi yhi spans a b =
    record {
      xlo = reach_low area.xlo across xlo a.first spans.xlo a.way_low a.way_high;
      ylo = reach_low area.ylo up ylo b.first spans.ylo b.way_low b.way_high;
      xhi = reach_high area.xhi across xhi a.second spans.xhi a.way_low a.way_high;
      yhi = reach_high area.yhi up yhi b.second spans.yhi b.way_low b.way_high;
    }

-- A rectangle whose sides are spread.
pub spread_both : (grid : Grid) (area : Rect) {across up xlo ylo xhi yhi : ℤ} → IsLawfulGrid grid → SpansInRange area
    → IsSpread area.xlo area.xhi grid.xlo grid.xhi grid.xsep across xlo xhi → IsSpread area.ylo area.yhi grid.ylo grid.yhi grid.ysep up ylo yhi
    → IsSpreadArea grid area xlo ylo xhi yhi
spread_both grid area lawful spans a b =
    record { spread = spread_is grid area _ _ _ _ _ _ lawful spans a b; reach = spread_reaches grid area _ _ _ _ _ _ spans a b }

-- the range of paint holds a rectangle where it holds its sides
pub spans_iff : (area : Rect) (b : Bool) → IsPaintable (kept area.xlo) × IsPaintable (kept area.xhi)
    → (IsTrue b ↔ (IsPaintable (kept area.ylo) × IsPaintable (kept area.yhi)))
    → FitsSigned w64 area.xlo → FitsSigned w64 area.xhi → FitsSigned w64 area.ylo → FitsSigned w64 area.yhi → IsTrue b ↔ SpansInRange area
spans_iff area b across up a c d e = (
  (λ t. record {
    xlo = subst IsPaintable (to_z-of_z w64 area.xlo a) across.0;
    xhi = subst IsPaintable (to_z-of_z w64 area.xhi c) across.1;
    ylo = subst IsPaintable (to_z-of_z w64 area.ylo d) (up.0 t).0;
    yhi = subst IsPaintable (to_z-of_z w64 area.yhi e) (up.0 t).1;
  }),
  (λ spans. up.1 (subst IsPaintable (sym (to_z-of_z w64 area.ylo d)) spans.ylo, subst IsPaintable (sym (to_z-of_z w64 area.yhi e)) spans.yhi)),
)
