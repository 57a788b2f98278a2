-- Areas that paint may go over: what their strips are, and which squares they cover.
use Rattle.cell_paint.proofs.Common.{◌≡◌, inl, inr, ℕ, ◌+◌, ◌<◌, true, false, ◌||◌, List, [], ◌∷◌, length, take, zero, suc, get_or, refl, sym, ◌∙◌}
use Rattle.cell_paint.proofs.Common.{ap, subst, arith, All, Some, None, list_any, cases_Bool, true≢false, In, list_any-In, list_any-source, Square}
use Rattle.cell_paint.proofs.Common.{Rect, IsNear, LiesWithin, Covers, is_covered, IsProper, Covers-is_covered, is_covered-Covers, is_in_some}
use Rattle.cell_paint.proofs.Common.{paint_range, first_area_fault}
use Rattle.std.proofs.Common.{pos, neg_ℤ, ◌-ℤ◌, ◌≤ℤ◌, ◌<ℤ◌, ℤ}
use Rattle.std.specs.Prelude.{Option}
use Rattle.std.specs.Option.{option_or}
use Rattle.std.proofs.lemmas.Int.{ints}
use Rattle.geo_core.proofs.FiniteSets.Members.{In-get_or}
use Rattle.geo_core.proofs.FiniteSets.Searches.{option_or-none}
use Rattle.geo_core.specs.Areas.{has_square}
use Rattle.geo_core.specs.Strips.{IsStrips, IsInUnion}
use Rattle.geo_core.proofs.StripSets.{strip_is_proper, strip_within}
use Rattle.cell_paint.specs.declared.faults.PaintFault.{PaintFault}
use Rattle.cell_paint.specs.declared.faults.PaintFault.TheVariants.{EmptyRect, OutOfRange}
use Rattle.cell_paint.specs.Painting.{is_in_range, area_fault}

-- ---- squares of a list of areas

-- a square of the areas lies in one of them
pub some_area : (areas : List Rect) (square : Square) → is_in_some areas square ≡ true → IsInUnion areas square
some_area areas square is =
    let found = list_any-source (λ (area : Rect). is_covered area square) areas is in (found.0, (found.1.0, Covers-is_covered found.0 square found.1.1))

-- a square that lies in one of the areas is one of theirs
pub in_some : (areas : List Rect) (square : Square) → IsInUnion areas square → is_in_some areas square ≡ true
in_some areas square there = elim (cases_Bool (is_in_some areas square)) [
  | inl is ↦ is
  | inr none ↦
      absurd (true≢false (sym (is_covered-Covers there.0 square there.1.1)
      ∙ list_any-In (λ (area : Rect). is_covered area square) areas there.0 none there.1.0))
]

-- one area alone covers its squares
pub in_one : (area : Rect) (square : Square) → is_in_some (area ∷ []) square ≡ is_covered area square
in_one area square = elim (is_covered area square) as (λ b. (b || false) ≡ b) [ true ↦ refl | false ↦ refl ]

-- ---- areas that paint may go over

-- a square of an area in range is in range
in_range : (area : Rect) (square : Square) → is_in_range area ≡ true → Covers area square → Covers paint_range square
in_range area square within covers = record {
  right_of_xlo = grind (arith, ints);
  left_of_xhi = grind (arith, ints);
  above_ylo = grind (arith, ints);
  below_yhi = grind (arith, ints);
}

-- nothing is wrong with an area that is in range
fitting_range : (area : Rect) → area_fault area ≡ None → is_in_range area ≡ true
fitting_range area fits = elim (cases_Bool (has_square area)) [
  | inr none ↦ absurd (some_none EmptyRect (sym (rw none refl) ∙ fits))
  | inl has ↦ elim (cases_Bool (is_in_range area)) [
    | inl within ↦ within
    | inr past ↦ absurd (some_none OutOfRange (sym (rw (has, past) refl) ∙ fits))
  ]
]
  where
    some_none : (fault : PaintFault) → Some fault ≡ None → ⊥
    some_none fault is = cc

-- all areas are in range where none of them is at fault
fitting_In : (areas : List Rect) (area : Rect) → first_area_fault areas ≡ None → In area areas → is_in_range area ≡ true
fitting_In [] area fits none = absurd none
fitting_In (first ∷ areas) area fits (inl same) =
    subst (λ (a : Rect). is_in_range a ≡ true) same (fitting_range first (option_or-none (area_fault first) (first_area_fault areas) fits).0)
fitting_In (first ∷ areas) area fits (inr later) = fitting_In areas area (option_or-none (area_fault first) (first_area_fault areas) fits).1 later

-- all squares of such areas are in range
pub fitting_covered : (areas : List Rect) (square : Square) → first_area_fault areas ≡ None → is_in_some areas square ≡ true → Covers paint_range square
fitting_covered areas square fits is = let there = some_area areas square is in in_range there.0 square (fitting_In areas there.0 fits there.1.0) there.1.1

-- the fault of an area is the first where those before it have none
pub fault_at : (areas : List Rect) (index : ℕ) (d : Rect) (fault : PaintFault) → index < length areas → first_area_fault (take index areas) ≡ None
    → area_fault (get_or areas index d) ≡ Some fault → first_area_fault areas ≡ Some fault
fault_at [] index d fault inside before is = absurd (omega arith)
fault_at (first ∷ areas) zero d fault inside before is = ap (λ (o : Option PaintFault). option_or o (first_area_fault areas)) is
fault_at (first ∷ areas) (suc index) d fault inside before is =
    let parts = option_or-none (area_fault first) (first_area_fault (take index areas)) before in
    ap (λ (o : Option PaintFault). option_or o (first_area_fault areas)) parts.0 ∙ fault_at areas index d fault (omega arith) parts.1 is

-- one area more is not at fault
pub fits_more : (areas : List Rect) (index : ℕ) (d : Rect) → index < length areas → first_area_fault (take index areas) ≡ None
    → area_fault (get_or areas index d) ≡ None → first_area_fault (take (index + 1) areas) ≡ None
fits_more areas index d inside before is =
    let next : suc index ≡ index + 1 = omega arith in
    subst (λ (n : ℕ). first_area_fault (take n areas) ≡ None) next (go areas index inside before is)
  where
    go : (areas : List Rect) (index : ℕ) → index < length areas → first_area_fault (take index areas) ≡ None
        → area_fault (get_or areas index d) ≡ None → first_area_fault (take (suc index) areas) ≡ None
    go [] index inside before is = absurd (omega arith)
    go (first ∷ areas) zero inside before is = ap (λ (o : Option PaintFault). option_or o None) is
    go (first ∷ areas) (suc index) inside before is =
        let parts = option_or-none (area_fault first) (first_area_fault (take index areas)) before in
        ap (λ (o : Option PaintFault). option_or o (first_area_fault (take (suc index) areas))) parts.0 ∙ go areas index (omega arith) parts.1 is

-- what lies within an area that is near, and has a square, is near
pub near_within : (core area : Rect) → IsNear area → IsProper core → LiesWithin core area → IsNear core
near_within core area near proper within =
    let x0 : neg_ℤ (pos 268435456) <ℤ area.xlo = near.xlo.0 in let x1 : area.xhi <ℤ pos 268435456 = near.xhi.1 in
    let y0 : neg_ℤ (pos 268435456) <ℤ area.ylo = near.ylo.0 in let y1 : area.yhi <ℤ pos 268435456 = near.yhi.1 in
    let a : area.xlo ≤ℤ core.xlo = within.right_of_xlo in
    let b : area.ylo ≤ℤ core.ylo = within.above_ylo in
    let c : core.xhi ≤ℤ area.xhi = within.left_of_xhi in
    let d : core.yhi ≤ℤ area.yhi = within.below_yhi in
    let wide : core.xlo <ℤ core.xhi = proper.wide in
    let high : core.ylo <ℤ core.yhi = proper.high in
    record {
      xlo = (omega (arith, ints), omega (arith, ints));
      ylo = (omega (arith, ints), omega (arith, ints));
      xhi = (omega (arith, ints), omega (arith, ints));
      yhi = (omega (arith, ints), omega (arith, ints));
    }

-- ---- strips of areas

-- a rectangle whose lowest and highest squares are in range is near
near_corners : (area : Rect) → IsProper area → Covers paint_range (record { x = area.xlo; y = area.ylo })
    → Covers paint_range (record { x = area.xhi -ℤ pos 1; y = area.yhi -ℤ pos 1 }) → IsNear area
near_corners area proper first last =
    let wide : area.xlo <ℤ area.xhi = proper.wide in
    let high : area.ylo <ℤ area.yhi = proper.high in
    let f0 : paint_range.xlo ≤ℤ area.xlo = first.right_of_xlo in
    let f1 : paint_range.ylo ≤ℤ area.ylo = first.above_ylo in
    let l0 : (area.xhi -ℤ pos 1) <ℤ paint_range.xhi = last.left_of_xhi in
    let l1 : (area.yhi -ℤ pos 1) <ℤ paint_range.yhi = last.below_yhi in
    record {
      xlo = (omega (arith, ints), omega (arith, ints));
      ylo = (omega (arith, ints), omega (arith, ints));
      xhi = (omega (arith, ints), omega (arith, ints));
      yhi = (omega (arith, ints), omega (arith, ints));
    }

module _ (areas found : List Rect) (fits : first_area_fault areas ≡ None) (strips : IsStrips (IsInUnion areas) found) where
  -- each strip has a square
  pub strips_proper : All IsProper found
  strips_proper = λ k d below. strip_is_proper (IsInUnion areas) (get_or found k d) (strips.each (get_or found k d) (In-get_or found k d below))

  -- each is near
  pub strips_near : All IsNear found
  strips_near = λ k d below.
      let strip = get_or found k d in
      let is = strips.each strip (In-get_or found k d below) in
      let proper = strip_is_proper (IsInUnion areas) strip is in
      let wide : strip.xlo <ℤ strip.xhi = proper.wide in
      let high : strip.ylo <ℤ strip.yhi = proper.high in
      let covered : (x y : ℤ) → Covers strip (record { x = x; y = y }) → Covers paint_range (record { x = x; y = y }) =
      λ x y covers. fitting_covered areas (record { x = x; y = y }) fits
      (in_some areas (record { x = x; y = y }) (strip_within (IsInUnion areas) strip is x y covers)) in
      near_corners strip proper
      (covered strip.xlo strip.ylo (record { right_of_xlo = omega (arith, ints); left_of_xhi = wide; above_ylo = omega (arith, ints); below_yhi = high }))
      (covered (strip.xhi -ℤ pos 1) (strip.yhi -ℤ pos 1)
      (record { right_of_xlo = omega (arith, ints); left_of_xhi = omega (arith, ints); above_ylo = omega (arith, ints); below_yhi = omega (arith, ints) }))

  -- they cover what the areas cover
  pub strips_cover : (square : Square) → is_in_some found square ≡ is_in_some areas square
  strips_cover square = elim (cases_Bool (is_in_some areas square)) [
    | inl is ↦ in_some found square (strips.whole square (some_area areas square is)) ∙ sym is
    | inr none ↦ elim (cases_Bool (is_in_some found square)) [
      | inr neither ↦ neither ∙ sym none
      | inl is ↦
          let there = some_area found square is in
          absurd (true≢false (sym (in_some areas square (strip_within (IsInUnion areas) there.0 (strips.each there.0 there.1.0) square.x square.y there.1.1))
          ∙ none))
    ]
  ]
