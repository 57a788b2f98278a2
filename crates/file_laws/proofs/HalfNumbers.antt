-- Numbers that are written twice as large, and read by half.
use Rattle.file_laws.proofs.Common.{◌≡◌, ◌≤◌, ◌+◌, ℕ, ℤ, pos, negsuc, Bool, true, false, ap, ◌∙◌, arith, FitsSigned, ◌*ℤ◌, int_eq, and_from, ints}
use Rattle.file_laws.proofs.Common.{Rect}
use Rattle.std.proofs.Common.{◌*◌, ◌/◌, ◌%◌, ◌^◌, ◌||◌, ◌≤ℤ◌, ◌<ℤ◌}
use Rattle.std.specs.Prelude.{◌-◌, ◌+ℤ◌, ◌-ℤ◌, neg_ℤ, int_lt}
use Rattle.std.specs.Int.{int_div_euclid, int_rem_euclid, w32}
use Rattle.cif_reading.specs.declared.scales.Scale.{Scale}
use Rattle.cif_reading.specs.Boxes.{area_is_in_range, area_is_whole, area_said, halved, has_short_side, high_edge, is_in_range, low_edge}
use Rattle.cif_reading.specs.Scales.{is_whole, scaled}

-- the scale of the symbols that are written
abbrev pub half : Scale
half = record { up = pos 1; down = pos 2 }

-- four numbers up to this have 32 bits together
abbrev pub near_edge : ℕ
near_edge = 2 ^ 28

-- The number is at most so far from 0.
pub record IsNear (z : ℤ) : Type 0 where
  pub low : neg_ℤ (pos near_edge) ≤ℤ z
  pub high : z ≤ℤ pos near_edge

-- A box with squares, whose edges are near.
pub record IsNearBox (area : Rect) : Type 0 where
  pub wide : area.xlo <ℤ area.xhi
  pub high : area.ylo <ℤ area.yhi
  pub xlo : IsNear area.xlo
  pub ylo : IsNear area.ylo
  pub xhi : IsNear area.xhi
  pub yhi : IsNear area.yhi

-- ---- 32 bits

fits_by : (z : ℤ) → neg_ℤ (pos (2 ^ 31)) <ℤ z → z <ℤ pos (2 ^ 31) → FitsSigned w32 z
fits_by (pos n) low high = record { sfits = omega (arith, ints) }
fits_by (negsuc n) low high = record { sfits = omega (arith, ints) }

-- twice a number, twice the way from one to another, their sum, and a count
pub twice_fits : (z : ℤ) → IsNear z → FitsSigned w32 (pos 2 *ℤ z)
twice_fits z near = fits_by (pos 2 *ℤ z) (omega (arith, ints)) (omega (arith, ints))

pub way_fits : (a b : ℤ) → IsNear a → IsNear b → FitsSigned w32 (pos 2 *ℤ (b -ℤ a))
way_fits a b p q = fits_by (pos 2 *ℤ (b -ℤ a)) (omega (arith, ints)) (omega (arith, ints))

pub sum_fits : (a b : ℤ) → IsNear a → IsNear b → FitsSigned w32 (a +ℤ b)
sum_fits a b p q = fits_by (a +ℤ b) (omega (arith, ints)) (omega (arith, ints))

pub count_fits : (n : ℕ) → n ≤ near_edge → FitsSigned w32 (pos n)
count_fits n few = record { sfits = omega arith }

-- a reader takes them
pub fits_in_range : (z : ℤ) → FitsSigned w32 z → is_in_range z ≡ true
fits_in_range (pos n) fits = let small = fits.sfits in grind (arith, ints)
fits_in_range (negsuc n) fits = let small = fits.sfits in grind (arith, ints)

-- ---- four times a number

quarter : (e : ℤ) → int_div_euclid (pos 4 *ℤ e) (pos 4) ≡ e
quarter (pos a) = let is : (4 * a) / 4 ≡ a = omega arith in ap pos is
quarter (negsuc a) =
    let four : pos 4 *ℤ negsuc a ≡ negsuc (4 * a + 3) = omega (arith, ints) in
    let is : (4 * a + 3) / 4 ≡ a = omega arith in
    ap (λ (z : ℤ). int_div_euclid z (pos 4)) four ∙ ap negsuc is

fourth_whole : (e : ℤ) → int_rem_euclid (pos 4 *ℤ e) (pos 4) ≡ pos 0
fourth_whole (pos a) = let is : (4 * a) % 4 ≡ 0 = omega arith in ap pos is
fourth_whole (negsuc a) =
    let four : pos 4 *ℤ negsuc a ≡ negsuc (4 * a + 3) = omega (arith, ints) in
    let is : (4 * a + 3) % 4 ≡ 3 = omega arith in
    ap (λ (z : ℤ). int_rem_euclid z (pos 4)) four ∙ ap (λ (r : ℕ). pos (3 - r)) is

-- so an edge is read as it was written, and is whole
pub edge_read : (z e : ℤ) → z ≡ pos 4 *ℤ e → scaled (halved half) z ≡ e
edge_read z e is =
    let same : z *ℤ pos 1 ≡ pos 4 *ℤ e = omega (arith, ints) in
    ap (λ (y : ℤ). int_div_euclid y (pos 4)) same ∙ quarter e

pub edge_whole : (z e : ℤ) → z ≡ pos 4 *ℤ e → is_whole (halved half) z ≡ true
edge_whole z e is =
    let same : z *ℤ pos 1 ≡ pos 4 *ℤ e = omega (arith, ints) in
    ap (λ (y : ℤ). int_eq (int_rem_euclid y (pos 4)) (pos 0)) same ∙ ap (λ (r : ℤ). int_eq r (pos 0)) (fourth_whole e)

-- ---- twice a number

halfway : (e : ℤ) → int_div_euclid (pos 2 *ℤ e) (pos 2) ≡ e
halfway (pos a) = let is : (2 * a) / 2 ≡ a = omega arith in ap pos is
halfway (negsuc a) =
    let two : pos 2 *ℤ negsuc a ≡ negsuc (2 * a + 1) = omega (arith, ints) in
    let is : (2 * a + 1) / 2 ≡ a = omega arith in
    ap (λ (z : ℤ). int_div_euclid z (pos 2)) two ∙ ap negsuc is

half_whole : (e : ℤ) → int_rem_euclid (pos 2 *ℤ e) (pos 2) ≡ pos 0
half_whole (pos a) = let is : (2 * a) % 2 ≡ 0 = omega arith in ap pos is
half_whole (negsuc a) =
    let two : pos 2 *ℤ negsuc a ≡ negsuc (2 * a + 1) = omega (arith, ints) in
    let is : (2 * a + 1) % 2 ≡ 1 = omega arith in
    ap (λ (z : ℤ). int_rem_euclid z (pos 2)) two ∙ ap (λ (r : ℕ). pos (1 - r)) is

-- so a shift is read as it was written, and is whole
pub shift_read : (e : ℤ) → scaled half (pos 2 *ℤ e) ≡ e
shift_read e =
    let same : (pos 2 *ℤ e) *ℤ pos 1 ≡ pos 2 *ℤ e = omega (arith, ints) in
    ap (λ (y : ℤ). int_div_euclid y (pos 2)) same ∙ halfway e

pub shift_whole : (e : ℤ) → is_whole half (pos 2 *ℤ e) ≡ true
shift_whole e =
    let same : (pos 2 *ℤ e) *ℤ pos 1 ≡ pos 2 *ℤ e = omega (arith, ints) in
    ap (λ (y : ℤ). int_eq (int_rem_euclid y (pos 2)) (pos 0)) same ∙ ap (λ (r : ℤ). int_eq r (pos 0)) (half_whole e)

-- ---- boxes

low_is : (lo hi : ℤ) → low_edge (lo +ℤ hi) (pos 2 *ℤ (hi -ℤ lo)) ≡ pos 4 *ℤ lo
low_is lo hi = omega (arith, ints)

high_is : (lo hi : ℤ) → high_edge (lo +ℤ hi) (pos 2 *ℤ (hi -ℤ lo)) ≡ pos 4 *ℤ hi
high_is lo hi = omega (arith, ints)

module _ (area : Rect) where
  -- its sides and its centre as they are written
  abbrev pub box_length : ℤ
  box_length = pos 2 *ℤ (area.xhi -ℤ area.xlo)

  abbrev pub box_width : ℤ
  box_width = pos 2 *ℤ (area.yhi -ℤ area.ylo)

  abbrev pub box_x : ℤ
  box_x = area.xlo +ℤ area.xhi

  abbrev pub box_y : ℤ
  box_y = area.ylo +ℤ area.yhi

  -- the box is read as it was written
  pub box_read : area_said half box_length box_width box_x box_y ≡ area
  box_read i = record {
    xlo = edge_read (low_edge box_x box_length) area.xlo (low_is area.xlo area.xhi) i;
    ylo = edge_read (low_edge box_y box_width) area.ylo (low_is area.ylo area.yhi) i;
    xhi = edge_read (high_edge box_x box_length) area.xhi (high_is area.xlo area.xhi) i;
    yhi = edge_read (high_edge box_y box_width) area.yhi (high_is area.ylo area.yhi) i;
  }

  -- its edges are whole
  pub box_whole : area_is_whole half box_length box_width box_x box_y ≡ true
  unfolding area_is_whole
  box_whole =
      and_from _ _
      (and_from _ _ (edge_whole (low_edge box_x box_length) area.xlo (low_is area.xlo area.xhi))
      (edge_whole (high_edge box_x box_length) area.xhi (high_is area.xlo area.xhi)))
      (and_from _ _ (edge_whole (low_edge box_y box_width) area.ylo (low_is area.ylo area.yhi))
      (edge_whole (high_edge box_y box_width) area.yhi (high_is area.ylo area.yhi)))

  module _ (near : IsNearBox area) where
    -- it has sides
    pub box_long : has_short_side box_length box_width ≡ false
    unfolding has_short_side
    box_long =
        let wide = near.wide in
        let high = near.high in
        let one : int_lt box_length (pos 1) ≡ false = grind (arith, ints) in
        let other : int_lt box_width (pos 1) ≡ false = grind (arith, ints) in
        ap (λ (b : Bool). b || int_lt box_width (pos 1)) one ∙ other

    -- its numbers have 32 bits
    pub box_in_range : area_is_in_range box_length box_width box_x box_y ≡ true
    unfolding area_is_in_range
    box_in_range =
        and_from _ _
        (and_from _ _
        (and_from _ _ (fits_in_range box_length (way_fits area.xlo area.xhi near.xlo near.xhi))
        (fits_in_range box_width (way_fits area.ylo area.yhi near.ylo near.yhi)))
        (fits_in_range box_x (sum_fits area.xlo area.xhi near.xlo near.xhi)))
        (fits_in_range box_y (sum_fits area.ylo area.yhi near.ylo near.yhi))
