-- Numbers that are scaled stay near.
use Rattle.cif_reading.proofs.Common.{◌≡◌, ℕ, ℤ, Bool, true, false, List, [], ◌∷◌, map, if◌then◌else◌, arith, list_all, ints, SaidMove}
use Rattle.cif_reading.proofs.Common.{move_is_in_range, move_said, is_factor}
use Rattle.std.proofs.Common.{◌<◌, ◌≤◌, ◌*◌, ◌^◌, pos, negsuc, ◌&&◌}
use Rattle.std.specs.Prelude.{◌+ℤ◌, int_le, int_lt, All}
use Rattle.std.specs.Prelude.{◌*ℤ◌, ◌≤ℤ◌, unsigned_abs}
use Rattle.std.specs.Int.{int_div_euclid}
use Rattle.std.proofs.lemmas.Int.{unsigned_abs-mul}
use Rattle.std.proofs.lemmas.List.Elements.{All-nil, All-cons}
use Rattle.std.proofs.lemmas.Bool.{and_parts}
use Rattle.std.proofs.Math.Nat.{mul-le-mul_left, mul-le-mul_right}
use Rattle.cif_forms.specs.declared.commands.SaidMove.TheVariants.{Shift, MirrorX, MirrorY, Toward}
use Rattle.cif_model.specs.Cifs.{IsScaledNumber, HasScaledEdges, IsLawfulMove}
use Rattle.cif_reading.specs.declared.limits.TheConstants.{MOST_FACTOR, MOST_SCALED}
use Rattle.cif_reading.specs.declared.scales.Scale.{Scale}
use Rattle.cif_reading.specs.Scales.{IsScale, scaled}
use Rattle.cif_reading.specs.Boxes.{area_is_in_range, area_said, halved, high_edge, is_in_range, low_edge}
use Rattle.cif_reading.specs.SaidSteps.{call_is_in_range, quarters}

quotient_is_near : (a b : ℤ) → pos 1 ≤ℤ b → unsigned_abs (int_div_euclid a b) ≤ unsigned_abs a
quotient_is_near (pos a) (pos b) h = omega arith
quotient_is_near (negsuc a) (pos b) h = omega arith
quotient_is_near (pos a) (negsuc b) h = omega (arith, ints)
quotient_is_near (negsuc a) (negsuc b) h = omega (arith, ints)

product_is_near : (a b : ℤ) (m n : ℕ) → unsigned_abs a ≤ m → unsigned_abs b ≤ n → unsigned_abs (a *ℤ b) ≤ m * n
product_is_near a b m n p q =
    let one = mul-le-mul_left (unsigned_abs a) q in
    let two = mul-le-mul_right n p in
    let is = unsigned_abs-mul a b in
    omega arith

pub scaled-near : (scale : Scale) (z : ℤ) → unsigned_abs scale.up ≤ MOST_FACTOR → pos 1 ≤ℤ scale.down → unsigned_abs z ≤ MOST_SCALED
    → IsScaledNumber (scaled scale z)
scaled-near scale z up down near =
    let product = product_is_near z scale.up MOST_SCALED MOST_FACTOR near up in
    let quotient = quotient_is_near (z *ℤ scale.up) scale.down down in
    omega arith

-- ---- the numbers of boxes and shifts

pub near_in_range : (z : ℤ) → is_in_range z ≡ true → unsigned_abs z ≤ 2 ^ 31
near_in_range z e = grind (arith, ints)

low_is_near : (centre size : ℤ) → unsigned_abs centre ≤ 2 ^ 31 → unsigned_abs size ≤ 2 ^ 31 → unsigned_abs (low_edge centre size) ≤ MOST_SCALED
low_is_near centre size p q = grind (arith, ints)

high_is_near : (centre size : ℤ) → unsigned_abs centre ≤ 2 ^ 31 → unsigned_abs size ≤ 2 ^ 31 → unsigned_abs (high_edge centre size) ≤ MOST_SCALED
high_is_near centre size p q = grind (arith, ints)

halved_is_one : (z : ℤ) → pos 1 ≤ℤ z → pos 1 ≤ℤ (z +ℤ z)
halved_is_one z h = omega (arith, ints)

low_is_scaled : (scale : Scale) → IsScale scale → (centre size : ℤ) → is_in_range centre ≡ true → is_in_range size ≡ true
    → IsScaledNumber (scaled (halved scale) (low_edge centre size))
low_is_scaled scale is centre size p q =
    scaled-near (halved scale) (low_edge centre size) is.up (halved_is_one scale.down is.down)
    (low_is_near centre size (near_in_range centre p) (near_in_range size q))

high_is_scaled : (scale : Scale) → IsScale scale → (centre size : ℤ) → is_in_range centre ≡ true → is_in_range size ≡ true
    → IsScaledNumber (scaled (halved scale) (high_edge centre size))
high_is_scaled scale is centre size p q =
    scaled-near (halved scale) (high_edge centre size) is.up (halved_is_one scale.down is.down)
    (high_is_near centre size (near_in_range centre p) (near_in_range size q))

-- the edges of a box
pub edges-scaled : (scale : Scale) → IsScale scale → (l w x y : ℤ) → area_is_in_range l w x y ≡ true → HasScaledEdges (area_said scale l w x y)
unfolding area_is_in_range
edges-scaled scale is l w x y e =
    let third = and_parts (is_in_range l && is_in_range w && is_in_range x) (is_in_range y) e in
    let second = and_parts (is_in_range l && is_in_range w) (is_in_range x) third.0 in
    let first = and_parts (is_in_range l) (is_in_range w) second.0 in
    record {
      xlo = low_is_scaled scale is x l second.1 first.0;
      ylo = low_is_scaled scale is y w third.1 first.1;
      xhi = high_is_scaled scale is x l second.1 first.0;
      yhi = high_is_scaled scale is y w third.1 first.1;
    }

number_is_scaled : (scale : Scale) → IsScale scale → (z : ℤ) → is_in_range z ≡ true → IsScaledNumber (scaled scale z)
number_is_scaled scale is z e = scaled-near scale z is.up is.down (let near = near_in_range z e in omega arith)

quarters_are_few : (p q : ℤ) → quarters p q < 4
quarters_are_few p q = few (int_lt (pos 0) p) (int_lt (pos 0) q) (int_lt p (pos 0))
  where
    few : (a b c : Bool) → (if a then 0 else if b then 1 else if c then 2 else 3) < 4
    few true b c = omega arith
    few false true c = omega arith
    few false false true = omega arith
    few false false false = omega arith

move_is_lawful : (scale : Scale) → IsScale scale → (move : SaidMove) → move_is_in_range move ≡ true → IsLawfulMove (move_said scale move)
move_is_lawful scale is (Shift x y) e =
    let each = and_parts (is_in_range x) (is_in_range y) e in (number_is_scaled scale is x each.0, number_is_scaled scale is y each.1)
move_is_lawful scale is MirrorX e = tt
move_is_lawful scale is MirrorY e = tt
move_is_lawful scale is (Toward p q) e = quarters_are_few p q

each_is_lawful : (scale : Scale) → IsScale scale → (moves : List SaidMove) → list_all move_is_in_range moves ≡ true
    → All IsLawfulMove (map (move_said scale) moves)
each_is_lawful scale is [] e = All-nil IsLawfulMove
each_is_lawful scale is (move ∷ moves) e =
    let first = and_parts (move_is_in_range move) (list_all move_is_in_range moves) e in
    All-cons IsLawfulMove (move_said scale move) (map (move_said scale) moves) (move_is_lawful scale is move first.0)
    (each_is_lawful scale is moves first.1)

-- the steps of a call
pub moves-lawful : (scale : Scale) → IsScale scale → (n : ℤ) (moves : List SaidMove) → call_is_in_range n moves ≡ true
    → All IsLawfulMove (map (move_said scale) moves)
unfolding call_is_in_range
moves-lawful scale is n moves e = each_is_lawful scale is moves (and_parts (is_in_range n) (list_all move_is_in_range moves) e).1

-- a scale whose numbers are factors
pub scale_of_factors : (a b : ℤ) → (is_factor a && is_factor b) ≡ true → IsScale (record { up = a; down = b })
scale_of_factors a b e =
    let each = and_parts (is_factor a) (is_factor b) e in
    let up = and_parts (int_le (pos 1) a) (int_le a (pos MOST_FACTOR)) each.0 in
    let down = and_parts (int_le (pos 1) b) (int_le b (pos MOST_FACTOR)) each.1 in
    record { up = grind (arith, ints); down = grind (arith, ints); down_limit = grind (arith, ints) }
