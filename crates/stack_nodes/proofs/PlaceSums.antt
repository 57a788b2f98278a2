-- Sums over places: how many places of a region a list may have, and so what areas and perimeters there may be.
use Rattle.stack_nodes.proofs.Common.{◌≡◌, ◌<◌, ◌≤◌, ◌+◌, ◌*◌, ◌∙◌, ℕ, suc, ℤ, pos, ◌≤ℤ◌, ◌*ℤ◌, Bool, true, false, List, [], ◌∷◌, length, inl, inr}
use Rattle.stack_nodes.proofs.Common.{refl, sym, ap, subst, arith, cases_Bool, ints, length-map, Distinct, In, MOST_PLANES, In-map_source, Layout}
use Rattle.stack_nodes.proofs.Common.{Place}
use Rattle.std.proofs.Common.{not, map}
use Rattle.tech_model.specs.GeoCore.FiniteSets.Range.{nonnegative_part}
use Rattle.tech_model.specs.GeoCore.FiniteSets.Total.{Total, one_if, sum_on}
use Rattle.tech_model.proofs.GeoCore.FiniteSets.Distincts.{Distinct-map}
use Rattle.tech_model.proofs.GeoCore.FiniteSets.Sums.{sum_on-count, sum_on-le, sum_on-scale, sum_on-zero}
use Rattle.library_trees.specs.CellLibrary.LayoutModel.Measures.{area_at, perimeter_at}
use Rattle.library_trees.specs.CellLibrary.LayoutModel.Nodes.{AreMeasures}
use Rattle.library_trees.specs.CellLibrary.LayoutModel.Places.{neighbours}
use Rattle.library_trees.specs.CellLibrary.LayoutModel.Technologies.{Class}
use Rattle.sim_networks.proofs.CountLaws.{few_below}
use Rattle.stack_nodes.proofs.Arrays.{same_place}
use Rattle.stack_nodes.proofs.LeastPlaces.{part_of}
use Rattle.stack_nodes.proofs.TilePaint.{IsInArea}

-- ---- sums of numbers that have bounds

-- numbers that aren't negative have a sum that isn't
pub sum_not_negative : {X : Type 0} (w : X → ℤ) (xs : List X) → ((x : X) → In x xs → pos 0 ≤ℤ w x) → pos 0 ≤ℤ sum_on w xs
sum_not_negative w xs each =
    let least = sum_on-le (λ x. pos 0) w xs each in
    let zero = sum_on-zero xs in
    omega (arith, ints, least, zero)

-- and numbers that are at most such have a sum that is at most as many times it
pub sum_at_most : {X : Type 0} (w : X → ℤ) (most : ℤ) (xs : List X) → ((x : X) → In x xs → w x ≤ℤ most) → sum_on w xs ≤ℤ (most *ℤ pos (length xs))
sum_at_most {X} w most xs each =
    let le : sum_on w xs ≤ℤ sum_on (λ x. most *ℤ pos 1) xs = sum_on-le w (λ x. most *ℤ pos 1) xs (λ x here.
    let one : most *ℤ pos 1 ≡ most = omega (arith, ints) in subst (λ (z : ℤ). w x ≤ℤ z) (sym one) (each x here)) in
    subst (λ (z : ℤ). sum_on w xs ≤ℤ z) (sum_on-scale most (λ (x : X). pos 1) xs ∙ ap (λ (z : ℤ). most *ℤ z) (sum_on-count xs)) le

-- ---- the places of a region

-- The place is one of those that the largest stack may have material at.
pub record MayBeMaterial (place : Place) : Type 0 where
  pub area : IsInArea 3000 3000 place
  pub plane : place.plane < MOST_PLANES

-- how many there are of these
abbrev pub MOST_PLACES : ℕ
MOST_PLACES = MOST_PLANES * 9000000

-- the number of a place among them
abbrev number_among : Place → ℕ
number_among place = place.plane * 9000000 + (nonnegative_part place.square.y * 3000 + nonnegative_part place.square.x)

number_below : (place : Place) → MayBeMaterial place → number_among place < MOST_PLACES
number_below place may =
    let x = part_of place.square.x may.area.right_of_xlo in
    let y = part_of place.square.y may.area.above_ylo in
    let right = may.area.left_of_xhi in
    let above = may.area.below_yhi in
    let plane = may.plane in
    omega (arith, ints)

-- one number is of one place
one_plane : (p q a b : ℕ) → a < 9000000 → b < 9000000 → p * 9000000 + a ≡ q * 9000000 + b → (p ≡ q) × (a ≡ b)
one_plane p q a b low also same = (omega (arith, low, also, same), omega (arith, low, also, same))

one_row : (p q a b : ℕ) → a < 3000 → b < 3000 → p * 3000 + a ≡ q * 3000 + b → (p ≡ q) × (a ≡ b)
one_row p q a b low also same = (omega (arith, low, also, same), omega (arith, low, also, same))

one_place : (a b : Place) → MayBeMaterial a → MayBeMaterial b → number_among a ≡ number_among b → a ≡ b
one_place a b may also same =
    let x = part_of a.square.x may.area.right_of_xlo in
    let y = part_of a.square.y may.area.above_ylo in
    let u = part_of b.square.x also.area.right_of_xlo in
    let v = part_of b.square.y also.area.above_ylo in
    let right = may.area.left_of_xhi in
    let above = may.area.below_yhi in
    let also_right = also.area.left_of_xhi in
    let also_above = also.area.below_yhi in
    let planes = one_plane a.plane b.plane (nonnegative_part a.square.y * 3000 + nonnegative_part a.square.x)
    (nonnegative_part b.square.y * 3000 + nonnegative_part b.square.x) (omega (arith, ints, x, y, right, above))
    (omega (arith, ints, u, v, also_right, also_above)) same in
    let rows = one_row (nonnegative_part a.square.y) (nonnegative_part b.square.y) (nonnegative_part a.square.x) (nonnegative_part b.square.x)
    (omega (arith, ints, x, right)) (omega (arith, ints, u, also_right)) planes.1 in
    same_place a b planes.0 (sym x ∙ ap pos rows.1 ∙ u) (sym y ∙ ap pos rows.0 ∙ v)

-- distinct places of the region are no more than it has
pub few_places : (places : List Place) → Distinct places → ((place : Place) → In place places → MayBeMaterial place) → length places ≤ MOST_PLACES
few_places places once each =
    let numbers = map number_among places in
    let few = few_below numbers MOST_PLACES
    (Distinct-map number_among places (λ a b here there same. one_place a b (each a here) (each b there) same) once)
    (λ k there.
    let source = In-map_source number_among k places there in
    subst (λ (m : ℕ). m < MOST_PLACES) source.1.1 (number_below source.0 (each source.0 source.1.0))) in
    let same = length-map places number_among in
    omega (arith, few, same)

-- ---- areas and perimeters

one_if_from : (holds : Bool) → pos 0 ≤ℤ one_if holds
one_if_from true = omega (arith, ints)
one_if_from false = omega (arith, ints)

one_if_to : (holds : Bool) → one_if holds ≤ℤ pos 1
one_if_to true = omega (arith, ints)
one_if_to false = omega (arith, ints)

-- a place has four edges
edges_from : (in_class : ℕ → Bool) (layout : Layout) (place : Place) → pos 0 ≤ℤ perimeter_at in_class layout place
edges_from in_class layout place = elim (cases_Bool (in_class (layout place))) [
  | inl is ↦ rw is (sum_not_negative (λ neighbour. one_if (not (in_class (layout neighbour)))) (neighbours place) (λ neighbour here. one_if_from _))
  | inr other ↦ rw other (omega (arith, ints))
]

edges_to : (in_class : ℕ → Bool) (layout : Layout) (place : Place) → perimeter_at in_class layout place ≤ℤ pos 4
edges_to in_class layout place = elim (cases_Bool (in_class (layout place))) [
  | inl is ↦ rw is (sum_at_most (λ neighbour. one_if (not (in_class (layout neighbour)))) (pos 1) (neighbours place) (λ neighbour here. one_if_to _))
  | inr other ↦ rw other (omega (arith, ints))
]

-- The area and the perimeter are such as sets of places of the region may have.
pub record IsSmall (measure : ℤ × ℤ) : Type 0 where
  pub area_from : pos 0 ≤ℤ measure.0
  pub area_to : measure.0 ≤ℤ pos MOST_PLACES
  pub perimeter_from : pos 0 ≤ℤ measure.1
  pub perimeter_to : measure.1 ≤ℤ pos (4 * MOST_PLACES)

module _ (layout : Layout) (Within : Place → Type 0) (inside : (place : Place) → Within place → MayBeMaterial place) where
  -- a total over the set, of a weight that has bounds
  total_from : (w : Place → ℤ) (total : ℤ) → ((place : Place) → pos 0 ≤ℤ w place) → Total Within w total → pos 0 ≤ℤ total
  total_from w total each is =
      let from = sum_not_negative w is.0 (λ place here. each place) in
      let sum = is.1.1 in
      omega (arith, ints, from, sum)

  total_to : (w : Place → ℤ) (most : ℕ) (total : ℤ) → ((place : Place) → w place ≤ℤ pos most) → Total Within w total
      → (count : ℕ) × (count ≤ MOST_PLACES) × (total ≤ℤ (pos most *ℤ pos count))
  total_to w most total each is =
      let to = sum_at_most w (pos most) is.0 (λ place here. each place) in
      let few = few_places is.0 is.1.0.0 (λ place here. inside place (is.1.0.2 place here)) in
      (length is.0, few, subst (λ (z : ℤ). z ≤ℤ (pos most *ℤ pos (length is.0))) is.1.1 to)

  small : (class : Class) (measure : ℤ × ℤ) → Total Within (area_at class.contains layout) measure.0
      → Total Within (perimeter_at class.contains layout) measure.1 → IsSmall measure
  small class measure area perimeter =
      let squares = total_to (area_at class.contains layout) 1 measure.0 (λ place. one_if_to _) area in
      let edges = total_to (perimeter_at class.contains layout) 4 measure.1 (edges_to class.contains layout) perimeter in
      record {
        area_from = total_from (area_at class.contains layout) measure.0 (λ place. one_if_from _) area;
        area_to = let few = squares.1 in let most = squares.2 in omega (arith, ints, few, most);
        perimeter_from = total_from (perimeter_at class.contains layout) measure.1 (edges_from class.contains layout) perimeter;
        perimeter_to = let few = edges.1 in let most = edges.2 in omega (arith, ints, few, most);
      }

  -- the measures of the set are such, and there is one for each class
  pub all_small : (classes : List Class) (measures : List (ℤ × ℤ)) → AreMeasures classes layout Within measures
      → (length measures ≡ length classes) × ((measure : ℤ × ℤ) → In measure measures → IsSmall measure)
  all_small [] [] are = (refl, λ measure none. absurd none)
  all_small [] (first ∷ measures) are = absurd are
  all_small (class ∷ classes) [] are = absurd are
  all_small (class ∷ classes) (first ∷ measures) are =
      let rest = all_small classes measures are.2 in (
        ap (λ (n : ℕ). suc n) rest.0,
        λ measure here. elim here [
          | inl same ↦ subst IsSmall same (small class first are.0 are.1)
          | inr later ↦ rest.1 measure later
        ],
      )
