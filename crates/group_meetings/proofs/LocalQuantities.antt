-- Quantities that the layout around a place tells: area, perimeter and capacitance, which go along with transforms.
use Rattle.group_meetings.proofs.Common.{◌≡◌, ℕ, suc, ℤ, ◌+ℤ◌, List, [], ◌∷◌, map, sym, ap, subst, ◌∙◌, arith, ints, Lists, sum_on, Transform}
use Rattle.group_meetings.proofs.Common.{Layout, Place, place_back, PlaceWeight}
use Rattle.std.proofs.Common.{pos, false}
use Rattle.std.specs.Prelude.{◌*ℤ◌, All}
use Rattle.std.proofs.Math.IntN.{zero-*ℤ}
use Rattle.finite_sets.proofs.Listings.{Lists-iff, Lists-image}
use Rattle.finite_sets.proofs.Sums.{sum_on-map, sum_on-same, sum_on-nothing}
use Rattle.finite_sets.proofs.Totals.{Total-of_list, Total-from_list}
use Rattle.tree_names.specs.LayoutModel.Places.{AreNeighbours, neighbours}
use Rattle.tree_names.specs.LayoutModel.Technologies.{Class}
use Rattle.group_meetings.proofs.FloodNodes.OpenEdges.{Lists-neighbours}
use Rattle.group_meetings.specs.TreeRecords.NamedTrees.{place_forth}
use Rattle.group_meetings.proofs.TreeRecords.MoveLaws.{back_from_above, above_from_back, neighbours_above, neighbours_back}
use Rattle.group_meetings.specs.TreeRecords.PlaceWeights.{area_weight, perimeter_weight, capacitance_weight}
use Rattle.group_meetings.proofs.MeetingLaws.QuantityLaws.{IsByTypes, combined, area_by_types, perimeter_by_types, nothing_by_types}

-- A place counts by the layout alone, nothing where it is space, and the same where a transform takes it.
pub record IsLocal (quantity : PlaceWeight) : Type 0 where
  pub same : (l m : Layout) (place : Place) → ((p : Place) → l p ≡ m p) → quantity l place ≡ quantity m place
  pub nothing : (l : Layout) (place : Place) → l place ≡ 0 → quantity l place ≡ pos 0
  pub moved : (placed : Transform) (l : Layout) (place : Place) → quantity (λ p. l (place_back placed p)) (place_forth placed place) ≡ quantity l place

-- the neighbours of a place, taken above and back
neighbours_again : (placed : Transform) (place : Place)
    → Lists (AreNeighbours place) (map (place_back placed) (neighbours (place_forth placed place)))
neighbours_again placed place =
    let above = place_forth placed place in
    Lists-iff (λ p. AreNeighbours above (place_forth placed p)) (AreNeighbours place) (map (place_back placed) (neighbours above))
    (λ p near.
    subst (λ q. AreNeighbours q p) (back_from_above placed place)
    (subst (AreNeighbours (place_back placed above)) (back_from_above placed p) (neighbours_back placed above (place_forth placed p) near)))
    (λ p near. neighbours_above placed place p near)
    (Lists-image (AreNeighbours above) (place_back placed) (place_forth placed) (neighbours above) (above_from_back placed) (back_from_above placed)
    (Lists-neighbours above))

-- a sum over the neighbours above is one over the neighbours
sum_above : (placed : Transform) (place : Place) (w : Place → ℤ)
    → sum_on (λ neighbour. w (place_back placed neighbour)) (neighbours (place_forth placed place)) ≡ sum_on w (neighbours place)
sum_above placed place w =
    sym (sum_on-map (place_back placed) w (neighbours (place_forth placed place)))
    ∙ Total-of_list (AreNeighbours place) w (sum_on w (neighbours place)) (map (place_back placed) (neighbours (place_forth placed place)))
    (Total-from_list (AreNeighbours place) w (neighbours place) (Lists-neighbours place)) (neighbours_again placed place)

module _ (quantity : PlaceWeight) (of : IsByTypes quantity) where
  same_by_types : (l m : Layout) (place : Place) → ((p : Place) → l p ≡ m p) → quantity l place ≡ quantity m place
  same_by_types l m place agree =
      of.is l place
      ∙ ap (λ (kind : ℕ). of.weight kind +ℤ sum_on (λ neighbour. of.edge kind (l neighbour)) (neighbours place)) (agree place)
      ∙ ap (λ (n : ℤ). of.weight (m place) +ℤ n)
      (sum_on-same (λ neighbour. of.edge (m place) (l neighbour)) (λ neighbour. of.edge (m place) (m neighbour)) (neighbours place)
      (λ neighbour listed. ap (of.edge (m place)) (agree neighbour)))
      ∙ sym (of.is m place)

  nothing_in_space : (l : Layout) (place : Place) → l place ≡ 0 → quantity l place ≡ pos 0
  nothing_in_space l place space =
      of.is l place
      ∙ ap (λ (kind : ℕ). of.weight kind +ℤ sum_on (λ neighbour. of.edge kind (l neighbour)) (neighbours place)) space
      ∙ ap (λ (n : ℤ). n +ℤ sum_on (λ neighbour. of.edge 0 (l neighbour)) (neighbours place)) of.weight_of_space
      ∙ ap (λ (n : ℤ). pos 0 +ℤ n)
      (sum_on-nothing (λ neighbour. of.edge 0 (l neighbour)) (neighbours place) (λ neighbour listed. of.edge_of_space (l neighbour)))
      ∙ omega (arith, ints)

  moved_by_types : (placed : Transform) (l : Layout) (place : Place)
      → quantity (λ p. l (place_back placed p)) (place_forth placed place) ≡ quantity l place
  moved_by_types placed l place =
      let above = place_forth placed place in
      of.is (λ p. l (place_back placed p)) above
      ∙ ap (λ (p : Place). of.weight (l p) +ℤ sum_on (λ neighbour. of.edge (l p) (l (place_back placed neighbour))) (neighbours above))
      (back_from_above placed place)
      ∙ ap (λ (n : ℤ). of.weight (l place) +ℤ n) (sum_above placed place (λ neighbour. of.edge (l place) (l neighbour)))
      ∙ sym (of.is l place)

  -- what counts by types is local
  pub local_by_types : IsLocal quantity
  local_by_types = record { same = same_by_types; nothing = nothing_in_space; moved = moved_by_types }

-- and so is what is made of local quantities
local_combined : (first second rest : PlaceWeight) (j k : ℤ) → IsLocal first → IsLocal second → IsLocal rest → IsLocal (combined first j second k rest)
local_combined first second rest j k f s r = record {
  same = λ l m place agree.
      ap (λ (n : ℤ). ((n *ℤ j) +ℤ (second l place *ℤ k)) +ℤ rest l place) (f.same l m place agree)
      ∙ ap (λ (n : ℤ). ((first m place *ℤ j) +ℤ (n *ℤ k)) +ℤ rest l place) (s.same l m place agree)
      ∙ ap (λ (n : ℤ). ((first m place *ℤ j) +ℤ (second m place *ℤ k)) +ℤ n) (r.same l m place agree);
  nothing = λ l place space.
      ap (λ (n : ℤ). ((n *ℤ j) +ℤ (second l place *ℤ k)) +ℤ rest l place) (f.nothing l place space)
      ∙ ap (λ (n : ℤ). ((pos 0 *ℤ j) +ℤ (n *ℤ k)) +ℤ rest l place) (s.nothing l place space)
      ∙ ap (λ (n : ℤ). ((pos 0 *ℤ j) +ℤ (pos 0 *ℤ k)) +ℤ n) (r.nothing l place space)
      ∙ all_nothing (pos 0 *ℤ j) (pos 0 *ℤ k) (zero-*ℤ j) (zero-*ℤ k);
  moved = λ placed l place.
      let above = place_forth placed place in
      let back : Layout = λ p. l (place_back placed p) in
      ap (λ (n : ℤ). ((n *ℤ j) +ℤ (second back above *ℤ k)) +ℤ rest back above) (f.moved placed l place)
      ∙ ap (λ (n : ℤ). ((first l place *ℤ j) +ℤ (n *ℤ k)) +ℤ rest back above) (s.moved placed l place)
      ∙ ap (λ (n : ℤ). ((first l place *ℤ j) +ℤ (second l place *ℤ k)) +ℤ n) (r.moved placed l place);
}
  where
    all_nothing : (a b : ℤ) → a ≡ pos 0 → b ≡ pos 0 → (a +ℤ b) +ℤ pos 0 ≡ pos 0
    all_nothing a b first_is second_is = omega (arith, ints, first_is, second_is)

-- area is local
pub area_local : (class : Class) → class.contains 0 ≡ false → IsLocal (area_weight class)
area_local class out = local_by_types (area_weight class) (area_by_types class out)

-- and so is perimeter
pub perimeter_local : (class : Class) → class.contains 0 ≡ false → IsLocal (perimeter_weight class)
perimeter_local class out = local_by_types (perimeter_weight class) (perimeter_by_types class out)

-- and so is capacitance
pub capacitance_local : (classes : List Class) → All (λ class. class.contains 0 ≡ false) classes → IsLocal (capacitance_weight classes)
capacitance_local [] out = local_by_types (capacitance_weight []) nothing_by_types
capacitance_local (class ∷ classes) out =
    local_combined (area_weight class) (perimeter_weight class) (capacitance_weight classes) class.per_area class.per_perimeter
    (area_local class (out 0 class (omega arith))) (perimeter_local class (out 0 class (omega arith)))
    (capacitance_local classes (λ index other below. out (suc index) other (omega (arith, below))))
