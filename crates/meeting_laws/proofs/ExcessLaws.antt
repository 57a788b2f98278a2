-- What places and edges count in the flat layout less what they count in the parts: nothing where parts do not meet.
use Rattle.meeting_laws.proofs.Common.{◌≡◌, ℕ, ℤ, pos, ◌-ℤ◌, List, slice_get, sym, ap, ◌∙◌, arith, Some, ints, sum_on, RawTech, Place, SetLayout}
use Rattle.meeting_laws.proofs.Common.{PartStands, NoneStands, part_layout, parts_layout}
use Rattle.hierarchy_model.proofs.PartSearch.{empty_there}
use Rattle.meeting_laws.proofs.LinkLaws.{StandsAtMost, part_of_empty, layout_of_none, layout_of_one}
use Rattle.meeting_laws.proofs.ListSums.{sum_by_position, sum_of_none, sum_of_one}

-- equal numbers differ by nothing
pub no_difference : (m n : ℤ) → n ≡ m → m -ℤ n ≡ pos 0
no_difference m n same = ap (λ (k : ℤ). m -ℤ k) same ∙ omega (arith, ints)

-- what a place counts by its type in the flat layout less what it counts in the parts
abbrev pub place_excess : RawTech → (ℕ → ℤ) → List SetLayout → Place → ℤ
place_excess raw weight parts a = weight (parts_layout raw parts a) -ℤ sum_on (λ part. weight (part_layout raw part a)) parts

-- what the edge between two places counts by their types in the flat layout less what it counts in the parts
abbrev pub edge_excess : RawTech → (ℕ → ℕ → ℤ) → List SetLayout → Place → Place → ℤ
edge_excess raw edge parts a b =
    edge (parts_layout raw parts a) (parts_layout raw parts b) -ℤ sum_on (λ part. edge (part_layout raw part a) (part_layout raw part b)) parts

module _ (raw : RawTech) (parts : List SetLayout) where
  -- a part that does not stand has space
  space_there : (a : Place) (position : ℕ) (part : SetLayout) → slice_get parts position ≡ Some part → (PartStands parts position a → ⊥)
      → part_layout raw part a ≡ 0
  space_there a position part there absent = part_of_empty raw part a (empty_there parts position a part there absent)

  -- where no part stands nothing counts
  pub place_of_none : (weight : ℕ → ℤ) → weight 0 ≡ pos 0 → (a : Place) → NoneStands parts a → place_excess raw weight parts a ≡ pos 0
  place_of_none weight of_space a none =
      no_difference (weight (parts_layout raw parts a)) (sum_on (λ part. weight (part_layout raw part a)) parts)
      (sum_of_none (λ part. weight (part_layout raw part a)) parts
      (λ position part there. ap weight (space_there a position part there (none position)) ∙ of_space)
      ∙ sym (ap weight (layout_of_none raw parts a none) ∙ of_space))

  -- where one part stands alone the flat layout counts what it counts
  pub place_of_one : (weight : ℕ → ℤ) → weight 0 ≡ pos 0 → (a : Place) (position : ℕ) (part : SetLayout) → slice_get parts position ≡ Some part
      → StandsAtMost parts position a → place_excess raw weight parts a ≡ pos 0
  place_of_one weight of_space a position part there alone =
      no_difference (weight (parts_layout raw parts a)) (sum_on (λ p. weight (part_layout raw p a)) parts)
      (sum_of_one (λ p. weight (part_layout raw p a)) parts position part there
      (λ other p is differ. ap weight (space_there a other p is (λ stands. differ (alone other stands))) ∙ of_space)
      ∙ sym (ap weight (layout_of_one raw parts a position part there alone)))

  -- an edge from a place where no part stands counts nothing
  pub edge_of_none : (edge : ℕ → ℕ → ℤ) → ((kind : ℕ) → edge 0 kind ≡ pos 0) → (a b : Place) → NoneStands parts a
      → edge_excess raw edge parts a b ≡ pos 0
  edge_of_none edge of_space a b none =
      no_difference (edge (parts_layout raw parts a) (parts_layout raw parts b))
      (sum_on (λ part. edge (part_layout raw part a) (part_layout raw part b)) parts)
      (sum_of_none (λ part. edge (part_layout raw part a) (part_layout raw part b)) parts
      (λ position part there.
      ap (λ (kind : ℕ). edge kind (part_layout raw part b)) (space_there a position part there (none position))
      ∙ of_space (part_layout raw part b))
      ∙ sym (ap (λ (kind : ℕ). edge kind (parts_layout raw parts b)) (layout_of_none raw parts a none) ∙ of_space (parts_layout raw parts b)))

  -- where one part stands alone on both sides the flat layout counts what it counts
  pub edge_of_one : (edge : ℕ → ℕ → ℤ) → ((kind : ℕ) → edge 0 kind ≡ pos 0) → (a b : Place) (position : ℕ) (part : SetLayout)
      → slice_get parts position ≡ Some part → StandsAtMost parts position a → StandsAtMost parts position b
      → edge_excess raw edge parts a b ≡ pos 0
  edge_of_one edge of_space a b position part there alone_here alone_there =
      no_difference (edge (parts_layout raw parts a) (parts_layout raw parts b))
      (sum_on (λ p. edge (part_layout raw p a) (part_layout raw p b)) parts)
      (sum_of_one (λ p. edge (part_layout raw p a) (part_layout raw p b)) parts position part there
      (λ other p is differ.
      ap (λ (kind : ℕ). edge kind (part_layout raw p b)) (space_there a other p is (λ stands. differ (alone_here other stands)))
      ∙ of_space (part_layout raw p b))
      ∙ sym (ap (λ (kind : ℕ). edge kind (parts_layout raw parts b)) (layout_of_one raw parts a position part there alone_here)
      ∙ ap (edge (part_layout raw part a)) (layout_of_one raw parts b position part there alone_there)))

  -- an edge to a place where no part stands counts by the type on this side
  pub edge_to_none : (edge : ℕ → ℕ → ℤ) (a b : Place) → NoneStands parts b
      → edge_excess raw edge parts a b ≡ place_excess raw (λ kind. edge kind 0) parts a
  edge_to_none edge a b none =
      ap (λ (kind : ℕ). edge (parts_layout raw parts a) kind -ℤ sum_on (λ part. edge (part_layout raw part a) (part_layout raw part b)) parts)
      (layout_of_none raw parts b none)
      ∙ ap (λ (n : ℤ). edge (parts_layout raw parts a) 0 -ℤ n) sums
    where
      sums : sum_on (λ part. edge (part_layout raw part a) (part_layout raw part b)) parts ≡ sum_on (λ part. edge (part_layout raw part a) 0) parts
      sums =
          sum_by_position (λ part. edge (part_layout raw part a) (part_layout raw part b)) (λ part. edge (part_layout raw part a) 0) parts
          (λ position part there. ap (edge (part_layout raw part a)) (space_there b position part there (none position)))
