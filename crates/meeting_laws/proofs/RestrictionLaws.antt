-- Parts restricted to the squares at which they meet: their flat layout, and what it counts beyond them.
use Rattle.meeting_laws.proofs.Common.{◌≡◌, ◌⊎◌, ℕ, ℤ, pos, ◌-ℤ◌, List, inl, inr, sym, ap, ◌∙◌, sum_on, Square, RawTech, joined, or_space, Place}
use Rattle.meeting_laws.proofs.Common.{SetLayout, PartStands, IsRestriction, NoneStands, who_stands, part_layout, parts_layout}
use Rattle.std.proofs.Common.{[], ◌∷◌, map, bit_or, refl}
use Rattle.tech_model.proofs.FiniteSets.Places.{map-pointwise}
use Rattle.hierarchy_model.specs.LayoutModel.Places.{AreNeighbours}
use Rattle.hierarchy_model.specs.Offences.Offences.{union_of}
use Rattle.meeting_laws.specs.PartLayouts.{HoldsAllMeetings}
use Rattle.meeting_laws.proofs.LinkLaws.{layout_of_none, one_or_meet}
use Rattle.meeting_laws.proofs.ListSums.{same_sums}
use Rattle.meeting_laws.proofs.ExcessLaws.{place_excess, edge_excess, place_of_none, place_of_one, edge_of_none, edge_of_one, edge_to_none}

-- the parts' sets at a place
abbrev sets_at : List SetLayout → Place → List ℕ
sets_at parts place = map (λ (part : SetLayout). part place) parts

-- what all parts have at a place is told by their sets there
union_by_sets : (parts : List SetLayout) (place : Place) → union_of (map (λ (set : ℕ) (p : Place). set) (sets_at parts place)) place ≡ union_of parts place
union_by_sets [] place = refl
union_by_sets (part ∷ parts) place = ap (bit_or (part place)) (union_by_sets parts place)

-- where the sets are the same the flat layout is
layout_by_sets : (raw : RawTech) (parts others : List SetLayout) (place : Place) → sets_at others place ≡ sets_at parts place
    → parts_layout raw others place ≡ parts_layout raw parts place
layout_by_sets raw parts others place same =
    ap (λ (set : ℕ). or_space (joined raw place.plane set))
    (sym (union_by_sets others place)
    ∙ ap (λ (sets : List ℕ). union_of (map (λ (set : ℕ) (p : Place). set) sets) place) same
    ∙ union_by_sets parts place)

abbrev pair_of : ℕ → ℕ → ℕ × ℕ
pair_of first second = (first, second)

module _ (Within : Square → Type 0) (parts others : List SetLayout) (restricted : IsRestriction Within parts others) (raw : RawTech) where
  -- where the squares are, the parts are the same
  sets_inside : (place : Place) → Within place.square → sets_at others place ≡ sets_at parts place
  sets_inside place within =
      map-pointwise (λ (part : SetLayout). part place) (λ (part : SetLayout). part place) others parts restricted.count
      (λ position other part also there. restricted.inside position part other there also place within)

  -- elsewhere no part stands
  pub none_elsewhere : (place : Place) → (Within place.square → ⊥) → NoneStands others place
  none_elsewhere place outside position stands = stands.material (restricted.outside position stands.part stands.there place outside)

  -- where the squares are, the restricted flat layout is the flat layout
  pub layout_inside : (place : Place) → Within place.square → parts_layout raw others place ≡ parts_layout raw parts place
  layout_inside place within = layout_by_sets raw parts others place (sets_inside place within)

  -- and it is space elsewhere
  pub layout_elsewhere : (place : Place) → (Within place.square → ⊥) → parts_layout raw others place ≡ 0
  layout_elsewhere place outside = layout_of_none raw others place (none_elsewhere place outside)

  -- where the squares are, a place counts as much
  place_inside : (weight : ℕ → ℤ) (a : Place) → Within a.square → place_excess raw weight others a ≡ place_excess raw weight parts a
  place_inside weight a within =
      ap (λ (kind : ℕ). weight kind -ℤ sum_on (λ part. weight (part_layout raw part a)) others) (layout_inside a within)
      ∙ ap (λ (n : ℤ). weight (parts_layout raw parts a) -ℤ n)
      (same_sums (λ (part : SetLayout). part a) (λ set. weight (or_space (joined raw a.plane set))) parts others (sets_inside a within))

  -- and so are their sets at two places
  pairs_inside : (a b : Place) → Within a.square → Within b.square
      → map {A = SetLayout} {B = ℕ × ℕ} (λ part. (part a, part b)) others ≡ map {A = SetLayout} {B = ℕ × ℕ} (λ part. (part a, part b)) parts
  pairs_inside a b within_a within_b =
      map-pointwise {Z = ℕ × ℕ} (λ part. (part a, part b)) (λ part. (part a, part b)) others parts restricted.count
      (λ position other part also there.
      let here : other a ≡ part a = restricted.inside position part other there also a within_a in
      let beside : other b ≡ part b = restricted.inside position part other there also b within_b in
      ap (λ (set : ℕ). pair_of set (other b)) here ∙ ap (pair_of (part a)) beside)

  -- and an edge of two of them
  edge_inside : (edge : ℕ → ℕ → ℤ) (a b : Place) → Within a.square → Within b.square → edge_excess raw edge others a b ≡ edge_excess raw edge parts a b
  edge_inside edge a b within_a within_b =
      ap (λ (kind : ℕ). edge kind (parts_layout raw others b) -ℤ sum_on (λ part. edge (part_layout raw part a) (part_layout raw part b)) others)
      (layout_inside a within_a)
      ∙ ap (λ (kind : ℕ). edge (parts_layout raw parts a) kind -ℤ sum_on (λ part. edge (part_layout raw part a) (part_layout raw part b)) others)
      (layout_inside b within_b)
      ∙ ap (λ (n : ℤ). edge (parts_layout raw parts a) (parts_layout raw parts b) -ℤ n)
      (same_sums {Y = ℕ × ℕ} (λ part. (part a, part b)) (λ sets. edge (or_space (joined raw a.plane sets.0)) (or_space (joined raw b.plane sets.1)))
      parts others (pairs_inside a b within_a within_b))

  module _ (holds : HoldsAllMeetings Within parts) where
    -- a place elsewhere counts nothing beyond the parts
    pub place_elsewhere : (weight : ℕ → ℤ) → weight 0 ≡ pos 0 → (a : Place) → (Within a.square → ⊥) → place_excess raw weight parts a ≡ pos 0
    place_elsewhere weight of_space a outside = elim (who_stands parts a) [
      | inl none ↦ place_of_none raw parts weight of_space a none
      | inr (inl one) ↦ place_of_one raw parts weight of_space a one.position one.stands.part one.stands.there one.alone
      | inr (inr two) ↦ absurd (outside (holds.on_plane.here two.first two.second a two.differ two.first_stands two.second_stands))
    ]

    -- each place counts as much beyond the parts as beyond the restricted parts
    pub place_same : (weight : ℕ → ℤ) → weight 0 ≡ pos 0 → (a : Place) → place_excess raw weight parts a ≡ place_excess raw weight others a
    place_same weight of_space a = elim (restricted.decided a.square) [
      | inl within ↦ sym (place_inside weight a within)
      | inr outside ↦
          place_elsewhere weight of_space a outside ∙ sym (place_of_none raw others weight of_space a (none_elsewhere a outside))
    ]

    -- an edge that does not lie in these squares counts nothing beyond the parts, or leads from where parts meet to where none stands
    open_edge : (edge : ℕ → ℕ → ℤ) → ((kind : ℕ) → edge 0 kind ≡ pos 0) → (a b : Place) → AreNeighbours a b
        → (Within a.square × Within b.square → ⊥)
        → ((edge_excess raw edge parts a b ≡ pos 0) × (place_excess raw (λ kind. edge kind 0) parts a ≡ pos 0))
        ⊎ (Within a.square × (edge_excess raw edge parts a b ≡ place_excess raw (λ kind. edge kind 0) parts a))
    open_edge edge of_space a b beside outside = elim (who_stands parts a) [
      | inl none ↦ inl (edge_of_none raw parts edge of_space a b none, place_of_none raw parts (λ kind. edge kind 0) (of_space 0) a none)
      | inr (inl one) ↦ meet one.position one.stands
      | inr (inr two) ↦ meet two.first two.first_stands
    ]
      where
        meet : (position : ℕ) → PartStands parts position a
            → ((edge_excess raw edge parts a b ≡ pos 0) × (place_excess raw (λ kind. edge kind 0) parts a ≡ pos 0))
            ⊎ (Within a.square × (edge_excess raw edge parts a b ≡ place_excess raw (λ kind. edge kind 0) parts a))
        meet position stands = elim (one_or_meet Within parts holds a b position stands (inl beside)) [
          | inl one ↦ inl (
            edge_of_one raw parts edge of_space a b one.position one.here.part one.here.there one.alone_here one.alone_there,
            place_of_one raw parts (λ kind. edge kind 0) (of_space 0) a one.position one.here.part one.here.there one.alone_here,
          )
          | inr (inl both) ↦ absurd (outside both)
          | inr (inr two) ↦
              let here = two.0 in
              inr (holds.on_plane.here here.first here.second a here.differ here.first_stands here.second_stands, edge_to_none raw parts edge a b two.1)
        ]

    -- an edge from a place elsewhere counts nothing beyond the parts
    pub edge_elsewhere : (edge : ℕ → ℕ → ℤ) → ((kind : ℕ) → edge 0 kind ≡ pos 0) → (a b : Place) → AreNeighbours a b → (Within a.square → ⊥)
        → edge_excess raw edge parts a b ≡ pos 0
    edge_elsewhere edge of_space a b beside outside = elim (open_edge edge of_space a b beside (λ both. outside both.0)) [
      | inl nothing ↦ nothing.0
      | inr within ↦ absurd (outside within.0)
    ]

    -- each edge counts as much beyond the parts as beyond the restricted parts
    pub edge_same : (edge : ℕ → ℕ → ℤ) → ((kind : ℕ) → edge 0 kind ≡ pos 0) → (a b : Place) → AreNeighbours a b
        → edge_excess raw edge parts a b ≡ edge_excess raw edge others a b
    edge_same edge of_space a b beside = elim (restricted.decided a.square) [
      | inr outside ↦
          edge_elsewhere edge of_space a b beside outside ∙ sym (edge_of_none raw others edge of_space a b (none_elsewhere a outside))
      | inl within ↦ elim (restricted.decided b.square) [
        | inl also ↦ sym (edge_inside edge a b within also)
        | inr outside ↦
            let restricted_edge : edge_excess raw edge others a b ≡ place_excess raw (λ kind. edge kind 0) parts a =
            edge_to_none raw others edge a b (none_elsewhere b outside) ∙ place_inside (λ kind. edge kind 0) a within in
            elim (open_edge edge of_space a b beside (λ both. outside both.1)) [
              | inl nothing ↦ nothing.0 ∙ sym nothing.1 ∙ sym restricted_edge
              | inr meets ↦ meets.1 ∙ sym restricted_edge
            ]
      ]
    ]
