-- Links of parts are links of the flat layout where no place offends, and so are those of restricted parts.
use Rattle.meeting_laws.proofs.Common.{◌≡◌, ℕ, List, slice_get, inl, inr, sym, ap, ◌∙◌, Some, Square, RawTech, connects, joined, or_space}
use Rattle.meeting_laws.proofs.Common.{IsMaterial, Place, SetLayout, IsRestriction, part_layout, parts_layout}
use Rattle.std.proofs.Common.{subst, IsTrue}
use Rattle.tech_model.proofs.FiniteSets.Chains.{Chain-weaker}
use Rattle.tech_model.specs.Rules.{KeepsRules}
use Rattle.tech_model.specs.Types.{is_within}
use Rattle.hierarchy_model.specs.LayoutModel.Links.{AreLinked, AreOneNode}
use Rattle.hierarchy_model.specs.Offences.Offences.{joined_at, Offends}
use Rattle.hierarchy_model.proofs.CleanLaws.{part_within}
use Rattle.hierarchy_model.proofs.KindLaws.{defined_or_not}
use Rattle.tech_model.proofs.WithinLaws.{within_space}
use Rattle.meeting_laws.proofs.RestrictionLaws.{layout_inside}

-- where no place offends the type of a part is within the flat type
pub part_within_flat : (raw : RawTech) (parts : List SetLayout) (place : Place) → (Offends raw parts place → ⊥)
    → (position : ℕ) (part : SetLayout) → slice_get parts position ≡ Some part → IsMaterial (part_layout raw part) place
    → IsTrue (is_within raw (part_layout raw part place) (parts_layout raw parts place))
part_within_flat raw parts place fine position part there material = elim (defined_or_not (joined_at raw part place)) [
  | inl found ↦
      let is : joined_at raw part place ≡ Some (part_layout raw part place) = found.1 ∙ ap (λ (kind : ℕ). Some kind) (sym (ap or_space found.1)) in
      let flat = part_within raw parts place fine position (part_layout raw part place) (record { part = part; there = there; is = is }) material in
      subst (λ (kind : ℕ). IsTrue (is_within raw (part_layout raw part place) kind)) (sym (ap or_space flat.1)) flat.2
  | inr none ↦ absurd (material (ap or_space none))
]

-- and so it is no space
pub part_material : (raw : RawTech) (parts : List SetLayout) (place : Place) → (Offends raw parts place → ⊥)
    → (position : ℕ) (part : SetLayout) → slice_get parts position ≡ Some part → IsMaterial (part_layout raw part) place
    → IsMaterial (parts_layout raw parts) place
part_material raw parts place fine position part there material space =
    material (within_space raw (part_layout raw part place)
    (subst (λ (kind : ℕ). IsTrue (is_within raw (part_layout raw part place) kind)) space
    (part_within_flat raw parts place fine position part there material)))

-- where no place offends a link of a part is a link of the flat layout
pub link_lifted : (raw : RawTech) → KeepsRules raw → (parts : List SetLayout) → ((place : Place) → Offends raw parts place → ⊥)
    → (position : ℕ) (part : SetLayout) → slice_get parts position ≡ Some part → (a b : Place) → AreLinked (connects raw) (part_layout raw part) a b
    → AreLinked (connects raw) (parts_layout raw parts) a b
link_lifted raw rules parts fine position part there a b link = record {
  here = part_material raw parts a (fine a) position part there link.here;
  there = part_material raw parts b (fine b) position part there link.there;
  near = link.near;
  connected = rules.monotone (part_layout raw part a) (part_layout raw part b) (parts_layout raw parts a) (parts_layout raw parts b)
      (part_within_flat raw parts a (fine a) position part there link.here) (part_within_flat raw parts b (fine b) position part there link.there)
      link.connected;
}

-- a link goes over to a layout that has the same types at both places
pub link_of_same : (raw : RawTech) (layout other : Place → ℕ) (a b : Place) → other a ≡ layout a → other b ≡ layout b
    → AreLinked (connects raw) layout a b → AreLinked (connects raw) other a b
link_of_same raw layout other a b same_a same_b link = record {
  here = λ space. link.here (sym same_a ∙ space);
  there = λ space. link.there (sym same_b ∙ space);
  near = link.near;
  connected = ap (λ (kind : ℕ). connects raw kind (other b)) same_a ∙ ap (connects raw (layout a)) same_b ∙ link.connected;
}

module _ (Within : Square → Type 0) (parts others : List SetLayout) (restricted : IsRestriction Within parts others) (raw : RawTech) where
  -- a restricted part has material only in the squares that it is restricted to
  pub material_within : (position : ℕ) (other : SetLayout) → slice_get others position ≡ Some other → (place : Place)
      → IsMaterial (part_layout raw other) place → Within place.square
  material_within position other there place material = elim (restricted.decided place.square) [
    | inl within ↦ within
    | inr outside ↦ absurd (material (ap (λ (set : ℕ). or_space (joined raw place.plane set)) (restricted.outside position other there place outside)))
  ]

  -- a link of a restricted part is a link of the part
  pub link_of_whole : (position : ℕ) (part other : SetLayout) → slice_get parts position ≡ Some part → slice_get others position ≡ Some other
      → (a b : Place) → AreLinked (connects raw) (part_layout raw other) a b → AreLinked (connects raw) (part_layout raw part) a b
  link_of_whole position part other there also a b link =
      let same : (place : Place) → IsMaterial (part_layout raw other) place → part_layout raw part place ≡ part_layout raw other place =
      λ place material.
      ap (λ (set : ℕ). or_space (joined raw place.plane set))
      (sym (restricted.inside position part other there also place (material_within position other also place material))) in
      link_of_same raw (part_layout raw other) (part_layout raw part) a b (same a link.here) (same b link.there) link

  -- a link of the flat layout between squares that parts are restricted to is one of the restricted flat layout
  pub link_restricted : (a b : Place) → Within a.square → Within b.square → AreLinked (connects raw) (parts_layout raw parts) a b
      → AreLinked (connects raw) (parts_layout raw others) a b
  link_restricted a b within_a within_b link =
      link_of_same raw (parts_layout raw parts) (parts_layout raw others) a b
      (layout_inside Within parts others restricted raw a within_a) (layout_inside Within parts others restricted raw b within_b) link

  -- a link of a restricted part is one of the restricted flat layout, where no place offends
  pub restricted_link_lifted : KeepsRules raw → ((place : Place) → Offends raw parts place → ⊥) → (position : ℕ) (part other : SetLayout)
      → slice_get parts position ≡ Some part → slice_get others position ≡ Some other
      → (a b : Place) → AreLinked (connects raw) (part_layout raw other) a b → AreLinked (connects raw) (parts_layout raw others) a b
  restricted_link_lifted rules fine position part other there also a b link =
      link_restricted a b (material_within position other also a link.here) (material_within position other also b link.there)
      (link_lifted raw rules parts fine position part there a b (link_of_whole position part other there also a b link))

  -- a chain of links of a restricted part is one of the part
  pub node_of_whole : (position : ℕ) (part other : SetLayout) → slice_get parts position ≡ Some part → slice_get others position ≡ Some other
      → (a b : Place) → AreOneNode (connects raw) (part_layout raw other) a b → AreOneNode (connects raw) (part_layout raw part) a b
  node_of_whole position part other there also a b chain =
      Chain-weaker (λ c d link. link_of_whole position part other there also c d link) chain

  -- and, where no place offends, one of the restricted flat layout
  pub restricted_node_lifted : KeepsRules raw → ((place : Place) → Offends raw parts place → ⊥) → (position : ℕ) (part other : SetLayout)
      → slice_get parts position ≡ Some part → slice_get others position ≡ Some other
      → (a b : Place) → AreOneNode (connects raw) (part_layout raw other) a b → AreOneNode (connects raw) (parts_layout raw others) a b
  restricted_node_lifted rules fine position part other there also a b chain =
      Chain-weaker (λ c d link. restricted_link_lifted rules fine position part other there also c d link) chain
