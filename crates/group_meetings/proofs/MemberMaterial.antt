-- Where a member has a place, its part has material, and so has the flat layout.
use Rattle.group_meetings.proofs.Common.{◌≡◌, ◌⊎◌, ℕ, zero, suc, List, ◌∷◌, slice_get, inl, inr, refl, sym, subst, ◌∙◌, Some, Chain-carries, RawTech}
use Rattle.group_meetings.proofs.Common.{KeepsRules, IsWellFormed, IsMaterial, Place, place_back, sets_in, IsTyped, SetLayout, IsClean, AreClean}
use Rattle.group_meetings.proofs.Common.{PartStands, IsOfNode, NamedTree, NamedElements, OwnBody, layouts_of, layouts_below, named_tree, no_more}
use Rattle.group_meetings.proofs.Common.{element_then, flat_layout, AreOneGroup, part_layout, tree_parts, IsMemberOfElement, IsMemberOfPart}
use Rattle.tree_names.specs.LayoutModel.FlatSets.{AreTyped}
use Rattle.meeting_laws.specs.TreeRecords.MemberGroups.{IsGroupName, IsMemberBelow}
use Rattle.meeting_laws.proofs.LinkLaws.{material_stands}
use Rattle.meeting_laws.proofs.PartLinks.{part_material}
use Rattle.group_meetings.proofs.PartMembers.{AreOneOrMaterial, one_or_material_then, flat_is_of_parts, own_part, element_part, parts_below}
use Rattle.group_meetings.proofs.PartMembers.{one_from_back, own_one_or_material, AreOneGroupOfElement, element_of_group, element_of_member}

-- The part at this position has material at the place.
pub record PartIsMaterial (raw : RawTech) (parts : List SetLayout) (position : ℕ) (place : Place) : Type 0 where
  pub part : SetLayout
  pub there : slice_get parts position ≡ Some part
  pub material : IsMaterial (part_layout raw part) place

-- it stands there
pub part_stands : (raw : RawTech) (parts : List SetLayout) (position : ℕ) (place : Place) → PartIsMaterial raw parts position place
    → PartStands parts position place
part_stands raw parts position place is = material_stands raw parts position is.part place is.there is.material

-- and so does the same part where one is put before
pub part_is_later : (raw : RawTech) (first : SetLayout) (parts : List SetLayout) (position : ℕ) (place : Place)
    → PartIsMaterial raw parts position place → PartIsMaterial raw (first ∷ parts) (suc position) place
part_is_later raw first parts position place is = record { part = is.part; there = is.there; material = is.material }

-- in a clean cell the flat layout has material too
pub flat_of_part : (raw : RawTech) (tree : NamedTree) → IsClean raw (layouts_of tree) → (position : ℕ) (place : Place)
    → PartIsMaterial raw (tree_parts raw tree) position place → IsMaterial (flat_layout raw tree) place
flat_of_part raw (named_tree own elements) clean position place is space =
    part_material raw (tree_parts raw (named_tree own elements)) place (clean.1 place) position is.part is.there is.material
    (sym (flat_is_of_parts raw (named_tree own elements) place) ∙ space)

-- The places are one, or the part at this position has material at both.
abbrev pub AreOneOrOfPart : RawTech → List SetLayout → ℕ → Place → Place → Type 0
AreOneOrOfPart raw parts position a b = (a ≡ b) ⊎ (PartIsMaterial raw parts position a × PartIsMaterial raw parts position b)

module _ (raw : RawTech) (formed : IsWellFormed raw) (rules : KeepsRules raw) where
  -- the own layout is material where its node is
  pub own_is_material : (own : OwnBody) (elements : NamedElements) → IsTyped raw (layouts_of (named_tree own elements)) → (place : Place)
      → IsMaterial own.layout place → PartIsMaterial raw (tree_parts raw (named_tree own elements)) zero place
  own_is_material own elements typed place material = record {
    part = sets_in raw own.layout;
    there = refl;
    material = λ space. material (sym (own_part raw formed rules own.layout typed.0 place) ∙ space);
  }

  mutual
    -- places of one group are one, or have material
    pub group_is_material : (tree : NamedTree) → IsTyped raw (layouts_of tree) → IsClean raw (layouts_of tree) → (a b : Place) → AreOneGroup raw tree a b
        → AreOneOrMaterial (flat_layout raw tree) a b
    group_is_material (named_tree own elements) typed clean a b chain =
        let tree = named_tree own elements in
        Chain-carries (AreOneOrMaterial (flat_layout raw tree) a)
        (λ x y step. one_or_material_then (flat_layout raw tree) a x y (elim step [
          | inl link ↦ inr (link.here, link.there)
          | inr (inl node) ↦ elim (own_one_or_material raw formed own node) [
            | inl same ↦ inl same
            | inr both ↦ inr (
              flat_of_part raw tree clean zero x (own_is_material own elements typed x both.0),
              flat_of_part raw tree clean zero y (own_is_material own elements typed y both.1),
            )
          ]
          | inr (inr below) ↦
              let found = element_of_group raw elements x y below in
              let later = part_is_later raw (sets_in raw own.layout) (parts_below raw elements) found.0 in
              elim (element_is_material elements typed.1 clean.0 found.0 x y found.1) [
                | inl same ↦ inl same
                | inr both ↦ inr (
                  flat_of_part raw tree clean (suc found.0) x (later x both.0),
                  flat_of_part raw tree clean (suc found.0) y (later y both.1),
                )
              ]
        ])) chain (inl refl)

    -- places of one group of an element are one, or the element has material there
    pub element_is_material : (elements : NamedElements) → AreTyped raw (layouts_below elements) → AreClean raw (layouts_below elements)
        → (position : ℕ) (a b : Place) → AreOneGroupOfElement raw elements position a b → AreOneOrOfPart raw (parts_below raw elements) position a b
    element_is_material no_more typed clean position a b none = absurd none
    element_is_material (element_then id placed tree rest) typed clean zero a b together =
        elim (group_is_material tree typed.0 clean.0 (place_back placed a) (place_back placed b) together) [
          | inl same ↦ inl (one_from_back placed a b same)
          | inr both ↦ inr (
            record { part = element_part raw placed tree; there = refl; material = both.0 },
            record { part = element_part raw placed tree; there = refl; material = both.1 },
          )
        ]
    element_is_material (element_then id placed tree rest) typed clean (suc position) a b together =
        let first = element_part raw placed tree in
        elim (element_is_material rest typed.1 clean.1 position a b together) [
          | inl same ↦ inl same
          | inr both ↦ inr (
            part_is_later raw first (parts_below raw rest) position a both.0,
            part_is_later raw first (parts_below raw rest) position b both.1,
          )
        ]

  mutual
    -- a place whose group has a name has material
    pub named_is_material : (tree : NamedTree) → IsTyped raw (layouts_of tree) → IsClean raw (layouts_of tree) → (place : Place) (name : List ℕ)
        → IsGroupName raw tree place name → IsMaterial (flat_layout raw tree) place
    named_is_material (named_tree own elements) typed clean place name is =
        let tree = named_tree own elements in
        let P : Place → Type 0 = λ p. IsOfNode raw own.layout own.labels name p ⊎ IsMemberBelow raw elements p name in
        elim (group_is_material tree typed clean place is.0.0 is.0.1) [
          | inr both ↦ both.0
          | inl same ↦ elim (subst P (sym same) is.0.2) [
            | inl own_node ↦ flat_of_part raw tree clean zero place (own_is_material own elements typed place own_node.material)
            | inr below ↦
                let found = element_of_member raw elements place name below in
                flat_of_part raw tree clean (suc found.0) place
                (part_is_later raw (sets_in raw own.layout) (parts_below raw elements) found.0 place
                (member_of_element elements typed.1 clean.0 found.0 place name found.1))
          ]
        ]

    -- where a member below has a place, its element has material
    pub member_of_element : (elements : NamedElements) → AreTyped raw (layouts_below elements) → AreClean raw (layouts_below elements)
        → (position : ℕ) (place : Place) (member : List ℕ) → IsMemberOfElement raw elements position place member
        → PartIsMaterial raw (parts_below raw elements) position place
    member_of_element no_more typed clean position place member none = absurd none
    member_of_element (element_then id placed tree rest) typed clean zero place member here = record {
      part = element_part raw placed tree;
      there = refl;
      material = named_is_material tree typed.0 clean.0 (place_back placed place) here.0 here.1;
    }
    member_of_element (element_then id placed tree rest) typed clean (suc position) place member below =
        part_is_later raw (element_part raw placed tree) (parts_below raw rest) position place
        (member_of_element rest typed.1 clean.1 position place member below)

  -- where a member has a place, its part has material
  pub member_is_material : (tree : NamedTree) → IsTyped raw (layouts_of tree) → IsClean raw (layouts_of tree) → (position : ℕ) (place : Place)
      (member : List ℕ) → IsMemberOfPart raw tree position place member → PartIsMaterial raw (tree_parts raw tree) position place
  member_is_material (named_tree own elements) typed clean zero place member own_node =
      own_is_material own elements typed place own_node.material
  member_is_material (named_tree own elements) typed clean (suc position) place member below =
      part_is_later raw (sets_in raw own.layout) (parts_below raw elements) position place
      (member_of_element elements typed.1 clean.0 position place member below)
