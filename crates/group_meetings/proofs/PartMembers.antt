-- Members stand where they have places: their part has material there.
use Rattle.group_meetings.proofs.Common.{◌≡◌, ◌⊎◌, ℕ, zero, suc, List, inl, inr, refl, sym, ap, subst, ◌∙◌, Chain-carries, Transform, RawTech}
use Rattle.group_meetings.proofs.Common.{KeepsRules, IsWellFormed, Layout, IsMaterial, Place, place_back, sets_in, flat_sets, AreOneNamedNode}
use Rattle.group_meetings.proofs.Common.{SetLayout, NamedTree, NamedElements, OwnBody, layouts_of, layouts_below, named_tree, no_more, element_then}
use Rattle.group_meetings.proofs.Common.{flat_layout, AreOneGroup, AreOneGroupBelow, IsMemberAt, part_layout, parts_layout, tree_parts}
use Rattle.group_meetings.proofs.Common.{IsMemberOfElement, IsMemberOfPart}
use Rattle.tree_names.specs.LayoutModel.LayerTypes.{or_space, HasTypesOf}
use Rattle.tree_names.specs.LayoutModel.FlatSets.{element_parts}
use Rattle.tree_names.specs.Names.Attachments.{label_at}
use Rattle.tree_names.proofs.Names.AttachLaws.{suits_material}
use Rattle.meeting_laws.proofs.HierarchyModel.CleanLaws.{flat_of_parts}
use Rattle.meeting_laws.proofs.HierarchyModel.KindLaws.{type_in_layout}
use Rattle.meeting_laws.specs.TreeRecords.NamedTrees.{place_forth}
use Rattle.meeting_laws.specs.TreeRecords.MemberGroups.{IsMemberBelow}
use Rattle.meeting_laws.proofs.TreeRecords.MoveLaws.{above_from_back}

-- The places are one, or the layout has material at both.
abbrev pub AreOneOrMaterial : Layout → Place → Place → Type 0
AreOneOrMaterial layout a b = (a ≡ b) ⊎ (IsMaterial layout a × IsMaterial layout b)

-- one after another
pub one_or_material_then : (layout : Layout) (a b c : Place) → AreOneOrMaterial layout b c → AreOneOrMaterial layout a b → AreOneOrMaterial layout a c
one_or_material_then layout a b c (inl same) first = subst (λ (place : Place). AreOneOrMaterial layout a place) same first
one_or_material_then layout a b c (inr both) (inl same) = inr (subst (IsMaterial layout) (sym same) both.0, both.1)
one_or_material_then layout a b c (inr both) (inr first) = inr (first.0, both.1)

-- the flat layout of a cell is that of its parts
pub flat_is_of_parts : (raw : RawTech) (tree : NamedTree) (place : Place) → flat_layout raw tree place ≡ parts_layout raw (tree_parts raw tree) place
flat_is_of_parts raw (named_tree own elements) place =
    ap or_space (flat_of_parts raw (record { cell = own.cell; layout = own.layout }) (layouts_below elements) place)

-- the layout of the first part of a cell is its own layout
pub own_part : (raw : RawTech) → IsWellFormed raw → KeepsRules raw → (layout : Layout) → HasTypesOf raw layout → (place : Place)
    → part_layout raw (sets_in raw layout) place ≡ layout place
own_part raw formed rules layout typed place = ap or_space (type_in_layout raw formed rules layout typed place)

-- the part that an element is
abbrev pub element_part : RawTech → Transform → NamedTree → SetLayout
element_part raw placed tree place = flat_sets raw (layouts_of tree) (place_back placed place)

-- the parts that elements are
abbrev pub parts_below : RawTech → NamedElements → List SetLayout
parts_below raw elements = element_parts raw (layouts_below elements)

-- places that come back to one place are one
pub one_from_back : (placed : Transform) (a b : Place) → place_back placed a ≡ place_back placed b → a ≡ b
one_from_back placed a b same = sym (above_from_back placed a) ∙ ap (place_forth placed) same ∙ above_from_back placed b

-- the places of an own node are one, or have material
pub own_one_or_material : (raw : RawTech) → IsWellFormed raw → (own : OwnBody) {a b : Place} → AreOneNamedNode raw own.layout own.labels a b
    → AreOneOrMaterial own.layout a b
own_one_or_material raw formed own {a = a} {b = b} chain =
    Chain-carries (AreOneOrMaterial own.layout a)
    (λ x y step. one_or_material_then own.layout a x y (elim step [
      | inl link ↦ inr (link.here, link.there)
      | inr share ↦ inr (
        suits_material raw own.layout (label_at own.labels share.here.index) x formed share.here.names.attaches.least.0,
        suits_material raw own.layout (label_at own.labels share.there.index) y formed share.there.names.attaches.least.0,
      )
    ])) chain (inl refl)

-- The places are of one group of the cell of the element at this position.
abbrev pub AreOneGroupOfElement : RawTech → NamedElements → ℕ → Place → Place → Type 0
AreOneGroupOfElement raw no_more position a b = ⊥
AreOneGroupOfElement raw (element_then id placed tree rest) zero a b = AreOneGroup raw tree (place_back placed a) (place_back placed b)
AreOneGroupOfElement raw (element_then id placed tree rest) (suc position) a b = AreOneGroupOfElement raw rest position a b

-- the element whose group has both places
pub element_of_group : (raw : RawTech) (elements : NamedElements) (a b : Place) → AreOneGroupBelow raw elements a b
    → (position : ℕ) × AreOneGroupOfElement raw elements position a b
element_of_group raw no_more a b none = absurd none
element_of_group raw (element_then id placed tree rest) a b (inl here) = (zero, here)
element_of_group raw (element_then id placed tree rest) a b (inr below) =
    let found = element_of_group raw rest a b below in (suc found.0, found.1)

-- the element that a member below is of
pub element_of_member : (raw : RawTech) (elements : NamedElements) (place : Place) (member : List ℕ) → IsMemberBelow raw elements place member
    → (position : ℕ) × IsMemberOfElement raw elements position place member
element_of_member raw no_more place member none = absurd none
element_of_member raw (element_then id placed tree rest) place member (inl here) = (zero, here)
element_of_member raw (element_then id placed tree rest) place member (inr below) =
    let found = element_of_member raw rest place member below in (suc found.0, found.1)

-- and back
member_below : (raw : RawTech) (elements : NamedElements) (position : ℕ) (place : Place) (member : List ℕ)
    → IsMemberOfElement raw elements position place member → IsMemberBelow raw elements place member
member_below raw no_more position place member none = absurd none
member_below raw (element_then id placed tree rest) zero place member here = inl here
member_below raw (element_then id placed tree rest) (suc position) place member below = inr (member_below raw rest position place member below)

-- the part that a member is of
pub part_of_member : (raw : RawTech) (tree : NamedTree) (place : Place) (member : List ℕ) → IsMemberAt raw tree place member
    → (position : ℕ) × IsMemberOfPart raw tree position place member
part_of_member raw (named_tree own elements) place member (inl own_node) = (zero, own_node)
part_of_member raw (named_tree own elements) place member (inr below) =
    let found = element_of_member raw elements place member below in (suc found.0, found.1)

-- and back
pub member_at_part : (raw : RawTech) (tree : NamedTree) (position : ℕ) (place : Place) (member : List ℕ) → IsMemberOfPart raw tree position place member
    → IsMemberAt raw tree place member
member_at_part raw (named_tree own elements) zero place member own_node = inl own_node
member_at_part raw (named_tree own elements) (suc position) place member below = inr (member_below raw elements position place member below)
