-- Members along links of their part and along its nodes and groups: they keep their names.
use Rattle.group_meetings.proofs.Common.{◌≡◌, ℕ, zero, suc, List, [], ◌∷◌, slice_get, inl, inr, refl, sym, ap, subst, ◌∙◌, Some, Chain-append}
use Rattle.group_meetings.proofs.Common.{Chain-one, RawTech, KeepsRules, connects, IsWellFormed, Layout, AreLinked, Place, place_back, sets_in}
use Rattle.group_meetings.proofs.Common.{IsTyped, AreOneNamedNode, SetLayout, IsOfNode, NamedTree, NamedElements, layouts_of, named_tree, no_more}
use Rattle.group_meetings.proofs.Common.{element_then, path_text, part_layout, link_of_same, tree_parts, IsMemberOfElement, IsMemberOfPart}
use Rattle.finite_sets.proofs.Leasts.{IsLeast-iff}
use Rattle.tech_model.specs.declared.raw.Label.{Label}
use Rattle.tree_names.specs.LayoutModel.Places.{IsNoLater}
use Rattle.meeting_laws.proofs.HierarchyModel.PartSearch.{one_part}
use Rattle.tree_names.proofs.CellNodes.NodePlaces.{AreOneNamedNode-sym, material_along}
use Rattle.meeting_laws.proofs.TreeRecords.MoveLaws.{neighbours_back, stacked_back}
use Rattle.group_meetings.proofs.PartMembers.{AreOneGroupOfElement, element_part, parts_below, own_part}
use Rattle.tree_names.proofs.GroupNodes.{flat_link_group}
use Rattle.tree_names.proofs.GroupNames.{one_group_name, group_name_along}
use Rattle.tree_names.proofs.OwnRecordLaws.PreferredNames.{one_name}

-- the name of a node of an own layout goes along the node
pub own_name_along : (raw : RawTech) → IsWellFormed raw → (layout : Layout) (labels : List Label) (a b : Place) (name : List ℕ)
    → AreOneNamedNode raw layout labels a b → IsOfNode raw layout labels name a → IsOfNode raw layout labels name b
own_name_along raw formed layout labels a b name together is =
    let back = AreOneNamedNode-sym raw layout labels together in
    record {
      material = material_along raw layout labels formed together is.material;
      least = is.least;
      is_least = IsLeast-iff IsNoLater (AreOneNamedNode raw layout labels a) (AreOneNamedNode raw layout labels b)
          (λ place there. Chain-append back there) (λ place there. Chain-append together there) is.least is.is_least;
      first = is.first;
    }

-- a member of an element goes along the element's group
pub member_along_group : (raw : RawTech) (elements : NamedElements) (position : ℕ) (a b : Place) (member : List ℕ)
    → AreOneGroupOfElement raw elements position a b → IsMemberOfElement raw elements position a member
    → IsMemberOfElement raw elements position b member
member_along_group raw no_more position a b member none is = absurd none
member_along_group raw (element_then id placed tree rest) zero a b member together is =
    (is.0, group_name_along raw tree (place_back placed a) (place_back placed b) is.0 together is.1, is.2)
member_along_group raw (element_then id placed tree rest) (suc position) a b member together is =
    member_along_group raw rest position a b member together is

-- a link of an element joins places of one group of its cell
group_of_link : (raw : RawTech) (elements : NamedElements) (position : ℕ) (part : SetLayout) → slice_get (parts_below raw elements) position ≡ Some part
    → (a b : Place) → AreLinked (connects raw) (part_layout raw part) a b → AreOneGroupOfElement raw elements position a b
group_of_link raw no_more position part there a b link = cc
group_of_link raw (element_then id placed tree rest) zero part there a b link =
    let first = element_part raw placed tree in
    let same : part ≡ first = one_part (first ∷ parts_below raw rest) zero part first there refl in
    let own_link : AreLinked (connects raw) (part_layout raw first) a b =
    subst (λ (p : SetLayout). AreLinked (connects raw) (part_layout raw p) a b) same link in
    flat_link_group raw tree (place_back placed a) (place_back placed b) (record {
      here = own_link.here;
      there = own_link.there;
      near = elim own_link.near [ inl beside ↦ inl (neighbours_back placed a b beside) | inr stacked ↦ inr (stacked_back placed a b stacked) ];
      connected = own_link.connected;
    })
group_of_link raw (element_then id placed tree rest) (suc position) part there a b link = group_of_link raw rest position part there a b link

module _ (raw : RawTech) (formed : IsWellFormed raw) (rules : KeepsRules raw) where
  -- a member goes along a link of its part
  pub member_along_link : (tree : NamedTree) → IsTyped raw (layouts_of tree) → (position : ℕ) (part : SetLayout)
      → slice_get (tree_parts raw tree) position ≡ Some part → (a b : Place) (member : List ℕ) → AreLinked (connects raw) (part_layout raw part) a b
      → IsMemberOfPart raw tree position a member → IsMemberOfPart raw tree position b member
  member_along_link (named_tree own elements) typed zero part there a b member link is =
      let first = sets_in raw own.layout in
      let same : part ≡ first = one_part (tree_parts raw (named_tree own elements)) zero part first there refl in
      let own_link : AreLinked (connects raw) (part_layout raw first) a b =
      subst (λ (p : SetLayout). AreLinked (connects raw) (part_layout raw p) a b) same link in
      own_name_along raw formed own.layout own.labels a b member
      (Chain-one (inl (link_of_same raw (part_layout raw first) own.layout a b (sym (own_part raw formed rules own.layout typed.0 a))
      (sym (own_part raw formed rules own.layout typed.0 b)) own_link))) is
  member_along_link (named_tree own elements) typed (suc position) part there a b member link is =
      member_along_group raw elements position a b member (group_of_link raw elements position part there a b link) is

-- an element has one member at a place
one_of_element : (raw : RawTech) (elements : NamedElements) (position : ℕ) (place : Place) (first second : List ℕ)
    → IsMemberOfElement raw elements position place first → IsMemberOfElement raw elements position place second → first ≡ second
one_of_element raw no_more position place first second none also = absurd none
one_of_element raw (element_then id placed tree rest) zero place first second is also =
    is.2 ∙ ap (path_text (id ∷ [])) (one_group_name raw tree (place_back placed place) is.0 also.0 is.1 also.1) ∙ sym also.2
one_of_element raw (element_then id placed tree rest) (suc position) place first second is also =
    one_of_element raw rest position place first second is also

-- a part has one member at a place
pub one_of_part : (raw : RawTech) (tree : NamedTree) (position : ℕ) (place : Place) (first second : List ℕ)
    → IsMemberOfPart raw tree position place first → IsMemberOfPart raw tree position place second → first ≡ second
one_of_part raw (named_tree own elements) zero place first second is also = one_name raw own.layout own.labels first second place is also
one_of_part raw (named_tree own elements) (suc position) place first second is also = one_of_element raw elements position place first second is also
