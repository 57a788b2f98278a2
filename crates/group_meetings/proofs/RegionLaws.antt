-- Links of the restricted flat layout of a cell are links of its flat layout, and join places of one group.
use Rattle.group_meetings.proofs.Common.{◌≡◌, List, inl, inr, sym, Square, RawTech, connects, IsMaterial, AreLinked, Place, SetLayout, IsRestriction}
use Rattle.group_meetings.proofs.Common.{NamedTree, named_tree, flat_layout, AreOneGroup, parts_layout, link_of_same, tree_parts}
use Rattle.finite_sets.proofs.Chains.{Chain-weaker}
use Rattle.tree_names.specs.LayoutModel.Links.{AreOneNode}
use Rattle.meeting_laws.proofs.RestrictionLaws.{layout_inside, layout_elsewhere}
use Rattle.group_meetings.proofs.PartMembers.{flat_is_of_parts}

-- a link of the flat layout of a cell is one of that of its parts
pub link_of_parts : (raw : RawTech) (tree : NamedTree) (a b : Place) → AreLinked (connects raw) (flat_layout raw tree) a b
    → AreLinked (connects raw) (parts_layout raw (tree_parts raw tree)) a b
link_of_parts raw tree a b link =
    link_of_same raw (flat_layout raw tree) (parts_layout raw (tree_parts raw tree)) a b (sym (flat_is_of_parts raw tree a))
    (sym (flat_is_of_parts raw tree b)) link

-- and back
link_of_flat : (raw : RawTech) (tree : NamedTree) (a b : Place) → AreLinked (connects raw) (parts_layout raw (tree_parts raw tree)) a b
    → AreLinked (connects raw) (flat_layout raw tree) a b
link_of_flat raw tree a b link =
    link_of_same raw (parts_layout raw (tree_parts raw tree)) (flat_layout raw tree) a b (flat_is_of_parts raw tree a) (flat_is_of_parts raw tree b) link

-- what links of the restricted flat layout join is of one group
pub region_in_group : (Within : Square → Type 0) (raw : RawTech) (tree : NamedTree) (others : List SetLayout)
    → IsRestriction Within (tree_parts raw tree) others → (a b : Place) → AreOneNode (connects raw) (parts_layout raw others) a b → AreOneGroup raw tree a b
region_in_group Within raw (named_tree own elements) others restricted a b chain =
    Chain-weaker (λ x y link. inl (link_of_flat raw (named_tree own elements) x y (unrestricted x y link))) chain
  where
    parts : List SetLayout
    parts = tree_parts raw (named_tree own elements)

    same : (place : Place) → IsMaterial (parts_layout raw others) place → parts_layout raw parts place ≡ parts_layout raw others place
    same place material = elim (restricted.decided place.square) [
      | inl within ↦ sym (layout_inside Within parts others restricted raw place within)
      | inr outside ↦ absurd (material (layout_elsewhere Within parts others restricted raw place outside))
    ]

    unrestricted : (x y : Place) → AreLinked (connects raw) (parts_layout raw others) x y → AreLinked (connects raw) (parts_layout raw parts) x y
    unrestricted x y link =
        link_of_same raw (parts_layout raw others) (parts_layout raw parts) x y (same x link.here) (same y link.there) link
