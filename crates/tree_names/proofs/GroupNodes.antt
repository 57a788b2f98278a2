-- The places of a group are of one flat node, and belong together both ways.
use Rattle.tree_names.proofs.Common.{inl, inr, subst, Chain-one, Chain-through, Transform, RawTech, KeepsRules, IsWellFormed, Place, place_back}
use Rattle.tree_names.proofs.Common.{AreTyped, IsTyped, AreOneNamedNode-sym, AreClean, IsClean, AreFlatLinked, AreOneFlatNode, flat_layout}
use Rattle.tree_names.proofs.Common.{AreOneGroup, AreOneGroupBelow, NamedTree, NamedElements, layouts_below, layouts_of, place_forth, named_tree}
use Rattle.tree_names.proofs.Common.{no_more, element_then, above_from_back}
use Rattle.name_classes.proofs.FiniteSets.Chains.{Chain-back}
use Rattle.hierarchy_model.specs.TechModel.Types.{connects}
use Rattle.hierarchy_model.proofs.TechModel.TypeLaws.{connects_back}
use Rattle.own_record_laws.specs.LayoutModel.Links.{AreLinked}
use Rattle.own_record_laws.proofs.LayoutModel.NodeLaws.{AreLinked-sym}
use Rattle.tree_names.proofs.LiftedLinks.{StandsIn, StandBelow, below_stands, flat_node_up, own_node_up}

-- flat links lead both ways
flat_link_back : (raw : RawTech) (tree : NamedTree) (a b : Place) → AreFlatLinked raw tree a b → AreFlatLinked raw tree b a
flat_link_back raw tree a b (inl link) = inl (AreLinked-sym (connects raw) (flat_layout raw tree) (connects_back raw) a b link)
flat_link_back raw tree a b (inr share) = inr (record { text = share.text; global = share.global; here = share.there; there = share.here })

-- and so do chains of them
pub flat_node_back : (raw : RawTech) (tree : NamedTree) {a b : Place} → AreOneFlatNode raw tree a b → AreOneFlatNode raw tree b a
flat_node_back raw tree chain = Chain-back (flat_link_back raw tree) chain

-- a link of the flat layout stays within a group
pub flat_link_group : (raw : RawTech) (tree : NamedTree) (a b : Place) → AreLinked (connects raw) (flat_layout raw tree) a b
    → AreOneGroup raw tree a b
flat_link_group raw (named_tree own elements) a b link = Chain-one (inl link)

mutual
  -- two places of a group, the other way round
  pub group_back : (raw : RawTech) (tree : NamedTree) (a b : Place) → AreOneGroup raw tree a b → AreOneGroup raw tree b a
  group_back raw (named_tree own elements) a b chain =
      Chain-back (λ x y step. elim step [
        | inl link ↦ inl (AreLinked-sym (connects raw) (flat_layout raw (named_tree own elements)) (connects_back raw) x y link)
        | inr (inl node) ↦ inr (inl (AreOneNamedNode-sym raw own.layout own.labels node))
        | inr (inr below) ↦ inr (inr (below_back raw elements x y below))
      ]) chain

  below_back : (raw : RawTech) (elements : NamedElements) (a b : Place) → AreOneGroupBelow raw elements a b
      → AreOneGroupBelow raw elements b a
  below_back raw no_more a b none = none
  below_back raw (element_then id placed tree rest) a b (inl here) =
      inl (group_back raw tree (place_back placed a) (place_back placed b) here)
  below_back raw (element_then id placed tree rest) a b (inr later) = inr (below_back raw rest a b later)

-- places of an element's flat node, told by where they are in the cell
pub flat_node_above : (raw : RawTech) → IsWellFormed raw → KeepsRules raw → (whole tree : NamedTree) (placed : Transform)
    → StandsIn raw whole tree placed
    → (a b : Place) → AreOneFlatNode raw tree (place_back placed a) (place_back placed b) → AreOneFlatNode raw whole a b
flat_node_above raw formed rules whole tree placed stands a b chain =
    subst (λ (p : Place). AreOneFlatNode raw whole p b) (above_from_back placed a)
    (subst (λ (p : Place). AreOneFlatNode raw whole (place_forth placed (place_back placed a)) p) (above_from_back placed b)
    (flat_node_up raw formed rules whole tree placed stands chain))

module _ (raw : RawTech) (formed : IsWellFormed raw) (rules : KeepsRules raw) where
  mutual
    -- two places of a group of a clean cell are of one flat node
    pub one_flat_node : (tree : NamedTree) → IsTyped raw (layouts_of tree) → IsClean raw (layouts_of tree) → (a b : Place)
        → AreOneGroup raw tree a b
        → AreOneFlatNode raw tree a b
    one_flat_node (named_tree own elements) typed clean a b chain =
        Chain-through (λ x y step. elim step [
          | inl link ↦ Chain-one (inl link)
          | inr (inl node) ↦ own_node_up raw formed rules own elements typed clean node
          | inr (inr below) ↦ below_one_node (named_tree own elements) elements
              (below_stands raw formed rules own elements clean) typed.1 clean.0 x y below
        ]) chain

    -- and so are two places of a group of an element
    pub below_one_node : (whole : NamedTree) (elements : NamedElements) → StandBelow raw whole elements
        → AreTyped raw (layouts_below elements)
        → AreClean raw (layouts_below elements) → (a b : Place) → AreOneGroupBelow raw elements a b → AreOneFlatNode raw whole a b
    below_one_node whole no_more stand typed clean a b none = absurd none
    below_one_node whole (element_then id placed tree rest) stand typed clean a b (inl here) =
        flat_node_above raw formed rules whole tree placed stand.0 a b
        (one_flat_node tree typed.0 clean.0 (place_back placed a) (place_back placed b) here)
    below_one_node whole (element_then id placed tree rest) stand typed clean a b (inr later) =
        below_one_node whole rest stand.1 typed.1 clean.1 a b later
