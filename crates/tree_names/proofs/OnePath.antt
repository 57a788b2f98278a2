-- Places with one path are of one flat node.
use Rattle.tree_names.proofs.Common.{ℕ, List, inl, inr, refl, sym, ◌∙◌, subst, Distinct, RawTech, KeepsRules, IsWellFormed, Place, place_back}
use Rattle.tree_names.proofs.Common.{AreOneFlatNode, HasNodePath, HasNodePathBelow, NamedTree, NamedElements, named_tree, no_more, element_then}
use Rattle.tree_names.proofs.Common.{IsCleanTree, ids_in}
use Rattle.tree_names.proofs.CleanTrees.{AreCleanTrees, clean_below, clean_first, clean_rest}
use Rattle.tree_names.proofs.GroupNodes.{flat_node_above}
use Rattle.tree_names.proofs.LiftedLinks.{StandBelow, below_stands, own_node_up}
use Rattle.tree_names.proofs.OwnNames.{one_own_node, own_name_whole}
use Rattle.tree_names.proofs.Paths.{BeginsIn, begins_later, begins_once, begins_with_slash, one_split}

-- a path below begins with the name of its element
path_begins : (raw : RawTech) (elements : NamedElements) (place : Place) (path : List ℕ) → HasNodePathBelow raw elements place path
    → BeginsIn (ids_in elements) path
path_begins raw no_more place path none = absurd none
path_begins raw (element_then id placed tree rest) place path (inl here) = record { id = id; listed = inl refl; rest = here.0; is = here.2 }
path_begins raw (element_then id placed tree rest) place path (inr later) =
    begins_later id (ids_in rest) path (path_begins raw rest place path later)

module _ (raw : RawTech) (formed : IsWellFormed raw) (rules : KeepsRules raw) where
  mutual
    -- places with one path are of one flat node
    pub one_path_one_node : (tree : NamedTree) → IsCleanTree raw tree → (a b : Place) (path : List ℕ) → HasNodePath raw tree a path
        → HasNodePath raw tree b path
        → AreOneFlatNode raw tree a b
    one_path_one_node (named_tree own elements) is a b path (inl here) (inl there) =
        own_node_up raw formed rules own elements is.typed is.clean (one_own_node raw formed own is.typed.0 a b path here there)
    one_path_one_node (named_tree own elements) is a b path (inl here) (inr there) =
        absurd (begins_with_slash (ids_in elements) path (own_name_whole raw formed own is.typed.0 a path here)
        (path_begins raw elements b path there))
    one_path_one_node (named_tree own elements) is a b path (inr here) (inl there) =
        absurd (begins_with_slash (ids_in elements) path (own_name_whole raw formed own is.typed.0 b path there)
        (path_begins raw elements a path here))
    one_path_one_node (named_tree own elements) is a b path (inr here) (inr there) =
        one_path_below (named_tree own elements) elements (below_stands raw formed rules own elements is.clean)
        (clean_below raw own elements is)
        is.names.0 a b path here there

    one_path_below : (whole : NamedTree) (elements : NamedElements) → StandBelow raw whole elements → AreCleanTrees raw elements
        → Distinct (ids_in elements) → (a b : Place) (path : List ℕ) → HasNodePathBelow raw elements a path
        → HasNodePathBelow raw elements b path
        → AreOneFlatNode raw whole a b
    one_path_below whole no_more stand are distinct a b path none there = absurd none
    one_path_below whole (element_then id placed tree rest) stand are distinct a b path (inl here) (inl there) =
        let same = (one_split id id there.0 here.0 are.names.0 are.names.0 (sym there.2 ∙ here.2)).1 in
        flat_node_above raw formed rules whole tree placed stand.0 a b
        (one_path_one_node tree (clean_first raw id placed tree rest are) (place_back placed a) (place_back placed b) here.0 here.1
        (subst (HasNodePath raw tree (place_back placed b)) same there.1))
    one_path_below whole (element_then id placed tree rest) stand are distinct a b path (inl here) (inr there) =
        absurd (begins_once id path here.0 rest are.names.0 are.names.2 distinct.0 here.2 (path_begins raw rest b path there))
    one_path_below whole (element_then id placed tree rest) stand are distinct a b path (inr here) (inl there) =
        absurd (begins_once id path there.0 rest are.names.0 are.names.2 distinct.0 there.2 (path_begins raw rest a path here))
    one_path_below whole (element_then id placed tree rest) stand are distinct a b path (inr here) (inr there) =
        one_path_below whole rest stand.1 (clean_rest raw id placed tree rest are) distinct.1 a b path here there
