-- Each path of a place is joined with the name of the place's group.
use Rattle.tree_names.proofs.Common.{ℕ, List, [], ◌∷◌, inl, inr, refl, sym, subst, Chain, Chain-append, Chain-map, Chain-one, RawTech, KeepsRules}
use Rattle.tree_names.proofs.Common.{IsWellFormed, CellExt, path_text, Place, place_back, HasNodePath, HasNodePathBelow, IsGroupName, IsMemberBelow}
use Rattle.tree_names.proofs.Common.{NamedTree, NamedElements, named_tree, no_more, element_then, HasTreeRecords, HaveTreeRecords, IsCleanTree}
use Rattle.tree_names.proofs.Common.{ArePathsJoined, ArePathsJoinedBelow}
use Rattle.name_classes.proofs.FiniteSets.Chains.{Chain-push, Chain-weaker}
use Rattle.tree_names.proofs.CleanTrees.{AreCleanTrees, clean_below, clean_first, clean_rest}
use Rattle.tree_names.proofs.GroupMerges.{has_group, to_member}
use Rattle.tree_names.proofs.RecordedNodes.{path_material, record_at}
use Rattle.tree_names.proofs.TreeElements.{top_record}

-- A member below has the place, and is joined with the path.
record IsJoinedBelow (raw : RawTech) (exts : List CellExt) (elements : NamedElements) (place : Place) (path : List ℕ) : Type 0 where
  member : List ℕ
  has : IsMemberBelow raw elements place member
  joined : Chain (ArePathsJoinedBelow exts elements) member path

module _ (raw : RawTech) (formed : IsWellFormed raw) (rules : KeepsRules raw) (exts : List CellExt) where
  mutual
    -- each path of a place is joined with the name of the place's group
    pub to_group : (tree : NamedTree) → IsCleanTree raw tree → HasTreeRecords raw exts tree → (place : Place) (path name : List ℕ)
        → HasNodePath raw tree place path → IsGroupName raw tree place name → Chain (ArePathsJoined exts tree) name path
    to_group (named_tree own elements) is has place path name (inl here) named =
        let tree = named_tree own elements in
        let at = record_at raw own has.0.ext.nodes has.0.is.nodes place here.material in
        let material = path_material raw formed rules tree is place path (inl here) in
        Chain-push (to_member raw formed exts tree is has.0 place at.node.name name material (inl at.preferred) named)
        (inl (record {
          ext = has.0.ext;
          found = has.0.found;
          joined = inl (record { node = at.node; listed = at.listed; preferred = refl; named = at.names path here });
        }))
    to_group (named_tree own elements) is has place path name (inr below) named =
        let tree = named_tree own elements in
        let found = to_member_below elements (clean_below raw own elements is) has.1 place path below in
        let material = path_material raw formed rules tree is place path (inr below) in
        Chain-append (to_member raw formed exts tree is has.0 place found.member name material (inr found.has) named)
        (Chain-weaker (λ a b joined. inr joined) found.joined)

    to_member_below : (elements : NamedElements) → AreCleanTrees raw elements → HaveTreeRecords raw exts elements
        → (place : Place) (path : List ℕ)
        → HasNodePathBelow raw elements place path → IsJoinedBelow raw exts elements place path
    to_member_below no_more are have place path none = absurd none
    to_member_below (element_then id placed tree rest) are have place path (inl here) =
        let is = clean_first raw id placed tree rest are in
        let back = place_back placed place in
        let group = has_group raw formed exts tree (top_record raw exts tree have.0) back
        (path_material raw formed rules tree is back here.0 here.1) in
        let joined = to_group tree is have.0 back here.0 group.0 here.1 group.1 in
        let text = λ (inner : List ℕ). path_text (id ∷ []) inner in
        let moved = Chain-map text (λ a b step. Chain-one (inl (a, b, step, refl, refl))) joined in
        record {
          member = text group.0;
          has = inl (group.0, group.1, refl);
          joined = subst (λ (p : List ℕ). Chain (ArePathsJoinedBelow exts (element_then id placed tree rest)) (text group.0) p)
              (sym here.2) moved;
        }
    to_member_below (element_then id placed tree rest) are have place path (inr later) =
        let found = to_member_below rest (clean_rest raw id placed tree rest are) have.1 place path later in
        record { member = found.member; has = inr found.has; joined = Chain-weaker (λ a b joined. inr joined) found.joined }
