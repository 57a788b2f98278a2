-- Tests that say the same of joined paths say the same of members and groups, and the names of a flat node are such a test.
use Rattle.tree_circuits.proofs.Common.{◌≡◌, ℕ, Bool, List, [], ◌∷◌, inl, inr, refl, sym, ◌∙◌, cases_Bool, bytes_eq-Decides, bytes_eq, In}
use Rattle.tree_circuits.proofs.Common.{Chain-keeps, In-from_list_any, absent-from_list_any, list_any-of_In, AreOneForOne, RawTech, KeepsRules}
use Rattle.tree_circuits.proofs.Common.{IsWellFormed, full_name, path_text, names_of, CellExt, NodeRec, Element, is_among, IsFlatNode, NamedTree}
use Rattle.tree_circuits.proofs.Common.{NamedElements, named_standings, named_tree, no_more, element_then, HasTreeRecords, IsCleanTree, IsElementFor}
use Rattle.tree_circuits.proofs.Common.{AreCleanTrees, clean_below, clean_first, clean_rest, path_full, is_named, IsOfGroups, AreOfGroups}
use Rattle.finite_sets.proofs.Chains.{Chain-push}
use Rattle.tree_names.specs.TreeRecords.TreeRecords.{HaveTreeRecords}
use Rattle.tree_names.specs.PathLinks.{ArePathsJoined, ArePathsJoinedBelow}
use Rattle.tree_names.proofs.ElementLinks.{joined_link}
use Rattle.tree_names.proofs.GroupNames.{group_name_along}
use Rattle.tree_names.proofs.JoinedPaths.{joined_share}
use Rattle.tree_names.proofs.Representatives.{member_has_path}
use Rattle.tree_names.proofs.ToGroups.{to_group}

-- names that stand there together have one answer
same_answer : (names : List (List ℕ)) (one other : List ℕ) → (In one names → In other names) → (In other names → In one names)
    → is_among names one ≡ is_among names other
same_answer names one other there back = elim (cases_Bool (is_among names one)) [
  | inl passed ↦ passed ∙ sym (list_any-of_In bytes_eq bytes_eq-Decides other names (there (In-from_list_any bytes_eq bytes_eq-Decides one names passed)))
  | inr failed ↦ elim (cases_Bool (is_among names other)) [
    | inl other_passed ↦ absurd (absent-from_list_any bytes_eq bytes_eq-Decides one names failed
        (back (In-from_list_any bytes_eq bytes_eq-Decides other names other_passed)))
    | inr also ↦ failed ∙ sym also
  ]
]

module _ (raw : RawTech) (well : IsWellFormed raw) (rules : KeepsRules raw) (exts : List CellExt) where
  mutual
    -- a test that says the same of joined paths is one of groups
    pub joined_of_groups : (tree : NamedTree) → IsCleanTree raw tree → HasTreeRecords raw exts tree → (passes : List ℕ → Bool)
        → ((first second : List ℕ) → ArePathsJoined exts tree first second → passes first ≡ passes second) → IsOfGroups raw tree passes
    joined_of_groups (named_tree own elements) is has passes keeps = (
      (λ place member name at named.
          let tree = named_tree own elements in
          let path = member_has_path raw tree place member at in
          let there = group_name_along raw tree place path.other name path.together named in
          sym (Chain-keeps passes keeps (to_group raw well rules exts tree is has path.other member name path.has there))),
      joined_of_groups_below elements (clean_below raw own elements is) has.1 passes (λ first second joined. keeps first second (inr joined)),
    )

    joined_of_groups_below : (elements : NamedElements) → AreCleanTrees raw elements → HaveTreeRecords raw exts elements → (passes : List ℕ → Bool)
        → ((first second : List ℕ) → ArePathsJoinedBelow exts elements first second → passes first ≡ passes second) → AreOfGroups raw elements passes
    joined_of_groups_below no_more are have passes keeps = tt
    joined_of_groups_below (element_then id placed tree rest) are have passes keeps = (
      joined_of_groups tree (clean_first raw id placed tree rest are) have.0 (λ path. passes (path_text (id ∷ []) path))
          (λ first second joined. keeps (path_text (id ∷ []) first) (path_text (id ∷ []) second) (inl (first, second, joined, refl, refl))),
      joined_of_groups_below rest (clean_rest raw id placed tree rest are) have.1 passes (λ first second joined. keeps first second (inr joined)),
    )

  module _ (tree : NamedTree) (is : IsCleanTree raw tree) (has : HasTreeRecords raw exts tree) (elements : List Element)
      (are : AreOneForOne (IsElementFor raw exts) (named_standings tree) elements) (classes : ℕ) (node : NodeRec) (flat : IsFlatNode elements classes node)
    where
      -- the names of a flat node say the same of joined paths
      names_keep : (first second : List ℕ) → ArePathsJoined exts tree first second → is_named node first ≡ is_named node second
      names_keep first second joined =
          let link = joined_link raw exts tree elements are first second joined in
          let share = joined_share raw well rules exts tree is has first second joined in
          same_answer (names_of node) (full_name [] first) (full_name [] second)
          (λ here. (flat.names (full_name [] second)).1 (
            path_full raw well rules tree is exts has elements are share.other second share.other_has,
            Chain-push ((flat.names (full_name [] first)).0 here).1 (inl link),
          ))
          (λ here. (flat.names (full_name [] first)).1 (
            path_full raw well rules tree is exts has elements are share.place first share.has,
            Chain-push ((flat.names (full_name [] second)).0 here).1 (inr link),
          ))

      -- and so of members and groups
      pub names_of_groups : IsOfGroups raw tree (is_named node)
      names_of_groups = joined_of_groups tree is has (is_named node) names_keep
