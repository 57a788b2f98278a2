-- A tree's records have no more merges than its depth times their nodes.
use Rattle.tree_circuits.proofs.Common.{◌≡◌, ◌≤◌, ℕ, zero, suc, Bool, true, false, if◌then◌else◌, Option, List, [], ◌∷◌, map, length, inl, inr, refl}
use Rattle.tree_circuits.proofs.Common.{sym, ◌∙◌, ap, subst, arith, flat_map, length-append, length-map, In, Distinct, Chain-append, Distinct-append}
use Rattle.tree_circuits.proofs.Common.{In-append_left, In-append_right, In-map, Pairwise, Pairwise-from_AllPairs, In-flat_map_source, RawTech}
use Rattle.tree_circuits.proofs.Common.{IsWellFormed, path_text, CellExt, MergeRec, NodeRec, Place, Class, rules_of, place_back, ext_of}
use Rattle.std.proofs.Common.{◌+◌, ◌*◌, Some}
use Rattle.std.proofs.Math.Nat.{mul-add}
use Rattle.finite_sets.proofs.Distincts.{length-distinct}
use Rattle.tree_circuits.proofs.FullNames.ListOrders.{Distinct-names, not_before_itself, pairwise_names}
use Rattle.tree_circuits.specs.TreeRecords.FetRecords.{IsNameBefore}
use Rattle.tree_circuits.proofs.OwnRecordLaws.PreferredNames.{goes_by, in_some}
use Rattle.tree_circuits.specs.TreeRecords.MemberGroups.{IsMemberAt, IsMemberBelow}
use Rattle.tree_circuits.specs.TreeRecords.NamedTrees.{NamedTree, NamedElements}
use Rattle.tree_circuits.specs.TreeRecords.NamedTrees.NamedTree.{named_tree}
use Rattle.tree_circuits.specs.TreeRecords.NamedTrees.NamedElements.{no_more, element_then}
use Rattle.tree_circuits.specs.TreeRecords.Merges.{Adjustment, MemberGroup, IsMemberGroup, group_merges, group_name, is_zero_adjustment, merge_of, zero_adjustment}
use Rattle.tree_circuits.specs.TreeRecords.TreeRecords.{HasTreeRecord, HasTreeRecords, HaveTreeRecords}
use Rattle.tree_circuits.specs.TreeNames.CleanTrees.{IsCleanTree, depth_below, depth_of}
use Rattle.tree_circuits.proofs.TreeNames.CleanTrees.{AreCleanTrees, clean_below, clean_first, clean_rest}
use Rattle.tree_circuits.proofs.TreeNames.GroupNames.{group_name_is, group_name_along, members_together, one_group_name}
use Rattle.tree_circuits.proofs.TreeNames.GroupNodes.{group_back}
use Rattle.tree_circuits.proofs.MergePaths.{name_member}
use Rattle.tree_circuits.proofs.RecordCounts.{found_count, found_names, node_paths, node_paths_below, nodes_in, path_count, tree_count, tree_count_below}

-- how many merges a record has
abbrev pub merges_in : CellExt → ℕ
merges_in ext = length ext.merges

-- the group with these members
abbrev group_of : Adjustment → List (List ℕ) → MemberGroup
group_of adjustment members = record { members = members; adjustment = adjustment }

-- a list that may be empty has one merge at most
one_at_most : (empty : Bool) (one : MergeRec) → length (if empty then [] else (one ∷ [])) ≤ 1
one_at_most true one = omega arith
one_at_most false one = omega arith

-- a group has no more merges than members
group_count : (classes : List Class) (adjustment : Adjustment) (members : List (List ℕ))
    → length (group_merges classes (group_of adjustment members)) ≤ length members
group_count classes adjustment [] = omega arith
group_count classes adjustment (name ∷ []) = one_at_most (is_zero_adjustment adjustment) (merge_of name name adjustment)
group_count classes adjustment (name ∷ next ∷ more) =
    omega (arith, length-map more (λ (other : List ℕ). merge_of name other (zero_adjustment classes)))

-- the members of all groups
abbrev all_members : List MemberGroup → List (List ℕ)
all_members groups = flat_map (λ (group : MemberGroup). group.members) groups

-- nor have groups together
groups_count : (classes : List Class) (groups : List MemberGroup)
    → length (flat_map (group_merges classes) groups) ≤ length (all_members groups)
groups_count classes [] = omega arith
groups_count classes (group ∷ groups) =
    omega (
      arith,
      length-append (group_merges classes group) (flat_map (group_merges classes) groups),
      length-append group.members (all_members groups),
      group_count classes group.adjustment group.members,
      groups_count classes groups,
    )

module _ (raw : RawTech) (formed : IsWellFormed raw) where
  -- groups that share a member go by one name
  one_owner : (tree : NamedTree) → IsCleanTree raw tree → (one other : MemberGroup) → IsMemberGroup raw tree one
      → IsMemberGroup raw tree other
      → (member : List ℕ) → In member one.members → In member other.members → group_name one ≡ group_name other
  one_owner (named_tree own elements) is one other is_one is_other member here there =
      let tree = named_tree own elements in
      let first = (is_one.members member).0 here in
      let second = (is_other.members member).0 there in
      let middle = members_together raw formed tree is first.0 second.0 member first.2 second.2 in
      let joined = Chain-append first.1 (Chain-append middle (group_back raw tree is_other.place second.0 second.1)) in
      let same = one_group_name raw tree is_other.place is_one.name is_other.name
      (group_name_along raw tree is_one.place is_other.place is_one.name joined is_one.named) is_other.named in
      group_name_is raw tree one is_one ∙ same ∙ sym (group_name_is raw tree other is_other)

  -- the members of groups differ
  members_differ : (tree : NamedTree) → IsCleanTree raw tree → (groups : List MemberGroup)
      → ((group : MemberGroup) → In group groups → IsMemberGroup raw tree group)
      → Pairwise (λ a b. IsNameBefore (group_name a) (group_name b)) groups → Distinct (all_members groups)
  members_differ tree is [] sound ordered = tt
  members_differ tree is (group ∷ groups) sound ordered =
      let first = sound group (inl refl) in
      Distinct-append group.members (all_members groups) (Distinct-names group.members (pairwise_names group.members first.in_order))
      (members_differ tree is groups (λ other later. sound other (inr later)) ordered.1)
      (λ member here there.
      let owner = In-flat_map_source (λ (g : MemberGroup). g.members) member groups there in
      let same = one_owner tree is group owner.0 first (sound owner.0 (inr owner.1.0)) member here owner.1.1 in
      not_before_itself (group_name group) (subst (IsNameBefore (group_name group)) (sym same) (ordered.0 owner.0 owner.1.0)))

  module _ (exts : List CellExt) where
    mutual
      -- a member goes by the path of a node
      member_path : (tree : NamedTree) → HasTreeRecords raw exts tree → (place : Place) (member : List ℕ) → IsMemberAt raw tree place member
          → In member (node_paths exts tree)
      member_path (named_tree own elements) has place member (inl here) =
          let nodes = has.0.is.nodes in
          let some = in_some raw own.layout own.labels has.0.ext.nodes nodes place here.material in
          let name = goes_by raw own.layout own.labels has.0.ext.nodes nodes member place here some in
          let listed = In-map (λ (node : NodeRec). node.name) some.node has.0.ext.nodes some.listed in
          let among : In member (found_names (Some has.0.ext)) =
          subst (λ (n : List ℕ). In n (found_names (Some has.0.ext))) name listed in
          let P : Option CellExt → Type 0 = λ found. In member (found_names found) in
          In-append_left member (found_names (ext_of exts own.name)) (node_paths_below exts elements) (subst P (sym has.0.found) among)
      member_path (named_tree own elements) has place member (inr below) =
          In-append_right member (found_names (ext_of exts own.name)) (node_paths_below exts elements)
          (member_path_below elements has.1 place member below)

      member_path_below : (elements : NamedElements) → HaveTreeRecords raw exts elements → (place : Place) (member : List ℕ)
          → IsMemberBelow raw elements place member → In member (node_paths_below exts elements)
      member_path_below no_more have place member none = absurd none
      member_path_below (element_then id placed tree rest) have place member (inl here) =
          let at = name_member raw tree (place_back placed place) here.0 here.1 in
          let inner = member_path tree have.0 at.0 here.0 at.1 in
          let listed = In-map (path_text (id ∷ [])) here.0 (node_paths exts tree) inner in
          In-append_left member (map (path_text (id ∷ [])) (node_paths exts tree)) (node_paths_below exts rest)
          (subst (λ (path : List ℕ). In path (map (path_text (id ∷ [])) (node_paths exts tree))) (sym here.2) listed)
      member_path_below (element_then id placed tree rest) have place member (inr later) =
          In-append_right member (map (path_text (id ∷ [])) (node_paths exts tree)) (node_paths_below exts rest)
          (member_path_below rest have.1 place member later)

    -- a cell's record has no more merges than there are nodes at and below the cell
    own_merges : (tree : NamedTree) → HasTreeRecords raw exts tree → IsCleanTree raw tree → (top : HasTreeRecord raw exts tree)
        → merges_in top.ext ≤ length (node_paths exts tree)
    own_merges tree has is top =
        let merges = top.is.merges in
        let classes = (rules_of raw).classes in
        let ordered = Pairwise-from_AllPairs (λ a b. IsNameBefore (group_name a) (group_name b)) merges.groups merges.in_order in
        let few = length-distinct (all_members merges.groups) (node_paths exts tree)
        (members_differ tree is merges.groups merges.sound ordered)
        (λ member here.
        let owner = In-flat_map_source (λ (g : MemberGroup). g.members) member merges.groups here in
        let of = ((merges.sound owner.0 owner.1.0).members member).0 owner.1.1 in
        member_path tree has of.0 member of.2) in
        omega (arith, few, groups_count classes merges.groups, ap length merges.are)

    mutual
      -- all records of a tree have no more merges than its depth times their nodes
      pub merges_within : (tree : NamedTree) → HasTreeRecords raw exts tree → IsCleanTree raw tree → (most : ℕ) → depth_of tree ≤ most
          → tree_count merges_in exts tree ≤ most * tree_count nodes_in exts tree
      merges_within (named_tree own elements) has is zero deep = absurd (omega (arith, deep))
      merges_within (named_tree own elements) has is (suc most) deep =
          let own_nodes = found_count nodes_in (ext_of exts own.name) in
          let below_nodes = tree_count_below nodes_in exts elements in
          let own_few : found_count merges_in (ext_of exts own.name) ≤ own_nodes + below_nodes =
          omega (
            arith,
            own_merges (named_tree own elements) has is has.0,
            ap (found_count merges_in) has.0.found,
            path_count exts (named_tree own elements),
          ) in
          let below_few = merges_below_within elements has.1 (clean_below raw own elements is) most (omega (arith, deep)) in
          let product : suc most * (own_nodes + below_nodes) ≡ (own_nodes + below_nodes) + (most * own_nodes + most * below_nodes) =
          omega (arith, mul-add most own_nodes below_nodes) in
          omega (arith, own_few, below_few, product)

      merges_below_within : (elements : NamedElements) → HaveTreeRecords raw exts elements → AreCleanTrees raw elements → (most : ℕ)
          → depth_below elements ≤ most → tree_count_below merges_in exts elements ≤ most * tree_count_below nodes_in exts elements
      merges_below_within no_more have are most deep = omega arith
      merges_below_within (element_then id placed tree rest) have are most deep =
          let first = merges_within tree have.0 (clean_first raw id placed tree rest are) most (omega (arith, deep)) in
          let later = merges_below_within rest have.1 (clean_rest raw id placed tree rest are) most (omega (arith, deep)) in
          omega (arith, first, later, mul-add most (tree_count nodes_in exts tree) (tree_count_below nodes_in exts rest))
