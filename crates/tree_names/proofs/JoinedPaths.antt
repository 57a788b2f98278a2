-- Two paths that a record joins have places of one flat node.
use Rattle.tree_names.proofs.Common.{ℕ, List, inl, inr, sym, subst, stay, In, Chain-append, In-flat_map_source, RawTech, KeepsRules, IsWellFormed}
use Rattle.tree_names.proofs.Common.{CellExt, names_of, Place, recorded, AreOneFlatNode, HasNodePath, HasNodePathBelow, AreOneGroup, NamedTree}
use Rattle.tree_names.proofs.Common.{NamedElements, OwnBody, place_forth, named_tree, no_more, element_then, back_from_above, HasTreeRecords}
use Rattle.tree_names.proofs.Common.{HaveTreeRecords, IsTreeRecord, IsCleanTree, ArePathsJoined, ArePathsJoinedBelow, GroupHasPath}
use Rattle.own_record_laws.specs.LayoutModel.Technologies.{rules_of}
use Rattle.own_record_laws.specs.TreeRecords.MemberGroups.{IsMemberOf}
use Rattle.own_record_laws.specs.TreeRecords.Merges.{group_merges}
use Rattle.tree_names.specs.PathLinks.{AreMergedIn, AreNamesOfNode, ShareFlatNode}
use Rattle.tree_names.proofs.CleanTrees.{AreCleanTrees, clean_below, clean_first, clean_rest}
use Rattle.tree_names.proofs.GroupMerges.{merge_members}
use Rattle.tree_names.proofs.GroupNodes.{flat_node_back, one_flat_node}
use Rattle.tree_names.proofs.LiftedLinks.{StandBelow, below_stands, flat_node_up}
use Rattle.tree_names.proofs.Representatives.{member_has_path}
use Rattle.tree_names.proofs.TreeElements.{record_is}

-- Two places that elements have are of one flat node of a cell, and have the two paths.
record ShareNodeBelow (raw : RawTech) (whole : NamedTree) (elements : NamedElements) (first second : List ℕ) : Type 0 where
  place : Place
  other : Place
  has : HasNodePathBelow raw elements place first
  other_has : HasNodePathBelow raw elements other second
  together : AreOneFlatNode raw whole place other

-- a member of a group is the path of a node in the group
member_path : (raw : RawTech) (tree : NamedTree) (place : Place) (member : List ℕ) → IsMemberOf raw tree place member
    → GroupHasPath raw tree place member
member_path raw (named_tree own elements) place member is =
    let found = member_has_path raw (named_tree own elements) is.0 member is.2 in
    record { other = found.other; together = Chain-append is.1 found.together; has = found.has }

module _ (raw : RawTech) (formed : IsWellFormed raw) (rules : KeepsRules raw) where
  -- two names of one node of a record have a place
  names_share : (own : OwnBody) (elements : NamedElements) (ext : CellExt) (first second : List ℕ)
      → IsTreeRecord raw (named_tree own elements) ext
      → AreNamesOfNode ext first second → ShareFlatNode raw (named_tree own elements) first second
  names_share own elements ext first second is names =
      let at = recorded raw own.layout own.labels ext.nodes is.nodes names.node names.listed in
      let has : (name : List ℕ) → In name (names_of names.node) → HasNodePath raw (named_tree own elements) at.least name = λ name here.
      inl (record { material = at.is.material; least = at.least; is_least = at.is.is_least; named = at.is.names.2 name here }) in
      record {
        place = at.least;
        other = at.least;
        has = has first (inl (sym names.preferred));
        other_has = has second names.named;
        together = stay;
      }

  -- the two paths of a merge have places of one flat node
  merged_share : (tree : NamedTree) (ext : CellExt) (first second : List ℕ) → IsCleanTree raw tree → IsTreeRecord raw tree ext
      → AreMergedIn ext first second → ShareFlatNode raw tree first second
  merged_share tree ext first second is_clean is merged =
      let classes = (rules_of raw).classes in
      let source = In-flat_map_source (group_merges classes) merged.merge is.merges.groups
      (subst (In merged.merge) is.merges.are merged.listed) in
      let group = is.merges.sound source.0 source.1.0 in
      let joins = merge_members classes source.0.adjustment source.0.members merged.merge source.1.1 in
      let one = member_path raw tree group.place merged.merge.first ((group.members merged.merge.first).0 joins.first) in
      let other = member_path raw tree group.place merged.merge.second ((group.members merged.merge.second).0 joins.second) in
      let up = λ (place : Place) (together : AreOneGroup raw tree group.place place).
      one_flat_node raw formed rules tree is_clean.typed is_clean.clean group.place place together in
      record {
        place = one.other;
        other = other.other;
        has = subst (HasNodePath raw tree one.other) (sym merged.one) one.has;
        other_has = subst (HasNodePath raw tree other.other) (sym merged.other) other.has;
        together = Chain-append (flat_node_back raw tree (up one.other one.together)) (up other.other other.together);
      }

  module _ (exts : List CellExt) where
    mutual
      -- two paths that a record joins have places of one flat node
      pub joined_share : (tree : NamedTree) → IsCleanTree raw tree → HasTreeRecords raw exts tree → (first second : List ℕ)
          → ArePathsJoined exts tree first second → ShareFlatNode raw tree first second
      joined_share (named_tree own elements) is has first second (inl here) =
          let of = record_is raw exts (named_tree own elements) here.ext has.0 here.found in
          elim here.joined [
            | inl names ↦ names_share own elements here.ext first second of names
            | inr merged ↦ merged_share (named_tree own elements) here.ext first second is of merged
          ]
      joined_share (named_tree own elements) is has first second (inr below) =
          let stand = below_stands raw formed rules own elements is.clean in
          let found = below_share (named_tree own elements) elements stand (clean_below raw own elements is) has.1 first second below in
          record {
            place = found.place;
            other = found.other;
            has = inr found.has;
            other_has = inr found.other_has;
            together = found.together;
          }

      below_share : (whole : NamedTree) (elements : NamedElements) → StandBelow raw whole elements → AreCleanTrees raw elements
          → HaveTreeRecords raw exts elements → (first second : List ℕ) → ArePathsJoinedBelow exts elements first second
          → ShareNodeBelow raw whole elements first second
      below_share whole no_more stand are have first second none = absurd none
      below_share whole (element_then id placed tree rest) stand are have first second (inl here) =
          let found = joined_share tree (clean_first raw id placed tree rest are) have.0 here.0 here.1 here.2 in
          let above = λ (place : Place) (path : List ℕ) (has : HasNodePath raw tree place path).
          subst (λ (p : Place). HasNodePath raw tree p path) (sym (back_from_above placed place)) has in
          record {
            place = place_forth placed found.place;
            other = place_forth placed found.other;
            has = inl (here.0, above found.place here.0 found.has, here.3);
            other_has = inl (here.1, above found.other here.1 found.other_has, here.4);
            together = flat_node_up raw formed rules whole tree placed stand.0 found.together;
          }
      below_share whole (element_then id placed tree rest) stand are have first second (inr later) =
          let found = below_share whole rest stand.1 (clean_rest raw id placed tree rest are) have.1 first second later in
          record {
            place = found.place;
            other = found.other;
            has = inr found.has;
            other_has = inr found.other_has;
            together = found.together;
          }
