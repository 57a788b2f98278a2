-- The name of a group, and that of a member, is the path of a node in the group.
use Rattle.tree_names.proofs.Common.{ℕ, List, inl, inr, sym, subst, Chain-append, Chain-one, stay, RawTech, Place, place_back, HasNodePath}
use Rattle.tree_names.proofs.Common.{HasNodePathBelow, AreOneGroup, AreOneGroupBelow, IsGroupName, IsMemberAt, IsMemberBelow, NamedTree}
use Rattle.tree_names.proofs.Common.{NamedElements, place_forth, named_tree, no_more, element_then, back_from_above, GroupHasPath}
use Rattle.tree_names.proofs.OwnNames.{goes_by_own}

-- A place of the member below has the path.
record MemberHasPath (raw : RawTech) (elements : NamedElements) (place : Place) (path : List ℕ) : Type 0 where
  other : Place
  together : AreOneGroupBelow raw elements place other
  has : HasNodePathBelow raw elements other path

module _ (raw : RawTech) where
  mutual
    -- the name of a group is the path of a node in the group
    pub group_has_path : (tree : NamedTree) (place : Place) (name : List ℕ) → IsGroupName raw tree place name
        → GroupHasPath raw tree place name
    group_has_path (named_tree own elements) place name is = elim is.0.2 [
      | inl node ↦ record { other = is.0.0; together = is.0.1; has = inl (goes_by_own raw own is.0.0 name node) }
      | inr member ↦
          let found = below_has_path elements is.0.0 name member in
          record { other = found.other; together = Chain-append is.0.1 (Chain-one (inr (inr found.together))); has = inr found.has }
    ]

    below_has_path : (elements : NamedElements) (place : Place) (member : List ℕ) → IsMemberBelow raw elements place member
        → MemberHasPath raw elements place member
    below_has_path no_more place member none = absurd none
    below_has_path (element_then id placed tree rest) place member (inl here) =
        let found = group_has_path tree (place_back placed place) here.0 here.1 in
        let back = sym (back_from_above placed found.other) in
        record {
          other = place_forth placed found.other;
          together = inl (subst (AreOneGroup raw tree (place_back placed place)) back found.together);
          has = inl (here.0, subst (λ (p : Place). HasNodePath raw tree p here.0) back found.has, here.2);
        }
    below_has_path (element_then id placed tree rest) place member (inr later) =
        let found = below_has_path rest place member later in
        record { other = found.other; together = inr found.together; has = inr found.has }

  -- and so is that of a member
  pub member_has_path : (tree : NamedTree) (place : Place) (member : List ℕ) → IsMemberAt raw tree place member
      → GroupHasPath raw tree place member
  member_has_path (named_tree own elements) place member (inl node) =
      record { other = place; together = stay; has = inl (goes_by_own raw own place member node) }
  member_has_path (named_tree own elements) place member (inr below) =
      let found = below_has_path elements place member below in
      record { other = found.other; together = Chain-one (inr (inr found.together)); has = inr found.has }
