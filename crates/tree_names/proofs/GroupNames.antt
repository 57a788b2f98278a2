-- The names of groups and members: one group goes by a name, and a group goes by one name.
use Rattle.tree_names.proofs.Common.{◌≡◌, ℕ, List, inl, inr, refl, sym, ◌∙◌, ap, subst, Distinct, Chain-append, Chain-one, RawTech, IsWellFormed}
use Rattle.tree_names.proofs.Common.{HasTypesOf, Place, place_back, IsNoLaterName, later_both_ways, AreOneGroup, AreOneGroupBelow, IsGroupName}
use Rattle.tree_names.proofs.Common.{IsMemberAt, IsMemberBelow, NamedTree, NamedElements, OwnBody, named_tree, no_more, element_then, IsCleanTree}
use Rattle.tree_names.proofs.Common.{ids_in}
use Rattle.name_classes.proofs.FiniteSets.Leasts.{IsLeast-iff, IsLeast-unique}
use Rattle.own_record_laws.specs.TreeRecords.Merges.{IsMemberGroup, MemberGroup, group_name}
use Rattle.tree_names.proofs.CleanTrees.{AreCleanTrees, clean_below, clean_first, clean_rest}
use Rattle.tree_names.proofs.GroupNodes.{group_back}
use Rattle.tree_names.proofs.OwnNames.{goes_by_own, one_own_node, own_name_whole}
use Rattle.tree_names.proofs.Paths.{BeginsIn, begins_later, begins_once, begins_with_slash, one_split}

-- one place of a group, and another of that one's group
pub group_then : (raw : RawTech) (tree : NamedTree) (a b c : Place) → AreOneGroup raw tree a b → AreOneGroup raw tree b c → AreOneGroup raw tree a c
group_then raw (named_tree own elements) a b c first second = Chain-append first second

-- a group goes by its first member
pub group_name_is : (raw : RawTech) (tree : NamedTree) (group : MemberGroup) (is : IsMemberGroup raw tree group) → group_name group ≡ is.name
group_name_is raw tree group is = ap (λ (members : List (List ℕ)). group_name (record { members = members; adjustment = group.adjustment })) is.members_are

-- the group of a place goes by one name
pub one_group_name : (raw : RawTech) (tree : NamedTree) (place : Place) (name other : List ℕ) → IsGroupName raw tree place name
    → IsGroupName raw tree place other → name ≡ other
one_group_name raw (named_tree own elements) place name other is is_other =
    IsLeast-unique IsNoLaterName _ later_both_ways name other is is_other

-- which is the same along the group
pub group_name_along : (raw : RawTech) (tree : NamedTree) (a b : Place) (name : List ℕ) → AreOneGroup raw tree a b
    → IsGroupName raw tree a name
    → IsGroupName raw tree b name
group_name_along raw (named_tree own elements) a b name together is =
    let back = group_back raw (named_tree own elements) a b together in
    IsLeast-iff IsNoLaterName _ _ (λ m has. (has.0, Chain-append back has.1, has.2))
    (λ m has. (has.0, Chain-append together has.1, has.2)) name is

-- a member below begins with the name of its element
pub member_begins : (raw : RawTech) (elements : NamedElements) (place : Place) (member : List ℕ) → IsMemberBelow raw elements place member
    → BeginsIn (ids_in elements) member
member_begins raw no_more place member none = absurd none
member_begins raw (element_then id placed tree rest) place member (inl here) =
    record { id = id; listed = inl refl; rest = here.0; is = here.2 }
member_begins raw (element_then id placed tree rest) place member (inr later) =
    begins_later id (ids_in rest) member (member_begins raw rest place member later)

module _ (raw : RawTech) (formed : IsWellFormed raw) where
  -- places of members that go by one name are of one group, where those of members below are
  together_where : (own : OwnBody) (elements : NamedElements) → HasTypesOf raw own.layout
      → ((a b : Place) (member : List ℕ) → IsMemberBelow raw elements a member → IsMemberBelow raw elements b member
      → AreOneGroupBelow raw elements a b)
      → (a b : Place) (member : List ℕ) → IsMemberAt raw (named_tree own elements) a member
      → IsMemberAt raw (named_tree own elements) b member
      → AreOneGroup raw (named_tree own elements) a b
  together_where own elements typed below a b member (inl here) (inl there) =
      let one = goes_by_own raw own a member here in
      let other = goes_by_own raw own b member there in
      Chain-one (inr (inl (one_own_node raw formed own typed a b member one other)))
  together_where own elements typed below a b member (inl here) (inr there) =
      absurd (begins_with_slash (ids_in elements) member (own_name_whole raw formed own typed a member (goes_by_own raw own a member here))
      (member_begins raw elements b member there))
  together_where own elements typed below a b member (inr here) (inl there) =
      absurd (begins_with_slash (ids_in elements) member (own_name_whole raw formed own typed b member (goes_by_own raw own b member there))
      (member_begins raw elements a member here))
  together_where own elements typed below a b member (inr here) (inr there) = Chain-one (inr (inr (below a b member here there)))

  mutual
    -- places of groups that go by one name are of one group
    pub one_group : (tree : NamedTree) → IsCleanTree raw tree → (a b : Place) (name : List ℕ) → IsGroupName raw tree a name
        → IsGroupName raw tree b name
        → AreOneGroup raw tree a b
    one_group (named_tree own elements) is a b name here there =
        let below = one_member elements (clean_below raw own elements is) is.names.0 in
        Chain-append here.0.1 (Chain-append
        (together_where own elements is.typed.0 below here.0.0 there.0.0 name here.0.2 there.0.2)
        (group_back raw (named_tree own elements) b there.0.0 there.0.1))

    -- places of members below that go by one name are of one group there
    one_member : (elements : NamedElements) → AreCleanTrees raw elements → Distinct (ids_in elements) → (a b : Place) (member : List ℕ)
        → IsMemberBelow raw elements a member → IsMemberBelow raw elements b member → AreOneGroupBelow raw elements a b
    one_member no_more are distinct a b member none there = absurd none
    one_member (element_then id placed tree rest) are distinct a b member (inl here) (inl there) =
        let same = (one_split id id there.0 here.0 are.names.0 are.names.0 (sym there.2 ∙ here.2)).1 in
        inl (one_group tree (clean_first raw id placed tree rest are) (place_back placed a) (place_back placed b) here.0 here.1
        (subst (λ (name : List ℕ). IsGroupName raw tree (place_back placed b) name) same there.1))
    one_member (element_then id placed tree rest) are distinct a b member (inl here) (inr there) =
        absurd (begins_once id member here.0 rest are.names.0 are.names.2 distinct.0 here.2 (member_begins raw rest b member there))
    one_member (element_then id placed tree rest) are distinct a b member (inr here) (inl there) =
        absurd (begins_once id member there.0 rest are.names.0 are.names.2 distinct.0 there.2 (member_begins raw rest a member here))
    one_member (element_then id placed tree rest) are distinct a b member (inr here) (inr there) =
        inr (one_member rest (clean_rest raw id placed tree rest are) distinct.1 a b member here there)

  -- places of members that go by one name are of one group
  pub members_together : (tree : NamedTree) → IsCleanTree raw tree → (a b : Place) (member : List ℕ) → IsMemberAt raw tree a member
      → IsMemberAt raw tree b member → AreOneGroup raw tree a b
  members_together (named_tree own elements) is =
      together_where own elements is.typed.0 (one_member elements (clean_below raw own elements is) is.names.0)
