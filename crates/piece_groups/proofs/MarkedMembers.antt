-- The members of a mark are the members of a group.
use Rattle.piece_groups.proofs.Common.{◌≡◌, ◌≢◌, ℕ, Bool, List, [], ◌∷◌, slice_get, slice_index, inl, inr, refl, sym, subst, ◌∙◌, In, Square}
use Rattle.piece_groups.proofs.Common.{RawTech, KeepsRules, IsWellFormed, RegionTile, Place, PlaneStack, SetLayout, AreInNameOrder, NamedTree}
use Rattle.piece_groups.proofs.Common.{named_tree, IsGroupName, IsMemberAt, IsMemberOf, MemberGroup, AreMembersOf, MeetingSum, HasMark}
use Rattle.piece_groups.proofs.Common.{IsGroupOfMark, AreMarkedPieces, MarksTellGroups}
use Rattle.std.specs.Prelude.{Some}
use Rattle.finite_sets.specs.Chain.Chain.{stay}
use Rattle.finite_sets.specs.Least.{IsLeast}
use Rattle.piece_groups.proofs.FullNames.ListOrders.{pairwise_names}
use Rattle.group_meetings.specs.TreeRecords.FetRecords.{IsNoLaterName}
use Rattle.piece_groups.specs.TreeRecords.MemberGroups.{AreOneGroup}
use Rattle.piece_groups.proofs.PiecePlaces.{listed_has_place}

-- a place is of its own group
pub group_stays : (raw : RawTech) (tree : NamedTree) (place : Place) → AreOneGroup raw tree place place
group_stays raw (named_tree own elements) place = stay

-- the first of the members of a group is its name
pub name_of_members : (raw : RawTech) (tree : NamedTree) (place : Place) (name : List ℕ)
    → IsLeast IsNoLaterName (IsMemberOf raw tree place) name → IsGroupName raw tree place name
name_of_members raw (named_tree own elements) place name first = first

-- A first thing, and others.
pub record HasFirst {X : Type 0} (xs : List X) : Type 0 where
  pub first : X
  pub others : List X
  pub are : xs ≡ first ∷ others

-- a list that is not empty has a first thing
pub has_first : {X : Type 0} (xs : List X) → xs ≢ [] → HasFirst xs
has_first [] some = absurd (some refl)
has_first (x ∷ xs) some = record { first = x; others = xs; are = refl }

-- names in name order have the first at their head
pub head_is_first : (name : List ℕ) (others : List (List ℕ)) → AreInNameOrder (name ∷ others) → (other : List ℕ) → In other (name ∷ others)
    → IsNoLaterName name other
head_is_first name others order other (inl same) = inl same
head_is_first name others order other (inr later) = inr ((pairwise_names (name ∷ others) order).0 other later)

-- A group of members with this mark: the first of them is listed with this number, has the place, and gives the group's name.
pub record IsGroupAt (raw : RawTech) (tree : NamedTree) (names : List (List ℕ)) (marks : List ℕ) (mark : ℕ) (group : MemberGroup) : Type 0 where
  pub place : Place
  pub name : List ℕ
  pub others : List (List ℕ)
  pub members_are : group.members ≡ name ∷ others
  pub number : ℕ
  pub there : slice_get names number ≡ Some name
  pub marked : slice_index marks number ≡ mark
  pub has : IsMemberAt raw tree place name
  pub are : AreMembersOf raw tree place name group.members

module _ (raw : RawTech) (formed : IsWellFormed raw) (rules : KeepsRules raw) (within : Square → Bool) (tree : NamedTree) (others : List SetLayout)
    (stacks : List PlaneStack) (names : List (List ℕ)) (pairs : List (ℕ × ℕ)) (tiles : List RegionTile) (count : ℕ) (marks : List ℕ)
    (pieces : AreMarkedPieces raw within tree others stacks names pairs tiles count marks)
    (tell : MarksTellGroups raw tree stacks names tiles marks) where
  -- what has the mark of a listed member is a member of that one's group, and the other way round
  marked_member : (number : ℕ) (name : List ℕ) (place : Place) (mark : ℕ) → slice_get names number ≡ Some name → IsMemberAt raw tree place name
      → slice_index marks number ≡ mark → (other : List ℕ) → HasMark names marks mark other → IsMemberOf raw tree place other
  marked_member number name place mark there has marked other is =
      (tell.members number name place there has other).1 (is.number, is.there, is.marked ∙ sym marked)

  member_marked : (number : ℕ) (name : List ℕ) (place : Place) (mark : ℕ) → slice_get names number ≡ Some name → IsMemberAt raw tree place name
      → slice_index marks number ≡ mark → (other : List ℕ) → IsMemberOf raw tree place other → HasMark names marks mark other
  member_marked number name place mark there has marked other is =
      let found = (tell.members number name place there has other).0 is in
      record { number = found.0; there = found.1; marked = found.2 ∙ marked }

  -- the members of a mark are a group of the cell
  pub group_at : (sums : List MeetingSum) (mark : ℕ) (group : MemberGroup) → IsGroupOfMark names marks sums mark group
      → IsGroupAt raw tree names marks mark group
  group_at sums mark group of =
      let first = has_first group.members of.some in
      let name = first.first in
      let listed : In name group.members = subst (λ (list : List (List ℕ)). In name list) (sym first.are) (inl refl) in
      let marked = (of.members name).0 listed in
      let at = listed_has_place raw formed rules within tree others stacks names pairs tiles count marks pieces marked.number name marked.there in
      let there : (other : List ℕ) → In other group.members → IsMemberOf raw tree at.0 other =
      λ other here. marked_member marked.number name at.0 mark marked.there at.1 marked.marked other ((of.members other).0 here) in
      let back : (other : List ℕ) → IsMemberOf raw tree at.0 other → In other group.members =
      λ other is. (of.members other).1 (member_marked marked.number name at.0 mark marked.there at.1 marked.marked other is) in
      let order : AreInNameOrder (name ∷ first.others) = subst AreInNameOrder first.are of.in_order in
      record {
        place = at.0;
        name = name;
        others = first.others;
        members_are = first.are;
        number = marked.number;
        there = marked.there;
        marked = marked.marked;
        has = at.1;
        are = record {
          named = name_of_members raw tree at.0 name (
            (at.0, group_stays raw tree at.0, at.1),
            (λ other is.
                head_is_first name first.others order other
                (subst (λ (list : List (List ℕ)). In other list) first.are (back other is))),
          );
          in_order = of.in_order;
          are = λ other. (there other, back other);
        };
      }
