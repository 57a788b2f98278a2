-- What a member has of a quantity is its total over the places of the member in its part.
use Rattle.group_meetings.proofs.Common.{◌≡◌, ℕ, zero, suc, ℤ, List, [], ◌∷◌, inl, inr, refl, sym, ap, subst, ◌∙◌, Distinct, Total, Transform}
use Rattle.group_meetings.proofs.Common.{RawTech, KeepsRules, IsWellFormed, path_text, Layout, Place, place_back, sets_in, IsGroupName, PlaceWeight}
use Rattle.group_meetings.proofs.Common.{IsCleanTree, tree_parts, IsMemberOfElement, IsMemberOfPart}
use Rattle.std.proofs.Common.{get_or}
use Rattle.finite_sets.proofs.Totals.{Total-iff, Total-same, Total-map, Total-image}
use Rattle.tree_names.specs.ExtModel.NodeNames.{slashes_in}
use Rattle.group_meetings.specs.Offences.Offences.{SetLayout}
use Rattle.group_meetings.specs.TreeRecords.FetRecords.{IsOfNode}
use Rattle.group_meetings.specs.TreeRecords.NamedTrees.{NamedTree, NamedElements, place_forth}
use Rattle.group_meetings.specs.TreeRecords.NamedTrees.NamedTree.{named_tree}
use Rattle.group_meetings.specs.TreeRecords.NamedTrees.NamedElements.{no_more, element_then}
use Rattle.group_meetings.specs.TreeRecords.FlatLayouts.{flat_layout}
use Rattle.group_meetings.proofs.TreeRecords.MoveLaws.{back_from_above, above_from_back}
use Rattle.group_meetings.specs.TreeRecords.PlaceWeights.{IsGroupTotal, IsTotalBelow, IsMemberTotal}
use Rattle.group_meetings.specs.TreeNames.CleanTrees.{HaveElementNames, ids_in}
use Rattle.group_meetings.proofs.TreeNames.OwnNames.{goes_by_own, own_name_whole}
use Rattle.group_meetings.proofs.TreeNames.Paths.{BeginsIn, begins_later, begins_once, begins_with_slash, one_split}
use Rattle.group_meetings.specs.MeetingLaws.PartLayouts.{part_layout}
use Rattle.group_meetings.proofs.PartMembers.{element_part, own_part, parts_below}
use Rattle.group_meetings.proofs.LocalQuantities.{IsLocal}

-- the part at a position, and an empty one past the end
abbrev pub part_at : List SetLayout → ℕ → SetLayout
part_at parts position = get_or parts position (λ place. 0)

-- what a place of the part at a position counts
abbrev pub counted : RawTech → PlaceWeight → List SetLayout → ℕ × Place → ℤ
counted raw quantity parts at = quantity (part_layout raw (part_at parts at.0)) at.1

-- ---- names tell parts

-- a member of an element begins with the element's name
begins_in_element : (raw : RawTech) (elements : NamedElements) (position : ℕ) (place : Place) (member : List ℕ)
    → IsMemberOfElement raw elements position place member → BeginsIn (ids_in elements) member
begins_in_element raw no_more position place member none = absurd none
begins_in_element raw (element_then id placed tree rest) zero place member is = record { id = id; listed = inl refl; rest = is.0; is = is.2 }
begins_in_element raw (element_then id placed tree rest) (suc position) place member is =
    begins_later id (ids_in rest) member (begins_in_element raw rest position place member is)

-- members below that go by one name are of one element
one_element : (raw : RawTech) (elements : NamedElements) → HaveElementNames elements → Distinct (ids_in elements) → (j k : ℕ) (a b : Place)
    (member : List ℕ) → IsMemberOfElement raw elements j a member → IsMemberOfElement raw elements k b member → j ≡ k
one_element raw no_more names distinct j k a b member none there = absurd none
one_element raw (element_then id placed tree rest) names distinct zero zero a b member here there = refl
one_element raw (element_then id placed tree rest) names distinct zero (suc k) a b member here there =
    absurd (begins_once id member here.0 rest names.0 names.2 distinct.0 here.2 (begins_in_element raw rest k b member there))
one_element raw (element_then id placed tree rest) names distinct (suc j) zero a b member here there =
    absurd (begins_once id member there.0 rest names.0 names.2 distinct.0 there.2 (begins_in_element raw rest j a member here))
one_element raw (element_then id placed tree rest) names distinct (suc j) (suc k) a b member here there =
    ap suc (one_element raw rest names.2 distinct.1 j k a b member here there)

-- members that go by one name are of one part
pub one_part_of_name : (raw : RawTech) → IsWellFormed raw → (tree : NamedTree) → IsCleanTree raw tree → (j k : ℕ) (a b : Place) (member : List ℕ)
    → IsMemberOfPart raw tree j a member → IsMemberOfPart raw tree k b member → j ≡ k
one_part_of_name raw formed (named_tree own elements) is zero zero a b member here there = refl
one_part_of_name raw formed (named_tree own elements) is zero (suc k) a b member here there =
    absurd (begins_with_slash (ids_in elements) member
    (own_name_whole raw formed own is.typed.0 a member (goes_by_own raw own a member here)) (begins_in_element raw elements k b member there))
one_part_of_name raw formed (named_tree own elements) is (suc j) zero a b member here there =
    absurd (begins_with_slash (ids_in elements) member
    (own_name_whole raw formed own is.typed.0 b member (goes_by_own raw own b member there)) (begins_in_element raw elements j a member here))
one_part_of_name raw formed (named_tree own elements) is (suc j) (suc k) a b member here there =
    ap suc (one_element raw elements is.names.1 is.names.0 j k a b member here there)

-- ---- totals of members

-- The member has this total over its places in the part at this position.
pub record HasTotalInPart (raw : RawTech) (quantity : PlaceWeight) (tree : NamedTree) (member : List ℕ) (total : ℤ) : Type 0 where
  pub position : ℕ
  pub place : Place
  pub has : IsMemberOfPart raw tree position place member
  pub sum : Total (λ p. IsMemberOfPart raw tree position p member) (quantity (part_layout raw (part_at (tree_parts raw tree) position))) total

-- The same of a member below, in the element at a position.
record HasTotalInElement (raw : RawTech) (quantity : PlaceWeight) (elements : NamedElements) (member : List ℕ) (total : ℤ) : Type 0 where
  position : ℕ
  place : Place
  has : IsMemberOfElement raw elements position place member
  sum : Total (λ p. IsMemberOfElement raw elements position p member) (quantity (part_layout raw (part_at (parts_below raw elements) position))) total

module _ (raw : RawTech) (quantity : PlaceWeight) (local : IsLocal quantity) where
  -- a group of an element's cell has its total over the places that they go to
  group_above : (id : List ℕ) (placed : Transform) (tree : NamedTree) (group member : List ℕ) (total : ℤ) → slashes_in id ≡ 0
      → member ≡ path_text (id ∷ []) group → IsGroupTotal raw quantity tree group total
      → Total (λ p. (name : List ℕ) × IsGroupName raw tree (place_back placed p) name × (member ≡ path_text (id ∷ []) name))
      (quantity (part_layout raw (element_part raw placed tree))) total
  group_above id placed tree group member total whole is sum =
      let above : Layout = part_layout raw (element_part raw placed tree) in
      Total-iff (λ p. IsGroupName raw tree (place_back placed p) group)
      (λ p. (name : List ℕ) × IsGroupName raw tree (place_back placed p) name × (member ≡ path_text (id ∷ []) name))
      (quantity above) total
      (λ p named. (group, named, is))
      (λ p named. subst (λ (name : List ℕ). IsGroupName raw tree (place_back placed p) name)
      (one_split id id named.0 group whole whole (sym named.2 ∙ is)).1 named.1)
      (Total-image (λ p. IsGroupName raw tree p group) (place_forth placed) (place_back placed) (quantity above) total (back_from_above placed)
      (above_from_back placed)
      (Total-same (λ p. IsGroupName raw tree p group) (quantity (flat_layout raw tree)) (λ p. quantity above (place_forth placed p)) total
      (λ p named. sym (local.moved placed (flat_layout raw tree) p)) sum))

  in_element : (elements : NamedElements) → HaveElementNames elements → (member : List ℕ) (total : ℤ) → IsTotalBelow raw quantity elements member total
      → HasTotalInElement raw quantity elements member total
  in_element no_more names member total none = absurd none
  in_element (element_then id placed tree rest) names member total (inl here) =
      let group = here.0 in
      let place = here.1 in
      record {
        position = zero;
        place = place_forth placed place;
        has = (group, subst (λ (p : Place). IsGroupName raw tree p group) (sym (back_from_above placed place)) here.2, here.3);
        sum = group_above id placed tree group member total names.0 here.3 here.4;
      }
  in_element (element_then id placed tree rest) names member total (inr below) =
      let found = in_element rest names.2 member total below in
      record { position = suc found.position; place = found.place; has = found.has; sum = found.sum }

  -- what a member has is its total over its places in its part
  pub member_in_part : IsWellFormed raw → KeepsRules raw → (tree : NamedTree) → IsCleanTree raw tree → (member : List ℕ) (total : ℤ)
      → IsMemberTotal raw quantity tree member total → HasTotalInPart raw quantity tree member total
  member_in_part formed rules (named_tree own elements) is member total (inl own_total) = record {
    position = zero;
    place = own_total.place;
    has = own_total.of_node;
    sum = Total-same (IsOfNode raw own.layout own.labels member) (quantity own.layout) (quantity (part_layout raw (sets_in raw own.layout))) total
        (λ p of_node. local.same own.layout (part_layout raw (sets_in raw own.layout)) p
        (λ q. sym (own_part raw formed rules own.layout is.typed.0 q))) own_total.sum;
  }
  member_in_part formed rules (named_tree own elements) is member total (inr below) =
      let found = in_element elements is.names.1 member total below in
      record { position = suc found.position; place = found.place; has = found.has; sum = found.sum }

  -- and so it is one over the pairs of a position and a place at which it stands
  pub member_by_pairs : IsWellFormed raw → KeepsRules raw → (tree : NamedTree) → IsCleanTree raw tree → (member : List ℕ) (total : ℤ)
      → IsMemberTotal raw quantity tree member total
      → Total {X = ℕ × Place} (λ at. IsMemberOfPart raw tree at.0 at.1 member) (counted raw quantity (tree_parts raw tree)) total
  member_by_pairs formed rules tree is member total has =
      let found = member_in_part formed rules tree is member total has in
      let pair : Place → ℕ × Place = λ p. (found.position, p) in
      Total-iff {X = ℕ × Place} (λ at. (p : Place) × (IsMemberOfPart raw tree found.position p member × (pair p ≡ at)))
      (λ at. IsMemberOfPart raw tree at.0 at.1 member) (counted raw quantity (tree_parts raw tree)) total
      (λ at stands. subst (λ (other : ℕ × Place). IsMemberOfPart raw tree other.0 other.1 member) stands.1.1 stands.1.0)
      (λ at stands.
      let same = one_part_of_name raw formed tree is at.0 found.position at.1 found.place member stands found.has in (
        at.1,
        (subst (λ (k : ℕ). IsMemberOfPart raw tree k at.1 member) same stands, λ i. (sym same i, at.1)),
      ))
      (Total-map (λ p. IsMemberOfPart raw tree found.position p member) pair (counted raw quantity (tree_parts raw tree)) total
      (λ a b here there same. ap (λ (at : ℕ × Place). at.1) same) found.sum)
