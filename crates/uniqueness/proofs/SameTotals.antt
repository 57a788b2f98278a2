-- A member has one total, and a group adds one number to its members.
use Rattle.uniqueness.proofs.Common.{◌≡◌, ℕ, ℤ, List, [], ◌∷◌, inl, inr, refl, sym, ◌∙◌, subst, Distinct, RawTech, IsWellFormed, IsCleanTree, Class}
use Rattle.uniqueness.proofs.Common.{NamedTree, named_tree, element_then, no_more}
use Rattle.std.proofs.Common.{◌-ℤ◌}
use Rattle.finite_sets.specs.Total.{sum_on}
use Rattle.finite_sets.proofs.Totals.{Total-unique}
use Rattle.tree_circuits.specs.TreeNames.CleanTrees.{HaveElementNames, ids_in}
use Rattle.tree_circuits.specs.TreeNames.TreeRecords.FlatLayouts.{flat_layout}
use Rattle.tree_circuits.specs.TreeNames.TreeRecords.MemberGroups.{IsGroupName}
use Rattle.tree_circuits.specs.TreeNames.TreeRecords.NamedTrees.{NamedElements, named_elements_in}
use Rattle.tree_circuits.specs.TreeNames.TreeRecords.FetRecords.{IsOfNode}
use Rattle.tree_circuits.specs.TreeRecords.Merges.{AreAdjustments}
use Rattle.tree_circuits.specs.TreeRecords.PlaceWeights.{AreMemberTotals, IsAdjustment, IsGroupTotal, IsMemberTotal, IsOwnTotal, IsTotalBelow}
use Rattle.tree_circuits.specs.TreeRecords.PlaceWeights.{PlaceWeight, area_weight, perimeter_weight}
use Rattle.tree_circuits.proofs.BelowSums.{total_has_place}
use Rattle.tree_circuits.proofs.TreeNames.GroupNames.{member_begins}
use Rattle.tree_circuits.proofs.TreeNames.OwnNames.{goes_by_own, own_name_whole}
use Rattle.tree_circuits.proofs.TreeNames.Paths.{BeginsIn, begins_once, begins_with_slash, one_split}

module _ (raw : RawTech) (weight : PlaceWeight) where
  -- what has a total below begins with the name of its element
  total_begins : (elements : NamedElements) (member : List ℕ) (total : ℤ) → IsTotalBelow raw weight elements member total
      → BeginsIn (ids_in elements) member
  total_begins elements member total is =
      let found = total_has_place raw weight elements member total is in
      member_begins raw elements found.0 member found.1

  -- a group of an element's cell has one total
  same_total_below : (elements : NamedElements) → HaveElementNames elements → Distinct (ids_in elements) → (member : List ℕ) (total other : ℤ)
      → IsTotalBelow raw weight elements member total → IsTotalBelow raw weight elements member other → total ≡ other
  same_total_below no_more names differ member total other none there = absurd none
  same_total_below (element_then id placed tree rest) names differ member total other (inl here) (inl there) =
      let same = (one_split id id there.0 here.0 names.0 names.0 (sym there.3 ∙ here.3)).1 in
      Total-unique (λ place. IsGroupName raw tree place here.0) (weight (flat_layout raw tree)) total other here.4
      (subst (λ (name : List ℕ). IsGroupTotal raw weight tree name other) same there.4)
  same_total_below (element_then id placed tree rest) names differ member total other (inl here) (inr there) =
      absurd (begins_once id member here.0 rest names.0 names.2 differ.0 here.3 (total_begins rest member other there))
  same_total_below (element_then id placed tree rest) names differ member total other (inr here) (inl there) =
      absurd (begins_once id member there.0 rest names.0 names.2 differ.0 there.3 (total_begins rest member total here))
  same_total_below (element_then id placed tree rest) names differ member total other (inr here) (inr there) =
      same_total_below rest names.2 differ.1 member total other here there

  module _ (well : IsWellFormed raw) where
    -- a node of the own layout is no group of an element's cell
    own_apart : (tree : NamedTree) → IsCleanTree raw tree → (member : List ℕ) (total other : ℤ) → IsOwnTotal raw weight tree member total
        → IsTotalBelow raw weight (named_elements_in tree) member other → ⊥
    own_apart (named_tree own elements) clean member total other here there =
        begins_with_slash (ids_in elements) member
        (own_name_whole raw well own clean.typed.0 here.place member (goes_by_own raw own here.place member here.of_node))
        (total_begins elements member other there)

    -- a member has one total
    same_total : (tree : NamedTree) → IsCleanTree raw tree → (member : List ℕ) (total other : ℤ) → IsMemberTotal raw weight tree member total
        → IsMemberTotal raw weight tree member other → total ≡ other
    same_total (named_tree own elements) clean member total other (inl here) (inl there) =
        Total-unique (IsOfNode raw own.layout own.labels member) (weight own.layout) total other here.sum there.sum
    same_total (named_tree own elements) clean member total other (inl here) (inr there) =
        absurd (own_apart (named_tree own elements) clean member total other here there)
    same_total (named_tree own elements) clean member total other (inr here) (inl there) =
        absurd (own_apart (named_tree own elements) clean member other total there here)
    same_total (named_tree own elements) clean member total other (inr here) (inr there) =
        same_total_below elements clean.names.1 clean.names.0 member total other here there

    -- and so members have one list of totals
    same_totals : (tree : NamedTree) → IsCleanTree raw tree → (members : List (List ℕ)) (totals others : List ℤ)
        → AreMemberTotals raw weight tree members totals → AreMemberTotals raw weight tree members others → totals ≡ others
    same_totals tree clean [] [] [] p q = refl
    same_totals tree clean [] [] (other ∷ others) p q = absurd q
    same_totals tree clean [] (total ∷ totals) others p q = absurd p
    same_totals tree clean (member ∷ members) [] others p q = absurd p
    same_totals tree clean (member ∷ members) (total ∷ totals) [] p q = absurd q
    same_totals tree clean (member ∷ members) (total ∷ totals) (other ∷ others) p q =
        let first = same_total tree clean member total other p.0 q.0 in
        let rest = same_totals tree clean members totals others p.1 q.1 in
        (λ i. first i ∷ rest i)

    -- a group adds one number to its members
    pub same_adjustment : (tree : NamedTree) → IsCleanTree raw tree → (name : List ℕ) (members : List (List ℕ)) (one other : ℤ)
        → IsAdjustment raw weight tree name members one → IsAdjustment raw weight tree name members other → one ≡ other
    same_adjustment tree clean name members one other p q =
        let whole = Total-unique (λ place. IsGroupName raw tree place name) (weight (flat_layout raw tree)) p.whole q.whole p.is_whole q.is_whole in
        let parts = same_totals tree clean members p.parts q.parts p.are_parts q.are_parts in
        p.is ∙ (λ i. whole i -ℤ sum_on (λ part. part) (parts i)) ∙ sym q.is

-- and one pair of numbers in each class
pub same_adjustments : (raw : RawTech) → IsWellFormed raw → (classes : List Class) (tree : NamedTree) → IsCleanTree raw tree → (name : List ℕ)
    (members : List (List ℕ)) (ones others : List (ℤ × ℤ)) → AreAdjustments raw classes tree name members ones
    → AreAdjustments raw classes tree name members others → ones ≡ others
same_adjustments raw well [] tree clean name members [] [] p q = refl
same_adjustments raw well [] tree clean name members [] (other ∷ others) p q = absurd q
same_adjustments raw well [] tree clean name members (one ∷ ones) others p q = absurd p
same_adjustments raw well (class ∷ classes) tree clean name members [] others p q = absurd p
same_adjustments raw well (class ∷ classes) tree clean name members (one ∷ ones) [] p q = absurd q
same_adjustments raw well (class ∷ classes) tree clean name members (one ∷ ones) (other ∷ others) p q =
    let area = same_adjustment raw (area_weight class) well tree clean name members one.0 other.0 p.0 q.0 in
    let perimeter = same_adjustment raw (perimeter_weight class) well tree clean name members one.1 other.1 p.1 q.1 in
    let rest = same_adjustments raw well classes tree clean name members ones others p.2 q.2 in
    (λ i. (area i, perimeter i) ∷ rest i)
