-- Groups of a cell with one name are one.
use Rattle.uniqueness.proofs.Common.{◌≡◌, ℕ, List, sym, subst, In, RawTech, IsWellFormed, IsCleanTree, rules_of, NamedTree}
use Rattle.tree_circuits.specs.TreeNames.TreeRecords.LayoutModel.Places.{Place}
use Rattle.tree_circuits.specs.TreeNames.TreeRecords.MemberGroups.{AreOneGroup, IsGroupName, IsMemberOf}
use Rattle.tree_circuits.specs.TreeRecords.Merges.{AreAdjustments, IsMemberGroup, MemberGroup}
use Rattle.tree_circuits.specs.TreeRecords.PlaceWeights.{IsAdjustment, capacitance_weight}
use Rattle.tree_circuits.proofs.FullNames.ListOrders.{same_in_order}
use Rattle.tree_circuits.proofs.TreeNames.GroupNames.{group_then, one_group}
use Rattle.tree_circuits.proofs.TreeNames.GroupNodes.{group_back}
use Rattle.uniqueness.proofs.SameTotals.{same_adjustment, same_adjustments}

module _ (raw : RawTech) (well : IsWellFormed raw) (tree : NamedTree) (clean : IsCleanTree raw tree) where
  module _ (group other : MemberGroup) (p : IsMemberGroup raw tree group) (q : IsMemberGroup raw tree other) (names : p.name ≡ q.name) where
    -- both are of one place
    together : AreOneGroup raw tree p.place q.place
    together = one_group raw well tree clean p.place q.place p.name p.named (subst (IsGroupName raw tree q.place) (sym names) q.named)

    -- and so they have the same members
    same_members : group.members ≡ other.members
    same_members = same_in_order group.members other.members p.in_order q.in_order there back
      where
        there : (member : List ℕ) → In member group.members → In member other.members
        there member here =
            let of : IsMemberOf raw tree p.place member = (p.members member).0 here in
            (q.members member).1 (of.0, group_then raw tree q.place p.place of.0 (group_back raw tree p.place q.place together) of.1, of.2)

        back : (member : List ℕ) → In member other.members → In member group.members
        back member here =
            let of : IsMemberOf raw tree q.place member = (q.members member).0 here in
            (p.members member).1 (of.0, group_then raw tree p.place q.place of.0 together of.1, of.2)

    -- and add the same to them
    same_group_adjustment : group.adjustment ≡ other.adjustment
    same_group_adjustment =
        let classes = (rules_of raw).classes in
        let charge = capacitance_weight classes in
        let cap = same_adjustment raw charge well tree clean q.name other.members group.adjustment.cap other.adjustment.cap
        (subst (λ (name : List ℕ). IsAdjustment raw charge tree name other.members group.adjustment.cap) names
        (subst (λ (members : List (List ℕ)). IsAdjustment raw charge tree p.name members group.adjustment.cap) same_members p.cap)) q.cap in
        let measures = same_adjustments raw well classes tree clean q.name other.members group.adjustment.measures other.adjustment.measures
        (subst (λ (name : List ℕ). AreAdjustments raw classes tree name other.members group.adjustment.measures) names
        (subst (λ (members : List (List ℕ)). AreAdjustments raw classes tree p.name members group.adjustment.measures) same_members p.measures))
        q.measures in
        (λ i. record { cap = cap i; measures = measures i })

    pub same_group : group ≡ other
    same_group = λ i. record { members = same_members i; adjustment = same_group_adjustment i }
