-- The sums over the records of a tree close.
use Rattle.tree_circuits.proofs.Common.{◌≡◌, ℕ, ℤ, Bool, List, subst, sym, Distinct, Total-unique, RawTech, KeepsRules, IsWellFormed, CellExt}
use Rattle.tree_circuits.proofs.Common.{flat_layout, IsGroupName, NamedTree, NamedElements, named_tree, no_more, element_then, IsGroupTotal}
use Rattle.tree_circuits.proofs.Common.{HasTreeRecords, ids_in, IsCleanTree, AreCleanTrees, clean_below, clean_first, clean_rest, RecordedQuantity}
use Rattle.tree_circuits.proofs.Common.{recorded_cap, recorded_area, recorded_perimeter, AreGroupTotals, sum_passing}
use Rattle.tree_names.specs.TreeRecords.TreeRecords.{HaveTreeRecords}
use Rattle.tree_circuits.specs.SumLaws.{HoldsOfEach, HasClosedSums}
use Rattle.tree_circuits.proofs.BelowSums.{Closed, ClosedBelow, none_below, element_below}
use Rattle.tree_circuits.proofs.CellSums.{cell_closes}
use Rattle.tree_circuits.proofs.RecordedQuantities.{IsRecordedQuantity, cap_is_recorded, area_is_recorded, perimeter_is_recorded}
use Rattle.tree_circuits.proofs.NamedSums.{sum_passing-same}

module _ (raw : RawTech) (well : IsWellFormed raw) (rules : KeepsRules raw) (quantity : RecordedQuantity) (quantities : IsRecordedQuantity raw quantity)
    (exts : List CellExt) where
  mutual
    -- the sums of a cell close
    tree_closes : (tree : NamedTree) → IsCleanTree raw tree → HasTreeRecords raw exts tree → Closed raw quantity exts tree
    tree_closes (named_tree own elements) is has =
        cell_closes raw well rules quantity quantities exts own elements is has.0
        (elements_close elements (clean_below raw own elements is) is.names.0 has.1)

    -- and those of the cells of its elements
    elements_close : (elements : NamedElements) → AreCleanTrees raw elements → Distinct (ids_in elements) → HaveTreeRecords raw exts elements
        → ClosedBelow raw quantity exts elements
    elements_close no_more are differ have = none_below raw quantity exts
    elements_close (element_then id placed tree rest) are differ have =
        element_below raw quantity exts id placed tree rest are.names.0 differ.0 are.names.2
        (tree_closes tree (clean_first raw id placed tree rest are) have.0)
        (elements_close rest (clean_rest raw id placed tree rest are) differ.1 have.1)

  -- the sums of a clean cell
  pub clean_tree_closes : (tree : NamedTree) → IsCleanTree raw tree → HasTreeRecords raw exts tree → HasClosedSums raw exts tree quantity
  clean_tree_closes tree is has =
      let closed = tree_closes tree is has in
      record { groups = closed.groups; are = closed.are; closes = closed.closes }

-- what holds of each quantity of records holds of capacitances, areas and perimeters
pub of_each : (raw : RawTech) (Fact : RecordedQuantity → Type 0) → ((quantity : RecordedQuantity) → IsRecordedQuantity raw quantity → Fact quantity)
    → HoldsOfEach raw Fact
of_each raw Fact each = record {
  cap = each (recorded_cap raw) (cap_is_recorded raw);
  areas = λ position class there. each (recorded_area position class) (area_is_recorded raw position class there);
  perimeters = λ position class there. each (recorded_perimeter position class) (perimeter_is_recorded raw position class there);
}

-- the groups of a cell have one total each
pub one_total_each : (raw : RawTech) (tree : NamedTree) (quantity : RecordedQuantity) (groups others : List (List ℕ × ℤ))
    → AreGroupTotals raw quantity.weight tree groups → AreGroupTotals raw quantity.weight tree others → (passes : List ℕ → Bool)
    → sum_passing passes groups ≡ sum_passing passes others
one_total_each raw tree quantity groups others are also passes =
    sum_passing-same passes groups others are.named.0 also.named.0
    (λ name here. also.named.1 name (are.named.2 name here))
    (λ name here. are.named.1 name (also.named.2 name here))
    (λ one other here there same.
    let P : List ℕ → Type 0 = λ name. IsGroupTotal raw quantity.weight tree name other.1 in
    Total-unique (λ place. IsGroupName raw tree place one.0) (quantity.weight (flat_layout raw tree)) one.1 other.1
    (are.totals one here) (subst P (sym same) (also.totals other there)))
