-- The records of a tree that is no deeper and has no more instances than may be can have too many nodes or too long names, and no other
-- fault.
use Rattle.tree_circuits.proofs.Common.{◌≡◌, ◌⊎◌, ◌≤◌, ℕ, Bool, true, false, cond, if◌then◌else◌, Option, None, length, inl, inr, refl, sym, ◌∙◌, ap}
use Rattle.tree_circuits.proofs.Common.{arith, eq-eqb, suc, option_or, first_some-none, FlatFault, LONGEST_CHAIN, elements_of}
use Rattle.std.proofs.Common.{nat_lt, Some}
use Rattle.std.proofs.lemmas.Bool.Decides.{nat_tests}
use Rattle.tree_circuits.proofs.ElementTree.Counting.{within_limit}
use Rattle.finite_sets.proofs.OneForOne.{AreOneForOne-source, AreOneForOne-length}
use Rattle.tree_names.specs.CircuitModel.declared.faults.FlatFault.TheVariants.{Classes, TooMany}
use Rattle.tree_names.specs.CircuitModel.declared.limits.CircuitLimit.TheVariants.{Depth, Elements, Merges, Names, Nodes}
use Rattle.tree_names.specs.CircuitModel.declared.limits.TheConstants.{MOST_FLAT_ELEMENTS, MOST_MERGES, MOST_NAME_BYTES, MOST_NODES}
use Rattle.tree_names.specs.CircuitModel.Refusals.{chain_length, class_fault, element_fault, first_fault, merge_count, name_bytes, node_count}
use Rattle.tree_circuits.specs.TreeRecords.NamedTrees.{named_standings}
use Rattle.tree_circuits.specs.TreeNames.TreeElements.{IsElementFor}
use Rattle.tree_circuits.proofs.TreeNames.TreeElements.{elements_for, record_is, top_record}
use Rattle.tree_circuits.specs.Laws.{TreeRecordsHaveNoOtherFault}
use Rattle.tree_circuits.proofs.MergeCounts.{merges_in, merges_within}
use Rattle.tree_circuits.proofs.MergePaths.{no_merges_fault}
use Rattle.tree_circuits.proofs.RecordCounts.{elements_count, nodes_in}
use Rattle.tree_circuits.proofs.WalkFaults.{chain_within, no_walk_fault}

-- a fault that comes of two tests alone
two_alone : (many long : Bool) (walk depth elements merges class path : Option FlatFault) (fault : FlatFault) → walk ≡ None → depth ≡ None
    → elements ≡ None → (many ≡ false → merges ≡ None) → class ≡ None → path ≡ None
    → option_or walk (option_or (option_or depth (option_or elements (option_or (cond many (Some (TooMany Nodes)) None)
    (option_or (cond long (Some (TooMany Names)) None) merges)))) (option_or class path)) ≡ Some fault
    → (fault ≡ TooMany Nodes) ⊎ (fault ≡ TooMany Names)
two_alone many long (Some other) depth elements merges class path fault walks deep all few classes paths is = absurd (cc)
two_alone many long None (Some other) elements merges class path fault walks deep all few classes paths is = absurd (cc)
two_alone many long None None (Some other) merges class path fault walks deep all few classes paths is = absurd (cc)
two_alone true long None None None merges class path fault walks deep all few classes paths is = inl (cc)
two_alone false true None None None merges class path fault walks deep all few classes paths is = inr (cc)
two_alone false false None None None (Some other) class path fault walks deep all few classes paths is = let none = few refl in absurd (cc)
two_alone false false None None None None (Some other) path fault walks deep all few classes paths is = absurd (cc)
two_alone false false None None None None None (Some other) fault walks deep all few classes paths is = absurd (cc)
two_alone false false None None None None None None fault walks deep all few classes paths is = absurd (cc)

-- a number that is not past its limit is within it
not_past : (most n : ℕ) → nat_lt most n ≡ false → n ≤ most
not_past most n test = grind (arith, nat_tests)

-- a tree's records have no fault but these two
pub tree_has_no_other_fault : TreeRecordsHaveNoOtherFault
tree_has_no_other_fault raw exts tree fault formed is has deep few faulty =
    let root = faulty.top in
    let elements = elements_of exts root in
    let are = elements_for raw exts tree root has faulty.found deep in
    let top = record_is raw exts tree root (top_record raw exts tree has) faulty.found in
    let bound = suc (length exts) in
    let chain = chain_within raw exts tree bound root has faulty.found in
    let count = AreOneForOne-length (IsElementFor raw exts) (named_standings tree) elements are in
    let classes : first_fault (class_fault root) elements ≡ None = first_some-none (class_fault root) elements (λ element here.
    let of = AreOneForOne-source (IsElementFor raw exts) (named_standings tree) elements are element here in
    let same : length element.ext.classes ≡ length root.classes = ap length (of.2.is.classes ∙ sym top.classes) in
    ap (λ (t : Bool). if t then None else Some (Classes element.ext.cell))
    (eq-eqb (length element.ext.classes) (length root.classes) same)) in
    let paths : first_fault (element_fault exts) elements ≡ None = first_some-none (element_fault exts) elements (λ element here.
    let of = AreOneForOne-source (IsElementFor raw exts) (named_standings tree) elements are element here in
    no_merges_fault raw formed exts tree has is of.0 element.ext of.1 of.2.found) in
    let within = merges_within raw formed exts tree has is LONGEST_CHAIN deep in
    let merges = elements_count raw merges_in exts tree elements are in
    let nodes = elements_count raw nodes_in exts tree elements are in
    two_alone (nat_lt MOST_NODES (node_count elements)) (nat_lt MOST_NAME_BYTES (name_bytes elements)) _ _ _ _ _ _ fault
    (no_walk_fault raw exts tree root has faulty.found)
    (within_limit LONGEST_CHAIN (chain_length bound exts root) Depth (omega (arith, chain, deep)))
    (within_limit MOST_FLAT_ELEMENTS (length elements) Elements (omega (arith, count, few)))
    (λ fits. within_limit MOST_MERGES (merge_count elements) Merges
    (let nodes_few = not_past MOST_NODES (node_count elements) fits in omega (arith, nodes_few, within, merges, nodes)))
    classes paths faulty.faulty
