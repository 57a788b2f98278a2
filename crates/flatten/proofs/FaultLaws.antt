-- What trees without a fault keep to.
use Rattle.flatten.proofs.Common.{◌≡◌, ℕ, ◌≤◌, get_or, arith, Bool, cond, eqb, List, [], length, inl, inr, refl, sym, ◌∙◌, ap, Option, Some, None}
use Rattle.flatten.proofs.Common.{slice_get, IsSome, option_or, cases_Bool, cases_lt, eqb-true, slice_get-get_or, CellExt, FetRec, FlatFault}
use Rattle.flatten.proofs.Common.{Element, ext_of, elements_of, FullNames, AreNames, elements_in, past, class_fault, node_count, merge_count}
use Rattle.flatten.proofs.Common.{depth_of, flat_fault, IsFlatFaultOf, IsFlatOf, LONGEST_CHAIN, MOST_FLAT_ELEMENTS, MOST_NODES, MOST_MERGES}
use Rattle.flatten.proofs.Common.{name_fault, node_fault, merge_fault, IsGiven, GivenCircuit}
use Rattle.std.specs.Prelude.{Result, Ok, Err, IfOk}
use Rattle.std.proofs.lemmas.Bool.{lt-ltb}
use Rattle.finite_sets.proofs.Searches.{option_or-none}
use Rattle.circuit_model.specs.declared.faults.FlatFault.TheVariants.{TooMany, Classes}
use Rattle.circuit_model.specs.declared.limits.CircuitLimit.{CircuitLimit}
use Rattle.circuit_model.specs.declared.limits.CircuitLimit.TheVariants.{Depth, Elements, Nodes, Merges}
use Rattle.circuit_model.specs.Refusals.{walk_fault, count_fault}
use Rattle.element_tree.specs.Trees.{tree_fault}
use Rattle.flatten.specs.steps.Stages.{use_fault, number_fault, late_fault, HasNoUseFault, HasNoCountFault, HasNoLateFault}
use Rattle.flatten.specs.steps.Stages.{IsLateFaultOf, IsMeantAt}

-- a number that is not past its limit
not_past : (most : ℕ) (limit : CircuitLimit) (number : ℕ) → past most limit number ≡ None → number ≤ most
not_past most limit number none = elim (cases_lt most number) [
  | inr within ↦ within
  | inl more ↦
      (let over : Some (TooMany limit) ≡ None = ap (λ (t : Bool). cond t (Some (TooMany limit)) None) (sym (lt-ltb most number more)) ∙ none in
      absurd (cc))
]

-- as many classes as the root's
pub alike_classes : (top : CellExt) (element : Element) → class_fault top element ≡ None → length element.ext.classes ≡ length top.classes
alike_classes top element none = elim (cases_Bool (eqb (length element.ext.classes) (length top.classes))) [
  | inl same ↦ eqb-true (length element.ext.classes) (length top.classes) same
  | inr differ ↦
      (let fault : Some (Classes element.ext.cell) ≡ None = ap (λ (t : Bool). cond t None (Some (Classes element.ext.cell))) (sym differ) ∙ none in
      absurd (cc))
]

-- the elements of names are those of the tree at their root
pub elements_at_root : (names : FullNames) (exts : List CellExt) → exts ≡ names.exts.now → (root : ℕ) → root ≡ names.root → (top : CellExt)
    → slice_get exts root ≡ Some top → elements_in names ≡ elements_of exts top
elements_at_root names exts all root at top is =
    let found : slice_get names.exts.now names.root ≡ Some top = ap (slice_get names.exts.now) (sym at)
    ∙ ap (λ (l : List CellExt). slice_get l root) (sym all) ∙ is in
    ap (λ (o : Option CellExt). elim o [ None ↦ [] | Some one ↦ elements_of names.exts.now one ]) found
    ∙ ap (λ (l : List CellExt). elements_of l top) (sym all)

-- so they are where a record stands there
pub root_here : {names : FullNames} → AreNames names → {exts : List CellExt} → exts ≡ names.exts.now → {root : ℕ} → root ≡ names.root → (d : CellExt)
    → (slice_get exts root ≡ Some (get_or exts root d)) × (elements_in names ≡ elements_of exts (get_or exts root d))
root_here {names} are {exts} all {root} at d =
    let is = slice_get-get_or exts root d (omega (arith, are.root, at, ap length all)) in
    (is, elements_at_root names exts all root at (get_or exts root d) is)

-- a tree with no number past its limit has few enough nodes
pub few_nodes : (exts : List CellExt) (top : CellExt) → number_fault exts top ≡ None → node_count (elements_of exts top) ≤ MOST_NODES
few_nodes exts top none =
    not_past MOST_NODES Nodes (node_count (elements_of exts top))
    (option_or-none (node_fault exts top) (option_or (name_fault exts top) (merge_fault exts top)) none).0

-- and merges
pub few_merges : (exts : List CellExt) (top : CellExt) → number_fault exts top ≡ None → merge_count (elements_of exts top) ≤ MOST_MERGES
few_merges exts top none =
    let later = (option_or-none (node_fault exts top) (option_or (name_fault exts top) (merge_fault exts top)) none).1 in
    not_past MOST_MERGES Merges (merge_count (elements_of exts top)) (option_or-none (name_fault exts top) (merge_fault exts top) later).1

-- ---- the fault of a late stage is that of the tree

count_none : (exts : List CellExt) (top : CellExt) → use_fault exts top ≡ None → number_fault exts top ≡ None → count_fault exts top ≡ None
count_none exts top used numbered =
    let elements = elements_of exts top in
    let tree = (option_or-none (walk_fault exts top) (tree_fault exts top) used).1 in
    let two = option_or-none (past LONGEST_CHAIN Depth (depth_of exts top)) (past MOST_FLAT_ELEMENTS Elements (length elements)) tree in
    let numbers = option_or (node_fault exts top) (option_or (name_fault exts top) (merge_fault exts top)) in
    ap (λ (f : Option FlatFault). option_or f (option_or (past MOST_FLAT_ELEMENTS Elements (length elements)) numbers)) two.0
    ∙ ap (λ (f : Option FlatFault). option_or f numbers) two.1 ∙ numbered

late_is : (exts : List CellExt) (top : CellExt) (found : Option FlatFault) → use_fault exts top ≡ None → number_fault exts top ≡ None
    → late_fault exts top ≡ found → flat_fault exts top ≡ found
late_is exts top found used numbered late =
    ap (λ (f : Option FlatFault). option_or f (option_or (count_fault exts top) (late_fault exts top)))
    (option_or-none (walk_fault exts top) (tree_fault exts top) used).0
    ∙ ap (λ (f : Option FlatFault). option_or f (late_fault exts top)) (count_none exts top used numbered) ∙ late

-- the tree whose root has this number has the fault
pub late_fault_at : (exts : List CellExt) (root : List ℕ) (number : ℕ) (top : CellExt) (fault : FlatFault) → slice_get exts number ≡ Some top
    → ext_of exts root ≡ Some top → HasNoUseFault exts number → HasNoCountFault exts number → IsLateFaultOf exts number fault → IsFlatFaultOf exts root fault
late_fault_at exts root number top fault at found used numbered late = record {
  top = top;
  found = found;
  faulty = late_is exts top (Some fault) (used top at) (numbered top at) (late top at);
}

-- the circuit that is given is that of the tree, where it has no fault
pub flat_given : {S : Type 0} (has : S → List ℕ → List FetRec → Type 0) (exts : List CellExt) (root : List ℕ) (number : ℕ) (top : CellExt)
    → slice_get exts number ≡ Some top → ext_of exts root ≡ Some top → HasNoUseFault exts number → HasNoCountFault exts number
    → (result : Result (GivenCircuit S) FlatFault) → IfOk result (λ _. HasNoLateFault exts number)
    → IfOk result (IsGiven has (IsMeantAt exts number)) → IfOk result (IsGiven has (IsFlatOf exts root))
flat_given has exts root number top at found used numbered (Ok given) sound meant = (
  meant.0,
  (
    meant.1.0,
    record {
      top = top;
      found = found;
      sound = late_is exts top None (used top at) (numbered top at) (sound top at);
      meaning = meant.1.1 top at;
    },
  ),
)
flat_given has exts root number top at found used numbered (Err fault) sound meant = tt

-- what is there is something
pub something : {X : Type 0} (found : Option X) → IsSome found → (x : X) × (found ≡ Some x)
something None there = cc
something (Some x) there = (x, refl)
