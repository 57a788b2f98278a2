-- The faults and the meaning of records with arrays are those of the records that are made of them.
use Rattle.flatten.proofs.Common.{◌≡◌, ℕ, true, false, List, length, refl, sym, ◌∙◌, ap, subst, ◌⊎◌, inl, inr, Option, Some, None, slice_get, IsSome}
use Rattle.flatten.proofs.Common.{option_or, option_map, same_Some, CellExt, FlatFault, LONGEST_CHAIN, MOST_FLAT_ELEMENTS, MOST_NODES, AreRecords}
use Rattle.flatten.proofs.Common.{ext_of, elements_of, depth_of, past, flat_fault, IsFlatOf, IsFlatFaultOf, name_fault, node_fault, merge_fault}
use Rattle.ext_model.specs.declared.arrays.ArrayExt.{ArrayExt}
use Rattle.ext_model.specs.declared.circuits.Circuit.{Circuit}
use Rattle.ext_model.specs.Plain.{plain}
use Rattle.circuit_model.specs.declared.limits.CircuitLimit.TheVariants.{Depth, Elements, Nodes, Names}
use Rattle.circuit_model.specs.declared.limits.TheConstants.{MOST_NAME_BYTES}
use Rattle.circuit_model.specs.Circuits.{IsMeaning}
use Rattle.circuit_model.specs.Refusals.{walk_fault}
use Rattle.element_tree.proofs.Cells.{found_cell}
use Rattle.name_classes.specs.FullNames.NameLists.{HasNoNameFault, IsNameFaultOf}
use Rattle.plain_records.specs.FlatLimits.Counts.{HasNoNodeFault, IsNodeFaultOf, IsMergeFaultOf}
use Rattle.plain_records.specs.Plains.{plains, AreArrayRecords}
use Rattle.plain_records.specs.Thin.{thin, thins}
use Rattle.plain_records.specs.Reached.{with_merges, AreCalled, HasNoReachFault, IsExpandedAt}
use Rattle.plain_records.proofs.PlaceLaws.{array_of, ext_of-plains, ext_of-thins, leads_plain}
use Rattle.plain_records.proofs.ReachLaws.{new_of, top_at, reach_fault-new, node_count-new, name_bytes-new, flat_fault-new, meaning-new}
use Rattle.plain_records.proofs.ThinLaws.{cells-form, thins_are_records}
use Rattle.flatten.specs.steps.Stages.{use_fault, number_fault, late_fault, IsFaultAt, IsUseFaultOf}
use Rattle.flatten.proofs.FaultLaws.{something}

-- ---- the stages of the fault

or-or : {X : Type 0} (a b c : Option X) → option_or (option_or a b) c ≡ option_or a (option_or b c)
or-or None b c = refl
or-or (Some x) b c = refl

-- the fault is that of uses, then that of numbers, then a late one
fault-stages : (exts : List CellExt) (top : CellExt)
    → flat_fault exts top ≡ option_or (use_fault exts top) (option_or (number_fault exts top) (late_fault exts top))
fault-stages exts top =
    let walk = walk_fault exts top in
    let depth = past LONGEST_CHAIN Depth (depth_of exts top) in
    let count = past MOST_FLAT_ELEMENTS Elements (length (elements_of exts top)) in
    let numbers = number_fault exts top in
    let late = late_fault exts top in
    ap (option_or walk) (or-or depth (option_or count numbers) late ∙ ap (option_or depth) (or-or count numbers late))
    ∙ sym (or-or walk (option_or depth count) (option_or numbers late) ∙ ap (option_or walk) (or-or depth count (option_or numbers late)))

-- and after uses without one that of numbers
number_is_fault : (exts : List CellExt) (top : CellExt) (fault : FlatFault) → use_fault exts top ≡ None → number_fault exts top ≡ Some fault
    → flat_fault exts top ≡ Some fault
number_is_fault exts top fault sound told =
    fault-stages exts top ∙ ap (λ o. option_or o (option_or (number_fault exts top) (late_fault exts top))) sound
    ∙ ap (λ o. option_or o (late_fault exts top)) told

-- beside another refusal, what follows from what is told
pub told_by : {A B C : Type 0} → (B → C) → A ⊎ B → A ⊎ C
told_by f (inl other) = inl other
told_by f (inr told) = inr (f told)

module _ (exts : List ArrayExt) (root : ℕ) (bare : List CellExt) (are : IsExpandedAt false exts root bare) (sound : HasNoReachFault (plains exts) root) where
  node_same : (top : CellExt) → slice_get (plains exts) root ≡ Some top → node_fault bare (with_merges false top) ≡ node_fault (plains exts) top
  node_same top at = ap (past MOST_NODES Nodes) (node_count-new false exts root bare are top at)

  name_same : (top : CellExt) → slice_get (plains exts) root ≡ Some top → name_fault bare (with_merges false top) ≡ name_fault (plains exts) top
  name_same top at = ap (past MOST_NAME_BYTES Names) (name_bytes-new false exts root bare are top at)

  -- records without merges have no fault of uses either
  pub no_use_fault : (fault : FlatFault) → IsUseFaultOf bare root fault → IsFaultAt flat_fault (plains exts) root fault
  no_use_fault fault told top at =
      let here = told (with_merges false top) (top_at false exts root bare are top at) in
      let none = reach_fault-new false exts root bare are top at ∙ sound top at in
      absurd (cc)

  -- too many nodes are the fault
  pub node_is_fault : (fault : FlatFault) → IsNodeFaultOf bare root fault → IsFaultAt flat_fault (plains exts) root fault
  node_is_fault fault told top at =
      number_is_fault (plains exts) top fault (sound top at)
      (ap (λ o. option_or o (option_or (name_fault (plains exts) top) (merge_fault (plains exts) top)))
      (sym (node_same top at) ∙ told (with_merges false top) (top_at false exts root bare are top at)))

  module _ (few_nodes : HasNoNodeFault bare root) where
    no_node_fault : (top : CellExt) → slice_get (plains exts) root ≡ Some top → node_fault (plains exts) top ≡ None
    no_node_fault top at = sym (node_same top at) ∙ few_nodes (with_merges false top) (top_at false exts root bare are top at)

    -- then names that are too long
    pub name_is_fault : (fault : FlatFault) → IsNameFaultOf bare root fault → IsFaultAt flat_fault (plains exts) root fault
    name_is_fault fault told top at =
        number_is_fault (plains exts) top fault (sound top at)
        (ap (λ o. option_or o (option_or (name_fault (plains exts) top) (merge_fault (plains exts) top))) (no_node_fault top at)
        ∙ ap (λ o. option_or o (merge_fault (plains exts) top))
        (sym (name_same top at) ∙ told (with_merges false top) (top_at false exts root bare are top at)))

    -- and then merges that are too many
    pub merge_is_fault : (fault : FlatFault) → HasNoNameFault bare root → IsMergeFaultOf (plains exts) root fault
        → IsFaultAt flat_fault (plains exts) root fault
    merge_is_fault fault short told top at =
        number_is_fault (plains exts) top fault (sound top at)
        (ap (λ o. option_or o (option_or (name_fault (plains exts) top) (merge_fault (plains exts) top))) (no_node_fault top at)
        ∙ ap (λ o. option_or o (merge_fault (plains exts) top))
        (sym (name_same top at) ∙ short (with_merges false top) (top_at false exts root bare are top at))
        ∙ told top at)

-- ---- what is known of thin records and of those reached

-- thin records are of the same cells
pub thin_called : (exts : List ArrayExt) (slim : List CellExt) → slim ≡ thins exts → AreCalled exts slim
thin_called exts slim are = let C : List CellExt → Type 0 = AreCalled exts in subst C (sym are) (cells-form thin (λ ext. refl) exts)

-- and lawful
pub thin_lawful : (exts : List ArrayExt) (slim : List CellExt) → AreArrayRecords exts → slim ≡ thins exts → AreRecords slim
thin_lawful exts slim lawful are = let R : List CellExt → Type 0 = AreRecords in subst R (sym are) (thins_are_records exts lawful)

-- ---- the record of the root

some_of : (found : Option ArrayExt) → IsSome (option_map plain found) → IsSome (option_map thin found)
some_of None some = some
some_of (Some ext) some = some

-- a cell with a plain record has a thin one
pub some_thin : (exts : List ArrayExt) (root : List ℕ) → IsSome (ext_of (plains exts) root) → IsSome (ext_of (thins exts) root)
some_thin exts root some =
    subst IsSome (sym (ext_of-thins exts root)) (some_of (array_of exts root) (subst IsSome (ext_of-plains exts root) some))

module _ (exts : List ArrayExt) (are : AreArrayRecords exts) (root : List ℕ) (number : ℕ) (found : slice_get (thins exts) number ≡ ext_of (thins exts) root)
    (some : IsSome (ext_of (plains exts) root)) where
  top : (ext : CellExt) × (ext_of (plains exts) root ≡ Some ext)
  top = something (ext_of (plains exts) root) some

  top_there : slice_get (plains exts) number ≡ Some top.0
  top_there = leads_plain exts are.cells_differ number root found ∙ top.1

  -- the fault at the number is that at the cell
  pub fault_of : (fault : FlatFault) → IsFaultAt flat_fault (plains exts) number fault → IsFlatFaultOf (plains exts) root fault
  fault_of fault told = record { top = top.0; found = top.1; faulty = told top.0 top_there }

  module _ (news : List CellExt) (ready : IsExpandedAt true exts number news) where
    found_new : ext_of news root ≡ Some top.0
    found_new =
        ap (ext_of news) (sym (found_cell (plains exts) root top.0 top.1))
        ∙ new_of true exts number news ready number top.0 ready.reached.is.root_in top_there

    -- the root has a new record
    pub some_new : IsSome (ext_of news root)
    some_new = let S : Option CellExt → Type 0 = IsSome in subst S (top.1 ∙ sym found_new) some

    one_top : (ext : CellExt) → ext_of news root ≡ Some ext → ext ≡ top.0
    one_top ext is = same_Some ext top.0 (sym is ∙ found_new)

    -- what the new records mean the plain ones mean
    pub flat_is : (circuit : Circuit) → IsFlatOf news root circuit → IsFlatOf (plains exts) root circuit
    flat_is circuit is =
        let same = one_top is.top is.found in
        let M : CellExt → Type 0 = λ e. IsMeaning news e circuit in
        record {
          top = top.0;
          found = top.1;
          sound = sym (flat_fault-new exts number news ready top.0 top_there) ∙ ap (flat_fault news) (sym same) ∙ is.sound;
          meaning = meaning-new exts number news ready top.0 top_there circuit (subst M same is.meaning);
        }

    -- and their fault is that of the plain ones
    pub fault_is : (fault : FlatFault) → IsFlatFaultOf news root fault → IsFlatFaultOf (plains exts) root fault
    fault_is fault is =
        let same = one_top is.top is.found in
        record {
          top = top.0;
          found = top.1;
          faulty = sym (flat_fault-new exts number news ready top.0 top_there) ∙ ap (flat_fault news) (sym same) ∙ is.faulty;
        }
