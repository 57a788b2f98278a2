-- What the elements of records keep to that have no fault.
use Rattle.circuit_laws.proofs.Common.{◌≡◌, ◌≤◌, ℕ, zero, suc, Bool, cond, List, [], ◌∷◌, ◌++◌, length, inl, inr, refl, sym, ◌∙◌, ap, subst, Option}
use Rattle.circuit_laws.proofs.Common.{Some, None, bytes_eq, All-contains, In, Contains-from_In, find-In, In-flat_map_source, UseRec, CellExt}
use Rattle.circuit_laws.proofs.Common.{IsLawful, Element, elements_of}
use Rattle.std.specs.Option.{option_or}
use Rattle.std.proofs.lemmas.Bool.{cases_lt, lt-ltb}
use Rattle.finite_sets.proofs.Searches.{option_or-none}
use Rattle.full_names.specs.CircuitModel.declared.faults.FlatFault.TheVariants.{TooMany}
use Rattle.full_names.specs.CircuitModel.declared.limits.CircuitLimit.{CircuitLimit}
use Rattle.full_names.specs.CircuitModel.declared.limits.CircuitLimit.TheVariants.{Depth, Elements, Nodes, Names, Merges}
use Rattle.full_names.specs.CircuitModel.declared.limits.TheConstants.{LONGEST_CHAIN, MOST_FLAT_ELEMENTS, MOST_NODES, MOST_NAME_BYTES, MOST_MERGES}
use Rattle.full_names.specs.CircuitModel.Elements.{AreRecords, elements_below, ext_of, of_option}
use Rattle.full_names.specs.CircuitModel.Refusals.{past, depth_of, node_count, name_bytes, merge_count, class_fault, element_fault, first_fault}
use Rattle.full_names.specs.CircuitModel.Refusals.{walk_fault, count_fault, flat_fault}

-- what holds of the record of an element and of all records holds of the record of each element at and below it
below : (P : CellExt → Type 0) (levels : ℕ) (exts : List CellExt) (uses : List UseRec) (ext : CellExt) → P ext
    → ((one : CellExt) → In one exts → P one) → (element : Element) → In element (elements_below levels exts uses ext) → P element.ext
unfolding elements_below
below P zero exts uses ext here each element absent = absurd absent
below P (suc levels) exts uses ext here each element (inl same) = subst (λ (e : Element). P e.ext) same here
below P (suc levels) exts uses ext here each element (inr later) =
    let under : UseRec → List Element = λ used. of_option (elements_below levels exts (uses ++ used ∷ [])) (ext_of exts used.cell) in
    let found = In-flat_map_source under element ext.uses later in
    step found.0 (ext_of exts found.0.cell) (λ child is. each child (find-In (λ one. bytes_eq one.cell found.0.cell) exts child is))
    (λ child holds. below P levels exts (uses ++ found.0 ∷ []) child holds each element) found.1.1
  where
    step : (used : UseRec) (child : Option CellExt) → ((one : CellExt) → child ≡ Some one → P one)
        → ((one : CellExt) → P one → In element (elements_below levels exts (uses ++ used ∷ []) one) → P element.ext)
        → In element (of_option (elements_below levels exts (uses ++ used ∷ [])) child) → P element.ext
    step used None holds under absent = absurd absent
    step used (Some child) holds under within = under child (holds child refl) within

-- the records of the elements of lawful records are lawful
pub lawful_elements : (exts : List CellExt) (root : List ℕ) (top : CellExt) → AreRecords exts → ext_of exts root ≡ Some top
    → (element : Element) → In element (elements_of exts top) → IsLawful element.ext
lawful_elements exts root top records found =
    let each : (ext : CellExt) → In ext exts → IsLawful ext = λ ext here.
    All-contains IsLawful exts ext records.lawful (Contains-from_In ext exts here) in
    below IsLawful LONGEST_CHAIN exts [] top (each top (find-In (λ ext. bytes_eq ext.cell root) exts top found)) each

-- a number that is not past its limit
not_past : (most : ℕ) (limit : CircuitLimit) (number : ℕ) → past most limit number ≡ None → number ≤ most
not_past most limit number none = elim (cases_lt most number) [
  | inr within ↦ within
  | inl more ↦
      (let over : Some (TooMany limit) ≡ None =
      ap (λ (t : Bool). cond t (Some (TooMany limit)) None) (sym (lt-ltb most number more)) ∙ none in
      absurd (cc))
]

-- the elements of records without a fault have few node records
pub few_node_records : (exts : List CellExt) (top : CellExt) → flat_fault exts top ≡ None → node_count (elements_of exts top) ≤ MOST_NODES
few_node_records exts top sound =
    let elements = elements_of exts top in
    let late = option_or (first_fault (class_fault top) elements) (first_fault (element_fault exts) elements) in
    let after_nodes = option_or (past MOST_NAME_BYTES Names (name_bytes elements)) (past MOST_MERGES Merges (merge_count elements)) in
    let after_elements = option_or (past MOST_NODES Nodes (node_count elements)) after_nodes in
    let after_depth = option_or (past MOST_FLAT_ELEMENTS Elements (length elements)) after_elements in
    let walked = (option_or-none (walk_fault exts top) (option_or (count_fault exts top) late) sound).1 in
    let counted = (option_or-none (count_fault exts top) late walked).0 in
    let deep = (option_or-none (past LONGEST_CHAIN Depth (depth_of exts top)) after_depth counted).1 in
    let many = (option_or-none (past MOST_FLAT_ELEMENTS Elements (length elements)) after_elements deep).1 in
    not_past MOST_NODES Nodes (node_count elements) (option_or-none (past MOST_NODES Nodes (node_count elements)) after_nodes many).0
