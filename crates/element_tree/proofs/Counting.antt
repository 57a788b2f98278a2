-- The numbers of records are those of the chains and elements below them.
use Rattle.element_tree.proofs.Common.{◌≡◌, ℕ, zero, suc, ◌<◌, ◌≤◌, ◌+◌, Option, Some, None, List, [], ◌∷◌, ◌++◌, length, get_or, map, reverse, inl}
use Rattle.element_tree.proofs.Common.{inr, refl, sym, ◌∙◌, ap, subst, arith, length-append, slice_get, flat_map, range_with_len, option_or}
use Rattle.element_tree.proofs.Common.{length-reverse, get_or_read, length-range_with_len, get_or-range_with_len, sum_by-cons, In, In-get_or}
use Rattle.element_tree.proofs.Common.{length-distinct, In-reverse, In-reverse_source, slice_get-below, All-In, UseRec, CellExt, LONGEST_CHAIN}
use Rattle.element_tree.proofs.Common.{MOST_FLAT_ELEMENTS, ext_of, greatest, RecordGraph, LeadTo, AreDone, IsGraphOf, children_of, value_at}
use Rattle.element_tree.proofs.Common.{chain_from, size_from, AreMeasured, AreMeasuredIn}
use Rattle.std.proofs.Common.{min}
use Rattle.std.specs.List.{sum}
use Rattle.std.proofs.lemmas.Bool.{lt-ltb, le-ltb}
use Rattle.circuit_model.specs.declared.faults.FlatFault.TheVariants.{TooMany}
use Rattle.circuit_model.specs.declared.limits.CircuitLimit.{CircuitLimit}
use Rattle.circuit_model.specs.declared.limits.CircuitLimit.TheVariants.{Depth, Elements}
use Rattle.circuit_model.specs.Elements.{Element, of_option, elements_below, elements_of}
use Rattle.circuit_model.specs.Refusals.{chain_length, depth_of, past}
use Rattle.element_tree.specs.Trees.{HasNoTreeFault, IsTreeFaultOf}
use Rattle.element_tree.proofs.Measures.{chain_bound}

LeadTo-more : (exts : List CellExt) (done others : List ℕ) (uses : List UseRec) (cells : List ℕ) → ((cell : ℕ) → In cell done → In cell others)
    → LeadTo exts done uses cells → LeadTo exts others uses cells
LeadTo-more exts done others [] [] more h = tt
LeadTo-more exts done others [] (c ∷ cells) more h = h
LeadTo-more exts done others (u ∷ uses) [] more h = h
LeadTo-more exts done others (u ∷ uses) (c ∷ cells) more h = (h.0, (more c h.1.0, LeadTo-more exts done others uses cells more h.1.1))

-- each of the done records leads to done ones
pub leads_at : (exts : List CellExt) (children : List (List ℕ)) (done : List ℕ) (cell : ℕ) (ext : CellExt) → AreDone exts children done → In cell done
    → slice_get exts cell ≡ Some ext → LeadTo exts done ext.uses (children_of children cell)
leads_at exts children [] cell ext leads h found = absurd h
leads_at exts children (other ∷ done) cell ext leads (inl e) found =
    let P : ℕ → Type 0 = λ z. slice_get exts z ≡ Some ext → LeadTo exts (other ∷ done) ext.uses (children_of children z) in
    (subst P e (λ f. LeadTo-more exts done (other ∷ done) ext.uses (children_of children other) (λ c k. inr k) (leads.0 ext f))) found
leads_at exts children (other ∷ done) cell ext leads (inr h) found =
    LeadTo-more exts done (other ∷ done) ext.uses (children_of children cell) (λ c k. inr k) (leads_at exts children done cell ext leads.1 h found)

-- each of the done records has its number
pub measured_at : (from : List ℕ → ℕ) (children : List (List ℕ)) (values done : List ℕ) (cell : ℕ) → AreMeasured from children values done → In cell done
    → value_at values cell ≡ from (map (value_at values) (children_of children cell))
measured_at from children values [] cell measured h = absurd h
measured_at from children values (other ∷ done) cell measured (inl e) =
    subst (λ z. value_at values z ≡ from (map (value_at values) (children_of children z))) e measured.0
measured_at from children values (other ∷ done) cell measured (inr h) = measured_at from children values done cell measured.1 h

-- how long the chains from where a use leads are
abbrev chain_behind : ℕ → List CellExt → UseRec → ℕ
chain_behind bound exts used = elim (ext_of exts used.cell) [ None ↦ 0 | Some child ↦ chain_length bound exts child ]

-- the elements from where a use leads
abbrev pub elements_behind : ℕ → List CellExt → List UseRec → UseRec → List Element
elements_behind levels exts path used = of_option (elements_below levels exts (path ++ used ∷ [])) (ext_of exts used.cell)

-- The records that are done, and how long their chains are.
pub record AreChained (exts : List CellExt) (children : List (List ℕ)) (done lengths : List ℕ) : Type 0 where
  pub within : (cell : ℕ) → In cell done → cell < length exts
  pub leads : AreDone exts children done
  pub chains : AreMeasured chain_from children lengths done

chains_behind : (exts : List CellExt) (done lengths : List ℕ) (bound : ℕ) (uses : List UseRec) (cells : List ℕ)
    → ((cell : ℕ) → In cell done → cell < length exts)
    → ((cell : ℕ) (ext : CellExt) → In cell done → slice_get exts cell ≡ Some ext → value_at lengths cell ≤ bound
    → chain_length bound exts ext ≡ value_at lengths cell)
    → LeadTo exts done uses cells → greatest (map (value_at lengths) cells) ≤ bound
    → greatest (map (chain_behind bound exts) uses) ≡ greatest (map (value_at lengths) cells)
chains_behind exts done lengths bound [] [] within known leads short = refl
chains_behind exts done lengths bound [] (c ∷ cells) within known leads short = absurd leads
chains_behind exts done lengths bound (u ∷ uses) [] within known leads short = absurd leads
chains_behind exts done lengths bound (u ∷ uses) (c ∷ cells) within known leads short =
    let found = slice_get-below exts c (within c leads.1.0) in
    let first : chain_behind bound exts u ≡ value_at lengths c =
    ap (λ (o : Option CellExt). elim o [ None ↦ 0 | Some child ↦ chain_length bound exts child ]) (sym leads.0 ∙ found.1)
    ∙ known c found.0 leads.1.0 found.1 (omega arith) in
    let rest = chains_behind exts done lengths bound uses cells within known leads.1.1 (omega arith) in
    cc

-- the longest chain is as long as the number says
pub chain_length_is : (exts : List CellExt) (children : List (List ℕ)) (done lengths : List ℕ) → AreChained exts children done lengths
    → (bound cell : ℕ) (ext : CellExt) → In cell done → slice_get exts cell ≡ Some ext → value_at lengths cell ≤ bound
    → chain_length bound exts ext ≡ value_at lengths cell
unfolding chain_length
chain_length_is exts children done lengths are zero cell ext h found short =
    let own = measured_at chain_from children lengths done cell are.chains h in absurd (omega arith)
chain_length_is exts children done lengths are (suc bound) cell ext h found short =
    let own = measured_at chain_from children lengths done cell are.chains h in
    let below = chains_behind exts done lengths bound ext.uses (children_of children cell) are.within
    (chain_length_is exts children done lengths are bound) (leads_at exts children done cell ext are.leads h found) (omega arith) in
    ap suc below ∙ sym own

counts_behind : (exts : List CellExt) (done lengths sizes : List ℕ) (levels : ℕ) (path uses : List UseRec) (cells : List ℕ) (cap k : ℕ)
    → ((cell : ℕ) → In cell done → cell < length exts)
    → ((cell : ℕ) (ext : CellExt) (to : List UseRec) → In cell done → slice_get exts cell ≡ Some ext → value_at lengths cell ≤ levels
    → min cap (length (elements_below levels exts to ext)) ≡ value_at sizes cell)
    → LeadTo exts done uses cells → greatest (map (value_at lengths) cells) ≤ levels
    → min cap (k + length (flat_map (elements_behind levels exts path) uses)) ≡ min cap (k + sum (map (value_at sizes) cells))
counts_behind exts done lengths sizes levels path [] [] cap k within known leads short = refl
counts_behind exts done lengths sizes levels path [] (c ∷ cells) cap k within known leads short = absurd leads
counts_behind exts done lengths sizes levels path (u ∷ uses) [] cap k within known leads short = absurd leads
counts_behind exts done lengths sizes levels path (u ∷ uses) (c ∷ cells) cap k within known leads short =
    let found = slice_get-below exts c (within c leads.1.0) in
    let part = elements_below levels exts (path ++ u ∷ []) found.0 in
    let here : elements_behind levels exts path u ≡ part = ap (of_option (elements_below levels exts (path ++ u ∷ []))) (sym leads.0 ∙ found.1) in
    let size = known c found.0 (path ++ u ∷ []) leads.1.0 found.1 (omega arith) in
    let whole = length-append (elements_behind levels exts path u) (flat_map (elements_behind levels exts path) uses) in
    let long = ap length here in
    let total = sum_by-cons (λ (x : ℕ). x) (value_at sizes c) (map (value_at sizes) cells) in
    let rest = counts_behind exts done lengths sizes levels path uses cells cap (k + length part) within known leads.1.1 (omega arith) in
    omega (arith, whole, long, total, rest, size)

-- and there are as many elements as the number says, or more than the most
pub count_is : (exts : List CellExt) (children : List (List ℕ)) (done lengths sizes : List ℕ) → AreChained exts children done lengths
    → AreMeasured size_from children sizes done → (levels cell : ℕ) (ext : CellExt) (path : List UseRec) → In cell done → slice_get exts cell ≡ Some ext
    → value_at lengths cell ≤ levels
    → min (suc MOST_FLAT_ELEMENTS) (length (elements_below levels exts path ext)) ≡ value_at sizes cell
unfolding elements_below
count_is exts children done lengths sizes are counts zero cell ext path h found short =
    let own = measured_at chain_from children lengths done cell are.chains h in absurd (omega arith)
count_is exts children done lengths sizes are counts (suc levels) cell ext path h found short =
    let own = measured_at chain_from children lengths done cell are.chains h in
    let size = measured_at size_from children sizes done cell counts h in
    let below = counts_behind exts done lengths sizes levels path ext.uses (children_of children cell) (suc MOST_FLAT_ELEMENTS) 1 are.within
    (count_is exts children done lengths sizes are counts levels) (leads_at exts children done cell ext are.leads h found) (omega arith) in
    omega (arith, size, below)

-- the records of a graph
pub chained : (exts : List CellExt) (root : ℕ) (graph : RecordGraph) (lengths : List ℕ) → IsGraphOf exts root graph
    → AreMeasuredIn chain_from graph lengths → AreChained exts graph.children (reverse graph.order) lengths
chained exts root graph lengths is chains = record {
  within = λ cell h. All-In (λ z. z < length exts) graph.order cell is.within (In-reverse_source cell graph.order h);
  leads = is.done;
  chains = chains.measured;
}

In-range : (n k : ℕ) → k < n → In k (range_with_len 0 n)
In-range n k h =
    let place : k < length (range_with_len 0 n) = (let long = length-range_with_len 0 n in omega arith) in
    let there : get_or (range_with_len 0 n) k 0 ≡ k = get_or-range_with_len 0 n k 0 h ∙ (omega arith) in
    subst (λ z. In z (range_with_len 0 n)) there (In-get_or (range_with_len 0 n) k 0 place)

-- no more records are done than there are
pub order_short : (exts : List CellExt) (root : ℕ) (graph : RecordGraph) → IsGraphOf exts root graph → length graph.order ≤ length exts
order_short exts root graph is =
    let within = length-distinct graph.order (range_with_len 0 (length exts)) is.once
    (λ cell h. In-range (length exts) cell (All-In (λ z. z < length exts) graph.order cell is.within h)) in
    let long = length-range_with_len 0 (length exts) in
    omega arith

-- what is read at the root is its number
pub number_read : (exts : List CellExt) (root : ℕ) (graph : RecordGraph) (from : List ℕ → ℕ) (values : List ℕ) (value : ℕ) → root < length exts
    → IsGraphOf exts root graph → AreMeasuredIn from graph values → value ≡ get_or values root value → value ≡ value_at values root
number_read exts root graph from values value within is measured e =
    get_or_read values root value (let long = measured.long in let records = is.long in omega arith) e 1

-- the depth of the tree
pub depth_is : (exts : List CellExt) (root : ℕ) (graph : RecordGraph) (lengths : List ℕ) (top : CellExt) → IsGraphOf exts root graph
    → AreMeasuredIn chain_from graph lengths → slice_get exts root ≡ Some top → depth_of exts top ≡ value_at lengths root
depth_is exts root graph lengths top is chains found =
    let are = chained exts root graph lengths is chains in
    let here = In-reverse root graph.order is.root_in in
    let bound = chain_bound exts graph.children lengths (reverse graph.order) are.within is.done chains.measured root here in
    let long = length-reverse graph.order in
    let short = order_short exts root graph is in
    chain_length_is exts graph.children (reverse graph.order) lengths are (suc (length exts)) root top here found (omega arith)

-- how many elements the tree has
pub elements_are : (exts : List CellExt) (root : ℕ) (graph : RecordGraph) (lengths sizes : List ℕ) (top : CellExt) → IsGraphOf exts root graph
    → AreMeasuredIn chain_from graph lengths → AreMeasuredIn size_from graph sizes → slice_get exts root ≡ Some top → value_at lengths root ≤ LONGEST_CHAIN
    → min (suc MOST_FLAT_ELEMENTS) (length (elements_of exts top)) ≡ value_at sizes root
elements_are exts root graph lengths sizes top is chains counts found short =
    count_is exts graph.children (reverse graph.order) lengths sizes (chained exts root graph lengths is chains) counts.measured LONGEST_CHAIN root top []
    (In-reverse root graph.order is.root_in) found short

-- a number within its limit has no fault
pub within_limit : (most n : ℕ) (limit : CircuitLimit) → n ≤ most → past most limit n ≡ None
within_limit most n limit h = rw (le-ltb most n h) refl

past_limit : (most n : ℕ) (limit : CircuitLimit) → most < n → past most limit n ≡ Some (TooMany limit)
past_limit most n limit h = rw (lt-ltb most n h) refl

module _ (exts : List CellExt) (root : ℕ) (graph : RecordGraph) (lengths : List ℕ) (is : IsGraphOf exts root graph)
    (chains : AreMeasuredIn chain_from graph lengths) where
  -- chains that are too long are the fault
  pub depth_fault : LONGEST_CHAIN < value_at lengths root → IsTreeFaultOf exts root (TooMany Depth)
  depth_fault long top found =
      let deep = depth_is exts root graph lengths top is chains found in
      ap (λ o. option_or o (past MOST_FLAT_ELEMENTS Elements (length (elements_of exts top))))
      (past_limit LONGEST_CHAIN (depth_of exts top) Depth (omega arith))

  -- and then elements that are too many
  pub elements_fault : (sizes : List ℕ) → AreMeasuredIn size_from graph sizes → value_at lengths root ≤ LONGEST_CHAIN
      → MOST_FLAT_ELEMENTS < value_at sizes root → IsTreeFaultOf exts root (TooMany Elements)
  elements_fault sizes counts short many top found =
      let deep = depth_is exts root graph lengths top is chains found in
      let count = elements_are exts root graph lengths sizes top is chains counts found short in
      ap (λ o. option_or o (past MOST_FLAT_ELEMENTS Elements (length (elements_of exts top))))
      (within_limit LONGEST_CHAIN (depth_of exts top) Depth (omega arith))
      ∙ past_limit MOST_FLAT_ELEMENTS (length (elements_of exts top)) Elements (omega arith)

  -- else there is none
  pub no_tree_fault : (sizes : List ℕ) → AreMeasuredIn size_from graph sizes → value_at lengths root ≤ LONGEST_CHAIN
      → value_at sizes root ≤ MOST_FLAT_ELEMENTS → HasNoTreeFault exts root
  no_tree_fault sizes counts short few top found =
      let deep = depth_is exts root graph lengths top is chains found in
      let count = elements_are exts root graph lengths sizes top is chains counts found short in
      ap (λ o. option_or o (past MOST_FLAT_ELEMENTS Elements (length (elements_of exts top))))
      (within_limit LONGEST_CHAIN (depth_of exts top) Depth (omega arith))
      ∙ within_limit MOST_FLAT_ELEMENTS (length (elements_of exts top)) Elements (omega arith)
