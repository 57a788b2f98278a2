-- The fault of records rests on those that uses lead to from the root.
use Rattle.uniqueness.proofs.Common.{◌≡◌, ◌<◌, ◌≤◌, ℕ, zero, suc, Bool, true, false, List, [], ◌∷◌, map, length, inl, inr, refl, sym, ap, ◌∙◌, subst}
use Rattle.uniqueness.proofs.Common.{arith, Option, Some, None, option_or, bytes_eq, length-map, bytes_eq-Decides, Distinct, In, In-map, CellExt}
use Rattle.uniqueness.proofs.Common.{UseRec, FlatFault, Element, elements_of, ext_of, flat_fault, AgreeBelow}
use Rattle.std.proofs.Common.{◌+◌, if◌then◌else◌}
use Rattle.std.specs.Prelude.{find}
use Rattle.finite_sets.specs.First.{first_some}
use Rattle.finite_sets.proofs.Distincts.{length-distinct}
use Rattle.finite_sets.proofs.Firsts.{first_some-none_In}
use Rattle.finite_sets.proofs.Images.{map-same}
use Rattle.finite_sets.proofs.Searches.{absent-from_list_any, find-In, find-passes}
use Rattle.ext_model.specs.NodeNames.{slashes_in}
use Rattle.circuit_commands.specs.CircuitModel.declared.faults.FlatFault.TheVariants.{Cycle, NoCell, NoPath}
use Rattle.circuit_commands.specs.CircuitModel.declared.limits.CircuitLimit.TheVariants.{Depth, Elements, Merges, Names, Nodes}
use Rattle.circuit_commands.specs.CircuitModel.declared.limits.TheConstants.{LONGEST_CHAIN, MOST_FLAT_ELEMENTS, MOST_MERGES, MOST_NAME_BYTES, MOST_NODES}
use Rattle.circuit_commands.specs.CircuitModel.FlatNodes.{is_among}
use Rattle.circuit_commands.specs.CircuitModel.Refusals.{after_slash, before_slash, chain_length, class_fault, count_fault, depth_of, element_fault, first_fault}
use Rattle.circuit_commands.specs.CircuitModel.Refusals.{greatest, leads, merge_count, merge_fault, name_bytes, node_count, past, path_fault, use_fault, walk_fault}
use Rattle.circuit_commands.proofs.PlainRecords.ElementTree.RecordWalks.{at_use}
use Rattle.uniqueness.proofs.ReachedElements.{IsReached, child_reached, elements_reached, same_child, same_elements}

-- things that give the same give the same first
first_some-same : {X Y : Type 0} (f g : X → Option Y) (xs : List X) → ((x : X) → In x xs → f x ≡ g x) → first_some f xs ≡ first_some g xs
first_some-same f g [] same = refl
first_some-same {X} {Y} f g (x ∷ xs) same =
    ap (λ (o : Option Y). option_or o (first_some f xs)) (same x (inl refl))
    ∙ ap (option_or (g x)) (first_some-same f g xs (λ y later. same y (inr later)))

-- a record that is found has the name, and stands in the list
name_found : (exts : List CellExt) (name : List ℕ) (ext : CellExt) → ext_of exts name ≡ Some ext → ext.cell ≡ name
name_found exts name ext is = (bytes_eq-Decides ext.cell name).0 (find-passes (λ (e : CellExt). bytes_eq e.cell name) exts ext is)

-- each of these names has a record
abbrev AreFound : List CellExt → List (List ℕ) → Type 0
AreFound exts names = (name : List ℕ) → In name names → (ext : CellExt) × (ext_of exts name ≡ Some ext)

-- different names with records are no more than the records
few_names : (exts : List CellExt) (names : List (List ℕ)) → Distinct names → AreFound exts names → length names ≤ length exts
few_names exts names once found =
    let few = length-distinct names (map (λ (e : CellExt). e.cell) exts) once (λ name here.
    let (ext, is) = found name here in
    subst (λ (one : List ℕ). In one (map (λ (e : CellExt). e.cell) exts)) (name_found exts name ext is)
    (In-map (λ (e : CellExt). e.cell) ext exts (find-In (λ (e : CellExt). bytes_eq e.cell name) exts ext is))) in
    omega (arith, few, length-map exts (λ (e : CellExt). e.cell))

-- ---- the walk, and its chains

-- the use that a path begins with
abbrev find_use : CellExt → List ℕ → Option UseRec
find_use ext path = find (λ (used : UseRec). bytes_eq used.id (before_slash path)) ext.uses

-- whether the rest of it leads to a node, by what the cell of the use has
abbrev through : ℕ → List ℕ → List CellExt → Option CellExt → Bool
through slashes path exts found = elim found [ None ↦ false | Some child ↦ leads slashes exts child (after_slash path) ]

-- and by the use
abbrev by_use : ℕ → List ℕ → List CellExt → Option UseRec → Bool
by_use slashes path exts found = elim found [ None ↦ false | Some used ↦ through slashes path exts (ext_of exts used.cell) ]

-- how long the chain behind a use is, by what its cell has
abbrev behind : ℕ → List CellExt → Option CellExt → ℕ
behind bound exts found = elim found [ None ↦ 0 | Some child ↦ chain_length bound exts child ]

module _ (exts others : List CellExt) where
  -- Open cells differ and have records in both lists, and the walk may open more of them than there are records.
  record IsOpen (bound other : ℕ) (names : List (List ℕ)) : Type 0 where
    once : Distinct names
    found : AreFound exts names
    also : AreFound others names
    enough : length exts < bound + length names
    enough_also : length others < other + length names

  -- so it can open one more
  open_more : (bound other : ℕ) (names : List (List ℕ)) (name : List ℕ) (child : CellExt) → IsOpen (suc bound) (suc other) names
      → ext_of exts name ≡ Some child → ext_of exts name ≡ ext_of others name → is_among names name ≡ false → IsOpen bound other (name ∷ names)
  open_more bound other names name child is_open found same new = record {
    once = (absent-from_list_any bytes_eq bytes_eq-Decides name names new, is_open.once);
    found = λ one here. elim here [
      | inl is ↦ (child, ap (ext_of exts) (sym is) ∙ found)
      | inr older ↦ is_open.found one older
    ];
    also = λ one here. elim here [
      | inl is ↦ (child, ap (ext_of others) (sym is) ∙ sym same ∙ found)
      | inr older ↦ is_open.also one older
    ];
    enough = omega (arith, is_open.enough);
    enough_also = omega (arith, is_open.enough_also);
  }

  -- and comes to an end before it can't
  never_zero : (other : ℕ) (names : List (List ℕ)) → IsOpen zero other names → ⊥
  never_zero other names is_open = omega (arith, is_open.enough, few_names exts names is_open.once is_open.found)

  never_zero_also : (bound : ℕ) (names : List (List ℕ)) → IsOpen bound zero names → ⊥
  never_zero_also bound names is_open = omega (arith, is_open.enough_also, few_names others names is_open.once is_open.also)

  -- the walk has one fault in both
  same_walk : (bound other : ℕ) (names : List (List ℕ)) (ext : CellExt) → IsOpen bound other names → IsReached exts others ext
      → use_fault bound exts names ext ≡ use_fault other others names ext
  unfolding use_fault
  same_walk zero other names ext is_open reached = absurd (never_zero other names is_open)
  same_walk (suc bound) zero names ext is_open reached = absurd (never_zero_also (suc bound) names is_open)
  same_walk (suc bound) (suc other) names ext is_open reached =
      first_some-same (λ used. at_use bound exts names used.cell (ext_of exts used.cell))
      (λ used. at_use other others names used.cell (ext_of others used.cell)) ext.uses
      (λ used within.
      let same = same_child exts others ext reached used within in
      by_found used.cell (ext_of exts used.cell) refl same
      (λ child is new. same_walk bound other (used.cell ∷ names) child (open_more bound other names used.cell child is_open is same new)
      (child_reached exts others ext reached used within child is))
      ∙ ap (at_use other others names used.cell) same)
    where
      by_new : (cell : List ℕ) (child : CellExt) (t : Bool)
          → (t ≡ false → use_fault bound exts (cell ∷ names) child ≡ use_fault other others (cell ∷ names) child)
          → (if t then Some (Cycle cell) else use_fault bound exts (cell ∷ names) child)
          ≡ (if t then Some (Cycle cell) else use_fault other others (cell ∷ names) child)
      by_new cell child true rest = refl
      by_new cell child false rest = rest refl

      by_found : (cell : List ℕ) (found : Option CellExt) → ext_of exts cell ≡ found → ext_of exts cell ≡ ext_of others cell
          → ((child : CellExt) → ext_of exts cell ≡ Some child → is_among names cell ≡ false
          → use_fault bound exts (cell ∷ names) child ≡ use_fault other others (cell ∷ names) child)
          → at_use bound exts names cell found ≡ at_use other others names cell found
      by_found cell None is same rest = refl
      by_found cell (Some child) is same rest = by_new cell child (is_among names cell) (rest child is)

  -- and without one its chains are equally long
  same_chain : (bound other : ℕ) (names : List (List ℕ)) (ext : CellExt) → IsOpen bound other names → IsReached exts others ext
      → use_fault bound exts names ext ≡ None → chain_length bound exts ext ≡ chain_length other others ext
  unfolding use_fault chain_length
  same_chain zero other names ext is_open reached none = absurd (never_zero other names is_open)
  same_chain (suc bound) zero names ext is_open reached none = absurd (never_zero_also (suc bound) names is_open)
  same_chain (suc bound) (suc other) names ext is_open reached none =
      ap (λ (lengths : List ℕ). suc (greatest lengths))
      (map-same (λ used. behind bound exts (ext_of exts used.cell)) (λ used. behind other others (ext_of others used.cell)) ext.uses
      (λ used within.
      let same = same_child exts others ext reached used within in
      let fine = first_some-none_In (λ (one : UseRec). at_use bound exts names one.cell (ext_of exts one.cell)) ext.uses none used within in
      by_found used.cell (ext_of exts used.cell) refl fine
      (λ child is new faultless.
      same_chain bound other (used.cell ∷ names) child (open_more bound other names used.cell child is_open is same new)
      (child_reached exts others ext reached used within child is) faultless)
      ∙ ap (behind other others) same))
    where
      by_new : (cell : List ℕ) (child : CellExt) (t : Bool) → is_among names cell ≡ t
          → (if t then Some (Cycle cell) else use_fault bound exts (cell ∷ names) child) ≡ None
          → (is_among names cell ≡ false → use_fault bound exts (cell ∷ names) child ≡ None → chain_length bound exts child ≡ chain_length other others child)
          → chain_length bound exts child ≡ chain_length other others child
      by_new cell child true is fine rest = absurd (let no : ⊥ = cc in no)
      by_new cell child false is fine rest = rest is fine

      by_found : (cell : List ℕ) (found : Option CellExt) → ext_of exts cell ≡ found → at_use bound exts names cell found ≡ None
          → ((child : CellExt) → ext_of exts cell ≡ Some child → is_among names cell ≡ false → use_fault bound exts (cell ∷ names) child ≡ None
          → chain_length bound exts child ≡ chain_length other others child)
          → behind bound exts found ≡ behind other others found
      by_found cell None is fine rest = refl
      by_found cell (Some child) is fine rest = by_new cell child (is_among names cell) refl fine (rest child is)

  -- ---- paths

  -- a path leads to a node in both, or in neither
  same_leads : (slashes : ℕ) (ext : CellExt) (path : List ℕ) → IsReached exts others ext → leads slashes exts ext path ≡ leads slashes others ext path
  unfolding leads
  same_leads zero ext path reached = refl
  same_leads (suc slashes) ext path reached =
      by_used (find_use ext path) refl (λ child there. same_leads slashes child (after_slash path) there)
    where
      by_found : (cell : List ℕ) (found : Option CellExt) → ext_of exts cell ≡ found
          → ((child : CellExt) → ext_of exts cell ≡ Some child
          → leads slashes exts child (after_slash path) ≡ leads slashes others child (after_slash path))
          → through slashes path exts found ≡ through slashes path others found
      by_found cell None is rest = refl
      by_found cell (Some child) is rest = rest child is

      by_used : (found : Option UseRec) → find_use ext path ≡ found
          → ((child : CellExt) → IsReached exts others child
          → leads slashes exts child (after_slash path) ≡ leads slashes others child (after_slash path))
          → by_use slashes path exts found ≡ by_use slashes path others found
      by_used None is rest = refl
      by_used (Some used) is rest =
          let within = find-In (λ (one : UseRec). bytes_eq one.id (before_slash path)) ext.uses used is in
          by_found used.cell (ext_of exts used.cell) refl (λ child there. rest child (child_reached exts others ext reached used within child there))
          ∙ ap (through slashes path others) (same_child exts others ext reached used within)

  -- so the merges of an element have the same faults
  same_element : (element : Element) → IsReached exts others element.ext → element_fault exts element ≡ element_fault others element
  same_element element reached =
      first_some-same (merge_fault exts element.ext) (merge_fault others element.ext) element.ext.merges
      (λ merge within.
      ap (λ (first : Option FlatFault). option_or first (path_fault exts element.ext merge.second)) (same_path merge.first)
      ∙ ap (option_or (path_fault others element.ext merge.first)) (same_path merge.second))
    where
      same_path : (path : List ℕ) → path_fault exts element.ext path ≡ path_fault others element.ext path
      same_path path =
          ap (λ (t : Bool). if t then None else Some (NoPath element.ext.cell path)) (same_leads (slashes_in path) element.ext path reached)

-- the first number past its limit, of chains so long and these elements
abbrev counted : ℕ → List Element → Option FlatFault
counted depth elements =
    option_or (past LONGEST_CHAIN Depth depth)
    (option_or (past MOST_FLAT_ELEMENTS Elements (length elements))
    (option_or (past MOST_NODES Nodes (node_count elements))
    (option_or (past MOST_NAME_BYTES Names (name_bytes elements)) (past MOST_MERGES Merges (merge_count elements)))))

-- all faults but those of the walk
abbrev rest_of : List CellExt → CellExt → Option FlatFault
rest_of exts top =
    option_or (count_fault exts top)
    (option_or (first_fault (class_fault top) (elements_of exts top)) (first_fault (element_fault exts) (elements_of exts top)))

module _ (exts others : List CellExt) (root : List ℕ) (top : CellExt) (agree : AgreeBelow exts others root) (found : ext_of exts root ≡ Some top)
    (also : ext_of others root ≡ Some top) where
  top_reached : IsReached exts others top
  top_reached = record { cell = root; agree = agree; found = found }

  -- the root is open at first
  root_open : IsOpen exts others (suc (length exts)) (suc (length others)) (top.cell ∷ [])
  root_open =
      let named = name_found exts root top found in record {
        once = ((λ here. here), tt);
        found = λ name here. elim here [ inl is ↦ (top, ap (ext_of exts) (sym is ∙ named) ∙ found) | inr none ↦ absurd none ];
        also = λ name here. elim here [ inl is ↦ (top, ap (ext_of others) (sym is ∙ named) ∙ also) | inr none ↦ absurd none ];
        enough = omega arith;
        enough_also = omega arith;
      }

  -- numbers past their limits, where chains are equally long
  same_counts : depth_of exts top ≡ depth_of others top → elements_of exts top ≡ elements_of others top → count_fault exts top ≡ count_fault others top
  same_counts depth elements =
      ap (λ (n : ℕ). counted n (elements_of exts top)) depth ∙ ap (counted (depth_of others top)) elements

  -- the faults behind those of the walk
  same_rest : walk_fault exts top ≡ None → rest_of exts top ≡ rest_of others top
  same_rest none =
      let elements = same_elements exts others LONGEST_CHAIN [] top top_reached in
      let depth = same_chain exts others (suc (length exts)) (suc (length others)) (top.cell ∷ []) top root_open top_reached none in
      let paths = first_some-same (element_fault exts) (element_fault others) (elements_of exts top)
      (λ element here. same_element exts others element (elements_reached exts others LONGEST_CHAIN [] top top_reached element here)) in
      ap (λ (first : Option FlatFault).
      option_or first (option_or (first_fault (class_fault top) (elements_of exts top)) (first_fault (element_fault exts) (elements_of exts top))))
      (same_counts depth elements)
      ∙ ap (λ (last : Option FlatFault). option_or (count_fault others top) (option_or (first_fault (class_fault top) (elements_of exts top)) last)) paths
      ∙ ap (λ (all : List Element).
      option_or (count_fault others top) (option_or (first_fault (class_fault top) all) (first_fault (element_fault others) all))) elements

  -- so the fault is one
  pub same_flat_fault : flat_fault exts top ≡ flat_fault others top
  same_flat_fault = by_walk (walk_fault exts top) refl
    where
      same_walks : walk_fault exts top ≡ walk_fault others top
      same_walks = same_walk exts others (suc (length exts)) (suc (length others)) (top.cell ∷ []) top root_open top_reached

      by_walk : (walk : Option FlatFault) → walk_fault exts top ≡ walk → flat_fault exts top ≡ flat_fault others top
      by_walk None is =
          ap (λ (first : Option FlatFault). option_or first (rest_of exts top)) is ∙ same_rest is
          ∙ sym (ap (λ (first : Option FlatFault). option_or first (rest_of others top)) (sym same_walks ∙ is))
      by_walk (Some fault) is =
          ap (λ (first : Option FlatFault). option_or first (rest_of exts top)) is
          ∙ sym (ap (λ (first : Option FlatFault). option_or first (rest_of others top)) (sym same_walks ∙ is))
