-- What the groups whose names a flat node has have together is what the weight is on the flat node's places.
use Rattle.tree_circuits.proofs.Common.{◌≡◌, ◌⊎◌, ℕ, ℤ, pos, ◌+ℤ◌, Bool, true, cond, List, [], ◌∷◌, inl, inr, refl, sym, ◌∙◌, ap, subst, arith}
use Rattle.tree_circuits.proofs.Common.{cases_Bool, ints, bytes_eq-Decides, bytes_eq, stay, go, In, Distinct, Total, Chain-append, In-map}
use Rattle.tree_circuits.proofs.Common.{In-map_source, Total-at, Total-iff, In-from_list_any, list_any-of_In, AreOneForOne, RawTech, KeepsRules}
use Rattle.tree_circuits.proofs.Common.{IsWellFormed, full_name, names_of, CellExt, NodeRec, Place, Element, IsFlatNode, flat_layout, AreOneFlatNode}
use Rattle.tree_circuits.proofs.Common.{HasNodePath, IsGroupName, NamedTree, named_standings, PlaceWeight, IsGroupTotal, HasTreeRecords, IsCleanTree}
use Rattle.tree_circuits.proofs.Common.{IsElementFor, path_full, flat_node_names, names_one_flat_node, is_named, AreGroupTotals, sum_passing}
use Rattle.std.proofs.lemmas.Bool.{false≢true}
use Rattle.finite_sets.proofs.Chains.{Chain-either_back}
use Rattle.finite_sets.proofs.Totals.{Total-none, Total-union}
use Rattle.tree_names.specs.CircuitModel.FullNames.{AreLinked}
use Rattle.tree_names.proofs.GroupMerges.{has_group}
use Rattle.tree_names.proofs.GroupNames.{one_group_name}
use Rattle.tree_names.proofs.GroupNodes.{flat_node_back, one_flat_node}
use Rattle.tree_names.proofs.NodeNames.{linked_path}
use Rattle.tree_names.proofs.RecordedNodes.{path_material}
use Rattle.tree_names.proofs.Representatives.{group_has_path}
use Rattle.tree_names.proofs.TreeElements.{top_record}
use Rattle.tree_circuits.proofs.NamedSums.{names_in}

-- One of the groups of the list has the place, and its name passes.
record IsOfPassing (raw : RawTech) (tree : NamedTree) (passes : List ℕ → Bool) (groups : List (List ℕ × ℤ)) (place : Place) : Type 0 where
  group : List ℕ × ℤ
  listed : In group groups
  passing : passes group.0 ≡ true
  named : IsGroupName raw tree place group.0

-- a group more
later_passing : (raw : RawTech) (tree : NamedTree) (passes : List ℕ → Bool) (first : List ℕ × ℤ) (groups : List (List ℕ × ℤ)) (place : Place)
    → IsOfPassing raw tree passes groups place → IsOfPassing raw tree passes (first ∷ groups) place
later_passing raw tree passes first groups place of =
    record { group = of.group; listed = inr of.listed; passing = of.passing; named = of.named }

-- different groups have different places, and so their totals add up
passing_total : (raw : RawTech) (tree : NamedTree) (weight : PlaceWeight) (passes : List ℕ → Bool) (groups : List (List ℕ × ℤ))
    → Distinct (names_in groups) → ((group : List ℕ × ℤ) → In group groups → IsGroupTotal raw weight tree group.0 group.1)
    → Total (IsOfPassing raw tree passes groups) (weight (flat_layout raw tree)) (sum_passing passes groups)
passing_total raw tree weight passes [] differ totals =
    Total-none (IsOfPassing raw tree passes []) (weight (flat_layout raw tree)) (λ place of. of.listed)
passing_total raw tree weight passes (group ∷ groups) differ totals =
    let w : Place → ℤ = weight (flat_layout raw tree) in
    let Mine : Place → Type 0 = λ place. IsGroupName raw tree place group.0 in
    let Rest : Place → Type 0 = IsOfPassing raw tree passes groups in
    let All : Place → Type 0 = IsOfPassing raw tree passes (group ∷ groups) in
    let rest = sum_passing passes groups in
    let total = passing_total raw tree weight passes groups differ.1 (λ one here. totals one (inr here)) in
    elim (cases_Bool (passes group.0)) [
      | inl passed ↦ Total-at All w (group.1 +ℤ rest) (cond (passes group.0) group.1 (pos 0) +ℤ rest)
          (sym (ap (λ (b : Bool). cond b group.1 (pos 0) +ℤ rest) passed))
          (Total-iff (λ place. Mine place ⊎ Rest place) All w (group.1 +ℤ rest)
          (λ place of. elim of [
            | inl mine ↦ record { group = group; listed = inl refl; passing = passed; named = mine }
            | inr later ↦ later_passing raw tree passes group groups place later
          ])
          (λ place of. elim of.listed [
            | inl same ↦ inl (subst (λ (one : List ℕ × ℤ). IsGroupName raw tree place one.0) (sym same) of.named)
            | inr later ↦ inr (record { group = of.group; listed = later; passing = of.passing; named = of.named })
          ])
          (Total-union Mine Rest w group.1 rest
          (λ place mine of.
          let P : List ℕ → Type 0 = λ name. In name (names_in groups) in
          let name : List ℕ × ℤ → List ℕ = λ one. one.0 in
          differ.0 (subst P (one_group_name raw tree place of.group.0 group.0 of.named mine) (In-map name of.group groups of.listed)))
          (totals group (inl refl)) total))
      | inr failed ↦ Total-at All w rest (cond (passes group.0) group.1 (pos 0) +ℤ rest)
          (let none : cond (passes group.0) group.1 (pos 0) ≡ pos 0 = ap (λ (b : Bool). cond b group.1 (pos 0)) failed in omega (arith, ints, none))
          (Total-iff Rest All w rest
          (λ place of. later_passing raw tree passes group groups place of)
          (λ place of. elim of.listed [
            | inl same ↦ absurd (false≢true (sym failed ∙ ap (λ (one : List ℕ × ℤ). passes one.0) same ∙ of.passing))
            | inr later ↦ record { group = of.group; listed = later; passing = of.passing; named = of.named }
          ]) total)
    ]

module _ (raw : RawTech) (well : IsWellFormed raw) (rules : KeepsRules raw) (exts : List CellExt) (tree : NamedTree) (is : IsCleanTree raw tree)
    (has : HasTreeRecords raw exts tree) (elements : List Element) (are : AreOneForOne (IsElementFor raw exts) (named_standings tree) elements) where
  -- a place of a flat node with a path has a path
  flat_path : {a b : Place} (path : List ℕ) → HasNodePath raw tree b path → AreOneFlatNode raw tree a b → (other : List ℕ) × HasNodePath raw tree a other
  flat_path path here stay = (path, here)
  flat_path path here (go {a = a} {b = b} link way) = linked_path raw well rules tree is exts has elements are a b link

  module _ (classes : ℕ) (node : NodeRec) (flat : IsFlatNode elements classes node) (place : Place) (path : List ℕ) (here : HasNodePath raw tree place path)
      (named : In (full_name [] path) (names_of node)) where
    -- places with paths to names of the node are of the flat node
    of_names : (other : Place) (reached : List ℕ) → HasNodePath raw tree other reached → In (full_name [] reached) (names_of node)
        → AreOneFlatNode raw tree place other
    of_names other reached there among =
        names_one_flat_node raw well rules tree is exts has elements are place other path reached here there
        (Chain-append (Chain-either_back (AreLinked elements) ((flat.names (full_name [] path)).0 named).1) ((flat.names (full_name [] reached)).0 among).1)

    -- and paths of places of the flat node lead to names of the node
    has_names : (other : Place) (reached : List ℕ) → HasNodePath raw tree other reached → AreOneFlatNode raw tree place other
        → In (full_name [] reached) (names_of node)
    has_names other reached there together = (flat.names (full_name [] reached)).1 (
      path_full raw well rules tree is exts has elements are other reached there,
      Chain-append ((flat.names (full_name [] path)).0 named).1
          (flat_node_names raw well rules tree is exts has elements are place other path reached here there together),
    )

    module _ (weight : PlaceWeight) (groups : List (List ℕ × ℤ)) (totals : AreGroupTotals raw weight tree groups) where
      -- a place of a group that passes is of the flat node
      passing_is_flat : (other : Place) → IsOfPassing raw tree (is_named node) groups other → AreOneFlatNode raw tree place other
      passing_is_flat other of =
          let found = group_has_path raw tree other of.group.0 of.named in
          let joined = one_flat_node raw well rules tree is.typed is.clean other found.other found.together in
          Chain-append (of_names found.other of.group.0 found.has
          (In-from_list_any bytes_eq bytes_eq-Decides (full_name [] of.group.0) (names_of node) of.passing))
          (flat_node_back raw tree joined)

      -- and the group of a place of the flat node passes
      flat_is_passing : (other : Place) → AreOneFlatNode raw tree place other → IsOfPassing raw tree (is_named node) groups other
      flat_is_passing other together =
          let reached = flat_path path here (flat_node_back raw tree together) in
          let material = path_material raw well rules tree is other reached.0 reached.1 in
          let group = has_group raw well exts tree (top_record raw exts tree has) other material in
          let found = group_has_path raw tree other group.0 group.1 in
          let joined = one_flat_node raw well rules tree is.typed is.clean other found.other found.together in
          let among = has_names found.other group.0 found.has (Chain-append together joined) in
          let listed = In-map_source (λ (one : List ℕ × ℤ). one.0) group.0 groups (totals.named.1 group.0 (other, group.1)) in
          record {
            group = listed.0;
            listed = listed.1.0;
            passing = ap (is_named node) listed.1.1 ∙ list_any-of_In bytes_eq bytes_eq-Decides (full_name [] group.0) (names_of node) among;
            named = subst (IsGroupName raw tree other) (sym listed.1.1) group.1;
          }

      -- so the flat node has what its groups have
      pub flat_total : Total (AreOneFlatNode raw tree place) (weight (flat_layout raw tree)) (sum_passing (is_named node) groups)
      flat_total =
          Total-iff (IsOfPassing raw tree (is_named node) groups) (AreOneFlatNode raw tree place) (weight (flat_layout raw tree))
          (sum_passing (is_named node) groups) passing_is_flat flat_is_passing
          (passing_total raw tree weight (is_named node) groups totals.named.0 totals.totals)
