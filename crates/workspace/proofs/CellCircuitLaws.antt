-- The records of a clean cell and of all below it: what they mean.
use Rattle.workspace.proofs.Common.{◌≡◌, ◌<◌, ◌∙◌, ℕ, List, length, Option, Some, refl, sym, ap, subst, inl, inr, IsSome, FlatTooMany, IsFlatFaultOf}
use Rattle.workspace.proofs.Common.{IsFlatOf, IsCleanCell, IsLawfulLibrary, LibraryParts, seen, view_at, own_body, HasTreeRecords, named_tree_at}
use Rattle.ext_cache.proofs.LibraryTrees.TreeNames.TreeElements.{top_record}
use Rattle.ext_model.specs.declared.circuits.Circuit.{Circuit}
use Rattle.ext_model.specs.declared.records.CellExt.{CellExt}
use Rattle.circuit_model.specs.declared.faults.FlatFault.{FlatFault}
use Rattle.circuit_model.specs.declared.limits.CircuitLimit.{CircuitLimit}
use Rattle.circuit_model.specs.declared.limits.CircuitLimit.TheVariants.{Nodes, Names}
use Rattle.circuit_model.specs.Elements.{AreRecords, ext_of}
use Rattle.circuit_laws.specs.CircuitLaws.{FlatTransistorsHaveLetterAndLengths}
use Rattle.tree_circuits.specs.Laws.{RecordsStandForTheFlatLayout, TreeRecordsHaveNoOtherFault}
use Rattle.ext_cache.specs.LibraryTrees.Laws.{AreChainsShort, CleanCellHasCleanTree}
use Rattle.workspace.proofs.CellNames.{tree_named}
use Rattle.circuit_laws.specs.NetworkLaws.{FlatCircuitsHaveLetters, FlatNetworksFit, FlatNetworksHaveTheNodes}
use Rattle.workspace.specs.CellCircuits.{IsCircuitAt, IsSimulableCircuitAt, PassesAt}
use Rattle.workspace.proofs.StandingLaws.{few_elements}

module _ (library : LibraryParts) (lawful : IsLawfulLibrary library) (cell : ℕ) (there : cell < length library.contents)
    (clean : IsCleanCell (seen library) cell) (exts : List CellExt) (are : AreRecords exts)
    (tree : HasTreeRecords library.tech exts (named_tree_at (seen library) cell)) where
  -- the name of the cell is that of its tree
  name_is : (own_body (named_tree_at (seen library) cell)).name ≡ (view_at (seen library) cell).name
  name_is = tree_named library lawful cell there

  -- one of them is that of the cell
  pub root_found : IsSome (ext_of exts (view_at (seen library) cell).name)
  root_found =
      let top = top_record library.tech exts (named_tree_at (seen library) cell) tree in
      let found : ext_of exts (view_at (seen library) cell).name ≡ Some top.ext = ap (ext_of exts) (sym name_is) ∙ top.found in
      subst (λ (one : Option CellExt). IsSome one) (sym found) refl

  -- what they mean is the circuit of the cell
  pub circuit_is : RecordsStandForTheFlatLayout → CleanCellHasCleanTree library cell → AreChainsShort library → (circuit : Circuit)
      → IsFlatOf exts (view_at (seen library) cell).name circuit → IsCircuitAt (seen library) cell circuit
  circuit_is stand cleans short circuit flat = record {
    exts = exts;
    are_records = tree;
    is_flat = flat;
    is_circuit = stand library.tech exts (named_tree_at (seen library) cell) flat.top circuit lawful.well_formed lawful.rules (cleans clean) tree
        (ap (ext_of exts) name_is ∙ flat.found) (short.chain cell there) flat.meaning;
  }

  -- sim records can be made of it, and a network of these
  pub simulable_is : RecordsStandForTheFlatLayout → CleanCellHasCleanTree library cell → AreChainsShort library → FlatTransistorsHaveLetterAndLengths
      → FlatNetworksFit → FlatNetworksHaveTheNodes → FlatCircuitsHaveLetters library.tech → (circuit : Circuit)
      → IsFlatOf exts (view_at (seen library) cell).name circuit → IsSimulableCircuitAt (seen library) cell circuit
  simulable_is stand cleans short lengths fit have letters circuit flat =
      let is = circuit_is stand cleans short circuit flat in (
        is,
        lengths exts (view_at (seen library) cell).name circuit are flat,
        record {
          letters = letters (named_tree_at (seen library) cell) circuit is.is_circuit;
          few_nodes = fit exts (view_at (seen library) cell).name circuit are flat;
          same_nodes = λ net names is_net.
              have exts (view_at (seen library) cell).name circuit net names are flat is_net.is_network is_net.in_order;
        },
      )

  -- or it passes a limit
  pub passes_limit : (limit : CircuitLimit) → IsFlatFaultOf exts (view_at (seen library) cell).name (FlatTooMany limit) → PassesAt (seen library) cell limit
  passes_limit limit fault = record { exts = exts; are_records = tree; is_fault = fault }

  -- and they have no other fault
  pub no_other_fault : TreeRecordsHaveNoOtherFault → CleanCellHasCleanTree library cell → AreChainsShort library → (fault : FlatFault)
      → IsFlatFaultOf exts (view_at (seen library) cell).name fault → (limit : CircuitLimit) × (fault ≡ FlatTooMany limit)
  no_other_fault others cleans short fault is =
      let named = subst (λ (name : List ℕ). IsFlatFaultOf exts name fault) (sym name_is) is in
      elim (others library.tech exts (named_tree_at (seen library) cell) fault lawful.well_formed (cleans clean) tree (short.chain cell there)
      (few_elements library lawful cell there) named) [
        | inl nodes ↦ (Nodes, nodes)
        | inr names ↦ (Names, names)
      ]
