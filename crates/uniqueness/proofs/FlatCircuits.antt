-- Records that are reached alike mean one circuit, or have one fault.
use Rattle.uniqueness.proofs.Common.{◌≡◌, ℕ, List, [], sym, ap, ◌∙◌, subst, Option, Some, None, stay, Circuit, CellExt, FlatFault, Element}
use Rattle.uniqueness.proofs.Common.{elements_of, ext_of, IsFlatFaultOf, IsFlatOf, flat_fault, AgreeBelow}
use Rattle.circuit_commands.specs.CircuitModel.declared.limits.TheConstants.{LONGEST_CHAIN}
use Rattle.circuit_commands.specs.CircuitModel.Circuits.{IsCircuitOf}
use Rattle.circuit_commands.specs.CircuitLaws.CircuitLaws.{CircuitsAreUnique}
use Rattle.uniqueness.proofs.ReachedElements.{same_elements}
use Rattle.uniqueness.proofs.ReachedFaults.{same_flat_fault}

-- what is found is one thing
one_found : {X : Type 0} (found : Option X) (a b : X) → found ≡ Some a → found ≡ Some b → a ≡ b
one_found found a b here also = cc

-- and nothing is not found
none_found : {X : Type 0} (found : Option X) (a : X) → found ≡ None → found ≡ Some a → ⊥
none_found found a none here = cc

module _ (exts others : List CellExt) (root : List ℕ) (agree : AgreeBelow exts others root) where
  -- the root has one record
  same_top : (top other : CellExt) → ext_of exts root ≡ Some top → ext_of others root ≡ Some other → top ≡ other
  same_top top other found also = one_found (ext_of others root) top other (sym (agree root stay) ∙ found) also

  -- there is one circuit
  pub same_flat : CircuitsAreUnique → (one other : Circuit) → IsFlatOf exts root one → IsFlatOf others root other → one ≡ other
  same_flat unique one other p q =
      let tops = same_top p.top q.top p.found q.found in
      let elements = same_elements exts others LONGEST_CHAIN [] p.top (record { cell = root; agree = agree; found = p.found }) in
      let there = subst (λ (top : CellExt). IsCircuitOf (elements_of others top) top other) (sym tops) q.meaning in
      unique exts p.top one other p.meaning (subst (λ (all : List Element). IsCircuitOf all p.top other) (sym elements) there)

  -- the fault of the one root is that of the other
  same_roots : (top other : CellExt) → ext_of exts root ≡ Some top → ext_of others root ≡ Some other → flat_fault exts top ≡ flat_fault others other
  same_roots top other found also =
      same_flat_fault exts others root top agree found (sym (agree root stay) ∙ found) ∙ ap (flat_fault others) (same_top top other found also)

  -- there is one fault
  pub same_fault : (fault other : FlatFault) → IsFlatFaultOf exts root fault → IsFlatFaultOf others root other → fault ≡ other
  same_fault fault other p q =
      one_found (flat_fault others q.top) fault other (sym (same_roots p.top q.top p.found q.found) ∙ p.faulty) q.faulty

  -- or a circuit, and none
  pub no_fault : (circuit : Circuit) (fault : FlatFault) → IsFlatOf exts root circuit → ¬ (IsFlatFaultOf others root fault)
  no_fault circuit fault p q =
      none_found (flat_fault others q.top) fault (sym (same_roots p.top q.top p.found q.found) ∙ p.sound) q.faulty

  pub no_circuit : (circuit : Circuit) (fault : FlatFault) → IsFlatFaultOf exts root fault → ¬ (IsFlatOf others root circuit)
  no_circuit circuit fault p q =
      none_found (flat_fault others q.top) fault q.sound (sym (same_roots p.top q.top p.found q.found) ∙ p.faulty)
