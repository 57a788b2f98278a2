-- The flat circuit of given records is unique.
use Rattle.circuit_laws.proofs.Common.{◌≡◌, List, sym, ◌∙◌, subst, NodeRec, CellExt, Circuit, Element, elements_of, fets_of, AreFlatFets}
use Rattle.full_names.specs.CircuitModel.Circuits.{IsCircuitOf}
use Rattle.circuit_laws.specs.CircuitLaws.{CircuitsAreUnique}
use Rattle.circuit_laws.proofs.SameNodes.{same_nodes}
use Rattle.circuit_laws.proofs.SameFets.{same_fets}

-- any elements mean one circuit at most
pub same_circuit : (elements : List Element) (root : CellExt) (one other : Circuit) → IsCircuitOf elements root one
    → IsCircuitOf elements root other → one ≡ other
same_circuit elements root one other p q =
    let tech : one.tech ≡ other.tech = p.tech ∙ sym q.tech in
    let classes : one.classes ≡ other.classes = p.classes ∙ sym q.classes in
    let nodes : one.nodes ≡ other.nodes = same_nodes p.nodes q.nodes in
    let between = subst (λ (of : List NodeRec). AreFlatFets of (fets_of elements) one.fets) nodes p.fets in
    let fets : one.fets ≡ other.fets = same_fets other.nodes (fets_of elements) one.fets other.fets between q.fets in
    (λ i. record { tech = tech i; classes = classes i; nodes = nodes i; fets = fets i })

pub circuits_are_unique : CircuitsAreUnique
circuits_are_unique exts root = same_circuit (elements_of exts root) root
