-- The circuit of nodes and of the transistors that a sink was given.
use Rattle.flatten.proofs.Common.{◌≡◌, ℕ, List, length, sym, ◌∙◌, subst, NodeRec, FetRec, CellExt, Element, fets_of, GivenCircuit, IsGiven}
use Rattle.circuit_model.specs.Circuits.{IsCircuitOf}
use Rattle.circuit_model.specs.FlatNodes.{AreFlatNodes}
use Rattle.circuit_model.specs.FlatFets.{AreFlatFets}

-- flat nodes and the flat transistors between them are the circuit
pub given_is : {S : Type 0} (has : S → List ℕ → List FetRec → Type 0) (elements : List Element) (top : CellExt) (given : GivenCircuit S)
    (measured : ℕ) (nodes between : List NodeRec) (fets : List FetRec) → AreFlatNodes elements measured nodes
    → AreFlatFets between (fets_of elements) fets → has given.sink top.tech fets → given.tech ≡ top.tech → given.classes ≡ top.classes
    → given.nodes ≡ nodes → between ≡ nodes → measured ≡ length top.classes → IsGiven has (IsCircuitOf elements top) given
given_is has elements top given measured nodes between fets flat are had tech classes same there many = (
  fets,
  (
    subst (λ (t : List ℕ). has given.sink t fets) (sym tech) had,
    record {
      tech = tech;
      classes = classes;
      nodes = subst (AreFlatNodes elements (length top.classes)) (sym same) (subst (λ (n : ℕ). AreFlatNodes elements n nodes) many flat);
      fets = subst (λ (l : List NodeRec). AreFlatFets l (fets_of elements) fets) (there ∙ sym same) are;
    },
  ),
)
