-- Each transistor of the circuit of a flat layout has a letter that makes a switch.
use Rattle.circuit_laws.proofs.Common.{◌≡◌, ℕ, List, [], ◌∷◌, length, sym, subst, arith, All-contains, In, Contains-from_In, In-index, All-from_In}
use Rattle.circuit_laws.proofs.Common.{In-flat_map_source, FetRec, sim_of, letter_of, switches_of}
use Rattle.std.proofs.Common.{◌<◌, true, IsTrue}
use Rattle.std.specs.Prelude.{slice_index_or}
use Rattle.tech_model.specs.declared.raw.FetRule.{FetRule}
use Rattle.tech_model.specs.declared.raw.RawTech.{RawTech}
use Rattle.tech_model.specs.Forms.{is_fet_name}
use Rattle.tech_model.specs.Rules.{KeepsRules}
use Rattle.tree_records.specs.NamedTrees.{NamedTree}
use Rattle.tree_records.specs.TreeCircuits.{AreFlatFetRecords, IsFlatFetRecord}
use Rattle.sim_records.specs.SimText.Parts.{is_letter}
use Rattle.sim_networks.specs.SimNetworks.{HasLetter}
use Rattle.circuit_laws.specs.NetworkLaws.{FlatCircuitsHaveLetters}
use Rattle.circuit_laws.proofs.FetSwitches.{switch_of_fet}

-- the name of a transistor begins with a letter that makes a switch
letter_of_name : (name : List ℕ) → IsTrue (is_fet_name name) → is_letter (letter_of name) ≡ true
letter_of_name [] is = cc
letter_of_name (byte ∷ bytes) is = is

-- what stands in a list that is not empty
some_of : {X : Type 0} (xs : List X) (k : ℕ) → k < length xs → X
some_of [] k below = absurd (omega arith)
some_of (x ∷ xs) k below = x

-- the letter of a transistor of a flat layout makes a switch
letter_of_fet : (raw : RawTech) (tree : NamedTree) → KeepsRules raw → (fets : List FetRec) → AreFlatFetRecords raw tree fets
    → (fet : FetRec) → In fet fets → is_letter (letter_of fet.kind) ≡ true
letter_of_fet raw tree keeps fets are fet here =
    let at = In-index fet fets here in
    let long = are.one_each in
    let below : at.0 < length are.found = omega (arith, at.1.0, long) in
    let is = subst (IsFlatFetRecord raw tree (slice_index_or are.found at.0 (some_of are.found at.0 below))) (at.1.1 fet)
    (are.each at.0 (some_of are.found at.0 below) fet below) in
    let named = All-contains (λ (rule : FetRule). IsTrue (is_fet_name rule.name)) raw.fets is.rule keeps.fets_named
    (Contains-from_In is.rule raw.fets is.listed) in
    subst (λ (name : List ℕ). is_letter (letter_of name) ≡ true) (sym is.kind) (letter_of_name is.rule.name named)

pub flat_circuits_have_letters : (raw : RawTech) → KeepsRules raw → FlatCircuitsHaveLetters raw
flat_circuits_have_letters raw keeps tree circuit is =
    All-from_In HasLetter (sim_of circuit).fets
    (λ switch here.
    let source = In-flat_map_source switches_of switch circuit.fets here in
    let letter = (switch_of_fet source.0 switch source.1.1).letter in
    subst (λ (byte : ℕ). is_letter byte ≡ true) (sym letter)
    (letter_of_fet raw tree keeps circuit.fets is.fets source.0 source.1.0))
