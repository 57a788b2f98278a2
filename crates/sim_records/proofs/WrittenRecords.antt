-- Sim records are read back from their text.
use Rattle.sim_records.proofs.Common.{◌≡◌, ℤ, ◌+ℤ◌, List, [], ◌∷◌, map, w128, flat_map, NodeRec, TermRec, FetRec, Circuit, SimFet, sim_text}
use Rattle.sim_records.proofs.Common.{switch_between, switches_from, switches_among, switches_of, cap_of, aliases_of, sim_of}
use Rattle.std.proofs.Common.{true, Ok, FitsSigned}
use Rattle.std.proofs.Common.{All}
use Rattle.std.proofs.lemmas.List.Elements.{recursion_from_All, All-nil, All-cons, All-head, All-tail, All-append, All-map, All-weaker}
use Rattle.sim_text.specs.Parts.{is_sim_name}
use Rattle.sim_text.specs.SimTexts.{sim_in}
use Rattle.sim_text.specs.Writable.{IsWritableFet, IsWritableCap, IsWritableAlias, IsWritable}
use Rattle.sim_text.proofs.WrittenBack.{sim_in-sim_text}
use Rattle.sim_records.specs.Switches.{width_of, switches_with}
use Rattle.sim_records.specs.SimNames.{HasSimNodeNames, HasSimFetNames, HasSimNames, HasFetNumbersThatFit, HasNumbersThatFit}
use Rattle.sim_records.proofs.WrittenNumbers.{width_of-fits, width_of-pair-fits, length_of-fits, thousandth-within}

-- The terminal has a name of a sim file, and its length fits.
record IsSimSide (side : TermRec) : Type 0 where
  node : is_sim_name side.node ≡ true
  fits : FitsSigned w128 side.length

-- what holds of all that each element gives holds of all together
all_of_all : {X Y : Type 0} (P : Y → Type 0) (f : X → List Y) (xs : List X) → All (λ x. All P (f x)) xs → All P (flat_map f xs)
all_of_all P f [] all = All-nil P
all_of_all P f (x ∷ xs) all =
    All-append P (f x) (flat_map f xs) (All-head (λ x. All P (f x)) x xs all) (all_of_all P f xs (All-tail (λ x. All P (f x)) x xs all))

-- what holds of two things of each element
all_both : {X : Type 0} (P Q R : X → Type 0) → ((x : X) → P x → Q x → R x) → (xs : List X) → All P xs → All Q xs → All R xs
all_both P Q R joins xs ps qs k d h = joins _ (ps k d h) (qs k d h)

writable_switch : (fet : FetRec) (source drain : TermRec) (lengths : ℤ) → HasSimFetNames fet → HasFetNumbersThatFit fet → IsSimSide source → IsSimSide drain
    → FitsSigned w128 (width_of lengths) → IsWritableFet (switch_between fet source drain lengths)
writable_switch fet source drain lengths names fit from to width = record {
  letter = names.letter;
  gate = names.gate;
  source = from.node;
  drain = to.node;
  numbers = (length_of-fits fet.area lengths fit.area, width, fit.x, fit.y);
}

writable_from : (fet : FetRec) (source : TermRec) (others : List TermRec) → HasSimFetNames fet → HasFetNumbersThatFit fet → IsSimSide source
    → All IsSimSide others → All IsWritableFet (switches_from fet source others)
writable_from fet source others names fit from sides =
    let switch : TermRec → SimFet = λ drain. switch_between fet source drain (source.length +ℤ drain.length) in
    All-map IsWritableFet switch others
    (All-weaker IsSimSide (λ drain. IsWritableFet (switch drain))
    (λ drain to. writable_switch fet source drain (source.length +ℤ drain.length) names fit from to
    (width_of-pair-fits source.length drain.length from.fits to.fits)) others sides)

writable_among : (fet : FetRec) (sides : List TermRec) → HasSimFetNames fet → HasFetNumbersThatFit fet → All IsSimSide sides
    → All IsWritableFet (switches_among fet sides)
writable_among fet [] names fit sides = All-nil IsWritableFet
writable_among fet (source ∷ others) names fit sides =
    let rest = All-tail IsSimSide source others sides in
    All-append IsWritableFet (switches_from fet source others) (switches_among fet others)
    (writable_from fet source others names fit (All-head IsSimSide source others sides) rest) (writable_among fet others names fit rest)

writable_with : (fet : FetRec) (sides : List TermRec) → HasSimFetNames fet → HasFetNumbersThatFit fet → All IsSimSide sides
    → All IsWritableFet (switches_with fet sides)
writable_with fet [] names fit sides = All-nil IsWritableFet
writable_with fet (one ∷ []) names fit sides =
    let side = All-head IsSimSide one [] sides in
    All-cons IsWritableFet (switch_between fet one one one.length) []
    (writable_switch fet one one one.length names fit side side (width_of-fits one.length side.fits)) (All-nil IsWritableFet)
writable_with fet (one ∷ other ∷ others) names fit sides = writable_among fet (one ∷ other ∷ others) names fit sides

writable_switches : (fet : FetRec) → HasSimFetNames fet → HasFetNumbersThatFit fet → All IsWritableFet (switches_of fet)
writable_switches fet names fit =
    writable_with fet fet.terminals names fit
    (all_both (λ side. is_sim_name side.node ≡ true) (λ side. FitsSigned w128 side.length) IsSimSide
    (λ side node length. record { node = node; fits = length }) fet.terminals names.terminals fit.lengths)

writable_aliases : (node : NodeRec) → HasSimNodeNames node → All IsWritableAlias (aliases_of node)
writable_aliases node names =
    All-map IsWritableAlias (λ alias. (node.name, alias)) node.aliases
    (All-weaker (λ alias. is_sim_name alias ≡ true) (λ alias. IsWritableAlias (node.name, alias))
    (λ alias is. record { node = names.name; alias = is }) node.aliases names.aliases)

writable_records : (circuit : Circuit) → HasSimNames circuit → HasNumbersThatFit circuit → IsWritable (sim_of circuit)
writable_records circuit names fit = record {
  tech = names.tech;
  fets = recursion_from_All IsWritableFet (flat_map switches_of circuit.fets)
      (all_of_all IsWritableFet switches_of circuit.fets
      (all_both HasSimFetNames HasFetNumbersThatFit (λ fet. All IsWritableFet (switches_of fet)) writable_switches circuit.fets names.fets fit.fets));
  caps = recursion_from_All IsWritableCap (map cap_of circuit.nodes)
      (All-map IsWritableCap cap_of circuit.nodes
      (all_both HasSimNodeNames (λ node. FitsSigned w128 node.cap) (λ node. IsWritableCap (cap_of node))
      (λ node is fits. record { node = is.name; within = thousandth-within node.cap fits }) circuit.nodes names.nodes fit.caps));
  aliases = recursion_from_All IsWritableAlias (flat_map aliases_of circuit.nodes)
      (all_of_all IsWritableAlias aliases_of circuit.nodes
      (All-weaker HasSimNodeNames (λ node. All IsWritableAlias (aliases_of node)) writable_aliases circuit.nodes names.nodes));
}

pub sim_of-read_back : (circuit : Circuit) → HasSimNames circuit → HasNumbersThatFit circuit → sim_in (sim_text (sim_of circuit)) ≡ Ok (sim_of circuit)
sim_of-read_back circuit names fit = sim_in-sim_text (sim_of circuit) (writable_records circuit names fit)
