-- Two circuits with the same nodes have the same transistors.
use Rattle.circuit_laws.proofs.Common.{◌≡◌, ℕ, pos, List, [], ◌∷◌, refl, sym, ◌∙◌, ap, subst, if◌then◌else◌, bytes_eq, In, sum_on, In-map}
use Rattle.circuit_laws.proofs.Common.{In-map_source, Square, NodeRec, TermRec, FetRec, Element, side_name, IsFlatFet, AreFlatFets}
use Rattle.circuit_laws.proofs.SameLists.{same_by_name}

-- each terminal of the one flat transistor is a terminal of the other
terminals_over : {nodes : List NodeRec} {element : Element} {fet one other : FetRec} → IsFlatFet nodes element fet one
    → IsFlatFet nodes element fet other → (side : TermRec) → In side one.terminals → In side other.terminals
terminals_over {nodes} {element} {fet} {one} {other} p q side here =
    let of = (p.terminals side.node).0 (In-map (λ (s : TermRec). s.node) side one.terminals here) in
    let found = In-map_source (λ (s : TermRec). s.node) side.node other.terminals ((q.terminals side.node).1 of) in
    let node : found.0.node ≡ side.node = found.1.1 in
    let length : found.0.length ≡ side.length =
    q.lengths found.0 found.1.0
    ∙ ap (λ (name : List ℕ). sum_on
    (λ (part : TermRec). if bytes_eq name (side_name nodes element part) then part.length else pos 0) fet.terminals) node
    ∙ sym (p.lengths side here) in
    let same : found.0 ≡ side = (λ i. record { node = node i; length = length i }) in
    subst (λ (s : TermRec). In s other.terminals) same found.1.0

-- what one transistor is between flat nodes is one flat transistor
same_fet : {nodes : List NodeRec} {element : Element} {fet one other : FetRec} → IsFlatFet nodes element fet one
    → IsFlatFet nodes element fet other → one ≡ other
same_fet {one = one} {other = other} p q =
    let kind : one.kind ≡ other.kind = p.kind ∙ sym q.kind in
    let point : Path Square (record { x = one.x; y = one.y }) (record { x = other.x; y = other.y }) = p.point ∙ sym q.point in
    let area : one.area ≡ other.area = p.area ∙ sym q.area in
    let perimeter : one.perimeter ≡ other.perimeter = p.perimeter ∙ sym q.perimeter in
    let substrate : one.substrate ≡ other.substrate = p.substrate ∙ sym q.substrate in
    let gate : one.gate.node ≡ other.gate.node = p.gate ∙ sym q.gate in
    let gate_length : one.gate.length ≡ other.gate.length = p.gate_length ∙ sym q.gate_length in
    let terminals : one.terminals ≡ other.terminals =
    same_by_name (λ (s : TermRec). s.node) one.terminals other.terminals p.in_order q.in_order (terminals_over p q) (terminals_over q p) in
    (λ i. record {
      kind = kind i;
      x = (point i).x;
      y = (point i).y;
      area = area i;
      perimeter = perimeter i;
      substrate = substrate i;
      gate = record { node = gate i; length = gate_length i };
      terminals = terminals i;
    })

-- the flat transistors between given nodes are one list
pub same_fets : (nodes : List NodeRec) (fets : List (Element × FetRec)) (ones others : List FetRec) → AreFlatFets nodes fets ones
    → AreFlatFets nodes fets others → ones ≡ others
same_fets nodes [] [] [] p q = refl
same_fets nodes [] [] (other ∷ others) p q = absurd q
same_fets nodes [] (one ∷ ones) others p q = absurd p
same_fets nodes (fet ∷ fets) [] others p q = absurd p
same_fets nodes (fet ∷ fets) (one ∷ ones) [] p q = absurd q
same_fets nodes (fet ∷ fets) (one ∷ ones) (other ∷ others) p q =
    let first : one ≡ other = same_fet p.0 q.0 in
    let rest = same_fets nodes fets ones others p.1 q.1 in
    (λ i. first i ∷ rest i)
