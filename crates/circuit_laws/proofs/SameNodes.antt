-- Two circuits of the same elements have the same nodes.
use Rattle.circuit_laws.proofs.Common.{◌≡◌, ℕ, pos, List, [], map, inl, refl, sym, ◌∙◌, ap, subst, if◌then◌else◌, ◌+ℤ◌, find, In, sum_on}
use Rattle.circuit_laws.proofs.Common.{Chain-append, Chain-either_back, Square, NodeRec, names_of, Element, name_in, full_names, AreLinked}
use Rattle.circuit_laws.proofs.Common.{AreInNameOrder, is_among, gives_name, IsPlaced, AreFlatNodes}
use Rattle.std.proofs.Common.{◌<◌, ℤ, get_or, drop}
use Rattle.std.proofs.lemmas.List.{ext_get_or, map-id}
use Rattle.std.proofs.lemmas.Option.{same_Some}
use Rattle.full_names.specs.ExtModel.declared.records.MergeRec.{MergeRec}
use Rattle.full_names.specs.CircuitModel.Elements.{placed}
use Rattle.full_names.specs.CircuitModel.FlatNodes.{sum_of, measure_of, IsFlatNode}
use Rattle.circuit_laws.proofs.SameLists.{same_by_name}

-- what has one name of a node has all names of each other node that has it
names_over : {elements : List Element} {classes : ℕ} {one other : NodeRec} {shared : List ℕ} → IsFlatNode elements classes one
    → IsFlatNode elements classes other → In shared (names_of one) → In shared (names_of other) → (name : List ℕ) → In name (names_of one)
    → In name (names_of other)
names_over {elements} {classes} {one} {other} {shared} is_one is_other has_one has_other name here =
    let to_shared = ((is_one.names shared).0 has_one).1 in
    let from_other = ((is_other.names shared).0 has_other).1 in
    let to_name = (is_one.names name).0 here in
    (is_other.names name).1 (to_name.0, Chain-append from_other (Chain-append (Chain-either_back (AreLinked elements) to_shared) to_name.1))

-- the names of a flat node stand in their own order
by_themselves : {elements : List Element} {classes : ℕ} {node : NodeRec} → IsFlatNode elements classes node
    → AreInNameOrder (map (λ (name : List ℕ). name) (names_of node))
by_themselves {node = node} is = subst AreInNameOrder (sym (map-id (names_of node))) is.in_order

-- flat nodes that share a name have the same names
same_names : {elements : List Element} {classes : ℕ} {one other : NodeRec} {shared : List ℕ} → IsFlatNode elements classes one
    → IsFlatNode elements classes other → In shared (names_of one) → In shared (names_of other) → names_of one ≡ names_of other
same_names {one = one} {other = other} is_one is_other has_one has_other =
    same_by_name (λ (name : List ℕ). name) (names_of one) (names_of other) (by_themselves is_one) (by_themselves is_other)
    (names_over is_one is_other has_one has_other) (names_over is_other is_one has_other has_one)

-- The two nodes are at one point and of one kind.
record AreAlike (one other : NodeRec) : Type 0 where
  pub point : Path Square (record { x = one.x; y = one.y }) (record { x = other.x; y = other.y })
  pub kind : one.kind ≡ other.kind

-- nodes with the same preferred name are
placed_alike : {elements : List Element} {one other : NodeRec} → IsPlaced elements one → IsPlaced elements other → one.name ≡ other.name
    → AreAlike one other
placed_alike {elements} {one} {other} p q same =
    let first : p.element ≡ q.element =
    same_Some p.element q.element
    (sym p.first ∙ ap (λ (name : List ℕ). find (λ element. is_among (full_names element) name) elements) same ∙ q.first) in
    let part : p.part ≡ q.part =
    same_Some p.part q.part (sym p.carrier ∙ (λ i. find (gives_name (first i) (same i)) (first i).ext.nodes) ∙ q.carrier) in
    record {
      point = p.point ∙ (λ i. placed (first i).uses (record { x = (part i).x; y = (part i).y })) ∙ sym q.point;
      kind = p.kind ∙ ap (λ (of : NodeRec). of.kind) part ∙ sym q.kind;
    }

-- what all elements have of nodes with the same names
same_sums : (one other : NodeRec) (elements : List Element) (of_node : NodeRec → ℤ) (of_merge : MergeRec → ℤ) → names_of one ≡ names_of other
    → sum_of one of_node of_merge elements ≡ sum_of other of_node of_merge elements
same_sums one other elements of_node of_merge same =
    ap (λ (names : List (List ℕ)). sum_on
    (λ element. sum_on (λ (part : NodeRec). if is_among names (name_in element part.name) then of_node part else pos 0) element.ext.nodes
    +ℤ sum_on (λ (merge : MergeRec). if is_among names (name_in element merge.first) then of_merge merge else pos 0) element.ext.merges)
    elements) same

-- the areas and perimeters of nodes with the same names
same_measures : {elements : List Element} {classes : ℕ} {one other : NodeRec} → IsFlatNode elements classes one → IsFlatNode elements classes other
    → names_of one ≡ names_of other → one.measures ≡ other.measures
same_measures {elements} {classes} {one} {other} p q same =
    ext_get_or (pos 0, pos 0) one.measures other.measures (p.measured ∙ sym q.measured)
    (λ class within.
    let below : class < classes = subst (λ (n : ℕ). class < n) p.measured within in
    let area =
    p.areas class below
    ∙ same_sums one other elements (λ part. (measure_of class part.measures).0) (λ merge. (measure_of class merge.measures).0) same
    ∙ sym (q.areas class below) in
    let perimeter =
    p.perimeters class below
    ∙ same_sums one other elements (λ part. (measure_of class part.measures).1) (λ merge. (measure_of class merge.measures).1) same
    ∙ sym (q.perimeters class below) in
    (λ i. (area i, perimeter i)))

-- flat nodes with the same names are one
same_node : {elements : List Element} {classes : ℕ} {one other : NodeRec} → IsFlatNode elements classes one → IsFlatNode elements classes other
    → names_of one ≡ names_of other → one ≡ other
same_node {elements} {classes} {one} {other} p q same =
    let name : one.name ≡ other.name = ap (λ (names : List (List ℕ)). get_or names 0 []) same in
    let aliases : one.aliases ≡ other.aliases = ap (λ (names : List (List ℕ)). drop 1 names) same in
    let alike = placed_alike p.place q.place name in
    let cap = p.cap ∙ same_sums one other elements (λ part. part.cap) (λ merge. merge.cap) same ∙ sym q.cap in
    let measures = same_measures p q same in
    (λ i. record {
      name = name i;
      aliases = aliases i;
      cap = cap i;
      x = (alike.point i).x;
      y = (alike.point i).y;
      kind = alike.kind i;
      measures = measures i;
    })

-- each node of the one circuit is a node of the other
nodes_over : {elements : List Element} {classes : ℕ} {ones others : List NodeRec} → AreFlatNodes elements classes ones
    → AreFlatNodes elements classes others → (node : NodeRec) → In node ones → In node others
nodes_over {others = others} p q node here =
    let is = p.sound node here in
    let own = (is.names node.name).0 (inl refl) in
    let found = q.total node.name own.0 in
    let other = found.0 in
    let is_other = q.sound other found.1.0 in
    subst (λ (n : NodeRec). In n others) (same_node is_other is (same_names is_other is found.1.1 (inl refl))) found.1.0

-- the flat nodes of given elements are one list
pub same_nodes : {elements : List Element} {classes : ℕ} {ones others : List NodeRec} → AreFlatNodes elements classes ones
    → AreFlatNodes elements classes others → ones ≡ others
same_nodes {ones = ones} {others = others} p q =
    same_by_name (λ node. node.name) ones others p.in_order q.in_order (nodes_over p q) (nodes_over q p)
