-- Sim records have one network: a node that has a name in the one has that number in the other.
use Rattle.uniqueness.proofs.Common.{◌≡◌, inl, inr, ◌<◌, ◌≤◌, ℕ, zero, suc, Bool, true, false, List, [], ◌∷◌, length, refl, sym, ◌∙◌, ap, subst}
use Rattle.uniqueness.proofs.Common.{arith, Option, Some, slice_get, cases_lt, cases_order, get_or_default, same_lists, stay, IsLeast, In, In-index}
use Rattle.uniqueness.proofs.Common.{HasName, NameNodesBelow, NameOneNodeEach, Network, IsNetworkOf, SimRecords, IsNumbered, NameAlike}
use Rattle.std.proofs.lemmas.Option.{slice_get-get_or}
use Rattle.finite_sets.proofs.Leasts.{IsLeast-iff}
use Rattle.switch_net.specs.declared.switches.Switch.{Switch}
use Rattle.switch_net.specs.declared.switches.SwitchKind.{SwitchKind}
use Rattle.switch_net.specs.declared.switches.SwitchKind.TheVariants.{N, P, D}
use Rattle.switch_net.specs.Path.{is_input}
use Rattle.switch_net.specs.SimRecords.{AreOfOneNode, AreTransistors, IsLetterOf, TransistorLine}
use Rattle.network_commands.specs.SimNetworks.steps.Numbering.{arrivals}
use Rattle.network_commands.specs.SimNetworks.SimNetworks.{StandsAt}
use Rattle.network_commands.proofs.SimNetworks.NodeLaws.{to_arrivals}
use Rattle.vector_runs.proofs.RailStates.{same_networks}

-- ---- names

-- no name of a network has two nodes
pub one_node_each : (records : SimRecords) (net : Network) (names : List (List ℕ × ℕ)) → IsNetworkOf records net names → NameOneNodeEach names
one_node_each records net names is name v w here also = (is.classes name name v w here also).1 stay

-- the node of a name is one of the network
pub nodes_below : (records : SimRecords) (net : Network) (names : List (List ℕ × ℕ)) → IsNetworkOf records net names → NameNodesBelow net.nodes names
nodes_below records net names is name v here = (is.stands name v here).1

-- one name at one place
one_name : (found : Option (List ℕ)) (a b : List ℕ) → found ≡ Some a → found ≡ Some b → a ≡ b
one_name found a b is also = cc

-- ---- the least place

-- a number below such that has the fact, where none is the least that has it
no_number : (Has : ℕ → Type 0) → ((m : ℕ) → IsLeast ◌≤◌ Has m → ⊥) → (bound k : ℕ) → k < bound → Has k → ⊥
no_number Has none zero k below has = absurd (omega arith)
no_number Has none (suc bound) k below has = elim (cases_lt k bound) [
  | inl less ↦ no_number Has none bound k less has
  | inr not_less ↦ (let same : k ≡ bound = omega (arith, below, not_less) in
      none bound (
        subst Has same has,
        λ other found. elim (cases_lt other bound) [
          | inl earlier ↦ absurd (no_number Has none bound other earlier found)
          | inr later ↦ omega (arith, later)
        ],
      ))
]

-- it cannot be that a number has the fact and none is the least
not_without_least : (Has : ℕ → Type 0) (k : ℕ) → Has k → ¬ ((m : ℕ) → IsLeast ◌≤◌ Has m → ⊥)
not_without_least Has k has none = no_number Has none (suc k) k (omega arith) has

-- ---- nodes that share a name

-- the nodes, one of each network, share a name
abbrev Share : List (List ℕ × ℕ) → List (List ℕ × ℕ) → ℕ → ℕ → Type 0
Share names others v w = (name : List ℕ) × HasName names v name × HasName others w name

share_back : (names others : List (List ℕ × ℕ)) (v w : ℕ) → Share names others v w → Share others names w v
share_back names others v w (name, here, there) = (name, there, here)

-- a node of a network with one of its names
abbrev IsMetAt : SimRecords → List (List ℕ × ℕ) → ℕ → ℕ → Type 0
IsMetAt records names = StandsAt (arrivals records) names

module _ (records : SimRecords) (net other : Network) (names others : List (List ℕ × ℕ)) (p : IsNumbered records net names)
    (q : IsNumbered records other others) where
  -- a name of the one network is one of the other
  has_node : (v : ℕ) (name : List ℕ) → HasName names v name → (w : ℕ) × HasName others w name × (w < other.nodes)
  has_node v name has =
      let (w, named) = q.is_network.named name (p.is_network.stands name v has).0 in
      (w, named, (q.is_network.stands name w named).1)

  -- a node shares names with one node of the other network
  one_sharer : (v w x : ℕ) → Share names others v w → Share names others v x → w ≡ x
  one_sharer v w x (a, here, there) (b, also, over) = (q.is_network.classes a b w x there over).1 ((p.is_network.classes a b v v here also).0 refl)

  -- where one of its names stands, one of the other node's does
  met_there : (v w place : ℕ) → Share names others v w → IsMetAt records names v place → IsMetAt records others w place
  met_there v w place shared (name, at, has) =
      let (x, named, below) = has_node v name has in
      (name, at, subst (λ (u : ℕ). HasName others u name) (one_sharer v x w (name, has, named) shared) named)

  -- a name of a node stands somewhere
  met_somewhere : (v : ℕ) (name : List ℕ) → HasName names v name → (place : ℕ) × IsMetAt records names v place
  met_somewhere v name has =
      let (place, (within, is)) = In-index name (arrivals records) (to_arrivals records name (p.is_network.stands name v has).0) in
      (place, (name, slice_get-get_or (arrivals records) place [] within ∙ ap (λ (n : List ℕ). Some n) (is []), has))

module _ (records : SimRecords) (net other : Network) (names others : List (List ℕ × ℕ)) (p : IsNumbered records net names)
    (q : IsNumbered records other others) where
  -- nodes that share a name are first met at one place
  first_there : (v w place : ℕ) → Share names others v w → IsLeast ◌≤◌ (IsMetAt records names v) place
      → IsLeast ◌≤◌ (IsMetAt records others w) place
  first_there v w place shared = IsLeast-iff ◌≤◌ (IsMetAt records names v) (IsMetAt records others w)
      (λ k. met_there records net other names others p q v w k shared)
      (λ k. met_there records other net others names q p w v k (share_back names others v w shared)) place

  -- nodes of one place are one
  one_at_place : (v w place : ℕ) → IsMetAt records names v place → IsMetAt records names w place → v ≡ w
  one_at_place v w place (a, at, has) (b, also, named) =
      let one = one_name (slice_get (arrivals records) place) a b at also in
      (p.is_network.classes a b v w has named).1 (subst (λ (c : List ℕ). AreOfOneNode records a c) one stay)

  -- the lesser of two nodes is first met before the other, and so shares names with the lesser of two
  rises : (v w x y : ℕ) → Share names others v x → Share names others w y → v < w → x < y
  rises v w x y here there less = elim (cases_lt x y) [
    | inl is ↦ is
    | inr never ↦ (
        let (k, met) = met_somewhere records net other names others p q v here.0 here.1 in
        let (l, also) = met_somewhere records net other names others p q w there.0 there.1 in
        absurd (not_without_least (IsMetAt records names v) k met (λ m first_v.
        not_without_least (IsMetAt records names w) l also (λ n first_w.
        elim (cases_order m n) [
          | inl same ↦ (
              let one = one_at_place v w n (subst (λ (at : ℕ). IsMetAt records names v at) same first_v.0) first_w.0 in omega (arith, one, less))
          | inr (inl before) ↦ (
              let is = q.in_order x y m n (first_there v x m here first_v) (first_there w y n there first_w) before in omega (arith, is, never))
          | inr (inr behind) ↦ (let turned = p.in_order w v n m first_w first_v behind in omega (arith, turned, less))
        ]))))
  ]

  -- so its number is no greater than that of a node of the other network that shares a name
  no_greater : (v w : ℕ) → v < net.nodes → Share names others v w → v ≤ w
  no_greater zero w within shared = omega arith
  no_greater (suc v) w within shared =
      let below : v < net.nodes = omega (arith, within) in
      let (name, has) = p.is_network.each_node v below in
      let (x, named, inside) = has_node records net other names others p q v name has in
      let up = no_greater v x below (name, has, named) in
      let more = rises v (suc v) x w (name, has, named) shared (omega arith) in
      omega (arith, up, more)

  -- and there are no more nodes than in the other network
  no_more_nodes : net.nodes ≤ other.nodes
  no_more_nodes = elim (cases_lt other.nodes net.nodes) [
    | inl more ↦ (
        let (name, has) = p.is_network.each_node other.nodes more in
        let (w, named, below) = has_node records net other names others p q other.nodes name has in
        let up = no_greater other.nodes w more (name, has, named) in
        absurd (omega (arith, up, below)))
    | inr never ↦ omega (arith, never)
  ]

module _ (records : SimRecords) (net other : Network) (names others : List (List ℕ × ℕ)) (p : IsNumbered records net names)
    (q : IsNumbered records other others) where
  -- a name has one node in both networks
  one_number : (name : List ℕ) (v w : ℕ) → HasName names v name → HasName others w name → v ≡ w
  one_number name v w has named =
      let up = no_greater records net other names others p q v w (p.is_network.stands name v has).1 (name, has, named) in
      let down = no_greater records other net others names q p w v (q.is_network.stands name w named).1 (name, named, has) in
      omega (arith, up, down)

  -- what the one list has, the other has
  name_there : (name : List ℕ) (v : ℕ) → HasName names v name → HasName others v name
  name_there name v has =
      let (w, named, below) = has_node records net other names others p q v name has in
      subst (λ (u : ℕ). HasName others u name) (sym (one_number name v w has named)) named

  -- there are as many nodes in both
  same_nodes : net.nodes ≡ other.nodes
  same_nodes =
      let up = no_more_nodes records net other names others p q in
      let down = no_more_nodes records other net others names q p in
      omega (arith, up, down)

-- ---- all else of a network

-- a letter makes switches of one kind
one_kind : (letter : ℕ) (a b : SwitchKind) → IsLetterOf letter a → IsLetterOf letter b → a ≡ b
one_kind letter N N is also = refl
one_kind letter N P (inl is) also = absurd (omega (arith, is, also))
one_kind letter N P (inr is) also = absurd (omega (arith, is, also))
one_kind letter N D (inl is) also = absurd (omega (arith, is, also))
one_kind letter N D (inr is) also = absurd (omega (arith, is, also))
one_kind letter P N is (inl also) = absurd (omega (arith, is, also))
one_kind letter P N is (inr also) = absurd (omega (arith, is, also))
one_kind letter P P is also = refl
one_kind letter P D is also = absurd (omega (arith, is, also))
one_kind letter D N is (inl also) = absurd (omega (arith, is, also))
one_kind letter D N is (inr also) = absurd (omega (arith, is, also))
one_kind letter D P is also = absurd (omega (arith, is, also))
one_kind letter D D is also = refl

same_switch : (a b : Switch) → a.kind ≡ b.kind → a.gate ≡ b.gate → a.left ≡ b.left → a.right ≡ b.right → a ≡ b
same_switch a b kind gate left right =
    let made : Switch = record { kind = a.kind; gate = a.gate; left = a.left; right = a.right } in
    let is : made ≡ b = rw (kind, gate, left, right) refl in is

-- transistor lines make one list of switches, where each name has one node in both networks
same_switches : (names others : List (List ℕ × ℕ)) → ((name : List ℕ) (v w : ℕ) → HasName names v name → HasName others w name → v ≡ w)
    → (lines : List TransistorLine) (xs ys : List Switch) → AreTransistors names lines xs → AreTransistors others lines ys → xs ≡ ys
same_switches names others one [] [] [] are also = refl
same_switches names others one [] [] (y ∷ ys) are also = absurd also
same_switches names others one [] (x ∷ xs) ys are also = absurd are
same_switches names others one (line ∷ lines) [] ys are also = absurd are
same_switches names others one (line ∷ lines) (x ∷ xs) [] are also = absurd also
same_switches names others one (line ∷ lines) (x ∷ xs) (y ∷ ys) are also =
    let kind = one_kind line.letter x.kind y.kind are.0.kind also.0.kind in
    let gate = one line.gate x.gate y.gate are.0.gate also.0.gate in
    let left = one line.source x.left y.left are.0.left also.0.left in
    let right = one line.drain x.right y.right are.0.right also.0.right in
    let first = same_switch x y kind gate left right in
    let rest = same_switches names others one lines xs ys are.1 also.1 in
    (λ i. first i ∷ rest i)

-- tests of which each passes where the other does are one
same_tests : (a b : Bool) → (a ≡ true → b ≡ true) → (b ≡ true → a ≡ true) → a ≡ b
same_tests true b there back = sym (there refl)
same_tests false true there back = back refl
same_tests false false there back = refl

module _ (records : SimRecords) (net other : Network) (names others : List (List ℕ × ℕ)) (p : IsNumbered records net names)
    (q : IsNumbered records other others) where
  -- an input of the one network is one of the other
  input_there : (v : ℕ) → v < net.nodes → v < other.nodes → is_input net v ≡ true → is_input other v ≡ true
  input_there v within inside is = (q.is_network.inputs v inside).1 (elim ((p.is_network.inputs v within).0 is) [
    | inl power ↦ inl (name_there records net other names others p q _ v power)
    | inr ground ↦ inr (name_there records net other names others p q _ v ground)
  ])

module _ (records : SimRecords) (net other : Network) (names others : List (List ℕ × ℕ)) (p : IsNumbered records net names)
    (q : IsNumbered records other others) where
  -- the lists have the same elements
  pub same_names : NameAlike names others
  same_names name v = (name_there records net other names others p q name v, name_there records other net others names q p name v)

  -- and the networks are one
  pub same_network : net ≡ other
  same_network =
      let nodes = same_nodes records net other names others p q in
      let switches = same_switches names others (one_number records net other names others p q) records.transistors net.switches other.switches
      p.is_network.switches q.is_network.switches in
      let sizes : net.sizes ≡ other.sizes = same_lists net.sizes other.sizes (p.is_network.sound.one_size ∙ nodes ∙ sym q.is_network.sound.one_size)
      (λ k d below. p.is_network.sizes k d below
      ∙ sym (q.is_network.sizes k d (omega (arith, below, p.is_network.sound.one_size, q.is_network.sound.one_size, nodes)))) in
      let inputs : net.inputs ≡ other.inputs = same_lists net.inputs other.inputs (p.is_network.sound.one_input ∙ nodes ∙ sym q.is_network.sound.one_input)
      (λ k d below.
      let within : k < net.nodes = omega (arith, below, p.is_network.sound.one_input) in
      let inside : k < other.nodes = omega (arith, within, nodes) in
      let held : k < length other.inputs = omega (arith, inside, q.is_network.sound.one_input) in
      let same : is_input net k ≡ is_input other k = same_tests (is_input net k) (is_input other k)
      (input_there records net other names others p q k within inside) (input_there records other net others names q p k inside within) in
      rw (get_or_default net.inputs k d false below, get_or_default other.inputs k d false held) same) in
      same_networks net other nodes switches sizes inputs
