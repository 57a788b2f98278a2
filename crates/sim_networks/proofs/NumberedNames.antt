-- Where the names of capacitances are of a node each, and every node has one, the nodes stand for them in their order.
use Rattle.sim_networks.proofs.Common.{◌≡◌, ◌<◌, ◌≤◌, ◌++◌, ℕ, zero, suc, List, [], length, Some, get_or, inl, inr, refl, sym, subst, ◌∙◌, arith}
use Rattle.sim_networks.proofs.Common.{cases_eq, cases_lt, get_or_from_slice_get, slice_get_within, IsLeast, In, In-append_left, In-append_right}
use Rattle.sim_networks.proofs.Common.{HasName, Network, AreOfOneNode, IsNetworkOf, SimRecords, names_of, names_of_aliases, names_of_transistors}
use Rattle.sim_networks.proofs.Common.{IsNumberedByCaps, StandsAt}
use Rattle.std.specs.Prelude.{AllPairs, slice_get}
use Rattle.std.proofs.lemmas.List.{length-append}
use Rattle.finite_sets.specs.Chain.Chain.{stay}
use Rattle.finite_sets.proofs.Places.{In-slice_get, slice_get-In, slice_get-append_front, slice_get-append_left, slice_get-below, slice_get-one}
use Rattle.sim_networks.specs.SimNetworks.{HasNodeForEach}

-- each name of a capacitance is one of the records
pub name_of_cap : (records : SimRecords) (name : List ℕ) → In name records.capacitors → In name (names_of records)
name_of_cap records name here =
    let fets = names_of_transistors records.transistors in
    In-append_left name (fets ++ records.capacitors) (names_of_aliases records.aliases) (In-append_right name fets records.capacitors here)

module _ (records : SimRecords) (net : Network) (names : List (List ℕ × ℕ)) (is : IsNetworkOf records net names)
    (in_order : IsNumberedByCaps records names)
    (of : (name : List ℕ) → In name (names_of records) → (first : List ℕ) × In first records.capacitors × AreOfOneNode records first name)
    (apart : AllPairs (λ a b. ¬ (AreOfOneNode records a b)) records.capacitors) where
  -- the names of capacitances, and behind them the others in the order in which they are met
  abbrev caps : List (List ℕ)
  caps = records.capacitors

  abbrev order : List (List ℕ)
  order = caps ++ names_of_transistors records.transistors ++ names_of_aliases records.aliases

  -- The name at this place is of the node.
  record IsAt (place v : ℕ) : Type 0 where
    name : List ℕ
    stands : slice_get caps place ≡ Some name
    named : HasName names v name

  -- each place has a node
  node_at : (place : ℕ) → place < length caps → (v : ℕ) × IsAt place v
  node_at place below =
      let at = slice_get-below caps place below in
      let node = is.named at.0 (name_of_cap records at.0 (In-slice_get caps place at.0 at.1)) in
      (node.0, record { name = at.0; stands = at.1; named = node.1 })

  -- a place has one node
  one_node : (place v w : ℕ) → IsAt place v → IsAt place w → v ≡ w
  one_node place v w a b =
      let same = slice_get-one caps place a.name b.name a.stands b.stands in
      (is.classes a.name b.name v w a.named b.named).1 (subst (AreOfOneNode records a.name) same stay)

  -- and of two places the nodes are two
  never_earlier : (place earlier v : ℕ) → earlier < place → IsAt place v → IsAt earlier v → ⊥
  never_earlier place earlier v less at before =
      let inside : place < length caps = slice_get_within caps place at.name at.stands in
      let chain = (is.classes before.name at.name v v before.named at.named).0 refl in
      let first = get_or_from_slice_get caps earlier before.name [] before.stands in
      let second = get_or_from_slice_get caps place at.name [] at.stands in
      apart earlier place [] less inside
      (subst (λ (a : List ℕ). AreOfOneNode records a (get_or caps place [])) (sym first)
      (subst (λ (b : List ℕ). AreOfOneNode records before.name b) (sym second) chain))

  -- the place is the first at which the node has a name
  least_place : (place v : ℕ) → IsAt place v → IsLeast ◌≤◌ (StandsAt order names v) place
  least_place place v at = (
    (
      at.name,
      slice_get-append_left (caps ++ names_of_transistors records.transistors) (names_of_aliases records.aliases) place at.name
          (slice_get-append_left caps (names_of_transistors records.transistors) place at.name at.stands),
      at.named,
    ),
    λ other stands. elim (cases_lt other place) [
      | inr past ↦ past
      | inl less ↦ (
          let inside : place < length caps = slice_get_within caps place at.name at.stands in
          let longer = length-append caps (names_of_transistors records.transistors) in
          let front : slice_get order other ≡ slice_get caps other =
          slice_get-append_front (caps ++ names_of_transistors records.transistors) (names_of_aliases records.aliases) other (omega (arith, inside, longer))
          ∙ slice_get-append_front caps (names_of_transistors records.transistors) other (omega (arith, inside)) in
          absurd (never_earlier place other v less at
          (record { name = stands.0; stands = sym front ∙ stands.1; named = stands.2 })))
    ],
  )

  -- so nodes rise with the places
  rising : (place later v w : ℕ) → place < later → IsAt place v → IsAt later w → v < w
  rising place later v w less first second = in_order v w place later (least_place place v first) (least_place later w second) less

  -- a node is at some place
  place_of : (v : ℕ) → v < net.nodes → (place : ℕ) × IsAt place v
  place_of v below =
      let some = is.each_node v below in
      let stands = is.stands some.0 v some.1 in
      let cap = of some.0 stands.0 in
      let node = is.named cap.0 (name_of_cap records cap.0 cap.1) in
      let same : node.0 ≡ v = (is.classes cap.0 some.0 node.0 v node.1 some.1).1 cap.2 in
      let at = slice_get-In cap.0 caps cap.1 in
      (at.0, record { name = cap.0; stands = at.1; named = subst (λ (w : ℕ). HasName names w cap.0) same node.1 })

  -- a node at a place is one of the network
  node_below : (place v : ℕ) → IsAt place v → v < net.nodes
  node_below place v at = (is.stands at.name v at.named).1

  -- the first places have the nodes of the same numbers
  abbrev AreSame : ℕ → Type 0
  AreSame count = (place v : ℕ) → place < count → IsAt place v → v ≡ place

  not_less : (place v : ℕ) → AreSame place → IsAt place v → place ≤ v
  not_less zero v same at = omega arith
  not_less (suc place) v same at =
      let inside : suc place < length caps = slice_get_within caps (suc place) at.name at.stands in
      let before = node_at place (omega (arith, inside)) in
      let is_place : before.0 ≡ place = same place before.0 (omega arith) before.1 in
      let less = rising place (suc place) before.0 v (omega arith) before.1 at in
      omega (arith, is_place, less)

  not_more : (place v : ℕ) → AreSame place → IsAt place v → place < v → ⊥
  not_more place v same at more =
      let found = place_of place (omega (arith, more, node_below place v at)) in
      elim (cases_lt found.0 place) [
        | inl less ↦ (let is_place : place ≡ found.0 = same found.0 place less found.1 in omega (arith, is_place, less))
        | inr past ↦ (elim (cases_eq place found.0) [
          | inl here ↦ (
              let one : place ≡ v = one_node place place v (subst (λ (p : ℕ). IsAt p place) (sym here) found.1) at in
              omega (arith, one, more))
          | inr other ↦ (
              let less = rising place found.0 v place (omega (arith, past, other)) at found.1 in
              omega (arith, less, more))
        ])
      ]

  all_same : (count : ℕ) → AreSame count
  all_same zero place v less at = absurd (omega arith)
  all_same (suc count) place v less at = elim (cases_eq place count) [
    | inr other ↦ all_same count place v (omega (arith, less, other)) at
    | inl last ↦ (
        let same : AreSame place = subst AreSame (sym last) (all_same count) in
        elim (cases_lt place v) [
          | inl more ↦ absurd (not_more place v same at more)
          | inr past ↦ (let low = not_less place v same at in omega (arith, low, past))
        ])
  ]

  same_place : (place v : ℕ) → IsAt place v → v ≡ place
  same_place place v at = all_same (suc place) place v (omega arith) at

  -- there are as many
  at_least : (count : ℕ) → count ≤ length caps → count ≤ net.nodes
  at_least zero few = omega arith
  at_least (suc count) few =
      let at = node_at count (omega (arith, few)) in
      let below = node_below count at.0 at.1 in
      omega (arith, below, same_place count at.0 at.1)

  at_most : net.nodes ≤ length caps
  at_most = elim (cases_lt (length caps) net.nodes) [
    | inr few ↦ few
    | inl more ↦ (
        let at = place_of (length caps) more in
        let inside : at.0 < length caps = slice_get_within caps at.0 at.1.name at.1.stands in
        absurd (omega (arith, inside, same_place at.0 (length caps) at.1)))
  ]

  pub node_for_each : HasNodeForEach records.capacitors net names
  node_for_each = record {
    as_many = (let low = at_least (length caps) (omega arith) in let high = at_most in omega (arith, low, high));
    named = λ v name stands.
        (let node = is.named name (name_of_cap records name (In-slice_get caps v name stands)) in
        let same = same_place v node.0 (record { name = name; stands = stands; named = node.1 }) in
        subst (λ (w : ℕ). HasName names w name) same node.1);
  }
