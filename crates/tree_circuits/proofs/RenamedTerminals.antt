-- A transistor of an own layout is one of the flat layout, with its terminals by the names of flat nodes.
use Rattle.tree_circuits.proofs.Common.{◌≡◌, ◌↔◌, ◌-ℤ◌, ℕ, ℤ, pos, Bool, true, List, [], ◌∷◌, map, inl, inr, refl, sym, ◌∙◌, ap, subst, arith}
use Rattle.tree_circuits.proofs.Common.{IsTrue, bytes_eq, ints, bytes_eq-Decides, stay, In, Distinct, sum_on, Total, In-map, In-map_source}
use Rattle.tree_circuits.proofs.Common.{Total-unique, Transform, RawTech, is_channel, is_terminal, IsEdgeCount, LeadsAcross, Layout, Place}
use Rattle.tree_circuits.proofs.Common.{AreNeighbours, AreOneChannel, IsTransistor, gate_length, place_back, place_forth, above_from_back}
use Rattle.tree_circuits.proofs.Common.{neighbours_back, ChannelSet, IsChannelPerimeter, IsChannelSet, KeepsChannels, AreRenamed}
use Rattle.std.proofs.Common.{◌<ℤ◌, ◌≤ℤ◌, filter}
use Rattle.finite_sets.proofs.Members.{In-filter, In-filter_passes, In-filter_source}
use Rattle.finite_sets.proofs.Sums.{sum_on-filter}
use Rattle.finite_sets.proofs.Images.{Distinct-map_filter}
use Rattle.tree_names.specs.LayoutModel.Transistors.{IsTerminalOf, Transistor}
use Rattle.tree_names.proofs.OwnRecordLaws.FetSizes.{edges_to_some, terminals_total}
use Rattle.tree_circuits.proofs.ChannelSets.{flat_set, goes_from, HasSetAt}
use Rattle.tree_circuits.proofs.MovedSets.{edges_moved, moved_forth}
use Rattle.tree_circuits.proofs.SameChannels.{one_type, role_there}
use Rattle.tree_circuits.proofs.SameRoles.{same_terminal}

-- transistors whose nodes go by their names
abbrev pub Fet : Type 0
Fet = Transistor (List ℕ)

-- the name of a terminal's node
abbrev pub node_of : List ℕ × ℤ → List ℕ
node_of terminal = terminal.0

-- a sum of lengths
abbrev pub length_sum : List (List ℕ × ℤ) → ℤ
length_sum terminals = sum_on (λ terminal. terminal.1) terminals

-- lengths of terminals do not make less than nothing
no_less : (terminals : List (List ℕ × ℤ)) → ((terminal : List ℕ × ℤ) → In terminal terminals → pos 0 <ℤ terminal.1)
    → pos 0 ≤ℤ length_sum terminals
no_less [] some = omega (arith, ints)
no_less (terminal ∷ terminals) some =
    let here = some terminal (inl refl) in
    let rest = no_less terminals (λ other later. some other (inr later)) in
    omega (arith, ints, here, rest)

-- and where there is one, they make something
some_length : (terminals : List (List ℕ × ℤ)) → ((terminal : List ℕ × ℤ) → In terminal terminals → pos 0 <ℤ terminal.1)
    → (terminal : List ℕ × ℤ) → In terminal terminals → pos 0 <ℤ length_sum terminals
some_length [] some terminal none = absurd none
some_length (first ∷ terminals) some terminal here =
    let one = some first (inl refl) in
    let rest = no_less terminals (λ other later. some other (inr later)) in
    omega (arith, ints, one, rest)

module _ (raw : RawTech) (own : Layout) (placed : Transform) (flat : Layout) (kept : KeepsChannels raw own placed flat)
    (Owns Has : List ℕ → Place → Type 0) (rename : List ℕ → List ℕ)
    (named : (name : List ℕ) (place : Place) → Owns name place → Has (rename name) (place_forth placed place))
    (own_apart : (m n : List ℕ) (place : Place) → Owns m place → Owns n place → m ≡ n)
    (flat_apart : (m n : List ℕ) (place : Place) → Has m place → Has n place → m ≡ n)
    (fet : Fet) (is : IsTransistor raw own Owns fet)
    (along : (place : Place) → AreOneChannel own fet.least place → Owns fet.gate place)
    (renamed : List (List ℕ × ℤ)) (are : AreRenamed rename fet.terminals renamed) where
  abbrev back : Place → Place
  back = place_back placed

  -- the channel of the transistor
  abbrev pub set_of : ChannelSet
  set_of = record { kind = fet.kind; least = fet.least; area = fet.area; perimeter = fet.perimeter }

  pub set_is : IsChannelSet raw own set_of
  set_is = record { listed = is.listed; kind = is.kind; least = is.least; area = is.area; perimeter = is.perimeter }

  -- where it goes
  abbrev pub found : HasSetAt raw flat (place_forth placed fet.least) fet.area fet.perimeter
  found = flat_set raw own placed flat kept set_of set_is

  -- the transistor of the flat layout
  abbrev pub above : Fet
  above = record {
    kind = fet.kind;
    least = found.set.least;
    area = fet.area;
    perimeter = fet.perimeter;
    gate = rename fet.gate;
    terminals = renamed;
  }

  abbrev Own : Place → Type 0
  Own = AreOneChannel own fet.least

  abbrev Flat : Place → Type 0
  Flat = AreOneChannel flat above.least

  own_channel : IsTrue (is_channel raw (own fet.least))
  own_channel = subst (λ (kind : ℕ). IsTrue (is_channel raw kind)) (sym is.kind) is.listed

  -- its places are those of the own channel
  pub places_above : (place : Place) → Own place ↔ Flat (place_forth placed place)
  places_above = goes_from raw own placed flat kept fet.least own_channel set_of found.set stay found.joined

  set_there : (place : Place) → Own (back place) → Flat place
  set_there place chain = subst (λ (p : Place). Flat p) (above_from_back placed place) ((places_above (back place)).0 chain)

  set_back : (place : Place) → Flat place → Own (back place)
  set_back place chain = (places_above (back place)).1 (subst (λ (p : Place). Flat p) (sym (above_from_back placed place)) chain)

  -- a neighbour is a terminal's in both layouts, or in neither
  terminal_same : (a b : Place) → Flat a → AreNeighbours a b → is_terminal raw fet.kind (flat b) ≡ is_terminal raw fet.kind (own (back b))
  terminal_same a b chain near =
      let same : fet.kind ≡ own (back a) = sym is.kind ∙ one_type own fet.least (back a) (set_back a chain) in
      let channel = subst (λ (kind : ℕ). IsTrue (is_channel raw kind)) same is.listed in
      subst (λ (kind : ℕ). is_terminal raw kind (flat b) ≡ is_terminal raw kind (own (back b))) (sym same)
      (same_terminal raw (own (back a)) (flat b) (own (back b)) (role_there raw own placed flat kept a b near channel))

  -- the own node beside the channel gives the name of the flat node there
  flat_named : (name : List ℕ) (place : Place) → Owns name (back place) → Has (rename name) place
  flat_named name place owned = subst (λ (p : Place). Has (rename name) p) (above_from_back placed place) (named name (back place) owned)

  -- the terminals whose nodes get the name
  abbrev gets : List ℕ → List ℕ × ℤ → Bool
  gets name part = bytes_eq name (rename part.0)

  abbrev parts : List ℕ → List (List ℕ × ℤ)
  parts name = filter (gets name) fet.terminals

  abbrev To : List ℕ → Place → Type 0
  To = IsTerminalOf raw own Owns fet.kind

  abbrev ToSome : List ℕ → Place → Type 0
  ToSome name place = (n : List ℕ) × (In n (map node_of (parts name)) × To n place)

  abbrev Beyond : List ℕ → Place → Type 0
  Beyond = IsTerminalOf raw flat Has fet.kind

  -- the source of a name among the parts
  part_source : (name n : List ℕ) → In n (map node_of (parts name)) → name ≡ rename n
  part_source name n here =
      let source = In-map_source node_of n (parts name) here in
      (bytes_eq-Decides name (rename source.0.0)).0 (In-filter_passes (gets name) source.0 fet.terminals source.1.0) ∙ ap rename source.1.1

  part_listed : (name n : List ℕ) → In n (map node_of fet.terminals) → name ≡ rename n → In n (map node_of (parts name))
  part_listed name n here same =
      let source = In-map_source node_of n fet.terminals here in
      let passes : gets name source.0 ≡ true = (bytes_eq-Decides name (rename source.0.0)).1 (same ∙ ap rename (sym source.1.1)) in
      subst (λ (m : List ℕ). In m (map node_of (parts name))) source.1.1
      (In-map node_of source.0 (parts name) (In-filter (gets name) source.0 fet.terminals source.1.0 passes))

  beyond_from : (name : List ℕ) (a b : Place) → Flat a → AreNeighbours a b → ToSome name (back b) → Beyond name b
  beyond_from name a b chain near some = record {
    listed = terminal_same a b chain near ∙ some.1.1.listed;
    owned = subst (λ (n : List ℕ). Has n b) (sym (part_source name some.0 some.1.0)) (flat_named some.0 b some.1.1.owned);
  }

  -- the own terminal beside the channel
  own_beside : (a b : Place) → Flat a → AreNeighbours a b → IsTrue (is_terminal raw fet.kind (flat b))
      → (n : List ℕ) × In n (map node_of fet.terminals) × Owns n (back b)
  own_beside a b chain near listed =
      is.whole (back a) (back b) (set_back a chain) (neighbours_back placed a b near) (sym (terminal_same a b chain near) ∙ listed)

  beyond_back : (name : List ℕ) (a b : Place) → Flat a → AreNeighbours a b → Beyond name b → ToSome name (back b)
  beyond_back name a b chain near beyond =
      let at = own_beside a b chain near beyond.listed in
      let same = flat_apart name (rename at.0) b beyond.owned (flat_named at.0 b at.2) in (
        at.0,
        (
          part_listed name at.0 at.1 same,
          record { listed = sym (terminal_same a b chain near) ∙ beyond.listed; owned = at.2 },
        ),
      )

  -- the terminals of a name stand once each
  parts_once : (name : List ℕ) → Distinct (map node_of (parts name))
  parts_once name = Distinct-map_filter node_of (gets name) fet.terminals is.once

  -- so many edges lead to the flat node of the name
  edges_to : (name : List ℕ) → IsEdgeCount Flat (Beyond name) (length_sum (parts name))
  edges_to name =
      edges_moved (place_forth placed) back (moved_forth placed) Own (ToSome name) Flat (Beyond name)
      (length_sum (parts name)) set_there set_back
      (beyond_from name) (beyond_back name)
      (edges_to_some Own To (λ m n place p q. own_apart m n place p.owned q.owned) (parts name) (parts_once name)
      (λ n length listed. (is.terminals n length (In-filter_source (gets name) (n, length) fet.terminals listed)).1))

  -- a terminal of the flat layout is as long as its parts together
  length_is : (terminal : List ℕ × ℤ) → In terminal renamed → length_sum (parts terminal.0) ≡ terminal.1
  length_is terminal listed =
      sum_on-filter (gets terminal.0) (λ (part : List ℕ × ℤ). part.1) fet.terminals ∙ sym (are.lengths terminal listed)

  -- and it has parts
  length_some : (terminal : List ℕ × ℤ) → In terminal renamed → pos 0 <ℤ length_sum (parts terminal.0)
  length_some terminal listed =
      let name = terminal.0 in
      let source = In-map_source (λ (part : List ℕ × ℤ). rename part.0) name fet.terminals
      ((are.names name).0 (In-map node_of terminal renamed listed)) in
      let passes : gets name source.0 ≡ true = (bytes_eq-Decides name (rename source.0.0)).1 (sym source.1.1) in
      some_length (parts name)
      (λ part here. (is.terminals part.0 part.1 (In-filter_source (gets name) part fet.terminals here)).0)
      source.0 (In-filter (gets name) source.0 fet.terminals source.1.0 passes)

  terminal_is : (name : List ℕ) (length : ℤ) → In {X = List ℕ × ℤ} (name, length) renamed
      → (pos 0 <ℤ length) × IsEdgeCount Flat (Beyond name) length
  terminal_is name length listed =
      let same = length_is (name, length) listed in (
        subst (λ (n : ℤ). pos 0 <ℤ n) same (length_some (name, length) listed),
        subst (λ (n : ℤ). IsEdgeCount Flat (Beyond name) n) same (edges_to name),
      )

  terminal_there : (a b : Place) → Flat a → AreNeighbours a b → IsTrue (is_terminal raw fet.kind (flat b))
      → (name : List ℕ) × In name (map node_of renamed) × Has name b
  terminal_there a b chain near listed =
      let at = own_beside a b chain near listed in
      let source = In-map_source node_of at.0 fet.terminals at.1 in
      let among : In (rename at.0) (map (λ (part : List ℕ × ℤ). rename part.0) fet.terminals) =
      subst (λ (n : List ℕ). In (rename n) (map (λ (part : List ℕ × ℤ). rename part.0) fet.terminals)) source.1.1
      (In-map (λ (part : List ℕ × ℤ). rename part.0) source.0 fet.terminals source.1.0) in
      (rename at.0, (are.names (rename at.0)).1 among, flat_named at.0 b at.2)

  -- it is a transistor of the flat layout
  pub above_is : IsTransistor raw flat Has above
  above_is = record {
    listed = is.listed;
    kind = found.is.kind ∙ found.kind ∙ kept.same fet.least own_channel ∙ is.kind;
    least = found.is.least;
    area = subst (λ (n : ℤ). Total Flat (λ place. pos 1) n) found.area found.is.area;
    perimeter = subst (λ (n : ℤ). IsChannelPerimeter flat found.set.least n) found.perimeter found.is.perimeter;
    gate = flat_named fet.gate above.least (along (back above.least) (set_back above.least stay));
    terminals = terminal_is;
    whole = terminal_there;
    once = are.once;
  }

  abbrev OwnListed : Place → Type 0
  OwnListed place = IsTrue (is_terminal raw fet.kind (own place))

  abbrev FlatListed : Place → Type 0
  FlatListed place = IsTrue (is_terminal raw fet.kind (flat place))

  -- what is written for the gate stays
  pub gate_length_above : gate_length above ≡ gate_length fet
  gate_length_above =
      let mine = edges_moved (place_forth placed) back (moved_forth placed) Own OwnListed Flat FlatListed
      (length_sum fet.terminals) set_there set_back
      (λ a b chain near listed. terminal_same a b chain near ∙ listed)
      (λ a b chain near listed. sym (terminal_same a b chain near) ∙ listed)
      (terminals_total raw own Owns fet own_apart is) in
      ap (λ (n : ℤ). fet.perimeter -ℤ n)
      (Total-unique (LeadsAcross Flat FlatListed) (λ edge. pos 1) (length_sum renamed) (length_sum fet.terminals)
      (terminals_total raw flat Has above flat_apart above_is) mine)
