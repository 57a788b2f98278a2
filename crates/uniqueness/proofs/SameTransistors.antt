-- Two transistors with one least place are one, but for the order of their terminals, and a layout has one list of least places of transistors.
use Rattle.uniqueness.proofs.Common.{◌≡◌, ℕ, ℤ, pos, List, map, sym, ◌∙◌, ap, subst, In, same_by_order, In-map, In-map_source, Label, RawTech}
use Rattle.uniqueness.proofs.Common.{Layout, Place, IsBefore, IsBefore-irreflexive, IsBefore-trans, IsNoLater-antisym}
use Rattle.std.proofs.Common.{IsTrue}
use Rattle.finite_sets.specs.Total.{Total}
use Rattle.finite_sets.proofs.Chains.{Chain-back}
use Rattle.finite_sets.proofs.InOrder.{Pairwise-from_order}
use Rattle.finite_sets.proofs.Pairs.{Pairwise, Pairwise-map}
use Rattle.finite_sets.proofs.Totals.{Total-unique}
use Rattle.tech_model.specs.ChannelRoles.{is_channel, is_terminal}
use Rattle.tree_circuits.specs.OwnRecordLaws.CellNodes.LayoutModel.EdgeCounts.{IsEdgeCount, LeadsAcross}
use Rattle.tree_circuits.specs.OwnRecordLaws.CellNodes.LayoutModel.Transistors.{AreFetsInOrder, AreOneChannel, AreTransistors, IsTerminalOf, IsTransistor, Transistor}
use Rattle.tree_circuits.specs.OwnRecordLaws.TreeRecords.FetRecords.{IsOfNode}
use Rattle.tree_circuits.proofs.OwnRecordLaws.CellNodes.LayoutModel.PlaceLaws.{AreNeighbours-sym}
use Rattle.tree_circuits.proofs.OwnRecordLaws.PreferredNames.{one_name}
use Rattle.tree_circuits.proofs.OwnRecordLaws.SomeEdges.{some_edge}

-- transistors whose nodes go by their names
abbrev pub Found : Type 0
Found = Transistor (List ℕ)

-- the name of a terminal's node, and the least place of a transistor
abbrev pub name_in : List ℕ × ℤ → List ℕ
name_in terminal = terminal.0

abbrev pub least_in : Found → Place
least_in fet = fet.least

-- the places of a channel are joined both ways
channel_back : (layout : Layout) {a b : Place} → AreOneChannel layout a b → AreOneChannel layout b a
channel_back layout chain = Chain-back (λ a b alike. record { near = AreNeighbours-sym a b alike.near; same = sym alike.same }) chain

module _ (raw : RawTech) (layout : Layout) (labels : List Label) where
  -- the transistor is the layout's
  abbrev pub IsFound : Found → Type 0
  IsFound fet = IsTransistor raw layout (IsOfNode raw layout labels) fet

  -- how many edges lead from the channel of this type with this least place to a node
  abbrev IsLengthTo : Place → ℕ → List ℕ → ℤ → Type 0
  IsLengthTo least kind node length =
      IsEdgeCount (AreOneChannel layout least) (IsTerminalOf raw layout (IsOfNode raw layout labels) kind node) length

  module _ (one other : Found) (p : IsFound one) (q : IsFound other) (least : one.least ≡ other.least) where
    -- both have one type, one area, one perimeter and one gate
    pub same_kind : one.kind ≡ other.kind
    same_kind = sym p.kind ∙ ap layout least ∙ q.kind

    pub same_area : one.area ≡ other.area
    same_area = Total-unique (AreOneChannel layout other.least) (λ place. pos 1) one.area other.area
        (subst (λ (l : Place). Total (AreOneChannel layout l) (λ place. pos 1) one.area) least p.area) q.area

    pub same_perimeter : one.perimeter ≡ other.perimeter
    same_perimeter =
        Total-unique (LeadsAcross (AreOneChannel layout other.least) (λ place. AreOneChannel layout other.least place → ⊥)) (λ edge. pos 1)
        one.perimeter other.perimeter
        (subst (λ (l : Place). IsEdgeCount (AreOneChannel layout l) (λ place. AreOneChannel layout l place → ⊥) one.perimeter) least p.perimeter)
        q.perimeter

    pub same_gate : one.gate ≡ other.gate
    same_gate = one_name raw layout labels one.gate other.gate other.least
        (subst (λ (l : Place). IsOfNode raw layout labels one.gate l) least p.gate) q.gate

    -- terminals that go by one name have one length
    same_length : (terminal found : List ℕ × ℤ) → In terminal one.terminals → In found other.terminals → found.0 ≡ terminal.0
        → found.1 ≡ terminal.1
    same_length terminal found here there node =
        let theirs = subst (λ (name : List ℕ). IsLengthTo other.least other.kind name found.1) node (q.terminals found.0 found.1 there).1 in
        let mine = subst (λ (kind : ℕ). IsLengthTo other.least kind terminal.0 terminal.1) same_kind
        (subst (λ (l : Place). IsLengthTo l one.kind terminal.0 terminal.1) least (p.terminals terminal.0 terminal.1 here).1) in
        Total-unique (LeadsAcross (AreOneChannel layout other.least) (IsTerminalOf raw layout (IsOfNode raw layout labels) other.kind terminal.0))
        (λ edge. pos 1) found.1 terminal.1 theirs mine

    -- what stands behind an edge of a terminal of the one is of a terminal of the other
    named_there : (terminal : List ℕ × ℤ) → In terminal one.terminals → In terminal.0 (map name_in other.terminals)
    named_there terminal here =
        let is = p.terminals terminal.0 terminal.1 here in
        let edge = some_edge (AreOneChannel layout one.least) (IsTerminalOf raw layout (IsOfNode raw layout labels) one.kind terminal.0) terminal.1 is.0 is.1 in
        let behind = edge.edge.1 in
        let found = q.whole edge.edge.0 behind (subst (λ (l : Place). AreOneChannel layout l edge.edge.0) least edge.leads.from) edge.leads.near
        (subst (λ (kind : ℕ). IsTrue (is_terminal raw kind (layout behind))) same_kind edge.leads.to.listed) in
        subst (λ (name : List ℕ). In name (map name_in other.terminals))
        (one_name raw layout labels found.0 terminal.0 behind found.2 edge.leads.to.owned) found.1

    -- so a terminal of the one is one of the other
    pub terminal_over : (terminal : List ℕ × ℤ) → In terminal one.terminals → In terminal other.terminals
    terminal_over terminal here =
        let source = In-map_source name_in terminal.0 other.terminals (named_there terminal here) in
        let length = same_length terminal source.0 here source.1.0 source.1.1 in
        let both : source.0 ≡ terminal = (λ i. (source.1.1 i, length i)) in
        subst (λ (t : List ℕ × ℤ). In t other.terminals) both source.1.0

  -- a least place of the one list is one of the other
  least_over : (ones others : List Found) → AreTransistors raw layout (IsOfNode raw layout labels) ones
      → AreTransistors raw layout (IsOfNode raw layout labels) others → (place : Place) → In place (map least_in ones)
      → In place (map least_in others)
  least_over ones others p q place here =
      let mine = In-map_source least_in place ones here in
      let fet = mine.0 in
      let is = p.sound fet mine.1.0 in
      let found = q.whole fet.least (subst (λ (kind : ℕ). IsTrue (is_channel raw kind)) (sym is.kind) is.listed) in
      let other = q.sound found.0 found.1 in
      let same : found.0.least ≡ fet.least = IsNoLater-antisym found.0.least fet.least (other.least.1 fet.least found.2)
      (is.least.1 found.0.least (channel_back layout found.2)) in
      subst (λ (l : Place). In l (map least_in others)) (same ∙ mine.1.1) (In-map least_in found.0 others found.1)

  -- the transistors of a layout have one list of least places
  pub same_leasts : (ones others : List Found) → AreTransistors raw layout (IsOfNode raw layout labels) ones
      → AreTransistors raw layout (IsOfNode raw layout labels) others → map least_in ones ≡ map least_in others
  same_leasts ones others p q =
      same_by_order IsBefore IsBefore-irreflexive IsBefore-trans (map least_in ones) (map least_in others) (in_order ones p.in_order)
      (in_order others q.in_order) (least_over ones others p q) (least_over others ones q p)
    where
      in_order : (fets : List Found) → AreFetsInOrder fets → Pairwise IsBefore (map least_in fets)
      in_order fets ordered = Pairwise-map least_in IsBefore fets
          (Pairwise-from_order (λ a b. IsBefore a.least b.least) (λ a b c. IsBefore-trans a.least b.least c.least) fets ordered)
