-- A layout with labels has one list of node records.
use Rattle.uniqueness.proofs.Common.{◌≡◌, ◌<◌, ℕ, pos, List, [], length, get_or, sym, ◌∙◌, ap, subst, same_lists, In, same_by_order, In-index}
use Rattle.uniqueness.proofs.Common.{Pairwise-from_AllPairs, Label, RawTech, Layout, Place, IsBefore, IsBefore-irreflexive, IsBefore-trans}
use Rattle.uniqueness.proofs.Common.{IsNoLater-antisym}
use Rattle.std.proofs.Common.{drop}
use Rattle.ext_model.specs.declared.records.NodeRec.{NodeRec}
use Rattle.ext_model.specs.RecordNames.{names_of}
use Rattle.tree_circuits.proofs.FullNames.ListOrders.{StandsBefore, names_in_order, same_in_order}
use Rattle.tree_circuits.specs.OwnRecordLaws.CellNodes.LayoutModel.Technologies.{capacitance, rules_of}
use Rattle.tree_circuits.specs.OwnRecordLaws.CellNodes.NodeRecords.{AreNodeRecords, IsNodeRecord}
use Rattle.tree_circuits.specs.OwnRecordLaws.Names.NamedNodes.{AreOneNamedNode}
use Rattle.tree_circuits.proofs.OwnRecordLaws.CellNodes.NodePlaces.{AreOneNamedNode-sym}
use Rattle.tree_circuits.proofs.OwnRecordLaws.CellNodes.LayoutModel.NodeLaws.{same_measures}
use Rattle.uniqueness.specs.OwnUniqueness.{NodeRecordsAreUnique}

-- a place and a record for what is read past the end
abbrev pub origin : Place
origin = record { plane = 0; square = record { x = pos 0; y = pos 0 } }

abbrev no_node : NodeRec
no_node = record { name = []; aliases = []; cap = pos 0; x = pos 0; y = pos 0; kind = []; measures = [] }

module _ (raw : RawTech) (layout : Layout) (labels : List Label) where
  -- a least place has one record
  same_node : (least : Place) (one other : NodeRec) → IsNodeRecord raw layout labels least one → IsNodeRecord raw layout labels least other
      → one ≡ other
  same_node least one other p q =
      let names : names_of one ≡ names_of other = same_in_order (names_of one) (names_of other)
      (names_in_order (names_of one) (Pairwise-from_AllPairs StandsBefore (names_of one) p.names_in_order))
      (names_in_order (names_of other) (Pairwise-from_AllPairs StandsBefore (names_of other) q.names_in_order))
      (λ name here. q.names.1 name (p.names.2 name here)) (λ name here. p.names.1 name (q.names.2 name here)) in
      let name : one.name ≡ other.name = ap (λ (all : List (List ℕ)). get_or all 0 []) names in
      let aliases : one.aliases ≡ other.aliases = ap (λ (all : List (List ℕ)). drop 1 all) names in
      let x : one.x ≡ other.x = p.x ∙ sym q.x in
      let y : one.y ≡ other.y = p.y ∙ sym q.y in
      let kind : one.kind ≡ other.kind = p.kind ∙ sym q.kind in
      let measures : one.measures ≡ other.measures =
      same_measures (rules_of raw).classes layout (AreOneNamedNode raw layout labels least) one.measures other.measures p.measures q.measures in
      let cap : one.cap ≡ other.cap = p.cap ∙ ap (capacitance (rules_of raw).classes) measures ∙ sym q.cap in
      (λ i. record {
        name = name i;
        aliases = aliases i;
        cap = cap i;
        x = x i;
        y = y i;
        kind = kind i;
        measures = measures i;
      })

  -- a least place of the one list is one of the other
  least_over : (nodes others : List NodeRec) (p : AreNodeRecords raw layout labels nodes) (q : AreNodeRecords raw layout labels others) (least : Place)
      → In least p.leasts → In least q.leasts
  least_over nodes others p q least here =
      let at = In-index least p.leasts here in
      let mine = subst (λ (l : Place). IsNodeRecord raw layout labels l (get_or nodes at.0 no_node)) (at.1.1 least)
      (p.sound at.0 least no_node (subst (λ (n : ℕ). at.0 < n) p.one_each at.1.0)) in
      let found = q.whole least mine.material in
      let there = In-index found.0 q.leasts found.1 in
      let theirs = subst (λ (l : Place). IsNodeRecord raw layout labels l (get_or others there.0 no_node)) (there.1.1 found.0)
      (q.sound there.0 found.0 no_node (subst (λ (n : ℕ). there.0 < n) q.one_each there.1.0)) in
      let same : found.0 ≡ least = IsNoLater-antisym found.0 least (theirs.is_least.1 least found.2)
      (mine.is_least.1 found.0 (AreOneNamedNode-sym raw layout labels found.2)) in
      subst (λ (l : Place). In l q.leasts) same found.1

  pub same_nodes : (nodes others : List NodeRec) → AreNodeRecords raw layout labels nodes → AreNodeRecords raw layout labels others → nodes ≡ others
  same_nodes nodes others p q =
      let leasts : p.leasts ≡ q.leasts = same_by_order IsBefore IsBefore-irreflexive IsBefore-trans p.leasts q.leasts
      (Pairwise-from_AllPairs IsBefore p.leasts p.in_order) (Pairwise-from_AllPairs IsBefore q.leasts q.in_order)
      (least_over nodes others p q) (least_over others nodes q p) in
      let many : length nodes ≡ length others = sym p.one_each ∙ ap length leasts ∙ q.one_each in
      same_lists nodes others many (λ k d below.
      same_node (get_or q.leasts k origin) (get_or nodes k d) (get_or others k d)
      (subst (λ (ls : List Place). IsNodeRecord raw layout labels (get_or ls k origin) (get_or nodes k d)) leasts (p.sound k origin d below))
      (q.sound k origin d (subst (λ (n : ℕ). k < n) many below)))

pub node_records_are_one : NodeRecordsAreUnique
node_records_are_one = same_nodes
