-- A place's node goes by the preferred name of the record that has the place.
use Rattle.own_record_laws.proofs.Common.{◌≡◌, ◌<◌, ℕ, List, [], get_or, inl, inr, refl, sym, subst, pos, In, Chain-append, In-get_or, In-index}
use Rattle.own_record_laws.proofs.Common.{Label, RawTech, NodeRec, names_of, Place, IsNoLater, Layout, IsMaterial, IsNoLater-antisym}
use Rattle.own_record_laws.proofs.Common.{AreOneNamedNode, IsNameOf, IsNodeRecord, AreNodeRecords, IsOfNode}
use Rattle.std.specs.declared.cmp.Ordering.TheVariants.{Less}
use Rattle.full_names.specs.FiniteSets.Chain.Chain.{stay}
use Rattle.full_names.specs.FiniteSets.Least.{IsLeast}
use Rattle.full_names.proofs.FiniteSets.Leasts.{IsLeast-unique, IsLeast-iff}
use Rattle.full_names.proofs.FiniteSets.Pairs.{Pairwise-from_AllPairs}
use Rattle.full_names.specs.ExtModel.NameOrder.{name_cmp}
use Rattle.full_names.proofs.ExtModel.NameOrders.{name_cmp_total}
use Rattle.tree_records.proofs.CellNodes.NodePlaces.{AreOneNamedNode-sym}
use Rattle.full_names.proofs.ListOrders.{not_before_itself}
use Rattle.tree_records.specs.FetRecords.{IsNoLaterName}
use Rattle.tree_records.specs.OwnCircuits.{IsInSome}

-- two names of which neither is later than the other are one
pub later_both_ways : (a b : List ℕ) → IsNoLaterName a b → IsNoLaterName b a → a ≡ b
later_both_ways a b (inl same) back = same
later_both_ways a b (inr before) (inl same) = sym same
later_both_ways a b (inr before) (inr after) = absurd (not_before_itself a (name_cmp_total.trans a b a before after))

-- a record for what is read past the end
abbrev no_node : NodeRec
no_node = record { name = []; aliases = []; cap = pos 0; x = pos 0; y = pos 0; kind = []; measures = [] }

module _ (raw : RawTech) (layout : Layout) (labels : List Label) where
  -- places of one node have one least place
  pub one_least : (a b least other : Place) → AreOneNamedNode raw layout labels a b → IsLeast IsNoLater (AreOneNamedNode raw layout labels a) least
      → IsLeast IsNoLater (AreOneNamedNode raw layout labels b) other → least ≡ other
  one_least a b least other joined is is_other =
      let N : Place → Place → Type 0 = AreOneNamedNode raw layout labels in
      IsLeast-unique IsNoLater (N a) IsNoLater-antisym least other is
      (IsLeast-iff IsNoLater (N b) (N a) (λ x there. Chain-append joined there)
      (λ x there. Chain-append (AreOneNamedNode-sym raw layout labels joined) there) other is_other)

  -- the preferred name of a node is the first of its names
  pub preferred_is_first : (least : Place) (node : NodeRec) → IsNodeRecord raw layout labels least node
      → IsLeast IsNoLaterName (IsNameOf raw layout labels least) node.name
  preferred_is_first least node is =
      let behind = Pairwise-from_AllPairs (λ a b. name_cmp a b ≡ Less) (names_of node) is.names_in_order in (
        is.names.2 node.name (inl refl),
        λ name of. elim (is.names.1 name of) [ inl same ↦ inl same | inr later ↦ inr (behind.0 name later) ],
      )

  -- the node of a place goes by one name
  pub one_name : (name other : List ℕ) (place : Place) → IsOfNode raw layout labels name place → IsOfNode raw layout labels other place → name ≡ other
  one_name name other place is is_other =
      let same : is.least ≡ is_other.least = one_least place place is.least is_other.least stay is.is_least is_other.is_least in
      IsLeast-unique IsNoLaterName (IsNameOf raw layout labels is_other.least) later_both_ways name other
      (subst (λ (least : Place). IsLeast IsNoLaterName (IsNameOf raw layout labels least) name) same is.first) is_other.first

  module _ (nodes : List NodeRec) (are : AreNodeRecords raw layout labels nodes) where
    -- each node of the list is a node of the layout
    pub record IsRecordedAt (node : NodeRec) : Type 0 where
      pub least : Place
      pub is : IsNodeRecord raw layout labels least node

    -- each node of the list has a least place
    pub recorded : (node : NodeRec) → In node nodes → IsRecordedAt node
    recorded node listed =
        let at = In-index node nodes listed in
        let origin : Place = record { plane = 0; square = record { x = pos 0; y = pos 0 } } in
        record {
          least = get_or are.leasts at.0 origin;
          is = subst (IsNodeRecord raw layout labels (get_or are.leasts at.0 origin)) (at.1.1 node) (are.sound at.0 origin node at.1.0);
        }

    -- each place with material is of one of the nodes
    pub in_some : (place : Place) → IsMaterial layout place → IsInSome raw layout labels nodes place
    in_some place material =
        let found = are.whole place material in
        let at = In-index found.0 are.leasts found.1 in
        let long = are.one_each in
        let below = subst (λ n. at.0 < n) long at.1.0 in
        record {
          node = get_or nodes at.0 no_node;
          listed = In-get_or nodes at.0 no_node below;
          least = found.0;
          is = subst (λ (least : Place). IsNodeRecord raw layout labels least (get_or nodes at.0 no_node)) (at.1.1 found.0)
              (are.sound at.0 found.0 no_node below);
          within = found.2;
        }

    -- what a place's node goes by is the preferred name of its record
    pub goes_by : (name : List ℕ) (place : Place) → IsOfNode raw layout labels name place → (some : IsInSome raw layout labels nodes place)
        → some.node.name ≡ name
    goes_by name place is some =
        let same : some.least ≡ is.least = one_least some.least place some.least is.least some.within some.is.is_least is.is_least in
        IsLeast-unique IsNoLaterName (IsNameOf raw layout labels is.least) later_both_ways some.node.name name
        (subst (λ (least : Place). IsLeast IsNoLaterName (IsNameOf raw layout labels least) some.node.name) same
        (preferred_is_first some.least some.node some.is)) is.first
