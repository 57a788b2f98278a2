-- No name is in two records of nodes.
use Rattle.own_record_laws.proofs.Common.{◌≡◌, ℕ, List, get_or, subst, arith, pos, flat_map, In, Distinct, Label, RawTech, IsWellFormed, NodeRec}
use Rattle.own_record_laws.proofs.Common.{names_of, HasTypesOf, Layout, Place, IsNodeRecord, AreNodeRecords}
use Rattle.full_names.proofs.FiniteSets.Pairs.{Pairwise, Pairwise-from_AllPairs}
use Rattle.full_names.proofs.FiniteSets.Images.{Distinct-flat_map}
use Rattle.tree_records.specs.LayoutModel.Places.{IsBefore}
use Rattle.tree_records.proofs.LayoutModel.PlaceLaws.{IsBefore-irreflexive}
use Rattle.own_record_laws.proofs.NodesByName.{one_name_one_node}
use Rattle.own_record_laws.proofs.PreferredNames.{one_least, recorded}

module _ (raw : RawTech) (layout : Layout) (labels : List Label) (well : IsWellFormed raw) (typed : HasTypesOf raw layout) (nodes : List NodeRec)
    (are : AreNodeRecords raw layout labels nodes) where
  -- nodes of different least places have no name in common
  places_apart : (a b : Place) (one other : NodeRec) → IsNodeRecord raw layout labels a one → IsNodeRecord raw layout labels b other → IsBefore a b
      → (name : List ℕ) → In name (names_of one) → In name (names_of other) → ⊥
  places_apart a b one other p q before name here there =
      let joined = one_name_one_node raw layout labels well typed a b name p.material q.material (p.names.2 name here) (q.names.2 name there) in
      let same : a ≡ b = one_least raw layout labels a b a b joined p.is_least q.is_least in
      IsBefore-irreflexive b (subst (λ (place : Place). IsBefore place b) same before)

  -- so no two nodes of the list have one
  nodes_apart : Pairwise (λ (a b : NodeRec). (name : List ℕ) → In name (names_of a) → In name (names_of b) → ⊥) nodes
  nodes_apart =
      let origin : Place = record { plane = 0; square = record { x = pos 0; y = pos 0 } } in
      let long = are.one_each in
      Pairwise-from_AllPairs (λ (a b : NodeRec). (name : List ℕ) → In name (names_of a) → In name (names_of b) → ⊥) nodes
      (λ i j d less below. places_apart (get_or are.leasts i origin) (get_or are.leasts j origin) (get_or nodes i d) (get_or nodes j d)
      (are.sound i origin d (omega (arith, less, below))) (are.sound j origin d below)
      (are.in_order i j origin less (omega (arith, below, long))))

  -- so all names differ
  pub names_differ : Distinct (flat_map names_of nodes)
  names_differ = Distinct-flat_map names_of nodes nodes_apart (λ node listed. (recorded raw layout labels nodes are node listed).is.names.0)
