-- The names of the nodes of an own layout: one node goes by a name, and a node goes by one preferred name.
use Rattle.tree_names.proofs.Common.{◌≡◌, ℕ, List, Chain-append, RawTech, IsWellFormed, slashes_in, slashes_in-node_name, HasTypesOf, Place}
use Rattle.tree_names.proofs.Common.{AreOneNamedNode, AreOneNamedNode-sym, IsOfNode, name_form, HasOwnName, OwnBody}
use Rattle.own_record_laws.proofs.CellNodes.NodePlaces.{material_along}
use Rattle.own_record_laws.proofs.NodesByName.{one_name_one_node}

-- the preferred name is one of the node's names
pub goes_by_own : (raw : RawTech) (own : OwnBody) (place : Place) (name : List ℕ) → IsOfNode raw own.layout own.labels name place
    → HasOwnName raw own place name
goes_by_own raw own place name is = record { material = is.material; least = is.least; is_least = is.is_least; named = is.first.0 }

module _ (raw : RawTech) (formed : IsWellFormed raw) (own : OwnBody) (typed : HasTypesOf raw own.layout) where
  -- places of nodes that go by one name are of one node
  pub one_own_node : (a b : Place) (name : List ℕ) → HasOwnName raw own a name → HasOwnName raw own b name
      → AreOneNamedNode raw own.layout own.labels a b
  one_own_node a b name here there =
      let joined = one_name_one_node raw own.layout own.labels formed typed here.least there.least name
      (material_along raw own.layout own.labels formed here.is_least.0 here.material)
      (material_along raw own.layout own.labels formed there.is_least.0 there.material) here.named there.named in
      Chain-append here.is_least.0 (Chain-append joined (AreOneNamedNode-sym raw own.layout own.labels there.is_least.0))

  -- a name of a node has no slash
  pub own_name_whole : (place : Place) (name : List ℕ) → HasOwnName raw own place name → slashes_in name ≡ 0
  own_name_whole place name has =
      let material = material_along raw own.layout own.labels formed has.is_least.0 has.material in
      slashes_in-node_name name (name_form raw formed own.layout own.labels has.least name (typed has.least material).0 has.named)
