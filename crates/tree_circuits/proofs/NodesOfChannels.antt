-- The places of a channel are of one node, and a place's flat node goes by one name.
use Rattle.tree_circuits.proofs.Common.{◌≡◌, ◌==◌, ℕ, List, inl, ◌∙◌, subst, eqb-true, IsTrue, go, stay, Chain-append, IsLeast-iff, Label, RawTech}
use Rattle.tree_circuits.proofs.Common.{is_channel, IsWellFormed, Layout, IsMaterial, Place, IsNoLater, AreOneChannel, IsNoLaterName, IsOfNode}
use Rattle.tree_circuits.proofs.Common.{IsFlatName, IsOfFlatNode, NamedTree}
use Rattle.finite_sets.proofs.Leasts.{IsLeast-unique}
use Rattle.finite_sets.proofs.Searches.{All-In, list_any-source}
use Rattle.tree_names.specs.TechModel.declared.raw.FetRule.{FetRule}
use Rattle.tree_names.specs.TechModel.Types.{connects, is_type}
use Rattle.tree_names.specs.TechModel.WellFormed.{IsFet}
use Rattle.tree_names.proofs.TechModel.TypeLaws.{connects_self}
use Rattle.tree_names.proofs.Offences.SpoiledLaws.{channel_is_material}
use Rattle.tree_names.specs.TreeRecords.Names.NamedNodes.{AreOneNamedNode}
use Rattle.tree_names.proofs.TreeRecords.CellNodes.NodePlaces.{AreOneNamedNode-sym}
use Rattle.tree_names.proofs.OwnRecordLaws.PreferredNames.{later_both_ways}

-- the type of a channel is one of the technology
pub channel_is_type : (raw : RawTech) → IsWellFormed raw → (kind : ℕ) → IsTrue (is_channel raw kind) → IsTrue (is_type raw kind)
channel_is_type raw formed kind channel =
    let found = list_any-source (λ (fet : FetRule). fet.kind.0 == kind) raw.fets channel in
    let fet = All-In (IsFet raw) raw.fets found.0 formed.fets found.1.0 in
    subst (λ (k : ℕ). IsTrue (is_type raw k)) (eqb-true found.0.kind.0 kind found.1.1) fet.kind

module _ (raw : RawTech) (formed : IsWellFormed raw) (layout : Layout) (labels : List Label) where
  -- the places of a channel are of one node
  pub channel_node : {a b : Place} → IsTrue (is_channel raw (layout a)) → AreOneChannel layout a b → AreOneNamedNode raw layout labels a b
  channel_node channel stay = stay
  channel_node channel (go {a = a} {b = b} alike rest) =
      let material = channel_is_material raw formed (layout a) channel in
      let itself = connects_self raw (layout a) (channel_is_type raw formed (layout a) channel) in
      go (inl (record {
        here = material;
        there = λ space. material (alike.same ∙ space);
        near = inl alike.near;
        connected = subst (λ (kind : ℕ). IsTrue (connects raw (layout a) kind)) alike.same itself;
      })) (channel_node (subst (λ (kind : ℕ). IsTrue (is_channel raw kind)) alike.same channel) rest)

  -- the places of a node go by one name
  pub node_along : (name : List ℕ) (a b : Place) → AreOneNamedNode raw layout labels a b → IsMaterial layout b
      → IsOfNode raw layout labels name a
      → IsOfNode raw layout labels name b
  node_along name a b joined material is = record {
    material = material;
    least = is.least;
    is_least = IsLeast-iff IsNoLater (AreOneNamedNode raw layout labels a) (AreOneNamedNode raw layout labels b)
        (λ place chain. Chain-append (AreOneNamedNode-sym raw layout labels joined) chain)
        (λ place chain. Chain-append joined chain) is.least is.is_least;
    first = is.first;
  }

  -- and so do those of a channel
  pub name_along : (name : List ℕ) (a b : Place) → IsTrue (is_channel raw (layout b)) → IsTrue (is_channel raw (layout a))
      → AreOneChannel layout a b
      → IsOfNode raw layout labels name a → IsOfNode raw layout labels name b
  name_along name a b there here chain =
      node_along name a b (channel_node here chain) (channel_is_material raw formed (layout b) there)

-- a place's flat node goes by one name
pub one_flat_name : (raw : RawTech) (tree : NamedTree) (name other : List ℕ) (place : Place) → IsOfFlatNode raw tree name place
    → IsOfFlatNode raw tree other place → name ≡ other
one_flat_name raw tree name other place is is_other =
    IsLeast-unique IsNoLaterName (IsFlatName raw tree place) later_both_ways name other is.first is_other.first
