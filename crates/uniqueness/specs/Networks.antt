-- What the networks of sim records are held to.
use Rattle.std.specs.Prelude.{◌≡◌, ◌↔◌, ◌<◌, ℕ, List}
use Rattle.switch_net.specs.Names.{HasName}
use Rattle.switch_net.specs.Network.{Network}
use Rattle.switch_net.specs.SimRecords.{IsNetworkOf, SimRecords}
use Rattle.network_commands.specs.SimNetworks.SimNetworks.{HasMoreNodesThan, IsNumberedByCaps}

-- A network of the records, whose nodes are numbered in their order.
pub record IsNumbered (records : SimRecords) (net : Network) (names : List (List ℕ × ℕ)) : Type 0 where
  pub is_network : IsNetworkOf records net names
  pub in_order : IsNumberedByCaps records names

-- The lists give each name the same nodes: they have the same elements. Their order may differ, and so may how often an element stands
-- in them.
abbrev pub NameAlike : List (List ℕ × ℕ) → List (List ℕ × ℕ) → Type 0
NameAlike names others = (name : List ℕ) (v : ℕ) → HasName names v name ↔ HasName others v name

-- sim records have one network, and its names are the same but for the order in which they are listed
abbrev pub NetworksAreUnique : Type 0
NetworksAreUnique =
    (records : SimRecords) (net other : Network) (names others : List (List ℕ × ℕ)) → IsNumbered records net names → IsNumbered records other others
    → (net ≡ other) × NameAlike names others

-- sim records have more nodes than so many exactly where a network of theirs has
abbrev pub NodesAreCounted : Type 0
NodesAreCounted =
    (records : SimRecords) (net : Network) (names : List (List ℕ × ℕ)) (most : ℕ) → IsNetworkOf records net names
    → HasMoreNodesThan most records ↔ (most < net.nodes)
