-- The names of a sim file in the order in which they are met, and the nodes that they are given.
use Rattle.std.specs.Prelude.{◌≡◌, ◌<◌, ℕ, if◌then◌else◌, List, [], ◌∷◌, ◌++◌, length, zip, position, unwrap_or, All, true, ◌⊎◌, ◌↔◌}
use Rattle.std.specs.List.{list_any}
use Rattle.std.specs.Str.{bytes_eq}
use Rattle.finite_sets.specs.Lists.{In, Distinct}
use Rattle.sim_text.specs.declared.files.SimFile.{SimFile}
use Rattle.switch_net.specs.Names.{HasName}
use Rattle.switch_net.specs.Network.{Network}
use Rattle.switch_net.specs.Path.{is_input}
use Rattle.switch_net.specs.SimRecords.{AreOfOneNode, SimRecords, TransistorLine, names_of, names_of_aliases, names_of_transistors}
use Rattle.sim_networks.specs.declared.names.NodeNames.{NodeNames}
use Rattle.sim_networks.specs.declared.nodes.NodeTable.{NodeTable}
use Rattle.sim_networks.specs.SimNetworks.{IsNumberedByCaps, records_of}

-- the names with one more, where it is not there yet
abbrev pub with_name : List (List ℕ) → List ℕ → List (List ℕ)
with_name names name = if list_any (bytes_eq name) names then names else names ++ name ∷ []

-- the names with some more, one after another
abbrev pub with_names : List (List ℕ) → List (List ℕ) → List (List ℕ)
with_names names [] = names
with_names names (name ∷ more) = with_names (with_name names name) more

-- the names of the records in the order in which nodes are numbered
abbrev pub arrivals : SimRecords → List (List ℕ)
arrivals records = records.capacitors ++ names_of_transistors records.transistors ++ names_of_aliases records.aliases

-- The names in the index are those in the list.
abbrev pub AreIndexed : NodeNames → Type 0
AreIndexed names = names.names.items ≡ names.index

-- Some more names, one after another, make the new ones of the old.
pub record AddsNames (more : List (List ℕ)) (old new : NodeNames) : Type 0 where
  pub index : new.index ≡ with_names old.index more
  pub indexed : AreIndexed new

-- The names of a sim file.
pub record AreNamesOf (sim : SimFile) (names : NodeNames) : Type 0 where
  pub index : names.index ≡ with_names [] (arrivals (records_of sim))
  pub indexed : AreIndexed names

-- how many other names were met before
abbrev pub number_in : List (List ℕ) → List ℕ → ℕ
number_in names name = unwrap_or (position (bytes_eq name) names) 0

-- the numbers of two names
abbrev pub numbers_in : List (List ℕ) → List ℕ × List ℕ → ℕ × ℕ
numbers_in names pair = (number_in names pair.0, number_in names pair.1)

-- both names are known
abbrev pub AreKnown : List (List ℕ) → List ℕ × List ℕ → Type 0
AreKnown names pair = In pair.0 names × In pair.1 names

-- each name with its node
abbrev pub names_with_nodes : NodeTable → List (List ℕ × ℕ)
names_with_nodes table = zip table.names.index table.labels.items

-- Each name stands in the table once, with one of the nodes.
pub record IsTable (table : NodeTable) : Type 0 where
  pub indexed : AreIndexed table.names
  pub distinct : Distinct table.names.index
  pub one_label : length table.labels.items ≡ length table.names.index
  pub below : All (λ label. label < table.count) table.labels.items

-- The names at a transistor's terminals are known.
pub record HasTerminals (names : List (List ℕ)) (line : TransistorLine) : Type 0 where
  pub gate : In line.gate names
  pub source : In line.source names
  pub drain : In line.drain names

-- So many nodes are the classes of names that the aliases of the records join.
pub record AreNodesOf (records : SimRecords) (count : ℕ) (names : List (List ℕ × ℕ)) : Type 0 where
  pub named : (name : List ℕ) → In name (names_of records) → (v : ℕ) × HasName names v name
  pub stands : (name : List ℕ) (v : ℕ) → HasName names v name → In name (names_of records) × (v < count)
  pub each_node : (v : ℕ) → v < count → (name : List ℕ) × HasName names v name
  pub classes : (a b : List ℕ) (v w : ℕ) → HasName names v a → HasName names w b → (v ≡ w) ↔ AreOfOneNode records a b

-- The table has the nodes of the records.
pub record IsTableOf (records : SimRecords) (table : NodeTable) : Type 0 where
  pub is_table : IsTable table
  pub nodes : AreNodesOf records table.count (names_with_nodes table)
  pub in_order : IsNumberedByCaps records (names_with_nodes table)

-- The node with this name, if there is one, is an input of the new network, and else it is the old one.
pub record MarksInput (names : List (List ℕ × ℕ)) (name : List ℕ) (old new : Network) : Type 0 where
  pub nodes : new.nodes ≡ old.nodes
  pub switches : new.switches ≡ old.switches
  pub sizes : new.sizes ≡ old.sizes
  pub inputs : (v : ℕ) → v < old.nodes → (is_input new v ≡ true) ↔ ((is_input old v ≡ true) ⊎ HasName names v name)
