-- How nodes are looked up by their names: each name once, and the nodes of power and ground by themselves.
use Rattle.std.specs.Prelude.{◌≡◌, ◌==◌, ◌||◌, ℕ, Bool, false, List, Option, Some, None, length, codes}
use Rattle.std.specs.List.{zip}
use Rattle.name_index.specs.FiniteSets.Lists.{In}
use Rattle.vector_files.specs.LineForms.{node_named, is_rail}

abbrev pub power_name : List ℕ
power_name = codes "Vdd!"

abbrev pub ground_name : List ℕ
ground_name = codes "GND!"

-- it is the node that was found
abbrev pub is_node : Option ℕ → ℕ → Bool
is_node None v = false
is_node (Some w) v = w == v

abbrev pub is_either_node : Option ℕ → Option ℕ → ℕ → Bool
is_either_node a b v = is_node a v || is_node b v

-- The names, each with the node at its place, are those of the pairs: each name has its first node there, and no pair is new.
pub record IsIndexOf (names : List (List ℕ)) (nodes : List ℕ) (named : List (List ℕ × ℕ)) : Type 0 where
  pub one_node : length names ≡ length nodes
  pub same : (name : List ℕ) → node_named (zip names nodes) name ≡ node_named named name
  pub among : (x : List ℕ × ℕ) → In x (zip names nodes) → In x named

-- a name has the same node in both, and a node is power or ground in both or in neither
pub record IsLikeNamed (known named : List (List ℕ × ℕ)) : Type 0 where
  pub nodes : (name : List ℕ) → node_named known name ≡ node_named named name
  pub rails : (v : ℕ) → is_rail known v ≡ is_rail named v
