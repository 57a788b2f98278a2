-- Names of nodes.
use Rattle.std.specs.Prelude.{◌≡◌, ℕ, ◌<◌, List}
use Rattle.finite_sets.specs.Lists.{In}

-- the list gives the name this node
abbrev pub HasName : List (List ℕ × ℕ) → ℕ → List ℕ → Type 0
HasName names v name = In {X = List ℕ × ℕ} (name, v) names

-- each named node is one of so many
abbrev pub NameNodesBelow : ℕ → List (List ℕ × ℕ) → Type 0
NameNodesBelow nodes names = (name : List ℕ) (v : ℕ) → HasName names v name → v < nodes

-- no name has two nodes
abbrev pub NameOneNodeEach : List (List ℕ × ℕ) → Type 0
NameOneNodeEach names = (name : List ℕ) (v w : ℕ) → HasName names v name → HasName names w name → v ≡ w
