-- Rooted paths: how strong they are, and which stronger paths block them.
use Rattle.std.specs.Prelude.{◌≡◌, ℕ, ◌<◌, List, [], ◌∷◌, ◌++◌, Bool, true, false, ◌⊎◌, min, slice_index, slice_index_or, Contains, cond}
use Rattle.switch_net.specs.declared.switches.Level.{Level}
use Rattle.switch_net.specs.declared.switches.Level.TheVariants.{Zero, One, X}
use Rattle.switch_net.specs.declared.switches.SwitchKind.{SwitchKind}
use Rattle.switch_net.specs.declared.switches.SwitchKind.TheVariants.{N, P, D}
use Rattle.switch_net.specs.declared.switches.Switch.{Switch}
use Rattle.switch_net.specs.Network.{Network}

-- the state of a node
abbrev pub state_of : List Level → ℕ → Level
state_of s v = slice_index_or s v X

-- whether a node is an input
abbrev pub is_input : Network → ℕ → Bool
is_input net v = slice_index_or net.inputs v false

-- the strength of a node as a root: that of a storage node is its size, from 1 to 3, and that of an input is above all
abbrev pub root_strength : Network → ℕ → ℕ
root_strength net v = cond (is_input net v) 6 (slice_index net.sizes v)

-- the strength of a switch: above all sizes, below the inputs, and that of a depletion switch below the others
abbrev pub switch_strength : SwitchKind → ℕ
switch_strength D = 4
switch_strength N = 5
switch_strength P = 5

-- whether a switch of this kind is closed where its gate is in this state
abbrev pub is_closed_at : SwitchKind → Level → Bool
is_closed_at D gate = true
is_closed_at N One = true
is_closed_at N Zero = false
is_closed_at N X = false
is_closed_at P Zero = true
is_closed_at P One = false
is_closed_at P X = false

-- whether it is closed or unknown there
abbrev pub is_closed_or_unknown_at : SwitchKind → Level → Bool
is_closed_or_unknown_at D gate = true
is_closed_or_unknown_at N One = true
is_closed_or_unknown_at N Zero = false
is_closed_or_unknown_at N X = true
is_closed_or_unknown_at P Zero = true
is_closed_or_unknown_at P One = false
is_closed_or_unknown_at P X = true

abbrev pub is_closed : List Level → Switch → Bool
is_closed s switch = is_closed_at switch.kind (state_of s switch.gate)

abbrev pub is_closed_or_unknown : List Level → Switch → Bool
is_closed_or_unknown s switch = is_closed_or_unknown_at switch.kind (state_of s switch.gate)

-- the switch leads from the first node to the second
abbrev pub Joins : Switch → ℕ → ℕ → Type 0
Joins switch a b = ((switch.left ≡ a) × (switch.right ≡ b)) ⊎ ((switch.right ≡ a) × (switch.left ≡ b))

-- a part of a path: a switch, and the node that it leads to
pub record Hop : Type 0 where
  pub through : Switch
  pub to : ℕ

-- A rooted path is a root and a list of hops, the last hop first. So a prefix of the path is an end of the list.

-- the node at which a path ends
abbrev pub end_of : ℕ → List Hop → ℕ
end_of root [] = root
end_of root (h ∷ p) = h.to

-- the nodes of a path, the last first
abbrev pub nodes_of : ℕ → List Hop → List ℕ
nodes_of root [] = root ∷ []
nodes_of root (h ∷ p) = h.to ∷ nodes_of root p

-- a root of the network, and hops that each go on from the node before by a switch that is closed or unknown
abbrev pub IsPath : Network → List Level → ℕ → List Hop → Type 0
IsPath net s root [] = root < net.nodes
IsPath net s root (h ∷ p) =
    IsPath net s root p × Contains net.switches h.through × Joins h.through (end_of root p) h.to × (is_closed_or_unknown s h.through ≡ true)

-- the least of the root's strength and the switches' strengths
abbrev pub strength : Network → ℕ → List Hop → ℕ
strength net root [] = root_strength net root
strength net root (h ∷ p) = min (strength net root p) (switch_strength h.through.kind)

-- all switches of the path are closed
abbrev pub IsDefinite : List Level → List Hop → Type 0
IsDefinite s [] = Unit {0}
IsDefinite s (h ∷ p) = IsDefinite s p × (is_closed s h.through ≡ true)

-- the first path is the second up to some node of it, maybe its last
abbrev pub IsPrefix : List Hop → List Hop → Type 0
IsPrefix q p = (rest : List Hop) × (rest ++ q ≡ p)

-- a definite path of strength k leads to the node
pub record DefiniteTo (net : Network) (s : List Level) (v k : ℕ) : Type 0 where
  pub root : ℕ
  pub path : List Hop
  pub is_path : IsPath net s root path
  pub is_definite : IsDefinite s path
  pub ends : end_of root path ≡ v
  pub is_strength : strength net root path ≡ k

-- some prefix of the path, itself included, ends at a node to which a definite path leads that is stronger than the prefix
pub record IsBlocked (net : Network) (s : List Level) (root : ℕ) (path : List Hop) : Type 0 where
  pub prefix : List Hop
  pub is_prefix : IsPrefix prefix path
  pub stronger : ℕ
  pub blocker : DefiniteTo net s (end_of root prefix) stronger
  pub is_stronger : strength net root prefix < stronger

-- a rooted path to the node that is not blocked
pub record IsUnblockedTo (net : Network) (s : List Level) (v root : ℕ) (path : List Hop) : Type 0 where
  pub is_path : IsPath net s root path
  pub ends : end_of root path ≡ v
  pub is_unblocked : ¬ (IsBlocked net s root path)
