-- Nodes with their names and places.
use Rattle.std.specs.Prelude.{◌≡◌, ℕ, Some, List, ◌∷◌, [], ◌++◌, slice_get}
use Rattle.finite_sets.specs.Lists.{In}
use Rattle.ext_model.specs.declared.records.NodeRec.{NodeRec}
use Rattle.circuit_model.specs.FlatNodes.{IsPlaced}
use Rattle.name_classes.specs.FullNames.declared.names.FullNames.{FullNames}
use Rattle.name_classes.specs.FullNames.NameLists.{IsFullNameList}
use Rattle.name_classes.specs.FullNames.Names.{elements_in}

-- the name is the full name of this number
abbrev pub HasText : FullNames → ℕ → List ℕ → Type 0
HasText names number name =
    (list : List (List ℕ)) → IsFullNameList (elements_in names) list → slice_get list number ≡ Some name

-- the node lies where that of its preferred name does
abbrev pub IsPlacedAt : FullNames → ℕ → NodeRec → Type 0
IsPlacedAt names number node = IsPlaced (elements_in names) node

-- The new node is the old one with one more name.
pub record HasAlias (old : NodeRec) (alias : List ℕ) (new : NodeRec) : Type 0 where
  pub is : new ≡ record old { aliases = old.aliases ++ alias ∷ [] }

-- each node lies where that of its preferred name does
abbrev pub ArePlaced : FullNames → List NodeRec → Type 0
ArePlaced names nodes = (node : NodeRec) → In node nodes → IsPlaced (elements_in names) node
