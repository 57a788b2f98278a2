-- Laws of clean cells, as statements.
use Rattle.std.specs.Prelude.{◌≡◌, ◌≢◌, ◌⊎◌, ◌==◌, ◌+◌, ℕ, IsTrue, if◌then◌else◌, List, [], ◌∷◌, ◌++◌, Some, None}
use Rattle.tech_model.specs.FiniteSets.Lists.{In}
use Rattle.tech_model.specs.declared.raw.RawTech.{RawTech}
use Rattle.tech_model.specs.Types.{is_within}
use Rattle.tech_model.specs.Rules.{KeepsRules}
use Rattle.tech_model.specs.WellFormed.{IsWellFormed}
use Rattle.tech_model.specs.ChannelRoles.{is_channel}
use Rattle.offences.specs.LayoutModel.Places.{Place, AreNeighbours}
use Rattle.offences.specs.Offences.{joined_at}
use Rattle.offences.specs.Roles.{role_of}
use Rattle.offences.specs.LayoutModel.CellTrees.{CellTree, Elements, place_back, own_types}
use Rattle.offences.specs.LayoutModel.CellTrees.CellTree.{cell_tree}
use Rattle.offences.specs.LayoutModel.CellTrees.Elements.{no_elements, element_and}
use Rattle.offences.specs.LayoutModel.FlatSets.{flat_sets, IsTyped}
use Rattle.hierarchy_model.specs.CleanCells.{IsClean}

-- how often the type stands in the list
abbrev pub times : ℕ → List ℕ → ℕ
times kind [] = 0
times kind (other ∷ kinds) = (if other == kind then 1 else 0) + times kind kinds

-- The flat type is defined everywhere.
abbrev pub HasFlatType : RawTech → CellTree → Type 0
HasFlatType raw tree = (place : Place) → joined_at raw (flat_sets raw tree) place ≢ None

-- Each own type at a place is space, or within the flat type there.
abbrev pub OwnTypesAreWithin : RawTech → CellTree → Type 0
OwnTypesAreWithin raw tree =
    (place : Place) (kind : ℕ) → In kind (own_types tree place)
    → (kind ≡ 0) ⊎ ((flat : ℕ) × (joined_at raw (flat_sets raw tree) place ≡ Some flat) × IsTrue (is_within raw kind flat))

-- Where the flat type is a channel's, it is the own type there of exactly one cell as it stands.
abbrev pub ChannelsHaveOneOwner : RawTech → CellTree → Type 0
ChannelsHaveOneOwner raw tree =
    (place : Place) (fet : ℕ) → IsTrue (is_channel raw fet) → joined_at raw (flat_sets raw tree) place ≡ Some fet
    → times fet (own_types tree place) ≡ 1

-- the own types at two places, of all that stands there, in the order of `own_types`
abbrev mutual
  pub own_pairs : CellTree → Place → Place → List (ℕ × ℕ)
  own_pairs (cell_tree own elements) place beside = (own.layout place, own.layout beside) ∷ own_pairs_below elements place beside

  pub own_pairs_below : Elements → Place → Place → List (ℕ × ℕ)
  own_pairs_below no_elements place beside = []
  own_pairs_below (element_and placed tree rest) place beside =
      own_pairs tree (place_back placed place) (place_back placed beside) ++ own_pairs_below rest place beside

-- Beside an own type that is a channel's, the flat type has the role that the own type of the same cell, as it stands, has there.
abbrev pub RolesAreKept : RawTech → CellTree → Type 0
RolesAreKept raw tree =
    (place beside : Place) → AreNeighbours place beside → (pair : ℕ × ℕ) → In pair (own_pairs tree place beside) → IsTrue (is_channel raw pair.0)
    → role_of raw pair.0 (joined_at raw (flat_sets raw tree) beside) ≡ role_of raw pair.0 (Some pair.1)

-- What holds of each clean cell.
pub record KeepsWhatItHas (raw : RawTech) (tree : CellTree) : Type 0 where
  pub flat : HasFlatType raw tree
  pub own_types : OwnTypesAreWithin raw tree
  pub channels : ChannelsHaveOneOwner raw tree
  pub roles : RolesAreKept raw tree

-- Clean cells keep what they have: over a technology that keeps its rules each clean cell does.
abbrev pub CleanCellsKeepWhatTheyHave : RawTech → Type 0
CleanCellsKeepWhatTheyHave raw =
    IsWellFormed raw → KeepsRules raw → (tree : CellTree) → IsTyped raw tree → IsClean raw tree → KeepsWhatItHas raw tree
