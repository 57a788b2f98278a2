-- Which records with arrays and rows are lawful: those whose uses and rows have their forms, and whose plain forms are lawful.
use Rattle.std.specs.Prelude.{◌≡◌, ◌⊎◌, ◌<◌, ◌≤◌, ℕ, IsTrue, List, ◌∷◌, ◌++◌, All, Option, Some, None}
use Rattle.geo_core.specs.declared.grids.Grid.{Grid}
use Rattle.geo_core.specs.Elements as grids
use Rattle.ext_model.specs.declared.limits.TheConstants.{SHIFT_EDGE}
use Rattle.ext_model.specs.declared.names.TheConstants.{SLASH}
use Rattle.ext_model.specs.declared.arrays.ArrayUse.{ArrayUse}
use Rattle.ext_model.specs.declared.arrays.MergeRow.{MergeRow}
use Rattle.ext_model.specs.declared.arrays.ArrayExt.{ArrayExt}
use Rattle.ext_model.specs.ElementNames.{is_use_id, IsIndexed}
use Rattle.ext_model.specs.Lawful.{IsLawful, IsPlacement}
use Rattle.ext_model.specs.Plain.{plain}

-- The id of a use has its form: that of an array is the id alone, and one without a grid may have indices of its own. A grid is lawful: its
-- numbers fit 32 bits with sign, and it has no more elements than a grid may have.
abbrev pub HasIdForm : Option Grid → List ℕ → Type 0
HasIdForm None id = IsTrue (is_use_id id) ⊎ IsIndexed id
HasIdForm (Some grid) id = IsTrue (is_use_id id) × grids.IsLawful grid

pub record IsArrayUse (used : ArrayUse) : Type 0 where
  pub id : HasIdForm used.grid used.id
  pub six : IsPlacement SHIFT_EDGE used.six

-- The path has a slash, and its first name is an id with two indices.
pub record BeginsIndexed (path : List ℕ) : Type 0 where
  pub name : List ℕ
  pub rest : List ℕ
  pub indexed : IsIndexed name
  pub text : path ≡ name ++ SLASH ∷ rest

-- There is a merge, or a row of merges, in which case the second path has an index to raise.
pub record IsMergeRow (row : MergeRow) : Type 0 where
  pub some : 1 ≤ row.count
  pub indexed : 1 < row.count → BeginsIndexed row.second

-- The record is lawful. What is said of elements and of paths holds of each element of an array and of each merge of a row.
pub record IsLawfulArrayExt (ext : ArrayExt) : Type 0 where
  pub uses : All IsArrayUse ext.uses
  pub rows : All IsMergeRow ext.merges
  pub plain : IsLawful (plain ext)
