-- The names of the elements of a use.
use Rattle.std.specs.Prelude.{ℕ, ℤ, pos, List, [], ◌∷◌, map, Option, Some, None}
use Rattle.ext_model.specs.GeoCore.declared.grids.Grid.{Grid}
use Rattle.ext_model.specs.GeoCore.Elements.{elements_of}
pub use Rattle.ext_model.specs.ElementNames.{indexed_name}

-- An element of a use: its name, and how far it is displaced, in the child's coordinates and before the transform.
pub record UseElement : Type 0 where
  pub name : List ℕ
  pub step : ℤ × ℤ

-- an element of an array, of these two indices and this displacement
abbrev pub array_element : List ℕ → ℤ × ℤ × ℤ × ℤ → UseElement
array_element id element = record { name = indexed_name id element.0 element.1; step = (element.2, element.3) }

-- The elements of a use in order. A use without a grid has one element, whose name is the use's id, and one with a grid has an element for
-- each pair of its indices.
abbrev pub use_elements : List ℕ → Option Grid → List UseElement
use_elements id None = record { name = id; step = (pos 0, pos 0) } ∷ []
use_elements id (Some grid) = map (array_element id) (elements_of grid)
