-- Which names of elements uses give.
use Rattle.std.specs.Prelude.{ℕ, Bool, List, [], ◌∷◌, map, Option, Some, None}
use Rattle.std.specs.List.{flat_map, list_any}
use Rattle.std.specs.Str.{bytes_eq}
use Rattle.geo_core.specs.declared.grids.Grid.{Grid}
use Rattle.geo_core.specs.Elements.{elements_of}
use Rattle.ext_model.specs.ElementNames.{indexed_name}
use Rattle.element_index.specs.declared.uses.UseElements.{UseElements}

-- the names of the elements of a use with this id: the id, or in an array the id with the two indices of each element
abbrev pub element_ids : List ℕ → Option Grid → List (List ℕ)
element_ids id None = id ∷ []
element_ids id (Some grid) = map (λ element. indexed_name id element.0 element.1) (elements_of grid)

-- the names of the elements of uses
abbrev pub names_in : List UseElements → List (List ℕ)
names_in uses = flat_map (λ used. element_ids used.id used.grid) uses

-- the name is one of these
abbrev pub is_among : List ℕ → List (List ℕ) → Bool
is_among name names = list_any (bytes_eq name) names

-- the use gives an element a name that one of the uses gives
abbrev pub gives_again : List UseElements → UseElements → Bool
gives_again uses used = list_any (λ name. is_among name (names_in uses)) (element_ids used.id used.grid)
