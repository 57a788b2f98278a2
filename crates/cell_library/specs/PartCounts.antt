-- How many elements the uses of a cell have, and their bodies.
use Rattle.std.specs.Prelude.{◌≡◌, ◌+◌, ℕ, List, [], ◌∷◌, length, Some, slice_get}
use Rattle.cell_tree.specs.declared.use_tables.UseBody.{UseBody}
use Rattle.cell_tree.specs.Uses.{displacements}

-- how many elements these uses have
abbrev pub element_count : List (List ℕ × UseBody) → ℕ
element_count [] = 0
element_count (entry ∷ rest) = length (displacements entry.1.grid) + element_count rest

-- The k-th use has this body.
pub record HasBodyAt (uses : List (List ℕ × UseBody)) (k : ℕ) (body : UseBody) : Type 0 where
  pub id : List ℕ
  pub stands : slice_get uses k ≡ Some (id, body)
