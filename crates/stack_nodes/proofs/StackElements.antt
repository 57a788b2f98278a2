-- The elements of a row and of a stack: where they have a place, and their names.
use Rattle.stack_nodes.proofs.Common.{◌≡◌, ◌<◌, ◌-◌, ◌*◌, ◌∙◌, ℕ, ℤ, pos, ◌<ℤ◌, ◌*ℤ◌, neg_ℤ, List, refl, sym, ap, arith, Some, codes, ints, In}
use Rattle.stack_nodes.proofs.Common.{identity, place_back, Place, element_transform, indexed_name, row_grid, stack_grid, UseElement, array_element}
use Rattle.stack_nodes.proofs.Common.{use_elements}
use Rattle.tech_model.specs.GeoCore.Elements.{element_of, indices, nth_index}
use Rattle.stack_nodes.proofs.Arrays.{IsElementAt, back_by, element_there, moved, same_place}

-- a number below n is one of the indices from 0 to n - 1
index_below : (n i : ℕ) → i < n → pos i <ℤ pos (indices (pos 0) (pos (n - 1)))
index_below n i below = omega (arith, ints, below)

-- an index that runs upward from 0 is its number
upward : (last i : ℕ) → nth_index (pos 0) (pos last) (pos i) ≡ pos i
upward last i = grind (arith, ints)

-- the name of an element by its two indices
named_by_indices : (id : List ℕ) (i j x y : ℤ) → i ≡ x → j ≡ y → indexed_name id i j ≡ indexed_name id x y
named_by_indices id i j x y column row = (λ k. indexed_name id (column k) (row k))

-- ---- a row

-- where an element of a row has a place
pub back_in_row : (n : ℕ) (element : UseElement) → (is : IsElementAt (codes "t") (row_grid n) element) → (place : Place)
    → place_back (element_transform identity element.step) place ≡ moved place (neg_ℤ (is.column *ℤ pos 6)) (neg_ℤ (is.row *ℤ pos 0))
back_in_row n element is place =
    ap (λ (e : UseElement). place_back (element_transform identity e.step) place) (sym is.is)
    ∙ back_by (is.column *ℤ pos 6, is.row *ℤ pos 0) place

-- the tile in a column
abbrev pub tile_element : ℕ → ℕ → UseElement
tile_element n i = array_element (codes "t") (element_of (row_grid n) (pos 0, pos i))

-- where a place of the tile in a column lies in the row
abbrev pub in_row : ℕ → Place → Place
in_row i place = moved place (pos (i * 6)) (pos 0)

pub tile_there : (n i : ℕ) → i < n → In (tile_element n i) (use_elements (codes "t") (Some (row_grid n)))
tile_there n i below =
    element_there (codes "t") (row_grid n) (pos 0) (pos i) (omega (arith, ints), omega (arith, ints)) (omega (arith, ints), index_below n i below)

pub tile_back : (n i : ℕ) (place : Place) → place_back (element_transform identity (tile_element n i).step) (in_row i place) ≡ place
tile_back n i place =
    back_by (pos i *ℤ pos 6, pos 0 *ℤ pos 0) (in_row i place) ∙ same_place _ place refl (omega (arith, ints)) (omega (arith, ints))

pub tile_named : (n i : ℕ) → (tile_element n i).name ≡ indexed_name (codes "t") (pos i) (pos 0)
tile_named n i = named_by_indices (codes "t") _ _ (pos i) (pos 0) (upward (n - 1) i) (upward 0 0)

-- ---- a stack

-- where an element of a stack has a place
pub back_in_stack : (n : ℕ) (element : UseElement) → (is : IsElementAt (codes "r") (stack_grid n) element) → (place : Place)
    → place_back (element_transform identity element.step) place ≡ moved place (neg_ℤ (is.column *ℤ pos 0)) (neg_ℤ (is.row *ℤ pos 6))
back_in_stack n element is place =
    ap (λ (e : UseElement). place_back (element_transform identity e.step) place) (sym is.is)
    ∙ back_by (is.column *ℤ pos 0, is.row *ℤ pos 6) place

-- the row of a number
abbrev pub row_element : ℕ → ℕ → UseElement
row_element n j = array_element (codes "r") (element_of (stack_grid n) (pos j, pos 0))

-- where a place of the row of a number lies in the stack
abbrev pub in_stack : ℕ → Place → Place
in_stack j place = moved place (pos 0) (pos (j * 6))

pub row_there : (n j : ℕ) → j < n → In (row_element n j) (use_elements (codes "r") (Some (stack_grid n)))
row_there n j below =
    element_there (codes "r") (stack_grid n) (pos j) (pos 0) (omega (arith, ints), index_below n j below) (omega (arith, ints), omega (arith, ints))

pub row_back : (n j : ℕ) (place : Place) → place_back (element_transform identity (row_element n j).step) (in_stack j place) ≡ place
row_back n j place =
    back_by (pos 0 *ℤ pos 0, pos j *ℤ pos 6) (in_stack j place) ∙ same_place _ place refl (omega (arith, ints)) (omega (arith, ints))

pub row_named : (n j : ℕ) → (row_element n j).name ≡ indexed_name (codes "r") (pos 0) (pos j)
row_named n j = named_by_indices (codes "r") _ _ (pos 0) (pos j) (upward 0 0) (upward (n - 1) j)
