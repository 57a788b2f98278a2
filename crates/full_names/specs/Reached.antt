-- Which records a tree reaches.
use Rattle.std.specs.Prelude.{◌≡◌, ◌<◌, ◌≤◌, ℕ, Bool, true, pos, List, All, length, slice_index_or}
use Rattle.ext_model.specs.FiniteSets.Lists.{In}
use Rattle.ext_model.specs.GeoCore.declared.orients.Orient.TheVariants.{R0}
use Rattle.element_tree.specs.declared.tree.TreeElement.{TreeElement}
use Rattle.full_names.specs.OwnNames.{is_reached}

-- what stands past the end of a list of elements
abbrev pub no_element : TreeElement
no_element = record {
  cell = 0;
  parent = 0;
  at = 0;
  depth = 0;
  bytes = 0;
  rank = 0;
  to_root = record { orient = R0; dx = pos 0; dy = pos 0 };
}

-- what the tree has of the element with this number
abbrev pub flat_at : List TreeElement → ℕ → TreeElement
flat_at flats number = slice_index_or flats number no_element

-- the elements are of so many records
abbrev pub AreOfRecords : ℕ → List TreeElement → Type 0
AreOfRecords count flats = All (λ flat. flat.cell < count) flats

-- One of the first elements is of the same record as the element with this number, and stands no later.
pub record HasFirst (flats : List TreeElement) (firsts : List ℕ) (number : ℕ) : Type 0 where
  pub first : ℕ
  pub listed : In first firsts
  pub no_later : first ≤ number
  pub same : (flat_at flats first).cell ≡ (flat_at flats number).cell

-- Of the elements below this number, their records are marked, and the first of each is listed.
pub record AreReachedBelow (flats : List TreeElement) (end : ℕ) (cells : List Bool) (firsts : List ℕ) : Type 0 where
  pub within : (first : ℕ) → In first firsts → first < end
  pub marked : (number : ℕ) → number < end → is_reached cells (flat_at flats number).cell ≡ true
  pub first : (number : ℕ) → number < end → HasFirst flats firsts number

-- The records of the elements are marked, and the first element of each is listed.
abbrev pub AreReached : List TreeElement → List Bool → List ℕ → Type 0
AreReached flats cells firsts = AreReachedBelow flats (length flats) cells firsts
