-- The uses of a cell: which ids they have, and where their elements stand.
use Rattle.std.specs.Prelude.{◌≡◌, ℕ, zero, suc, ◌≤ℤ◌, ℤ, pos, neg_ℤ, List, [], ◌∷◌, map, Option, Some, None, slice_get}
use Rattle.geo_core.specs.declared.grids.Grid.{Grid}
use Rattle.geo_core.specs.declared.transforms.Transform.{Transform}
use Rattle.geo_core.specs.Elements.{elements_of, IsLawful}
use Rattle.cell_tree.specs.declared.limits.TheConstants.{USE_EDGE}
use Rattle.cell_tree.specs.declared.use_tables.UseBody.{UseBody}

-- uses with their ids in order of arrival, and for how many more there is room
pub record UseList : Type 0 where
  pub entries : List (List ℕ × UseBody)
  pub spare : ℕ

-- The k-th use has this id.
pub record HasIdAt (uses : List (List ℕ × UseBody)) (k : ℕ) (id : List ℕ) : Type 0 where
  pub entry : List ℕ × UseBody
  pub stands : slice_get uses k ≡ Some entry
  pub same : entry.0 ≡ id

-- Some use is of this child.
pub record HasChild (uses : List (List ℕ × UseBody)) (child : ℕ) : Type 0 where
  pub k : ℕ
  pub entry : List ℕ × UseBody
  pub stands : slice_get uses k ≡ Some entry
  pub same : entry.1.child.0 ≡ child

-- the uses, the k-th with another body
abbrev pub with_use_at : List (List ℕ × UseBody) → ℕ → UseBody → List (List ℕ × UseBody)
with_use_at [] k used = []
with_use_at (entry ∷ rest) zero used = (entry.0, used) ∷ rest
with_use_at (entry ∷ rest) (suc k) used = entry ∷ with_use_at rest k used

-- how far a use may move its child
pub record IsShift (z : ℤ) : Type 0 where
  pub low : neg_ℤ USE_EDGE ≤ℤ z
  pub high : z ≤ℤ USE_EDGE

-- The numbers of the grid fit 32 bits with sign, its separations are not too long, and it has no more elements than there may be.
pub record IsLawfulGrid (grid : Grid) : Type 0 where
  pub lawful : IsLawful grid
  pub xsep : IsShift grid.xsep
  pub ysep : IsShift grid.ysep

-- The use doesn't move its child too far, and its grid is lawful.
pub record IsLawfulUse (used : UseBody) : Type 0 where
  pub dx : IsShift used.placed.dx
  pub dy : IsShift used.placed.dy
  pub grid : (grid : Grid) → used.grid ≡ Some grid → IsLawfulGrid grid

-- How far the elements of a use are displaced, in the child's coordinates and before the transform: a use without a grid has one
-- element, and one with a grid has an element for each pair of its indices.
abbrev pub displacements : Option Grid → List (ℤ × ℤ)
displacements None = (pos 0, pos 0) ∷ []
displacements (Some grid) = map (λ element. (element.2, element.3)) (elements_of grid)

-- the uses, the k-th placed otherwise and with another grid or none
abbrev pub moved_at : List (List ℕ × UseBody) → ℕ → Transform → Option Grid → List (List ℕ × UseBody)
moved_at [] k placed grid = []
moved_at (entry ∷ rest) zero placed grid = (entry.0, record { child = entry.1.child; placed = placed; grid = grid }) ∷ rest
moved_at (entry ∷ rest) (suc k) placed grid = entry ∷ moved_at rest k placed grid
