-- The elements of a grid: a child placed in rows and columns.
use Rattle.std.specs.Prelude.{ℕ, suc, ◌*◌, ◌≤◌, ℤ, pos, ◌+ℤ◌, ◌-ℤ◌, ◌*ℤ◌, int_le, if◌then◌else◌, List, map}
use Rattle.std.specs.Int.RustNames.{FitsSigned, unsigned_abs}
use Rattle.std.specs.Int.{w32}
use Rattle.finite_sets.specs.Range.{integer_range, pairs_of}
use Rattle.geo_core.specs.declared.limits.TheConstants.{MOST_ELEMENTS}
use Rattle.geo_core.specs.declared.grids.Grid.{Grid}

-- An index runs from one end to the other in steps of one, upward or downward: so many values it has, both ends among
-- them, and this is the n-th of them, counted from 0.
abbrev pub indices : ℤ → ℤ → ℕ
indices from to = suc (unsigned_abs (to -ℤ from))

-- the index of this number from the first to the last
abbrev pub nth_index : ℤ → ℤ → ℤ → ℤ
nth_index from to n = if int_le from to then from +ℤ n else from -ℤ n

-- The element that is n-th in i and m-th in j, both counted from 0: its two indices and its displacement.
abbrev pub element_of : Grid → ℤ × ℤ → ℤ × ℤ × ℤ × ℤ
element_of grid (m, n) =
    (nth_index grid.xlo grid.xhi n, nth_index grid.ylo grid.yhi m, n *ℤ grid.xsep, m *ℤ grid.ysep)

-- The elements in order: by m, and then by n.
abbrev pub elements_of : Grid → List (ℤ × ℤ × ℤ × ℤ)
elements_of grid =
    map (element_of grid)
    (pairs_of (integer_range (pos 0) (pos (indices grid.ylo grid.yhi))) (integer_range (pos 0) (pos (indices grid.xlo grid.xhi))))

-- The numbers fit 32 bits with sign, and there are no more elements than there may be.
pub record IsLawful (grid : Grid) : Type 0 where
  pub xlo : FitsSigned w32 grid.xlo
  pub xhi : FitsSigned w32 grid.xhi
  pub xsep : FitsSigned w32 grid.xsep
  pub ylo : FitsSigned w32 grid.ylo
  pub yhi : FitsSigned w32 grid.yhi
  pub ysep : FitsSigned w32 grid.ysep
  pub count : indices grid.xlo grid.xhi * indices grid.ylo grid.yhi ≤ MOST_ELEMENTS
