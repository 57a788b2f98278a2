-- Names of elements as squares: those of one id lie in rows of their own, each where its two indices say.
use Rattle.std.specs.Prelude.{◌≡◌, ◌⊎◌, ℕ, ℤ, pos, neg_ℤ, ◌+ℤ◌, ◌-ℤ◌, ◌*ℤ◌, ◌≤ℤ◌, IsTrue, List}
use Rattle.std.specs.Int.{w32, int_max, int_min}
use Rattle.std.specs.Int.RustNames.{FitsSigned}
use Rattle.finite_sets.specs.Lists.{In}
use Rattle.geo_core.specs.declared.grids.Grid.{Grid}
use Rattle.geo_core.specs.declared.squares.Rect.{Rect}
use Rattle.geo_core.specs.declared.squares.Square.{Square}
use Rattle.geo_core.specs.Covering.{Covers}
use Rattle.ext_model.specs.ElementNames.{is_use_id, indexed_name}
use Rattle.element_index.specs.declared.limits.TheConstants.{ROWS_OF_AN_ID, WHOLE_COLUMN}

-- the rectangle of one square
abbrev pub one_square : ℤ → ℤ → Rect
one_square x y = record { xlo = x; ylo = y; xhi = x +ℤ pos 1; yhi = y +ℤ pos 1 }

-- the squares of the indices of a grid
abbrev pub grid_area : Grid → Rect
grid_area grid = record {
  xlo = int_min grid.xlo grid.xhi;
  ylo = int_min grid.ylo grid.yhi;
  xhi = int_max grid.xlo grid.xhi +ℤ pos 1;
  yhi = int_max grid.ylo grid.yhi +ℤ pos 1;
}

-- the area in the rows of the id of this number
abbrev pub raised : Rect → ℕ → Rect
raised area number = record {
  xlo = area.xlo;
  ylo = area.ylo +ℤ pos number *ℤ ROWS_OF_AN_ID;
  xhi = area.xhi;
  yhi = area.yhi +ℤ pos number *ℤ ROWS_OF_AN_ID;
}

-- a square from the rows of that id as one of the first id
abbrev pub lowered : Square → ℕ → Square
lowered square number = record { x = square.x; y = square.y -ℤ pos number *ℤ ROWS_OF_AN_ID }

-- The square is that of the two indices of the name.
pub record IsIndexedAt (id name : List ℕ) (square : Square) : Type 0 where
  pub i_fits : FitsSigned w32 square.x
  pub j_fits : FitsSigned w32 square.y
  pub text : name ≡ indexed_name id square.x square.y

-- The square is that of the id itself.
pub record IsWholeAt (id name : List ℕ) (square : Square) : Type 0 where
  pub column : square.x ≡ WHOLE_COLUMN
  pub row : square.y ≡ pos 0
  pub text : name ≡ id

-- the square of a name with the first id
abbrev pub IsNameAt : List ℕ → List ℕ → Square → Type 0
IsNameAt id name square = IsIndexedAt id name square ⊎ IsWholeAt id name square

-- no bound of the area is far past the indices
pub record LiesLow (area : Rect) : Type 0 where
  pub left : neg_ℤ WHOLE_COLUMN ≤ℤ area.xlo
  pub right : area.xhi ≤ℤ (WHOLE_COLUMN +ℤ pos 1)
  pub low : neg_ℤ WHOLE_COLUMN ≤ℤ area.ylo
  pub high : area.yhi ≤ℤ WHOLE_COLUMN
  pub wide : area.xlo ≤ℤ area.xhi
  pub upright : area.ylo ≤ℤ area.yhi

-- The area has the squares of these names, all of this id.
pub record IsBlock (names : List (List ℕ)) (id : List ℕ) (area : Rect) : Type 0 where
  pub id_form : IsTrue (is_use_id id)
  pub low : LiesLow area
  pub named : (square : Square) → Covers area square → (name : List ℕ) × (In name names × IsNameAt id name square)
  pub covered : (name : List ℕ) → In name names → (square : Square) × (Covers area square × IsNameAt id name square)
