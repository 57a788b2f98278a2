-- What a plane of rows is seen as: its rows, and those that it has once the change that is made ready is committed.
use Rattle.std.specs.Prelude.{◌≡◌, ℕ, ◌+◌, ◌≤◌, List, [], ◌++◌, take, drop, Vec, vec_len, vec_capacity}
use Rattle.std.specs.declared.alloc.Global.{Global}
use Rattle.geo_core.specs.declared.squares.Square.{Square}
use Rattle.geo_core.specs.declared.squares.Piece.{Piece}
use Rattle.geo_core.specs.Planes.{AreSet}
use Rattle.run_plane.specs.declared.rows.Row.{Row}
use Rattle.run_plane.specs.declared.changes.Change.{Change}
use Rattle.run_plane.specs.Rows.{number_at, AreRows}

-- the rows as they are, and as they will be
pub record Contents : Type 0 where
  pub rows : List Row
  pub next : List Row

-- The number at each square.
abbrev pub number_in : Contents → Square → ℕ
number_in contents square = number_at contents.rows square

-- The change that is made ready sets the pieces.
abbrev pub IsReady : Contents → List Piece → Type 0
IsReady contents pieces = AreSet (number_at contents.rows) (number_at contents.next) pieces

-- The rows where those from `from` on and below `until` are replaced.
abbrev pub replaced : List Row → ℕ → ℕ → List Row → List Row
replaced rows from until others = take from rows ++ others ++ drop until rows

-- The change replaces no rows by no rows.
pub record IsNoChange (change : Change) : Type 0 where
  pub from : change.from ≡ 0
  pub until : change.until ≡ 0
  pub rows : change.rows.items ≡ []
  pub empty : vec_len change.rows ≡ 0

-- What a plane of these rows and this change is seen as.
abbrev pub contents_of : Vec Row Global → Change → Contents
contents_of rows change = record { rows = rows.items; next = replaced rows.items change.from change.until change.rows.items }

-- The rows are those of a plane, also when the change is committed, and there is room for it.
pub record IsRunPlane (rows : Vec Row Global) (change : Change) : Type 0 where
  pub now : AreRows rows.items
  pub later : AreRows (replaced rows.items change.from change.until change.rows.items)
  pub in_order : change.from ≤ change.until
  pub within : change.until ≤ vec_len rows
  pub room : vec_len rows + vec_len change.rows ≤ vec_capacity rows
