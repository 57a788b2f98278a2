-- The strips of a set of squares: its maximal horizontal strips, in order.
use Rattle.std.specs.Prelude.{◌≡◌, ℤ, pos, ◌-ℤ◌, ◌≤ℤ◌, ◌<ℤ◌, List, AllPairs}
use Rattle.finite_sets.specs.Lists.{In}
use Rattle.finite_sets.specs.Order.{Lexicographic}
use Rattle.geo_core.specs.declared.squares.Square.{Square}
use Rattle.geo_core.specs.declared.squares.Rect.{Rect}
use Rattle.geo_core.specs.Covering.{Covers}

-- In the row y the squares from xlo on and below xhi are of the set, and the ones on either side of them are not.
pub record IsRun (S : Square → Type 0) (xlo xhi y : ℤ) : Type 0 where
  pub long : xlo <ℤ xhi
  pub within : (x : ℤ) → xlo ≤ℤ x → x <ℤ xhi → S (record { x = x; y = y })
  pub left : S (record { x = xlo -ℤ pos 1; y = y }) → ⊥
  pub right : S (record { x = xhi; y = y }) → ⊥

-- In each of its rows the rectangle is a run of the set, and in the rows below it and above it it is not.
pub record IsStrip (S : Square → Type 0) (area : Rect) : Type 0 where
  pub high : area.ylo <ℤ area.yhi
  pub runs : (y : ℤ) → area.ylo ≤ℤ y → y <ℤ area.yhi → IsRun S area.xlo area.xhi y
  pub below : IsRun S area.xlo area.xhi (area.ylo -ℤ pos 1) → ⊥
  pub above : IsRun S area.xlo area.xhi area.yhi → ⊥

-- Strips are in the order of their lowest rows, and in one row from left to right.
abbrev pub StandsBefore : Rect → Rect → Type 0
StandsBefore a b = Lexicographic a.ylo b.ylo (a.xlo <ℤ b.xlo)

-- Some rectangle of the list covers the square.
abbrev pub IsInUnion : List Rect → Square → Type 0
IsInUnion areas square = (area : Rect) × (In area areas × Covers area square)

-- The list has exactly the strips of the set, each once, in order, and each square of the set lies in one.
pub record IsStrips (S : Square → Type 0) (areas : List Rect) : Type 0 where
  pub each : (area : Rect) → In area areas → IsStrip S area
  pub every : (area : Rect) → IsStrip S area → In area areas
  pub whole : (square : Square) → S square → IsInUnion areas square
  pub ordered : AllPairs StandsBefore areas

-- A set has one list of strips.
abbrev pub StripsAreUnique : (Square → Type 0) → Type 0
StripsAreUnique S = (areas others : List Rect) → IsStrips S areas → IsStrips S others → areas ≡ others
