-- What an index of elements keeps: the squares of the names of its uses.
use Rattle.std.specs.Prelude.{◌≡◌, ◌⊎◌, ◌≤◌, ℕ, ℤ, ◌≤ℤ◌, ◌<ℤ◌, IsTrue, List, [], ◌∷◌, ◌++◌, length, slice_get, Some}
use Rattle.finite_sets.specs.Lists.{In, Distinct}
use Rattle.geo_core.specs.declared.squares.Rect.{Rect}
use Rattle.geo_core.specs.declared.squares.Square.{Square}
use Rattle.geo_core.specs.Strips.{IsInUnion}
use Rattle.ext_model.specs.ElementNames.{is_use_id}
use Rattle.element_index.specs.declared.limits.TheConstants.{MOST_IDS}
use Rattle.element_index.specs.declared.uses.UseElements.{UseElements}
use Rattle.element_index.specs.GivenNames.{names_in}
use Rattle.element_index.specs.Squares.{lowered, IsNameAt}

-- The id is new, and came behind the others; or it is one of them, and they stayed.
abbrev pub IsGrown : List (List ℕ) → List (List ℕ) → List ℕ → Type 0
IsGrown old new id = (In id old × (new ≡ old)) ⊎ ((In id old → ⊥) × (new ≡ old ++ id ∷ []) × (length new ≤ MOST_IDS))

-- The name has one of these ids, and the square is its own, in the rows of the id's number.
pub record IsSquareOf (ids : List (List ℕ)) (name : List ℕ) (square : Square) : Type 0 where
  pub number : ℕ
  pub id : List ℕ
  pub there : slice_get ids number ≡ Some id
  pub id_form : IsTrue (is_use_id id)
  pub spot : IsNameAt id name (lowered square number)

-- The rectangles cover the squares of the names of the uses, by the numbers of their ids, and no others.
pub record Holds (ids : List (List ℕ)) (uses : List UseElements) (rects : List Rect) : Type 0 where
  pub once : Distinct ids
  pub few : length ids ≤ MOST_IDS
  pub forms : (id : List ℕ) → In id ids → IsTrue (is_use_id id)
  pub named : (square : Square) → IsInUnion rects square → (name : List ℕ) × (In name (names_in uses) × IsSquareOf ids name square)
  pub covered : (name : List ℕ) → In name (names_in uses) → (square : Square) × (IsInUnion rects square × IsSquareOf ids name square)

-- right of each rectangle no square is covered
abbrev pub AreWhole : List Rect → Type 0
AreWhole rects =
    (area : Rect) → In area rects → (y : ℤ) → area.ylo ≤ℤ y → y <ℤ area.yhi → IsInUnion rects (record { x = area.xhi; y = y }) → ⊥

-- So do these rectangles, and none of them has a neighbour on its right.
pub record HoldsStrips (ids : List (List ℕ)) (uses : List UseElements) (strips : List Rect) : Type 0 where
  pub holds : Holds ids uses strips
  pub whole : AreWhole strips
