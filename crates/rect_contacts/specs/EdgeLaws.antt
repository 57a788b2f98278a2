-- Lengths of edges and areas of rectangles are numbers of edges of squares and of squares.
use Rattle.std.specs.Prelude.{◌≡◌, ℕ, ℤ, pos, ◌+ℤ◌, ◌-ℤ◌, ◌*ℤ◌, List, All, AllPairs}
use Rattle.geo_core.specs.declared.squares.Rect.{Rect}
use Rattle.geo_core.specs.Covering.{Covers, IsProper}
use Rattle.geo_core.specs.FiniteSets.Lists.{In, Lists}
use Rattle.geo_core.specs.FiniteSets.Total.{sum_on}
use Rattle.rect_contacts.specs.declared.contacts.Contact.{Contact}
use Rattle.geo_core.specs.Areas.{AreDisjoint}
use Rattle.rect_contacts.specs.Rects.{rect_at, places_of}
use Rattle.rect_contacts.specs.Contacts.{shared_length, IsSharedEdge}
use Rattle.rect_contacts.specs.Squares.{squares_of, area_of, perimeter_of, edges_between, open_edges}

-- The squares of a rectangle are those that it covers.
abbrev pub SquaresAreCovered : Type 0
SquaresAreCovered = (a : Rect) → Lists (Covers a) (squares_of a)

-- They are as many as its area says.
abbrev pub AreaCountsSquares : Type 0
AreaCountsSquares = (a : Rect) → IsProper a → sum_on (λ square. pos 1) (squares_of a) ≡ area_of a

-- Of two disjoint rectangles as many edges lead from one to the other as the length that they share.
abbrev pub SharedLengthCountsEdges : Type 0
SharedLengthCountsEdges = (a b : Rect) → IsProper a → IsProper b → AreDisjoint a b → edges_between a b ≡ shared_length a b

-- Of the four edges of each square of a rectangle, all but as many as its perimeter lead to squares of the rectangle.
abbrev pub PerimeterLeadsOut : Type 0
PerimeterLeadsOut = (a : Rect) → IsProper a → edges_between a a ≡ (pos 4 *ℤ area_of a) -ℤ perimeter_of a

-- From one of several disjoint rectangles as many edges lead to squares of none of them as its perimeter says,
-- less what it shares with each of them. With itself it shares nothing.
abbrev pub PerimeterIsOpenOrShared : Type 0
PerimeterIsOpenOrShared =
    (rects : List Rect) (a : Rect) → All IsProper rects → AllPairs AreDisjoint rects → In a rects
    → open_edges rects a ≡ perimeter_of a -ℤ sum_on (shared_length a) rects

-- A sum over the contacts that counts each for both of its rectangles, by a weight of their two places, is the sum over all
-- pairs of places of what the rectangles there share, by that weight.
abbrev pub ContactsCountBothWays : Type 0
ContactsCountBothWays =
    (rects : List Rect) (contacts : List Contact) (weight : ℕ → ℕ → ℤ) → All IsProper rects → Lists (IsSharedEdge rects) contacts
    → sum_on (λ c. (weight c.first c.second +ℤ weight c.second c.first) *ℤ c.length) contacts
    ≡ sum_on (λ i. sum_on (λ j. weight i j *ℤ shared_length (rect_at rects i) (rect_at rects j)) (places_of rects)) (places_of rects)
