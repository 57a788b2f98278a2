-- The sides of rectangles along vertical and horizontal lines, and where they meet.
use Rattle.std.specs.Prelude.{◌≡◌, ◌≢◌, ◌⊎◌, ℕ, ◌<◌, min, max, pos, ◌≤ℤ◌, ◌<ℤ◌, List, [], ◌∷◌, ◌++◌, length, All, AllPairs}
use Rattle.geo_core.specs.declared.squares.Rect.{Rect}
use Rattle.geo_core.specs.FiniteSets.Lists.{In}
use Rattle.geo_core.specs.FiniteSets.Order.{Lexicographic}
use Rattle.rect_contacts.specs.declared.contacts.Contact.{Contact}
use Rattle.rect_contacts.specs.declared.sides.Edge.{Edge}
use Rattle.rect_contacts.specs.declared.sides.Edge.TheVariants.{Left, Right, Bottom, Top}
use Rattle.rect_contacts.specs.declared.sides.Side.{Side}
use Rattle.geo_core.specs.Areas.{IsSmall}
use Rattle.rect_contacts.specs.Rects.{rect_at}
use Rattle.rect_contacts.specs.Contacts.{overlap}

-- an edge of the rectangle at a place of a list, as a side
abbrev pub side_of : Edge → Rect → ℕ → Side
side_of Left rect owner = record { line = rect.xlo; from = rect.ylo; to = rect.yhi; owner = owner }
side_of Right rect owner = record { line = rect.xhi; from = rect.ylo; to = rect.yhi; owner = owner }
side_of Bottom rect owner = record { line = rect.ylo; from = rect.xlo; to = rect.xhi; owner = owner }
side_of Top rect owner = record { line = rect.yhi; from = rect.xlo; to = rect.xhi; owner = owner }

-- The side has a length, and its ends are near.
pub record IsSpan (side : Side) : Type 0 where
  pub long : side.from <ℤ side.to
  pub near_from : IsSmall side.from
  pub near_to : IsSmall side.to

-- The sides are those of two rectangles. The first lies on a line before that of the second, or on the same line and ends no
-- farther than where the second begins.
pub record EndsBefore (a b : Side) : Type 0 where
  pub of_two : a.owner ≢ b.owner
  pub before : Lexicographic a.line b.line (a.to ≤ℤ b.from)

-- The first side ends no farther than the second: on a line before, or on the same line.
abbrev pub ReachesNoFarther : Side → Side → Type 0
ReachesNoFarther a b = Lexicographic a.line b.line (a.to ≤ℤ b.to)

-- The sides of the list are spans, and each ends before every later one.
pub record AreSidesInOrder (sides : List Side) : Type 0 where
  pub spans : All IsSpan sides
  pub ascending : AllPairs EndsBefore sides

-- The list has that edge of each of the rectangles and nothing else, in order.
pub record AreSidesOf (edge : Edge) (rects : List Rect) (sides : List Side) : Type 0 where
  pub each : (place : ℕ) → place < length rects → In (side_of edge (rect_at rects place) place) sides
  pub others : (side : Side) → In side sides → (side.owner < length rects) × (side ≡ side_of edge (rect_at rects side.owner) side.owner)
  pub in_order : AreSidesInOrder sides

-- The two sides lie on one line, and have more in common there than a point.
pub record Meet (a b : Side) : Type 0 where
  pub one_line : a.line ≡ b.line
  pub common : pos 0 <ℤ overlap a.from a.to b.from b.to

-- the contact of the rectangles that have these sides
abbrev pub contact_of : Side → Side → Contact
contact_of a b = record { first = min a.owner b.owner; second = max a.owner b.owner; length = overlap a.from a.to b.from b.to }

-- Where one rectangle has a side in each list, that in the second list lies on a line before that in the first.
abbrev pub AreOpposite : List Side → List Side → Type 0
AreOpposite lowers uppers = (a b : Side) → In a lowers → In b uppers → a.owner ≡ b.owner → b.line <ℤ a.line

-- It is the contact of a side of the one list with a side of the other that meets it.
pub record IsMeeting (lowers uppers : List Side) (contact : Contact) : Type 0 where
  pub lower : Side
  pub upper : Side
  pub in_lowers : In lower lowers
  pub in_uppers : In upper uppers
  pub meet : Meet lower upper
  pub is : contact ≡ contact_of lower upper

-- the contact of the two sides is added at the end of a list, if they meet
abbrev pub AddsContact : Side → Side → List Contact → List Contact → Type 0
AddsContact lower upper before after =
    (Meet lower upper × (after ≡ before ++ contact_of lower upper ∷ [])) ⊎ ((Meet lower upper → ⊥) × (after ≡ before))
