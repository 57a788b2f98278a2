-- Where rectangles of two lists begin and end, in order from below.
use Rattle.std.specs.Prelude.{◌≡◌, ℕ, ◌+◌, ◌<◌, Bool, true, false, if◌then◌else◌, List, [], ◌∷◌, length, AllPairs}
use Rattle.geo_core.specs.declared.squares.Rect.{Rect}
use Rattle.geo_core.specs.FiniteSets.Lists.{In, Distinct}
use Rattle.geo_core.specs.FiniteSets.Order.{Lexicographic}
use Rattle.rect_contacts.specs.declared.events.Event.{Event}
use Rattle.rect_contacts.specs.Rects.{rect_at}

-- a rectangle of one of two lists begins or ends
abbrev pub event_of : Bool → Bool → ℕ → Rect → Event
event_of begins of_second owner area = record {
  line = if begins then area.ylo else area.yhi;
  begins = begins;
  of_second = of_second;
  owner = owner;
  from = area.xlo;
  to = area.xhi;
}

-- the events of the rectangles of one list, whose places are counted from a number on
abbrev pub events_from : Bool → ℕ → List Rect → List Event
events_from of_second place [] = []
events_from of_second place (area ∷ areas) =
    event_of true of_second place area ∷ event_of false of_second place area ∷ events_from of_second (place + 1) areas

-- the places of two rectangles, that of the first list's first
abbrev pub pair_of : Event → ℕ → ℕ × ℕ
pair_of event owner = if event.of_second then (owner, event.owner) else (event.owner, owner)

-- The first event comes no later: on a line before, or on the same line and not as a beginning before an end.
abbrev pub ComesNoLater : Event → Event → Type 0
ComesNoLater a b = Lexicographic a.line b.line (a.begins ≡ true → b.begins ≡ true)

-- one of two lists
abbrev pub list_of : List Rect → List Rect → Bool → List Rect
list_of first second of_second = if of_second then second else first

-- the beginning or the end of the rectangle at a place of one of two lists
abbrev pub event_at : List Rect → List Rect → Bool → Bool → ℕ → Event
event_at first second begins of_second place = event_of begins of_second place (rect_at (list_of first second of_second) place)

-- The event is the beginning or the end of a rectangle of a list.
pub record IsEvent (first second : List Rect) (event : Event) : Type 0 where
  pub in_list : event.owner < length (list_of first second event.of_second)
  pub is : event ≡ event_at first second event.begins event.of_second event.owner

-- These are the events of the rectangles of the two lists, each once, in order.
pub record AreEvents (first second : List Rect) (events : List Event) : Type 0 where
  pub each : (event : Event) → In event events → IsEvent first second event
  pub all : (begins of_second : Bool) (place : ℕ) → place < length (list_of first second of_second)
      → In (event_at first second begins of_second place) events
  pub once : Distinct events
  pub ordered : AllPairs ComesNoLater events
