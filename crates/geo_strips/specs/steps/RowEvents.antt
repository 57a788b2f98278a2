-- What happens at the rows where rectangles begin and end.
use Rattle.std.specs.Prelude.{◌≡◌, ℤ, ◌≤ℤ◌, ◌<ℤ◌, true, false, cond, List, [], ◌∷◌, AllPairs}
use Rattle.std.specs.Ordering.{int_cmp, bool_cmp, ordering_then}
use Rattle.std.specs.declared.cmp.Ordering.{Ordering}
use Rattle.geo_core.specs.FiniteSets.Lists.{In}
use Rattle.geo_core.specs.declared.squares.Rect.{Rect}
use Rattle.geo_strips.specs.declared.bars.Bar.{Bar}
use Rattle.geo_strips.specs.declared.row_events.Event.{Event}
use Rattle.geo_core.specs.Covering.{IsProper}

-- the rectangle begins
abbrev pub begin_of : Rect → Event
begin_of area = record { row = area.ylo; ends = false; from = area.xlo; to = area.xhi; top = area.yhi }

-- the rows above the rectangle begin at its top
abbrev pub top_of : Rect → Bar
top_of area = record { low = area.yhi; high = area.yhi; from = area.xlo; to = area.xhi }

-- rectangles end in the columns of the bar
abbrev pub end_of : Bar → Event
end_of bar = record { row = bar.low; ends = true; from = bar.from; to = bar.to; top = bar.low }

-- events are in the order of their rows, and at one row beginnings come first
abbrev pub event_cmp : Event → Event → Ordering
event_cmp a b =
    ordering_then (int_cmp a.row b.row) (ordering_then (bool_cmp a.ends b.ends) (ordering_then (int_cmp a.from b.from)
    (ordering_then (int_cmp a.to b.to) (int_cmp a.top b.top))))

-- the first event is at no later row
abbrev pub IsAtNoLaterRow : Event → Event → Type 0
IsAtNoLaterRow a b = a.row ≤ℤ b.row

-- a rectangle of the list begins there
pub record IsBegin (areas : List Rect) (event : Event) : Type 0 where
  pub area : Rect
  pub in_list : In area areas
  pub proper : IsProper area
  pub is : begin_of area ≡ event

-- an event of the list is an end at the row y in columns of which x is one
pub record HaveEnd (events : List Event) (x y : ℤ) : Type 0 where
  pub event : Event
  pub in_list : In event events
  pub ends : event.ends ≡ true
  pub at_row : event.row ≡ y
  pub after : event.from ≤ℤ x
  pub before : x <ℤ event.to

-- the events of rectangles, in order: each beginning, and at each top of a rectangle ends in all its columns
pub record AreEvents (areas : List Rect) (events : List Event) : Type 0 where
  pub begins : (event : Event) → In event events → event.ends ≡ false → IsBegin areas event
  pub begun : (area : Rect) → In area areas → IsProper area → In (begin_of area) events
  pub ended : (area : Rect) (x : ℤ) → In area areas → IsProper area → area.xlo ≤ℤ x → x <ℤ area.xhi → HaveEnd events x area.yhi
  pub ordered : AllPairs IsAtNoLaterRow events

-- the columns where rectangles that begin have their sides
abbrev pub sides_of : List Event → List ℤ
sides_of [] = []
sides_of (event ∷ rest) = cond event.ends (sides_of rest) (event.from ∷ event.to ∷ sides_of rest)
