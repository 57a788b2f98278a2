-- Rectangles in trees.
use Rattle.std.specs.Prelude.{List}
use Rattle.std.specs.List.{flat_map}
use Rattle.geo_core.specs.declared.squares.Rect.{Rect}
use Rattle.rect_trees.specs.Meetings.{IsMeeting}

-- all the rectangles of trees
abbrev pub rects_of : List (List Rect) → List Rect
rects_of trees = flat_map (λ tree. tree) trees

-- a rectangle of the list has a square in the area
abbrev pub MeetsSome : List Rect → Rect → Type 0
MeetsSome rects area = (rect : Rect) × IsMeeting rects area rect
