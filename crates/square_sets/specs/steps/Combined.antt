-- What two lists of rectangles cover together, and what one of them covers alone.
use Rattle.std.specs.Prelude.{ℕ, Bool, ◌&&◌, nat_le, nat_lt, List}
use Rattle.std.specs.List.{list_all, list_any}
use Rattle.geo_core.specs.declared.squares.Square.{Square}
use Rattle.geo_core.specs.declared.squares.Rect.{Rect}
use Rattle.geo_core.specs.Strips.{IsInUnion}
use Rattle.rect_overlays.specs.declared.stacks.Stack.{Stack}

-- the first rectangles cover the square and the second do not
abbrev pub IsInFirstAlone : List Rect → List Rect → Square → Type 0
IsInFirstAlone first second square = IsInUnion first square × (IsInUnion second square → ⊥)

-- both cover it
abbrev pub IsInBoth : List Rect → List Rect → Square → Type 0
IsInBoth first second square = IsInUnion first square × IsInUnion second square

-- all members of the stack are among so many first rectangles
abbrev pub is_lone : ℕ → Stack → Bool
is_lone count stack = list_all (λ member. nat_lt member count) stack.members.items

-- some member is
abbrev pub has_first : ℕ → Stack → Bool
has_first count stack = list_any (λ member. nat_lt member count) stack.members.items

-- some member is not
abbrev pub has_second : ℕ → Stack → Bool
has_second count stack = list_any (λ member. nat_le count member) stack.members.items

-- some member is, and some other is not
abbrev pub is_shared : ℕ → Stack → Bool
is_shared count stack = has_first count stack && has_second count stack

-- the area of a stack
abbrev pub area_of : Stack → Rect
area_of stack = stack.area
