-- Regions whose members lie apart, so that each member makes a stack of its own.
use Rattle.std.specs.Prelude.{◌≡◌, ◌++◌, ℕ, List, [], ◌∷◌, map, AllPairs}
use Rattle.geo_core.specs.declared.squares.Rect.{Rect}
use Rattle.geo_core.specs.Areas.{common_rect, AreDisjoint}
use Rattle.rect_contacts.specs.Rects.{rect_at}
use Rattle.rect_overlays.specs.declared.stacks.Stack.{Stack}
use Rattle.rect_overlays.specs.steps.Regions.{Region}

-- no two of the rectangles with these indices have a square in common
abbrev pub AreApart : List Rect → List ℕ → Type 0
AreApart rects indices = AllPairs (λ a b. AreDisjoint (rect_at rects a) (rect_at rects b)) indices

-- what the rectangle with this index has of the area, with that index alone
abbrev pub single_of : List Rect → Rect → ℕ → Region
single_of rects area index = record { area = common_rect (rect_at rects index) area; members = index ∷ [] }

-- the area and the members of a stack
abbrev pub contents_of : Stack → Region
contents_of stack = record { area = stack.area; members = stack.members.items }

-- Behind the stacks stand others, one for each index in turn: what its rectangle has of the area.
abbrev pub AddsSingles : List Rect → Rect → List ℕ → List Stack → List Stack → Type 0
AddsSingles rects area indices before after =
    (singles : List Stack) × ((map contents_of singles ≡ map (single_of rects area) indices) × (after ≡ before ++ singles))
