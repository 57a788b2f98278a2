-- The edges that two rectangles share. A corner in common is none.
use Rattle.std.specs.Prelude.{◌≡◌, ◌<◌, ℤ, pos, ◌+ℤ◌, ◌-ℤ◌, ◌<ℤ◌, List, length, if◌then◌else◌}
use Rattle.std.specs.Ordering.{int_eq}
use Rattle.std.specs.Int.{int_max, int_min}
use Rattle.geo_core.specs.declared.squares.Rect.{Rect}
use Rattle.rect_contacts.specs.declared.contacts.Contact.{Contact}
use Rattle.rect_contacts.specs.Rects.{rect_at}

-- the length that two intervals have in common
unfoldable pub overlap : ℤ → ℤ → ℤ → ℤ → ℤ
overlap lo hi lo' hi' = int_max (pos 0) (int_min hi hi' -ℤ int_max lo lo')

-- what the right edge of the first rectangle has in common with the left edge of the second
unfoldable pub shared_beside : Rect → Rect → ℤ
shared_beside a b = if int_eq a.xhi b.xlo then overlap a.ylo a.yhi b.ylo b.yhi else pos 0

-- what the upper edge of the first rectangle has in common with the lower edge of the second
unfoldable pub shared_upon : Rect → Rect → ℤ
shared_upon a b = if int_eq a.yhi b.ylo then overlap a.xlo a.xhi b.xlo b.xhi else pos 0

-- what two rectangles share where one lies upon the other
abbrev pub shared_stacked : Rect → Rect → ℤ
shared_stacked a b = shared_upon a b +ℤ shared_upon b a

-- what two rectangles share where they stand side by side
abbrev pub shared_abreast : Rect → Rect → ℤ
shared_abreast a b = shared_beside a b +ℤ shared_beside b a

-- The length of the edge that two disjoint rectangles share, each of which covers a square: the second is on top of the first, or below it, to the right of it
-- or to the left. Of the four parts at most one is not 0.
abbrev pub shared_length : Rect → Rect → ℤ
shared_length a b = shared_stacked a b +ℤ shared_abreast a b

-- Two rectangles of the list share this length, which is not 0. The one that comes first in the list is named first.
pub record IsSharedEdgeBy (shared : Rect → Rect → ℤ) (rects : List Rect) (contact : Contact) : Type 0 where
  pub in_order : contact.first < contact.second
  pub in_list : contact.second < length rects
  pub length_is : contact.length ≡ shared (rect_at rects contact.first) (rect_at rects contact.second)
  pub not_none : pos 0 <ℤ contact.length

-- Two rectangles of the list share an edge, of this length.
abbrev pub IsSharedEdge : List Rect → Contact → Type 0
IsSharedEdge rects contact = IsSharedEdgeBy shared_length rects contact
