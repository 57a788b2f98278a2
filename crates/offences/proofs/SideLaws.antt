-- The squares of a rectangle beside another, and contacts of rectangles with neighbouring squares.
use Rattle.offences.proofs.Common.{◌≡◌, ◌≢◌, ◌⊎◌, inl, inr, ℤ, pos, ◌+ℤ◌, ◌≤ℤ◌, ◌<ℤ◌, ℕ, ◌<◌, List, length, refl, sym, subst, arith, AllPairs}
use Rattle.offences.proofs.Common.{cases_lt, ints, In, Lists, Square, Rect, AreDisjoint, common_rect, Covers, covers_first, covers_second}
use Rattle.offences.proofs.Common.{covers_both, Contact, IsSharedEdge, moved_rect, sides_of}
use Rattle.std.proofs.Common.{negsuc, ◌-ℤ◌}
use Rattle.geo_core.specs.Neighbours.{AreEdgeNeighbours}
use Rattle.geo_core.proofs.NeighbourLaws.{AreEdgeNeighbours-sym}
use Rattle.rect_overlays.specs.RectContacts.Contacts.{shared_length}
use Rattle.rect_overlays.specs.RectContacts.Rects.{rect_at, no_rect}
use Rattle.rect_overlays.proofs.RectContacts.Abutting.{neighbours_share}

-- the square, moved
abbrev pub moved_square : Square → ℤ → ℤ → Square
moved_square square dx dy = record { x = square.x +ℤ dx; y = square.y +ℤ dy }

-- what the moved rectangle covers comes from the rectangle
moved_back : (area : Rect) (dx dy ex ey : ℤ) (square : Square) → ex ≡ pos 0 -ℤ dx → ey ≡ pos 0 -ℤ dy → Covers (moved_rect area dx dy) square
    → Covers area (moved_square square ex ey)
moved_back area dx dy ex ey square p q c =
    let left : (area.xlo +ℤ dx) ≤ℤ square.x = c.right_of_xlo in
    let right : square.x <ℤ (area.xhi +ℤ dx) = c.left_of_xhi in
    let low : (area.ylo +ℤ dy) ≤ℤ square.y = c.above_ylo in
    let high : square.y <ℤ (area.yhi +ℤ dy) = c.below_yhi in
    record {
      right_of_xlo = omega (arith, ints);
      left_of_xhi = omega (arith, ints);
      above_ylo = omega (arith, ints);
      below_yhi = omega (arith, ints);
    }

moved_on : (area : Rect) (dx dy : ℤ) (square from : Square) → square.x ≡ from.x +ℤ dx → square.y ≡ from.y +ℤ dy → Covers area from
    → Covers (moved_rect area dx dy) square
moved_on area dx dy square from p q c =
    let left : area.xlo ≤ℤ from.x = c.right_of_xlo in
    let right : from.x <ℤ area.xhi = c.left_of_xhi in
    let low : area.ylo ≤ℤ from.y = c.above_ylo in
    let high : from.y <ℤ area.yhi = c.below_yhi in
    record {
      right_of_xlo = omega (arith, ints);
      left_of_xhi = omega (arith, ints);
      above_ylo = omega (arith, ints);
      below_yhi = omega (arith, ints);
    }

-- The square lies in the first rectangle, and a neighbour of it in the second.
pub record StandsBeside (here beside : Rect) (square : Square) : Type 0 where
  pub covers : Covers here square
  pub neighbour : Square
  pub near : AreEdgeNeighbours square neighbour
  pub there : Covers beside neighbour

module _ (here beside : Rect) (square : Square) where
  by_side : (dx dy ex ey : ℤ) → ex ≡ pos 0 -ℤ dx → ey ≡ pos 0 -ℤ dy → AreEdgeNeighbours square (moved_square square ex ey)
      → Covers (common_rect here (moved_rect beside dx dy)) square → StandsBeside here beside square
  by_side dx dy ex ey p q near c = record {
    covers = covers_first here (moved_rect beside dx dy) square c;
    neighbour = moved_square square ex ey;
    near = near;
    there = moved_back beside dx dy ex ey square p q (covers_second here (moved_rect beside dx dy) square c);
  }

  -- what the sides cover lies beside the second rectangle
  pub sides_sound : (piece : Rect) → In piece (sides_of here beside) → Covers piece square → StandsBeside here beside square
  sides_sound piece (inl e) c =
      by_side (pos 1) (pos 0) (negsuc 0) (pos 0) refl refl (inl (inr (omega (arith, ints)), omega (arith, ints)))
      (subst (λ (r : Rect). Covers r square) (sym e) c)
  sides_sound piece (inr (inl e)) c =
      by_side (negsuc 0) (pos 0) (pos 1) (pos 0) refl refl (inl (inl refl, omega (arith, ints))) (subst (λ (r : Rect). Covers r square) (sym e) c)
  sides_sound piece (inr (inr (inl e))) c =
      by_side (pos 0) (pos 1) (pos 0) (negsuc 0) refl refl (inr (omega (arith, ints), inr (omega (arith, ints))))
      (subst (λ (r : Rect). Covers r square) (sym e) c)
  sides_sound piece (inr (inr (inr (inl e)))) c =
      by_side (pos 0) (negsuc 0) (pos 0) (pos 1) refl refl (inr (omega (arith, ints), inl refl)) (subst (λ (r : Rect). Covers r square) (sym e) c)
  sides_sound piece (inr (inr (inr (inr h)))) c = absurd h

  side_covers : (dx dy : ℤ) (from : Square) → square.x ≡ from.x +ℤ dx → square.y ≡ from.y +ℤ dy → Covers here square → Covers beside from
      → Covers (common_rect here (moved_rect beside dx dy)) square
  side_covers dx dy from p q c d = covers_both here (moved_rect beside dx dy) square c (moved_on beside dx dy square from p q d)

  -- and a square beside it lies in a side
  pub sides_whole : (n : Square) → Covers here square → AreEdgeNeighbours square n → Covers beside n
      → (piece : Rect) × (In piece (sides_of here beside) × Covers piece square)
  sides_whole n c (inl (inl right, row)) d = (
    common_rect here (moved_rect beside (negsuc 0) (pos 0)),
    (inr (inl refl), side_covers (negsuc 0) (pos 0) n (omega (arith, ints)) (omega (arith, ints)) c d),
  )
  sides_whole n c (inl (inr left, row)) d = (
    common_rect here (moved_rect beside (pos 1) (pos 0)),
    (inl refl, side_covers (pos 1) (pos 0) n (omega (arith, ints)) (omega (arith, ints)) c d),
  )
  sides_whole n c (inr (column, inl up)) d = (
    common_rect here (moved_rect beside (pos 0) (negsuc 0)),
    (inr (inr (inr (inl refl))), side_covers (pos 0) (negsuc 0) n (omega (arith, ints)) (omega (arith, ints)) c d),
  )
  sides_whole n c (inr (column, inr down)) d = (
    common_rect here (moved_rect beside (pos 0) (pos 1)),
    (inr (inr (inl refl)), side_covers (pos 0) (pos 1) n (omega (arith, ints)) (omega (arith, ints)) c d),
  )

-- the contact of two places of a list of rectangles
contact_at : (rects : List Rect) (i j : ℕ) → Contact
contact_at rects i j = record { first = i; second = j; length = shared_length (rect_at rects i) (rect_at rects j) }

shared_edge : (rects : List Rect) (i j : ℕ) → i < j → j < length rects → pos 0 <ℤ shared_length (rect_at rects i) (rect_at rects j)
    → IsSharedEdge rects (contact_at rects i j)
unfolding contact_at
shared_edge rects i j less below some = record { in_order = less; in_list = below; length_is = refl; not_none = some }

-- The list has a contact of the two places.
pub record HasContact (contacts : List Contact) (i j : ℕ) : Type 0 where
  pub contact : Contact
  pub listed : In contact contacts
  pub places : ((contact.first ≡ i) × (contact.second ≡ j)) ⊎ ((contact.first ≡ j) × (contact.second ≡ i))

-- rectangles with neighbouring squares have a contact
pub neighbours_touch : (rects : List Rect) (contacts : List Contact) → AllPairs AreDisjoint rects → Lists (IsSharedEdge rects) contacts → (i j : ℕ)
    → i ≢ j
    → i < length rects → j < length rects → (s t : Square) → Covers (rect_at rects i) s → Covers (rect_at rects j) t → AreEdgeNeighbours s t
    → HasContact contacts i j
unfolding contact_at
neighbours_touch rects contacts apart are i j differ below below' s t p q near = elim (cases_lt i j) [
  | inl less ↦ record {
    contact = contact_at rects i j;
    listed = are.1 (contact_at rects i j) (shared_edge rects i j less below'
        (neighbours_share (rect_at rects i) (rect_at rects j) s t (apart i j no_rect less below') p q near));
    places = inl (refl, refl);
  }
  | inr more ↦ (let less : j < i = omega arith in record {
    contact = contact_at rects j i;
    listed = are.1 (contact_at rects j i) (shared_edge rects j i less below
        (neighbours_share (rect_at rects j) (rect_at rects i) t s (apart j i no_rect less below) q p (AreEdgeNeighbours-sym s t near)));
    places = inr (refl, refl);
  })
]
