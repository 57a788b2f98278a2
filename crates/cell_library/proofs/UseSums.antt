-- The parts and numbers of the elements of uses, which leave room for them, and what can be visited below a spot.
use Rattle.cell_library.proofs.Common.{◌≡◌, ◌+◌, ◌*◌, ◌<◌, ◌≤◌, ℕ, zero, suc, ℤ, List, [], ◌∷◌, length, take, refl, sym, ap, subst, ◌∙◌, arith, inl}
use Rattle.cell_library.proofs.Common.{inr, slice_get, option_map, mul-le-mul_right, In, In-append_cases, Transform, composed, MOST_ELEMENTS_BELOW}
use Rattle.cell_library.proofs.Common.{Elements, Size, UseBody, size_at, elements_below, Tree, IsLawfulTree, cell_at, displacements, IsLawfulUse}
use Rattle.cell_library.proofs.Common.{child_is_lower, cell_is, Spot, UsePlace, element_transform, spots_at, spots_from, own_elements, AddsSpots}
use Rattle.cell_library.proofs.Common.{HasRoomToMove, CanBeVisited, HasRoomBelow, spots_before, spots_of_use, spots_under, start_at, start_behind}
use Rattle.std.proofs.Common.{Some}
use Rattle.cell_tree.specs.Sizes.{size_of}
use Rattle.cell_tree.proofs.SizeLaws.{body_at}
use Rattle.cell_library.specs.UseTrees.{place_at}
use Rattle.cell_library.proofs.GridSpots.{element_moves, room_below, room_for_less}
use Rattle.cell_library.proofs.ElementCounts.{size_elements}
use Rattle.cell_library.proofs.SpotLaws.{spots_from-more, spots_both}

-- ---- sums over uses

pub own_next : (uses : List (List ℕ × UseBody)) (k : ℕ) (entry : List ℕ × UseBody) → slice_get uses k ≡ Some entry
    → own_elements (take (suc k) uses) ≡ own_elements (take k uses) + length (displacements entry.1.grid)
own_next [] k entry is = absurd (cc)
own_next (first ∷ uses) zero entry is =
    let same : first ≡ entry = cc in
    ap (λ (e : List ℕ × UseBody). length (displacements e.1.grid) + 0) same ∙ omega arith
own_next (first ∷ uses) (suc k) entry is = let later = own_next uses k entry is in omega (arith, later)

pub below_next : (sizes : ℕ → Size) (uses : List (List ℕ × UseBody)) (k : ℕ) (entry : List ℕ × UseBody) → slice_get uses k ≡ Some entry
    → elements_below sizes (take (suc k) uses) ≡ elements_below sizes (take k uses) + length (displacements entry.1.grid) *
    (sizes entry.1.child.0).elements
below_next sizes [] k entry is = absurd (cc)
below_next sizes (first ∷ uses) zero entry is =
    let same : first ≡ entry = cc in
    ap (λ (e : List ℕ × UseBody). length (displacements e.1.grid) * (sizes e.1.child.0).elements + 0) same ∙ omega arith
below_next sizes (first ∷ uses) (suc k) entry is = let later = below_next sizes uses k entry is in omega (arith, later)

own_within : (uses : List (List ℕ × UseBody)) (k : ℕ) (entry : List ℕ × UseBody) → slice_get uses k ≡ Some entry
    → own_elements (take k uses) + length (displacements entry.1.grid) ≤ own_elements uses
own_within [] k entry is = absurd (cc)
own_within (first ∷ uses) zero entry is =
    let same : first ≡ entry = cc in
    let long : length (displacements first.1.grid) ≡ length (displacements entry.1.grid) =
    ap (λ (e : List ℕ × UseBody). length (displacements e.1.grid)) same in
    omega (arith, long)
own_within (first ∷ uses) (suc k) entry is = let later = own_within uses k entry is in omega (arith, later)

below_within : (sizes : ℕ → Size) (uses : List (List ℕ × UseBody)) (k : ℕ) (entry : List ℕ × UseBody) → slice_get uses k ≡ Some entry
    → elements_below sizes (take k uses) + length (displacements entry.1.grid) * (sizes entry.1.child.0).elements ≤ elements_below sizes uses
below_within sizes [] k entry is = absurd (cc)
below_within sizes (first ∷ uses) zero entry is =
    let same : first ≡ entry = cc in
    let long : length (displacements first.1.grid) * (sizes first.1.child.0).elements ≡ length (displacements entry.1.grid) *
    (sizes entry.1.child.0).elements =
    ap (λ (e : List ℕ × UseBody). length (displacements e.1.grid) * (sizes e.1.child.0).elements) same in
    omega (arith, long)
below_within sizes (first ∷ uses) (suc k) entry is = let later = below_within sizes uses k entry is in omega (arith, later)

own_below : (sizes : ℕ → Size) (uses : List (List ℕ × UseBody))
    → ((k : ℕ) (entry : List ℕ × UseBody) → slice_get uses k ≡ Some entry → 1 ≤ (sizes entry.1.child.0).elements)
    → own_elements uses ≤ elements_below sizes uses
own_below sizes [] some = omega arith
own_below sizes (entry ∷ rest) some =
    let later = own_below sizes rest (λ k other is. some (suc k) other is) in
    let one : 1 * length (displacements entry.1.grid) ≤ (sizes entry.1.child.0).elements * length (displacements entry.1.grid) =
    mul-le-mul_right (length (displacements entry.1.grid)) (some 0 entry refl) in
    let swap : (sizes entry.1.child.0).elements * length (displacements entry.1.grid) ≡ length (displacements entry.1.grid) *
    (sizes entry.1.child.0).elements = omega arith in
    omega (arith, later, one, swap)

-- ---- the k-th use

-- The k-th use of a cell of a tree.
pub record IsUseAt (tree : Tree) (cell k : ℕ) (used : UseBody) : Type 0 where
  pub id : List ℕ
  pub there : slice_get (cell_at tree.cells cell).uses k ≡ Some (id, used)
  pub lawful : IsLawfulUse used
  pub child : used.child.0 < length tree.cells

-- it is lawful
pub use_known : (tree : Tree) (cell k : ℕ) (used : UseBody) → IsLawfulTree tree → cell < length tree.cells
    → option_map (λ (entry : List ℕ × UseBody). entry.1) (slice_get (cell_at tree.cells cell).uses k) ≡ Some used → IsUseAt tree cell k used
use_known tree cell k used lawful below is =
    let body = body_at (cell_at tree.cells cell).uses k used is in
    let known = lawful.cells.uses cell (cell_at tree.cells cell) (cell_is tree.cells cell below) k (body.0, used) body.1 in
    record { id = body.0; there = body.1; lawful = known.0; child = known.1 }

some_elements : (tree : Tree) (cell : ℕ) → IsLawfulTree tree → cell < length tree.cells → 1 ≤ (size_at tree.sizes cell).elements
some_elements tree cell lawful below =
    let size = ap (λ (s : Size). s.elements) (lawful.sizes.right cell (cell_at tree.cells cell) (cell_is tree.cells cell below)) in
    let some = size_elements (size_at tree.sizes) (cell_at tree.cells cell) in
    omega (arith, size, some)

-- what a cell's elements are
pub elements_are : (tree : Tree) (cell : ℕ) → IsLawfulTree tree → cell < length tree.cells
    → (size_at tree.sizes cell).elements ≡ suc (elements_below (size_at tree.sizes) (cell_at tree.cells cell).uses)
elements_are tree cell lawful below =
    ap (λ (s : Size). s.elements) (lawful.sizes.right cell (cell_at tree.cells cell) (cell_is tree.cells cell below))
    ∙ size_elements (size_at tree.sizes) (cell_at tree.cells cell)

own_few : (tree : Tree) (cell : ℕ) → IsLawfulTree tree → cell < length tree.cells
    → own_elements (cell_at tree.cells cell).uses ≤ elements_below (size_at tree.sizes) (cell_at tree.cells cell).uses
own_few tree cell lawful below =
    own_below (size_at tree.sizes) (cell_at tree.cells cell).uses (λ k entry is.
    some_elements tree entry.1.child.0 lawful (lawful.cells.uses cell (cell_at tree.cells cell) (cell_is tree.cells cell below) k entry is).1)

-- ---- where the elements of uses begin

-- The numbers where the elements of the k-th use end, which fit.
pub record EndsWithin (tree : Tree) (cell k : ℕ) (used : UseBody) : Type 0 where
  pub elements : own_elements (take k (cell_at tree.cells cell).uses) + length (displacements used.grid) ≤ MOST_ELEMENTS_BELOW
  pub standing : elements_below (size_at tree.sizes) (take k (cell_at tree.cells cell).uses) + length (displacements used.grid) *
      (size_at tree.sizes used.child.0).elements ≤ MOST_ELEMENTS_BELOW

pub use_ends : (tree : Tree) (cell k : ℕ) (used : UseBody) → IsLawfulTree tree → cell < length tree.cells → IsUseAt tree cell k used
    → EndsWithin tree cell k used
use_ends tree cell k used lawful below at =
    let uses = (cell_at tree.cells cell).uses in
    let own = own_within uses k (at.id, used) at.there in
    let under = below_within (size_at tree.sizes) uses k (at.id, used) at.there in
    let few = own_few tree cell lawful below in
    let elements = elements_are tree cell lawful below in
    let most = lawful.sizes.within Elements cell in
    record { elements = omega (arith, own, few, elements, most); standing = omega (arith, under, elements, most) }

-- where the elements of the next use begin
pub start_next : (tree : Tree) (cell k : ℕ) (used : UseBody) → IsUseAt tree cell k used
    → start_behind tree.sizes (start_at (size_at tree.sizes) (cell_at tree.cells cell).uses k) used
    ≡ start_at (size_at tree.sizes) (cell_at tree.cells cell).uses (suc k)
start_next tree cell k used at =
    let uses = (cell_at tree.cells cell).uses in
    λ i. record {
      elements = sym (own_next uses k (at.id, used) at.there) i;
      standing = sym (below_next (size_at tree.sizes) uses k (at.id, used) at.there) i;
    }

-- where the elements of the k-th use of the cell at a spot stand
abbrev pub place_of : Tree → ℕ → Spot → ℕ → UsePlace
place_of tree step spot k = place_at step spot (start_at (size_at tree.sizes) (cell_at tree.cells spot.cell.0).uses k)

-- The elements of a use have room at its place.
pub record HasRoomAt (tree : Tree) (from : UsePlace) (used : UseBody) : Type 0 where
  pub moves : HasRoomToMove 1 from.outer
  pub parts : from.part + length (displacements used.grid) * from.part_step ≤ MOST_ELEMENTS_BELOW
  pub elements : from.element + length (displacements used.grid) * (size_at tree.sizes used.child.0).elements ≤ MOST_ELEMENTS_BELOW

pub place_room : (tree : Tree) (step : ℕ) (spot : Spot) (k : ℕ) (used : UseBody) → IsLawfulTree tree → HasRoomBelow tree step spot
    → IsUseAt tree spot.cell.0 k used → HasRoomAt tree (place_of tree step spot k) used
place_room tree step spot k used lawful room at =
    let uses = (cell_at tree.cells spot.cell.0).uses in
    let own = own_within uses k (at.id, used) at.there in
    let below = below_within (size_at tree.sizes) uses k (at.id, used) at.there in
    let few = own_few tree spot.cell.0 lawful room.cell in
    let elements = elements_are tree spot.cell.0 lawful room.cell in
    let n = length (displacements used.grid) in
    let counted : suc (own_elements (take k uses) + n) ≤ (size_at tree.sizes spot.cell.0).elements = omega (arith, own, few, elements) in
    let product : suc (own_elements (take k uses) + n) * step ≤ (size_at tree.sizes spot.cell.0).elements * step = mul-le-mul_right step counted in
    let swap : (size_at tree.sizes spot.cell.0).elements * step ≡ step * (size_at tree.sizes spot.cell.0).elements = omega arith in
    let spread : suc (own_elements (take k uses) + n) * step ≡ step + own_elements (take k uses) * step + n * step = omega arith in
    let parts = room.parts in
    let most = room.elements in
    record {
      moves = room.moves;
      parts = omega (arith, product, swap, spread, parts);
      elements = omega (arith, below, elements, most);
    }

-- the spots of one more use were added
pub spots_next : (P : Spot → Type 0) (tree : Tree) (step : ℕ) (spot : Spot) (k next : ℕ) (used : UseBody) (mid new : List Spot)
    → IsUseAt tree spot.cell.0 k used → next ≡ suc k → AddsSpots P (spots_before tree step spot k) [] mid
    → AddsSpots P (spots_of_use tree.sizes (place_of tree step spot k) used) mid new → AddsSpots P (spots_before tree step spot next) [] new
spots_next P tree step spot k next used mid new at after first more =
    let whole =
    spots_from-more step (size_at tree.sizes) spot.to_top (cell_at tree.cells spot.cell.0).uses k (at.id, used) (spot.part + step)
    (spot.element + 1) at.there in
    subst (λ (n : ℕ). AddsSpots P (spots_before tree step spot n) [] new) (sym after)
    (subst (λ (all : List Spot). AddsSpots P all [] new) (sym whole)
    (spots_both P (spots_before tree step spot k) (spots_of_use tree.sizes (place_of tree step spot k) used) [] mid new first more))

-- ---- what can be visited

-- A spot of an element of a use.
pub record IsSpotAt (step size : ℕ) (outer : Transform) (used : UseBody) (steps : List (ℤ × ℤ)) (part number : ℕ) (spot : Spot) : Type 0 where
  pub j : ℕ
  pub displaced : ℤ × ℤ
  pub there : slice_get steps j ≡ Some displaced
  pub cell : spot.cell.0 ≡ used.child.0
  pub moved : spot.to_top ≡ composed (element_transform used.placed displaced) outer
  pub part_low : spot.part + step ≤ part + length steps * step
  pub number_low : spot.element + size ≤ number + length steps * size

-- a spot among those of the elements of a use is that of one of them
pub spot_at_in : (step size : ℕ) (outer : Transform) (used : UseBody) (steps : List (ℤ × ℤ)) (part number : ℕ) (spot : Spot)
    → In spot (spots_at step size outer used steps part number) → IsSpotAt step size outer used steps part number spot
spot_at_in step size outer used [] part number spot none = absurd none
spot_at_in step size outer used (displaced ∷ steps) part number spot (inl same) =
    let part_is : part ≡ spot.part = ap (λ (s : Spot). s.part) same in
    let number_is : number ≡ spot.element = ap (λ (s : Spot). s.element) same in
    record {
      j = 0;
      displaced = displaced;
      there = refl;
      cell = sym (ap (λ (s : Spot). s.cell.0) same);
      moved = sym (ap (λ (s : Spot). s.to_top) same);
      part_low = omega (arith, part_is);
      number_low = omega (arith, number_is);
    }
spot_at_in step size outer used (displaced ∷ steps) part number spot (inr later) =
    let found = spot_at_in step size outer used steps (part + step) (number + size) spot later in
    let parts = found.part_low in
    let numbers = found.number_low in
    record {
      j = suc found.j;
      displaced = found.displaced;
      there = found.there;
      cell = found.cell;
      moved = found.moved;
      part_low = omega (arith, parts);
      number_low = omega (arith, numbers);
    }

-- a spot of an element of one of some uses
record IsSpotFrom (step : ℕ) (sizes : ℕ → Size) (outer : Transform) (uses : List (List ℕ × UseBody)) (part number : ℕ) (spot : Spot) : Type 0 where
  k : ℕ
  entry : List ℕ × UseBody
  is : slice_get uses k ≡ Some entry
  j : ℕ
  displaced : ℤ × ℤ
  there : slice_get (displacements entry.1.grid) j ≡ Some displaced
  cell : spot.cell.0 ≡ entry.1.child.0
  moved : spot.to_top ≡ composed (element_transform entry.1.placed displaced) outer
  part_low : spot.part + step ≤ part + own_elements uses * step
  number_low : spot.element + (sizes entry.1.child.0).elements ≤ number + elements_below sizes uses

spot_from_in : (step : ℕ) (sizes : ℕ → Size) (outer : Transform) (uses : List (List ℕ × UseBody)) (part number : ℕ) (spot : Spot)
    → In spot (spots_from step sizes outer uses part number) → IsSpotFrom step sizes outer uses part number spot
spot_from_in step sizes outer [] part number spot none = absurd none
spot_from_in step sizes outer (entry ∷ rest) part number spot stands =
    let steps = displacements entry.1.grid in
    let size = (sizes entry.1.child.0).elements in
    elim (In-append_cases spot (spots_at step size outer entry.1 steps part number)
    (spots_from step sizes outer rest (part + length steps * step) (number + length steps * size)) stands) [
      | inl here ↦ (
          let found = spot_at_in step size outer entry.1 steps part number spot here in
          let parts = found.part_low in
          let numbers = found.number_low in
          record {
            k = 0;
            entry = entry;
            is = refl;
            j = found.j;
            displaced = found.displaced;
            there = found.there;
            cell = found.cell;
            moved = found.moved;
            part_low = omega (arith, parts);
            number_low = omega (arith, numbers);
          })
      | inr later ↦ (
          let found = spot_from_in step sizes outer rest (part + length steps * step) (number + length steps * size) spot later in
          let parts = found.part_low in
          let numbers = found.number_low in
          record {
            k = suc found.k;
            entry = found.entry;
            is = found.is;
            j = found.j;
            displaced = found.displaced;
            there = found.there;
            cell = found.cell;
            moved = found.moved;
            part_low = omega (arith, parts);
            number_low = omega (arith, numbers);
          })
    ]

-- the spots below one that can be visited can be
pub below_can_be_visited : (tree : Tree) (levels step : ℕ) (spot below : Spot) → IsLawfulTree tree → CanBeVisited tree (suc levels) step spot
    → In below (spots_under tree step spot) → CanBeVisited tree levels 0 below
below_can_be_visited tree levels step spot below lawful can stands =
    let uses = (cell_at tree.cells spot.cell.0).uses in
    let found = spot_from_in step (size_at tree.sizes) spot.to_top uses (spot.part + step) (spot.element + 1) below stands in
    let child = found.entry.1.child.0 in
    let here = cell_is tree.cells spot.cell.0 can.cell in
    let known = lawful.cells.uses spot.cell.0 (cell_at tree.cells spot.cell.0) here found.k found.entry found.is in
    let falls = child_is_lower (size_at tree.sizes) (cell_at tree.cells spot.cell.0) found.k found.entry found.is in
    let depths : (size_at tree.sizes spot.cell.0).depth ≡ (size_of (size_at tree.sizes) (cell_at tree.cells spot.cell.0)).depth =
    ap (λ (s : Size). s.depth) (lawful.sizes.right spot.cell.0 (cell_at tree.cells spot.cell.0) here) in
    let cell = found.cell in
    let below_depth : (size_at tree.sizes below.cell.0).depth ≡ (size_at tree.sizes child).depth =
    ap (λ (k : ℕ). (size_at tree.sizes k).depth) cell in
    let below_elements : (size_at tree.sizes below.cell.0).elements ≡ (size_at tree.sizes child).elements =
    ap (λ (k : ℕ). (size_at tree.sizes k).elements) cell in
    let elements = elements_are tree spot.cell.0 lawful can.cell in
    let few = own_few tree spot.cell.0 lawful can.cell in
    let counted : suc (own_elements uses) ≤ (size_at tree.sizes spot.cell.0).elements = omega (arith, few, elements) in
    let product : suc (own_elements uses) * step ≤ (size_at tree.sizes spot.cell.0).elements * step = mul-le-mul_right step counted in
    let swap : (size_at tree.sizes spot.cell.0).elements * step ≡ step * (size_at tree.sizes spot.cell.0).elements = omega arith in
    let spread : suc (own_elements uses) * step ≡ step + own_elements uses * step = omega arith in
    let none : 0 * (size_at tree.sizes below.cell.0).elements ≡ 0 = omega arith in
    let child_low = known.1 in
    let few_levels = can.few in
    let deep = can.deep in
    let most = can.elements in
    let parts = can.parts in
    let part_low = found.part_low in
    let number_low = found.number_low in
    record {
      cell = omega (arith, child_low, cell);
      few = omega (arith, few_levels);
      deep = omega (arith, below_depth, falls, depths, deep);
      moves = subst (HasRoomToMove levels) (sym found.moved)
          (room_below levels (element_transform found.entry.1.placed found.displaced) spot.to_top
          (element_moves found.entry.1 found.j found.displaced known.0 found.there) can.moves);
      elements = omega (arith, below_elements, number_low, elements, most);
      parts = omega (arith, part_low, product, swap, spread, parts, none);
    }

-- and its elements have room
pub visited_has_room : (tree : Tree) (levels step : ℕ) (spot : Spot) → 1 ≤ levels → CanBeVisited tree levels step spot → HasRoomBelow tree step spot
visited_has_room tree levels step spot some can = record {
  cell = can.cell;
  moves = room_for_less levels 1 spot.to_top some can.moves;
  elements = can.elements;
  parts = can.parts;
}
