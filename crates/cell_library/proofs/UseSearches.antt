-- A search of the uses of a cell by area: the elements of those that are not found do not meet the area.
use Rattle.cell_library.proofs.Common.{◌≡◌, ℕ, ℤ, zero, suc, ◌+◌, ◌-◌, ◌<◌, ◌≤◌, List, [], length, take, get_or, Option, refl, sym, ap, subst, ◌∙◌}
use Rattle.cell_library.proofs.Common.{arith, inl, inr, slice_get, unwrap_or, option_map, cases_lt, length-map, take_all, get_or_from_slice_get}
use Rattle.cell_library.proofs.Common.{slice_get-map, slice_get_within, In, In-get_or, In-index, Rect, Transform, common_rect, Covers, IsProper}
use Rattle.cell_library.proofs.Common.{image, inverted, covers_both, covers_is_proper, image-back, Place, MOST_ELEMENTS_BELOW, Size, UseBody}
use Rattle.cell_library.proofs.Common.{displaced, element_hulls, size_at, Tree, IsLawfulTree, cell_at, displacements, Spot, UsePlace, UseStart}
use Rattle.cell_library.proofs.Common.{element_transform, spots_from, AddsSpots, AreSiftedBy, spots_before, spots_of_use, spots_under, HasRoomBelow}
use Rattle.cell_library.proofs.Common.{IsApart, start_at, use_box}
use Rattle.std.proofs.Common.{Some}
use Rattle.std.proofs.lemmas.Option.{slice_get_cases}
use Rattle.geo_core.specs.Images.{rect_image}
use Rattle.rect_trees.specs.Meetings.{AreMeeting}
use Rattle.cell_library.specs.declared.use_trees.TheConstants.{NO_BOX}
use Rattle.cell_library.specs.declared.use_trees.UseTree.{UseTree}
use Rattle.cell_library.specs.UseTrees.{place_at, IsUseTree}
use Rattle.cell_library.proofs.HullsHoldMaterial.{covered_by_all, covers_from_back, element_image, In-element_hulls}
use Rattle.cell_library.proofs.PlacedRects.{back_on}
use Rattle.cell_library.proofs.SpotLaws.{spots_dropped}
use Rattle.cell_library.proofs.UseSums.{place_of, place_room, spot_at_in, spots_next, use_known, HasRoomAt, IsUseAt}
use Rattle.cell_library.proofs.UseTreeLaws.{entry_box}

-- ---- one use

-- where an area misses the box of a use, it misses all its elements
pub use_apart : (sizes : List Size) (from : UsePlace) (used : UseBody) (back : Rect) → (IsProper (common_rect (use_box sizes used) back) → ⊥)
    → (spot : Spot) → In spot (spots_of_use sizes from used) → IsApart sizes from.outer back spot
use_apart sizes from used back missed spot stands hull is square in_hull in_back =
    let hulls = element_hulls used (size_at sizes used.child.0).hull in
    let found = spot_at_in from.part_step (size_at sizes used.child.0).elements from.outer used (displacements used.grid) from.part from.element spot stands in
    let placed = element_transform used.placed found.displaced in
    let element = rect_image used.placed (displaced hull found.displaced) in
    let child : (size_at sizes used.child.0).hull ≡ Some hull = ap (λ (k : ℕ). (size_at sizes k).hull) (sym found.cell) ∙ is in
    let at_child : image (inverted spot.to_top) (image from.outer square) ≡ image (inverted placed) square =
    ap (λ (t : Transform). image (inverted t) (image from.outer square)) found.moved
    ∙ ap (λ (p : Place). p.square) (back_on placed from.outer (record { plane = 0; square = image from.outer square }))
    ∙ ap (image (inverted placed)) (image-back from.outer square) in
    let in_element : Covers element square =
    subst (λ (r : Rect). Covers r square) (element_image used.placed found.displaced hull)
    (covers_from_back placed hull (record { plane = 0; square = square }) (subst (Covers hull) at_child in_hull)) in
    let step_in : In found.displaced (displacements used.grid) =
    subst (λ (s : ℤ × ℤ). In s (displacements used.grid))
    (get_or_from_slice_get (displacements used.grid) found.j found.displaced found.displaced found.there)
    (In-get_or (displacements used.grid) found.j found.displaced (slice_get_within (displacements used.grid) found.j found.displaced found.there)) in
    let among : In element hulls = In-element_hulls used (size_at sizes used.child.0).hull hull found.displaced child step_in in
    let round = covered_by_all hulls element square among in_element in
    let box : use_box sizes used ≡ round.0 = ap (λ (o : Option Rect). unwrap_or o NO_BOX) round.1 in
    missed (covers_is_proper (common_rect (use_box sizes used) back) square (covers_both (use_box sizes used) back square
    (subst (λ (r : Rect). Covers r square) (sym box) round.2) in_back))

-- ---- use by use

-- A search has looked at the first of the positions that were found, all of which come before this use, and the others do not.
pub record IsSearchedTo (tree : Tree) (step : ℕ) (spot : Spot) (back : Rect) (met : List ℕ) (i : ℕ) (found : List Spot) : Type 0 where
  pub next : ℕ
  pub within : next ≤ length (cell_at tree.cells spot.cell.0).uses
  pub before : (j : ℕ) → j < i → get_or met j 0 < next
  pub after : (j : ℕ) → i ≤ j → j < length met → next ≤ get_or met j 0
  pub adds : AddsSpots (IsApart tree.sizes spot.to_top back) (spots_before tree step spot next) [] found

-- The uses of the cell at a spot are known, whose elements have room there, and those were found that meet the area.
pub record IsSearch (tree : Tree) (step : ℕ) (spot : Spot) (back : Rect) (known : UseTree) (met : List ℕ) : Type 0 where
  pub lawful : IsLawfulTree tree
  pub room : HasRoomBelow tree step spot
  pub are : IsUseTree tree spot.cell.0 known
  pub meeting : AreMeeting known.boxes back met

-- positions that are those that were found
pub search_of : (tree : Tree) (step : ℕ) (spot : Spot) (back : Rect) (known : UseTree) (met found : List ℕ) → IsLawfulTree tree
    → HasRoomBelow tree step spot → IsUseTree tree spot.cell.0 known → AreMeeting known.boxes back found → met ≡ found
    → IsSearch tree step spot back known met
search_of tree step spot back known met found lawful room are meeting same =
    record { lawful = lawful; room = room; are = are; meeting = subst (AreMeeting known.boxes back) (sym same) meeting }

-- what such a search finds
module _ (tree : Tree) (step : ℕ) (spot : Spot) (back : Rect) (known : UseTree) (met : List ℕ)
    (search : IsSearch tree step spot back known met) where
  abbrev uses : List (List ℕ × UseBody)
  uses = (cell_at tree.cells spot.cell.0).uses

  abbrev Misses : Spot → Type 0
  Misses = IsApart tree.sizes spot.to_top back

  use_there : (k : ℕ) → k < length uses → (used : UseBody) × IsUseAt tree spot.cell.0 k used
  use_there k below = elim (slice_get_cases uses k).1 [
    | inl found ↦ (
      found.0.1,
      use_known tree spot.cell.0 k found.0.1 search.lawful search.room.cell (ap (option_map (λ (e : List ℕ × UseBody). e.1)) found.2),
    )
    | inr past ↦ absurd (omega (arith, past.0, below))
  ]

  box_at : (k : ℕ) (used : UseBody) → IsUseAt tree spot.cell.0 k used → slice_get known.boxes k ≡ Some (use_box tree.sizes used)
  box_at k used at =
      ap (λ (boxes : List Rect). slice_get boxes k) search.are.boxes
      ∙ slice_get-map (entry_box tree) uses k ∙ ap (option_map (entry_box tree)) at.there

  met_there : (k : ℕ) → In k met → k < length uses
  met_there k found =
      let is = (search.meeting.exact k).0 found in
      let below = slice_get_within known.boxes k is.rect is.there in
      let long = ap (λ (boxes : List Rect). length boxes) search.are.boxes ∙ length-map {B = Rect} uses (entry_box tree) in
      omega (arith, below, long)

  -- there is a use at a position that was found
  pub found_below : (i : ℕ) → i < length met → get_or met i 0 < length uses
  found_below i inside = met_there (get_or met i 0) (In-get_or met i 0 inside)

  -- and it is known where its elements begin
  pub start_there : (i : ℕ) → i < length met → get_or met i 0 < length known.starts.items
  start_there i inside =
      slice_get_within known.starts.items (get_or met i 0) (start_at (size_at tree.sizes) uses (get_or met i 0))
      (search.are.starts (get_or met i 0) (found_below i inside))

  -- so it is known where they stand
  pub place_found : (i : ℕ) (start : UseStart) (from : UsePlace) → i < length met → start ≡ get_or known.starts.items (get_or met i 0) start
      → from ≡ place_at step spot start → from ≡ place_of tree step spot (get_or met i 0)
  place_found i start from inside is placed =
      placed
      ∙ ap (place_at step spot) (is ∙ get_or_from_slice_get known.starts.items (get_or met i 0) (start_at (size_at tree.sizes) uses (get_or met i 0))
      start (search.are.starts (get_or met i 0) (found_below i inside)))

  -- where they have room
  pub room_found : (i : ℕ) (start : UseStart) (from : UsePlace) (used : UseBody) → i < length met
      → start ≡ get_or known.starts.items (get_or met i 0) start → from ≡ place_at step spot start → IsUseAt tree spot.cell.0 (get_or met i 0) used
      → HasRoomAt tree from used
  room_found i start from used inside is placed at =
      subst (λ (f : UsePlace). HasRoomAt tree f used) (sym (place_found i start from inside is placed))
      (place_room tree step spot (get_or met i 0) used search.lawful search.room at)

  -- and their numbers fit
  pub place_fits : (i : ℕ) (start : UseStart) → i < length met → start ≡ get_or known.starts.items (get_or met i 0) start
      → ((place_at step spot start).part ≤ MOST_ELEMENTS_BELOW) × ((place_at step spot start).element ≤ MOST_ELEMENTS_BELOW)
  place_fits i start inside is =
      let at = use_there (get_or met i 0) (found_below i inside) in
      let room = room_found i start (place_at step spot start) at.0 inside is refl at.1 in
      let parts = room.parts in
      let elements = room.elements in
      (omega (arith, parts), omega (arith, elements))

  -- the spots of a use that was not found were dropped
  one_dropped : (k : ℕ) (found : List Spot) → k < length uses → (In k met → ⊥) → AddsSpots Misses (spots_before tree step spot k) [] found
      → AddsSpots Misses (spots_before tree step spot (suc k)) [] found
  one_dropped k found below absent adds =
      let at = use_there k below in
      spots_next Misses tree step spot k (suc k) at.0 found found at.1 refl adds
      (spots_dropped Misses (spots_of_use tree.sizes (place_of tree step spot k) at.0) found
      (use_apart tree.sizes (place_of tree step spot k) at.0 back (λ proper. absent ((search.meeting.exact k).1
      (record { rect = use_box tree.sizes at.0; there = box_at k at.0 at.1; meets = proper })))))

  -- those of several one after another
  all_dropped : (k more : ℕ) (found : List Spot) → k + more ≤ length uses → ((j : ℕ) → k ≤ j → j < k + more → In j met → ⊥)
      → AddsSpots Misses (spots_before tree step spot k) [] found → AddsSpots Misses (spots_before tree step spot (k + more)) [] found
  all_dropped k zero found within absent adds =
      subst (λ (n : ℕ). AddsSpots Misses (spots_before tree step spot n) [] found) (let e : k ≡ k + 0 = omega arith in e) adds
  all_dropped k (suc more) found within absent adds =
      subst (λ (n : ℕ). AddsSpots Misses (spots_before tree step spot n) [] found) (let e : suc (k + more) ≡ k + suc more = omega arith in e)
      (one_dropped (k + more) found (omega (arith, within)) (absent (k + more) (omega arith) (omega arith))
      (all_dropped k more found (omega (arith, within)) (λ j low high. absent j low (omega (arith, high))) adds))

  -- what was found is not among the uses that come before the next of it
  not_met : (i : ℕ) (found : List Spot) (now : IsSearchedTo tree step spot back met i found) (q : ℕ) → now.next ≤ q
      → (i < length met → q < get_or met i 0) → In q met → ⊥
  not_met i found now q low high stands =
      let at = In-index q met stands in
      let j = at.0 in
      let is : get_or met j 0 ≡ q = at.1.1 0 in
      elim (cases_lt j i) [
        | inl early ↦ (let b = now.before j early in omega (arith, b, is, low))
        | inr late ↦ elim (cases_lt i j) [
          | inl later ↦ (
              let ordered : get_or met i 0 < get_or met j 0 = search.meeting.ordered i j 0 later at.1.0 in
              let less = high (omega (arith, later, at.1.0)) in
              omega (arith, ordered, less, is))
          | inr same ↦ (
              let e : i ≡ j = omega (arith, late, same) in
              let less = high (omega (arith, e, at.1.0)) in
              let here : get_or met i 0 ≡ get_or met j 0 = ap (λ (n : ℕ). get_or met n 0) e in
              omega (arith, less, is, here))
        ]
      ]

  -- the spots of the next use that was found were added
  pub search_next : (i j p : ℕ) (used : UseBody) (found new : List Spot) → IsSearchedTo tree step spot back met i found → i < length met
      → p ≡ get_or met i 0 → j ≡ i + 1 → IsUseAt tree spot.cell.0 p used
      → AddsSpots Misses (spots_of_use tree.sizes (place_of tree step spot p) used) found new → IsSearchedTo tree step spot back met j new
  search_next i j p used found new now more is after at adds =
      let first = now.next in
      let there : p < length uses = slice_get_within uses p (at.id, used) at.there in
      let low : first ≤ p = (let a = now.after i (omega arith) more in omega (arith, a, is)) in
      let long : first + (p - first) ≡ p = omega (arith, low) in
      let to_it : AddsSpots Misses (spots_before tree step spot p) [] found =
      subst (λ (n : ℕ). AddsSpots Misses (spots_before tree step spot n) [] found) long
      (all_dropped first (p - first) found (omega (arith, long, there))
      (λ q from to. not_met i found now q from (λ inside. omega (arith, to, long, is))) now.adds) in
      record {
        next = suc p;
        within = there;
        before = λ k less. elim (cases_lt k i) [
          | inl early ↦ (let b = now.before k early in omega (arith, b, low))
          | inr late ↦ (
              let e : k ≡ i = omega (arith, late, less, after) in
              let here : get_or met k 0 ≡ get_or met i 0 = ap (λ (n : ℕ). get_or met n 0) e in omega (arith, here, is))
        ];
        after = λ k past inside.
            let ordered : get_or met i 0 < get_or met k 0 = search.meeting.ordered i k 0 (omega (arith, past, after)) inside in
            omega (arith, ordered, is);
        adds = spots_next Misses tree step spot p (suc p) used found new at refl to_it adds;
      }

  -- all that were found
  pub search_end : (i : ℕ) (found : List Spot) → IsSearchedTo tree step spot back met i found → length met ≤ i
      → AreSiftedBy Misses (spots_under tree step spot) found
  search_end i found now done =
      let first = now.next in
      let within = now.within in
      let long : first + (length uses - first) ≡ length uses = omega (arith, within) in
      let adds =
      all_dropped first (length uses - first) found (omega (arith, long)) (λ q from to. not_met i found now q from (λ inside. absurd (omega
      (arith, inside, done)))) now.adds in
      let all : AddsSpots Misses (spots_under tree step spot) [] found =
      subst (λ (us : List (List ℕ × UseBody)). AddsSpots Misses (spots_from step (size_at tree.sizes) spot.to_top us (spot.part + step)
      (spot.element + 1)) [] found) (ap (λ (n : ℕ). take n uses) long ∙ take_all (length uses) uses (omega arith)) adds in
      subst (AreSiftedBy Misses (spots_under tree step spot)) (sym all.is) all.sifted
