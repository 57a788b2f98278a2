-- What a search of a tree finds, in order.
use Rattle.rect_trees.proofs.Common.{◌≡◌, ◌≢◌, ℕ, ◌<◌, ◌≤◌, false, List, Some, None, inl, inr, filter, find, length, get_or, sym, ◌∙◌, ap, subst}
use Rattle.rect_trees.proofs.Common.{arith, Option, false≢true, ints, clamps, In, Distinct, Rect, common_rect, IsProper, IsProper-has_square}
use Rattle.rect_trees.proofs.Common.{has_square-IsProper, Node, rect_at, meets_at, HasSquareAt, root_positions, IsRoot, AreMeeting}
use Rattle.std.specs.Prelude.{AllPairs, IsPermutation, IsSorted, slice_get}
use Rattle.std.specs.Ordering.{nat_cmp}
use Rattle.std.proofs.lemmas.Cmp.{nat_cmp_total}
use Rattle.std.proofs.lemmas.Option.{slice_get-get_or, slice_get_within, get_or_from_slice_get}
use Rattle.std.proofs.lemmas.List.Sorted.{IsPermutation-sym}
use Rattle.std.proofs.lemmas.Map.Keys.{ge_from_not_lt}
use Rattle.geo_core.proofs.FiniteSets.Members.{In-permutation, In-filter, In-filter_source, In-filter_passes, In-get_or, In-index}
use Rattle.geo_core.proofs.FiniteSets.Searches.{find-In, find-passes, find-none}
use Rattle.geo_core.proofs.FiniteSets.Distincts.{Distinct-places, Distinct-filter}
use Rattle.geo_core.proofs.FiniteSets.Orders.{IsSorted-pairs}
use Rattle.geo_core.proofs.FiniteSets.Images.{Distinct-permutation}
use Rattle.rect_trees.specs.Positions.{no_rect}
use Rattle.rect_trees.specs.Meetings.{MeetsAt, IsMeeting, MissesAll}

-- a rectangle that has a square in an area has a square
first_proper : (a area : Rect) → IsProper (common_rect a area) → IsProper a
first_proper a area meets =
    let wide = meets.wide in let high = meets.high in
    record { wide = omega (arith, ints, clamps, wide); high = omega (arith, ints, clamps, high) }

-- numbers that differ ascend once they are sorted
ascending : (xs : List ℕ) → Distinct xs → IsSorted nat_cmp xs → AllPairs ◌<◌ xs
ascending xs once sorted = λ i j d less below.
    let apart : get_or xs i d ≢ get_or xs j d = Distinct-places xs i j d once less below in
    let order = IsSorted-pairs nat_cmp nat_cmp_total xs sorted i j d less below in
    let later : get_or xs i d ≤ get_or xs j d = ge_from_not_lt (get_or xs j d) (get_or xs i d) order in
    omega arith

-- the positions in a tree that pass the test, sorted, are those of the rectangles that meet the area
module _ (rects : List Rect) (area : Rect) (root : Option Node) (found sorted : List ℕ) (tree : IsRoot rects root)
    (is : found ≡ filter (meets_at rects area) (root_positions root)) (moved : IsPermutation found sorted) (in_order : IsSorted nat_cmp sorted) where
  abbrev leaves : List ℕ
  leaves = root_positions root

  found_meets : (position : ℕ) → In position sorted → MeetsAt rects position area
  found_meets position here =
      let kept : In position (filter (meets_at rects area) leaves) =
      subst (In position) is (In-permutation position sorted found (IsPermutation-sym found sorted moved) here) in
      let has = tree.leaves.2 position (In-filter_source (meets_at rects area) position leaves kept) in
      let passes = In-filter_passes (meets_at rects area) position leaves kept in
      record {
        rect = rect_at rects position;
        there = slice_get-get_or rects position no_rect has.within;
        meets = IsProper-has_square (common_rect (rect_at rects position) area) passes;
      }

  meeting_found : (position : ℕ) → MeetsAt rects position area → In position sorted
  meeting_found position met =
      let at : rect_at rects position ≡ met.rect = get_or_from_slice_get rects position met.rect no_rect met.there in
      let meets = subst (λ (v : Rect). IsProper (common_rect v area)) (sym at) met.meets in
      let has : HasSquareAt rects position = record {
        within = slice_get_within rects position met.rect met.there;
        proper = first_proper (rect_at rects position) area meets;
      } in
      let passes = has_square-IsProper (common_rect (rect_at rects position) area) meets in
      let kept = In-filter (meets_at rects area) position leaves (tree.leaves.1 position has) passes in
      In-permutation position found sorted moved (subst (In position) (sym is) kept)

  found_once : Distinct found
  found_once = subst Distinct (sym is) (Distinct-filter (meets_at rects area) leaves tree.leaves.0)

  pub met_in_order : AreMeeting rects area sorted
  met_in_order = record {
    exact = λ position. (found_meets position, meeting_found position);
    ordered = ascending sorted (Distinct-permutation found sorted moved found_once) in_order;
  }

-- what a search finds first is met, and where it finds nothing, nothing is
module _ (rects : List Rect) (area : Rect) (root : Option Node) (tree : IsRoot rects root) where
  pub found_within : (position : ℕ) → find (meets_at rects area) (root_positions root) ≡ Some position → position < length rects
  found_within position found = (tree.leaves.2 position (find-In (meets_at rects area) (root_positions root) position found)).within

  pub found_meets_area : (position : ℕ) (rect : Rect) → find (meets_at rects area) (root_positions root) ≡ Some position
      → slice_get rects position ≡ Some rect → IsMeeting rects area rect
  found_meets_area position rect found at =
      let is : rect_at rects position ≡ rect = get_or_from_slice_get rects position rect no_rect at in
      let passes = find-passes (meets_at rects area) (root_positions root) position found in
      subst (IsMeeting rects area) is (record {
        there = In-get_or rects position no_rect (found_within position found);
        meets = IsProper-has_square (common_rect (rect_at rects position) area) passes;
      })

  pub none_meets_area : find (meets_at rects area) (root_positions root) ≡ None → MissesAll rects area
  none_meets_area none rect here meets =
      let place = In-index rect rects here in
      let is : rect_at rects place.0 ≡ rect = place.1.1 no_rect in
      let met : IsProper (common_rect (rect_at rects place.0) area) = subst (λ (v : Rect). IsProper (common_rect v area)) (sym is) meets in
      let leaf = tree.leaves.1 place.0 (record { within = place.1.0; proper = first_proper (rect_at rects place.0) area met }) in
      false≢true (sym (find-none (meets_at rects area) (root_positions root) place.0 none leaf)
      ∙ has_square-IsProper (common_rect (rect_at rects place.0) area) met)
