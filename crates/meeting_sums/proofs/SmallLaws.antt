-- What groups of pieces count is small, since their places are few and parts too.
use Rattle.meeting_sums.proofs.Common.{◌≡◌, ℕ, ◌*◌, ◌^◌, ◌<◌, ◌≤◌, pos, negsuc, neg_ℤ, ℤ, ◌+ℤ◌, ◌-ℤ◌, ◌*ℤ◌, ◌≤ℤ◌, Bool, true, false, cond, ◌&&◌}
use Rattle.meeting_sums.proofs.Common.{List, [], ◌∷◌, map, length, get_or, sym, ◌∙◌, ap, subst, arith, All, range_with_len, mul-le-mul_left, ints}
use Rattle.meeting_sums.proofs.Common.{get_or-map, length-map, All-map, length-range_with_len, slice_get_within, get_or_from_slice_get, In, Distinct}
use Rattle.meeting_sums.proofs.Common.{Lists, sum_on, one_if, In-index, Rect, IsNear, IsProper, Contact, area_of, perimeter_of, ClassRec, Place}
use Rattle.meeting_sums.proofs.Common.{Class, class_of, RegionTile, AreSpread, no_tile, tile_at, IsTileContact, IsInTiles, Lists-indices_of}
use Rattle.meeting_sums.proofs.Common.{PlaneStack, PartKind, AreByPart, kind_in, flat_kind, beyond, beyond_both, no_piece, stack_at, contact_counted}
use Rattle.meeting_sums.proofs.Common.{IsSmallSum, Column, area_beyond, shared_beyond, perimeter_beyond, AreColumns, pairs_at, tile_of, tiles_of}
use Rattle.std.proofs.Math.IntN.{pos-*ℤ-pos}
use Rattle.finite_sets.proofs.Distincts.{Distinct-from_places, length-distinct}
use Rattle.finite_sets.proofs.Members.{In-map_source}
use Rattle.finite_sets.proofs.Sums.{sum_on-count, sum_on-le, sum_on-scale, sum_on-zero}
use Rattle.meeting_laws.specs.FloodNodes.TileShares.{indices_of}
use Rattle.meeting_laws.proofs.FloodNodes.ShareLaws.{cond_not_negative}
use Rattle.meeting_laws.specs.Measures.Bounds.{IsNearPlace, IsSmallMeasure}
use Rattle.meeting_laws.proofs.Measures.BoundLaws.{measures_are_small}
use Rattle.meeting_sums.proofs.AmountLaws.{gated}
use Rattle.meeting_sums.proofs.KindLaws.{In-below}
use Rattle.meeting_sums.proofs.MeetingLaws.{of_group}
use Rattle.meeting_sums.proofs.StackLaws.{tiles_long, tile_is, counted, contacts_within, contacts_some, area_not_negative, perimeter_not_negative}
use Rattle.meeting_sums.proofs.TileTests.{stands, stands_test, is_one, told_layout, told_area, told_edges}

-- no more entries than parts
few_kinds : (kinds : List PartKind) (most : ℕ) → AreByPart kinds → All (λ entry. entry.part < most) kinds → length kinds ≤ most
few_kinds kinds most ordered below =
    let parts : List ℕ = map (λ entry. entry.part) kinds in
    let many = length-map kinds (λ (e : PartKind). e.part) in
    let no_entry : PartKind = record { part = 0; kind = record { 0 = 0 } } in
    let apart : Distinct parts = Distinct-from_places parts (λ i j d less within same.
    let last : j < length kinds = omega (arith, many, within) in
    let first = get_or-map (λ (e : PartKind). e.part) kinds i no_entry d (omega (arith, less, last)) in
    let second = get_or-map (λ (e : PartKind). e.part) kinds j no_entry d last in
    let rises = ordered i j no_entry less last in
    omega (arith, first, second, rises, same)) in
    let within : (part : ℕ) → In part parts → In part (range_with_len 0 most) = λ part i.
    let source = In-map_source (λ (e : PartKind). e.part) part kinds i in
    let at = In-index source.0 kinds source.1.0 in
    In-below most part (subst (λ (n : ℕ). n < most) (ap (λ (e : PartKind). e.part) (at.1.1 source.0) ∙ source.1.1) (below at.0 source.0 at.1.0)) in
    let fewer = length-distinct parts (range_with_len 0 most) apart within in
    let long = length-range_with_len 0 most in
    omega (arith, many, fewer, long)

-- from so many times a size below 0 up to the size
abbrev IsWithin : ℤ → ℤ → Type 0
IsWithin s x = ((neg_ℤ (pos (2 ^ 20)) *ℤ s) ≤ℤ x) × (x ≤ℤ s)

cond_high : (t : Bool) (s : ℤ) → pos 0 ≤ℤ s → cond t s (pos 0) ≤ℤ s
cond_high true s some = omega (arith, ints)
cond_high false s some = some

few_times : (s : ℤ) (n : ℕ) → pos 0 ≤ℤ s → n ≤ 2 ^ 20 → (s *ℤ pos n) ≤ℤ (pos (2 ^ 20) *ℤ s)
few_times (pos m) n some few =
    let less = mul-le-mul_left m few in
    subst (λ (z : ℤ). z ≤ℤ (pos (2 ^ 20) *ℤ pos m)) (sym (pos-*ℤ-pos m n)) (omega (arith, ints, less))
few_times (negsuc m) n some few = absurd (omega (arith, ints, some))

-- a size in the flat layout less the size in few parts
gated_within : (flat : Bool) (test : PartKind → Bool) (kinds : List PartKind) (s : ℤ) → pos 0 ≤ℤ s → length kinds ≤ 2 ^ 20
    → IsWithin s (gated flat test kinds s)
gated_within flat test kinds s some few =
    let sum = sum_on (λ entry. cond (test entry) s (pos 0)) kinds in
    let zero = sum_on-zero kinds in
    let low = sum_on-le (λ entry. pos 0) (λ entry. cond (test entry) s (pos 0)) kinds (λ entry i. cond_not_negative (test entry) s some) in
    let high = sum_on-le (λ entry. cond (test entry) s (pos 0)) (λ entry. s *ℤ pos 1) kinds (λ entry i. once (cond (test entry) s (pos 0)) s (cond_high (test
    entry) s some)) in
    let scaled = sum_on-scale s (λ (entry : PartKind). pos 1) kinds ∙ ap (λ (n : ℤ). s *ℤ n) (sum_on-count kinds) in
    let most = few_times s (length kinds) some few in
    let flat_low = cond_not_negative flat s some in
    let flat_high = cond_high flat s some in
    bounds (cond flat s (pos 0)) sum (sum_on (λ (entry : PartKind). pos 0) kinds) (sum_on (λ (entry : PartKind). s *ℤ pos 1) kinds) (s *ℤ pos (length kinds)) s
    zero low high scaled most flat_low flat_high
  where
    once : (a s : ℤ) → a ≤ℤ s → a ≤ℤ (s *ℤ pos 1)
    once a s h = omega (arith, ints, h)

    bounds : (f sum none top times s : ℤ) → none ≡ pos 0 → none ≤ℤ sum → sum ≤ℤ top → top ≡ times → times ≤ℤ (pos (2 ^ 20) *ℤ s) → pos 0 ≤ℤ f → f ≤ℤ s
        → IsWithin s (f -ℤ sum)
    bounds f sum none top times s zero low high scaled most some below =
        (omega (arith, ints, high, scaled, most, some), omega (arith, ints, zero, low, below))

-- where a test holds
gate_within : (g : Bool) (s x : ℤ) → IsWithin s x → IsWithin (cond (g && true) s (pos 0)) (cond g x (pos 0))
gate_within true s x within = within
gate_within false s x within = (omega (arith, ints), omega (arith, ints))

-- where two tests hold
gate_twice : (p q : Bool) (s x : ℤ) → IsWithin s x
    → IsWithin ((one_if ((p && true) && true) +ℤ one_if ((q && true) && true)) *ℤ s) (cond p x (pos 0) +ℤ cond q x (pos 0))
gate_twice true true s x within = let low = within.0 in let high = within.1 in (omega (arith, ints, low), omega (arith, ints, high))
gate_twice true false s x within = let low = within.0 in let high = within.1 in (omega (arith, ints, low), omega (arith, ints, high))
gate_twice false true s x within = let low = within.0 in let high = within.1 in (omega (arith, ints, low), omega (arith, ints, high))
gate_twice false false s x within = (omega (arith, ints), omega (arith, ints))

-- sums of such
sum_within : {X : Type 0} (s x : X → ℤ) (xs : List X) → ((a : X) → In a xs → IsWithin (s a) (x a)) → IsWithin (sum_on s xs) (sum_on x xs)
sum_within s x xs each =
    let low = sum_on-le (λ a. neg_ℤ (pos (2 ^ 20)) *ℤ s a) x xs (λ a i. (each a i).0) in
    let high = sum_on-le x s xs (λ a i. (each a i).1) in
    (subst (λ (n : ℤ). n ≤ℤ sum_on x xs) (sum_on-scale (neg_ℤ (pos (2 ^ 20))) s xs) low, high)

-- a rectangle with a square has no more edges than four for each square
at_least : (m n : ℕ) → 1 ≤ m → 1 ≤ n → (m ≤ m * n) × (n ≤ m * n)
at_least m n p q =
    let first = mul-le-mul_left m q in
    let second = mul-le-mul_left n p in
    (omega (arith, first), (let turn = times_comm n m in omega (arith, second, turn)))
  where
    times_comm : (a b : ℕ) → a * b ≡ b * a
    times_comm a b = omega arith

edges_below : (w h : ℤ) → pos 1 ≤ℤ w → pos 1 ≤ℤ h → (pos 2 *ℤ (w +ℤ h)) ≤ℤ (pos 4 *ℤ (w *ℤ h))
edges_below (pos m) (pos n) p q =
    let both = at_least m n (omega (arith, ints, p)) (omega (arith, ints, q)) in
    let first = both.0 in let second = both.1 in
    subst (λ (z : ℤ). (pos 2 *ℤ (pos m +ℤ pos n)) ≤ℤ (pos 4 *ℤ z)) (sym (pos-*ℤ-pos m n)) (omega (arith, ints, first, second))
edges_below (negsuc m) h p q = absurd (omega (arith, ints, p))
edges_below (pos m) (negsuc n) p q = absurd (omega (arith, ints, q))

perimeter_below : (area : Rect) → IsProper area → perimeter_of area ≤ℤ (pos 4 *ℤ area_of area)
perimeter_below area proper = edges_below (area.xhi -ℤ area.xlo) (area.yhi -ℤ area.ylo) (let w = proper.wide in omega (arith, ints, w))
    (let h = proper.high in omega (arith, ints, h))

module _ (stacks : List PlaneStack) (contacts : List Contact) (groups : List ℕ) (group : ℕ) (contains : ℕ → Bool) (spread : AreSpread (tiles_of stacks))
    (listed : Lists (IsTileContact (tiles_of stacks)) contacts) (planes : All (λ piece. piece.plane < 8) stacks)
    (ordered : All (λ piece. AreByPart piece.stack.kinds) stacks)
    (few : All (λ piece. All (λ entry. entry.part < 2 ^ 20) piece.stack.kinds) stacks) where
  abbrev tiles : List RegionTile
  tiles = tiles_of stacks

  abbrev from : ℕ → Bool
  from = of_group groups group

  few_at : (i : ℕ) → i < length stacks → length (stack_at stacks i).kinds ≤ 2 ^ 20
  few_at i below = few_kinds (stack_at stacks i).kinds (2 ^ 20) (ordered i no_piece below) (few i no_piece below)

  area_at : (i : ℕ) → i < length stacks → (tile_at tiles i).area ≡ (stack_at stacks i).area
  area_at i below = ap (λ (t : RegionTile). t.area) (tile_is stacks i no_tile below)

  proper_at : (i : ℕ) → i < length stacks → IsProper (stack_at stacks i).area
  proper_at i below = subst IsProper (area_at i below) (spread.proper i no_tile (let long = tiles_long stacks in omega (arith, below, long)))

  -- sizes of the group's pieces
  abbrev size_in : (Rect → ℤ) → ℕ → ℤ
  size_in size i = cond (from i && true) (size (tile_at tiles i).area) (pos 0)

  abbrev total : (Rect → ℤ) → ℤ
  total size = sum_on (size_in size) (indices_of tiles)

  index_below : (i : ℕ) → In i (indices_of tiles) → i < length stacks
  index_below i among = let inside = (Lists-indices_of tiles).2 i among in let long = tiles_long stacks in omega (arith, inside, long)

  piece_within : (size : Rect → ℤ) → ((area : Rect) → IsProper area → pos 0 ≤ℤ size area) → (i : ℕ) → i < length stacks
      → IsWithin (size_in size i) (counted size contains stacks groups group i)
  piece_within size some i below =
      let stack = stack_at stacks i in
      let s = size stack.area in
      subst (λ (n : ℤ). IsWithin (cond (from i && true) n (pos 0)) (counted size contains stacks groups group i)) (ap size (sym (area_at i below)))
      (gate_within (from i) s (beyond contains stack s)
      (gated_within (contains (flat_kind stack)) (λ entry. contains entry.kind.0) stack.kinds s (some stack.area (proper_at i below)) (few_at i below)))

  size_within : (size : Rect → ℤ) → ((area : Rect) → IsProper area → pos 0 ≤ℤ size area)
      → IsWithin (total size) (sum_on (counted size contains stacks groups group) (range_with_len 0 (length stacks)))
  size_within size some =
      subst (λ (n : ℕ). IsWithin (total size) (sum_on (counted size contains stacks groups group) (range_with_len 0 n))) (tiles_long stacks)
      (sum_within (size_in size) (counted size contains stacks groups group) (indices_of tiles)
      (λ i among. piece_within size some i (index_below i among)))

  -- what tiles of the group share
  abbrev shared_in : Contact → ℤ
  shared_in c = (one_if ((from c.first && true) && true) +ℤ one_if ((from c.second && true) && true)) *ℤ c.length

  contact_within : (c : Contact) → In c contacts → IsWithin (shared_in c) (contact_counted contains stacks groups group c)
  contact_within c i =
      let at = In-index c contacts i in
      let is = at.1.1 c in
      let inside = subst (λ (v : Contact). v.first < length stacks) is (contacts_within stacks contacts listed at.0 c at.1.0).0 in
      let some = subst (λ (v : Contact). pos 0 ≤ℤ v.length) is (contacts_some stacks contacts listed at.0 c at.1.0) in
      let first = stack_at stacks c.first in
      let second = stack_at stacks c.second in
      gate_twice (from c.first) (from c.second) c.length (beyond_both contains first second c.length)
      (gated_within (contains (flat_kind first) && contains (flat_kind second)) (λ entry. contains entry.kind.0 && contains (kind_in second.kinds entry.part))
      first.kinds c.length some (few_at c.first inside))

  shared_within : IsWithin (sum_on shared_in contacts) (shared_beyond contains stacks contacts groups group)
  shared_within = sum_within shared_in (contact_counted contains stacks groups group) contacts contact_within

  -- places of the group are near
  near_place : (place : Place) → IsInTiles tiles from place → IsNearPlace place
  near_place place h =
      let within = slice_get_within tiles h.index h.lies.tile h.lies.there in
      let long = tiles_long stacks in
      let below : h.index < length stacks = omega (arith, within, long) in
      let is : h.lies.tile ≡ tile_of (get_or stacks h.index no_piece) =
      sym (get_or_from_slice_get tiles h.index h.lies.tile no_tile h.lies.there) ∙ tile_is stacks h.index no_tile below in
      let near = subst (λ (t : RegionTile). IsNear t.area) (get_or_from_slice_get tiles h.index h.lies.tile no_tile h.lies.there) (spread.near h.index no_tile
      within) in
      let plane = planes h.index no_piece below in
      let on = h.lies.plane ∙ ap (λ (t : RegionTile). t.plane) is in
      let covers = h.lies.covers in
      let a = covers.right_of_xlo in let b = covers.left_of_xhi in let c = covers.above_ylo in let d = covers.below_yhi in
      let xl = near.xlo in let yl = near.ylo in let xh = near.xhi in let yh = near.yhi in
      record {
        plane = omega (arith, plane, on);
        x = (omega (arith, ints, a, xl.0), omega (arith, ints, b, xh.1));
        y = (omega (arith, ints, c, yl.0), omega (arith, ints, d, yh.1));
      }

  small_group : IsSmallMeasure (total area_of, total perimeter_of -ℤ sum_on shared_in contacts)
  small_group =
      let always : ℕ → Bool = λ i. true in
      let test = stands_test tiles in
      let class : Class = record { contains = is_one; per_area = pos 0; per_perimeter = pos 0 } in
      measures_are_small (class ∷ []) (told_layout tiles spread always (stands tiles) test) (IsInTiles tiles from)
      ((total area_of, total perimeter_of -ℤ sum_on shared_in contacts) ∷ []) near_place
      (told_area tiles spread always (stands tiles) test from, told_edges tiles spread always (stands tiles) test contacts listed from, tt) 0 (pos 0, pos 0)
      (omega arith)

  -- edges are at most four for each square
  edges_few : total perimeter_of ≤ℤ (pos 4 *ℤ total area_of)
  edges_few =
      subst (λ (n : ℤ). total perimeter_of ≤ℤ n) (sum_on-scale (pos 4) (size_in area_of) (indices_of tiles))
      (sum_on-le (size_in perimeter_of) (λ i. pos 4 *ℤ size_in area_of i) (indices_of tiles) (λ i among.
      let below = index_below i among in
      gate_below (from i && true) (perimeter_of (tile_at tiles i).area) (area_of (tile_at tiles i).area)
      (perimeter_below (tile_at tiles i).area (subst IsProper (sym (area_at i below)) (proper_at i below)))))
    where
      gate_below : (g : Bool) (p a : ℤ) → p ≤ℤ (pos 4 *ℤ a) → cond g p (pos 0) ≤ℤ (pos 4 *ℤ cond g a (pos 0))
      gate_below true p a h = h
      gate_below false p a h = omega (arith, ints)

  -- what the group counts is small
  pub group_small : IsSmallSum (area_beyond contains stacks groups group, perimeter_beyond contains stacks contacts groups group)
  group_small =
      let area = size_within area_of area_not_negative in
      let alone = size_within perimeter_of perimeter_not_negative in
      let shared = shared_within in
      let small = small_group in
      let edges = edges_few in
      let area_low = area.0 in let area_high = area.1 in
      let alone_low = alone.0 in let alone_high = alone.1 in
      let shared_low = shared.0 in let shared_high = shared.1 in
      let some_area = small.some_area in let most_area = small.most_area in let some_edges = small.some_edges in
      record {
        least_area = omega (arith, ints, area_low, most_area);
        most_area = omega (arith, ints, area_high, most_area);
        least_edges = omega (arith, ints, alone_low, shared_high, some_edges, edges, most_area);
        most_edges = omega (arith, ints, alone_high, shared_low, some_edges, edges, most_area);
      }

-- and so is each pair of the columns
pub pairs_small : (classes : List ClassRec) (stacks : List PlaneStack) (contacts : List Contact) (groups : List ℕ) (count group : ℕ) (columns : List Column)
    → group < count → AreColumns classes stacks contacts groups count columns → AreSpread (tiles_of stacks)
    → Lists (IsTileContact (tiles_of stacks)) contacts → All (λ piece. piece.plane < 8) stacks → All (λ piece. AreByPart piece.stack.kinds) stacks
    → All (λ piece. All (λ entry. entry.part < 2 ^ 20) piece.stack.kinds) stacks → All IsSmallSum (pairs_at group columns)
pairs_small classes stacks contacts groups count group columns below have spread listed planes ordered few =
    All-map IsSmallSum (λ (column : Column). (get_or column.areas.items group (pos 0), get_or column.perimeters.items group (pos 0))) columns
    (λ k d within.
    let many = have.so_many in
    let some_class : ClassRec = record { value = 0; per_area = 0; per_perimeter = 0; types = [] } in
    let is = have.each k some_class d (omega (arith, within, many)) in
    let contains = (class_of (get_or classes k some_class)).contains in
    let pair : ℤ × ℤ = (get_or (get_or columns k d).areas.items group (pos 0), get_or (get_or columns k d).perimeters.items group (pos 0)) in
    let same : pair ≡ (area_beyond contains stacks groups group, perimeter_beyond contains stacks contacts groups group) =
    λ i. (is.area group below i, is.perimeter group below i) in
    subst IsSmallSum (sym same) (group_small stacks contacts groups group contains spread listed planes ordered few))
