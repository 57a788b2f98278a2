-- What the pieces of a group and their contacts count is what their places count in the flat layout beyond the parts.
use Rattle.meeting_sums.proofs.Common.{◌≡◌, ℕ, ◌<◌, pos, ℤ, ◌+ℤ◌, ◌-ℤ◌, ◌*ℤ◌, Bool, false, cond, eqb, ◌&&◌, List, length, get_or, Some, sym, ◌∙◌, ap}
use Rattle.meeting_sums.proofs.Common.{subst, arith, slice_get, slice_index, range_with_len, ints, length-range_with_len, get_or-range_with_len}
use Rattle.meeting_sums.proofs.Common.{slice_get_within, slice_get-get_or, get_or_from_slice_get, In, Lists, sum_on, Total, one_if, In-get_or}
use Rattle.meeting_sums.proofs.Common.{In-index, sum_on-sub, sum_on-same, Total-at, Total-same, Rect, Covers, Contact, area_of, perimeter_of}
use Rattle.meeting_sums.proofs.Common.{RawTech, Place, Class, RegionTile, no_tile, tile_at, IsTileContact, IsInTiles, Lists-indices_of, one_plane}
use Rattle.meeting_sums.proofs.Common.{same_from_test, PlaneStack, SetLayout, ArePlaneStacks, kind_in, area_weight, perimeter_weight, part_layout}
use Rattle.meeting_sums.proofs.Common.{parts_layout, excess, flat_kind, beyond, for_group, for_both, no_piece, stack_at, contact_counted}
use Rattle.meeting_sums.proofs.Common.{area_beyond, shared_beyond, perimeter_beyond, tile_of, tiles_of, IsInGroup}
use Rattle.finite_sets.proofs.Totals.{Total-sub}
use Rattle.offences.specs.LayoutModel.Measures.{perimeter_at}
use Rattle.meeting_laws.specs.FloodNodes.TileShares.{indices_of}
use Rattle.meeting_sums.proofs.KindLaws.{sum_by_kinds}
use Rattle.meeting_sums.proofs.StackLaws.{tiles_long, tile_is, counted, contacts_within}
use Rattle.meeting_sums.proofs.StackTests.{pieces_spread, flat_test, part_test}
use Rattle.meeting_sums.proofs.SumLaws.{sum_by_positions, Total-sum, gate_beyond, gate_both, gate_shared, sum_less_sums}
use Rattle.meeting_sums.proofs.TileTests.{tested_area, tested_edges}

-- the tile at a place of the list
tile_there : (stacks : List PlaneStack) (i : ℕ) → i < length stacks → tile_at (tiles_of stacks) i ≡ tile_of (get_or stacks i no_piece)
tile_there stacks i below = tile_is stacks i no_tile below

-- the piece is of the group
abbrev pub of_group : List ℕ → ℕ → ℕ → Bool
of_group groups group i = eqb (slice_index groups i) group

-- places of a group's tiles are places of its pieces
pub in_group : (stacks : List PlaneStack) (groups : List ℕ) (group : ℕ) → length groups ≡ length stacks → (place : Place)
    → IsInTiles (tiles_of stacks) (of_group groups group) place → IsInGroup stacks groups group place
in_group stacks groups group one_each place h =
    let within = slice_get_within (tiles_of stacks) h.index h.lies.tile h.lies.there in
    let long = tiles_long stacks in
    let below : h.index < length stacks = omega (arith, within, long) in
    let is : h.lies.tile ≡ tile_of (get_or stacks h.index no_piece) =
    sym (get_or_from_slice_get (tiles_of stacks) h.index h.lies.tile no_tile h.lies.there) ∙ tile_there stacks h.index below in
    record {
      index = h.index;
      piece = get_or stacks h.index no_piece;
      there = slice_get-get_or stacks h.index no_piece below;
      plane = h.lies.plane ∙ ap (λ (t : RegionTile). t.plane) is;
      covers = subst (λ (t : RegionTile). Covers t.area place.square) is h.lies.covers;
      of_group = slice_get-get_or groups h.index 0 (omega (arith, below, one_each))
          ∙ ap (λ (k : ℕ). Some k) (same_from_test (slice_index groups h.index) group h.passes);
    }

pub from_group : (stacks : List PlaneStack) (groups : List ℕ) (group : ℕ) (place : Place) → IsInGroup stacks groups group place
    → IsInTiles (tiles_of stacks) (of_group groups group) place
from_group stacks groups group place h =
    let below = slice_get_within stacks h.index h.piece h.there in
    let is : get_or stacks h.index no_piece ≡ h.piece = get_or_from_slice_get stacks h.index h.piece no_piece h.there in
    let long = tiles_long stacks in
    record {
      index = h.index;
      lies = record {
        tile = tile_of h.piece;
        there = slice_get-get_or (tiles_of stacks) h.index no_tile (omega (arith, below, long))
            ∙ ap (λ (t : RegionTile). Some t) (tile_there stacks h.index below ∙ ap tile_of is);
        plane = h.plane;
        covers = h.covers;
      };
      passes = one_plane (slice_index groups h.index) group (get_or_from_slice_get groups h.index group 0 h.of_group);
    }

module _ (raw : RawTech) (parts : List SetLayout) (stacks : List PlaneStack) (are : ArePlaneStacks raw parts stacks) (groups : List ℕ) (group : ℕ)
    (contains : ℕ → Bool) (space_out : contains 0 ≡ false) where
  abbrev tiles : List RegionTile
  tiles = tiles_of stacks

  abbrev from : ℕ → Bool
  from = of_group groups group

  -- a part that has nothing
  abbrev no_part : SetLayout
  no_part place = 0

  abbrev positions : List ℕ
  positions = range_with_len 0 (length parts)

  abbrev part_at : ℕ → SetLayout
  part_at k = get_or parts k no_part

  position_below : (k : ℕ) → In k positions → k < length parts
  position_below k i =
      let at = In-index k positions i in
      let long = length-range_with_len 0 (length parts) in
      let inside = at.1.0 in
      let is = sym (at.1.1 0) ∙ get_or-range_with_len 0 (length parts) at.0 0 (omega (arith, inside, long)) in
      omega (arith, inside, long, is)

  -- whether the flat type of a piece, or the type of a part there, is of the class
  abbrev flat_of : ℕ → Bool
  flat_of i = contains (flat_kind (stack_at stacks i))

  abbrev part_of : ℕ → ℕ → Bool
  part_of k i = contains (kind_in (stack_at stacks i).kinds k)

  -- the parts are as the lists of types say
  listed_parts : (f : ℕ → ℕ → ℤ) → ((part : ℕ) → f part 0 ≡ pos 0) → (i : ℕ) → i < length stacks
      → sum_on (λ k. f k (kind_in (stack_at stacks i).kinds k)) positions ≡ sum_on (λ entry. f entry.part entry.kind.0) (stack_at stacks i).kinds
  listed_parts f of_space i below =
      let typed = are.each (get_or stacks i no_piece) (In-get_or stacks i no_piece below) in
      sum_by_kinds f of_space (length parts) (stack_at stacks i).kinds typed.ordered typed.within

  space_counts : (s : ℤ) → cond (contains 0) s (pos 0) ≡ pos 0
  space_counts s = ap (λ (t : Bool). cond t s (pos 0)) space_out

  -- what a piece counts by its size
  piece_number : (size : Rect → ℤ) (i : ℕ) → i < length stacks
      → cond (from i && flat_of i) (size (tile_at tiles i).area) (pos 0)
      -ℤ sum_on (λ k. cond (from i && part_of k i) (size (tile_at tiles i).area) (pos 0)) positions
      ≡ counted size contains stacks groups group i
  piece_number size i below =
      let s = size (tile_at tiles i).area in
      let same : s ≡ size (stack_at stacks i).area = ap (λ (t : RegionTile). size t.area) (tile_there stacks i below) in
      gate_beyond (from i) (flat_of i) (λ k. part_of k i) s positions
      ∙ ap (λ (n : ℤ). cond (from i) (cond (flat_of i) s (pos 0) -ℤ n) (pos 0))
      (listed_parts (λ part kind. cond (contains kind) s (pos 0)) (λ part. space_counts s) i below)
      ∙ ap (λ (n : ℤ). for_group (slice_index groups i) group (beyond contains (stack_at stacks i) n)) same

  size_number : (size : Rect → ℤ)
      → sum_on (λ i. cond (from i && flat_of i) (size (tile_at tiles i).area) (pos 0)) (indices_of tiles)
      -ℤ sum_on (λ k. sum_on (λ i. cond (from i && part_of k i) (size (tile_at tiles i).area) (pos 0)) (indices_of tiles)) positions
      ≡ sum_on (counted size contains stacks groups group) (range_with_len 0 (length stacks))
  size_number size =
      sum_less_sums (λ i. cond (from i && flat_of i) (size (tile_at tiles i).area) (pos 0))
      (λ k i. cond (from i && part_of k i) (size (tile_at tiles i).area) (pos 0)) (indices_of tiles) positions
      ∙ sum_on-same (λ i. cond (from i && flat_of i) (size (tile_at tiles i).area) (pos 0)
      -ℤ sum_on (λ k. cond (from i && part_of k i) (size (tile_at tiles i).area) (pos 0)) positions)
      (counted size contains stacks groups group) (indices_of tiles)
      (λ i among. piece_number size i (let inside = (Lists-indices_of tiles).2 i among in let long = tiles_long stacks in omega (arith, inside, long)))
      ∙ ap (λ (n : ℕ). sum_on (counted size contains stacks groups group) (range_with_len 0 n)) (tiles_long stacks)

  abbrev P : Place → Type 0
  P = IsInTiles tiles from

  -- sums over parts, by their positions
  over_parts : (w : SetLayout → ℤ) → sum_on (λ (k : ℕ). w (part_at k)) positions ≡ sum_on w parts
  over_parts w = sym (sum_by_positions w parts no_part)

  there : (k : ℕ) → In k positions → slice_get parts k ≡ Some (part_at k)
  there k i = slice_get-get_or parts k no_part (position_below k i)

  -- the area that the places count
  pub tiles_area_beyond : (class : Class) → class.contains ≡ contains
      → Total P (excess raw (area_weight class) parts) (area_beyond contains stacks groups group)
  tiles_area_beyond class same =
      let spread = pieces_spread raw parts stacks are in
      let flat = tested_area tiles spread flat_of (λ place. contains (parts_layout raw parts place)) (flat_test raw parts stacks are contains space_out) from in
      let each : (k : ℕ) → In k positions → Total P (λ place. one_if (contains (part_layout raw (part_at k) place)))
      (sum_on (λ i. cond (from i && part_of k i) (area_of (tile_at tiles i).area) (pos 0)) (indices_of tiles)) =
      (λ k i. tested_area tiles spread (part_of k) (λ place. contains (part_layout raw (part_at k) place))
      (part_test raw parts stacks are contains space_out k (part_at k) (there k i)) from) in
      Total-same P (λ place. one_if (contains (parts_layout raw parts place))
      -ℤ sum_on (λ k. one_if (contains (part_layout raw (part_at k) place))) positions) (excess raw (area_weight class) parts)
      (area_beyond contains stacks groups group)
      (λ place h.
      ap (λ (n : ℤ). one_if (contains (parts_layout raw parts place)) -ℤ n) (over_parts (λ part. one_if (contains (part_layout raw part place))))
      ∙ ap (λ (c : ℕ → Bool). one_if (c (parts_layout raw parts place)) -ℤ sum_on (λ part. one_if (c (part_layout raw part place))) parts) (sym same))
      (Total-at P (λ place. one_if (contains (parts_layout raw parts place))
      -ℤ sum_on (λ k. one_if (contains (part_layout raw (part_at k) place))) positions) _ (area_beyond contains stacks groups group) (size_number area_of)
      (Total-sub P (λ place. one_if (contains (parts_layout raw parts place)))
      (λ place. sum_on (λ k. one_if (contains (part_layout raw (part_at k) place))) positions) _ _ flat
      (Total-sum P flat.0 flat.1.0 (λ k place. one_if (contains (part_layout raw (part_at k) place))) _ positions each)))

  -- what two pieces share where tests pass at both
  abbrev shared_where : (ℕ → Bool) → Contact → ℤ
  shared_where passes c =
      (one_if ((from c.first && passes c.first) && passes c.second) +ℤ one_if ((from c.second && passes c.second) && passes c.first)) *ℤ c.length

  abbrev both_where : (ℕ → Bool) → Contact → ℤ
  both_where passes c = cond (passes c.first && passes c.second) c.length (pos 0)

  first_space : (part : ℕ) (other : Bool) (v : ℤ) → cond (contains 0 && other) v (pos 0) ≡ pos 0
  first_space part other v = ap (λ (t : Bool). cond (t && other) v (pos 0)) space_out

  -- what a contact counts
  contact_number : (c : Contact) → (c.first < length stacks) × (c.second < length stacks)
      → shared_where flat_of c -ℤ sum_on (λ k. shared_where (part_of k) c) positions ≡ contact_counted contains stacks groups group c
  contact_number c inside =
      let second = stack_at stacks c.second in
      let both : (ℕ → Bool) → ℤ = λ passes. both_where passes c in
      (λ k. gate_shared (from c.first) (from c.second) (flat_of c.first) (flat_of c.second) c.length k
      -ℤ sum_on (λ n. gate_shared (from c.first) (from c.second) (part_of n c.first) (part_of n c.second) c.length k) positions)
      ∙ gate_both (from c.first) (from c.second) (both flat_of) (λ k. both (part_of k)) positions
      ∙ ap (λ (n : ℤ). for_both (slice_index groups c.first) (slice_index groups c.second) group (both flat_of -ℤ n))
      (listed_parts (λ part kind. cond (contains kind && contains (kind_in second.kinds part)) c.length (pos 0))
      (λ part. first_space part (contains (kind_in second.kinds part)) c.length) c.first inside.0)

  module _ (contacts : List Contact) (listed : Lists (IsTileContact tiles) contacts) where
    inside_pieces : (c : Contact) → In c contacts → (c.first < length stacks) × (c.second < length stacks)
    inside_pieces c i =
        let at = In-index c contacts i in
        subst (λ (v : Contact). (v.first < length stacks) × (v.second < length stacks)) (at.1.1 c) (contacts_within stacks contacts listed at.0 c at.1.0)

    shared_number : sum_on (shared_where flat_of) contacts -ℤ sum_on (λ k. sum_on (shared_where (part_of k)) contacts) positions
        ≡ shared_beyond contains stacks contacts groups group
    shared_number =
        sum_less_sums (shared_where flat_of) (λ k. shared_where (part_of k)) contacts positions
        ∙ sum_on-same (λ c. shared_where flat_of c -ℤ sum_on (λ k. shared_where (part_of k) c) positions) (contact_counted contains stacks groups group)
        contacts (λ c i. contact_number c (inside_pieces c i))

    -- perimeters alone, where tests pass
    abbrev alone_where : (ℕ → Bool) → ℤ
    alone_where passes = sum_on (λ i. cond (from i && passes i) (perimeter_of (tile_at tiles i).area) (pos 0)) (indices_of tiles)

    edge_number : (alone_where flat_of -ℤ sum_on (shared_where flat_of) contacts)
        -ℤ sum_on (λ k. alone_where (part_of k) -ℤ sum_on (shared_where (part_of k)) contacts) positions
        ≡ perimeter_beyond contains stacks contacts groups group
    edge_number =
        ap (λ (n : ℤ). (alone_where flat_of -ℤ sum_on (shared_where flat_of) contacts) -ℤ n)
        (sum_on-sub (λ k. alone_where (part_of k)) (λ k. sum_on (shared_where (part_of k)) contacts) positions)
        ∙ four (alone_where flat_of) (sum_on (shared_where flat_of) contacts) (sum_on (λ k. alone_where (part_of k)) positions)
        (sum_on (λ k. sum_on (shared_where (part_of k)) contacts) positions)
        ∙ (λ k. size_number perimeter_of k -ℤ shared_number k)
      where
        four : (a b c d : ℤ) → (a -ℤ b) -ℤ (c -ℤ d) ≡ (a -ℤ c) -ℤ (b -ℤ d)
        four a b c d = omega (arith, ints)

    -- the perimeter that the places count
    pub tiles_perimeter_beyond : (class : Class) → class.contains ≡ contains
        → Total P (excess raw (perimeter_weight class) parts) (perimeter_beyond contains stacks contacts groups group)
    tiles_perimeter_beyond class same =
        let spread = pieces_spread raw parts stacks are in
        let flat = tested_edges tiles spread flat_of (λ place. contains (parts_layout raw parts place)) (flat_test raw parts stacks are contains space_out)
        contacts listed from in
        let each : (k : ℕ) → In k positions → Total P (perimeter_at contains (part_layout raw (part_at k)))
        (alone_where (part_of k) -ℤ sum_on (shared_where (part_of k)) contacts) =
        (λ k i. tested_edges tiles spread (part_of k) (λ place. contains (part_layout raw (part_at k) place))
        (part_test raw parts stacks are contains space_out k (part_at k) (there k i)) contacts listed from) in
        let whole : Place → ℤ = perimeter_at contains (parts_layout raw parts) in
        let those : Place → ℤ = λ place. sum_on (λ k. perimeter_at contains (part_layout raw (part_at k)) place) positions in
        Total-same P (λ place. whole place -ℤ those place) (excess raw (perimeter_weight class) parts)
        (perimeter_beyond contains stacks contacts groups group)
        (λ place h.
        ap (λ (n : ℤ). whole place -ℤ n) (over_parts (λ part. perimeter_at contains (part_layout raw part) place))
        ∙ ap (λ (c : ℕ → Bool). perimeter_at c (parts_layout raw parts) place -ℤ sum_on (λ part. perimeter_at c (part_layout raw part) place) parts) (sym same))
        (Total-at P (λ place. whole place -ℤ those place) _ (perimeter_beyond contains stacks contacts groups group) edge_number
        (Total-sub P whole those _ _ flat
        (Total-sum P flat.0 flat.1.0 (λ k. perimeter_at contains (part_layout raw (part_at k))) _ positions each)))
