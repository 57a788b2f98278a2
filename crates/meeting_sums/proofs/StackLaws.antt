-- Pieces of planes and the tiles that stand for them, by their places in the list.
use Rattle.meeting_sums.proofs.Common.{◌≡◌, ◌⊎◌, ℕ, ◌+◌, ◌<◌, Bool, pos, negsuc, ℤ, ◌+ℤ◌, ◌-ℤ◌, ◌*ℤ◌, ◌≤ℤ◌, List, [], ◌∷◌, ◌++◌, take, length}
use Rattle.meeting_sums.proofs.Common.{get_or, inl, inr, sym, ◌∙◌, ap, subst, arith, slice_index, All, range_with_len, ints, get_or_default}
use Rattle.meeting_sums.proofs.Common.{get_or-map, length-map, take_more, In, Lists, sum_on, In-get_or, sum_on-push, Rect, IsNear, IsProper, Amount}
use Rattle.meeting_sums.proofs.Common.{Contact, area_of, perimeter_of, RegionTile, AreSpread, no_tile, IsTileContact, PlaneStack, AreByPart, beyond}
use Rattle.meeting_sums.proofs.Common.{beyond_both, for_group, for_both, no_piece, stack_at, contact_counted, AddAmounts, tile_of, tiles_of}
use Rattle.std.proofs.lemmas.List.{map-id}
use Rattle.std.proofs.lemmas.List.FromFn.{map-range_with_len_more}
use Rattle.offences.specs.declared.stacks.TypedStack.{TypedStack}
use Rattle.meeting_sums.proofs.AmountLaws.{adds_then}

-- the pieces are as many as their tiles
pub tiles_long : (stacks : List PlaneStack) → length (tiles_of stacks) ≡ length stacks
tiles_long stacks = length-map stacks tile_of

-- the tile at a place is that of the piece there
pub tile_is : (stacks : List PlaneStack) (i : ℕ) (d : RegionTile) → i < length stacks → get_or (tiles_of stacks) i d ≡ tile_of (get_or stacks i no_piece)
tile_is stacks i d below = get_or-map tile_of stacks i no_piece d below

-- a piece that was read
pub stack_read : (stacks : List PlaneStack) (i : ℕ) (piece : PlaneStack) → i < length stacks → piece ≡ get_or stacks i piece → piece.stack ≡ stack_at stacks i
stack_read stacks i piece below is = ap (λ (p : PlaneStack). p.stack) (is ∙ get_or_default stacks i piece no_piece below)

-- what is so of the tile at its place is so of its area
read_by : (P : Rect → Type 0) (stacks : List PlaneStack) (i : ℕ) (piece : PlaneStack) → i < length stacks → piece ≡ get_or stacks i piece
    → (i < length (tiles_of stacks) → P (get_or (tiles_of stacks) i no_tile).area) → P piece.stack.area
read_by P stacks i piece below is there =
    let long = tiles_long stacks in
    subst (λ (s : TypedStack). P s.area) (sym (stack_read stacks i piece below is))
    (subst (λ (t : RegionTile). P t.area) (tile_is stacks i no_tile below) (there (omega (arith, long, below))))

pub read_proper : (stacks : List PlaneStack) (i : ℕ) (piece : PlaneStack) → i < length stacks → piece ≡ get_or stacks i piece → AreSpread (tiles_of stacks)
    → IsProper piece.stack.area
read_proper stacks i piece below is spread = read_by IsProper stacks i piece below is (spread.proper i no_tile)

pub read_near : (stacks : List PlaneStack) (i : ℕ) (piece : PlaneStack) → i < length stacks → piece ≡ get_or stacks i piece → AreSpread (tiles_of stacks)
    → IsNear piece.stack.area
read_near stacks i piece below is spread = read_by IsNear stacks i piece below is (spread.near i no_tile)

-- sizes are not negative
product_not_negative : (w h : ℤ) → pos 0 ≤ℤ w → pos 0 ≤ℤ h → pos 0 ≤ℤ (w *ℤ h)
product_not_negative (pos m) (pos n) p q = omega (arith, ints)
product_not_negative (negsuc m) h p q = absurd (omega (arith, ints, p))
product_not_negative (pos m) (negsuc n) p q = absurd (omega (arith, ints, q))

pub area_not_negative : (area : Rect) → IsProper area → pos 0 ≤ℤ area_of area
area_not_negative area proper = product_not_negative (area.xhi -ℤ area.xlo) (area.yhi -ℤ area.ylo) (let w = proper.wide in omega (arith, ints, w))
    (let h = proper.high in omega (arith, ints, h))

pub perimeter_not_negative : (area : Rect) → IsProper area → pos 0 ≤ℤ perimeter_of area
perimeter_not_negative area proper = let w = proper.wide in let h = proper.high in omega (arith, ints, w, h)

-- one number more
pub sum_more : (w : ℕ → ℤ) (n : ℕ) → sum_on w (range_with_len 0 n) +ℤ w n ≡ sum_on w (range_with_len 0 (n + 1))
sum_more w n = sym (ap (sum_on w) range_more ∙ sum_on-push w (range_with_len 0 n) n)
  where
    range_more : range_with_len 0 (n + 1) ≡ range_with_len 0 n ++ n ∷ []
    range_more = sym (map-id (range_with_len 0 (n + 1))) ∙ map-range_with_len_more (λ (k : ℕ). k) 0 n n (omega arith)
        ∙ ap (λ (v : List ℕ). v ++ n ∷ []) (map-id (range_with_len 0 n))

-- what the piece at a place counts for a group by its size
abbrev pub counted : (Rect → ℤ) → (ℕ → Bool) → List PlaneStack → List ℕ → ℕ → ℕ → ℤ
counted size contains stacks groups group index =
    for_group (slice_index groups index) group (beyond contains (stack_at stacks index) (size (stack_at stacks index).area))

-- one piece more
pub piece_adds : (size : Rect → ℤ) (contains : ℕ → Bool) (stacks : List PlaneStack) (groups : List ℕ) (place : ℕ) (piece : PlaneStack) (value : ℤ)
    (old mid new : List Amount)
    → place < length stacks → place < length groups → piece ≡ get_or stacks place piece → value ≡ size piece.stack.area
    → AddAmounts (λ key. In key groups) (λ key. sum_on (counted size contains stacks groups key) (range_with_len 0 place)) old mid
    → AddAmounts (λ key. slice_index groups place ≡ key) (λ key. for_group (slice_index groups place) key (beyond contains piece.stack value)) mid new
    → AddAmounts (λ key. In key groups) (λ key. sum_on (counted size contains stacks groups key) (range_with_len 0 (place + 1))) old new
piece_adds size contains stacks groups place piece value old mid new inside grouped is sized before one =
    adds_then (λ key. In key groups) (λ key. slice_index groups place ≡ key) (λ key. In key groups)
    (λ key. sum_on (counted size contains stacks groups key) (range_with_len 0 place))
    (λ key. for_group (slice_index groups place) key (beyond contains piece.stack value))
    (λ key. sum_on (counted size contains stacks groups key) (range_with_len 0 (place + 1))) old mid new before one (λ key i. i)
    (λ key e. subst (λ (k : ℕ). In k groups) e (In-get_or groups place 0 grouped))
    (λ key. let same = stack_read stacks place piece inside is in
    let counts : for_group (slice_index groups place) key (beyond contains piece.stack value) ≡ counted size contains stacks groups key place =
    ap (λ (n : ℤ). for_group (slice_index groups place) key (beyond contains piece.stack n)) sized
    ∙ ap (λ (s : TypedStack). for_group (slice_index groups place) key (beyond contains s (size s.area))) same in
    ap (λ (n : ℤ). sum_on (counted size contains stacks groups key) (range_with_len 0 place) +ℤ n) counts
    ∙ sum_more (counted size contains stacks groups key) place)

-- contacts are of pieces
pub contacts_within : (stacks : List PlaneStack) (contacts : List Contact) → Lists (IsTileContact (tiles_of stacks)) contacts
    → All (λ contact. (contact.first < length stacks) × (contact.second < length stacks)) contacts
contacts_within stacks contacts listed = λ i d below.
    let is = listed.2 (get_or contacts i d) (In-get_or contacts i d below) in
    let order = is.in_order in
    let last = is.in_list in
    let long = tiles_long stacks in
    (omega (arith, order, last, long), omega (arith, last, long))

pub contacts_some : (stacks : List PlaneStack) (contacts : List Contact) → Lists (IsTileContact (tiles_of stacks)) contacts
    → All (λ contact. pos 0 ≤ℤ contact.length) contacts
contacts_some stacks contacts listed = λ i d below.
    let some = (listed.2 (get_or contacts i d) (In-get_or contacts i d below)).not_none in omega (arith, ints, some)

-- one contact more
pub contact_adds : (contains : ℕ → Bool) (stacks : List PlaneStack) (groups : List ℕ) (contacts : List Contact) (i : ℕ) (d : Contact)
    (first second : TypedStack) (value : ℤ) (old mid new : List Amount)
    → ((get_or contacts i d).first < length stacks) × ((get_or contacts i d).second < length stacks) → length groups ≡ length stacks → i < length contacts
    → first ≡ stack_at stacks (get_or contacts i d).first → second ≡ stack_at stacks (get_or contacts i d).second
    → value ≡ (get_or contacts i d).length
    → AddAmounts (λ key. In key groups) (λ key. pos 0 -ℤ sum_on (contact_counted contains stacks groups key) (take i contacts)) old mid
    → AddAmounts (λ key. (slice_index groups (get_or contacts i d).first ≡ key) ⊎ (slice_index groups (get_or contacts i d).second ≡ key))
    (λ key. pos 0 -ℤ for_both (slice_index groups (get_or contacts i d).first) (slice_index groups (get_or contacts i d).second) key
    (beyond_both contains first second value)) mid new
    → AddAmounts (λ key. In key groups) (λ key. pos 0 -ℤ sum_on (contact_counted contains stacks groups key) (take (i + 1) contacts)) old new
contact_adds contains stacks groups contacts i d first second value old mid new inside one_each below is_first is_second sized before one =
    let contact = get_or contacts i d in
    let p = slice_index groups contact.first in
    let q = slice_index groups contact.second in
    let first_in : contact.first < length groups = (let at = inside.0 in omega (arith, at, one_each)) in
    let second_in : contact.second < length groups = (let at = inside.1 in omega (arith, at, one_each)) in
    adds_then (λ key. In key groups) (λ key. (p ≡ key) ⊎ (q ≡ key)) (λ key. In key groups)
    (λ key. pos 0 -ℤ sum_on (contact_counted contains stacks groups key) (take i contacts))
    (λ key. pos 0 -ℤ for_both p q key (beyond_both contains first second value))
    (λ key. pos 0 -ℤ sum_on (contact_counted contains stacks groups key) (take (i + 1) contacts)) old mid new before one (λ key i. i)
    (λ key either. elim either [
      | inl e ↦ subst (λ (k : ℕ). In k groups) e (In-get_or groups contact.first 0 first_in)
      | inr e ↦ subst (λ (k : ℕ). In k groups) e (In-get_or groups contact.second 0 second_in)
    ])
    (λ key.
    let so_far = sum_on (contact_counted contains stacks groups key) (take i contacts) in
    let counts : for_both p q key (beyond_both contains first second value) ≡ contact_counted contains stacks groups key contact =
    ap (λ (n : ℤ). for_both p q key (beyond_both contains first second n)) sized
    ∙ ap (λ (s : TypedStack). for_both p q key (beyond_both contains s second contact.length)) is_first
    ∙ ap (λ (s : TypedStack). for_both p q key (beyond_both contains (stack_at stacks contact.first) s contact.length)) is_second in
    further so_far (for_both p q key (beyond_both contains first second value)) (contact_counted contains stacks groups key contact)
    (sum_on (contact_counted contains stacks groups key) (take (i + 1) contacts)) counts
    (ap (sum_on (contact_counted contains stacks groups key)) (take_more contacts i d below)
    ∙ sum_on-push (contact_counted contains stacks groups key) (take i contacts) contact))
  where
    further : (a b c s : ℤ) → b ≡ c → s ≡ a +ℤ c → (pos 0 -ℤ a) +ℤ (pos 0 -ℤ b) ≡ pos 0 -ℤ s
    further a b c s e f = omega (arith, ints, e, f)
