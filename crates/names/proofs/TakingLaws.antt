-- The tile on which a label attaches, as tiles are seen one after another.
use Rattle.names.proofs.Common.{◌≡◌, ◌<◌, ◌≤◌, ◌+◌, ◌⊎◌, ℕ, ◌≤ℤ◌, ◌<ℤ◌, Bool, true, false, cond, Option, Some, None, List, length, inl, inr, arith}
use Rattle.names.proofs.Common.{refl, sym, subst, ◌∙◌, ap, cases_lt, cases_eq, and_parts, false≢true, ints, clamps, In, In-get_or, In-index, Rect}
use Rattle.names.proofs.Common.{LiesWithin, common_rect, has_square, corner_of, IsProper-has_square, has_square-IsProper, Label, RawTech, IsNoLater}
use Rattle.names.proofs.Common.{RegionTile, tile_at, no_tile, Attachment, Block, touched, place_of, stands_earlier}
use Rattle.names.specs.steps.Blocks.{IsWithinBlock, IsBlockFrom, IsBeaten, IsBlockBeaten}
use Rattle.names.specs.steps.TakenLabels.{suits_kind, takes, attachment_on, earlier, IsLeastTaken}
use Rattle.names.proofs.PlaceOrders.{IsNoLater-trans, no_later_by_parts, stands_earlier-true, stands_earlier-false}

-- The tile stands in the list before this index.
pub record IsSeen (tiles : List RegionTile) (count : ℕ) (tile : RegionTile) : Type 0 where
  pub index : ℕ
  pub below : index < count
  pub is : tile_at tiles index ≡ tile

-- the same tiles under another fact
pub IsLeastTaken-iff : (raw : RawTech) (label : Label) (P Q : RegionTile → Type 0) (found : Option Attachment) → ((tile : RegionTile) → P tile → Q tile)
    → ((tile : RegionTile) → Q tile → P tile) → IsLeastTaken raw label P found → IsLeastTaken raw label Q found
IsLeastTaken-iff raw label P Q None there back none = λ tile q taken. none tile (back tile q) taken
IsLeastTaken-iff raw label P Q (Some found) there back least = record {
  tile = least.tile;
  seen = there least.tile least.seen;
  taken = least.taken;
  is = least.is;
  least = λ other q taken. least.least other (back other q) taken;
}

-- more tiles of which none has an earlier place
with_more : (raw : RawTech) (label : Label) (P Q : RegionTile → Type 0) (found : Option Attachment) → ((tile : RegionTile) → P tile → Q tile)
    → ((tile : RegionTile) → Q tile → P tile ⊎ (takes raw label tile ≡ true → IsBeaten found (attachment_on label tile)))
    → IsLeastTaken raw label P found → IsLeastTaken raw label Q found
with_more raw label P Q None there more none = λ tile q taken. elim (more tile q) [ inl p ↦ none tile p taken | inr beaten ↦ absurd (beaten taken) ]
with_more raw label P Q (Some found) there more least = record {
  tile = least.tile;
  seen = there least.tile least.seen;
  taken = least.taken;
  is = least.is;
  least = λ other q taken. elim (more other q) [ inl p ↦ least.least other p taken | inr beaten ↦ beaten taken ];
}

-- no tile was seen
pub taken_none : (raw : RawTech) (label : Label) (tiles : List RegionTile) → IsLeastTaken raw label (IsSeen tiles 0) None
taken_none raw label tiles = λ tile seen taken. let below = seen.below in absurd (omega arith)

seen_more : (tiles : List RegionTile) (n m : ℕ) (tile : RegionTile) → n ≤ m → IsSeen tiles n tile → IsSeen tiles m tile
seen_more tiles n m tile up seen = let below = seen.below in record { index = seen.index; below = omega arith; is = seen.is }

seen_cases : (tiles : List RegionTile) (n : ℕ) (tile : RegionTile) → IsSeen tiles (n + 1) tile → IsSeen tiles n tile ⊎ (tile_at tiles n ≡ tile)
seen_cases tiles n tile seen = let below = seen.below in elim (cases_eq seen.index n) [
  | inl same ↦ inr (sym (ap (tile_at tiles) same) ∙ seen.is)
  | inr other ↦ inl (record { index = seen.index; below = omega arith; is = seen.is })
]

-- the earlier of what was found and what is on the tile
earlier_beats : (found : Option Attachment) (other : Attachment) → IsBeaten (earlier found (Some other)) other
earlier_beats None other = inl refl
earlier_beats (Some first) other = by_test (stands_earlier other first) refl
  where
    by_test : (test : Bool) → stands_earlier other first ≡ test → IsBeaten (cond test (Some other) (Some first)) other
    by_test true is = inl refl
    by_test false is = stands_earlier-false other first is

earlier_than_found : (first other : Attachment) (test : Bool) → stands_earlier other first ≡ test
    → IsBeaten (cond test (Some other) (Some first)) first
earlier_than_found first other true is = inr (stands_earlier-true other first is)
earlier_than_found first other false is = inl refl

-- what is no later than something is no later than all that it is no later than
beaten_too : (found : Option Attachment) (one other : Attachment) → IsBeaten found one → IsNoLater (place_of one) (place_of other) → IsBeaten found other
beaten_too None one other beaten later = beaten
beaten_too (Some found) one other beaten later = IsNoLater-trans (place_of found) (place_of one) (place_of other) beaten later

module _ (raw : RawTech) (label : Label) (tiles : List RegionTile) (n : ℕ) (tile : RegionTile) (here : tile_at tiles n ≡ tile) where
  it_is_seen : IsSeen tiles (n + 1) tile
  it_is_seen = record { index = n; below = omega arith; is = here }

  one_taken : takes raw label tile ≡ true → (found : Option Attachment) → IsLeastTaken raw label (IsSeen tiles n) found
      → IsLeastTaken raw label (IsSeen tiles (n + 1)) (earlier found (Some (attachment_on label tile)))
  one_taken taken None none = record {
    tile = tile;
    seen = it_is_seen;
    taken = taken;
    is = refl;
    least = λ other seen also. elim (seen_cases tiles n other seen) [
      | inl before ↦ absurd (none other before also)
      | inr same ↦ inl (ap (λ (t : RegionTile). place_of (attachment_on label t)) (sym here ∙ same))
    ];
  }
  one_taken taken (Some first) least = by_test (stands_earlier (attachment_on label tile) first) refl
    where
      beats : (test : Bool) → stands_earlier (attachment_on label tile) first ≡ test → (other : RegionTile) → IsSeen tiles (n + 1) other
          → takes raw label other ≡ true → IsBeaten (cond test (Some (attachment_on label tile)) (Some first)) (attachment_on label other)
      beats test is other seen also = elim (seen_cases tiles n other seen) [
        | inl before ↦ beaten_too (cond test (Some (attachment_on label tile)) (Some first)) first (attachment_on label other)
            (earlier_than_found first (attachment_on label tile) test is) (least.least other before also)
        | inr same ↦ subst (λ (t : RegionTile). IsBeaten (cond test (Some (attachment_on label tile)) (Some first)) (attachment_on label t)) (sym here ∙ same)
            (subst (λ (b : Bool). IsBeaten (cond b (Some (attachment_on label tile)) (Some first)) (attachment_on label tile)) is
            (earlier_beats (Some first) (attachment_on label tile)))
      ]

      by_test : (test : Bool) → stands_earlier (attachment_on label tile) first ≡ test
          → IsLeastTaken raw label (IsSeen tiles (n + 1)) (cond test (Some (attachment_on label tile)) (Some first))
      by_test true is = record { tile = tile; seen = it_is_seen; taken = taken; is = refl; least = beats true is }
      by_test false is = record {
        tile = least.tile;
        seen = seen_more tiles n (n + 1) least.tile (omega arith) least.seen;
        taken = least.taken;
        is = least.is;
        least = beats false is;
      }

  earlier_none : (found : Option Attachment) → earlier found None ≡ found
  earlier_none None = refl
  earlier_none (Some first) = refl

  none_taken : takes raw label tile ≡ false → (found : Option Attachment) → IsLeastTaken raw label (IsSeen tiles n) found
      → IsLeastTaken raw label (IsSeen tiles (n + 1)) (earlier found None)
  none_taken fails found least = subst (IsLeastTaken raw label (IsSeen tiles (n + 1))) (sym (earlier_none found))
      (with_more raw label (IsSeen tiles n) (IsSeen tiles (n + 1)) found (λ other seen. seen_more tiles n (n + 1) other (omega arith) seen)
      (λ other seen. elim (seen_cases tiles n other seen) [
        | inl before ↦ inl before
        | inr same ↦ inr (λ taken. absurd (false≢true (sym fails ∙ ap (takes raw label) (sym here ∙ same) ∙ taken)))
      ]) least)

  -- one more tile
  pub taken_more : (found : Option Attachment) → IsLeastTaken raw label (IsSeen tiles n) found
      → IsLeastTaken raw label (IsSeen tiles (n + 1)) (earlier found (cond (takes raw label tile) (Some (attachment_on label tile)) None))
  taken_more found least = by_test (takes raw label tile) refl
    where
      by_test : (test : Bool) → takes raw label tile ≡ test
          → IsLeastTaken raw label (IsSeen tiles (n + 1)) (earlier found (cond test (Some (attachment_on label tile)) None))
      by_test true is = one_taken is found least
      by_test false is = none_taken is found least

-- the tiles of a block that has none at an earlier place
pub taken_past : (raw : RawTech) (label : Label) (tiles : List RegionTile) (n : ℕ) (block : Block) (found : Option Attachment)
    → IsBlockFrom tiles n block → IsBlockBeaten raw label block found → IsLeastTaken raw label (IsSeen tiles n) found
    → IsLeastTaken raw label (IsSeen tiles block.end) found
taken_past raw label tiles n block found is beaten least =
    let up = is.some in
    with_more raw label (IsSeen tiles n) (IsSeen tiles block.end) found (λ tile seen. seen_more tiles n block.end tile (omega arith) seen)
    (λ tile seen. elim (cases_lt seen.index n) [
      | inl before ↦ inl (record { index = seen.index; below = before; is = seen.is })
      | inr not_before ↦ inr (λ taken. beaten tile (subst (IsWithinBlock block) seen.is (is.within seen.index not_before seen.below)) taken)
    ]) least

-- all tiles of the list were seen
pub taken_all : (raw : RawTech) (label : Label) (tiles : List RegionTile) (n : ℕ) (found : Option Attachment) → n ≡ length tiles
    → IsLeastTaken raw label (IsSeen tiles n) found → IsLeastTaken raw label (λ tile. In tile tiles) found
taken_all raw label tiles n found all least = IsLeastTaken-iff raw label (IsSeen tiles n) (λ tile. In tile tiles) found
    (λ tile seen. let below = seen.below in subst (λ (t : RegionTile). In t tiles) seen.is (In-get_or tiles seen.index no_tile (omega arith)))
    (λ tile among. let at = In-index tile tiles among in let below = at.1.0 in record { index = at.0; below = omega arith; is = at.1.1 no_tile })
    least

-- what two rectangles have in common, where the second lies within a third
module _ (a b c : Rect) (inside : LiesWithin b c) (some : has_square (common_rect a b) ≡ true) where
  in_wider : has_square (common_rect a c) ≡ true
  in_wider =
      let proper = IsProper-has_square (common_rect a b) some in
      let wide : (common_rect a b).xlo <ℤ (common_rect a b).xhi = proper.wide in
      let high : (common_rect a b).ylo <ℤ (common_rect a b).yhi = proper.high in
      let p0 : c.xlo ≤ℤ b.xlo = inside.right_of_xlo in
      let p1 : c.ylo ≤ℤ b.ylo = inside.above_ylo in
      let p2 : b.xhi ≤ℤ c.xhi = inside.left_of_xhi in
      let p3 : b.yhi ≤ℤ c.yhi = inside.below_yhi in
      has_square-IsProper (common_rect a c) (record { wide = omega (arith, ints, clamps); high = omega (arith, ints, clamps) })

  corner_later : (p q : ℕ) → p ≡ q
      → IsNoLater (record { plane = p; square = corner_of (common_rect a c) }) (record { plane = q; square = corner_of (common_rect a b) })
  corner_later p q plane =
      let p0 : c.xlo ≤ℤ b.xlo = inside.right_of_xlo in
      let p1 : c.ylo ≤ℤ b.ylo = inside.above_ylo in
      no_later_by_parts p q (common_rect a c).xlo (common_rect a c).ylo (common_rect a b).xlo (common_rect a b).ylo plane
      (omega (arith, ints, clamps)) (omega (arith, ints, clamps))

module _ (raw : RawTech) (label : Label) (block : Block) where
  common_has : (tile : RegionTile) → takes raw label tile ≡ true → has_square (common_rect (touched label.area) tile.area) ≡ true
  common_has tile taken = (and_parts (suits_kind raw label.layer tile.plane tile.kind.0) (has_square (common_rect (touched label.area) tile.area)) taken).1

  -- a block that the label doesn't touch has no tile that it suits
  pub beaten_apart : (found : Option Attachment) → has_square (common_rect (touched label.area) block.area) ≡ false → IsBlockBeaten raw label block found
  beaten_apart found apart tile within taken =
      absurd (false≢true (sym apart ∙ in_wider (touched label.area) tile.area block.area within.inside (common_has tile taken)))

  -- nor has a block of a type that it doesn't suit
  pub beaten_unsuited : (found : Option Attachment) → block.uniform ≡ true → suits_kind raw label.layer block.plane block.kind.0 ≡ false
      → IsBlockBeaten raw label block found
  beaten_unsuited found uniform unsuited tile within taken =
      let alike = within.alike uniform in
      let suited = (and_parts (suits_kind raw label.layer tile.plane tile.kind.0) (has_square (common_rect (touched label.area) tile.area)) taken).0 in
      absurd (false≢true (sym unsuited ∙ (rw (sym alike.0, sym alike.1) suited)))

  -- and a block whose first place is no earlier than what was found
  pub beaten_later : (found : Attachment) (region : ℕ) → block.uniform ≡ true
      → stands_earlier (record { plane = block.plane; square = corner_of (common_rect (touched label.area) block.area); region = region }) found ≡ false
      → IsBlockBeaten raw label block (Some found)
  beaten_later found region uniform later tile within taken =
      let alike = within.alike uniform in
      let first : Attachment = record { plane = block.plane; square = corner_of (common_rect (touched label.area) block.area); region = region } in
      IsNoLater-trans (place_of found) (place_of first) (place_of (attachment_on label tile)) (stands_earlier-false first found later)
      (corner_later (touched label.area) tile.area block.area within.inside (common_has tile taken) block.plane tile.plane (sym alike.0))
