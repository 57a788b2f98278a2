use Rattle.tile_plane.proofs.Common.{◌≡◌, true, false, ℕ, Option, ℤ, ◌≤ℤ◌, ◌<ℤ◌, FitsSigned, w64, to_z, of_z, [], refl, sym, ◌∙◌, ap, subst, arith}
use Rattle.tile_plane.proofs.Common.{rules, unwrap_or, ints, clamps, to_z-of_z, append-nil, Tile, tile_at, IsTaken, low_row}
use Rattle.std.specs.Int.{int_max, int_min}
use lib.Signed.{lt_z, le_z}
use Rattle.tile_plane.proofs.TileLaws.{owner_taken}
use Rattle.tile_plane.proofs.FollowerLaws.{hint_taken, next_taken, no_followers, adding_begins, adding_goes_on, adding_passes, adding_falls, adding_ends}
use Rattle.tile_plane.proofs.listings.push_followers.Goals as goal
use Rattle.tile_plane.proofs.listings.push_followers.Goals.{
  Else-area-tile,
  After-min-top,
  After-max-low,
  After-max-y,
  else-low-y-via-then-low-y+else-y-area,
  else-low-y-via-else-low-y,
}

-- the greater of two numbers in bits
max_in_bits : (m a b x : ℤ) → FitsSigned w64 m → FitsSigned w64 a → FitsSigned w64 b → m ≡ int_max (to_z w64 (of_z w64 a)) (to_z w64 (of_z w64 b)) → a ≡ x
    → to_z w64 (of_z w64 m) ≡ int_max x b
max_in_bits m a b x p q r is same =
    to_z-of_z w64 m p ∙ is ∙ ap (λ (z : ℤ). int_max z (to_z w64 (of_z w64 b))) (to_z-of_z w64 a q ∙ same) ∙ ap (λ (z : ℤ). int_max x z) (to_z-of_z w64 b r)

-- the lesser
min_in_bits : (m a b x : ℤ) → FitsSigned w64 m → FitsSigned w64 a → FitsSigned w64 b → m ≡ int_min (to_z w64 (of_z w64 a)) (to_z w64 (of_z w64 b)) → a ≡ x
    → to_z w64 (of_z w64 m) ≡ int_min x b
min_in_bits m a b x p q r is same =
    to_z-of_z w64 m p ∙ is ∙ ap (λ (z : ℤ). int_min z (to_z w64 (of_z w64 b))) (to_z-of_z w64 a q ∙ same) ∙ ap (λ (z : ℤ). int_min x z) (to_z-of_z w64 b r)

-- tests of numbers that are equal to these
is_less : (a b x y : ℤ) → a ≡ x → b ≡ y → lt_z a b ≡ true → x <ℤ y
is_less a b x y p q test = omega (arith, ints)

is_at_most : (a b x y : ℤ) → a ≡ x → b ≡ y → le_z a b ≡ true → x ≤ℤ y
is_at_most a b x y p q test = omega (arith, ints)

is_not_less : (a b x y : ℤ) → a ≡ x → b ≡ y → lt_z a b ≡ false → x <ℤ y → ⊥
is_not_less a b x y p q test less = omega (arith, ints)

is_not_at_most : (a b x y : ℤ) → a ≡ x → b ≡ y → le_z a b ≡ false → x ≤ℤ y → ⊥
is_not_at_most a b x y p q test most = omega (arith, ints)

is_past : (a b x y : ℤ) → a ≡ y → b ≡ x → le_z a b ≡ false → x <ℤ y
is_past a b x y p q test = omega (arith, ints)

no_more : (l low y : ℤ) → l ≡ low → lt_z l y ≡ false → y ≤ℤ low
no_more l low y same test = omega (arith, ints)

-- the tile ends before the area does
inside : (c : Else-area-tile) → (tile_at c.args.store.now c.args.id).area.xhi <ℤ c.args.area.now.xhi
inside c =
    let area = c.args.area.now in
    is_past (to_z w64 (of_z w64 area.xhi)) (to_z w64 (of_z w64 c.get-tile.result.area.xhi)) (tile_at c.args.store.now c.args.id).area.xhi area.xhi
    (to_z-of_z w64 area.xhi (search rules))
    (to_z-of_z w64 c.get-tile.result.area.xhi (search rules) ∙ ap (λ (t : Tile). t.area.xhi) c.get-tile.ensures) c.if-area-tile.false

top_is : (c : After-min-top) → to_z w64 (of_z w64 c.min-top.result) ≡ int_min (tile_at c.args.store.now c.args.id).area.yhi c.args.area.now.yhi
top_is c = min_in_bits c.min-top.result c.get-tile.result.area.yhi c.args.area.now.yhi (tile_at c.args.store.now c.args.id).area.yhi
    (search rules) (search rules) (search rules) c.min-top.ensures.value (ap (λ (t : Tile). t.area.yhi) c.get-tile.ensures)

low_is : (c : After-max-low) → to_z w64 (of_z w64 c.max-low.result) ≡ low_row c.args.store.now c.args.area.now c.args.id
low_is c = max_in_bits c.max-low.result c.get-tile.result.area.ylo c.args.area.now.ylo (tile_at c.args.store.now c.args.id).area.ylo
    (search rules) (search rules) (search rules) c.max-low.ensures.value (ap (λ (t : Tile). t.area.ylo) c.get-tile.ensures)

row_is : (c : After-max-y) → to_z w64 (of_z w64 c.max-y.result) ≡ low_row c.args.store.now c.args.area.now c.loop-y.next
row_is c = max_in_bits c.max-y.result c.get-follower.result.area.ylo c.args.area.now.ylo (tile_at c.args.store.now c.loop-y.next).area.ylo
    (search rules) (search rules) (search rules) c.max-y.ensures.value (ap (λ (t : Tile). t.area.ylo) c.get-follower.ensures)

pub returns-then-area-tile : goal.returns-then-area-tile
returns-then-area-tile c =
    let tiles = c.args.store.now in
    let area = c.args.area.now in
    let is = ap (λ (t : Tile). t.area.xhi) c.get-tile.ensures in
    let test = c.if-area-tile.true in
    let past : area.xhi ≤ℤ (tile_at tiles c.args.id).area.xhi = omega (arith, ints) in
    record {
      more = [];
      lists = no_followers tiles area c.requires.partition c.requires.stitches c.requires.near c.args.id c.requires.meets past;
      joined = sym (append-nil c.args.found.now.items);
    }

pub right_below-next-requires-clause-taken : goal.right_below-next-requires-clause-taken
right_below-next-requires-clause-taken c =
    owner_taken _ _ _ c.requires.meets.owns

pub right_below-next-requires-clause-hint : goal.right_below-next-requires-clause-hint
right_below-next-requires-clause-hint c =
    let last = owner_taken _ _ _ c.requires.meets.owns in
    let taken = hint_taken c.args.store.now c.args.hints.now c.len.result c.get.result c.args.id c.requires.hints c.get.ensures.lookup last in
    subst (IsTaken c.args.store.now) (sym (c.unwrap_or-hint.ensures ∙ ap (λ (v : Option ℕ). unwrap_or v c.args.id) c.copied.ensures)) taken

pub right_below-next-requires-clause-inside : goal.right_below-next-requires-clause-inside
right_below-next-requires-clause-inside c =
    let before = inside (goal.at.right_below-next-requires-clause-inside c).Else-area-tile in
    let near = c.requires.near.xhi.1 in
    omega (arith, ints)

pub right_below-next-requires-clause-from : goal.right_below-next-requires-clause-from
right_below-next-requires-clause-from c =
    let at = top_is (goal.at.right_below-next-requires-clause-from c).After-min-top in
    let covers = c.requires.meets.covers in
    let mine = c.requires.meets.owns.covers in
    omega (arith, ints, clamps, at)

pub right_below-next-requires-clause-to : goal.right_below-next-requires-clause-to
right_below-next-requires-clause-to c =
    let at = top_is (goal.at.right_below-next-requires-clause-to c).After-min-top in
    omega (arith, ints, clamps, at)

pub loop-y-init : goal.loop-y-init
loop-y-init c =
    let at = goal.at.loop-y-init c in
    adding_begins c.requires.partition c.requires.stitches c.requires.near c.requires.meets (inside at.Else-area-tile)
    (to_z w64 (of_z w64 c.min-top.result)) c.right_below-next.result (top_is at.After-min-top) c.right_below-next.ensures

pub get-follower-requires : goal.get-follower-requires
get-follower-requires c =
    let at = goal.at.get-follower-requires c in
    let low = low_is at.After-max-low in
    let test = c.loop-y-test.true in
    next_taken c.args.store.now c.args.area.now c.requires.partition c.requires.stitches c.requires.near c.args.id c.requires.meets (inside at.Else-area-tile)
    (to_z w64 c.loop-y.y-bits) c.loop-y.next c.loop-y.invariant.more c.loop-y.invariant.from (omega (arith, ints, low))

pub loop-y-smaller-in_ok-push : goal.loop-y-smaller-in_ok-push
loop-y-smaller-in_ok-push c =
    let at = goal.at.loop-y-smaller-in_ok-push c in
    let low = low_is at.After-max-low in
    let test = c.loop-y-test.true in
    adding_falls c.requires.partition c.requires.stitches c.requires.near c.requires.meets (inside at.Else-area-tile) c.loop-y.invariant
    (omega (arith, ints, low)) (row_is at.After-max-y) (ap (λ (t : Tile). t.below) c.get-follower.ensures)

pub loop-y-preserved-in_ok-push : goal.loop-y-preserved-in_ok-push
loop-y-preserved-in_ok-push c =
    let at = goal.at.loop-y-preserved-in_ok-push c in
    let area = c.args.area.now in
    let low = low_is at.After-max-low in
    let h = to_z w64 (of_z w64 c.max-y.result) in
    let test = c.loop-y-test.true in
    adding_goes_on c.requires.partition c.requires.stitches c.requires.near c.requires.meets (inside at.Else-area-tile) c.loop-y.invariant
    (omega (arith, ints, low)) (row_is at.After-max-y) (ap (λ (t : Tile). t.below) c.get-follower.ensures)
    c.push.new.self.items c.in_ok-push.ensures.items
    (is_at_most (to_z w64 (of_z w64 c.max-low.result)) h (low_row c.args.store.now area c.args.id) h low refl c.if-low-y.true)
    (is_less h (to_z w64 (of_z w64 area.yhi)) h area.yhi refl (to_z-of_z w64 area.yhi (search rules)) c.if-y-area.true)

pub loop-y-smaller : goal.loop-y-smaller
loop-y-smaller c =
    let at = goal.at.loop-y-smaller c in
    let low = low_is at.After-max-low in
    let test = c.loop-y-test.true in
    adding_falls c.requires.partition c.requires.stitches c.requires.near c.requires.meets (inside at.Else-area-tile) c.loop-y.invariant
    (omega (arith, ints, low)) (row_is at.After-max-y) (ap (λ (t : Tile). t.below) c.get-follower.ensures)

pub loop-y-preserved : goal.loop-y-preserved
loop-y-preserved c =
    let at = goal.at.loop-y-preserved c in
    let area = c.args.area.now in
    let low = low_is at.After-max-low in
    let h = to_z w64 (of_z w64 c.max-y.result) in
    let test = c.loop-y-test.true in
    adding_passes c.requires.partition c.requires.stitches c.requires.near c.requires.meets (inside at.Else-area-tile) c.loop-y.invariant
    (omega (arith, ints, low)) (row_is at.After-max-y) (ap (λ (t : Tile). t.below) c.get-follower.ensures)
    (λ at_low under. elim c.else-low-y.branch [
      | else-low-y-via-then-low-y+else-y-area w ↦ is_not_less h (to_z w64 (of_z w64 area.yhi)) h area.yhi refl
          (to_z-of_z w64 area.yhi (search rules)) w.if-y-area.false under
      | else-low-y-via-else-low-y w ↦ is_not_at_most (to_z w64 (of_z w64 c.max-low.result)) h (low_row c.args.store.now area c.args.id) h low refl
          w.if-low-y.false at_low
    ])

pub returns : goal.returns
returns c =
    let at = goal.at.returns c in
    adding_ends c.requires.partition c.requires.stitches c.requires.near c.requires.meets (inside at.Else-area-tile) c.loop-y.invariant
    (no_more (to_z w64 (of_z w64 c.max-low.result)) (low_row c.args.store.now c.args.area.now c.args.id) (to_z w64 c.loop-y.y-bits)
    (low_is at.After-max-low) c.loop-y-test.false)
