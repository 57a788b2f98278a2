-- Two tiles of a column, one upon the other: whether they may be joined, and what they are once they are.
use Rattle.tile_plane.proofs.Common.{◌≡◌, ℕ, ℤ, pos, ◌+ℤ◌, ◌≤ℤ◌, ◌<ℤ◌, sym, ◌∙◌, ap, subst, arith, ints, Rect, Square, Covers, IsProper, plane_range}
use Rattle.tile_plane.proofs.Common.{Tile, Tiles, tile_at, IsTaken, Owns, IsPartition, HasStitches, square_above, square_below, square_at}
use Rattle.tile_plane.proofs.Common.{IsJoinedUp, IsTallAt, AreGrown}
use Rattle.tile_plane.proofs.TileLaws.{owner_taken}
use Rattle.tile_plane.proofs.BesideLaws.{next_above, next_below}
use Rattle.tile_plane.proofs.KeepLaws.{join_grows, tall_in_one, upon_begins, under_ends}

-- the second tile begins where the first ends
pub record IsUpon (tiles : Tiles) (lower upper : ℕ) : Type 0 where
  pub taken : IsTaken tiles lower
  pub other_taken : IsTaken tiles upper
  pub meet : (tile_at tiles upper).area.ylo ≡ (tile_at tiles lower).area.yhi

-- both have the same columns and one value
pub record AreJoinable (tiles : Tiles) (lower upper : ℕ) : Type 0 where
  pub low : (tile_at tiles upper).area.xlo ≡ (tile_at tiles lower).area.xlo
  pub high : (tile_at tiles upper).area.xhi ≡ (tile_at tiles lower).area.xhi
  pub value : (tile_at tiles upper).value ≡ (tile_at tiles lower).value

-- what is told of the two tiles that were read
module _ (tiles : Tiles) (lower upper : ℕ) (tile other : Tile) (is : tile ≡ tile_at tiles lower) (is_other : other ≡ tile_at tiles upper) where
  pub joinable_as_read : (tile.area.xlo ≡ other.area.xlo) × (tile.area.xhi ≡ other.area.xhi) × (tile.value ≡ other.value) → AreJoinable tiles lower upper
  joinable_as_read alike = record {
    low = sym (ap (λ (t : Tile). t.area.xlo) is_other) ∙ sym alike.0 ∙ ap (λ (t : Tile). t.area.xlo) is;
    high = sym (ap (λ (t : Tile). t.area.xhi) is_other) ∙ sym alike.1 ∙ ap (λ (t : Tile). t.area.xhi) is;
    value = sym (ap (λ (t : Tile). t.value) is_other) ∙ sym alike.2 ∙ ap (λ (t : Tile). t.value) is;
  }

  pub unlike_as_read : (tile.area.xlo ≡ other.area.xlo → tile.area.xhi ≡ other.area.xhi → tile.value ≡ other.value → ⊥)
      → (tile_at tiles lower).area.xlo ≡ (tile_at tiles upper).area.xlo → (tile_at tiles lower).area.xhi ≡ (tile_at tiles upper).area.xhi
      → (tile_at tiles lower).value ≡ (tile_at tiles upper).value → ⊥
  unlike_as_read unlike low high value = unlike
      (ap (λ (t : Tile). t.area.xlo) is ∙ low ∙ sym (ap (λ (t : Tile). t.area.xlo) is_other))
      (ap (λ (t : Tile). t.area.xhi) is ∙ high ∙ sym (ap (λ (t : Tile). t.area.xhi) is_other))
      (ap (λ (t : Tile). t.value) is ∙ value ∙ sym (ap (λ (t : Tile). t.value) is_other))

-- the tiles to which the stitches at the ends of a tile lead stand upon it and under it
module _ (tiles : Tiles) (id : ℕ) (tile : Tile) (partition : IsPartition tiles) (stitches : HasStitches tiles) (taken : IsTaken tiles id)
    (is : tile ≡ tile_at tiles id) where
  pub owner_above : (tile_at tiles id).area.yhi <ℤ plane_range.yhi → Owns tiles tile.above (square_above (tile_at tiles id))
  owner_above inside = rw is (next_above tiles id partition stitches taken inside)

  pub stands_upon : (tile_at tiles id).area.yhi <ℤ plane_range.yhi → IsUpon tiles id tile.above
  stands_upon inside = record {
    taken = taken;
    other_taken = owner_taken tiles tile.above _ (owner_above inside);
    meet = rw is (upon_begins tiles id partition stitches taken inside);
  }

  pub owner_below : plane_range.ylo <ℤ (tile_at tiles id).area.ylo → Owns tiles tile.below (square_below (tile_at tiles id))
  owner_below inside = rw is (next_below tiles id partition stitches taken inside)

  pub stands_under : plane_range.ylo <ℤ (tile_at tiles id).area.ylo → IsUpon tiles tile.below id
  stands_under inside = record {
    taken = owner_taken tiles tile.below _ (owner_below inside);
    other_taken = taken;
    meet = rw is (sym (under_ends tiles id partition stitches taken inside));
  }

-- once the second is joined to the first
module _ {old new : Tiles} {lower upper : ℕ} (upon : IsUpon old lower upper) (joinable : AreJoinable old lower upper)
    (joined : IsJoinedUp lower upper old new) where
  pub joined_grow : AreGrown old new
  joined_grow = join_grows old new lower upper upon.taken upon.other_taken upon.meet joinable.low joinable.high joinable.value joined

  joined_owns : (s : Square) → Covers (record (tile_at old lower).area { yhi = (tile_at old upper).area.yhi }) s → Owns new lower s
  joined_owns s covers = record { covers = subst (λ (r : Rect). Covers r s) (sym joined.whole) covers }

  pub upper_goes : (s : Square) → Owns old upper s → Owns new lower s
  upper_goes s owns =
      let meet = upon.meet in
      let low = joinable.low in
      let high = joinable.high in
      let proper = upon.taken.proper in
      let covers = owns.covers in
      joined_owns s (omega (arith, ints))

  pub joined_taken : IsTaken new lower
  joined_taken = record {
    proper = subst IsProper (sym joined.whole)
        (let meet = upon.meet in let proper = upon.taken.proper in let more = upon.other_taken.proper in omega (arith, ints));
  }

  -- a column of both is tall where they met
  pub joined_tall : (x y : ℤ) → IsPartition new → (tile_at old lower).area.yhi ≡ y +ℤ pos 1 → (tile_at old lower).area.xlo ≤ℤ x
      → x <ℤ (tile_at old lower).area.xhi → IsTallAt new x y
  joined_tall x y partition ends low high =
      let meet = upon.meet in
      let proper = upon.taken.proper in
      let more = upon.other_taken.proper in
      tall_in_one new x y lower partition (joined_owns (square_at x y) (omega (arith, ints))) (joined_owns (square_at x (y +ℤ pos 1)) (omega (arith, ints)))
