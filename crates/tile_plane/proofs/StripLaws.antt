-- Tiles that are wide in each row and tall in each column are strips, and the other way round.
use Rattle.tile_plane.proofs.Common.{◌≡◌, ℕ, ℤ, pos, ◌+ℤ◌, ◌-ℤ◌, ◌≤ℤ◌, ◌<ℤ◌, sym, ◌∙◌, subst, arith, ints, by_lt_z, Square, Covers, plane_range}
use Rattle.tile_plane.proofs.Common.{HasValue, IsRun, Tiles, tile_at, IsTaken, Owns, IsPartition, value_at, square_at, IsWideAt, AreStrips}
use Rattle.geo_core.specs.Planes.{IsTile}
use Rattle.tile_plane.proofs.HandLaws.{owned_in_range}
use Rattle.tile_plane.proofs.ValueLaws.{value_of_owner}

module _ (tiles : Tiles) (partition : IsPartition tiles) where
  -- a square of the field with a value, as the strips of that value see it
  abbrev pub HasIn : ℕ → Square → Type 0
  HasIn value square = HasValue (value_at tiles) value square × Covers plane_range square

  own_has : (id : ℕ) (square : Square) → Owns tiles id square → HasIn (tile_at tiles id).value square
  own_has id square owns = (value_of_owner tiles id square partition owns, owned_in_range tiles id square partition owns)

  -- the tile of such a square has the value
  has_own : (value : ℕ) (square : Square) → HasIn value square → (k : ℕ) × Owns tiles k square × ((tile_at tiles k).value ≡ value)
  has_own value square has =
      let owner = partition.whole square has.1 in
      (owner.0, owner.1, sym (value_of_owner tiles owner.0 square partition owner.1) ∙ has.0)

  -- In a wide row a run of a value is one tile.
  pub run_tile : (value : ℕ) (xlo xhi y : ℤ) → IsWideAt tiles y → IsRun (HasIn value) xlo xhi y
      → (k : ℕ) × Owns tiles k (square_at xlo y) × ((tile_at tiles k).value ≡ value) × ((tile_at tiles k).area.xlo ≡ xlo) × ((tile_at tiles k).area.xhi ≡ xhi)
  run_tile value xlo xhi y wide run =
      let long = run.long in
      let found = has_own value (square_at xlo y) (run.within xlo (omega (arith, ints)) long) in
      let k = found.0 in
      let c = found.1.covers in
      let has : (x : ℤ) → (tile_at tiles k).area.xlo ≤ℤ x → x <ℤ (tile_at tiles k).area.xhi → HasIn value (square_at x y)
      = λ x p q. subst (λ (v : ℕ). HasIn v (square_at x y)) found.2
      (own_has k (square_at x y) (record { covers = record { right_of_xlo = p; left_of_xhi = q; above_ylo = c.above_ylo; below_yhi = c.below_yhi } })) in
      let begin : (tile_at tiles k).area.xlo ≡ xlo = by_lt_z (tile_at tiles k).area.xlo xlo
      (λ less. absurd (run.left (has (xlo -ℤ pos 1) (omega (arith, ints)) (omega (arith, ints)))))
      (λ more. omega (arith, ints)) in
      let end : (tile_at tiles k).area.xhi ≡ xhi = by_lt_z (tile_at tiles k).area.xhi xhi
      (λ less.
      let e = (tile_at tiles k).area.xhi in
      let next = has_own value (square_at e y) (run.within e (omega (arith, ints)) less) in
      let at : e ≡ e -ℤ pos 1 +ℤ pos 1 = omega (arith, ints) in
      let mine : Owns tiles k (square_at (e -ℤ pos 1) y) =
      record {
        covers = record {
          right_of_xlo = omega (arith, ints);
          left_of_xhi = omega (arith, ints);
          above_ylo = c.above_ylo;
          below_yhi = c.below_yhi;
        };
      } in
      let same = wide.apart k next.0 (e -ℤ pos 1) mine (subst (λ (v : ℤ). Owns tiles next.0 (square_at v y)) at next.1) (found.2 ∙ sym next.2) in
      let d = (subst (λ (v : ℕ). Owns tiles v (square_at e y)) (sym same) next.1).covers in
      absurd (omega (arith, ints)))
      (λ more. by_lt_z xhi (tile_at tiles k).area.xhi
      (λ past. absurd (run.right (has xhi (omega (arith, ints)) past)))
      (λ no_more. omega (arith, ints))) in
      (k, found.1, found.2, begin, end)

  -- In a wide row the squares of a tile are a run of its value.
  pub row_run : (id : ℕ) (y : ℤ) → IsTaken tiles id → IsWideAt tiles y → (tile_at tiles id).area.ylo ≤ℤ y → y <ℤ (tile_at tiles id).area.yhi
      → IsRun (HasIn (tile_at tiles id).value) (tile_at tiles id).area.xlo (tile_at tiles id).area.xhi y
  row_run id y taken wide from to =
      let proper = taken.proper in
      let own : (x : ℤ) → (tile_at tiles id).area.xlo ≤ℤ x → x <ℤ (tile_at tiles id).area.xhi → Owns tiles id (square_at x y)
      = λ x p q. record { covers = record { right_of_xlo = p; left_of_xhi = q; above_ylo = from; below_yhi = to } } in
      record {
        long = proper.wide;
        within = λ x p q. own_has id (square_at x y) (own x p q);
        left = λ has.
            let found = has_own (tile_at tiles id).value _ has in
            let x = (tile_at tiles id).area.xlo -ℤ pos 1 in
            let mine : Owns tiles id (square_at (x +ℤ pos 1) y) = own (x +ℤ pos 1) (omega (arith, ints)) (omega (arith, ints)) in
            let same = wide.apart found.0 id x found.1 mine found.2 in
            let c = (subst (λ (v : ℕ). Owns tiles v (square_at x y)) same found.1).covers in
            omega (arith, ints);
        right = λ has.
            let found = has_own (tile_at tiles id).value _ has in
            let x = (tile_at tiles id).area.xhi -ℤ pos 1 in
            let at : (tile_at tiles id).area.xhi ≡ x +ℤ pos 1 = omega (arith, ints) in
            let mine : Owns tiles id (square_at x y) = own x (omega (arith, ints)) (omega (arith, ints)) in
            let same = wide.apart id found.0 x mine (subst (λ (v : ℤ). Owns tiles found.0 (square_at v y)) at found.1) (sym found.2) in
            let c = (subst (λ (v : ℕ). Owns tiles v (square_at (tile_at tiles id).area.xhi y)) (sym same) found.1).covers in
            omega (arith, ints);
      }

  -- Where all rows are wide and all columns tall, a tile is a strip of its value.
  pub tile_strip : (id : ℕ) → IsTaken tiles id → AreStrips tiles
      → IsTile (value_at tiles) (record { area = (tile_at tiles id).area; value = (tile_at tiles id).value })
  tile_strip id taken strips =
      let proper = taken.proper in
      let value = (tile_at tiles id).value in
      let xlo = (tile_at tiles id).area.xlo in
      let xhi = (tile_at tiles id).area.xhi in
      let own : (y : ℤ) → (tile_at tiles id).area.ylo ≤ℤ y → y <ℤ (tile_at tiles id).area.yhi → Owns tiles id (square_at xlo y)
      = λ y p q. record { covers = record { right_of_xlo = omega (arith, ints); left_of_xhi = proper.wide; above_ylo = p; below_yhi = q } } in
      record {
        high = proper.high;
        runs = λ y from to. row_run id y taken (strips.wide y) from to;
        below = λ run.
            let y = (tile_at tiles id).area.ylo -ℤ pos 1 in
            let found = run_tile value xlo xhi y (strips.wide y) run in
            let mine : Owns tiles id (square_at xlo (y +ℤ pos 1)) = own (y +ℤ pos 1) (omega (arith, ints)) (omega (arith, ints)) in
            let same = (strips.tall xlo y).apart found.0 id found.1 mine found.3 found.4 found.2 in
            let c = (subst (λ (v : ℕ). Owns tiles v (square_at xlo y)) same found.1).covers in
            omega (arith, ints);
        above = λ run.
            let y = (tile_at tiles id).area.yhi -ℤ pos 1 in
            let at : (tile_at tiles id).area.yhi ≡ y +ℤ pos 1 = omega (arith, ints) in
            let found = run_tile value xlo xhi (tile_at tiles id).area.yhi (strips.wide (tile_at tiles id).area.yhi) run in
            let mine : Owns tiles id (square_at xlo y) = own y (omega (arith, ints)) (omega (arith, ints)) in
            let same = (strips.tall xlo y).apart id found.0 mine (subst (λ (v : ℤ). Owns tiles found.0 (square_at xlo v)) at found.1) (sym found.3)
            (sym found.4) (sym found.2) in
            let c = (subst (λ (v : ℕ). Owns tiles v (square_at xlo (tile_at tiles id).area.yhi)) (sym same) found.1).covers in
            omega (arith, ints);
      }
