-- A plane of one tile, as large as the range of planes.
use Rattle.tile_plane.proofs.Common.{◌≡◌, inl, inr, ℕ, pos, ◌<ℤ◌, sym, ◌∙◌, ap, subst, arith, nat_cmp, cases_eq, ints, Square, Rect, LiesWithin}
use Rattle.tile_plane.proofs.Common.{Covers, IsProper, plane_range, Tile, Tiles, no_tile, tile_if, tile_at, IsTaken, IsPartition, HasStitches, IsPut}
use Rattle.tile_plane.proofs.Common.{value_at, AreStrips, IsPlane}
use Rattle.std.specs.FinMap as fin_map
use Rattle.tile_plane.proofs.HandLaws.{covers_or_not}
use Rattle.tile_plane.proofs.ValueLaws.{value_of_owner, value_off_range}
use Rattle.tile_plane.proofs.TileLaws.{owner_taken}

module _ (tiles : Tiles) (id : ℕ) (tile : Tile) (put : IsPut id tile fin_map.empty tiles) (whole : tile.area ≡ plane_range) where
  area : (tile_at tiles id).area ≡ plane_range
  area = ap (λ (t : Tile). t.area) put.here ∙ whole

  only : (k : ℕ) → IsTaken tiles k → k ≡ id
  only k taken = elim (cases_eq k id) [
    | inl e ↦ e
    | inr n ↦ (
        let proper : IsProper no_tile.area = subst (λ (t : Tile). IsProper t.area) (put.others k n ∙ ap tile_if (fin_map.get-empty nat_cmp k)) taken.proper in
        let wide : pos 0 <ℤ pos 0 = proper.wide in
        absurd (omega (arith, ints)))
  ]

  pub first_taken : IsTaken tiles id
  first_taken = record { proper = subst IsProper (sym area) (record { wide = omega (arith, ints); high = omega (arith, ints) }) }

  pub first_partition : IsPartition tiles
  first_partition = record {
    one = λ a b s p q. only a (owner_taken tiles a s p) ∙ sym (only b (owner_taken tiles b s q));
    whole = λ s inside. (id, record { covers = subst (λ (r : Rect). Covers r s) (sym area) inside });
    within = λ k taken. subst (λ (v : ℕ). LiesWithin (tile_at tiles v).area plane_range) (sym (only k taken))
        (subst (λ (r : Rect). LiesWithin r plane_range) (sym area) (record {
          right_of_xlo = omega (arith, ints);
          above_ylo = omega (arith, ints);
          left_of_xhi = omega (arith, ints);
          below_yhi = omega (arith, ints);
        }));
  }

  whole_area : (k : ℕ) → IsTaken tiles k → (tile_at tiles k).area ≡ plane_range
  whole_area k taken = ap (λ (v : ℕ). (tile_at tiles v).area) (only k taken) ∙ area

  pub first_stitches : HasStitches tiles
  first_stitches = record {
    above = λ k taken inside. (let e = ap (λ (r : Rect). r.yhi) (whole_area k taken) in let h = inside.below_yhi in absurd (omega (arith, ints)));
    right = λ k taken inside. (let e = ap (λ (r : Rect). r.xhi) (whole_area k taken) in let h = inside.left_of_xhi in absurd (omega (arith, ints)));
    below = λ k taken inside. (let e = ap (λ (r : Rect). r.ylo) (whole_area k taken) in let h = inside.above_ylo in absurd (omega (arith, ints)));
    left = λ k taken inside. (let e = ap (λ (r : Rect). r.xlo) (whole_area k taken) in let h = inside.right_of_xlo in absurd (omega (arith, ints)));
  }

  pub first_strips : AreStrips tiles
  first_strips = record {
    wide = λ y. record { apart = λ a b x p q same. only a (owner_taken tiles a _ p) ∙ sym (only b (owner_taken tiles b _ q)) };
    tall = λ x y. record { apart = λ a b p q low high same. only a (owner_taken tiles a _ p) ∙ sym (only b (owner_taken tiles b _ q)) };
  }

  pub first_values : tile.value ≡ 0 → (square : Square) → value_at tiles square ≡ 0
  first_values none square = elim (covers_or_not plane_range square) [
    | inl inside ↦ value_of_owner tiles id square first_partition (record { covers = subst (λ (r : Rect). Covers r square) (sym area) inside })
        ∙ ap (λ (t : Tile). t.value) put.here ∙ none
    | inr off ↦ value_off_range tiles square first_partition off
  ]

  pub first_plane : tile.value ≡ 0 → IsPlane tiles
  first_plane none = record {
    partition = first_partition;
    stitches = first_stitches;
    strips = first_strips;
    space = λ square some. absurd (some (first_values none square));
  }
