-- After a piece is set and its rows are wide, only three columns can have tiles that are to be joined.
use Rattle.tile_plane.proofs.Common.{◌≡◌, ◌⊎◌, inl, inr, ℕ, ℤ, pos, ◌+ℤ◌, ◌-ℤ◌, ◌≤ℤ◌, ◌<ℤ◌, refl, sym, ◌∙◌, subst, arith, ints, by_lt_z, Square}
use Rattle.tile_plane.proofs.Common.{Rect, Piece, LiesWithin, Covers, IsProper, plane_range, IsRun, Tiles, tile_at, Owns, IsPartition, value_at}
use Rattle.tile_plane.proofs.Common.{square_at, IsTallAt, AreStrips, AreGrown, AreColumnsTall, IsBanded}
use Rattle.tile_plane.specs.steps.Bands.{IsAtColumn}
use Rattle.tile_plane.proofs.TileLaws.{owner_taken}
use Rattle.tile_plane.proofs.StripLaws.{HasIn, row_run, run_tile}
use Rattle.tile_plane.proofs.ValueLaws.{value_of_owner}
use Rattle.tile_plane.proofs.KeepLaws.{wide_kept}

module _ (piece : Piece) (old new : Tiles) (p : IsPartition old) (q : IsPartition new) (strips : AreStrips old) (banded : IsBanded piece old new)
    (near : LiesWithin piece.area plane_range) where
  -- off the piece nothing has changed
  same_off : (s : Square) → (Covers piece.area s → ⊥) → value_at new s ≡ value_at old s
  same_off s off = banded.set.others s (λ other i covers. elim i [
    | inl e ↦ off (subst (λ (r : Piece). Covers r.area s) (sym e) covers)
    | inr none ↦ none
  ])

  -- a run whose squares and whose neighbours are off the piece was one before
  run_before : (value : ℕ) (xlo xhi y : ℤ) → ((x : ℤ) → (xlo -ℤ pos 1) ≤ℤ x → x ≤ℤ xhi → Covers piece.area (square_at x y) → ⊥)
      → IsRun (HasIn new q value) xlo xhi y → IsRun (HasIn old p value) xlo xhi y
  run_before value xlo xhi y off run =
      let long = run.long in
      record {
        long = run.long;
        within = λ x from to. (let h = run.within x from to in (sym (same_off (square_at x y) (off x (omega (arith, ints)) (omega (arith, ints)))) ∙ h.0, h.1));
        left = λ has. run.left (same_off (square_at (xlo -ℤ pos 1) y) (off (xlo -ℤ pos 1) (omega (arith, ints)) (omega (arith, ints))) ∙ has.0, has.1);
        right = λ has. run.right (same_off (square_at xhi y) (off xhi (omega (arith, ints)) (omega (arith, ints))) ∙ has.0, has.1);
      }

  -- two tiles of the same columns and value, off the piece in both rows with what is beside them, were parts of one tile
  one_before : (a b : ℕ) (x y : ℤ) → Owns new a (square_at x y) → Owns new b (square_at x (y +ℤ pos 1)) → (tile_at new a).area.xlo ≡ (tile_at new b).area.xlo
      → (tile_at new a).area.xhi ≡ (tile_at new b).area.xhi
      → (tile_at new a).value ≡ (tile_at new b).value
      → ((c : ℤ) → ((tile_at new a).area.xlo -ℤ pos 1) ≤ℤ c → c ≤ℤ (tile_at new a).area.xhi → Covers piece.area (square_at c y) → ⊥)
      → ((c : ℤ) → ((tile_at new a).area.xlo -ℤ pos 1) ≤ℤ c → c ≤ℤ (tile_at new a).area.xhi → Covers piece.area (square_at c (y +ℤ pos 1)) → ⊥)
      → (j : ℕ) × Owns old j (square_at x y) × Owns old j (square_at x (y +ℤ pos 1)) × ((tile_at old j).area.xlo ≡ (tile_at new a).area.xlo)
      × ((tile_at old j).area.xhi ≡ (tile_at new a).area.xhi)
  one_before a b x y r s low high value off off_above =
      let c = r.covers in
      let d = s.covers in
      let xlo = (tile_at new a).area.xlo in
      let xhi = (tile_at new a).area.xhi in
      let first = row_run new q a y (owner_taken new a _ r) (banded.wide y) c.above_ylo c.below_yhi in
      let second = row_run new q b (y +ℤ pos 1) (owner_taken new b _ s) (banded.wide (y +ℤ pos 1)) d.above_ylo d.below_yhi in
      let second' : IsRun (HasIn new q (tile_at new a).value) xlo xhi (y +ℤ pos 1) = subst (λ (v : ℕ). IsRun (HasIn new q v) xlo xhi (y +ℤ pos 1)) (sym value)
      (subst (λ (v : ℤ). IsRun (HasIn new q (tile_at new b).value) v xhi (y +ℤ pos 1)) (sym low)
      (subst (λ (v : ℤ). IsRun (HasIn new q (tile_at new b).value) (tile_at new b).area.xlo v (y +ℤ pos 1)) (sym high) second)) in
      let f = run_tile old p (tile_at new a).value xlo xhi y (strips.wide y) (run_before _ xlo xhi y off first) in
      let g = run_tile old p (tile_at new a).value xlo xhi (y +ℤ pos 1) (strips.wide (y +ℤ pos 1)) (run_before _ xlo xhi (y +ℤ pos 1) off_above second') in
      let same = (strips.tall xlo y).apart f.0 g.0 f.1 g.1 (f.3 ∙ sym g.3) (f.4 ∙ sym g.4) (f.2 ∙ sym g.2) in
      let fc = f.1.covers in
      let gc = (subst (λ (v : ℕ). Owns old v (square_at xlo (y +ℤ pos 1))) (sym same) g.1).covers in
      let begin = f.3 in
      let end = f.4 in (
        f.0,
        record {
          covers = record { right_of_xlo = omega (arith, ints); left_of_xhi = omega (arith, ints); above_ylo = fc.above_ylo; below_yhi = fc.below_yhi };
        },
        record {
          covers = record { right_of_xlo = omega (arith, ints); left_of_xhi = omega (arith, ints); above_ylo = gc.above_ylo; below_yhi = gc.below_yhi };
        },
        f.3,
        f.4,
      )

  -- rows that both lie off the piece
  pub tall_off_rows : (x y : ℤ) → ((y +ℤ pos 1) <ℤ piece.area.ylo) ⊎ (piece.area.yhi ≤ℤ y) → IsTallAt new x y
  tall_off_rows x y off = record {
    apart = λ a b r s low high value.
        let out : (c : ℤ) → Covers piece.area (square_at c y) → ⊥ = λ c covers. elim off [ inl less ↦ omega (arith, ints) | inr more ↦ omega (arith, ints) ] in
        let out_above : (c : ℤ) → Covers piece.area (square_at c (y +ℤ pos 1))
        → ⊥ = λ c covers. elim off [ inl less ↦ omega (arith, ints) | inr more ↦ omega (arith, ints) ] in
        let j = one_before a b x y r s low high value (λ c from to. out c) (λ c from to. out_above c) in
        let k = banded.kept.rows j.0 x y off j.1 j.2 in
        q.one a k.0 (square_at x y) r k.1 ∙ sym (q.one b k.0 (square_at x (y +ℤ pos 1)) s k.2);
  }

  -- tiles that lie apart from the columns of the piece and of what is beside it
  pub apart_far : (a b : ℕ) (x y : ℤ) → Owns new a (square_at x y) → Owns new b (square_at x (y +ℤ pos 1))
      → (tile_at new a).area.xlo ≡ (tile_at new b).area.xlo → (tile_at new a).area.xhi ≡ (tile_at new b).area.xhi
      → (tile_at new a).value ≡ (tile_at new b).value → ((tile_at new a).area.xhi <ℤ piece.area.xlo) ⊎ (piece.area.xhi <ℤ (tile_at new a).area.xlo) → a ≡ b
  apart_far a b x y r s low high value off =
      let out : (h c : ℤ) → ((tile_at new a).area.xlo -ℤ pos 1) ≤ℤ c → c ≤ℤ (tile_at new a).area.xhi → Covers piece.area (square_at c h) → ⊥
      = λ h c from to covers. elim off [ inl less ↦ omega (arith, ints) | inr more ↦ omega (arith, ints) ] in
      let j = one_before a b x y r s low high value (out y) (out (y +ℤ pos 1)) in
      let begin = j.3 in
      let end = j.4 in
      let area = banded.kept.far j.0 (owner_taken old j.0 _ j.1) (elim off [ inl less ↦ inl (omega (arith, ints)) | inr more ↦ inr (omega (arith, ints)) ]) in
      let here : Owns new j.0 (square_at x y) = record { covers = subst (λ (v : Rect). Covers v (square_at x y)) (sym area) j.1.covers } in
      let above : Owns new j.0 (square_at x (y +ℤ pos 1)) =
      record { covers = subst (λ (v : Rect). Covers v (square_at x (y +ℤ pos 1))) (sym area) j.2.covers } in
      q.one a j.0 (square_at x y) r here ∙ sym (q.one b j.0 (square_at x (y +ℤ pos 1)) s above)

  -- in a row of the piece no tile begins in it past its first column and ends before its last
  not_inside : IsProper piece.area → (a : ℕ) (x y : ℤ) → Owns new a (square_at x y) → piece.area.ylo ≤ℤ y → y <ℤ piece.area.yhi
      → piece.area.xlo <ℤ (tile_at new a).area.xlo → (tile_at new a).area.xhi ≤ℤ piece.area.xhi → ⊥
  not_inside proper a x y r from to left right =
      let c = r.covers in
      let xlo = (tile_at new a).area.xlo in
      let before = xlo -ℤ pos 1 in
      let mine : Owns new a (square_at xlo y) =
      record {
        covers = record {
          right_of_xlo = omega (arith, ints);
          left_of_xhi = omega (arith, ints);
          above_ylo = c.above_ylo;
          below_yhi = c.below_yhi;
        };
      } in
      let within = q.within a (owner_taken new a _ r) in
      let other = q.whole (square_at before y)
      (record {
        right_of_xlo = (let bound = near.right_of_xlo in omega (arith, ints));
        left_of_xhi = omega (arith, ints);
        above_ylo = omega (arith, ints);
        below_yhi = omega (arith, ints);
      }) in
      let in_piece : Covers piece.area (square_at before y) =
      record { right_of_xlo = omega (arith, ints); left_of_xhi = omega (arith, ints); above_ylo = from; below_yhi = to } in
      let at_piece : Covers piece.area (square_at xlo y) =
      record { right_of_xlo = omega (arith, ints); left_of_xhi = omega (arith, ints); above_ylo = from; below_yhi = to } in
      let v = banded.set.set piece (inl refl) (square_at before y) in_piece in
      let w = banded.set.set piece (inl refl) (square_at xlo y) at_piece in
      let same = sym (value_of_owner new other.0 (square_at before y) q other.1) ∙ v ∙ sym w ∙ value_of_owner new a (square_at xlo y) q mine in
      let at : xlo ≡ before +ℤ pos 1 = omega (arith, ints) in
      let one = (banded.wide y).apart other.0 a before other.1 (subst (λ (z : ℤ). Owns new a (square_at z y)) at mine) same in
      let d = (subst (λ (k : ℕ). Owns new k (square_at before y)) one other.1).covers in
      omega (arith, ints)

  -- so two tiles that are to be joined lie at one of three columns
  pub only_columns : IsProper piece.area → (a b : ℕ) (x y : ℤ) → Owns new a (square_at x y) → Owns new b (square_at x (y +ℤ pos 1))
      → (tile_at new a).area.xlo ≡ (tile_at new b).area.xlo
      → (tile_at new a).area.xhi ≡ (tile_at new b).area.xhi → (tile_at new a).value ≡ (tile_at new b).value
      → (a ≡ b) ⊎ ((column : ℤ) × IsAtColumn piece (tile_at new a) y column)
  only_columns proper a b x y r s low high value =
      let c = r.covers in
      let xlo = (tile_at new a).area.xlo in
      let xhi = (tile_at new a).area.xhi in
      by_lt_z (y +ℤ pos 1) piece.area.ylo
      (λ under. inl ((tall_off_rows x y (inl under)).apart a b r s low high value))
      (λ from. by_lt_z y piece.area.yhi
      (λ to. by_lt_z xhi piece.area.xlo
      (λ left. inl (apart_far a b x y r s low high value (inl left)))
      (λ not_left. by_lt_z piece.area.xhi xlo
      (λ right. inl (apart_far a b x y r s low high value (inr right)))
      (λ not_right. by_lt_z piece.area.xlo xlo
      (λ later. by_lt_z piece.area.xhi xhi
      (λ past. inr (piece.area.xhi, record { which = inr (inr refl); low = not_right; high = past; from = from; to = to }))
      (λ inside. absurd (by_lt_z y piece.area.ylo
      (λ below. not_inside proper b x (y +ℤ pos 1) s from (let tall = proper.high in omega (arith, ints)) (omega (arith, ints)) (omega (arith, ints)))
      (λ in_rows. not_inside proper a x y r in_rows to later inside))))
      (λ begun. by_lt_z piece.area.xlo xhi
      (λ through. inr (piece.area.xlo, record { which = inr (inl refl); low = begun; high = through; from = from; to = to }))
      (λ ends. inr (piece.area.xlo -ℤ pos 1, record { which = inl refl; low = omega (arith, ints); high = omega (arith, ints); from = from; to = to }))))))
      (λ over. inl ((tall_off_rows x y (inr over)).apart a b r s low high value)))

  -- and once these three columns are joined, all tiles are strips
  pub strips_again : (last : Tiles) → IsProper piece.area → IsPartition last → AreGrown new last
      → AreColumnsTall piece.area last → AreStrips last
  strips_again last proper partition grown columns = record {
    wide = λ y. wide_kept new last y partition grown (banded.wide y);
    tall = λ x y. record {
      apart = λ a b r s low high value. (
          let f = grown.source a (square_at x y) r in
          let g = grown.source b (square_at x (y +ℤ pos 1)) s in
          let c = r.covers in
          let d = s.covers in
          elim (only_columns proper f.0 g.0 x y f.1 g.1 (sym f.3 ∙ low ∙ g.3) (sym f.4 ∙ high ∙ g.4) (sym f.2 ∙ value ∙ g.2)) [
            | inl one ↦ (
                let to = grown.goes g.0 in
                partition.one a to.0 (square_at x y) r (to.1 (square_at x y) (subst (λ (v : ℕ). Owns new v (square_at x y)) one f.1))
                ∙ sym (partition.one b to.0 (square_at x (y +ℤ pos 1)) s (to.1 (square_at x (y +ℤ pos 1)) g.1)))
            | inr at ↦ (
                let l = at.1.low in
                let h = at.1.high in
                let fl = f.3 in
                let fh = f.4 in
                (columns.tall at.0 y at.1.which at.1.from at.1.to).apart a b
                (record {
                  covers = record {
                    right_of_xlo = omega (arith, ints);
                    left_of_xhi = omega (arith, ints);
                    above_ylo = c.above_ylo;
                    below_yhi = c.below_yhi;
                  };
                })
                (record {
                  covers = record {
                    right_of_xlo = omega (arith, ints);
                    left_of_xhi = omega (arith, ints);
                    above_ylo = d.above_ylo;
                    below_yhi = d.below_yhi;
                  };
                })
                low high value)
          ]);
    };
  }
