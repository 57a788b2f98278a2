-- A piece is set band by band, between cuts before and joins after.
use Rattle.tile_plane.proofs.Common.{◌≡◌, ◌⊎◌, inl, inr, ℕ, ℤ, pos, ◌+ℤ◌, ◌-ℤ◌, ◌≤ℤ◌, ◌<ℤ◌, [], ◌∷◌, refl, sym, ◌∙◌, ap, subst, arith, ints, by_lt_z}
use Rattle.tile_plane.proofs.Common.{Square, Rect, Piece, IsNear, corner_of, Covers, IsProper, AreSet, AreSame, Tile, Tiles, tile_at, IsTaken, Owns}
use Rattle.tile_plane.proofs.Common.{IsPartition, HasStitches, value_at, square_at, IsWideAt, IsTallAt, AreGrown, AreCut, AreCutAt, NothingElseIsCut}
use Rattle.tile_plane.proofs.Common.{AreCutAlong, AreCutAlongAt, NothingElseIsCutAlong, band_of, IsBandLaid, AreHigh, IsBandFree, IsWideBeside}
use Rattle.tile_plane.proofs.Common.{IsOpenFrom, AreKept, IsBanded, AreColumnsTall}
use Rattle.tile_plane.specs.Tall.{CrossesColumn}
use Rattle.tile_plane.proofs.TileLaws.{owner_taken}
use Rattle.tile_plane.proofs.KeepLaws.{tall_kept}
use Rattle.tile_plane.proofs.LaidLaws.{alike_owns}
use Rattle.tile_plane.proofs.KeptLaws.{kept_self, kept_then, row_wide}
use Rattle.tile_plane.proofs.BandLaws.{low, high, band_set, band_kept, open_on, set_on}

-- The bands of a piece are set up to a height.
pub record AreBanding (piece : Piece) (y : ℤ) (old now : Tiles) : Type 0 where
  pub partition : IsPartition now
  pub stitches : HasStitches now
  pub from : piece.area.ylo ≤ℤ y
  pub to : y ≤ℤ piece.area.yhi
  pub set : AreSet (value_at old) (value_at now) (band_of piece piece.area.ylo y ∷ [])
  pub kept : AreKept piece.area old now
  pub state : IsOpenFrom piece.area y now

pub banding_begins : (piece : Piece) (tiles : Tiles) → IsPartition tiles → HasStitches tiles → IsProper piece.area
    → IsOpenFrom piece.area piece.area.ylo tiles → AreBanding piece piece.area.ylo tiles tiles
banding_begins piece tiles partition stitches proper state = record {
  partition = partition;
  stitches = stitches;
  from = omega (arith, ints);
  to = let tall = proper.high in omega (arith, ints);
  set = record {
    set = λ other i s covers. elim i [
      | inl e ↦ (let c = subst (λ (v : Piece). Covers v.area s) (sym e) covers in let up = c.above_ylo in let down = c.below_yhi in
          absurd (omega (arith, ints)))
      | inr none ↦ absurd none
    ];
    others = λ s none. refl;
  };
  kept = kept_self piece.area tiles;
  state = state;
}

module _ (piece : Piece) (y : ℤ) (old now : Tiles) (proper : IsProper piece.area) (near : IsNear piece.area) (banding : AreBanding piece y old now) where
  -- what is left of the piece
  pub rest_near : (top : ℤ) → y ≤ℤ top → top ≤ℤ piece.area.yhi → IsNear (band_of piece y top).area
  rest_near top from to =
      let low = near.ylo in
      let high = near.yhi in
      let up = banding.from in
      record { xlo = near.xlo; ylo = (omega (arith, ints), omega (arith, ints)); xhi = near.xhi; yhi = (omega (arith, ints), omega (arith, ints)) }

  module _ (top : ℤ) (tall : y <ℤ top) (to : top ≤ℤ piece.area.yhi) (reach : AreHigh piece.area y top now) where
    pub band_proper : IsProper (band_of piece y top).area
    band_proper = record { wide = proper.wide; high = tall }

    pub band_free : IsBandFree (band_of piece y top).area now
    band_free = record {
      high = record { reach = reach.reach };
      left = λ k owns. banding.state.left.begin k y (omega (arith, ints)) (omega (arith, ints)) owns;
      right = λ k owns. banding.state.right.begin k y (omega (arith, ints)) (omega (arith, ints)) owns;
    }

    module _ (whole : ℕ) (new : Tiles) (partition : IsPartition new) (laid : IsBandLaid (band_of piece y top) whole now new) where
      band_near : IsNear (band_of piece y top).area
      band_near = rest_near top (omega (arith, ints)) to

      -- the tile of the band goes through its first column
      pub whole_from : (tile_at new whole).area.xlo ≤ℤ piece.area.xlo
      whole_from =
          let l = low (band_of piece y top) whole now new banding.partition partition laid band_proper band_near band_free in
          let e = ap (λ (r : Rect). r.xlo) laid.laid.here in
          omega (arith, ints)

      pub whole_to : piece.area.xlo <ℤ (tile_at new whole).area.xhi
      whole_to =
          let h = high (band_of piece y top) whole now new banding.partition partition laid band_proper band_near band_free in
          let e = ap (λ (r : Rect). r.xhi) laid.laid.here in
          let wide = proper.wide in
          omega (arith, ints)

      pub whole_below : (tile_at new whole).area.ylo ≡ y
      whole_below = ap (λ (r : Rect). r.ylo) laid.laid.here ∙ laid.low

      pub whole_top : (tile_at new whole).area.yhi ≡ top
      whole_top = ap (λ (r : Rect). r.yhi) laid.laid.here ∙ laid.high

      pub banding_on : HasStitches new → AreBanding piece top old new
      banding_on stitches =
          let up = banding.from in
          record {
            partition = partition;
            stitches = stitches;
            from = omega (arith, ints);
            to = to;
            set = set_on piece y top (value_at old) (value_at now) (value_at new) banding.from (omega (arith, ints)) banding.set
                (band_set (band_of piece y top) whole now new banding.partition partition laid band_proper band_near band_free);
            kept = kept_then piece.area old now new banding.kept
                (band_kept (band_of piece y top) whole now new banding.partition partition laid band_proper band_near band_free piece.area refl refl
                banding.from to);
            state = open_on piece whole y top now new banding.partition partition laid band_proper band_near band_free to banding.state;
          }

  pub banding_ends : piece.area.yhi ≤ℤ y → IsBanded piece old now
  banding_ends done =
      let to = banding.to in
      let same : y ≡ piece.area.yhi = omega (arith, ints) in
      record {
        set = subst (λ (v : ℤ). AreSet (value_at old) (value_at now) (band_of piece piece.area.ylo v ∷ [])) same banding.set;
        wide = λ h. by_lt_z h y (λ less. banding.state.wide h (inl less)) (λ more. banding.state.wide h (inr (omega (arith, ints))));
        kept = banding.kept;
      }

-- the same where only cuts away from it came before
pub banded_after : (piece : Piece) (old mid new : Tiles) → AreSame (value_at old) (value_at mid) → AreKept piece.area old mid → IsBanded piece mid new
    → IsBanded piece old new
banded_after piece old mid new same kept banded = record {
  set = record { set = banded.set.set; others = λ s none. banded.set.others s none ∙ same s };
  wide = banded.wide;
  kept = kept_then piece.area old mid new kept banded.kept;
}

-- and only joins come after
pub set_before : (piece : Piece) (old mid new : Square → ℕ) → AreSet old mid (piece ∷ []) → AreSame mid new → AreSet old new (piece ∷ [])
set_before piece old mid new set same = record { set = λ other i s covers. same s ∙ set.set other i s covers; others = λ s none. same s ∙ set.others s none }

-- What is left of the piece, and a tile of it, while there is some.
pub record IsBandWalk (piece rest : Piece) (id : ℕ) (old now : Tiles) : Type 0 where
  pub rest_is : rest ≡ band_of piece rest.area.ylo piece.area.yhi
  pub banding : AreBanding piece rest.area.ylo old now
  pub taken : IsTaken now id
  pub owns : rest.area.ylo <ℤ piece.area.yhi → Owns now id (square_at piece.area.xlo rest.area.ylo)

-- the tile of a band goes through its first column, and has its rows
pub record IsAtBand (band : Piece) (tile : Tile) : Type 0 where
  pub from : tile.area.xlo ≤ℤ band.area.xlo
  pub to : band.area.xlo <ℤ tile.area.xhi
  pub low : tile.area.ylo ≡ band.area.ylo
  pub top : tile.area.yhi ≡ band.area.yhi

module _ {piece rest : Piece} {id : ℕ} {old now : Tiles} (walk : IsBandWalk piece rest id old now) (proper : IsProper piece.area) (near : IsNear piece.area)
  where
    rest_high : rest.area.yhi ≡ piece.area.yhi
    rest_high = ap (λ (v : Piece). v.area.yhi) walk.rest_is

    rest_low : rest.area.xlo ≡ piece.area.xlo
    rest_low = ap (λ (v : Piece). v.area.xlo) walk.rest_is

    pub walk_near : IsNear rest.area
    walk_near = subst (λ (v : Piece). IsNear v.area) (sym walk.rest_is)
        (rest_near piece rest.area.ylo old now proper near walk.banding piece.area.yhi walk.banding.to (omega (arith, ints)))

    module _ (more : rest.area.ylo <ℤ rest.area.yhi) where
      pub walk_owns : Owns now id (corner_of rest.area)
      walk_owns = let e = rest_high in subst (λ (v : ℤ). Owns now id (square_at v rest.area.ylo)) (sym rest_low) (walk.owns (omega (arith, ints)))

      pub walk_begins : (tile_at now id).area.xlo ≡ rest.area.xlo
      walk_begins = let e = rest_high in walk.banding.state.left.begin id rest.area.ylo (omega (arith, ints)) (omega (arith, ints))
          (walk.owns (omega (arith, ints))) ∙ sym rest_low

      module _ {band : Piece} (is : band ≡ band_of rest rest.area.ylo band.area.yhi) (above : rest.area.ylo <ℤ band.area.yhi)
          (within : band.area.yhi ≤ℤ rest.area.yhi) (reach : AreHigh rest.area rest.area.ylo band.area.yhi now) where
        abbrev top : ℤ
        top = band.area.yhi

        band_is : band ≡ band_of piece rest.area.ylo top
        band_is = is ∙ ap (λ (v : Piece). band_of v rest.area.ylo top) walk.rest_is

        under : top ≤ℤ piece.area.yhi
        under = let e = rest_high in omega (arith, ints)

        high_here : AreHigh piece.area rest.area.ylo top now
        high_here = record { reach = (subst (λ (v : Piece). AreHigh v.area rest.area.ylo top now) walk.rest_is reach).reach }

        pub walk_band_near : IsNear band.area
        walk_band_near = subst (λ (v : Piece). IsNear v.area) (sym band_is)
            (rest_near piece rest.area.ylo old now proper near walk.banding top (omega (arith, ints)) under)

        pub walk_band_owns : Owns now id (corner_of band.area)
        walk_band_owns = let e = rest_high in subst (λ (v : Piece). Owns now id (corner_of v.area)) (sym band_is) (walk.owns (omega (arith, ints)))

        pub walk_band_free : IsBandFree band.area now
        walk_band_free = subst (λ (v : Piece). IsBandFree v.area now) (sym band_is)
            (band_free piece rest.area.ylo old now proper near walk.banding top above under high_here)

        module _ {whole : ℕ} {new : Tiles} (partition : IsPartition new) (laid : IsBandLaid band whole now new) where
          laid_here : IsBandLaid (band_of piece rest.area.ylo top) whole now new
          laid_here = subst (λ (v : Piece). IsBandLaid v whole now new) band_is laid

          pub walk_whole : IsAtBand band (tile_at new whole)
          walk_whole = subst (λ (v : Piece). IsAtBand v (tile_at new whole)) (sym band_is) (record {
            from = whole_from piece rest.area.ylo old now proper near walk.banding top above under high_here whole new partition laid_here;
            to = whole_to piece rest.area.ylo old now proper near walk.banding top above under high_here whole new partition laid_here;
            low = whole_below piece rest.area.ylo old now proper near walk.banding top above under high_here whole new partition laid_here;
            top = whole_top piece rest.area.ylo old now proper near walk.banding top above under high_here whole new partition laid_here;
          })

          pub walk_taken : IsTaken new whole
          walk_taken = let at = walk_whole in let e = ap (λ (v : Piece). v.area.ylo) band_is in
              record { proper = record { wide = omega (arith, ints); high = omega (arith, ints) } }

          pub walk_on : (next : ℕ) (left : Piece) → left ≡ band_of rest top rest.area.yhi → HasStitches new → IsTaken new next
              → (left.area.ylo <ℤ left.area.yhi → Owns new next (square_at band.area.xlo top)) → IsBandWalk piece left next old new
          walk_on next left left_is stitches taken owns =
              let y : left.area.ylo ≡ top = ap (λ (v : Piece). v.area.ylo) left_is in
              let end : left.area.yhi ≡ piece.area.yhi = ap (λ (v : Piece). v.area.yhi) left_is ∙ rest_high in
              record {
                rest_is = left_is ∙ ap (λ (v : Piece). band_of v top rest.area.yhi) walk.rest_is ∙ ap (λ (v : ℤ). band_of piece v rest.area.yhi) (sym y)
                    ∙ ap (λ (v : ℤ). band_of piece left.area.ylo v) rest_high;
                banding = subst (λ (v : ℤ). AreBanding piece v old new) (sym y)
                    (banding_on piece rest.area.ylo old now proper near walk.banding top above under high_here whole new partition laid_here stitches);
                taken = taken;
                owns = λ less. subst (λ (v : ℤ). Owns new next (square_at v left.area.ylo)) (ap (λ (v : Piece). v.area.xlo) band_is)
                    (subst (λ (v : ℤ). Owns new next (square_at band.area.xlo v)) (sym y) (owns (omega (arith, ints))));
              }

    pub walk_ends : rest.area.yhi ≤ℤ rest.area.ylo → IsBanded piece old now
    walk_ends done = let e = rest_high in banding_ends piece rest.area.ylo old now proper near walk.banding (omega (arith, ints))

pub walk_starts : (piece : Piece) (id : ℕ) (tiles : Tiles) → IsPartition tiles → HasStitches tiles → IsProper piece.area
    → IsOpenFrom piece.area piece.area.ylo tiles → Owns tiles id (corner_of piece.area) → IsBandWalk piece piece id tiles tiles
walk_starts piece id tiles partition stitches proper state owns = record {
  rest_is = refl;
  banding = banding_begins piece tiles partition stitches proper state;
  taken = owner_taken tiles id _ owns;
  owns = λ less. owns;
}

-- What a cut across does: rows are as wide as before, and what is far from the piece is kept.
module _ (area : Rect) (y : ℤ) (old new : Tiles) (partition : IsPartition new) (cut : AreCut old new) (only : NothingElseIsCut area y old new) where
  pub across_wide : (h : ℤ) → IsWideAt old h → IsWideAt new h
  across_wide h = row_wide old new h partition
      (record { source = λ k x owns. (let f = cut.source k (square_at x h) owns in (f.0, f.1, record { value = f.2; xlo = f.3; xhi = f.4 })) })

  pub across_kept : area.ylo ≤ℤ y → y ≤ℤ area.yhi → AreKept area old new
  across_kept from to = record {
    far = λ j taken off. (only.others j taken (λ crosses.
        let right = crosses.from in
        let left = crosses.to in
        elim off [ inl less ↦ omega (arith, ints) | inr more ↦ omega (arith, ints) ])).area;
    rows = λ j x h off p q. only.columns j x h (λ e. elim off [ inl less ↦ omega (arith, ints) | inr more ↦ omega (arith, ints) ]) p q;
  }

  -- rows with which tiles began begin with them
  pub across_at : (h from to : ℤ) → AreCutAt old h from to → AreCutAt new h from to
  across_at h from to at = record {
    begin = λ k x p q owns.
        let f = cut.source k (square_at x h) owns in
        let e = at.begin f.0 x p q f.1 in
        let within = f.5 in
        let covers = owns.covers in
        omega (arith, ints);
  }

-- The same of a cut along one side of the piece, from where tiles do not go over its lowest or its highest row.
module _ (area : Rect) (x : ℤ) (old new : Tiles) (p : IsPartition old) (partition : IsPartition new) (cut : AreCutAlong old new)
    (only : NothingElseIsCutAlong area x old new) where
  pub along_kept : area.xlo ≤ℤ x → x ≤ℤ area.xhi → AreKept area old new
  along_kept from to = record {
    far = λ j taken off. (only.others j taken (λ crosses.
        let left = crosses.before in
        let right = crosses.after in
        elim off [ inl less ↦ omega (arith, ints) | inr more ↦ omega (arith, ints) ])).area;
    rows = λ j w h off r s. cut.columns j w h (h +ℤ pos 1) r s;
  }

  pub along_at : (h from to : ℤ) → AreCutAt old h from to → AreCutAt new h from to
  along_at h from to at = record {
    begin = λ k w r s owns.
        let f = cut.source k (square_at w h) owns in
        f.3 ∙ at.begin f.0 w r s f.1;
  }

  pub along_begun : (w from to : ℤ) → AreCutAlongAt old w from to → AreCutAlongAt new w from to
  along_begun w from to at = record {
    begin = λ k h r s owns.
        let f = cut.source k (square_at w h) owns in
        let e = at.begin f.0 h r s f.1 in
        let within = f.5 in
        let covers = owns.covers in
        omega (arith, ints);
  }

  -- where a tile with both of two squares side by side still has them, two tiles of one value were one before
  along_apart : (a b : ℕ) (w h : ℤ) → ((f : ℕ) → Owns old f (square_at w h) → Owns old f (square_at (w +ℤ pos 1) h)
      → (k : ℕ) × Owns new k (square_at w h) × Owns new k (square_at (w +ℤ pos 1) h))
      → ((f g : ℕ) → Owns old f (square_at w h) → Owns old g (square_at (w +ℤ pos 1) h) → (tile_at old f).value ≡ (tile_at old g).value → f ≡ g)
      → Owns new a (square_at w h) → Owns new b (square_at (w +ℤ pos 1) h) → (tile_at new a).value ≡ (tile_at new b).value → a ≡ b
  along_apart a b w h stays wide r s same =
      let f = cut.source a (square_at w h) r in
      let g = cut.source b (square_at (w +ℤ pos 1) h) s in
      let one = wide f.0 g.0 f.1 g.1 (sym f.2 ∙ same ∙ g.2) in
      let k = stays f.0 f.1 (subst (λ (v : ℕ). Owns old v (square_at (w +ℤ pos 1) h)) (sym one) g.1) in
      partition.one a k.0 (square_at w h) r k.1 ∙ sym (partition.one b k.0 (square_at (w +ℤ pos 1) h) s k.2)

  -- a tile with a row off the area that goes over the cut has no row of the area
  along_stays : AreCutAt old area.ylo area.xlo area.xhi → AreCutAt old area.yhi area.xlo area.xhi → area.xlo ≤ℤ x → x ≤ℤ area.xhi → area.xlo <ℤ area.xhi
      → (w h : ℤ) → (h <ℤ area.ylo) ⊎ (area.yhi ≤ℤ h)
      → (f : ℕ) → Owns old f (square_at w h) → Owns old f (square_at (w +ℤ pos 1) h)
      → (k : ℕ) × Owns new k (square_at w h) × Owns new k (square_at (w +ℤ pos 1) h)
  along_stays low high from to wide w h off f r s =
      let alike = only.others f (owner_taken old f _ r) crossing in
      (f, alike_owns old new f _ alike r, alike_owns old new f _ alike s) where
        crossing : CrossesColumn (tile_at old f) area x → ⊥
        crossing crosses = by_lt_z area.xlo x
            (λ past. at (x -ℤ pos 1) (omega (arith, ints)) (omega (arith, ints)) (let before = crosses.before in omega (arith, ints))
            (let after = crosses.after in omega (arith, ints)))
            (λ begin. at x (omega (arith, ints)) (omega (arith, ints)) (let before = crosses.before in omega (arith, ints)) crosses.after) where
              at : (c : ℤ) → area.xlo ≤ℤ c → c <ℤ area.xhi → (tile_at old f).area.xlo ≤ℤ c → c <ℤ (tile_at old f).area.xhi → ⊥
              at c c_from c_to c_left c_right =
                  let covers = r.covers in
                  let under = crosses.from in
                  let over = crosses.to in
                  elim off [
                    | inl less ↦ (let e = low.begin f c c_from c_to (omega (arith, ints)) in omega (arith, ints))
                    | inr more ↦ (let e = high.begin f c c_from c_to (omega (arith, ints)) in omega (arith, ints))
                  ]

  pub along_wide : AreCutAt old area.ylo area.xlo area.xhi → AreCutAt old area.yhi area.xlo area.xhi → area.xlo ≤ℤ x → x ≤ℤ area.xhi → area.xlo <ℤ area.xhi
      → (h : ℤ) → (h <ℤ area.ylo) ⊎ (area.yhi ≤ℤ h) → IsWideAt old h → IsWideAt new h
  along_wide low high from to wide h off before =
      record {
        apart = λ a b w r s same. along_apart a b w h (along_stays low high from to wide w h off) (λ f g q t value. before.apart f g w q t value) r s
            same;
      }

  pub along_beside : (x ≡ area.xlo) ⊎ (x ≡ area.xhi) → (h : ℤ) → IsWideBeside area old h → IsWideBeside area new h
  along_beside side h before = record {
    apart = λ a b w n m r s same. along_apart a b w h
        (λ f q t. only.rows f w h (λ e. elim side [ inl at ↦ n (e ∙ at) | inr at ↦ m (e ∙ at) ]) q t)
        (λ f g q t value. before.apart f g w n m q t value) r s same;
  }

-- Once it is cut along both sides, the piece may be set band by band.
pub opened : (area : Rect) (two three four : Tiles) → IsProper area → IsPartition two → IsPartition three → IsPartition four → ((h : ℤ) → IsWideAt two h)
    → AreCutAt two area.ylo area.xlo area.xhi → AreCutAt two area.yhi area.xlo area.xhi
    → AreCutAlong two three → NothingElseIsCutAlong area area.xhi two three → AreCutAlongAt three area.xhi area.ylo area.yhi
    → AreCutAlong three four → NothingElseIsCutAlong area area.xlo three four → AreCutAlongAt four area.xlo area.ylo area.yhi → IsOpenFrom area area.ylo four
opened area two three four proper p q r wide low high right only_right right_at left only_left left_at =
    let broad = proper.wide in
    record {
      wide = λ h off. along_wide area area.xlo three four q r left only_left (at_three area.ylo low) (at_three area.yhi high) (omega (arith, ints))
          (omega (arith, ints)) broad h off
          (along_wide area area.xhi two three p q right only_right low high (omega (arith, ints)) (omega (arith, ints)) broad h off (wide h));
      beside = λ h from to. along_beside area area.xlo three four q r left only_left (inl refl) h
          (along_beside area area.xhi two three p q right only_right (inr refl) h (record { apart = λ a b w n m s t same. (wide h).apart a b w s t same }));
      left = left_at;
      right = along_begun area area.xlo three four q r left only_left area.xhi area.ylo area.yhi right_at;
    } where
      at_three : (h : ℤ) → AreCutAt two h area.xlo area.xhi → AreCutAt three h area.xlo area.xhi
      at_three h at = along_at area area.xhi two three p q right only_right h area.xlo area.xhi at

-- Columns that are joined one after another are all tall at last.
pub columns_tall : (area : Rect) (one two three : Tiles) → IsPartition two → IsPartition three → AreGrown one two → AreGrown two three
    → ((y : ℤ) → area.ylo ≤ℤ (y +ℤ pos 1) → y <ℤ area.yhi → IsTallAt one area.xhi y)
    → ((y : ℤ) → area.ylo ≤ℤ (y +ℤ pos 1) → y <ℤ area.yhi → IsTallAt two (area.xlo -ℤ pos 1) y)
    → ((y : ℤ) → area.ylo ≤ℤ (y +ℤ pos 1) → y <ℤ area.yhi → IsTallAt three area.xlo y) → AreColumnsTall area three
columns_tall area one two three q r first second right left begin = record {
  tall = λ x y which from to. elim which [
    | inl before ↦ subst (λ (v : ℤ). IsTallAt three v y) (sym before) (tall_kept two three (area.xlo -ℤ pos 1) y r second (left y from to))
    | inr in_or_after ↦ elim in_or_after [
      | inl is_first ↦ subst (λ (v : ℤ). IsTallAt three v y) (sym is_first) (begin y from to)
      | inr after ↦ subst (λ (v : ℤ). IsTallAt three v y) (sym after)
          (tall_kept two three area.xhi y r second (tall_kept one two area.xhi y q first (right y from to)))
    ]
  ];
}
