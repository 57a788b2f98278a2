-- A tile of a band takes what the tiles beside it have of the band's rows.
use Rattle.tile_plane.proofs.Common.{◌≡◌, inl, inr, ℕ, ◌<◌, ℤ, pos, ◌-ℤ◌, ◌≤ℤ◌, ◌<ℤ◌, refl, sym, ◌∙◌, ap, subst, arith, ints, by_lt_z, extent, Rect}
use Rattle.tile_plane.proofs.Common.{Piece, IsNear, IsProper, plane_range, Tile, Tiles, tile_at, IsTaken, Owns, IsPartition, HasStitches, square_at}
use Rattle.tile_plane.proofs.Common.{AreAlike, IsJoinedRight, IsLaid, IsLaidLeft, IsLaidRight, IsBandLaid, IsBandFree, AreHigh}
use Rattle.geo_core.proofs.SquareLaws.{rect_is}
use Rattle.tile_plane.specs.steps.Bands.{IsSide, IsOfBand}
use Rattle.tile_plane.proofs.HandLaws.{covers_or_not}
use Rattle.tile_plane.proofs.TileLaws.{owner_taken}
use Rattle.tile_plane.proofs.SideLaws.{beside_right, beside_left}
use Rattle.tile_plane.proofs.WalkLaws.{extent_falls}
use Rattle.tile_plane.proofs.LaidLaws.{alike_taken, area_owns, laid_self, laid_then, laid_join}
use Rattle.tile_plane.proofs.KeptLaws.{owns_beside}

pub laid_at : (area other : Rect) (value last id : ℕ) (old new : Tiles) → area ≡ other → value ≡ last → IsLaid area value id old new
    → IsLaid other last id old new
laid_at area other value last id old new e f laid = subst (λ (r : Rect). IsLaid r last id old new) e (subst (λ (v : ℕ). IsLaid area v id old new) f laid)

pub laid_taken : (area : Rect) (value id : ℕ) (old new : Tiles) → IsProper area → IsLaid area value id old new → IsTaken new id
laid_taken area value id old new proper laid = record { proper = subst IsProper (sym laid.here) proper }

-- what a tile has of some rows gets a value
pub laid_then_value : (area : Rect) (value other id : ℕ) (old mid new : Tiles) → IsProper area → IsLaid area value id old mid
    → IsLaid (tile_at mid id).area other id mid new → IsLaid area other id old new
laid_then_value area value other id old mid new proper p q =
    laid_then old mid new area area value other id id
    (record { right_of_xlo = omega (arith, ints); above_ylo = omega (arith, ints); left_of_xhi = omega (arith, ints); below_yhi = omega (arith, ints) })
    refl refl
    p (laid_at (tile_at mid id).area area other other id mid new p.here refl q)

-- two taken tiles, side by side, of the same rows and value
pub record AreToJoin (tiles : Tiles) (left right : ℕ) : Type 0 where
  pub left_taken : IsTaken tiles left
  pub right_taken : IsTaken tiles right
  pub meet : (tile_at tiles right).area.xlo ≡ (tile_at tiles left).area.xhi
  pub low : (tile_at tiles right).area.ylo ≡ (tile_at tiles left).area.ylo
  pub high : (tile_at tiles right).area.yhi ≡ (tile_at tiles left).area.yhi
  pub value : (tile_at tiles right).value ≡ (tile_at tiles left).value

-- the tile of a band, another beside it, and what this has of the rows of the band, cut out of it
module _ (band : Piece) (id next part : ℕ) (old mid : Tiles) (p : IsPartition old) (taken : IsTaken old id) (of_band : IsOfBand band (tile_at old id))
    (reach : band.area.yhi ≤ℤ (tile_at old next).area.yhi)
    (laid : IsLaid (record (tile_at old next).area { ylo = band.area.ylo; yhi = band.area.yhi }) band.value part old mid) where
  abbrev area : Rect
  area = record (tile_at old next).area { ylo = band.area.ylo; yhi = band.area.yhi }

  abbrev tile : Tile
  tile = tile_at old id

  -- the square of the tile at the height of the band, and the one of the other
  part_taken : IsTaken old next → IsTaken mid part
  part_taken other = let a = taken.proper in let b = other.proper in let c = of_band in
      laid_taken area band.value part old mid (record { wide = omega (arith, ints); high = omega (arith, ints) }) laid

  stays : (tile_at old next).area.ylo ≤ℤ band.area.ylo → ((id ≡ next) → ⊥) → AreAlike (tile_at old id) (tile_at mid id)
  stays from other = laid.untouched id taken
      (λ s covers owns. other (p.one id next s owns
      (record {
        covers = record {
          right_of_xlo = covers.right_of_xlo;
          left_of_xhi = covers.left_of_xhi;
          above_ylo = omega (arith, ints);
          below_yhi = omega (arith, ints);
        };
      })))

  -- the other to the right
  module _ (owns : Owns old next (square_at (tile_at old id).area.xhi band.area.ylo)) where
    right_meets : (tile_at old next).area.xlo ≡ (tile_at old id).area.xhi
    right_meets = let a = taken.proper in let b = of_band in beside_right old id next band.area.ylo p taken (omega (arith, ints)) (omega (arith, ints)) owns

    right_alike : AreAlike (tile_at old id) (tile_at mid id)
    right_alike = let c = owns.covers in stays c.above_ylo
        (λ e. let f : (tile_at old id).area.xhi ≡ (tile_at old next).area.xhi = ap (λ (v : ℕ). (tile_at old v).area.xhi) e in omega (arith, ints))

    pub to_join_right : AreToJoin mid id part
    to_join_right = record {
      left_taken = alike_taken old mid id right_alike taken;
      right_taken = part_taken (owner_taken old next _ owns);
      meet = ap (λ (r : Rect). r.xlo) laid.here ∙ right_meets ∙ sym (ap (λ (r : Rect). r.xhi) right_alike.area);
      low = ap (λ (r : Rect). r.ylo) laid.here ∙ sym of_band.low ∙ sym (ap (λ (r : Rect). r.ylo) right_alike.area);
      high = ap (λ (r : Rect). r.yhi) laid.here ∙ sym of_band.high ∙ sym (ap (λ (r : Rect). r.yhi) right_alike.area);
      value = laid.value_here ∙ sym of_band.value ∙ sym right_alike.value;
    }

    pub taken_right : (new : Tiles) → IsJoinedRight id part mid new
        → IsLaid (record (tile_at old id).area { xhi = (tile_at old next).area.xhi }) band.value id old new
    taken_right new join =
        let both = to_join_right in
        let more : Rect = record (tile_at old id).area { xhi = (tile_at old next).area.xhi } in
        let joined = laid_join mid new id part both.left_taken both.right_taken both.meet both.low both.high join in
        let same : record (tile_at mid id).area { xhi = (tile_at mid part).area.xhi } ≡ more =
        ap (λ (v : ℤ). record (tile_at mid id).area { xhi = v }) (ap (λ (r : Rect). r.xhi) laid.here)
        ∙ ap (λ (r : Rect). record r { xhi = (tile_at old next).area.xhi }) right_alike.area in
        let a = taken.proper in
        let begin = right_meets in
        laid_then old mid new area more band.value band.value part id
        (record {
          right_of_xlo = omega (arith, ints);
          above_ylo = (let l = of_band.low in omega (arith, ints));
          left_of_xhi = omega (arith, ints);
          below_yhi = (let l = of_band.high in omega (arith, ints));
        })
        of_band.low of_band.high laid (laid_at _ more _ band.value id mid new same (right_alike.value ∙ of_band.value) joined)

  -- or to the left
  module _ (owns : Owns old next (square_at ((tile_at old id).area.xlo -ℤ pos 1) band.area.ylo)) where
    left_meets : (tile_at old next).area.xhi ≡ (tile_at old id).area.xlo
    left_meets = let a = taken.proper in let b = of_band in beside_left old id next band.area.ylo p taken (omega (arith, ints)) (omega (arith, ints)) owns

    left_alike : AreAlike (tile_at old id) (tile_at mid id)
    left_alike = let c = owns.covers in stays c.above_ylo
        (λ e. let f : (tile_at old id).area.xlo ≡ (tile_at old next).area.xlo = ap (λ (v : ℕ). (tile_at old v).area.xlo) e in omega (arith, ints))

    pub to_join_left : AreToJoin mid part id
    to_join_left = record {
      left_taken = part_taken (owner_taken old next _ owns);
      right_taken = alike_taken old mid id left_alike taken;
      meet = ap (λ (r : Rect). r.xlo) left_alike.area ∙ sym left_meets ∙ sym (ap (λ (r : Rect). r.xhi) laid.here);
      low = ap (λ (r : Rect). r.ylo) left_alike.area ∙ of_band.low ∙ sym (ap (λ (r : Rect). r.ylo) laid.here);
      high = ap (λ (r : Rect). r.yhi) left_alike.area ∙ of_band.high ∙ sym (ap (λ (r : Rect). r.yhi) laid.here);
      value = left_alike.value ∙ of_band.value ∙ sym laid.value_here;
    }

    pub taken_left : (new : Tiles) → IsJoinedRight part id mid new
        → IsLaid (record (tile_at old id).area { xlo = (tile_at old next).area.xlo }) band.value part old new
    taken_left new join =
        let both = to_join_left in
        let more : Rect = record (tile_at old id).area { xlo = (tile_at old next).area.xlo } in
        let joined = laid_join mid new part id both.left_taken both.right_taken both.meet both.low both.high join in
        let same : record (tile_at mid part).area { xhi = (tile_at mid id).area.xhi } ≡ more =
        rect_is (record (tile_at mid part).area { xhi = (tile_at mid id).area.xhi }) more (ap (λ (r : Rect). r.xlo) laid.here)
        (ap (λ (r : Rect). r.ylo) laid.here ∙ sym of_band.low)
        (ap (λ (r : Rect). r.xhi) left_alike.area) (ap (λ (r : Rect). r.yhi) laid.here ∙ sym of_band.high) in
        let a = taken.proper in
        let end = left_meets in
        laid_then old mid new area more band.value band.value part part
        (record {
          right_of_xlo = omega (arith, ints);
          above_ylo = (let l = of_band.low in omega (arith, ints));
          left_of_xhi = omega (arith, ints);
          below_yhi = (let l = of_band.high in omega (arith, ints));
        })
        of_band.low of_band.high laid (laid_at _ more _ band.value part mid new same laid.value_here joined)

-- tiles that went on up to a height do so after an area of these rows is laid
pub high_kept : (area whole : Rect) (y top : ℤ) (value id : ℕ) (old new : Tiles) → IsPartition new → IsLaid area value id old new → area.ylo ≤ℤ y
    → y <ℤ area.yhi → top ≤ℤ area.yhi → AreHigh whole y top old → AreHigh whole y top new
high_kept area whole y top value id old new q laid low high to before = record {
  reach = λ k x from until owns. elim (covers_or_not area (square_at x y)) [
    | inl covers ↦ (
        let one : k ≡ id = q.one k id (square_at x y) owns (area_owns new id area (square_at x y) laid.here covers) in
        let end : (tile_at new k).area.yhi ≡ area.yhi = ap (λ (v : ℕ). (tile_at new v).area.yhi) one ∙ ap (λ (r : Rect). r.yhi) laid.here in
        omega (arith, ints))
    | inr out ↦ (
        let was = laid.beside k x y owns low high out in
        let reach = before.reach was.0 x from until was.1 in
        let end = ap (λ (r : Rect). r.yhi) was.2.area in
        omega (arith, ints))
  ];
}

-- nothing to its left, or to its right, is joined to it
pub none_left : (band : Piece) (id left : ℕ) (tiles : Tiles) → IsOfBand band (tile_at tiles id) → ((tile_at tiles left).value ≡ band.value → ⊥)
    → IsLaidLeft band (tile_at tiles id) (tile_at tiles left) id tiles tiles
none_left band id left tiles of_band other =
    ((tile_at tiles id).area.xlo, inl (refl, other), subst (λ (v : ℕ). IsLaid (tile_at tiles id).area v id tiles tiles) of_band.value (laid_self tiles id))

pub none_right : (band : Piece) (id right : ℕ) (tiles : Tiles) → IsOfBand band (tile_at tiles id) → ((tile_at tiles right).value ≡ band.value → ⊥)
    → IsLaidRight band (tile_at tiles id) (tile_at tiles right) id tiles tiles
none_right band id right tiles of_band other =
    ((tile_at tiles id).area.xhi, inl (refl, other), subst (λ (v : ℕ). IsLaid (tile_at tiles id).area v id tiles tiles) of_band.value (laid_self tiles id))

-- what is laid in the rows of a band is a tile of it
pub laid_of_band : (band : Piece) (area : Rect) (id : ℕ) (old new : Tiles) → area.ylo ≡ band.area.ylo → area.yhi ≡ band.area.yhi
    → IsLaid area band.value id old new → IsOfBand band (tile_at new id)
laid_of_band band area id old new low high laid = record {
  low = ap (λ (r : Rect). r.ylo) laid.here ∙ low;
  high = ap (λ (r : Rect). r.yhi) laid.here ∙ high;
  value = laid.value_here;
}

-- The band is laid as far as its tile reaches.
pub record IsFilling (band : Piece) (id : ℕ) (old now : Tiles) : Type 0 where
  pub partition : IsPartition now
  pub stitches : HasStitches now
  pub laid : IsLaid (record band.area { xhi = (tile_at now id).area.xhi }) band.value id old now
  pub start : band.area.xlo <ℤ (tile_at now id).area.xhi
  pub end : (tile_at now id).area.xhi ≤ℤ band.area.xhi

module _ (band : Piece) (id : ℕ) (old now : Tiles) (proper : IsProper band.area) (near : IsNear band.area) (free : IsBandFree band.area old) where
  pub fill_begins : (first : ℕ) → Owns old first (square_at band.area.xlo band.area.ylo) → IsPartition now → HasStitches now
      → IsLaid (record (tile_at old first).area { ylo = band.area.ylo; yhi = band.area.yhi }) band.value id old now → IsFilling band id old now
  fill_begins first owns partition stitches laid =
      let begin : (tile_at old first).area.xlo ≡ band.area.xlo = free.left first owns in
      let end : (tile_at now id).area.xhi ≡ (tile_at old first).area.xhi = ap (λ (r : Rect). r.xhi) laid.here in
      let wide = proper.wide in
      let covers = owns.covers in
      let area : Rect = record (tile_at old first).area { ylo = band.area.ylo; yhi = band.area.yhi } in
      let more : Rect = record band.area { xhi = (tile_at now id).area.xhi } in
      record {
        partition = partition;
        stitches = stitches;
        laid = laid_at area more band.value band.value id old now (rect_is area more begin refl (sym end) refl) refl laid;
        start = omega (arith, ints);
        end = by_lt_z band.area.xhi (tile_at old first).area.xhi
            (λ past.
            let again = free.right first (owns_beside old first band.area.xlo band.area.xhi band.area.ylo owns (omega (arith, ints)) past) in
            absurd (omega (arith, ints)))
            (λ before. omega (arith, ints));
      }

  module _ (filling : IsFilling band id old now) where
    pub fill_taken : IsTaken now id
    fill_taken = let start = filling.start in
        laid_taken (record band.area { xhi = (tile_at now id).area.xhi }) band.value id old now (record { wide = start; high = proper.high }) filling.laid

    pub fill_of_band : IsOfBand band (tile_at now id)
    fill_of_band = laid_of_band band (record band.area { xhi = (tile_at now id).area.xhi }) id old now refl refl filling.laid

    fill_high : AreHigh band.area band.area.ylo band.area.yhi now
    fill_high = let tall = proper.high in high_kept (record band.area { xhi = (tile_at now id).area.xhi }) band.area band.area.ylo band.area.yhi band.value id
        old now filling.partition filling.laid (omega (arith, ints)) tall (omega (arith, ints)) free.high

    pub fill_reach : (k : ℕ) → Owns now k (square_at (tile_at now id).area.xhi band.area.ylo) → band.area.yhi ≤ℤ (tile_at now k).area.yhi
    fill_reach k owns = let start = filling.start in let end = filling.end in fill_high.reach k (tile_at now id).area.xhi (omega (arith, ints)) end owns

    -- the tile beside it, while the band goes on
    pub fill_next : (tile_at now id).area.xhi <ℤ band.area.xhi → (k : ℕ) × Owns now k (square_at (tile_at now id).area.xhi band.area.ylo)
    fill_next more =
        let start = filling.start in
        let x = near.xlo in
        let x' = near.xhi in
        let y = near.ylo in
        let y' = near.yhi in
        let tall = proper.high in
        filling.partition.whole (square_at (tile_at now id).area.xhi band.area.ylo) (omega (arith, ints))

    -- one tile more, which does not go past the band
    module _ (k : ℕ) (more : (tile_at now id).area.xhi <ℤ band.area.xhi) (owns : Owns now k (square_at (tile_at now id).area.xhi band.area.ylo)) where
      not_past : (tile_at now k).area.xhi ≤ℤ band.area.xhi
      not_past = by_lt_z band.area.xhi (tile_at now k).area.xhi
          (λ past.
          let tall = proper.high in
          let covers = owns.covers in
          let there = owns_beside now k (tile_at now id).area.xhi band.area.xhi band.area.ylo owns (omega (arith, ints)) past in
          let was = filling.laid.beside k band.area.xhi band.area.ylo there (omega (arith, ints)) tall (λ c. let h = c.left_of_xhi in omega (arith, ints)) in
          let begin : (tile_at now k).area.xlo ≡ band.area.xhi = ap (λ (r : Rect). r.xlo) was.2.area ∙ free.right was.0 was.1 in
          absurd (omega (arith, ints)))
          (λ before. before)

      pub fill_on : (new : Tiles) → IsPartition new → HasStitches new
          → IsLaid (record (tile_at now id).area { xhi = (tile_at now k).area.xhi }) band.value id now new → IsFilling band id old new
      fill_on new partition stitches laid =
          let covers = owns.covers in
          let start = filling.start in
          let past = not_past in
          let end : (tile_at new id).area.xhi ≡ (tile_at now k).area.xhi = ap (λ (r : Rect). r.xhi) laid.here in
          let here : Rect = record (tile_at now id).area { xhi = (tile_at now k).area.xhi } in
          let area : Rect = record band.area { xhi = (tile_at now id).area.xhi } in
          let wider : Rect = record band.area { xhi = (tile_at new id).area.xhi } in
          let same : here ≡ wider = ap (λ (r : Rect). record r { xhi = (tile_at now k).area.xhi }) filling.laid.here
          ∙ ap (λ (v : ℤ). record band.area { xhi = v }) (sym end) in
          record {
            partition = partition;
            stitches = stitches;
            laid = laid_then old now new area wider band.value band.value id id
                (record {
                  right_of_xlo = omega (arith, ints);
                  above_ylo = omega (arith, ints);
                  left_of_xhi = omega (arith, ints);
                  below_yhi = omega (arith, ints);
                }) refl refl
                filling.laid (laid_at here wider band.value band.value id now new same refl laid);
            start = omega (arith, ints);
            end = omega (arith, ints);
          }

      pub fill_nearer : (new : Tiles) → IsLaid (record (tile_at now id).area { xhi = (tile_at now k).area.xhi }) band.value id now new
          → extent (tile_at new id).area.xhi band.area.xhi < extent (tile_at now id).area.xhi band.area.xhi
      fill_nearer new laid =
          let covers = owns.covers in
          let end : (tile_at new id).area.xhi ≡ (tile_at now k).area.xhi = ap (λ (r : Rect). r.xhi) laid.here in
          extent_falls (tile_at now id).area.xhi (tile_at new id).area.xhi band.area.xhi (omega (arith, ints)) more

    pub fill_ends : band.area.xhi ≤ℤ (tile_at now id).area.xhi → IsLaid band.area band.value id old now
    fill_ends done =
        let last = filling.end in
        let same : (tile_at now id).area.xhi ≡ band.area.xhi = omega (arith, ints) in
        laid_at (record band.area { xhi = (tile_at now id).area.xhi }) band.area band.value band.value id old now
        (ap (λ (v : ℤ). record band.area { xhi = v }) same) refl filling.laid

-- Once its squares are one tile, the tiles to its left and to its right may be joined to it.
module _ (band : Piece) (id : ℕ) (old one : Tiles) (partition : IsPartition old) (partition_one : IsPartition one) (proper : IsProper band.area)
    (near : IsNear band.area) (free : IsBandFree band.area old)
    (filled : IsLaid band.area band.value id old one) where
  pub filled_taken : IsTaken one id
  filled_taken = laid_taken band.area band.value id old one proper filled

  pub filled_of_band : IsOfBand band (tile_at one id)
  filled_of_band = laid_of_band band band.area id old one refl refl filled

  filled_high : AreHigh band.area band.area.ylo band.area.yhi one
  filled_high = let tall = proper.high in high_kept band.area band.area band.area.ylo band.area.yhi band.value id old one partition_one filled
      (omega (arith, ints)) tall (omega (arith, ints)) free.high

  begins : (tile_at one id).area.xlo ≡ band.area.xlo
  begins = ap (λ (r : Rect). r.xlo) filled.here

  ends : (tile_at one id).area.xhi ≡ band.area.xhi
  ends = ap (λ (r : Rect). r.xhi) filled.here

  pub left_inside : plane_range.xlo <ℤ (tile_at one id).area.xlo
  left_inside = let x = near.xlo in let e = begins in omega (arith, ints)

  pub left_reach : (k : ℕ) → Owns one k (square_at ((tile_at one id).area.xlo -ℤ pos 1) band.area.ylo) → band.area.yhi ≤ℤ (tile_at one k).area.yhi
  left_reach k owns = let e = begins in let wide = proper.wide in
      filled_high.reach k ((tile_at one id).area.xlo -ℤ pos 1) (omega (arith, ints)) (omega (arith, ints)) owns

  left_owner : (l : ℕ) × Owns one l (square_at ((tile_at one id).area.xlo -ℤ pos 1) band.area.ylo)
  left_owner =
      let x = near.xlo in
      let x' = near.xhi in
      let y = near.ylo in
      let y' = near.yhi in
      let wide = proper.wide in
      let e = begins in
      partition_one.whole (square_at ((tile_at one id).area.xlo -ℤ pos 1) band.area.ylo) (omega (arith, ints))

  module _ (whole : ℕ) (two : Tiles) (partition_two : IsPartition two)
      (left : (k : ℕ) → Owns one k (square_at ((tile_at one id).area.xlo -ℤ pos 1) band.area.ylo)
      → IsLaidLeft band (tile_at one id) (tile_at one k) whole one two) where
    abbrev far_left : ℤ
    far_left = (left left_owner.0 left_owner.1).0

    left_side : IsSide band.value (tile_at one left_owner.0).value (tile_at one id).area.xlo (tile_at one left_owner.0).area.xlo far_left
    left_side = (left left_owner.0 left_owner.1).1

    far_left_low : far_left ≤ℤ band.area.xlo
    far_left_low =
        let e = begins in
        elim left_side [
          | inl at ↦ (let f = at.0 in omega (arith, ints))
          | inr at ↦ (let f = at.0 in let c = left_owner.1.covers in omega (arith, ints))
        ]

    abbrev area_two : Rect
    area_two = record band.area { xlo = far_left }

    laid_two : IsLaid area_two band.value whole one two
    laid_two = laid_at (record (tile_at one id).area { xlo = far_left }) area_two band.value band.value whole one two
        (ap (λ (r : Rect). record r { xlo = far_left }) filled.here) refl (left left_owner.0 left_owner.1).2

    pub whole_taken : IsTaken two whole
    whole_taken = let wide = proper.wide in let l = far_left_low in
        laid_taken area_two band.value whole one two (record { wide = omega (arith, ints); high = proper.high }) laid_two

    pub whole_of_band : IsOfBand band (tile_at two whole)
    whole_of_band = laid_of_band band area_two whole one two refl refl laid_two

    two_high : AreHigh band.area band.area.ylo band.area.yhi two
    two_high = let tall = proper.high in high_kept area_two band.area band.area.ylo band.area.yhi band.value whole one two partition_two laid_two
        (omega (arith, ints)) tall (omega (arith, ints)) filled_high

    two_ends : (tile_at two whole).area.xhi ≡ band.area.xhi
    two_ends = ap (λ (r : Rect). r.xhi) laid_two.here

    pub right_inside : (tile_at two whole).area.xhi <ℤ plane_range.xhi
    right_inside = let x = near.xhi in let e = two_ends in omega (arith, ints)

    pub right_reach : (k : ℕ) → Owns two k (square_at (tile_at two whole).area.xhi band.area.ylo) → band.area.yhi ≤ℤ (tile_at two k).area.yhi
    right_reach k owns = let e = two_ends in let wide = proper.wide in
        two_high.reach k (tile_at two whole).area.xhi (omega (arith, ints)) (omega (arith, ints)) owns

    right_owner : (r : ℕ) × Owns two r (square_at (tile_at two whole).area.xhi band.area.ylo)
    right_owner =
        let x = near.xlo in
        let x' = near.xhi in
        let y = near.ylo in
        let y' = near.yhi in
        let wide = proper.wide in
        let e = two_ends in
        partition_two.whole (square_at (tile_at two whole).area.xhi band.area.ylo) (omega (arith, ints))

    module _ (new : Tiles) (right : (k : ℕ) → Owns two k (square_at (tile_at two whole).area.xhi band.area.ylo)
        → IsLaidRight band (tile_at two whole) (tile_at two k) whole two new) where
      abbrev far_right : ℤ
      far_right = (right right_owner.0 right_owner.1).0

      right_side : IsSide band.value (tile_at two right_owner.0).value (tile_at two whole).area.xhi (tile_at two right_owner.0).area.xhi far_right
      right_side = (right right_owner.0 right_owner.1).1

      far_right_high : band.area.xhi ≤ℤ far_right
      far_right_high =
          let e = two_ends in
          elim right_side [
            | inl at ↦ (let f = at.0 in omega (arith, ints))
            | inr at ↦ (let f = at.0 in let c = right_owner.1.covers in omega (arith, ints))
          ]

      abbrev area_three : Rect
      area_three = record band.area { xlo = far_left; xhi = far_right }

      laid_new : IsLaid area_three band.value whole two new
      laid_new = laid_at (record (tile_at two whole).area { xhi = far_right }) area_three band.value band.value whole two new
          (ap (λ (r : Rect). record r { xhi = far_right }) laid_two.here) refl (right right_owner.0 right_owner.1).2

      -- the same end beside a tile of the same columns and value
      side_at : (value other other' : ℕ) (near_end near_end' far far' end : ℤ) → other ≡ other' → near_end ≡ near_end' → far ≡ far'
          → IsSide value other near_end far end → IsSide value other' near_end' far' end
      side_at value other other' near_end near_end' far far' end e f g side = elim side [
        | inl at ↦ inl (at.0 ∙ f, λ same. at.1 (e ∙ same))
        | inr at ↦ inr (at.0 ∙ g, sym e ∙ at.1)
      ]

      pub band_is_laid : IsBandLaid band whole old new
      band_is_laid =
          let l = far_left_low in
          let r = far_right_high in
          record {
            area = area_three;
            laid = laid_then old two new area_two area_three band.value band.value whole whole
                (record { right_of_xlo = omega (arith, ints); above_ylo = omega (arith, ints); left_of_xhi = r; below_yhi = omega (arith, ints) }) refl refl
                (laid_then old one two band.area area_two band.value band.value id whole
                (record { right_of_xlo = l; above_ylo = omega (arith, ints); left_of_xhi = omega (arith, ints); below_yhi = omega (arith, ints) }) refl
                refl filled laid_two)
                laid_new;
            low = refl;
            high = refl;
            left = λ k owns.
                let e = begins in
                let was = filled.elsewhere left_owner.0 _ left_owner.1 (λ c. omega (arith, ints)) in
                let there : Owns old was.0 (square_at (band.area.xlo -ℤ pos 1) band.area.ylo) =
                subst (λ (v : ℤ). Owns old was.0 (square_at (v -ℤ pos 1) band.area.ylo)) e was.1 in
                let one_tile : was.0 ≡ k = partition.one was.0 k _ there owns in
                side_at band.value (tile_at one left_owner.0).value (tile_at old k).value (tile_at one id).area.xlo band.area.xlo
                (tile_at one left_owner.0).area.xlo (tile_at old k).area.xlo far_left
                (was.2.value ∙ ap (λ (v : ℕ). (tile_at old v).value) one_tile) e (was.2.xlo ∙ ap (λ (v : ℕ). (tile_at old v).area.xlo) one_tile) left_side;
            right = λ k owns.
                let e = two_ends in
                let mid = laid_two.elsewhere right_owner.0 _ right_owner.1 (λ c. omega (arith, ints)) in
                let was = filled.elsewhere mid.0 _ mid.1 (λ c. omega (arith, ints)) in
                let there : Owns old was.0 (square_at band.area.xhi band.area.ylo) = subst (λ (v : ℤ). Owns old was.0 (square_at v band.area.ylo)) e was.1 in
                let one_tile : was.0 ≡ k = partition.one was.0 k _ there owns in
                side_at band.value (tile_at two right_owner.0).value (tile_at old k).value (tile_at two whole).area.xhi band.area.xhi
                (tile_at two right_owner.0).area.xhi (tile_at old k).area.xhi far_right
                (mid.2.value ∙ was.2.value ∙ ap (λ (v : ℕ). (tile_at old v).value) one_tile) e
                (mid.2.xhi ∙ was.2.xhi ∙ ap (λ (v : ℕ). (tile_at old v).area.xhi) one_tile) right_side;
          }
