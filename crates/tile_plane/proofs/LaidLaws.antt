-- The squares of an area become one tile: by cutting them out of a tile, by a new value, by a join, and by one such step after another.
use Rattle.tile_plane.proofs.Common.{◌≡◌, inl, inr, ℕ, ℤ, pos, ◌+ℤ◌, ◌≤ℤ◌, ◌<ℤ◌, refl, sym, ◌∙◌, ap, subst, arith, cases_eq, ints, by_lt_z, Square}
use Rattle.tile_plane.proofs.Common.{Rect, LiesWithin, Covers, IsProper, plane_range, Tile, Tiles, tile_at, IsTaken, Owns, Leads, IsPartition}
use Rattle.tile_plane.proofs.Common.{HasStitches, IsPut, square_above, square_right, square_below, square_left, square_at, AreAlike, IsCutAcross}
use Rattle.tile_plane.proofs.Common.{IsPartFrom, IsJoinedRight, AreAsWide, IsTileCut, IsLaid}
use Rattle.tile_plane.proofs.HandLaws.{partition_moves}
use Rattle.tile_plane.proofs.TileLaws.{owner_taken}

as_wide_self : (tile : Tile) → AreAsWide tile tile
as_wide_self tile = record { value = refl; xlo = refl; xhi = refl }

pub as_wide_then : (old mid new : Tile) → AreAsWide old mid → AreAsWide mid new → AreAsWide old new
as_wide_then old mid new p q = record { value = q.value ∙ p.value; xlo = q.xlo ∙ p.xlo; xhi = q.xhi ∙ p.xhi }

pub alike_self : (tile : Tile) → AreAlike tile tile
alike_self tile = record { area = refl; value = refl }

pub alike_then : (old mid new : Tile) → AreAlike old mid → AreAlike mid new → AreAlike old new
alike_then old mid new p q = record { area = q.area ∙ p.area; value = q.value ∙ p.value }

pub alike_wide : (old new : Tile) → AreAlike old new → AreAsWide old new
alike_wide old new p = record { value = p.value; xlo = ap (λ (r : Rect). r.xlo) p.area; xhi = ap (λ (r : Rect). r.xhi) p.area }

pub alike_taken : (old new : Tiles) (k : ℕ) → AreAlike (tile_at old k) (tile_at new k) → IsTaken old k → IsTaken new k
alike_taken old new k alike taken = record { proper = subst IsProper (sym alike.area) taken.proper }

-- what a tile that is as it was has, it had, and the other way round
pub alike_owns : (old new : Tiles) (k : ℕ) (s : Square) → AreAlike (tile_at old k) (tile_at new k) → Owns old k s → Owns new k s
alike_owns old new k s alike owns = record { covers = subst (λ (r : Rect). Covers r s) (sym alike.area) owns.covers }

pub alike_owned : (old new : Tiles) (k : ℕ) (s : Square) → AreAlike (tile_at old k) (tile_at new k) → Owns new k s → Owns old k s
alike_owned old new k s alike owns = record { covers = subst (λ (r : Rect). Covers r s) alike.area owns.covers }

-- a tile of this area has its squares
pub area_owns : (tiles : Tiles) (k : ℕ) (area : Rect) (s : Square) → (tile_at tiles k).area ≡ area → Covers area s → Owns tiles k s
area_owns tiles k area s is covers = record { covers = subst (λ (r : Rect). Covers r s) (sym is) covers }

pub corner_covered : (area : Rect) → IsProper area → Covers area (square_at area.xlo area.ylo)
corner_covered area proper = record { right_of_xlo = omega (arith, ints); left_of_xhi = proper.wide; above_ylo = omega (arith, ints); below_yhi = proper.high }

-- no cut is needed
pub cut_none : (tiles : Tiles) (id : ℕ) (y : ℤ) → IsTileCut id y tiles tiles
cut_none tiles id y = record {
  source = λ k s owns. (k, owns, as_wide_self (tile_at tiles k));
  others = λ j taken n. alike_self (tile_at tiles j);
  upright = λ j x h p q n. (j, p, q);
}

-- one cut
module _ (old new : Tiles) (id lower upper : ℕ) (y : ℤ) (from : (tile_at old id).area.ylo <ℤ y) (to : y <ℤ (tile_at old id).area.yhi)
    (cut : IsCutAcross id lower upper y old new) where
  source : (k : ℕ) (s : Square) → Owns new k s → (j : ℕ) × Owns old j s × AreAsWide (tile_at old j) (tile_at new k)
  source k s owns = elim (cases_eq k upper) [
    | inl e ↦ (
        let c = subst (λ (r : Rect). Covers r s) cut.high (subst (λ (v : ℕ). Owns new v s) e owns).covers in (
          id,
          record {
            covers = record {
              right_of_xlo = omega (arith, ints);
              left_of_xhi = omega (arith, ints);
              above_ylo = omega (arith, ints);
              below_yhi = omega (arith, ints);
            };
          },
          record {
            value = ap (λ (v : ℕ). (tile_at new v).value) e ∙ cut.high_value;
            xlo = ap (λ (v : ℕ). (tile_at new v).area.xlo) e ∙ ap (λ (r : Rect). r.xlo) cut.high;
            xhi = ap (λ (v : ℕ). (tile_at new v).area.xhi) e ∙ ap (λ (r : Rect). r.xhi) cut.high;
          },
        ))
    | inr n ↦ elim (cases_eq k lower) [
      | inl e ↦ (
          let c = subst (λ (r : Rect). Covers r s) cut.low (subst (λ (v : ℕ). Owns new v s) e owns).covers in (
            id,
            record {
              covers = record {
                right_of_xlo = omega (arith, ints);
                left_of_xhi = omega (arith, ints);
                above_ylo = omega (arith, ints);
                below_yhi = omega (arith, ints);
              };
            },
            record {
              value = ap (λ (v : ℕ). (tile_at new v).value) e ∙ cut.low_value;
              xlo = ap (λ (v : ℕ). (tile_at new v).area.xlo) e ∙ ap (λ (r : Rect). r.xlo) cut.low;
              xhi = ap (λ (v : ℕ). (tile_at new v).area.xhi) e ∙ ap (λ (r : Rect). r.xhi) cut.low;
            },
          ))
      | inr m ↦ (let alike = cut.others k m n in (k, alike_owned old new k s alike owns, alike_wide (tile_at old k) (tile_at new k) alike))
    ]
  ]

  other : (j : ℕ) → IsTaken old j → (j ≡ id → ⊥) → AreAlike (tile_at old j) (tile_at new j)
  other j taken n = elim cut.free [
    | inl kept ↦ cut.others j (λ e. n (e ∙ kept.0)) (λ e. kept.1 (subst (IsTaken old) e taken))
    | inr kept ↦ cut.others j (λ e. kept.1 (subst (IsTaken old) e taken)) (λ e. n (e ∙ kept.0))
  ]

  upright : (j : ℕ) (x h : ℤ) → Owns old j (square_at x h) → Owns old j (square_at x (h +ℤ pos 1)) → (h +ℤ pos 1 ≡ y → ⊥)
      → (k : ℕ) × Owns new k (square_at x h) × Owns new k (square_at x (h +ℤ pos 1))
  upright j x h p q n = elim (cases_eq j id) [
    | inl e ↦ (
        let c = (subst (λ (v : ℕ). Owns old v (square_at x h)) e p).covers in
        let d = (subst (λ (v : ℕ). Owns old v (square_at x (h +ℤ pos 1))) e q).covers in
        by_lt_z (h +ℤ pos 1) y
        (λ less. (
          lower,
          area_owns new lower _ (square_at x h) cut.low
              (record { right_of_xlo = c.right_of_xlo; left_of_xhi = c.left_of_xhi; above_ylo = c.above_ylo; below_yhi = omega (arith, ints) }),
          area_owns new lower _ (square_at x (h +ℤ pos 1)) cut.low
              (record { right_of_xlo = d.right_of_xlo; left_of_xhi = d.left_of_xhi; above_ylo = d.above_ylo; below_yhi = less }),
        ))
        (λ more. by_lt_z y (h +ℤ pos 1)
        (λ past. (
          upper,
          area_owns new upper _ (square_at x h) cut.high
              (record { right_of_xlo = c.right_of_xlo; left_of_xhi = c.left_of_xhi; above_ylo = omega (arith, ints); below_yhi = c.below_yhi }),
          area_owns new upper _ (square_at x (h +ℤ pos 1)) cut.high
              (record { right_of_xlo = d.right_of_xlo; left_of_xhi = d.left_of_xhi; above_ylo = more; below_yhi = d.below_yhi }),
        ))
        (λ last. absurd (n (omega (arith, ints))))))
    | inr m ↦ (let alike = other j (owner_taken old j _ p) m in (j, alike_owns old new j _ alike p, alike_owns old new j _ alike q))
  ]

  pub cut_one : IsTileCut id y old new
  cut_one = record { source = source; others = other; upright = upright }

-- The part of a tile from a height on: what was cut, and what is left.
pub record IsCutFrom (id part : ℕ) (y : ℤ) (old new : Tiles) : Type 0 where
  pub cut : IsTileCut id y old new
  pub area : (tile_at new part).area ≡ record (tile_at old id).area { ylo = y }
  pub value : (tile_at new part).value ≡ (tile_at old id).value

pub cut_from : (old new : Tiles) (id part : ℕ) (y : ℤ) → y <ℤ (tile_at old id).area.yhi → IsPartFrom id part y old new → IsCutFrom id part y old new
cut_from old new id part y to is = elim is [
  | inl whole ↦ record {
    cut = subst (IsTileCut id y old) (sym whole.2) (cut_none old id y);
    area = ap (λ (t : Tiles). (tile_at t part).area) whole.2 ∙ ap (λ (k : ℕ). (tile_at old k).area) whole.1
        ∙ ap (λ (v : ℤ). record (tile_at old id).area { ylo = v }) whole.0;
    value = ap (λ (t : Tiles). (tile_at t part).value) whole.2 ∙ ap (λ (k : ℕ). (tile_at old k).value) whole.1;
  }
  | inr some ↦ record { cut = cut_one old new id some.0 part y some.1 to some.2; area = some.2.high; value = some.2.high_value }
]

-- A tile is cut below and above: what is left is some of its rows.
pub laid_cut : (old mid new : Tiles) (id part last : ℕ) (y top : ℤ) → IsPartition new → IsTaken old id → (tile_at old id).area.ylo ≤ℤ y → y <ℤ top
    → top ≤ℤ (tile_at old id).area.yhi
    → IsTileCut id y old mid → (tile_at mid part).area ≡ record (tile_at old id).area { ylo = y } → (tile_at mid part).value ≡ (tile_at old id).value
    → IsTileCut part top mid new → (tile_at new last).area ≡ record (tile_at mid part).area { yhi = top } → (tile_at new last).value ≡ (tile_at mid part).value
    → IsLaid (record (tile_at old id).area { ylo = y; yhi = top }) (tile_at old id).value last old new
laid_cut old mid new id part last y top partition taken from wide to low low_area low_value high high_area high_value =
    let area : Rect = record (tile_at old id).area { ylo = y; yhi = top } in
    let proper = taken.proper in
    let corner : Square = square_at area.xlo y in
    let covered : Covers area corner = record {
      right_of_xlo = omega (arith, ints);
      left_of_xhi = proper.wide;
      above_ylo = omega (arith, ints);
      below_yhi = wide;
    } in
    let in_part : Covers (tile_at mid part).area corner =
    subst (λ (r : Rect). Covers r corner) (sym low_area)
    (record { right_of_xlo = omega (arith, ints); left_of_xhi = proper.wide; above_ylo = omega (arith, ints); below_yhi = omega (arith, ints) }) in
    record {
      here = high_area ∙ ap (λ (r : Rect). record r { yhi = top }) low_area;
      value_here = high_value ∙ low_value;
      elsewhere = λ k s owns out. (
          let b = high.source k s owns in
          let a = low.source b.0 s b.1 in
          (a.0, a.1, as_wide_then (tile_at old a.0) (tile_at mid b.0) (tile_at new k) a.2 b.2));
      beside = λ k x h owns up down out.
          let b = high.source k (square_at x h) owns in
          let a = low.source b.0 (square_at x h) b.1 in
          let j = a.0 in
          let inside : Covers (record (tile_at old id).area { ylo = y }) (square_at x h)
          → ⊥ = λ c. out (record { right_of_xlo = c.right_of_xlo; left_of_xhi = c.left_of_xhi; above_ylo = up; below_yhi = down }) in
          let here = low.others j (owner_taken old j _ a.1) (λ e.
          let c = (subst (λ (v : ℕ). Owns old v (square_at x h)) e a.1).covers in
          inside (record { right_of_xlo = c.right_of_xlo; left_of_xhi = c.left_of_xhi; above_ylo = up; below_yhi = c.below_yhi })) in
          let mine = alike_owns old mid j _ here a.1 in
          let there = high.others j (owner_taken mid j _ mine)
          (λ e. inside (subst (λ (r : Rect). Covers r (square_at x h)) low_area (subst (λ (v : ℕ). Owns mid v (square_at x h)) e mine).covers)) in
          let one = partition.one k j (square_at x h) owns (alike_owns mid new j _ there mine) in (
            j,
            a.1,
            subst (λ (v : ℕ). AreAlike (tile_at old j) (tile_at new v)) (sym one)
                (alike_then (tile_at old j) (tile_at mid j) (tile_at new j) here there),
          );
      untouched = λ j had none.
          let a = low.others j had (λ e. none corner covered
          (record {
            covers = subst (λ (v : ℕ). Covers (tile_at old v).area corner) (sym e)
                (record { right_of_xlo = omega (arith, ints); left_of_xhi = proper.wide; above_ylo = from; below_yhi = omega (arith, ints) });
          })) in
          let b = high.others j (alike_taken old mid j a had)
          (λ e. none corner covered (alike_owned old mid j corner a
          (record { covers = subst (λ (v : ℕ). Covers (tile_at mid v).area corner) (sym e) in_part }))) in
          alike_then (tile_at old j) (tile_at mid j) (tile_at new j) a b;
      upright = λ j x h p q n m. (let a = low.upright j x h p q n in high.upright a.0 x h a.1 a.2 m);
    }

-- The whole of a tile, as it was.
pub laid_self : (tiles : Tiles) (id : ℕ) → IsLaid (tile_at tiles id).area (tile_at tiles id).value id tiles tiles
laid_self tiles id = record {
  here = refl;
  value_here = refl;
  elsewhere = λ k s owns out. (k, owns, as_wide_self (tile_at tiles k));
  beside = λ k x h owns up down out. (k, owns, alike_self (tile_at tiles k));
  untouched = λ j taken none. alike_self (tile_at tiles j);
  upright = λ j x h p q n m. (j, p, q);
}

-- One area after another that has its squares and is of the same rows.
pub laid_then : (old mid new : Tiles) (area more : Rect) (value other id last : ℕ) → LiesWithin area more → more.ylo ≡ area.ylo → more.yhi ≡ area.yhi
    → IsLaid area value id old mid → IsLaid more other last mid new → IsLaid more other last old new
laid_then old mid new area more value other id last within low high p q = record {
  here = q.here;
  value_here = q.value_here;
  elsewhere = λ k s owns out. (
      let b = q.elsewhere k s owns out in
      let a = p.elsewhere b.0 s b.1 (λ c. out (wider s c)) in
      (a.0, a.1, as_wide_then (tile_at old a.0) (tile_at mid b.0) (tile_at new k) a.2 b.2));
  beside = λ k x h owns up down out. (
      let b = q.beside k x h owns up down out in
      let a = p.beside b.0 x h b.1 (omega (arith, ints)) (omega (arith, ints)) (λ c. out (wider (square_at x h) c)) in
      (a.0, a.1, alike_then (tile_at old a.0) (tile_at mid b.0) (tile_at new k) a.2 b.2));
  untouched = λ j taken none.
      let a = p.untouched j taken (λ s c owns. none s (wider s c) owns) in
      let b = q.untouched j (alike_taken old mid j a taken) (λ s c owns. none s c (alike_owned old mid j s a owns)) in
      alike_then (tile_at old j) (tile_at mid j) (tile_at new j) a b;
  upright = λ j x h r s n m. (let a = p.upright j x h r s (λ e. n (e ∙ sym low)) (λ e. m (e ∙ sym high)) in q.upright a.0 x h a.1 a.2 n m);
} where
  wider : (s : Square) → Covers area s → Covers more s
  wider s c = record { right_of_xlo = omega (arith, ints); left_of_xhi = omega (arith, ints); above_ylo = omega (arith, ints); below_yhi = omega (arith, ints) }

-- A tile gets a value.
module _ (old new : Tiles) (id value : ℕ) (put : IsPut id (record (tile_at old id) { value = value }) old new) where
  same_but_value : (k : ℕ) → (tile_at new k) ≡ record (tile_at old k) { value = (tile_at new k).value }
  same_but_value k = elim (cases_eq k id) [
    | inl e ↦ subst (λ (v : ℕ). tile_at new v ≡ record (tile_at old v) { value = (tile_at new v).value }) (sym e)
        (put.here ∙ ap (λ (v : ℕ). record (tile_at old id) { value = v }) (sym (ap (λ (t : Tile). t.value) put.here)))
    | inr n ↦ put.others k n ∙ ap (λ (v : ℕ). record (tile_at old k) { value = v }) (sym (ap (λ (t : Tile). t.value) (put.others k n)))
  ]

  areas : (k : ℕ) → (tile_at new k).area ≡ (tile_at old k).area
  areas k = ap (λ (t : Tile). t.area) (same_but_value k)

  own : (k : ℕ) (s : Square) → Owns old k s → Owns new k s
  own k s owns = record { covers = subst (λ (r : Rect). Covers r s) (sym (areas k)) owns.covers }

  back : (k : ℕ) (s : Square) → Owns new k s → Owns old k s
  back k s owns = record { covers = subst (λ (r : Rect). Covers r s) (areas k) owns.covers }

  pub value_partition : IsPartition old → IsPartition new
  value_partition partition = partition_moves old new partition areas

  -- a stitch that is as it was leads where it led
  leads : (k : ℕ) (stitch : Tile → ℕ) (to : Tile → Square) → stitch (tile_at new k) ≡ stitch (tile_at old k) → to (tile_at new k) ≡ to (tile_at old k)
      → Leads old (stitch (tile_at old k)) (to (tile_at old k)) → Leads new (stitch (tile_at new k)) (to (tile_at new k))
  leads k stitch to same at led inside =
      own (stitch (tile_at new k)) (to (tile_at new k))
      (subst (λ (v : ℕ). Owns old v (to (tile_at new k))) (sym same)
      (subst (λ (s : Square). Owns old (stitch (tile_at old k)) s) (sym at) (led (subst (Covers plane_range) at inside))))

  pub value_stitches : HasStitches old → HasStitches new
  value_stitches stitches = record {
    above = λ k taken. leads k (λ t. t.above) square_above (ap (λ (t : Tile). t.above) (same_but_value k))
        (ap (λ (t : Tile). square_above t) (same_but_value k)) (stitches.above k (was k taken));
    right = λ k taken. leads k (λ t. t.right) square_right (ap (λ (t : Tile). t.right) (same_but_value k))
        (ap (λ (t : Tile). square_right t) (same_but_value k)) (stitches.right k (was k taken));
    below = λ k taken. leads k (λ t. t.below) square_below (ap (λ (t : Tile). t.below) (same_but_value k))
        (ap (λ (t : Tile). square_below t) (same_but_value k)) (stitches.below k (was k taken));
    left = λ k taken. leads k (λ t. t.left) square_left (ap (λ (t : Tile). t.left) (same_but_value k)) (ap (λ (t : Tile). square_left t) (same_but_value k))
        (stitches.left k (was k taken));
  } where
    was : (k : ℕ) → IsTaken new k → IsTaken old k
    was k taken = record { proper = subst IsProper (areas k) taken.proper }

  others : (k : ℕ) → (k ≡ id → ⊥) → AreAlike (tile_at old k) (tile_at new k)
  others k n = record { area = areas k; value = ap (λ (t : Tile). t.value) (put.others k n) }

  pub laid_value : IsTaken old id → IsLaid (tile_at old id).area value id old new
  laid_value taken = record {
    here = areas id;
    value_here = ap (λ (t : Tile). t.value) put.here;
    elsewhere = λ k s owns out. (
      k,
      back k s owns,
      alike_wide (tile_at old k) (tile_at new k)
          (others k (λ e. out (subst (λ (v : ℕ). Covers (tile_at old v).area s) e (back k s owns).covers))),
    );
    beside = λ k x h owns up down out. (
      k,
      back k _ owns,
      others k
          (λ e. out (subst (λ (v : ℕ). Covers (tile_at old v).area (square_at x h)) e (back k _ owns).covers)),
    );
    untouched = λ j had none. others j (λ e.
        let c = corner_covered (tile_at old id).area taken.proper in
        none _ c (record {
          covers = subst (λ (v : ℕ). Covers (tile_at old v).area (square_at (tile_at old id).area.xlo (tile_at old id).area.ylo)) (sym e) c;
        }));
    upright = λ j x h p q n m. (j, own j _ p, own j _ q);
  }

-- Two tiles of the same rows and value, side by side, are joined.
pub laid_join : (old new : Tiles) (left right : ℕ) → IsTaken old left → IsTaken old right → (tile_at old right).area.xlo ≡ (tile_at old left).area.xhi
    → (tile_at old right).area.ylo ≡ (tile_at old left).area.ylo
    → (tile_at old right).area.yhi ≡ (tile_at old left).area.yhi → IsJoinedRight left right old new
    → IsLaid (record (tile_at old left).area { xhi = (tile_at old right).area.xhi }) (tile_at old left).value left old new
laid_join old new left right taken other_taken meet low high join = record {
  here = join.whole;
  value_here = join.value;
  elsewhere = λ k s owns out. (let alike = stays k s owns out in (k, alike_owned old new k s alike owns, alike_wide (tile_at old k) (tile_at new k) alike));
  beside = λ k x h owns up down out. (let alike = stays k (square_at x h) owns out in (k, alike_owned old new k _ alike owns, alike));
  untouched = λ j had none. join.others j (λ e.
      none _ from_left (subst (λ (v : ℕ). Owns old v (square_at (tile_at old left).area.xlo (tile_at old left).area.ylo)) (sym e) own_left))
      (λ e. none _ from_right (subst (λ (v : ℕ). Owns old v (square_at (tile_at old right).area.xlo (tile_at old right).area.ylo)) (sym e) own_right));
  upright = λ j x h p q n m. elim (cases_eq j left) [
    | inl e ↦ (
      left,
      in_left (square_at x h) (subst (λ (v : ℕ). Owns old v (square_at x h)) e p),
      in_left (square_at x (h +ℤ pos 1))
          (subst (λ (v : ℕ). Owns old v (square_at x (h +ℤ pos 1))) e q),
    )
    | inr a ↦ elim (cases_eq j right) [
      | inl e ↦ (
        left,
        in_right (square_at x h) (subst (λ (v : ℕ). Owns old v (square_at x h)) e p),
        in_right (square_at x (h +ℤ pos 1))
            (subst (λ (v : ℕ). Owns old v (square_at x (h +ℤ pos 1))) e q),
      )
      | inr b ↦ (let alike = join.others j a b in (j, alike_owns old new j _ alike p, alike_owns old new j _ alike q))
    ]
  ];
} where
  stays : (k : ℕ) (s : Square) → Owns new k s → (Covers (record (tile_at old left).area { xhi = (tile_at old right).area.xhi }) s → ⊥)
      → AreAlike (tile_at old k) (tile_at new k)
  stays k s owns out = elim (cases_eq k right) [
    | inl e ↦ absurd (join.gone (subst (IsTaken new) e (owner_taken new k s owns)))
    | inr n ↦ elim (cases_eq k left) [
      | inl e ↦ absurd (out (subst (λ (r : Rect). Covers r s) join.whole (subst (λ (v : ℕ). Owns new v s) e owns).covers))
      | inr m ↦ join.others k m n
    ]
  ]

  own_left : Owns old left (square_at (tile_at old left).area.xlo (tile_at old left).area.ylo)
  own_left = record { covers = corner_covered (tile_at old left).area taken.proper }

  own_right : Owns old right (square_at (tile_at old right).area.xlo (tile_at old right).area.ylo)
  own_right = record { covers = corner_covered (tile_at old right).area other_taken.proper }

  from_left : Covers (record (tile_at old left).area { xhi = (tile_at old right).area.xhi }) (square_at (tile_at old left).area.xlo (tile_at old left).area.ylo)
  from_left = let p = taken.proper in let q = other_taken.proper in
      record { right_of_xlo = omega (arith, ints); left_of_xhi = omega (arith, ints); above_ylo = omega (arith, ints); below_yhi = p.high }

  from_right : Covers (record (tile_at old left).area { xhi = (tile_at old right).area.xhi })
      (square_at (tile_at old right).area.xlo (tile_at old right).area.ylo)
  from_right = let p = taken.proper in let q = other_taken.proper in
      record { right_of_xlo = omega (arith, ints); left_of_xhi = q.wide; above_ylo = omega (arith, ints); below_yhi = omega (arith, ints) }

  in_left : (s : Square) → Owns old left s → Owns new left s
  in_left s owns = let c = owns.covers in let q = other_taken.proper in
      area_owns new left _ s join.whole (record {
        right_of_xlo = c.right_of_xlo;
        left_of_xhi = omega (arith, ints);
        above_ylo = c.above_ylo;
        below_yhi = c.below_yhi;
      })

  in_right : (s : Square) → Owns old right s → Owns new left s
  in_right s owns = let c = owns.covers in let q = taken.proper in
      area_owns new left _ s join.whole (record {
        right_of_xlo = omega (arith, ints);
        left_of_xhi = c.left_of_xhi;
        above_ylo = omega (arith, ints);
        below_yhi = omega (arith, ints);
      })
