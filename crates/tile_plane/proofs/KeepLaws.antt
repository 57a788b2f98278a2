-- A list of tiles that have only grown upward is as wide and as tall as before, and what a step up one column does.
use Rattle.tile_plane.proofs.Common.{◌≡◌, inl, inr, ℕ, ℤ, pos, ◌+ℤ◌, ◌-ℤ◌, ◌≤ℤ◌, ◌<ℤ◌, refl, sym, ◌∙◌, ap, subst, arith, cases_eq, ints, by_lt_z}
use Rattle.tile_plane.proofs.Common.{Rect, Covers, plane_range, Tiles, tile_at, IsTaken, Owns, IsPartition, HasStitches, square_above, square_below}
use Rattle.tile_plane.proofs.Common.{square_at, IsJoinedUp, IsWideAt, IsTallAt, AreGrown}
use Rattle.tile_plane.proofs.TileLaws.{owner_taken}
use Rattle.tile_plane.proofs.SideLaws.{beside_above, beside_below}
use Rattle.tile_plane.proofs.BesideLaws.{next_above, next_below}

pub grown_self : (tiles : Tiles) → AreGrown tiles tiles
grown_self tiles = record { goes = λ j. (j, λ s owns. owns); source = λ k s owns. (k, owns, refl, refl, refl) }

pub grown_then : (old mid new : Tiles) → AreGrown old mid → AreGrown mid new → AreGrown old new
grown_then old mid new p q = record {
  goes = λ j. (let a = p.goes j in let b = q.goes a.0 in (b.0, λ s owns. b.1 s (a.1 s owns)));
  source = λ k s owns. (let b = q.source k s owns in let a = p.source b.0 s b.1 in (a.0, a.1, b.2 ∙ a.2, b.3 ∙ a.3, b.4 ∙ a.4));
}

pub wide_kept : (old new : Tiles) (y : ℤ) → IsPartition new → AreGrown old new → IsWideAt old y → IsWideAt new y
wide_kept old new y partition grown wide = record {
  apart = λ a b x p q same. (
      let f = grown.source a (square_at x y) p in
      let g = grown.source b (square_at (x +ℤ pos 1) y) q in
      let one = wide.apart f.0 g.0 x f.1 g.1 (sym f.2 ∙ same ∙ g.2) in
      let to = grown.goes g.0 in
      partition.one a to.0 (square_at x y) p (to.1 (square_at x y) (subst (λ (v : ℕ). Owns old v (square_at x y)) one f.1))
      ∙ sym (partition.one b to.0 (square_at (x +ℤ pos 1) y) q (to.1 (square_at (x +ℤ pos 1) y) g.1)));
}

pub tall_kept : (old new : Tiles) (x y : ℤ) → IsPartition new → AreGrown old new → IsTallAt old x y → IsTallAt new x y
tall_kept old new x y partition grown tall = record {
  apart = λ a b p q low high same. (
      let f = grown.source a (square_at x y) p in
      let g = grown.source b (square_at x (y +ℤ pos 1)) q in
      let one = tall.apart f.0 g.0 f.1 g.1 (sym f.3 ∙ low ∙ g.3) (sym f.4 ∙ high ∙ g.4) (sym f.2 ∙ same ∙ g.2) in
      let to = grown.goes g.0 in
      partition.one a to.0 (square_at x y) p (to.1 (square_at x y) (subst (λ (v : ℕ). Owns old v (square_at x y)) one f.1))
      ∙ sym (partition.one b to.0 (square_at x (y +ℤ pos 1)) q (to.1 (square_at x (y +ℤ pos 1)) g.1)));
}

-- a join of two of one value and the same columns
pub join_grows : (old new : Tiles) (id other : ℕ) → IsTaken old id → IsTaken old other → (tile_at old other).area.ylo ≡ (tile_at old id).area.yhi
    → (tile_at old other).area.xlo ≡ (tile_at old id).area.xlo
    → (tile_at old other).area.xhi ≡ (tile_at old id).area.xhi → (tile_at old other).value ≡ (tile_at old id).value → IsJoinedUp id other old new
    → AreGrown old new
join_grows old new id other taken other_taken meet low high value join = record {
  goes = λ j. elim (cases_eq j other) [
    | inl e ↦ (
      id,
      λ s owns. (
          let c = (subst (λ (v : ℕ). Owns old v s) e owns).covers in
          let proper = taken.proper in
          record { covers = subst (λ (r : Rect). Covers r s) (sym join.whole) (omega (arith, ints)) }),
    )
    | inr n ↦ elim (cases_eq j id) [
      | inl e ↦ (
        id,
        λ s owns. (
            let c = (subst (λ (v : ℕ). Owns old v s) e owns).covers in
            let proper = other_taken.proper in
            record { covers = subst (λ (r : Rect). Covers r s) (sym join.whole) (omega (arith, ints)) }),
      )
      | inr m ↦ (j, λ s owns. record { covers = subst (λ (r : Rect). Covers r s) (sym (join.others j m n).area) owns.covers })
    ]
  ];
  source = λ k s owns. elim (cases_eq k other) [
    | inl e ↦ absurd (join.gone (subst (IsTaken new) e (owner_taken new k s owns)))
    | inr n ↦ elim (cases_eq k id) [
      | inl e ↦ (
          let c = subst (λ (r : Rect). Covers r s) join.whole (subst (λ (v : ℕ). Owns new v s) e owns).covers in
          let is = ap (λ (v : ℕ). (tile_at new v).value) e ∙ join.value in
          let left = ap (λ (v : ℕ). (tile_at new v).area.xlo) e ∙ ap (λ (r : Rect). r.xlo) join.whole in
          let right = ap (λ (v : ℕ). (tile_at new v).area.xhi) e ∙ ap (λ (r : Rect). r.xhi) join.whole in
          by_lt_z s.y (tile_at old id).area.yhi
          (λ less. (id, omega (arith, ints), is, left, right))
          (λ more. (other, omega (arith, ints), is ∙ sym value, left ∙ sym low, right ∙ sym high)))
      | inr m ↦ (
          let alike = join.others k m n in (
            k,
            record { covers = subst (λ (r : Rect). Covers r s) alike.area owns.covers },
            alike.value,
            ap (λ (r : Rect). r.xlo) alike.area,
            ap
                (λ (r : Rect). r.xhi) alike.area,
          ))
    ]
  ];
}

-- the column is tall from a row up to the tile at which the walk is
pub record IsTallBelow (tiles : Tiles) (x from : ℤ) (id : ℕ) : Type 0 where
  pub taken : IsTaken tiles id
  pub low : (tile_at tiles id).area.xlo ≤ℤ x
  pub high : x <ℤ (tile_at tiles id).area.xhi
  pub done : (y : ℤ) → from ≤ℤ y → (y +ℤ pos 1) <ℤ (tile_at tiles id).area.yhi → IsTallAt tiles x y

-- both squares in one tile
pub tall_in_one : (tiles : Tiles) (x y : ℤ) (id : ℕ) → IsPartition tiles → Owns tiles id (square_at x y) → Owns tiles id (square_at x (y +ℤ pos 1))
    → IsTallAt tiles x y
tall_in_one tiles x y id partition p q =
    record { apart = λ a b r s low high same. partition.one a id (square_at x y) r p ∙ sym (partition.one b id (square_at x (y +ℤ pos 1)) s q) }

-- the walk goes on to the next tile where the two are not to be joined
pub tall_on : (tiles : Tiles) (x from : ℤ) (id next : ℕ) → IsPartition tiles → IsTallBelow tiles x from id
    → Owns tiles next (square_at x (tile_at tiles id).area.yhi) → (tile_at tiles next).area.ylo ≡ (tile_at tiles id).area.yhi
    → ((tile_at tiles id).area.xlo ≡ (tile_at tiles next).area.xlo → (tile_at tiles id).area.xhi ≡ (tile_at tiles next).area.xhi
    → (tile_at tiles id).value ≡ (tile_at tiles next).value → ⊥)
    → IsTallBelow tiles x from next
tall_on tiles x from id next partition below owns meet other =
    let c = owns.covers in
    let low = below.low in
    let high = below.high in
    let proper = below.taken.proper in
    record {
      taken = owner_taken tiles next _ owns;
      low = c.right_of_xlo;
      high = c.left_of_xhi;
      done = λ y p q. by_lt_z (y +ℤ pos 1) (tile_at tiles id).area.yhi
          (λ less. below.done y p less)
          (λ more. by_lt_z (tile_at tiles id).area.yhi (y +ℤ pos 1)
          (λ past. tall_in_one tiles x y next partition
          (record {
            covers = record {
              right_of_xlo = c.right_of_xlo;
              left_of_xhi = c.left_of_xhi;
              above_ylo = omega (arith, ints);
              below_yhi = omega (arith, ints);
            };
          })
          (record {
            covers = record {
              right_of_xlo = c.right_of_xlo;
              left_of_xhi = c.left_of_xhi;
              above_ylo = omega (arith, ints);
              below_yhi = omega (arith, ints);
            };
          }))
          (λ here.
          let at : (tile_at tiles id).area.yhi ≡ y +ℤ pos 1 = omega (arith, ints) in
          let mine : Owns tiles id (square_at x y) =
          record { covers = record { right_of_xlo = low; left_of_xhi = high; above_ylo = omega (arith, ints); below_yhi = omega (arith, ints) } } in
          let its : Owns tiles next (square_at x (y +ℤ pos 1)) = subst (λ (v : ℤ). Owns tiles next (square_at x v)) at owns in
          record {
            apart = λ a b r s left right same. (
                let e = partition.one a id (square_at x y) r mine in
                let f = partition.one b next (square_at x (y +ℤ pos 1)) s its in
                absurd (other
                (subst (λ (v : ℕ). (tile_at tiles v).area.xlo ≡ (tile_at tiles next).area.xlo) e
                (subst (λ (v : ℕ). (tile_at tiles a).area.xlo ≡ (tile_at tiles v).area.xlo) f left))
                (subst (λ (v : ℕ). (tile_at tiles v).area.xhi ≡ (tile_at tiles next).area.xhi) e
                (subst (λ (v : ℕ). (tile_at tiles a).area.xhi ≡ (tile_at tiles v).area.xhi) f right))
                (subst (λ (v : ℕ). (tile_at tiles v).value ≡ (tile_at tiles next).value) e
                (subst (λ (v : ℕ). (tile_at tiles a).value ≡ (tile_at tiles v).value) f same))));
          }));
    }

-- and stays at the tile where they are joined
pub tall_joined : (old new : Tiles) (x from : ℤ) (id next : ℕ) → IsPartition new → AreGrown old new → IsTallBelow old x from id → IsTaken old next
    → (tile_at old next).area.ylo ≡ (tile_at old id).area.yhi
    → IsJoinedUp id next old new → IsTallBelow new x from id
tall_joined old new x from id next partition grown below next_taken meet join =
    let low = below.low in
    let high = below.high in
    let proper = below.taken.proper in
    let more = next_taken.proper in
    let is_xlo = ap (λ (r : Rect). r.xlo) join.whole in
    let is_xhi = ap (λ (r : Rect). r.xhi) join.whole in
    let is_ylo = ap (λ (r : Rect). r.ylo) join.whole in
    let is_yhi = ap (λ (r : Rect). r.yhi) join.whole in
    record {
      taken = omega (arith, ints);
      low = omega (arith, ints);
      high = omega (arith, ints);
      done = λ y p q. by_lt_z (y +ℤ pos 1) (tile_at old id).area.yhi
          (λ less. tall_kept old new x y partition grown (below.done y p less))
          (λ above. tall_in_one new x y id partition
          (omega (arith, ints))
          (omega (arith, ints)));
    }

-- at first it is the tile of the square above the lowest row, once that row is tall
pub tall_begins : (tiles : Tiles) (x y from : ℤ) (id : ℕ) → from +ℤ pos 1 ≡ y → IsPartition tiles → Owns tiles id (square_at x y) → IsTallAt tiles x from
    → IsTallBelow tiles x from id
tall_begins tiles x y from id next partition owns tall =
    let c = owns.covers in
    record {
      taken = owner_taken tiles id _ owns;
      low = c.right_of_xlo;
      high = c.left_of_xhi;
      done = λ h p q. by_lt_z from h
          (λ more. tall_in_one tiles x h id partition
          (record {
            covers = record {
              right_of_xlo = c.right_of_xlo;
              left_of_xhi = c.left_of_xhi;
              above_ylo = omega (arith, ints, next);
              below_yhi = omega (arith, ints);
            };
          })
          (record {
            covers = record {
              right_of_xlo = c.right_of_xlo;
              left_of_xhi = c.left_of_xhi;
              above_ylo = omega (arith, ints, next);
              below_yhi = omega (arith, ints);
            };
          }))
          (λ here. subst (λ (v : ℤ). IsTallAt tiles x v) (omega (arith, ints)) tall);
    }

-- the tiles to which the stitches at the ends of a tile lead begin and end there
module _ (tiles : Tiles) (id : ℕ) (partition : IsPartition tiles) (stitches : HasStitches tiles) (taken : IsTaken tiles id) where
  pub upon_begins : (tile_at tiles id).area.yhi <ℤ plane_range.yhi → (tile_at tiles (tile_at tiles id).above).area.ylo ≡ (tile_at tiles id).area.yhi
  upon_begins inside =
      let proper = taken.proper in
      beside_above tiles id (tile_at tiles id).above ((tile_at tiles id).area.xhi -ℤ pos 1) partition taken (omega (arith, ints)) (omega (arith, ints))
      (next_above tiles id partition stitches taken inside)

  pub under_ends : plane_range.ylo <ℤ (tile_at tiles id).area.ylo → (tile_at tiles (tile_at tiles id).below).area.yhi ≡ (tile_at tiles id).area.ylo
  under_ends inside =
      let proper = taken.proper in
      beside_below tiles id (tile_at tiles id).below (tile_at tiles id).area.xlo partition taken (omega (arith, ints)) (omega (arith, ints))
      (next_below tiles id partition stitches taken inside)

-- the stitch of a tile under its lower end leads to the only tile that it may be joined with there
pub tall_under : (tiles : Tiles) (id under : ℕ) (x y : ℤ) → IsPartition tiles → IsTaken tiles id → Owns tiles under (square_below (tile_at tiles id))
    → (tile_at tiles id).area.ylo ≡ y +ℤ pos 1
    → ((tile_at tiles under).area.xlo ≡ (tile_at tiles id).area.xlo → (tile_at tiles under).area.xhi ≡ (tile_at tiles id).area.xhi
    → (tile_at tiles under).value ≡ (tile_at tiles id).value → ⊥)
    → Owns tiles id (square_at x (y +ℤ pos 1)) → IsTallAt tiles x y
tall_under tiles id under x y partition taken leads begins other owns = record {
  apart = λ a b p q low high same. (
      let proper = taken.proper in
      let its = partition.one b id (square_at x (y +ℤ pos 1)) q owns in
      let left : (tile_at tiles a).area.xlo ≡ (tile_at tiles id).area.xlo = low ∙ ap (λ (v : ℕ). (tile_at tiles v).area.xlo) its in
      let right : (tile_at tiles a).area.xhi ≡ (tile_at tiles id).area.xhi = high ∙ ap (λ (v : ℕ). (tile_at tiles v).area.xhi) its in
      let at_end : Owns tiles a (square_below (tile_at tiles id)) = omega (arith, ints, begins, left, right) in
      let one = partition.one a under (square_below (tile_at tiles id)) at_end leads in
      absurd (other
      (subst (λ (v : ℕ). (tile_at tiles v).area.xlo ≡ (tile_at tiles id).area.xlo) one left)
      (subst (λ (v : ℕ). (tile_at tiles v).area.xhi ≡ (tile_at tiles id).area.xhi) one right)
      (subst (λ (v : ℕ). (tile_at tiles v).value ≡ (tile_at tiles id).value) one (same ∙ ap (λ (v : ℕ). (tile_at tiles v).value) its))));
}

-- and the one upon its upper end
pub tall_upon : (tiles : Tiles) (id upon : ℕ) (x y : ℤ) → IsPartition tiles → IsTaken tiles id → Owns tiles upon (square_above (tile_at tiles id))
    → (tile_at tiles id).area.yhi ≡ y +ℤ pos 1
    → ((tile_at tiles id).area.xlo ≡ (tile_at tiles upon).area.xlo → (tile_at tiles id).area.xhi ≡ (tile_at tiles upon).area.xhi
    → (tile_at tiles id).value ≡ (tile_at tiles upon).value → ⊥)
    → Owns tiles id (square_at x y) → IsTallAt tiles x y
tall_upon tiles id upon x y partition taken leads ends other owns = record {
  apart = λ a b p q low high same. (
      let proper = taken.proper in
      let its = partition.one a id (square_at x y) p owns in
      let left : (tile_at tiles id).area.xlo ≡ (tile_at tiles b).area.xlo = sym (ap (λ (v : ℕ). (tile_at tiles v).area.xlo) its) ∙ low in
      let right : (tile_at tiles id).area.xhi ≡ (tile_at tiles b).area.xhi = sym (ap (λ (v : ℕ). (tile_at tiles v).area.xhi) its) ∙ high in
      let at_end : Owns tiles b (square_above (tile_at tiles id)) = omega (arith, ints, ends, left, right) in
      let one = partition.one b upon (square_above (tile_at tiles id)) at_end leads in
      absurd (other
      (subst (λ (v : ℕ). (tile_at tiles id).area.xlo ≡ (tile_at tiles v).area.xlo) one left)
      (subst (λ (v : ℕ). (tile_at tiles id).area.xhi ≡ (tile_at tiles v).area.xhi) one right)
      (subst (λ (v : ℕ). (tile_at tiles id).value ≡ (tile_at tiles v).value) one (sym (ap (λ (v : ℕ). (tile_at tiles v).value) its) ∙ same))));
}
