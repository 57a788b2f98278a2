-- Tiles that are only cut across are as wide as before, and what a step along a row does.
use Rattle.tile_plane.proofs.Common.{◌≡◌, ◌≢◌, inl, inr, ℕ, ℤ, pos, ◌+ℤ◌, ◌≤ℤ◌, ◌<ℤ◌, refl, sym, ◌∙◌, ap, subst, arith, cases_eq, ints, by_lt_z}
use Rattle.tile_plane.proofs.Common.{Square, Rect, Covers, IsProper, AreSame, Tiles, tile_at, IsTaken, Owns, IsPartition, HasStitches, value_at}
use Rattle.tile_plane.proofs.Common.{square_at, AreAlike, IsCutAcross, IsPartFrom, AreCut, AreCutAt, CrossesHeight, NothingElseIsCut}
use Rattle.tile_plane.proofs.TileLaws.{owner_taken}

pub cut_self : (tiles : Tiles) → AreCut tiles tiles
cut_self tiles = record { source = λ k s owns. (k, owns, refl, refl, refl, omega (arith, ints)); rows = λ j x other y p q. (j, p, q) }

pub cut_then : (old mid new : Tiles) → AreCut old mid → AreCut mid new → AreCut old new
cut_then old mid new p q = record {
  source = λ k s owns.
      let b = q.source k s owns in
      let a = p.source b.0 s b.1 in
      let inner = b.5 in
      let outer = a.5 in
      (a.0, a.1, b.2 ∙ a.2, b.3 ∙ a.3, b.4 ∙ a.4, omega (arith, ints));
  rows = λ j x other y r s. let a = p.rows j x other y r s in q.rows a.0 x other y a.1 a.2;
}

-- a row that tiles begin with stays one
pub begun_after_cuts : (old new : Tiles) (y from to : ℤ) → AreCut old new → AreCutAt old y from to → AreCutAt new y from to
begun_after_cuts old new y from to cut at = record {
  begin = λ k x low high owns.
      let was = cut.source k (square_at x y) owns in
      let begins = at.begin was.0 x low high was.1 in
      let within = was.5 in
      omega (arith, ints);
}

-- the tile of this number is cut at the height h
module _ (old new : Tiles) (id lower upper : ℕ) (h : ℤ) (from : (tile_at old id).area.ylo <ℤ h) (to : h <ℤ (tile_at old id).area.yhi)
    (cut : IsCutAcross id lower upper h old new) where
  lower_owns : (s : Square) → Owns old id s → s.y <ℤ h → Owns new lower s
  lower_owns s owns under = record { covers = subst (λ (r : Rect). Covers r s) (sym cut.low) (let c = owns.covers in omega (arith, ints)) }

  upper_owns : (s : Square) → Owns old id s → h ≤ℤ s.y → Owns new upper s
  upper_owns s owns over = record { covers = subst (λ (r : Rect). Covers r s) (sym cut.high) (let c = owns.covers in omega (arith, ints)) }

  other_alike : (k : ℕ) → IsTaken old k → k ≢ id → AreAlike (tile_at old k) (tile_at new k)
  other_alike k taken apart = elim cut.free [
    | inl kept ↦ cut.others k (λ e. apart (e ∙ kept.0)) (λ e. kept.1 (subst (IsTaken old) e taken))
    | inr kept ↦ cut.others k (λ e. kept.1 (subst (IsTaken old) e taken)) (λ e. apart (e ∙ kept.0))
  ]

  other_owns : (k : ℕ) (s : Square) → Owns old k s → k ≢ id → Owns new k s
  other_owns k s owns apart = record { covers = subst (λ (r : Rect). Covers r s) (sym (other_alike k (owner_taken old k s owns) apart).area) owns.covers }

  pub cut_once : AreCut old new
  cut_once = record {
    source = λ k s owns. elim (cases_eq k upper) [
      | inl e ↦ (
          let c = subst (λ (r : Rect). Covers r s) cut.high (subst (λ (v : ℕ). Owns new v s) e owns).covers in
          let area = ap (λ (v : ℕ). (tile_at new v).area) e ∙ cut.high in
          let left = ap (λ (r : Rect). r.xlo) area in
          let right = ap (λ (r : Rect). r.xhi) area in
          let low = ap (λ (r : Rect). r.ylo) area in
          let high = ap (λ (r : Rect). r.yhi) area in
          (id, omega (arith, ints), ap (λ (v : ℕ). (tile_at new v).value) e ∙ cut.high_value, left, right, omega (arith, ints)))
      | inr n ↦ elim (cases_eq k lower) [
        | inl e ↦ (
            let c = subst (λ (r : Rect). Covers r s) cut.low (subst (λ (v : ℕ). Owns new v s) e owns).covers in
            let area = ap (λ (v : ℕ). (tile_at new v).area) e ∙ cut.low in
            let left = ap (λ (r : Rect). r.xlo) area in
            let right = ap (λ (r : Rect). r.xhi) area in
            let low = ap (λ (r : Rect). r.ylo) area in
            let high = ap (λ (r : Rect). r.yhi) area in
            (id, omega (arith, ints), ap (λ (v : ℕ). (tile_at new v).value) e ∙ cut.low_value, left, right, omega (arith, ints)))
        | inr m ↦ (
            let alike = cut.others k m n in
            let left = ap (λ (r : Rect). r.xlo) alike.area in
            let right = ap (λ (r : Rect). r.xhi) alike.area in
            let low = ap (λ (r : Rect). r.ylo) alike.area in
            let high = ap (λ (r : Rect). r.yhi) alike.area in
            (k, record { covers = subst (λ (r : Rect). Covers r s) alike.area owns.covers }, alike.value, left, right, omega (arith, ints)))
      ]
    ];
    rows = λ j x away y p q. elim (cases_eq j id) [
      | inl e ↦ (
          let here = subst (λ (v : ℕ). Owns old v (square_at x y)) e p in
          let there = subst (λ (v : ℕ). Owns old v (square_at away y)) e q in
          by_lt_z y h (λ less. (lower, lower_owns _ here less, lower_owns _ there less)) (λ more. (upper, upper_owns _ here more, upper_owns _ there more)))
      | inr n ↦ (j, other_owns j _ p n, other_owns j _ q n)
    ];
  }

  -- what was taken is
  still_taken : (k : ℕ) → IsTaken old k → IsTaken new k
  still_taken k taken = elim (cases_eq k id) [
    | inl e ↦ (
        let was = (subst (IsTaken old) e taken).proper in
        elim cut.free [
          | inl kept ↦ subst (IsTaken new) (kept.0 ∙ sym e) (record { proper = subst IsProper (sym cut.low) (record { wide = was.wide; high = from }) })
          | inr kept ↦ subst (IsTaken new) (kept.0 ∙ sym e) (record { proper = subst IsProper (sym cut.high) (record { wide = was.wide; high = to }) })
        ])
    | inr n ↦ record { proper = subst IsProper (sym (other_alike k taken n).area) taken.proper }
  ]

  -- what stands one upon the other is cut apart at that height alone
  cut_nowhere_else : (j : ℕ) (x y : ℤ) → y +ℤ pos 1 ≢ h → Owns old j (square_at x y) → Owns old j (square_at x (y +ℤ pos 1))
      → (k : ℕ) × Owns new k (square_at x y) × Owns new k (square_at x (y +ℤ pos 1))
  cut_nowhere_else j x y off p q = elim (cases_eq j id) [
    | inl e ↦ (
        let here = subst (λ (v : ℕ). Owns old v (square_at x y)) e p in
        let above = subst (λ (v : ℕ). Owns old v (square_at x (y +ℤ pos 1))) e q in
        by_lt_z y h
        (λ less. (lower, lower_owns _ here less, lower_owns _ above (omega (arith, ints))))
        (λ more. (upper, upper_owns _ here more, upper_owns _ above (omega (arith, ints)))))
    | inr n ↦ (j, other_owns j _ p n, other_owns j _ q n)
  ]

-- the tiles are still those of a plane, of the same values
pub record IsSamePlane (old tiles : Tiles) : Type 0 where
  pub partition : IsPartition tiles
  pub stitches : HasStitches tiles
  pub same : AreSame (value_at old) (value_at tiles)

-- what holds of the tiles while a row is cut
pub record AreCutting (area : Rect) (y : ℤ) (old tiles : Tiles) : Type 0 where
  pub cut : AreCut old tiles
  pub nothing_else : NothingElseIsCut area y old tiles

-- as far as x the tiles of the row begin with it, and the tile of this number is the next
pub record IsRowWalk (tiles : Tiles) (y from to x : ℤ) (id : ℕ) : Type 0 where
  pub taken : IsTaken tiles id
  pub bound : from ≤ℤ x
  pub at : AreCutAt tiles y from x
  pub owns : x <ℤ to → Owns tiles id (square_at x y)

-- what the part of a tile from the row on is, and what has become of the tiles
pub record IsPartStep (area : Rect) (y x : ℤ) (old mid new : Tiles) (part : ℕ) : Type 0 where
  pub cut : AreCut mid new
  pub nothing_else : NothingElseIsCut area y old new
  pub owns : Owns new part (square_at x y)
  pub begins : (tile_at new part).area.ylo ≡ y

-- the tile of a square of the row gives its part from there on
module _ (area : Rect) (y x : ℤ) (old mid new : Tiles) (id part : ℕ) (before : NothingElseIsCut area y old mid) (from : area.xlo ≤ℤ x) (to : x <ℤ area.xhi)
    (owns : Owns mid id (square_at x y)) where
  crossed : (k : ℕ) → AreAlike (tile_at old k) (tile_at mid k) → k ≡ id → (tile_at mid id).area.ylo <ℤ y → CrossesHeight (tile_at old k) area y
  crossed k alike is under =
      let same = sym alike.area ∙ ap (λ (v : ℕ). (tile_at mid v).area) is in
      let covers = owns.covers in
      let left = ap (λ (r : Rect). r.xlo) same in
      let right = ap (λ (r : Rect). r.xhi) same in
      let low = ap (λ (r : Rect). r.ylo) same in
      let high = ap (λ (r : Rect). r.yhi) same in
      omega (arith, ints)

  part_step : IsPartFrom id part y mid new → IsPartStep area y x old mid new part
  part_step (inl whole) = record {
    cut = subst (AreCut mid) (sym whole.2) (cut_self mid);
    nothing_else = subst (NothingElseIsCut area y old) (sym whole.2) before;
    owns = subst (λ (t : Tiles). Owns t part (square_at x y)) (sym whole.2) (subst (λ (v : ℕ). Owns mid v (square_at x y)) (sym whole.1) owns);
    begins = ap (λ (t : Tiles). (tile_at t part).area.ylo) whole.2 ∙ ap (λ (v : ℕ). (tile_at mid v).area.ylo) whole.1 ∙ whole.0;
  }
  part_step (inr split) =
      let lower = split.0 in
      let under = split.1 in
      let cut = split.2 in
      let over = owns.covers.below_yhi in
      record {
        cut = cut_once mid new id lower part y under over cut;
        nothing_else = record {
          others = λ k taken none.
              let was = before.others k taken none in
              let mid_taken : IsTaken mid k = record { proper = subst IsProper (sym was.area) taken.proper } in
              let is = other_alike mid new id lower part y under over cut k mid_taken (λ e. none (crossed k was e under)) in
              record { area = is.area ∙ was.area; value = is.value ∙ was.value };
          stays = λ k taken. still_taken mid new id lower part y under over cut k (before.stays k taken);
          columns = λ j c h off p q.
              let was = before.columns j c h off p q in
              cut_nowhere_else mid new id lower part y under over cut was.0 c h off was.1 was.2;
        };
        owns = upper_owns mid new id lower part y under over cut (square_at x y) owns (omega (arith, ints));
        begins = ap (λ (r : Rect). r.ylo) cut.high;
      }

-- up to the end of a tile that begins with the row
pub cut_at_more : (tiles : Tiles) (id : ℕ) (y from x : ℤ) → IsPartition tiles → AreCutAt tiles y from x → Owns tiles id (square_at x y)
    → (tile_at tiles id).area.ylo ≡ y → AreCutAt tiles y from (tile_at tiles id).area.xhi
cut_at_more tiles id y from x partition at owns begins = record {
  begin = λ k c p q had. by_lt_z c x
      (λ less. at.begin k c p less had)
      (λ more.
      let covers = owns.covers in
      let mine : Owns tiles id (square_at c y) = omega (arith, ints) in
      ap (λ (v : ℕ). (tile_at tiles v).area.ylo) (partition.one k id (square_at c y) had mine) ∙ begins);
}

-- the row is done up to the end of the part, xhi
pub record IsRowStep (area : Rect) (y x : ℤ) (old new : Tiles) (part : ℕ) (xhi : ℤ) : Type 0 where
  pub cutting : AreCutting area y old new
  pub taken : IsTaken new part
  pub owns : Owns new part (square_at x y)
  pub ahead : x <ℤ xhi
  pub at : AreCutAt new y area.xlo xhi

pub row_step : (area : Rect) (y x : ℤ) (old mid new : Tiles) (id part : ℕ) (xhi : ℤ) → AreCutting area y old mid → IsRowWalk mid y area.xlo area.xhi x id
    → x <ℤ area.xhi → IsPartition new → IsPartFrom id part y mid new → xhi ≡ (tile_at new part).area.xhi → IsRowStep area y x old new part xhi
row_step area y x old mid new id part xhi cutting walk more partition split end =
    let step = part_step area y x old mid new id part cutting.nothing_else walk.bound more (walk.owns more) split in
    let covers = step.owns.covers in
    let at = begun_after_cuts mid new y area.xlo x step.cut walk.at in
    record {
      cutting = record { cut = cut_then old mid new cutting.cut step.cut; nothing_else = step.nothing_else };
      taken = owner_taken new part _ step.owns;
      owns = step.owns;
      ahead = omega (arith, ints);
      at = subst (AreCutAt new y area.xlo) (sym end) (cut_at_more new part y area.xlo x partition at step.owns step.begins);
    }

-- and the walk goes on at the tile right of the part
pub row_next : (area : Rect) (y x : ℤ) (old new : Tiles) (part next : ℕ) (xhi : ℤ) → IsRowStep area y x old new part xhi → area.xlo ≤ℤ x
    → xhi ≡ (tile_at new part).area.xhi → (xhi <ℤ area.xhi → Owns new next (square_at (tile_at new part).area.xhi y)) → IsTaken new next
    → IsRowWalk new y area.xlo area.xhi xhi next
row_next area y x old new part next xhi step from end owns taken = record {
  taken = taken;
  bound = let ahead = step.ahead in omega (arith, ints);
  at = step.at;
  owns = λ more. subst (λ (v : ℤ). Owns new next (square_at v y)) (sym end) (owns more);
}
