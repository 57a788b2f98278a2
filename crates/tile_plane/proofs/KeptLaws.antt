-- What stays of tiles away from a piece, and of the tiles of one row.
use Rattle.tile_plane.proofs.Common.{◌≡◌, ◌⊎◌, ℕ, ℤ, pos, ◌+ℤ◌, ◌≤ℤ◌, ◌<ℤ◌, refl, sym, ◌∙◌, subst, arith, ints, Rect, IsProper, Tiles, tile_at, Owns}
use Rattle.tile_plane.proofs.Common.{IsPartition, square_at, IsWideAt, AreAsWide, IsWideBeside, AreKept}

pub kept_self : (area : Rect) (tiles : Tiles) → AreKept area tiles tiles
kept_self area tiles = record { far = λ j taken off. refl; rows = λ j x y off p q. (j, p, q) }

pub kept_then : (area : Rect) (old mid new : Tiles) → AreKept area old mid → AreKept area mid new → AreKept area old new
kept_then area old mid new p q = record {
  far = λ j taken off. (
      let is = p.far j taken off in
      q.far j (record { proper = subst IsProper (sym is) taken.proper }) (subst (λ (r : Rect). (r.xhi <ℤ area.xlo) ⊎ (area.xhi <ℤ r.xlo)) (sym is) off) ∙ is);
  rows = λ j x y off r s. (let a = p.rows j x y off r s in q.rows a.0 x y off a.1 a.2);
}

-- in this row the tiles have the columns and values that they had
pub record IsRowKept (y : ℤ) (old new : Tiles) : Type 0 where
  pub source : (k : ℕ) (x : ℤ) → Owns new k (square_at x y) → (j : ℕ) × Owns old j (square_at x y) × AreAsWide (tile_at old j) (tile_at new k)

-- a tile that has a square of a row has the others between its sides
pub owns_beside : (tiles : Tiles) (k : ℕ) (x c y : ℤ) → Owns tiles k (square_at x y) → (tile_at tiles k).area.xlo ≤ℤ c → c <ℤ (tile_at tiles k).area.xhi
    → Owns tiles k (square_at c y)
owns_beside tiles k x c y owns from to = let covers = owns.covers in
    record { covers = record { right_of_xlo = from; left_of_xhi = to; above_ylo = covers.above_ylo; below_yhi = covers.below_yhi } }

module _ (old new : Tiles) (y : ℤ) (partition : IsPartition new) (row : IsRowKept y old new) where
  -- two tiles that were one are one
  still_one : (a b f : ℕ) (x : ℤ) → Owns new a (square_at x y) → Owns new b (square_at (x +ℤ pos 1) y) → Owns old f (square_at (x +ℤ pos 1) y)
      → AreAsWide (tile_at old f) (tile_at new a) → a ≡ b
  still_one a b f x p q r wide =
      let c = r.covers in
      let d = p.covers in
      let end = wide.xhi in
      partition.one a b (square_at (x +ℤ pos 1) y) (owns_beside new a x (x +ℤ pos 1) y p (omega (arith, ints)) (omega (arith, ints))) q

  pub row_beside : (area : Rect) → IsWideBeside area old y → IsWideBeside area new y
  row_beside area wide = record {
    apart = λ a b x n m p q same. (
        let f = row.source a x p in
        let g = row.source b (x +ℤ pos 1) q in
        let one = wide.apart f.0 g.0 x n m f.1 g.1 (sym f.2.value ∙ same ∙ g.2.value) in
        still_one a b f.0 x p q (subst (λ (v : ℕ). Owns old v (square_at (x +ℤ pos 1) y)) (sym one) g.1) f.2);
  }

  pub row_wide : IsWideAt old y → IsWideAt new y
  row_wide wide = record {
    apart = λ a b x p q same. (
        let f = row.source a x p in
        let g = row.source b (x +ℤ pos 1) q in
        let one = wide.apart f.0 g.0 x f.1 g.1 (sym f.2.value ∙ same ∙ g.2.value) in
        still_one a b f.0 x p q (subst (λ (v : ℕ). Owns old v (square_at (x +ℤ pos 1) y)) (sym one) g.1) f.2);
  }

  pub row_begun : (x : ℤ) → ((k : ℕ) → Owns old k (square_at x y) → (tile_at old k).area.xlo ≡ x) → (k : ℕ) → Owns new k (square_at x y)
      → (tile_at new k).area.xlo ≡ x
  row_begun x begin k owns = let f = row.source k x owns in f.2.xlo ∙ begin f.0 f.1
