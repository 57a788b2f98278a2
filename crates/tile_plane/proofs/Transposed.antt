-- Tiles with x and y exchanged. What holds of the rows of any tiles holds of the columns of the exchanged ones.
use Rattle.tile_plane.proofs.Common.{◌≡◌, inl, inr, ℕ, ℤ, pos, ◌+ℤ◌, ◌<ℤ◌, true, false, cond, List, [], ◌∷◌, Option, Some, None, refl, sym, ◌∙◌, ap}
use Rattle.tile_plane.proofs.Common.{subst, arith, ints, nat_cmp, eq_by_cmp, Square, Rect, LiesWithin, Covers, IsProper, plane_range, Slot, Tile}
use Rattle.tile_plane.proofs.Common.{Tiles, tile_if, tile_at, IsTaken, Owns, IsPartition, square_at, IsPartFrom, IsPartAfter, AreCut, AreCutAt}
use Rattle.tile_plane.proofs.Common.{CrossesHeight, NothingElseIsCut, AreCutAlong, AreCutAlongAt, NothingElseIsCutAlong}
use Rattle.std.specs.Cmp.{nat_cmp_total}
use Rattle.std.specs.FinMap as fin_map

abbrev pub swap_square : Square → Square
swap_square square = record { x = square.y; y = square.x }

abbrev pub swap_rect : Rect → Rect
swap_rect area = record { xlo = area.ylo; ylo = area.xlo; xhi = area.yhi; yhi = area.xhi }

abbrev pub swap_tile : Tile → Tile
swap_tile tile = record { area = swap_rect tile.area; value = tile.value; above = tile.right; right = tile.above; below = tile.left; left = tile.below }

swap_slot : Slot → Slot
swap_slot slot = record {
  xlo = slot.ylo;
  ylo = slot.xlo;
  xhi = slot.yhi;
  yhi = slot.xhi;
  above = slot.right;
  right = slot.above;
  below = slot.left;
  left = slot.below;
  value = slot.value;
}

swap_entries : List (ℕ × Slot) → List (ℕ × Slot)
swap_entries [] = []
swap_entries (e ∷ es) = (e.0, swap_slot e.1) ∷ swap_entries es

pub transposed : Tiles → Tiles
transposed tiles = fin_map.from_entries (swap_entries (fin_map.entries tiles))

swap_found : Option Slot → Option Slot
swap_found None = None
swap_found (Some slot) = Some (swap_slot slot)

find-swap_entries : (k : ℕ) (es : List (ℕ × Slot)) → fin_map.find nat_cmp k (swap_entries es) ≡ swap_found (fin_map.find nat_cmp k es)
unfolding swap_entries swap_found
find-swap_entries k [] = refl
find-swap_entries k (e ∷ es) =
    elim (eq_by_cmp nat_cmp k e.0) as (λ b. cond b (Some (swap_slot e.1)) (fin_map.find nat_cmp k (swap_entries es))
    ≡ swap_found (cond b (Some e.1) (fin_map.find nat_cmp k es))) [
      | true ↦ refl
      | false ↦ find-swap_entries k es
    ]

tile_if-swap_found : (o : Option Slot) → tile_if (swap_found o) ≡ swap_tile (tile_if o)
unfolding swap_found swap_slot
tile_if-swap_found None = refl
tile_if-swap_found (Some slot) = refl

-- each tile is the exchanged one
pub tile_at-transposed : (tiles : Tiles) (k : ℕ) → tile_at (transposed tiles) k ≡ swap_tile (tile_at tiles k)
unfolding transposed
tile_at-transposed tiles k =
    let entries = fin_map.entries tiles in
    ap tile_if (fin_map.get-from_entries nat_cmp_total (swap_entries entries) k ∙ find-swap_entries k entries
    ∙ ap swap_found (sym (fin_map.get-entries tiles k)))
    ∙ tile_if-swap_found (fin_map.get tiles k)

module _ (tiles : Tiles) (k : ℕ) where
  pub area_is : (tile_at (transposed tiles) k).area ≡ swap_rect (tile_at tiles k).area
  area_is = ap (λ (t : Tile). t.area) (tile_at-transposed tiles k)

  pub taken_over : IsTaken tiles k → IsTaken (transposed tiles) k
  taken_over taken = record { proper = subst IsProper (sym area_is) (let proper = taken.proper in omega (arith, ints)) }

  pub taken_back : IsTaken (transposed tiles) k → IsTaken tiles k
  taken_back taken = let proper : IsProper (swap_rect (tile_at tiles k).area) = subst IsProper area_is taken.proper in omega (arith, ints)

  pub owns_over : (s : Square) → Owns tiles k s → Owns (transposed tiles) k (swap_square s)
  owns_over s owns = record { covers = subst (λ (r : Rect). Covers r (swap_square s)) (sym area_is) (let covers = owns.covers in omega (arith, ints)) }

  pub owns_back : (s : Square) → Owns (transposed tiles) k (swap_square s) → Owns tiles k s
  owns_back s owns = let covers = subst (λ (r : Rect). Covers r (swap_square s)) area_is owns.covers in omega (arith, ints)

pub partition_over : (tiles : Tiles) → IsPartition tiles → IsPartition (transposed tiles)
partition_over tiles partition = record {
  one = λ a b s p q. partition.one a b (swap_square s) (owns_back tiles a (swap_square s) p) (owns_back tiles b (swap_square s) q);
  whole = λ s inside. let owner = partition.whole (swap_square s) (omega (arith, ints)) in (owner.0, owns_over tiles owner.0 (swap_square s) owner.1);
  within = λ k taken.
      let within = partition.within k (taken_back tiles k taken) in
      subst (λ (r : Rect). LiesWithin r plane_range) (sym (area_is tiles k)) (omega (arith, ints));
}

-- what is cut along of any tiles is cut across of the exchanged ones, and the other way round
module _ (old new : Tiles) where
  value_is : (tiles : Tiles) (k : ℕ) → (tile_at (transposed tiles) k).value ≡ (tile_at tiles k).value
  value_is tiles k = ap (λ (t : Tile). t.value) (tile_at-transposed tiles k)

  pub part_over : (id part : ℕ) (x : ℤ) → IsPartAfter id part x old new → IsPartFrom id part x (transposed old) (transposed new)
  part_over id part x (inl whole) = inl (ap (λ (r : Rect). r.ylo) (area_is old id) ∙ whole.0, whole.1, ap transposed whole.2)
  part_over id part x (inr split) = inr (
    split.0,
    subst (λ (z : ℤ). z <ℤ x) (sym (ap (λ (r : Rect). r.ylo) (area_is old id))) split.1,
    record {
      free = elim split.2.free [
        | inl kept ↦ inl (kept.0, λ taken. kept.1 (taken_back old part taken))
        | inr kept ↦ inr (kept.0, λ taken. kept.1 (taken_back old split.0 taken))
      ];
      low = area_is new split.0 ∙ ap swap_rect split.2.low ∙ ap (λ (r : Rect). record r { yhi = x }) (sym (area_is old id));
      high = area_is new part ∙ ap swap_rect split.2.high ∙ ap (λ (r : Rect). record r { ylo = x }) (sym (area_is old id));
      low_value = value_is new split.0 ∙ split.2.low_value ∙ sym (value_is old id);
      high_value = value_is new part ∙ split.2.high_value ∙ sym (value_is old id);
      others = λ k n m. let alike = split.2.others k n m in record {
        area = area_is new k ∙ ap swap_rect alike.area ∙ sym (area_is old k);
        value = value_is new k ∙ alike.value ∙ sym (value_is old k);
      };
    },
  )

  within_over : (k j : ℕ) → LiesWithin (tile_at new k).area (tile_at old j).area
      → LiesWithin (tile_at (transposed new) k).area (tile_at (transposed old) j).area
  within_over k j within =
      subst (λ (r : Rect). LiesWithin r (tile_at (transposed old) j).area) (sym (area_is new k))
      (subst (LiesWithin (swap_rect (tile_at new k).area)) (sym (area_is old j)) (omega (arith, ints)))

  within_back : (k j : ℕ) → LiesWithin (tile_at (transposed new) k).area (tile_at (transposed old) j).area
      → LiesWithin (tile_at new k).area (tile_at old j).area
  within_back k j within =
      let swapped : LiesWithin (swap_rect (tile_at new k).area) (swap_rect (tile_at old j).area) =
      subst (λ (r : Rect). LiesWithin r (swap_rect (tile_at old j).area)) (area_is new k)
      (subst (LiesWithin (tile_at (transposed new) k).area) (area_is old j) within) in
      omega (arith, ints)

  pub cut_over : AreCutAlong old new → AreCut (transposed old) (transposed new)
  cut_over cut = record {
    source = λ k s owns.
        let was = cut.source k (swap_square s) (owns_back new k (swap_square s) owns) in (
          was.0,
          owns_over old was.0 (swap_square s) was.1,
          value_is new k ∙ was.2 ∙ sym (value_is old was.0),
          ap (λ (r : Rect). r.xlo) (area_is new k) ∙ was.3 ∙ sym (ap (λ (r : Rect). r.xlo) (area_is old was.0)),
          ap (λ (r : Rect). r.xhi) (area_is new k) ∙ was.4 ∙ sym (ap (λ (r : Rect). r.xhi) (area_is old was.0)),
          within_over k was.0 was.5,
        );
    rows = λ j x other y p q.
        let both = cut.columns j y x other (owns_back old j (square_at y x) p) (owns_back old j (square_at y other) q) in
        (both.0, owns_over new both.0 (square_at y x) both.1, owns_over new both.0 (square_at y other) both.2);
  }

  pub cut_back : AreCut (transposed old) (transposed new) → AreCutAlong old new
  cut_back cut = record {
    source = λ k s owns.
        let was = cut.source k (swap_square s) (owns_over new k s owns) in (
          was.0,
          owns_back old was.0 s was.1,
          sym (value_is new k) ∙ was.2 ∙ value_is old was.0,
          sym (ap (λ (r : Rect). r.xlo) (area_is new k)) ∙ was.3 ∙ ap (λ (r : Rect). r.xlo) (area_is old was.0),
          sym (ap (λ (r : Rect). r.xhi) (area_is new k)) ∙ was.4 ∙ ap (λ (r : Rect). r.xhi) (area_is old was.0),
          within_back k was.0 was.5,
        );
    columns = λ j x y other p q.
        let both = cut.rows j y other x (owns_over old j (square_at x y) p) (owns_over old j (square_at x other) q) in
        (both.0, owns_back new both.0 (square_at x y) both.1, owns_back new both.0 (square_at x other) both.2);
  }

  pub nothing_else_over : (area : Rect) (x : ℤ) → NothingElseIsCutAlong area x old new → NothingElseIsCut (swap_rect area) x (transposed old) (transposed new)
  nothing_else_over area x nothing = record {
    others = λ k taken none.
        let alike = nothing.others k (taken_back old k taken)
        (λ crosses. none (subst (λ (t : Tile). CrossesHeight t (swap_rect area) x) (sym (tile_at-transposed old k)) (omega (arith, ints)))) in
        record { area = area_is new k ∙ ap swap_rect alike.area ∙ sym (area_is old k); value = value_is new k ∙ alike.value ∙ sym (value_is old k) };
    stays = λ k taken. taken_over new k (nothing.stays k (taken_back old k taken));
    columns = λ j y w off p q.
        let both = nothing.rows j w y off (owns_back old j (square_at w y) p) (owns_back old j (square_at (w +ℤ pos 1) y) q) in
        (both.0, owns_over new both.0 (square_at w y) both.1, owns_over new both.0 (square_at (w +ℤ pos 1) y) both.2);
  }

  pub nothing_else_back : (area : Rect) (x : ℤ) → NothingElseIsCut (swap_rect area) x (transposed old) (transposed new) → NothingElseIsCutAlong area x old new
  nothing_else_back area x nothing = record {
    others = λ k taken none.
        let alike = nothing.others k (taken_over old k taken) (λ crosses.
        let swapped = subst (λ (t : Tile). CrossesHeight t (swap_rect area) x) (tile_at-transposed old k) crosses in none (omega (arith, ints))) in
        record {
          area = ap swap_rect (sym (area_is new k) ∙ alike.area ∙ area_is old k);
          value = sym (value_is new k) ∙ alike.value ∙ value_is old k;
        };
    stays = λ k taken. taken_back new k (nothing.stays k (taken_over old k taken));
    rows = λ j w y off p q.
        let both = nothing.columns j y w off (owns_over old j (square_at w y) p) (owns_over old j (square_at (w +ℤ pos 1) y) q) in
        (both.0, owns_back new both.0 (square_at w y) both.1, owns_back new both.0 (square_at (w +ℤ pos 1) y) both.2);
  }

module _ (tiles : Tiles) (x from to : ℤ) where
  pub cut_at_over : AreCutAlongAt tiles x from to → AreCutAt (transposed tiles) x from to
  cut_at_over at = record {
    begin = λ k y low high owns. ap (λ (r : Rect). r.ylo) (area_is tiles k)
        ∙ at.begin k y low high (owns_back tiles k (square_at x y) owns);
  }

  pub cut_at_back : AreCutAt (transposed tiles) x from to → AreCutAlongAt tiles x from to
  cut_at_back at = record {
    begin = λ k y low high owns. sym (ap (λ (r : Rect). r.ylo) (area_is tiles k))
        ∙ at.begin k y low high (owns_over tiles k (square_at x y) owns);
  }
