-- The names of a use have the squares of one rectangle.
use Rattle.element_index.proofs.Common.{◌≡◌, ℕ, ℤ, pos, ◌+ℤ◌, ◌-ℤ◌, ◌≤ℤ◌, ◌<ℤ◌, true, false, List, [], ◌∷◌, ◌⊎◌, inl, inr, to_z, of_z, IsTrue, refl}
use Rattle.element_index.proofs.Common.{sym, ap, ◌∙◌, subst, arith, Some, w32, w64, FitsSigned, cases_Bool, ints, clamps, In, Square, Covers}
use Rattle.element_index.proofs.Common.{indices, is_use_id, indexed_name, element_ids, ArePartsOf, one_square, grid_area, IsNameAt, IsBlock}
use Rattle.std.specs.Prelude.{int_le}
use Rattle.std.specs.Int.{int_max, int_min}
use Rattle.finite_sets.specs.Range.{integer_range, pairs_of, IsBetween}
use Rattle.finite_sets.proofs.Members.{In-map, In-map_source}
use Rattle.finite_sets.proofs.Ranges.{Lists-rectangle}
use Rattle.geo_core.specs.declared.grids.Grid.{Grid}
use Rattle.geo_core.specs.Elements.{nth_index, element_of, elements_of, IsLawful}
use Rattle.element_index.specs.declared.limits.TheConstants.{WHOLE_COLUMN}
use Rattle.element_index.specs.Squares.{LiesLow}
use Rattle.element_index.proofs.SquareLaws.{short_low, short_high, short_from, kept_short}

-- a rectangle of one square covers it
pub one_covered : (x y : ℤ) → Covers (one_square x y) (record { x = x; y = y })
one_covered x y = record {
  right_of_xlo = omega (arith, ints);
  left_of_xhi = omega (arith, ints);
  above_ylo = omega (arith, ints);
  below_yhi = omega (arith, ints);
}

-- and no other
pub one_covers : (x y : ℤ) (square : Square) → Covers (one_square x y) square → (square.x ≡ x) × (square.y ≡ y)
one_covers x y square covers =
    let left : x ≤ℤ square.x = covers.right_of_xlo in
    let right : square.x <ℤ (x +ℤ pos 1) = covers.left_of_xhi in
    let low : y ≤ℤ square.y = covers.above_ylo in
    let high : square.y <ℤ (y +ℤ pos 1) = covers.below_yhi in
    (omega (arith, ints), omega (arith, ints))

-- indices stay as they are on their way through 64 bits
pub kept_square : (x y : ℤ) → FitsSigned w32 x → FitsSigned w32 y → one_square (to_z w64 (of_z w64 x)) (to_z w64 (of_z w64 y)) ≡ one_square x y
kept_square x y x_fits y_fits =
    ap (λ (i : ℤ). one_square i (to_z w64 (of_z w64 y))) (kept_short x x_fits) ∙ ap (one_square x) (kept_short y y_fits)

-- the square of two indices lies low
pub short_low_square : (i j : ℤ) → FitsSigned w32 i → FitsSigned w32 j → LiesLow (one_square i j)
short_low_square i j i_fits j_fits =
    let a = short_low i i_fits in
    let b = short_high i i_fits in
    let c = short_low j j_fits in
    let d = short_high j j_fits in
    record {
      left = omega (arith, ints);
      right = omega (arith, ints);
      low = omega (arith, ints);
      high = omega (arith, ints);
      wide = omega (arith, ints);
      upright = omega (arith, ints);
    }

-- so does that of a name without indices
pub whole_low_square : LiesLow (one_square WHOLE_COLUMN (pos 0))
whole_low_square = record {
  left = omega (arith, ints);
  right = omega (arith, ints);
  low = omega (arith, ints);
  high = omega (arith, ints);
  wide = omega (arith, ints);
  upright = omega (arith, ints);
}

-- an id has a square of its own
pub whole_block : (id : List ℕ) → IsTrue (is_use_id id) → IsBlock (id ∷ []) id (one_square WHOLE_COLUMN (pos 0))
whole_block id form = record {
  id_form = form;
  low = whole_low_square;
  named = λ square covers.
      let at = one_covers WHOLE_COLUMN (pos 0) square covers in
      (id, (inl refl, inr (record { column = at.0; row = at.1; text = refl })));
  covered = λ name here. (
    record { x = WHOLE_COLUMN; y = pos 0 },
    (one_covered WHOLE_COLUMN (pos 0), inr (record { column = refl; row = refl; text = only name here })),
  );
}
  where
    only : (name : List ℕ) → In name (id ∷ []) → name ≡ id
    only name (inl same) = sym same
    only name (inr none) = absurd none

-- and so has a name with indices
pub indexed_block : (name id : List ℕ) (i j : ℤ) → ArePartsOf name id i j → IsBlock (name ∷ []) id (one_square i j)
indexed_block name id i j parts = record {
  id_form = parts.id_form;
  low = short_low_square i j parts.i_fits parts.j_fits;
  named = λ square covers.
      let at = one_covers i j square covers in (
        name,
        (
          inl refl,
          inl (record {
            i_fits = subst (FitsSigned w32) (sym at.0) parts.i_fits;
            j_fits = subst (FitsSigned w32) (sym at.1) parts.j_fits;
            text = parts.text ∙ ap (λ (x : ℤ). indexed_name id x j) (sym at.0) ∙ ap (indexed_name id square.x) (sym at.1);
          }),
        ),
      );
  covered = λ one here. (
    record { x = i; y = j },
    (one_covered i j, inl (record { i_fits = parts.i_fits; j_fits = parts.j_fits; text = only one here ∙ parts.text })),
  );
}
  where
    only : (one : List ℕ) → In one (name ∷ []) → one ≡ name
    only one (inl same) = sym same
    only one (inr none) = absurd none

-- The number is one of those of an index that runs from one end to the other.
record IsIndexOf (from to z : ℤ) : Type 0 where
  after : int_min from to ≤ℤ z
  before : z ≤ℤ int_max from to

-- each index lies between its ends
index_between : (from to n : ℤ) → IsBetween (pos 0) (pos (indices from to)) n → IsIndexOf from to (nth_index from to n)
index_between from to n (low, high) = record { after = grind (arith, ints, clamps); before = grind (arith, ints, clamps) }

-- what lies between them is an index
record IsNth (from to z : ℤ) : Type 0 where
  n : ℤ
  within : IsBetween (pos 0) (pos (indices from to)) n
  is : nth_index from to n ≡ z

between_index : (from to z : ℤ) → IsIndexOf from to z → IsNth from to z
between_index from to z at = by_order (cases_Bool (int_le from to))
  where
    by_order : (int_le from to ≡ true) ⊎ (int_le from to ≡ false) → IsNth from to z
    by_order (inl up) =
        let after = at.after in let before = at.before in
        record { n = z -ℤ from; within = (grind (arith, ints, clamps), grind (arith, ints, clamps)); is = grind (arith, ints) }
    by_order (inr down) =
        let after = at.after in let before = at.before in
        record { n = from -ℤ z; within = (grind (arith, ints, clamps), grind (arith, ints, clamps)); is = grind (arith, ints) }

-- and fits as they do
index_fits : (from to z : ℤ) → FitsSigned w32 from → FitsSigned w32 to → IsIndexOf from to z → FitsSigned w32 z
index_fits from to z from_fits to_fits at =
    let after = at.after in
    let before = at.before in
    let a = short_low from from_fits in
    let b = short_high from from_fits in
    let c = short_low to to_fits in
    let d = short_high to to_fits in
    short_from z (omega (arith, ints, clamps)) (omega (arith, ints, clamps))

module _ (id : List ℕ) (grid : Grid) (form : IsTrue (is_use_id id)) (lawful : IsLawful grid) where
  abbrev name_of : ℤ × ℤ × ℤ × ℤ → List ℕ
  name_of element = indexed_name id element.0 element.1

  abbrev places : List (ℤ × ℤ)
  places = pairs_of (integer_range (pos 0) (pos (indices grid.ylo grid.yhi))) (integer_range (pos 0) (pos (indices grid.xlo grid.xhi)))

  -- a square of the grid's area is that of an element
  grid_named : (square : Square) → Covers (grid_area grid) square
      → (name : List ℕ) × (In name (element_ids id (Some grid)) × IsNameAt id name square)
  grid_named square covers =
      let left : int_min grid.xlo grid.xhi ≤ℤ square.x = covers.right_of_xlo in
      let right : square.x <ℤ (int_max grid.xlo grid.xhi +ℤ pos 1) = covers.left_of_xhi in
      let low : int_min grid.ylo grid.yhi ≤ℤ square.y = covers.above_ylo in
      let high : square.y <ℤ (int_max grid.ylo grid.yhi +ℤ pos 1) = covers.below_yhi in
      let across : IsIndexOf grid.xlo grid.xhi square.x = record { after = left; before = omega (arith, ints) } in
      let up : IsIndexOf grid.ylo grid.yhi square.y = record { after = low; before = omega (arith, ints) } in
      let column = between_index grid.xlo grid.xhi square.x across in
      let row = between_index grid.ylo grid.yhi square.y up in
      let place = (Lists-rectangle (pos 0) (pos (indices grid.ylo grid.yhi)) (pos 0) (pos (indices grid.xlo grid.xhi))).1
      (row.n, column.n) (row.within, column.within) in
      let element = element_of grid (row.n, column.n) in
      let here = In-map name_of element (elements_of grid) (In-map (element_of grid) (row.n, column.n) places place) in (
        name_of element,
        (
          here,
          inl (record {
            i_fits = index_fits grid.xlo grid.xhi square.x lawful.xlo lawful.xhi across;
            j_fits = index_fits grid.ylo grid.yhi square.y lawful.ylo lawful.yhi up;
            text = ap (λ (i : ℤ). indexed_name id i element.1) column.is ∙ ap (indexed_name id square.x) row.is;
          }),
        ),
      )

  -- and an element's square lies in it
  grid_covered : (name : List ℕ) → In name (element_ids id (Some grid))
      → (square : Square) × (Covers (grid_area grid) square × IsNameAt id name square)
  grid_covered name here =
      let made = In-map_source name_of name (elements_of grid) here in
      let from = In-map_source (element_of grid) made.0 places made.1.0 in
      let within = (Lists-rectangle (pos 0) (pos (indices grid.ylo grid.yhi)) (pos 0) (pos (indices grid.xlo grid.xhi))).2 from.0 from.1.0 in
      let i = nth_index grid.xlo grid.xhi from.0.1 in
      let j = nth_index grid.ylo grid.yhi from.0.0 in
      let across : IsIndexOf grid.xlo grid.xhi i = index_between grid.xlo grid.xhi from.0.1 within.1 in
      let up : IsIndexOf grid.ylo grid.yhi j = index_between grid.ylo grid.yhi from.0.0 within.0 in
      let a = across.after in let b = across.before in let c = up.after in let d = up.before in
      let text : name ≡ indexed_name id i j = sym made.1.1 ∙ ap name_of (sym from.1.1) in (
        record { x = i; y = j },
        (
          record {
            right_of_xlo = a;
            left_of_xhi = omega (arith, ints, clamps);
            above_ylo = c;
            below_yhi = omega (arith, ints, clamps);
          },
          inl (record {
            i_fits = index_fits grid.xlo grid.xhi i lawful.xlo lawful.xhi across;
            j_fits = index_fits grid.ylo grid.yhi j lawful.ylo lawful.yhi up;
            text = text;
          }),
        ),
      )

  -- the area of a lawful grid lies low
  pub grid_low : LiesLow (grid_area grid)
  grid_low =
      let a = short_low grid.xlo lawful.xlo in
      let b = short_high grid.xlo lawful.xlo in
      let c = short_low grid.xhi lawful.xhi in
      let d = short_high grid.xhi lawful.xhi in
      let e = short_low grid.ylo lawful.ylo in
      let f = short_high grid.ylo lawful.ylo in
      let g = short_low grid.yhi lawful.yhi in
      let h = short_high grid.yhi lawful.yhi in
      record {
        left = omega (arith, ints, clamps);
        right = omega (arith, ints, clamps);
        low = omega (arith, ints, clamps);
        high = omega (arith, ints, clamps);
        wide = omega (arith, ints, clamps);
        upright = omega (arith, ints, clamps);
      }

  -- the names of an array have the squares of its grid
  pub grid_block : IsBlock (element_ids id (Some grid)) id (grid_area grid)
  grid_block = record { id_form = form; low = grid_low; named = grid_named; covered = grid_covered }
