-- The elements of a grid by their place in its list.
use Rattle.geo_core.proofs.Common.{◌≡◌, inl, inr, ℕ, ◌*◌, ◌/◌, ◌%◌, ◌<◌, ℤ, pos, ◌+ℤ◌, ◌-ℤ◌, List, length, get_or, Some, refl, sym, ◌∙◌, ap, arith}
use Rattle.geo_core.proofs.Common.{to_z, of_z, w64, ints, Grid, indices, elements_of, IsLawful}
use Rattle.std.proofs.Common.{zero, suc, ◌+◌, ◌-◌, ◌≤◌, ◌*ℤ◌, Bool}
use Rattle.std.proofs.Common.{true, false, cond, [], ◌∷◌, ◌++◌, map}
use Rattle.std.specs.Prelude.{slice_get, int_le}
use Rattle.std.specs.Option.{option_map}
use Rattle.std.proofs.Math.ListN.{get_or-map}
use Rattle.std.proofs.Math.Nat.{div-lt_iff_lt-mul, div-le_self, div-add-mod, mod-lt, mod-add-div}
use Rattle.std.proofs.lemmas.Bool.{cases_lt}
use Rattle.std.proofs.lemmas.List.{length-map, get_or_default, get_or_append_left, get_or-append_right}
use Rattle.std.proofs.lemmas.Nat.{mul-add-lt}
use Rattle.std.proofs.lemmas.Option.{slice_get-map, slice_get-get_or, slice_get_within, get_or_from_slice_get}
use Rattle.finite_sets.specs.Lists.{Distinct}
use Rattle.finite_sets.specs.Range.{extent, integers_from, integer_range, pairs_of}
use Rattle.finite_sets.proofs.Distincts.{Distinct-map, Distinct-places}
use Rattle.finite_sets.proofs.Ranges.{extent_up, length-integer_range, length-pairs_of, Lists-rectangle}
use Rattle.geo_core.specs.declared.limits.TheConstants.{MOST_ELEMENTS}
use Rattle.geo_core.specs.Elements.{nth_index, element_of}

-- how many columns the grid has
abbrev pub columns : Grid → ℕ
columns grid = indices grid.xlo grid.xhi

-- how many rows it has
abbrev pub rows : Grid → ℕ
rows grid = indices grid.ylo grid.yhi

-- the numbers from 0 on, below n
abbrev counted : ℕ → List ℤ
counted n = integer_range (pos 0) (pos n)

abbrev places : Grid → List (ℤ × ℤ)
places grid = pairs_of (counted (rows grid)) (counted (columns grid))

extent_counted : (n : ℕ) → extent (pos 0) (pos n) ≡ n
extent_counted n = let up = extent_up (pos 0) (pos n) (omega (arith, ints)) in omega (arith, ints, up)

length-counted : (n : ℕ) → length (counted n) ≡ n
length-counted n = length-integer_range (pos 0) (pos n) ∙ extent_counted n

-- a grid has as many elements as its rows times its columns
pub length-elements_of : (grid : Grid) → length (elements_of grid) ≡ rows grid * columns grid
length-elements_of grid =
    length-map (places grid) (element_of grid) ∙ length-pairs_of (counted (rows grid)) (counted (columns grid))
    ∙ ap (λ n. n * length (counted (columns grid))) (length-counted (rows grid))
    ∙ ap (λ n. rows grid * n) (length-counted (columns grid))

get_or-integers_from : (from : ℤ) (n k : ℕ) (d : ℤ) → k < n → get_or (integers_from from n) k d ≡ from +ℤ pos k
get_or-integers_from from zero k d low = absurd (omega arith)
get_or-integers_from from (suc n) zero d low = omega (arith, ints)
get_or-integers_from from (suc n) (suc k) d low = get_or-integers_from (from +ℤ pos 1) n k d (omega arith) ∙ omega (arith, ints)

get_or-pairs_of : {X Y : Type 0} (xs : List X) (ys : List Y) (m n : ℕ) (x : X) (y : Y) → m < length xs → n < length ys
    → get_or (pairs_of xs ys) (m * length ys + n) (x, y) ≡ (get_or xs m x, get_or ys n y)
get_or-pairs_of [] ys m n x y row column = absurd (omega arith)
get_or-pairs_of {X} {Y} (a ∷ xs) ys zero n x y row column =
    let first : List (X × Y) = map (λ v. (a, v)) ys in
    let long : length first ≡ length ys = length-map ys (λ v. (a, v)) in
    let wide : n < length first = omega (arith, long) in
    ap (λ k. get_or (first ++ pairs_of xs ys) k (x, y)) (let e : 0 * length ys + n ≡ n = omega arith in e)
    ∙ get_or_append_left first (pairs_of xs ys) (x, y) n wide
    ∙ get_or_default first n (x, y) (a, y) wide
    ∙ get_or-map (λ v. (a, v)) ys n y
get_or-pairs_of {X} {Y} (a ∷ xs) ys (suc m) n x y row column =
    let first : List (X × Y) = map (λ v. (a, v)) ys in
    let long : length first ≡ length ys = length-map ys (λ v. (a, v)) in
    get_or-append_right first (pairs_of xs ys) (length ys) (suc m * length ys + n) (x, y) long (omega arith)
    ∙ ap (λ k. get_or (pairs_of xs ys) k (x, y)) (let e : (suc m * length ys + n) - length ys ≡ m * length ys + n = omega arith in e)
    ∙ get_or-pairs_of xs ys m n x y (omega arith) column

get_or-counted : (n k : ℕ) (d : ℤ) → k < n → get_or (counted n) k d ≡ pos k
get_or-counted n k d low = get_or-integers_from (pos 0) (extent (pos 0) (pos n)) k d (omega (arith, extent_counted n)) ∙ omega (arith, ints)

-- the k-th element is that of row k / columns and column k % columns
pub elements_of-at : (grid : Grid) (k m n : ℕ) → m < rows grid → n < columns grid → m * columns grid + n ≡ k
    → slice_get (elements_of grid) k ≡ Some (element_of grid (pos m, pos n))
elements_of-at grid k m n row column at =
    let ms = counted (rows grid) in
    let ns = counted (columns grid) in
    let row' : m < length ms = omega (arith, length-counted (rows grid)) in
    let column' : n < length ns = omega (arith, length-counted (columns grid)) in
    let same : m * length ns + n ≡ k = ap (λ c. m * c + n) (length-counted (columns grid)) ∙ at in
    let bound : m * length ns + n < length (places grid) = omega (arith, mul-add-lt m (length ns) n (length ms) row' column', length-pairs_of ms ns) in
    let found : get_or (places grid) (m * length ns + n) (pos 0, pos 0) ≡ (pos m, pos n) =
    get_or-pairs_of ms ns m n (pos 0) (pos 0) row' column'
    ∙ ap (λ z. (z, get_or ns n (pos 0))) (get_or-counted (rows grid) m (pos 0) row)
    ∙ ap (λ z. (pos m, z)) (get_or-counted (columns grid) n (pos 0) column) in
    ap (slice_get (elements_of grid)) (sym same)
    ∙ slice_get-map (element_of grid) (places grid) (m * length ns + n)
    ∙ ap (option_map (element_of grid)) (slice_get-get_or (places grid) (m * length ns + n) (pos 0, pos 0) bound ∙ ap Some found)

-- counted from one number, all up or all down, steps of different size lead to different numbers
pub nth_either : (up : Bool) (from n k : ℤ) → cond up (from +ℤ n) (from -ℤ n) ≡ cond up (from +ℤ k) (from -ℤ k) → n ≡ k
nth_either true from n k e = omega (arith, ints, e)
nth_either false from n k e = omega (arith, ints, e)

element_of-injective : (grid : Grid) (p q : ℤ × ℤ) → element_of grid p ≡ element_of grid q → p ≡ q
element_of-injective grid p q e =
    let across = nth_either (int_le grid.xlo grid.xhi) grid.xlo p.1 q.1 (ap (λ z. z.0) e) in
    let up = nth_either (int_le grid.ylo grid.yhi) grid.ylo p.0 q.0 (ap (λ z. z.1) e) in
    let whole : (p.0, p.1) ≡ q = rw (across, up) refl in whole

-- no element stands in the list twice
pub Distinct-elements_of : (grid : Grid) → Distinct (elements_of grid)
Distinct-elements_of grid =
    Distinct-map (element_of grid) (places grid) (λ a b h k e. element_of-injective grid a b e)
    (Lists-rectangle (pos 0) (pos (rows grid)) (pos 0) (pos (columns grid))).0

-- where the k-th element of a lawful grid stands
pub record StandsAt (grid : Grid) (k m n : ℕ) : Type 0 where
  pub row : m < rows grid
  pub column : n < columns grid
  pub at : m * columns grid + n ≡ k
  pub row_small : m ≤ MOST_ELEMENTS
  pub column_small : n ≤ MOST_ELEMENTS

mod-le : (n m : ℕ) → n % m ≤ n
mod-le n m = omega (arith, mod-add-div n m)

-- an element stands in the column and the row that division tells
pub stands_at : (grid : Grid) (k c : ℕ) → IsLawful grid → k < length (elements_of grid) → c ≡ columns grid → StandsAt grid k (k / c) (k % c)
stands_at grid k c lawful below same =
    let some : 0 < c = omega (arith, same) in
    let total : k < rows grid * c = omega (arith, length-elements_of grid, ap (λ v. rows grid * v) same, below) in
    let few : c * rows grid ≤ MOST_ELEMENTS = omega (arith, lawful.count, ap (λ v. v * rows grid) same) in
    let column : k % c < c = mod-lt k some in
    record {
      row = (div-lt_iff_lt-mul some).1 total;
      column = omega (arith, column, same);
      at = ap (λ v. k / c * v + k % c) (sym same) ∙ omega (arith, div-add-mod k c);
      row_small = omega (arith, div-le_self k c, total, few);
      column_small = omega (arith, mod-le k c, total, few);
    }

-- a number on its way through 64 bits
abbrev pub kept : ℤ → ℤ
kept z = to_z w64 (of_z w64 z)

-- what is computed from equal numbers
pub indices-same : (r : ℕ) (from to from' to' : ℤ) → r ≡ indices from to → from ≡ from' → to ≡ to' → r ≡ indices from' to'
indices-same r from to from' to' is e f = is ∙ ap (λ v. indices v to) e ∙ ap (indices from') f

-- indices from equal parts
pub nth_index-same : (r from to n from' to' n' : ℤ) → r ≡ nth_index from to n → from ≡ from' → to ≡ to' → n ≡ n' → r ≡ nth_index from' to' n'
nth_index-same r from to n from' to' n' is e f g = is ∙ ap (λ v. nth_index v to n) e ∙ ap (λ v. nth_index from' v n) f ∙ ap (nth_index from' to') g

-- products of equal factors
pub product-same : (r a b a' b' : ℤ) → r ≡ a *ℤ b → a ≡ a' → b ≡ b' → r ≡ a' *ℤ b'
product-same r a b a' b' is e f = is ∙ ap (λ v. v *ℤ b) e ∙ ap (λ v. a' *ℤ v) f

-- an element from its parts
pub element_of-parts : (grid : Grid) (m n i j dx dy : ℤ) → i ≡ nth_index grid.xlo grid.xhi n → j ≡ nth_index grid.ylo grid.yhi m
    → dx ≡ n *ℤ grid.xsep → dy ≡ m *ℤ grid.ysep → element_of grid (m, n) ≡ (i, j, dx, dy)
element_of-parts grid m n i j dx dy e-i e-j e-dx e-dy = rw (e-i, e-j, e-dx, e-dy) refl

-- elements at equal indices
pub element_of-same : (grid : Grid) (m n m' n' : ℤ) → m ≡ m' → n ≡ n' → element_of grid (m, n) ≡ element_of grid (m', n')
element_of-same grid m n m' n' e f = ap (λ v. element_of grid (v, n)) e ∙ ap (λ v. element_of grid (m', v)) f
