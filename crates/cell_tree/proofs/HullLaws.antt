-- The smallest rectangles round lists of rectangles, and round the elements of a grid.
use Rattle.cell_tree.proofs.Common.{◌≡◌, inl, inr, ℕ, suc, ◌+◌, ◌*◌, ◌<◌, ◌≤◌, Bool, true, false, ℤ, ◌≤ℤ◌, List, [], ◌∷◌, ◌++◌, map, Option, Some}
use Rattle.cell_tree.proofs.Common.{None, refl, sym, ap, subst, ◌∙◌, arith, ints, clamps, mul-le-mul_right, int_min, int_max, In, Grid, Orient, R0}
use Rattle.cell_tree.proofs.Common.{Rect, Transform, rect_is, transform_of, UseBody, displacements, displaced, element_hulls, round_both, round_all}
use Rattle.cell_tree.proofs.Common.{way_of, spread_area, IsInside}
use Rattle.std.proofs.Common.{cond, pos, negsuc, ◌+ℤ◌, ◌-ℤ◌, ◌*ℤ◌}
use Rattle.std.specs.Prelude.{int_lt}
use Rattle.std.specs.Int.RustNames.{unsigned_abs}
use Rattle.geo_core.specs.FiniteSets.Range.{integer_range, pairs_of, IsBetween}
use Rattle.geo_core.proofs.FiniteSets.Members.{In-map, In-map_source}
use Rattle.geo_core.proofs.FiniteSets.Ranges.{Lists-rectangle}
use Rattle.geo_core.proofs.FiniteSets.Places.{In-slice_get}
use Rattle.geo_core.specs.Areas.{joined_rect, LiesWithin}
use Rattle.geo_core.specs.Elements.{element_of, elements_of}
use Rattle.geo_core.specs.Images.{rect_image}
use Rattle.geo_core.proofs.CoveringLaws.{joined_within, within_trans, within_antisym, within_joined_first, within_joined_second}
use Rattle.geo_core.proofs.ElementLaws.{columns, rows, elements_of-at}

within_refl : (a : Rect) → LiesWithin a a
within_refl a = record {
  right_of_xlo = omega (arith, ints);
  above_ylo = omega (arith, ints);
  left_of_xhi = omega (arith, ints);
  below_yhi = omega (arith, ints);
}

-- what lies inside a box lies inside each box round it
pub inside_trans : (a b c : Option Rect) → IsInside a b → IsInside b c → IsInside a c
inside_trans None b c p q = tt
inside_trans (Some a) None c p q = absurd p
inside_trans (Some a) (Some b) None p q = absurd q
inside_trans (Some a) (Some b) (Some c) p q = within_trans a b c p q

-- a box lies inside itself
pub inside_refl : (a : Option Rect) → IsInside a a
inside_refl None = tt
inside_refl (Some a) = within_refl a

-- two boxes that lie inside each other are one
pub inside_antisym : (a b : Option Rect) → IsInside a b → IsInside b a → a ≡ b
inside_antisym None None p q = refl
inside_antisym None (Some b) p q = absurd q
inside_antisym (Some a) None p q = absurd p
inside_antisym (Some a) (Some b) p q = ap Some (within_antisym a b p q)

-- the box round both goes round the first
pub inside_left : (a b : Option Rect) → IsInside a (round_both a b)
inside_left None b = tt
inside_left (Some a) None = within_refl a
inside_left (Some a) (Some b) = within_joined_first a b

-- and round the second
pub inside_right : (a b : Option Rect) → IsInside b (round_both a b)
inside_right a None = tt
inside_right None (Some b) = within_refl b
inside_right (Some a) (Some b) = within_joined_second a b

-- and lies inside each box that goes round both
pub inside_both : (a b c : Option Rect) → IsInside a c → IsInside b c → IsInside (round_both a b) c
inside_both None b c p q = q
inside_both (Some a) None c p q = p
inside_both (Some a) (Some b) None p q = absurd p
inside_both (Some a) (Some b) (Some c) p q = joined_within a b c p q

-- boxes inside others have a box round both inside theirs
pub inside_each : (a b c d : Option Rect) → IsInside a c → IsInside b d → IsInside (round_both a b) (round_both c d)
inside_each a b c d p q =
    inside_both a b (round_both c d) (inside_trans a c _ p (inside_left c d)) (inside_trans b d _ q (inside_right c d))

-- it is all the same which two of three come first
pub round_both_assoc : (a b c : Option Rect) → round_both (round_both a b) c ≡ round_both a (round_both b c)
round_both_assoc a b c =
    inside_antisym _ _
    (inside_both (round_both a b) c _
    (inside_both a b _ (inside_left a (round_both b c)) (inside_trans b (round_both b c) _ (inside_left b c) (inside_right a (round_both b c))))
    (inside_trans c (round_both b c) _ (inside_right b c) (inside_right a (round_both b c))))
    (inside_both a (round_both b c) _
    (inside_trans a (round_both a b) _ (inside_left a b) (inside_left (round_both a b) c))
    (inside_both b c _ (inside_trans b (round_both a b) _ (inside_right a b) (inside_left (round_both a b) c)) (inside_right (round_both a b) c)))

-- which of two comes first
round_both_comm : (a b : Option Rect) → round_both a b ≡ round_both b a
round_both_comm a b =
    inside_antisym _ _ (inside_both a b _ (inside_right b a) (inside_left b a)) (inside_both b a _ (inside_right a b) (inside_left a b))

-- and which of two comes second
pub round_both_swap : (a b c : Option Rect) → round_both (round_both a b) c ≡ round_both (round_both a c) b
round_both_swap a b c = round_both_assoc a b c ∙ ap (round_both a) (round_both_comm b c) ∙ sym (round_both_assoc a c b)

-- a box that is missing adds nothing
pub round_both_none : (a : Option Rect) → round_both a None ≡ a
round_both_none None = refl
round_both_none (Some a) = refl

-- the box round two lists
pub round_all-append : (xs ys : List Rect) → round_all (xs ++ ys) ≡ round_both (round_all xs) (round_all ys)
round_all-append [] ys = refl
round_all-append (x ∷ xs) ys =
    ap (round_both (Some x)) (round_all-append xs ys) ∙ sym (round_both_assoc (Some x) (round_all xs) (round_all ys))

-- each box of a list lies inside the box round all
pub inside_all : (xs : List Rect) (x : Rect) → In x xs → IsInside (Some x) (round_all xs)
inside_all [] x stands = absurd stands
inside_all (y ∷ ys) x (inl same) = subst (λ z. IsInside (Some z) (round_all (y ∷ ys))) same (inside_left (Some y) (round_all ys))
inside_all (y ∷ ys) x (inr stands) = inside_trans (Some x) (round_all ys) _ (inside_all ys x stands) (inside_right (Some y) (round_all ys))

-- and the box round all lies inside each box that goes round each
pub all_inside : (xs : List Rect) (c : Option Rect) → ((x : Rect) → In x xs → IsInside (Some x) c) → IsInside (round_all xs) c
all_inside [] c each = tt
all_inside (x ∷ xs) c each =
    inside_both (Some x) (round_all xs) c (each x (inl refl)) (all_inside xs c (λ y stands. each y (inr stands)))

-- boxes of two lists made of the same things, each inside its fellow
pub inside_maps : {X : Type 0} (f g : X → Rect) (xs : List X) → ((x : X) → LiesWithin (f x) (g x)) → IsInside (round_all (map f xs)) (round_all (map g xs))
inside_maps f g [] each = tt
inside_maps f g (x ∷ xs) each =
    inside_each (Some (f x)) (round_all (map f xs)) (Some (g x)) (round_all (map g xs)) (each x) (inside_maps f g xs each)

image-by_orient : (o : Orient) (dx dy : ℤ) (a b : Rect) → LiesWithin a b
    → LiesWithin (rect_image (transform_of o dx dy) a) (rect_image (transform_of o dx dy) b)
unfolding rect_image
image-by_orient R0 dx dy a b p =
    record {
      right_of_xlo = omega (arith, ints, p.right_of_xlo, p.left_of_xhi);
      above_ylo = omega (arith, ints, p.above_ylo, p.below_yhi);
      left_of_xhi = omega (arith, ints, p.right_of_xlo, p.left_of_xhi);
      below_yhi = omega (arith, ints, p.above_ylo, p.below_yhi);
    }
image-by_orient _ dx dy a b p =
    record {
      right_of_xlo = omega (arith, ints, p.right_of_xlo, p.left_of_xhi, p.above_ylo, p.below_yhi);
      above_ylo = omega (arith, ints, p.right_of_xlo, p.left_of_xhi, p.above_ylo, p.below_yhi);
      left_of_xhi = omega (arith, ints, p.right_of_xlo, p.left_of_xhi, p.above_ylo, p.below_yhi);
      below_yhi = omega (arith, ints, p.right_of_xlo, p.left_of_xhi, p.above_ylo, p.below_yhi);
    }

-- images of rectangles inside others lie inside their images
pub image_within : (t : Transform) (a b : Rect) → LiesWithin a b → LiesWithin (rect_image t a) (rect_image t b)
image_within t a b p = image-by_orient t.orient t.dx t.dy a b p

corners-by_orient : (o : Orient) (dx dy : ℤ) (low high all : Rect) → low.xlo ≡ all.xlo → low.ylo ≡ all.ylo → high.xhi ≡ all.xhi → high.yhi ≡ all.yhi
    → LiesWithin (rect_image (transform_of o dx dy) all) (joined_rect (rect_image (transform_of o dx dy) low) (rect_image (transform_of o dx dy) high))
unfolding rect_image
corners-by_orient R0 dx dy low high all e f g h =
    record {
      right_of_xlo = omega (arith, ints, clamps);
      above_ylo = omega (arith, ints, clamps);
      left_of_xhi = omega (arith, ints, clamps);
      below_yhi = omega (arith, ints, clamps);
    }
corners-by_orient _ dx dy low high all e f g h =
    record {
      right_of_xlo = omega (arith, ints, clamps);
      above_ylo = omega (arith, ints, clamps);
      left_of_xhi = omega (arith, ints, clamps);
      below_yhi = omega (arith, ints, clamps);
    }

-- the image of a rectangle lies inside the box round the images of two that share its low and its high edges
pub corners_round : (t : Transform) (low high all : Rect) → low.xlo ≡ all.xlo → low.ylo ≡ all.ylo → high.xhi ≡ all.xhi → high.yhi ≡ all.yhi
    → LiesWithin (rect_image t all) (joined_rect (rect_image t low) (rect_image t high))
corners_round t low high all e f g h = corners-by_orient t.orient t.dx t.dy low high all e f g h

between_pos : (m n a : ℕ) → n ≤ m → (int_min (pos m *ℤ pos a) (pos 0) ≤ℤ (pos n *ℤ pos a)) × ((pos n *ℤ pos a) ≤ℤ int_max (pos m *ℤ pos a) (pos 0))
between_pos m n a le =
    let more : n * a ≤ m * a = mul-le-mul_right a le in
    (omega (arith, ints, clamps, more), omega (arith, ints, clamps, more))

between_neg : (m n a : ℕ) → n ≤ m → (int_min (pos m *ℤ negsuc a) (pos 0) ≤ℤ (pos n *ℤ negsuc a)) × ((pos n *ℤ negsuc a) ≤ℤ int_max (pos m *ℤ negsuc a) (pos 0))
between_neg m n a le =
    let more : n * suc a ≤ m * suc a = mul-le-mul_right (suc a) le in
    (omega (arith, ints, clamps, more), omega (arith, ints, clamps, more))

-- so many steps of one length lie between none of them and more of them
between_steps : (m n : ℕ) (s : ℤ) → n ≤ m → (int_min (pos m *ℤ s) (pos 0) ≤ℤ (pos n *ℤ s)) × ((pos n *ℤ s) ≤ℤ int_max (pos m *ℤ s) (pos 0))
between_steps m n (pos a) le = between_pos m n a le
between_steps m n (negsuc a) le = between_neg m n a le

-- an index at which steps of one length go farthest
record Farthest (m : ℕ) (s end : ℤ) : Type 0 where
  index : ℕ
  below : index ≤ m
  goes : (pos index *ℤ s) ≡ end

none_of : (s : ℤ) → (pos 0 *ℤ s) ≡ pos 0
none_of (pos a) = omega (arith, ints)
none_of (negsuc a) = omega (arith, ints)

lowest : (m : ℕ) (s : ℤ) → Farthest m s (int_min (pos m *ℤ s) (pos 0))
lowest m s = by (int_lt (pos 0) (pos m *ℤ s))
  where
    by : (b : Bool) → Farthest m s (cond b (pos 0) (pos m *ℤ s))
    by true = record { index = 0; below = omega arith; goes = none_of s }
    by false = record { index = m; below = omega arith; goes = refl }

highest : (m : ℕ) (s : ℤ) → Farthest m s (int_max (pos m *ℤ s) (pos 0))
highest m s = by (int_lt (pos 0) (pos m *ℤ s))
  where
    by : (b : Bool) → Farthest m s (cond b (pos m *ℤ s) (pos 0))
    by true = record { index = m; below = omega arith; goes = refl }
    by false = record { index = 0; below = omega arith; goes = none_of s }

-- where an element of a grid is displaced to
step_at : Grid → ℕ → ℕ → ℤ × ℤ
step_at grid m n = (pos n *ℤ grid.xsep, pos m *ℤ grid.ysep)

In-displacements : (grid : Grid) (m n : ℕ) → m < rows grid → n < columns grid → In (pos n *ℤ grid.xsep, pos m *ℤ grid.ysep) (displacements (Some grid))
In-displacements grid m n row column =
    In-map (λ element. (element.2, element.3)) (element_of grid (pos m, pos n)) (elements_of grid)
    (In-slice_get (elements_of grid) (m * columns grid + n) (element_of grid (pos m, pos n)) (elements_of-at grid (m * columns grid + n) m n row column refl))

-- a displacement of a grid is that of an element in some row and column
record IsStep (grid : Grid) (step : ℤ × ℤ) : Type 0 where
  m : ℕ
  n : ℕ
  row : m < rows grid
  column : n < columns grid
  right : step.0 ≡ (pos n *ℤ grid.xsep)
  up : step.1 ≡ (pos m *ℤ grid.ysep)

natural : (z : ℤ) (n : ℕ) → IsBetween (pos 0) (pos n) z → (k : ℕ) × (k < n) × (z ≡ pos k)
natural (pos k) n b = (k, omega (arith, ints, b.1), refl)
natural (negsuc k) n b = absurd (omega (arith, ints, b.0))

step_of : (grid : Grid) (step : ℤ × ℤ) → In step (displacements (Some grid)) → IsStep grid step
step_of grid step stands =
    let element = In-map_source (λ (e : ℤ × ℤ × ℤ × ℤ). (e.2, e.3)) step (elements_of grid) stands in
    let place = In-map_source (element_of grid) element.0 (pairs_of (integer_range (pos 0) (pos (rows grid))) (integer_range (pos 0) (pos (columns grid))))
    element.1.0 in
    let within = (Lists-rectangle (pos 0) (pos (rows grid)) (pos 0) (pos (columns grid))).2 place.0 place.1.0 in
    let m = natural place.0.0 (rows grid) within.0 in
    let n = natural place.0.1 (columns grid) within.1 in
    record {
      m = m.0;
      n = n.0;
      row = m.1;
      column = n.1;
      right = sym (ap (λ (s : ℤ × ℤ). s.0) element.1.1) ∙ sym (ap (λ (e : ℤ × ℤ × ℤ × ℤ). e.2) place.1.1) ∙ ap (λ z. z *ℤ grid.xsep) n.2;
      up = sym (ap (λ (s : ℤ × ℤ). s.1) element.1.1) ∙ sym (ap (λ (e : ℤ × ℤ × ℤ × ℤ). e.3) place.1.1) ∙ ap (λ z. z *ℤ grid.ysep) m.2;
    }

-- each element of a grid lies in the rectangle round all of them
step_within : (grid : Grid) (area : Rect) (step : ℤ × ℤ) → IsStep grid step → LiesWithin (displaced area step) (spread_area grid area)
step_within grid area step is =
    let across = between_steps (unsigned_abs (grid.xhi -ℤ grid.xlo)) is.n grid.xsep (omega (arith, is.column)) in
    let upward = between_steps (unsigned_abs (grid.yhi -ℤ grid.ylo)) is.m grid.ysep (omega (arith, is.row)) in
    spread_within area (way_of grid.xlo grid.xhi grid.xsep) (way_of grid.ylo grid.yhi grid.ysep) step.0 step.1
    (rw is.right across.0) (rw is.right across.1) (rw is.up upward.0) (rw is.up upward.1)
  where
    spread_within : (area : Rect) (w v x y : ℤ) → int_min w (pos 0) ≤ℤ x → x ≤ℤ int_max w (pos 0) → int_min v (pos 0) ≤ℤ y → y ≤ℤ int_max v (pos 0)
        → LiesWithin (record { xlo = area.xlo +ℤ x; ylo = area.ylo +ℤ y; xhi = area.xhi +ℤ x; yhi = area.yhi +ℤ y })
        (record {
          xlo = area.xlo +ℤ int_min w (pos 0);
          ylo = area.ylo +ℤ int_min v (pos 0);
          xhi = area.xhi +ℤ int_max w (pos 0);
          yhi = area.yhi +ℤ int_max v (pos 0);
        })
    spread_within area w v x y a b c d =
        record {
          right_of_xlo = omega (arith, ints, a);
          above_ylo = omega (arith, ints, c);
          left_of_xhi = omega (arith, ints, b);
          below_yhi = omega (arith, ints, d);
        }

-- The smallest rectangle round the hulls of all elements is the image of the rectangle round the child in all of them.
pub round_all-grid : (used : UseBody) (grid : Grid) (hull : Rect) → used.grid ≡ Some grid
    → round_all (element_hulls used (Some hull)) ≡ Some (rect_image used.placed (spread_area grid hull))
round_all-grid used grid hull is =
    subst (λ g. round_all (map (λ step. rect_image used.placed (displaced hull step)) (displacements g))
    ≡ Some (rect_image used.placed (spread_area grid hull)))
    (sym is) (inside_antisym _ _ inner outer)
  where
    moved : ℤ × ℤ → Rect
    moved step = rect_image used.placed (displaced hull step)

    all : List Rect
    all = map (λ step. rect_image used.placed (displaced hull step)) (displacements (Some grid))

    whole : Rect
    whole = rect_image used.placed (spread_area grid hull)

    inner : IsInside (round_all (map (λ step. rect_image used.placed (displaced hull step)) (displacements (Some grid))))
        (Some (rect_image used.placed (spread_area grid hull)))
    inner = all_inside _ (Some (rect_image used.placed (spread_area grid hull))) (λ x stands.
        let step = In-map_source (λ (s : ℤ × ℤ). rect_image used.placed (displaced hull s)) x (displacements (Some grid)) stands in
        subst (λ y. LiesWithin y (rect_image used.placed (spread_area grid hull))) step.1.1
        (image_within used.placed (displaced hull step.0) (spread_area grid hull) (step_within grid hull step.0 (step_of grid step.0 step.1.0))))

    outer : IsInside (Some (rect_image used.placed (spread_area grid hull)))
        (round_all (map (λ step. rect_image used.placed (displaced hull step)) (displacements (Some grid))))
    outer =
        let x0 = lowest (unsigned_abs (grid.xhi -ℤ grid.xlo)) grid.xsep in
        let x1 = highest (unsigned_abs (grid.xhi -ℤ grid.xlo)) grid.xsep in
        let y0 = lowest (unsigned_abs (grid.yhi -ℤ grid.ylo)) grid.ysep in
        let y1 = highest (unsigned_abs (grid.yhi -ℤ grid.ylo)) grid.ysep in
        let low : ℤ × ℤ = (pos x0.index *ℤ grid.xsep, pos y0.index *ℤ grid.ysep) in
        let high : ℤ × ℤ = (pos x1.index *ℤ grid.xsep, pos y1.index *ℤ grid.ysep) in
        let at_low = In-map (λ (s : ℤ × ℤ). rect_image used.placed (displaced hull s)) low (displacements (Some grid))
        (In-displacements grid y0.index x0.index (omega (arith, y0.below)) (omega (arith, x0.below))) in
        let at_high = In-map (λ (s : ℤ × ℤ). rect_image used.placed (displaced hull s)) high (displacements (Some grid))
        (In-displacements grid y1.index x1.index (omega (arith, y1.below)) (omega (arith, x1.below))) in
        inside_trans (Some (rect_image used.placed (spread_area grid hull)))
        (Some (joined_rect (rect_image used.placed (displaced hull low)) (rect_image used.placed (displaced hull high)))) _
        (corners_round used.placed (displaced hull low) (displaced hull high) (spread_area grid hull)
        (ap (λ z. hull.xlo +ℤ z) x0.goes) (ap (λ z. hull.ylo +ℤ z) y0.goes) (ap (λ z. hull.xhi +ℤ z) x1.goes) (ap (λ z. hull.yhi +ℤ z) y1.goes))
        (inside_both (Some (rect_image used.placed (displaced hull low))) (Some (rect_image used.placed (displaced hull high))) _
        (inside_all _ _ at_low) (inside_all _ _ at_high))

still : (area : Rect) → displaced area (pos 0, pos 0) ≡ area
still area = rect_is _ _ (omega (arith, ints)) (omega (arith, ints)) (omega (arith, ints)) (omega (arith, ints))

-- without a grid there is one element, and it stands where the child does
pub round_all-alone : (used : UseBody) (hull : Rect) → used.grid ≡ None → round_all (element_hulls used (Some hull)) ≡ Some (rect_image used.placed hull)
round_all-alone used hull is =
    subst (λ g. round_all (map (λ step. rect_image used.placed (displaced hull step)) (displacements g)) ≡ Some (rect_image used.placed hull))
    (sym is) (ap (λ area. Some (rect_image used.placed area)) (still hull))
