-- Sizes shrink where own boxes, children and uses do.
use Rattle.cell_tree.proofs.Common.{◌≡◌, ℕ, zero, suc, ◌≤◌, ℤ, ◌≤ℤ◌, List, [], ◌∷◌, ◌++◌, take, drop, length, map, Option, Some, None, refl, sym}
use Rattle.cell_tree.proofs.Common.{subst, arith, option_to_list, ints, clamps, Orient, R0, Rect, transform_of, Dimension, Depth, Elements, Hull}
use Rattle.cell_tree.proofs.Common.{Size, UseBody, displacements, displaced, element_hulls, round_both, round_all, IsInside, IsPaintable, CellState}
use Rattle.cell_tree.proofs.Common.{IsWithin, IsHullInRange}
use Rattle.std.specs.Prelude.{slice_get}
use Rattle.std.proofs.Math.Nat.{mul-le-mul_left}
use Rattle.geo_core.specs.Areas.{LiesWithin}
use Rattle.geo_core.specs.Images.{rect_image}
use Rattle.cell_tree.specs.Sizes.{size_of, hulls_below, elements_below, depth_below}
use Rattle.cell_tree.proofs.HullLaws.{image_within, inside_trans, inside_right, inside_each, inside_maps, round_all-append}

-- The box, if there is one, is not turned inside out.
abbrev pub IsUpright : Option Rect → Type 0
IsUpright None = Unit {0}
IsUpright (Some box) = (box.xlo ≤ℤ box.xhi) × (box.ylo ≤ℤ box.yhi)

-- The first size is no larger than the second in this dimension.
abbrev pub IsSmaller : Dimension → Size → Size → Type 0
IsSmaller Depth a b = a.depth ≤ b.depth
IsSmaller Elements a b = a.elements ≤ b.elements
IsSmaller Hull a b = IsInside a.hull b.hull × IsUpright a.hull

paintable_between : (low z high : ℤ) → low ≤ℤ z → z ≤ℤ high → IsPaintable low → IsPaintable high → IsPaintable z
paintable_between low z high p q a b = record { low = omega (arith, ints, a.low, p); high = omega (arith, ints, b.high, q) }

hull_within : (a b : Option Rect) → IsInside a b → IsUpright a → IsHullInRange b → IsHullInRange a
hull_within None b p up near = tt
hull_within (Some a) None p up near = absurd p
hull_within (Some a) (Some b) p up near =
    record {
      xlo = paintable_between b.xlo a.xlo b.xhi p.right_of_xlo (omega (arith, ints, p.left_of_xhi, up.0)) near.xlo near.xhi;
      ylo = paintable_between b.ylo a.ylo b.yhi p.above_ylo (omega (arith, ints, p.below_yhi, up.1)) near.ylo near.yhi;
      xhi = paintable_between b.xlo a.xhi b.xhi (omega (arith, ints, p.right_of_xlo, up.0)) p.left_of_xhi near.xlo near.xhi;
      yhi = paintable_between b.ylo a.yhi b.yhi (omega (arith, ints, p.above_ylo, up.1)) p.below_yhi near.ylo near.yhi;
    }

-- what is no larger than a size within the limit is within it
pub smaller_within : (dimension : Dimension) (a b : Size) → IsSmaller dimension a b → IsWithin dimension b → IsWithin dimension a
smaller_within Depth a b small within = omega (arith, small, within)
smaller_within Elements a b small within = omega (arith, small, within)
smaller_within Hull a b small within = hull_within a.hull b.hull small.0 small.1 within

upright_both : (a b : Option Rect) → IsUpright a → IsUpright b → IsUpright (round_both a b)
upright_both None b p q = q
upright_both (Some a) None p q = p
upright_both (Some a) (Some b) p q = (omega (arith, ints, clamps, p.0, q.0), omega (arith, ints, clamps, p.1, q.1))

upright_image : (o : Orient) (dx dy : ℤ) (area : Rect) → area.xlo ≤ℤ area.xhi → area.ylo ≤ℤ area.yhi
    → ((rect_image (transform_of o dx dy) area).xlo ≤ℤ (rect_image (transform_of o dx dy) area).xhi)
    × ((rect_image (transform_of o dx dy) area).ylo ≤ℤ (rect_image (transform_of o dx dy) area).yhi)
unfolding rect_image
upright_image R0 dx dy area p q = (omega (arith, ints), omega (arith, ints))
upright_image _ dx dy area p q = (omega (arith, ints), omega (arith, ints))

upright_elements : (used : UseBody) (hull : Rect) (steps : List (ℤ × ℤ)) → IsUpright (Some hull)
    → IsUpright (round_all (map (λ step. rect_image used.placed (displaced hull step)) steps))
upright_elements used hull [] up = tt
upright_elements used hull (step ∷ rest) up =
    upright_both (Some (rect_image used.placed (displaced hull step))) (round_all (map (λ step. rect_image used.placed (displaced hull step)) rest))
    (upright_image used.placed.orient used.placed.dx used.placed.dy (displaced hull step) (omega (arith, ints, up.0)) (omega (arith, ints, up.1)))
    (upright_elements used hull rest up)

upright_use : (used : UseBody) (hull : Option Rect) → IsUpright hull → IsUpright (round_all (element_hulls used hull))
upright_use used None up = tt
upright_use used (Some hull) up = upright_elements used hull (displacements used.grid) up

upright_own : (own : Option Rect) → IsUpright own → IsUpright (round_all (option_to_list own))
upright_own None up = tt
upright_own (Some box) up = up

displaced_within : (a b : Rect) (step : _) → LiesWithin a b → LiesWithin (displaced a step) (displaced b step)
displaced_within a b step p =
    record {
      right_of_xlo = omega (arith, ints, p.right_of_xlo);
      above_ylo = omega (arith, ints, p.above_ylo);
      left_of_xhi = omega (arith, ints, p.left_of_xhi);
      below_yhi = omega (arith, ints, p.below_yhi);
    }

hulls-smaller : (used : UseBody) (a b : Option Rect) → IsInside a b → IsInside (round_all (element_hulls used a)) (round_all (element_hulls used b))
hulls-smaller used None b p = tt
hulls-smaller used (Some a) None p = absurd p
hulls-smaller used (Some a) (Some b) p =
    inside_maps (λ step. rect_image used.placed (displaced a step)) (λ step. rect_image used.placed (displaced b step)) (displacements used.grid)
    (λ step. image_within used.placed (displaced a step) (displaced b step) (displaced_within a b step p))

-- The first uses are among the second, in their order.
pub data AreAmong : List (List ℕ × UseBody) → List (List ℕ × UseBody) → Type 0 where
  none : AreAmong [] []
  both : {xs ys : List (List ℕ × UseBody)} (entry : List ℕ × UseBody) → AreAmong xs ys → AreAmong (entry ∷ xs) (entry ∷ ys)
  skip : {xs ys : List (List ℕ × UseBody)} (entry : List ℕ × UseBody) → AreAmong xs ys → AreAmong xs (entry ∷ ys)

-- all uses are among themselves
pub among_all : (uses : List (List ℕ × UseBody)) → AreAmong uses uses
among_all [] = none
among_all (entry ∷ rest) = both entry (among_all rest)

-- those that are left where one is taken away are among them
pub among_removed : (uses : List (List ℕ × UseBody)) (k : ℕ) → AreAmong (take k uses ++ drop (suc k) uses) uses
among_removed [] zero = none
among_removed [] (suc k) = none
among_removed (entry ∷ rest) zero = skip entry (among_all rest)
among_removed (entry ∷ rest) (suc k) = both entry (among_removed rest k)

module _ (f g : ℕ → Size) where
  depth-smaller : {xs ys : List (List ℕ × UseBody)} → AreAmong xs ys
      → ((k : ℕ) (entry : List ℕ × UseBody) → slice_get ys k ≡ Some entry → IsSmaller Depth (f entry.1.child.0) (g entry.1.child.0))
      → depth_below f xs ≤ depth_below g ys
  depth-smaller none low = omega arith
  depth-smaller (both e rest) low = omega (arith, low 0 e refl, depth-smaller rest (λ k entry is. low (suc k) entry is))
  depth-smaller (skip e rest) low = omega (arith, depth-smaller rest (λ k entry is. low (suc k) entry is))

  elements-smaller : {xs ys : List (List ℕ × UseBody)} → AreAmong xs ys
      → ((k : ℕ) (entry : List ℕ × UseBody) → slice_get ys k ≡ Some entry → IsSmaller Elements (f entry.1.child.0) (g entry.1.child.0))
      → elements_below f xs ≤ elements_below g ys
  elements-smaller none low = omega arith
  elements-smaller (both e rest) low =
      omega (arith, mul-le-mul_left (length (displacements e.1.grid)) (low 0 e refl), elements-smaller rest (λ k entry is. low (suc k) entry is))
  elements-smaller (skip e rest) low = omega (arith, elements-smaller rest (λ k entry is. low (suc k) entry is))

  hulls_below-smaller : {xs ys : List (List ℕ × UseBody)} → AreAmong xs ys
      → ((k : ℕ) (entry : List ℕ × UseBody) → slice_get ys k ≡ Some entry → IsSmaller Hull (f entry.1.child.0) (g entry.1.child.0))
      → IsInside (round_all (hulls_below f xs)) (round_all (hulls_below g ys)) × IsUpright (round_all (hulls_below f xs))
  hulls_below-smaller none low = (tt, tt)
  hulls_below-smaller (both {xs} {ys} e rest) low =
      let below = hulls_below-smaller rest (λ k entry is. low (suc k) entry is) in (
        subst (λ a. IsInside a (round_all (hulls_below g (e ∷ ys)))) (sym (round_all-append (element_hulls e.1 (f e.1.child.0).hull) (hulls_below f xs)))
            (subst (IsInside (round_both (round_all (element_hulls e.1 (f e.1.child.0).hull)) (round_all (hulls_below f xs))))
            (sym (round_all-append (element_hulls e.1 (g e.1.child.0).hull) (hulls_below g ys)))
            (inside_each _ _ _ _ (hulls-smaller e.1 (f e.1.child.0).hull (g e.1.child.0).hull (low 0 e refl).0) below.0)),
        subst IsUpright (sym (round_all-append (element_hulls e.1 (f e.1.child.0).hull) (hulls_below f xs)))
            (upright_both _ _ (upright_use e.1 (f e.1.child.0).hull (low 0 e refl).1) below.1),
      )
  hulls_below-smaller (skip {xs} {ys} e rest) low =
      let below = hulls_below-smaller rest (λ k entry is. low (suc k) entry is) in (
        subst (IsInside (round_all (hulls_below f xs))) (sym (round_all-append (element_hulls e.1 (g e.1.child.0).hull) (hulls_below g ys)))
            (inside_trans _ (round_all (hulls_below g ys)) _ below.0
            (inside_right (round_all (element_hulls e.1 (g e.1.child.0).hull)) (round_all (hulls_below g ys)))),
        below.1,
      )

  own-smaller : (a b : Option Rect) → IsInside a b → IsInside (round_all (option_to_list a)) (round_all (option_to_list b))
  own-smaller None b p = tt
  own-smaller (Some a) None p = absurd p
  own-smaller (Some a) (Some b) p = p

  -- A cell shrinks in a dimension where its own box, its uses and all children do.
  pub size_of-smaller : (dimension : Dimension) (a b : CellState) → IsInside a.own b.own → IsUpright a.own → AreAmong a.uses b.uses
      → ((k : ℕ) (entry : List ℕ × UseBody) → slice_get b.uses k ≡ Some entry → IsSmaller dimension (f entry.1.child.0) (g entry.1.child.0))
      → IsSmaller dimension (size_of f a) (size_of g b)
  unfolding size_of
  size_of-smaller Depth a b own up uses low = omega (arith, depth-smaller uses low)
  size_of-smaller Elements a b own up uses low = omega (arith, elements-smaller uses low)
  size_of-smaller Hull a b own up uses low =
      let below = hulls_below-smaller uses low in (
        subst (λ hull. IsInside hull (round_all (option_to_list b.own ++ hulls_below g b.uses)))
            (sym (round_all-append (option_to_list a.own) (hulls_below f a.uses)))
            (subst (IsInside (round_both (round_all (option_to_list a.own)) (round_all (hulls_below f a.uses))))
            (sym (round_all-append (option_to_list b.own) (hulls_below g b.uses)))
            (inside_each _ _ _ _ (own-smaller a.own b.own own) below.0)),
        subst IsUpright (sym (round_all-append (option_to_list a.own) (hulls_below f a.uses)))
            (upright_both _ _ (upright_own a.own up) below.1),
      )
