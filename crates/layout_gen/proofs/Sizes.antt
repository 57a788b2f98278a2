-- How large the cells are that are made: how deep they stand, how many elements they have, and how far their hulls reach.
use Rattle.layout_gen.proofs.Common.{◌≡◌, ◌+◌, ◌*◌, ◌≤◌, ◌∙◌, ℕ, suc, List, [], ◌∷◌, ◌++◌, length, Option, Some, None, refl, sym, ap, subst, arith}
use Rattle.layout_gen.proofs.Common.{inl, inr, ℤ, pos, ◌-ℤ◌, All, IsTrue, codes, unsigned_abs, cases_Bool, In, Grid, Rect, Label, RawTech, Place}
use Rattle.layout_gen.proofs.Common.{with_paint, Dimension, Size, MOST_TILES, diff_area, poly_label}
use Rattle.std.proofs.Common.{◌-◌, zero}
use Rattle.std.proofs.Common.{◌+ℤ◌, ◌*ℤ◌, ◌≤ℤ◌}
use Rattle.std.specs.Prelude.{max}
use Rattle.std.specs.Int.{int_max, int_min}
use Rattle.std.proofs.lemmas.Int.{ints, clamps}
use Rattle.std.proofs.lemmas.List.{append-nil, length-map}
use Rattle.std.proofs.Math.Nat.{mul-le-mul_right}
use Rattle.geo_core.specs.declared.squares.Square.{Square}
use Rattle.geo_core.specs.Areas.{LiesWithin}
use Rattle.geo_core.specs.Covering.{Covers, is_covered}
use Rattle.geo_core.specs.Elements.{elements_of}
use Rattle.geo_core.specs.Images.{identity, rect_image}
use Rattle.geo_core.proofs.CoveringLaws.{Covers-is_covered}
use Rattle.geo_core.proofs.ElementLaws.{length-elements_of}
use Rattle.geo_core.proofs.SquareLaws.{rect_is}
use Rattle.tech_model.specs.Columns.{painted_column}
use Rattle.cell_library.specs.LayoutModel.Layouts.{IsMaterial, Layout}
use Rattle.cell_library.proofs.CellPaint.PaintLaws.{changed_outside}
use Rattle.cell_library.specs.CellTree.declared.sizes.Dimension.TheVariants.{Depth, Elements, Hull}
use Rattle.cell_library.specs.CellTree.Hulls.{SpansInRange, element_hulls, round_all, spread_area, way_of}
use Rattle.cell_library.specs.CellTree.Sizes.{CellState, IsHullInRange, IsWithin, size_at, size_of}
use Rattle.cell_library.specs.CellTree.declared.limits.TheConstants.{MOST_ELEMENTS_BELOW}
use Rattle.cell_library.specs.CellTree.Uses.{displacements}
use Rattle.cell_library.proofs.CellTree.HullLaws.{round_all-grid}
use Rattle.cell_library.specs.OwnBoxes.{IsOwnBox, OwnBoxIs, box_with}
use Rattle.cell_library.specs.CellBodies.Numbers.{has_sides}
use Rattle.cell_library.proofs.BoxLaws.{labelled_box}
use Rattle.cell_library.proofs.BoxSteps.{own_box_wide}
use Rattle.cell_library.proofs.SizeLaws.{none_within}
use Rattle.layout_gen.specs.Generated.{diff_label, no_paint, poly_area, row_grid, stack_grid, tile_labels, tile_layout}
use Rattle.layout_gen.proofs.MadeCells.{all_two, few_indices, use_at}

-- ---- the tile

-- where a tile of this width and height lies
abbrev pub area_to : ℕ → ℕ → Rect
area_to width height = record { xlo = pos 0; ylo = pos 0; xhi = pos width; yhi = pos height }

poly_inside : (square : Square) → Covers poly_area square → Covers (area_to 6 6) square
poly_inside square covers = omega (arith, ints)

diff_inside : (square : Square) → Covers diff_area square → Covers (area_to 6 6) square
diff_inside square covers = omega (arith, ints)

-- all paint of the tile lies in it
tile_inside : (raw : RawTech) (poly diff : ℕ) (place : Place) → IsMaterial (tile_layout raw poly diff) place → Covers (area_to 6 6) place.square
tile_inside raw poly diff place material =
    let inner : Layout = with_paint raw poly poly_area no_paint in
    elim (cases_Bool (is_covered diff_area place.square)) [
      | inl in_diff ↦ diff_inside place.square (Covers-is_covered diff_area place.square in_diff)
      | inr outside ↦ elim (cases_Bool (is_covered poly_area place.square)) [
        | inl in_poly ↦ poly_inside place.square (Covers-is_covered poly_area place.square in_poly)
        | inr beyond ↦ absurd (material
            (changed_outside (painted_column raw diff) (is_covered diff_area) inner place outside
            ∙ changed_outside (painted_column raw poly) (is_covered poly_area) no_paint place beyond))
      ]
    ]

labels_inside : (poly diff : ℕ) (label : Label) → In label (tile_labels poly diff) → LiesWithin label.area (area_to 6 6)
labels_inside poly diff label there = elim there [
  | inl same ↦ subst (λ (l : Label). LiesWithin l.area (area_to 6 6)) same (omega (arith, ints))
  | inr later ↦ elim later [
    | inl same ↦ subst (λ (l : Label). LiesWithin l.area (area_to 6 6)) same (omega (arith, ints))
    | inr none ↦ absurd none
  ]
]

-- the box of the tile, whose paint has this box
abbrev pub tile_box : Option Rect → ℕ → ℕ → Rect
tile_box box poly diff = box_with (Some (box_with box (poly_label poly).area)) (diff_label diff).area

pub tile_box_is : (own : Layout) (box : Option Rect) (poly diff : ℕ) → OwnBoxIs own [] box → IsOwnBox own (tile_labels poly diff) (tile_box box poly diff)
tile_box_is own box poly diff is =
    labelled_box own (poly_label poly ∷ []) (Some (box_with box (poly_label poly).area)) (diff_label diff)
    (labelled_box own [] box (poly_label poly) is)

pub tile_box_inside : (raw : RawTech) (own : Layout) (box : Option Rect) (poly diff : ℕ) → ((place : Place) → own place ≡ tile_layout raw poly diff place)
    → OwnBoxIs own [] box → LiesWithin (tile_box box poly diff) (area_to 6 6)
tile_box_inside raw own box poly diff same is =
    (tile_box_is own box poly diff is).least (area_to 6 6) (record {
      material = λ place material. tile_inside raw poly diff place (λ space. material (same place ∙ space));
      labels_within = labels_inside poly diff;
    })

-- ---- a row or a stack of cells

-- the cell that has nothing but this use
abbrev pub state_of_use : List ℕ → ℕ → Grid → CellState
state_of_use id child grid = record { own = None; uses = (id, use_at child grid) ∷ [] }

-- the size of a cell rests on that of its one child
pub size_of_use : (sizes : ℕ → Size) (id : List ℕ) (child : ℕ) (grid : Grid) (size : Size) → sizes child ≡ size
    → size_of (λ _. size) (state_of_use id child grid) ≡ size_of sizes (state_of_use id child grid)
unfolding size_of
size_of_use sizes id child grid size is = ap (λ (s : Size). size_of (λ _. s) (state_of_use id child grid)) (sym is)

depth_of_use : (id : List ℕ) (child : ℕ) (grid : Grid) (size : Size) (depth : ℕ) → size.depth ≡ depth
    → (size_of (λ _. size) (state_of_use id child grid)).depth ≡ suc (max depth 0)
unfolding size_of
depth_of_use id child grid size depth is = ap (λ (d : ℕ). suc (max d 0)) is

elements_of_use : (id : List ℕ) (child : ℕ) (grid : Grid) (size : Size)
    → (size_of (λ _. size) (state_of_use id child grid)).elements ≡ suc (length (displacements (Some grid)) * size.elements + 0)
unfolding size_of
elements_of_use id child grid size = refl

identity_keeps : (area : Rect) → rect_image identity area ≡ area
unfolding rect_image
identity_keeps area = rect_is _ _ (omega (arith, ints)) (omega (arith, ints)) (omega (arith, ints)) (omega (arith, ints))

hull_of_use : (id : List ℕ) (child : ℕ) (grid : Grid) (size : Size) (hull : Rect) → size.hull ≡ Some hull
    → (size_of (λ _. size) (state_of_use id child grid)).hull ≡ Some (spread_area grid hull)
unfolding size_of
hull_of_use id child grid size hull is =
    ap (λ (h : Option Rect). round_all (element_hulls (use_at child grid) h ++ [])) is
    ∙ ap round_all (append-nil (element_hulls (use_at child grid) (Some hull)))
    ∙ round_all-grid (use_at child grid) grid hull refl
    ∙ ap (λ (area : Rect). Some area) (identity_keeps (spread_area grid hull))

way_up : (k : ℕ) → way_of (pos 0) (pos k) (pos 6) ≡ pos (k * 6)
way_up k = let same : (pos k -ℤ pos 0) ≡ pos k = omega (arith, ints) in ap (λ (z : ℤ). pos (unsigned_abs z) *ℤ pos 6) same

-- The hull goes no farther to the right and up than this, and not below 0; and it is not turned inside out.
pub record Fits (width height : ℕ) (hull : Rect) : Type 0 where
  pub within : LiesWithin hull (area_to width height)
  pub wide : hull.xlo ≤ℤ hull.xhi
  pub high : hull.ylo ≤ℤ hull.yhi

-- the rectangle with more to the right, and more above
abbrev spread_by : Rect → ℤ → ℤ → Rect
spread_by hull across up = record {
  xlo = hull.xlo +ℤ int_min across (pos 0);
  ylo = hull.ylo +ℤ int_min up (pos 0);
  xhi = hull.xhi +ℤ int_max across (pos 0);
  yhi = hull.yhi +ℤ int_max up (pos 0);
}

spread_fits : (hull : Rect) (across up : ℤ) (width height right above wide tall : ℕ) → pos 0 ≤ℤ across → across ≤ℤ pos right → pos 0 ≤ℤ up → up ≤ℤ pos above
    → width + right ≤ wide → height + above ≤ tall → Fits width height hull → Fits wide tall (spread_by hull across up)
spread_fits hull across up width height right above wide tall a b d e f g fits =
    let inside = fits.within in
    let is_wide = fits.wide in
    let is_high = fits.high in
    record {
      within = record {
        right_of_xlo = omega (arith, ints, clamps);
        above_ylo = omega (arith, ints, clamps);
        left_of_xhi = omega (arith, ints, clamps);
        below_yhi = omega (arith, ints, clamps);
      };
      wide = omega (arith, ints, clamps);
      high = omega (arith, ints, clamps);
    }

way_low : (k : ℕ) → pos 0 ≤ℤ way_of (pos 0) (pos k) (pos 6)
way_low k = subst (λ (z : ℤ). pos 0 ≤ℤ z) (sym (way_up k)) (omega (arith, ints))

way_high : (k : ℕ) → way_of (pos 0) (pos k) (pos 6) ≤ℤ pos (k * 6)
way_high k = subst (λ (z : ℤ). z ≤ℤ pos (k * 6)) (sym (way_up k)) (omega (arith, ints))

-- tiles side by side
row_spread : (k : ℕ) (hull : Rect) → k ≤ 499 → Fits 6 6 hull
    → Fits 3000 6 (spread_area (record { xlo = pos 0; xhi = pos k; xsep = pos 6; ylo = pos 0; yhi = pos 0; ysep = pos 0 }) hull)
row_spread k hull few fits =
    spread_fits hull (way_of (pos 0) (pos k) (pos 6)) (way_of (pos 0) (pos 0) (pos 0)) 6 6 (k * 6) 0 3000 6 (way_low k) (way_high k)
    (omega (arith, ints)) (omega (arith, ints)) (omega arith) (omega arith) fits

-- rows one above the other
stack_spread : (k : ℕ) (hull : Rect) → k ≤ 499 → Fits 3000 6 hull
    → Fits 3000 3000 (spread_area (record { xlo = pos 0; xhi = pos 0; xsep = pos 0; ylo = pos 0; yhi = pos k; ysep = pos 6 }) hull)
stack_spread k hull few fits =
    spread_fits hull (way_of (pos 0) (pos 0) (pos 0)) (way_of (pos 0) (pos k) (pos 6)) 3000 6 0 (k * 6) 3000 3000 (omega (arith, ints)) (omega (arith, ints))
    (way_low k) (way_high k) (omega arith) (omega arith) fits

fits_in_range : (width height : ℕ) (hull : Rect) → width ≤ 3000 → height ≤ 3000 → Fits width height hull → SpansInRange hull
fits_in_range width height hull narrow low fits =
    let inside = fits.within in
    let wide = fits.wide in
    let high = fits.high in
    record {
      xlo = record { low = omega (arith, ints); high = omega (arith, ints) };
      ylo = record { low = omega (arith, ints); high = omega (arith, ints) };
      xhi = record { low = omega (arith, ints); high = omega (arith, ints) };
      yhi = record { low = omega (arith, ints); high = omega (arith, ints) };
    }

-- ---- how many elements

row_count : (n : ℕ) → 1 ≤ n → length (displacements (Some (row_grid n))) ≡ n
row_count n some =
    length-map (elements_of (row_grid n)) (λ element. (element.2, element.3)) ∙ length-elements_of (row_grid n)
    ∙ ap (λ (count : ℕ). 1 * count) (few_indices (n - 1)) ∙ (let all : 1 * suc (n - 1) ≡ n = omega arith in all)

stack_count : (n : ℕ) → 1 ≤ n → length (displacements (Some (stack_grid n))) ≡ n
stack_count n some =
    length-map (elements_of (stack_grid n)) (λ element. (element.2, element.3)) ∙ length-elements_of (stack_grid n)
    ∙ ap (λ (count : ℕ). count * 1) (few_indices (n - 1)) ∙ (let all : suc (n - 1) * 1 ≡ n = omega arith in all)

few_elements : (n child count : ℕ) → n ≤ MOST_TILES → child ≤ suc MOST_TILES → count ≡ n → suc (count * child + 0) ≤ MOST_ELEMENTS_BELOW
few_elements n child count few below is =
    let more : count * child ≤ MOST_TILES * child = mul-le-mul_right child (omega (arith, is, few)) in
    omega arith

-- ---- the three sizes

abbrev pub tile_size : Rect → Size
tile_size box = record { hull = Some box; elements = 1; depth = 1 }

abbrev pub row_state : ℕ → ℕ → CellState
row_state child n = state_of_use (codes "t") child (row_grid n)

abbrev pub stack_state : ℕ → ℕ → CellState
stack_state child n = state_of_use (codes "r") child (stack_grid n)

abbrev pub row_size : Rect → ℕ → ℕ → Size
row_size box child n = size_of (λ _. tile_size box) (row_state child n)

abbrev pub stack_size : Rect → ℕ → ℕ → ℕ → Size
stack_size box child row n = size_of (λ _. row_size box child n) (stack_state row n)

abbrev pub made_sizes : Rect → ℕ → ℕ → ℕ → List Size
made_sizes box child row n = tile_size box ∷ row_size box child n ∷ stack_size box child row n ∷ []

-- the size of the tile is that of a cell without uses
pub tile_size_is : (sizes : ℕ → Size) (box : Rect) → tile_size box ≡ size_of sizes (record { own = Some box; uses = [] })
unfolding size_of
tile_size_is sizes box = refl

module _ (box : Rect) (child row n : ℕ) (some : 1 ≤ n) (few : n ≤ MOST_TILES) (fits : Fits 6 6 box) where
  row_depth : (row_size box child n).depth ≡ 2
  row_depth = depth_of_use (codes "t") child (row_grid n) (tile_size box) 1 refl

  row_hull : (row_size box child n).hull ≡ Some (spread_area (row_grid n) box)
  row_hull = hull_of_use (codes "t") child (row_grid n) (tile_size box) box refl

  stack_hull : (stack_size box child row n).hull ≡ Some (spread_area (stack_grid n) (spread_area (row_grid n) box))
  stack_hull = hull_of_use (codes "r") row (stack_grid n) (row_size box child n) (spread_area (row_grid n) box) row_hull

  row_elements : (row_size box child n).elements ≤ suc MOST_TILES
  row_elements =
      let is = elements_of_use (codes "t") child (row_grid n) (tile_size box) in
      let count = row_count n some in
      omega arith

  tile_within : (dimension : Dimension) → IsWithin dimension (tile_size box)
  tile_within Depth = omega arith
  tile_within Elements = omega arith
  tile_within Hull = fits_in_range 6 6 box (omega arith) (omega arith) fits

  row_within : (dimension : Dimension) → IsWithin dimension (row_size box child n)
  row_within Depth = let is = row_depth in omega arith
  row_within Elements = let is = row_elements in omega arith
  row_within Hull =
      subst IsHullInRange (sym row_hull)
      (fits_in_range 3000 6 (spread_area (row_grid n) box) (omega arith) (omega arith) (row_spread (n - 1) box (omega arith) fits))

  stack_within : (dimension : Dimension) → IsWithin dimension (stack_size box child row n)
  stack_within Depth =
      let is = depth_of_use (codes "r") row (stack_grid n) (row_size box child n) 2 row_depth in
      omega arith
  stack_within Elements =
      let is = elements_of_use (codes "r") row (stack_grid n) (row_size box child n) in
      let all = few_elements n (row_size box child n).elements (length (displacements (Some (stack_grid n)))) few row_elements (stack_count n some) in
      subst (λ (count : ℕ). count ≤ MOST_ELEMENTS_BELOW) (sym is) all
  stack_within Hull =
      subst IsHullInRange (sym stack_hull)
      (fits_in_range 3000 3000 (spread_area (stack_grid n) (spread_area (row_grid n) box)) (omega arith) (omega arith)
      (stack_spread (n - 1) (spread_area (row_grid n) box) (omega arith) (row_spread (n - 1) box (omega arith) fits)))

  -- they keep within all limits
  pub made_within : (dimension : Dimension) (j : ℕ) → IsWithin dimension (size_at (made_sizes box child row n) j)
  made_within dimension zero = tile_within dimension
  made_within dimension (suc zero) = row_within dimension
  made_within dimension (suc (suc zero)) = stack_within dimension
  made_within dimension (suc (suc (suc j))) = none_within dimension

-- the box of the tile fits
pub tile_fits : (raw : RawTech) (own : Layout) (box : Option Rect) (poly diff : ℕ) → ((place : Place) → own place ≡ tile_layout raw poly diff place)
    → OwnBoxIs own [] box → Fits 6 6 (tile_box box poly diff)
tile_fits raw own box poly diff same is =
    let upright : All (λ (label : Label). IsTrue (has_sides label.area)) (tile_labels poly diff) =
    all_two (λ (label : Label). IsTrue (has_sides label.area)) (poly_label poly) (diff_label diff) refl refl in
    let turned = own_box_wide own (tile_labels poly diff) (tile_box box poly diff) (tile_box_is own box poly diff is) upright in
    record { within = tile_box_inside raw own box poly diff same is; wide = turned.0; high = turned.1 }
