-- The boxes of the elements of a cell lie within the range of paint.
use Rattle.cell_library.proofs.Common.{◌≡◌, ◌<◌, ◌≤◌, inl, inr, ◌+◌, ℕ, zero, suc, ℤ, ◌≤ℤ◌, append_assoc, drop, List, [], ◌∷◌, ◌++◌, length, Option}
use Rattle.cell_library.proofs.Common.{refl, sym, ap, subst, ◌∙◌, arith, All, slice_get, option_to_list, ints, clamps, append-nil, drop_all}
use Rattle.cell_library.proofs.Common.{get_or_past, In, In-append_cases, In-append_right, In-map_source, All-from_In, drop-slice_get, Orient, R0}
use Rattle.cell_library.proofs.Common.{Rect, joined_rect, transform_of, Hull, Size, UseBody, IsInside, IsLawfulBox, displaced, element_hulls}
use Rattle.cell_library.proofs.Common.{round_all, AreSizes, CellState, IsHullInRange, hulls_below, size_at, IsLawfulTree, Tree, cell_at}
use Rattle.cell_library.proofs.Common.{displacements, inside_all, child_is_lower, cell_is, AreElementBoxes, IsLawfulLibrary, LibraryParts}
use Rattle.cell_library.proofs.Common.{cells_seen, seen, uses_in, CellView, no_cell, view_at}
use Rattle.std.proofs.Common.{Some, None}
use Rattle.geo_core.specs.Images.{rect_image}
use Rattle.cell_tree.specs.Hulls.{round_both}
use Rattle.cell_tree.specs.Sizes.{size_of}
use Rattle.cell_library.specs.Limits.{HullIs}
use Rattle.cell_library.proofs.BoxLaws.{box_within}
use Rattle.cell_library.proofs.LimitLaws.{states_unique}
use Rattle.cell_library.proofs.SizeLaws.{hulls_same, one_size, some_depth, tree_children}
use Rattle.cell_library.proofs.UseEdits.{cell_below, child_below, uses_here}
use Rattle.cell_library.proofs.ViewLaws.{length-cell_views}

-- ---- boxes that are not turned inside out

-- The box is not turned inside out.
abbrev pub IsUpright : Rect → Type 0
IsUpright box = (box.xlo ≤ℤ box.xhi) × (box.ylo ≤ℤ box.yhi)

upright_by_orient : (o : Orient) (dx dy : ℤ) (area : Rect) → IsUpright area → IsUpright (rect_image (transform_of o dx dy) area)
unfolding rect_image
upright_by_orient R0 dx dy area up = (omega (arith, ints, up.0), omega (arith, ints, up.1))
upright_by_orient _ dx dy area up = (omega (arith, ints, up.0, up.1), omega (arith, ints, up.0, up.1))

-- nor are its images where its elements stand
upright_element : (used : UseBody) (hull : Rect) (step : ℤ × ℤ) → IsUpright hull → IsUpright (rect_image used.placed (displaced hull step))
upright_element used hull step up =
    upright_by_orient used.placed.orient used.placed.dx used.placed.dy (displaced hull step) (omega (arith, ints, up.0), omega (arith, ints, up.1))

upright_both : (first : Rect) (rest : Option Rect) → IsUpright first → ((box : Rect) → rest ≡ Some box → IsUpright box) → (box : Rect)
    → round_both (Some first) rest ≡ Some box → IsUpright box
upright_both first None up later box is = let same : first ≡ box = cc in subst IsUpright same up
upright_both first (Some other) up later box is =
    let same : joined_rect first other ≡ box = cc in
    let up' = later other refl in
    let joined : IsUpright (joined_rect first other) = (omega (arith, ints, clamps, up.0, up'.0), omega (arith, ints, clamps, up.1, up'.1)) in
    subst IsUpright same joined

-- nor is the smallest box that goes round all
upright_round : (boxes : List Rect) → ((box : Rect) → In box boxes → IsUpright box) → (box : Rect) → round_all boxes ≡ Some box → IsUpright box
upright_round [] each box is = absurd (cc)
upright_round (first ∷ rest) each box is =
    upright_both first (round_all rest) (each first (inl refl)) (upright_round rest (λ other stands. each other (inr stands))) box is

-- ---- where the boxes come from

-- The box is the hull of the child of one of the uses, where one of its elements stands.
record IsBelow (sizes : ℕ → Size) (uses : List (List ℕ × UseBody)) (box : Rect) : Type 0 where
  k : ℕ
  entry : List ℕ × UseBody
  stands : slice_get uses k ≡ Some entry
  hull : Rect
  has : (sizes entry.1.child.0).hull ≡ Some hull
  step : ℤ × ℤ
  is : rect_image entry.1.placed (displaced hull step) ≡ box

element_source : (used : UseBody) (hull : Option Rect) (box : Rect) → In box (element_hulls used hull)
    → (area : Rect) × (step : ℤ × ℤ) × (hull ≡ Some area) × (rect_image used.placed (displaced area step) ≡ box)
element_source used None box stands = absurd stands
element_source used (Some area) box stands =
    let from = In-map_source (λ (step : ℤ × ℤ). rect_image used.placed (displaced area step)) box (displacements used.grid) stands in
    (area, from.0, refl, from.1.1)

below_source : (sizes : ℕ → Size) (uses : List (List ℕ × UseBody)) (box : Rect) → In box (hulls_below sizes uses) → IsBelow sizes uses box
below_source sizes [] box stands = absurd stands
below_source sizes (entry ∷ rest) box stands =
    elim (In-append_cases box (element_hulls entry.1 (sizes entry.1.child.0).hull) (hulls_below sizes rest) stands) [
      | inl here ↦
          let from = element_source entry.1 (sizes entry.1.child.0).hull box here in
          record { k = 0; entry = entry; stands = refl; hull = from.0; has = from.2; step = from.1; is = from.3 }
      | inr there ↦
          let from = below_source sizes rest box there in
          record { k = suc from.k; entry = from.entry; stands = from.stands; hull = from.hull; has = from.has; step = from.step; is = from.is }
    ]

own_source : (own : Option Rect) (box : Rect) → In box (option_to_list own) → own ≡ Some box
own_source None box stands = absurd stands
own_source (Some area) box (inl same) = ap Some same
own_source (Some area) box (inr stands) = absurd stands

hull_is : (sizes : ℕ → Size) (cell : CellState) → (size_of sizes cell).hull ≡ round_all (option_to_list cell.own ++ hulls_below sizes cell.uses)
unfolding size_of
hull_is sizes cell = refl

in_range : (box : Rect) (outer : Option Rect) → IsUpright box → IsInside (Some box) outer → IsHullInRange outer → IsLawfulBox box
in_range box None up inside near = absurd inside
in_range box (Some outer) up inside near = box_within box outer up.0 up.1 inside near

-- ---- lawful trees

module _ (tree : Tree) (lawful : IsLawfulTree tree) where
  round : (key : ℕ) → key < length tree.cells
      → (size_at tree.sizes key).hull ≡
      round_all (option_to_list (cell_at tree.cells key).own ++ hulls_below (size_at tree.sizes) (cell_at tree.cells key).uses)
  round key below =
      ap (λ (size : Size). size.hull) (lawful.sizes.right key (cell_at tree.cells key) (cell_is tree.cells key below))
      ∙ hull_is (size_at tree.sizes) (cell_at tree.cells key)

  upright_to : (n key : ℕ) → key < length tree.cells → (size_at tree.sizes key).depth ≤ n → (hull : Rect)
      → (size_at tree.sizes key).hull ≡ Some hull → IsUpright hull
  upright_to zero key below deep hull is =
      let cell = cell_at tree.cells key in
      let some = some_depth (size_at tree.sizes) cell in
      let here : (size_at tree.sizes key).depth ≡ (size_of (size_at tree.sizes) cell).depth =
      ap (λ (size : Size). size.depth) (lawful.sizes.right key cell (cell_is tree.cells key below)) in
      absurd (omega arith)
  upright_to (suc n) key below deep hull is =
      let cell = cell_at tree.cells key in
      let there = cell_is tree.cells key below in
      let here : (size_at tree.sizes key).depth ≡ (size_of (size_at tree.sizes) cell).depth =
      ap (λ (size : Size). size.depth) (lawful.sizes.right key cell there) in
      upright_round (option_to_list cell.own ++ hulls_below (size_at tree.sizes) cell.uses)
      (λ box stands. elim (In-append_cases box (option_to_list cell.own) (hulls_below (size_at tree.sizes) cell.uses) stands) [
        | inl own ↦ let box_is = (lawful.each key cell there).own box (own_source cell.own box own) in (box_is.wide, box_is.high)
        | inr under ↦
            let from = below_source (size_at tree.sizes) cell.uses box under in
            let falls = child_is_lower (size_at tree.sizes) cell from.k from.entry from.stands in
            let child : from.entry.1.child.0 < length tree.cells = tree_children tree lawful key cell there from.k from.entry from.stands in
            subst IsUpright from.is
            (upright_element from.entry.1 from.hull from.step (upright_to n from.entry.1.child.0 child (omega arith) from.hull from.has))
      ]) hull (sym (round key below) ∙ is)

  -- the boxes of the elements of a cell are lawful
  pub boxes_are_lawful : (key : ℕ) → key < length tree.cells → All IsLawfulBox (hulls_below (size_at tree.sizes) (cell_at tree.cells key).uses)
  boxes_are_lawful key below =
      let cell = cell_at tree.cells key in
      let all = option_to_list cell.own ++ hulls_below (size_at tree.sizes) cell.uses in
      All-from_In IsLawfulBox (hulls_below (size_at tree.sizes) cell.uses) (λ box stands.
      let from = below_source (size_at tree.sizes) cell.uses box stands in
      let child : from.entry.1.child.0 < length tree.cells =
      tree_children tree lawful key cell (cell_is tree.cells key below) from.k from.entry from.stands in
      let up : IsUpright box =
      subst IsUpright from.is
      (upright_element from.entry.1 from.hull from.step
      (upright_to (size_at tree.sizes from.entry.1.child.0).depth from.entry.1.child.0 child (omega arith) from.hull from.has)) in
      let inside : IsInside (Some box) (size_at tree.sizes key).hull =
      subst (IsInside (Some box)) (sym (round key below))
      (inside_all all box (In-append_right box (option_to_list cell.own) (hulls_below (size_at tree.sizes) cell.uses) stands)) in
      in_range box (size_at tree.sizes key).hull up inside (lawful.sizes.within Hull key))

-- ---- lawful libraries

module _ (library : LibraryParts) (lawful : IsLawfulLibrary library) where
  -- the hull that is seen is that of the tree
  pub hull_seen : (cell : ℕ) (hull : Option Rect) → cell < length library.contents → HullIs (seen library) cell hull
      → hull ≡ (size_at library.tree.sizes cell).hull
  hull_seen cell hull below is =
      let cells = cells_seen library.contents library.tree in
      let same : is.states ≡ library.tree.cells = states_unique cells is.states library.tree.cells is.are_states lawful.boxes in
      let right : AreSizes library.tree.cells is.sizes = subst (λ (states : List CellState). AreSizes states is.sizes) same is.are_sizes in
      is.is
      ∙ ap (λ (size : Size). size.hull) (one_size library.tree.cells is.sizes library.tree.sizes (tree_children library.tree lawful.tree) right
      lawful.tree.sizes.right cell (cell_below library lawful cell below))

  -- boxes of elements are those that the tree tells
  pub boxes_are : (cell : ℕ) (boxes : List Rect) → cell < length library.contents → AreElementBoxes (seen library) cell boxes
      → boxes ≡ hulls_below (size_at library.tree.sizes) (view_at (seen library) cell).uses
  boxes_are cell boxes below are =
      let cells = cells_seen library.contents library.tree in
      let same : are.states ≡ library.tree.cells = states_unique cells are.states library.tree.cells are.are_states lawful.boxes in
      let right : AreSizes library.tree.cells are.sizes = subst (λ (states : List CellState). AreSizes states are.sizes) same are.are_sizes in
      are.are
      ∙ hulls_same (size_at are.sizes) (size_at library.tree.sizes) (view_at (seen library) cell).uses (λ k entry is.
      one_size library.tree.cells are.sizes library.tree.sizes (tree_children library.tree lawful.tree) right lawful.tree.sizes.right entry.1.child.0
      (child_below library lawful cell below k entry
      (ap (λ (uses : List (List ℕ × UseBody)). slice_get uses k) (sym (uses_here library lawful cell below)) ∙ is)))

  -- past the last cell there are no uses
  pub none_past : (cell : ℕ) → length library.contents ≤ cell → (view_at (seen library) cell).uses ≡ []
  none_past cell past =
      let long = length-cell_views library.contents (uses_in library.tree.cells) in
      let over : length (cells_seen library.contents library.tree) ≤ cell = omega arith in
      ap (λ (view : CellView). view.uses) (get_or_past (cells_seen library.contents library.tree) cell no_cell over)

  -- the boxes that the tree tells are those of the cell's elements
  pub boxes_of_tree : (cell : ℕ) (boxes : List Rect) → boxes ≡ hulls_below (size_at library.tree.sizes) (view_at (seen library) cell).uses
      → AreElementBoxes (seen library) cell boxes
  boxes_of_tree cell boxes is = record {
    states = library.tree.cells;
    are_states = lawful.boxes;
    sizes = library.tree.sizes;
    are_sizes = lawful.tree.sizes.right;
    are = is;
  }

  -- and they are lawful
  pub seen_boxes_are_lawful : (cell : ℕ) (boxes : List Rect) → cell < length library.contents
      → boxes ≡ hulls_below (size_at library.tree.sizes) (view_at (seen library) cell).uses → All IsLawfulBox boxes
  seen_boxes_are_lawful cell boxes below is =
      subst (All IsLawfulBox) (sym (is ∙ ap (hulls_below (size_at library.tree.sizes)) (uses_here library lawful cell below)))
      (boxes_are_lawful library.tree lawful.tree cell (cell_below library lawful cell below))

-- ---- use by use

-- the boxes of the elements of one use more
pub boxes_on : (sizes : ℕ → Size) (uses : List (List ℕ × UseBody)) (k : ℕ) (id : List ℕ) (body : UseBody) (so_far after all : List Rect)
    → slice_get uses k ≡ Some (id, body) → so_far ++ hulls_below sizes (drop k uses) ≡ all
    → after ≡ so_far ++ element_hulls body (sizes body.child.0).hull
    → after ++ hulls_below sizes (drop (k + 1) uses) ≡ all
boxes_on sizes uses k id body so_far after all at is next =
    ap (λ (boxes : List Rect). boxes ++ hulls_below sizes (drop (k + 1) uses)) next
    ∙ append_assoc so_far (element_hulls body (sizes body.child.0).hull) (hulls_below sizes (drop (k + 1) uses))
    ∙ ap (λ (boxes : List Rect). so_far ++ boxes) (sym (ap (hulls_below sizes) (drop-slice_get uses k (id, body) at))) ∙ is

-- the boxes of all
pub boxes_all : (sizes : ℕ → Size) (uses : List (List ℕ × UseBody)) (k : ℕ) (so_far all : List Rect) → length uses ≤ k
    → so_far ++ hulls_below sizes (drop k uses) ≡ all → so_far ≡ all
boxes_all sizes uses k so_far all long is =
    sym (ap (λ (rest : List (List ℕ × UseBody)). so_far ++ hulls_below sizes rest) (drop_all k uses long) ∙ append-nil so_far) ∙ is
