-- Elements of one child: what of its flat layout they have at a place, and the paths through them. And the elements of a grid.
use Rattle.stack_nodes.proofs.Common.{◌≡◌, ◌∙◌, ℕ, ℤ, pos, neg_ℤ, List, [], ◌∷◌, inl, inr, refl, sym, ap, subst, arith, Some, ints, In, Square}
use Rattle.stack_nodes.proofs.Common.{identity, RawTech, In-map, In-map_source, place_back, Place, element_transform, UseElement, array_element}
use Rattle.stack_nodes.proofs.Common.{use_elements, named_elements_at, HasNodePath, HasNodePathBelow, NamedTree, no_more}
use Rattle.std.proofs.Common.{◌⊎◌, ◌+ℤ◌, bit_or}
use Rattle.tech_model.specs.GeoCore.FiniteSets.Range.{IsBetween, integer_range, pairs_of}
use Rattle.tech_model.specs.GeoCore.declared.grids.Grid.{Grid}
use Rattle.tech_model.specs.GeoCore.declared.transforms.Transform.{Transform}
use Rattle.tech_model.specs.GeoCore.Elements.{element_of, elements_of, indices}
use Rattle.tech_model.specs.GeoCore.Images.{inverted}
use Rattle.tech_model.proofs.GeoCore.FiniteSets.Ranges.{Lists-integer_range, Lists-pairs_of}
use Rattle.tech_model.proofs.GeoCore.ImageLaws.{image-moved}
use Rattle.tech_model.proofs.GeoCore.SquareLaws.{square_is}
use Rattle.library_trees.specs.CellLibrary.LayoutModel.FlatSets.{flat_sets, sets_below}
use Rattle.ext_model.specs.Paths.{path_text}
use Rattle.library_trees.specs.TreeRecords.NamedTrees.{layouts_below, layouts_of}
use Rattle.library_trees.proofs.TreeNames.HierarchyModel.LayoutModel.SetUnions.{none_union, union_none, union_same}

module _ (raw : RawTech) (tree : NamedTree) (placed : Transform) where
  -- what an element of the child has at a place
  abbrev pub set_at : UseElement → Place → ℕ
  set_at element place = flat_sets raw (layouts_of tree) (place_back (element_transform placed element.step) place)

  -- what all of them have there
  abbrev pub sets_at : List UseElement → Place → ℕ
  sets_at elements place = sets_below raw (layouts_below (named_elements_at tree placed elements no_more)) place

  -- two of which each is empty or this set
  either_or : (a b set : ℕ) → (a ≡ 0) ⊎ (a ≡ set) → (b ≡ 0) ⊎ (b ≡ set) → (bit_or a b ≡ 0) ⊎ (bit_or a b ≡ set)
  either_or a b set (inl none) (inl empty) = inl (rw (none, empty) (none_union 0))
  either_or a b set (inl none) (inr is) = inr (rw (none, is) (none_union set))
  either_or a b set (inr is) (inl empty) = inr (rw (is, empty) (union_none set))
  either_or a b set (inr is) (inr also) = inr (rw (is, also) (union_same set))

  first_or : (a b set : ℕ) → a ≡ set → (b ≡ 0) ⊎ (b ≡ set) → bit_or a b ≡ set
  first_or a b set is (inl empty) = rw (is, empty) (union_none set)
  first_or a b set is (inr also) = rw (is, also) (union_same set)

  later_or : (a b set : ℕ) → (a ≡ 0) ⊎ (a ≡ set) → b ≡ set → bit_or a b ≡ set
  later_or a b set (inl none) is = rw (none, is) (none_union set)
  later_or a b set (inr also) is = rw (also, is) (union_same set)

  module _ (place : Place) (set : ℕ) where
    -- where each has nothing or this set, so have all
    pub sets_either : (elements : List UseElement)
        → ((element : UseElement) → In element elements → (set_at element place ≡ 0) ⊎ (set_at element place ≡ set))
        → (sets_at elements place ≡ 0) ⊎ (sets_at elements place ≡ set)
    sets_either [] each = inl refl
    sets_either (element ∷ elements) each =
        either_or (set_at element place) (sets_at elements place) set (each element (inl refl))
        (sets_either elements (λ other later. each other (inr later)))

    -- and where one of them has this set, all have it
    pub sets_one : (elements : List UseElement)
        → ((element : UseElement) → In element elements → (set_at element place ≡ 0) ⊎ (set_at element place ≡ set))
        → (element : UseElement) → In element elements → set_at element place ≡ set → sets_at elements place ≡ set
    sets_one [] each element none is = absurd none
    sets_one (first ∷ elements) each element (inl same) is =
        first_or (set_at first place) (sets_at elements place) set (subst (λ (e : UseElement). set_at e place ≡ set) (sym same) is)
        (sets_either elements (λ other later. each other (inr later)))
    sets_one (first ∷ elements) each element (inr later) is =
        later_or (set_at first place) (sets_at elements place) set (each first (inl refl))
        (sets_one elements (λ other here. each other (inr here)) element later is)

  -- a path in the child leads on from its element
  pub path_through : (elements : List UseElement) (element : UseElement) → In element elements → (place : Place) (path : List ℕ)
      → HasNodePath raw tree (place_back (element_transform placed element.step) place) path
      → HasNodePathBelow raw (named_elements_at tree placed elements no_more) place (path_text (element.name ∷ []) path)
  path_through [] element none place path has = absurd none
  path_through (first ∷ elements) element (inl same) place path has =
      let Leads : UseElement → Type 0 = λ e. HasNodePath raw tree (place_back (element_transform placed e.step) place) path
      → HasNodePathBelow raw (named_elements_at tree placed (first ∷ elements) no_more) place (path_text (e.name ∷ []) path) in
      subst Leads same (λ there. inl (path, there, refl)) has
  path_through (first ∷ elements) element (inr later) place path has = inr (path_through elements element later place path has)

-- ---- the elements of a grid

-- The element stands in this column and row of the grid.
pub record IsElementAt (id : List ℕ) (grid : Grid) (element : UseElement) : Type 0 where
  pub column : ℤ
  pub row : ℤ
  pub in_columns : IsBetween (pos 0) (pos (indices grid.xlo grid.xhi)) column
  pub in_rows : IsBetween (pos 0) (pos (indices grid.ylo grid.yhi)) row
  pub is : array_element id (element_of grid (row, column)) ≡ element

module _ (id : List ℕ) (grid : Grid) where
  rows_of : List ℤ
  rows_of = integer_range (pos 0) (pos (indices grid.ylo grid.yhi))

  columns_of : List ℤ
  columns_of = integer_range (pos 0) (pos (indices grid.xlo grid.xhi))

  -- each element has its column and row
  pub element_place : (element : UseElement) → In element (use_elements id (Some grid)) → IsElementAt id grid element
  unfolding rows_of columns_of
  element_place element there =
      let wide : ℤ = pos (indices grid.xlo grid.xhi) in
      let high : ℤ = pos (indices grid.ylo grid.yhi) in
      let made = In-map_source (array_element id) element (elements_of grid) there in
      let pair = In-map_source (element_of grid) made.0 (pairs_of rows_of columns_of) made.1.0 in
      let between = (Lists-pairs_of (IsBetween (pos 0) high) (IsBetween (pos 0) wide) rows_of columns_of
      (Lists-integer_range (pos 0) high) (Lists-integer_range (pos 0) wide)).2 pair.0 pair.1.0 in
      record {
        column = pair.0.1;
        row = pair.0.0;
        in_columns = between.1;
        in_rows = between.0;
        is = ap (array_element id) pair.1.1 ∙ made.1.1;
      }

  -- and each column and row has its element
  pub element_there : (row column : ℤ) → IsBetween (pos 0) (pos (indices grid.ylo grid.yhi)) row
      → IsBetween (pos 0) (pos (indices grid.xlo grid.xhi)) column
      → In (array_element id (element_of grid (row, column))) (use_elements id (Some grid))
  unfolding rows_of columns_of
  element_there row column in_rows in_columns =
      let wide : ℤ = pos (indices grid.xlo grid.xhi) in
      let high : ℤ = pos (indices grid.ylo grid.yhi) in
      let pair : ℤ × ℤ = (row, column) in
      let listed = (Lists-pairs_of (IsBetween (pos 0) high) (IsBetween (pos 0) wide) rows_of columns_of
      (Lists-integer_range (pos 0) high) (Lists-integer_range (pos 0) wide)).1 pair (in_rows, in_columns) in
      In-map (array_element id) (element_of grid pair) (elements_of grid) (In-map (element_of grid) pair (pairs_of rows_of columns_of) listed)

-- ---- displaced places

-- the place that lies so far to the right and up
abbrev pub moved : Place → ℤ → ℤ → Place
moved place dx dy = record { plane = place.plane; square = record { x = place.square.x +ℤ dx; y = place.square.y +ℤ dy } }

-- the place of an element that is displaced so far
pub back_by : (step : ℤ × ℤ) (place : Place) → place_back (element_transform identity step) place ≡ moved place (neg_ℤ step.0) (neg_ℤ step.1)
back_by step place =
    ap (λ (square : Square). record { plane = place.plane; square = square })
    (image-moved (inverted (element_transform identity step)) place.square ∙ square_is _ _ (omega (arith, ints)) (omega (arith, ints)))

-- two places of one plane, with the same columns and rows
pub same_place : (a b : Place) → a.plane ≡ b.plane → a.square.x ≡ b.square.x → a.square.y ≡ b.square.y → a ≡ b
same_place a b planes columns rows =
    let whole : record { plane = a.plane; square = record { x = a.square.x; y = a.square.y } } ≡ b = rw (planes, columns, rows) refl in
    whole
