-- What a stack has at a place of one of its tiles: what the tile has there, since no other tile covers it.
use Rattle.stack_nodes.proofs.Common.{◌≡◌, ◌<◌, ◌∙◌, ◌-◌, ◌*◌, ℕ, suc, pos, ◌≤ℤ◌, ◌<ℤ◌, ◌*ℤ◌, neg_ℤ, length, refl, sym, ap, arith, inl, inr, Option}
use Rattle.stack_nodes.proofs.Common.{Some, None, codes, cases_Bool, true≢false, ints, is_covered, identity, MOST_PLANES, RawTech, HaveOwnSets}
use Rattle.stack_nodes.proofs.Common.{IsWellFormed, place_back, IsMaterial, Place, element_transform, row_grid, stack_grid, tile_layout, area_to}
use Rattle.stack_nodes.proofs.Common.{UseElement, use_elements, flat_layout}
use Rattle.std.proofs.Common.{◌≢◌, ◌⊎◌}
use Rattle.tech_model.specs.ColumnForms.{IsOnPlane}
use Rattle.tech_model.specs.Types.{joined, parts_of}
use Rattle.tech_model.proofs.GeoCore.CoveringLaws.{Covers-is_covered, is_covered-Covers}
use Rattle.tech_model.proofs.GeoCore.FiniteSets.Orders.{less_equal_or_greater}
use Rattle.tech_model.proofs.JoinedLaws.{joined-found, joined-type}
use Rattle.tech_model.proofs.SetLaws.{set_not_empty}
use Rattle.library_trees.specs.CellLibrary.LayoutModel.FlatSets.{flat_sets}
use Rattle.library_trees.specs.CellLibrary.LayoutModel.LayerTypes.{or_space}
use Rattle.library_trees.specs.TreeRecords.NamedTrees.{layouts_of}
use Rattle.library_trees.proofs.TreeNames.HierarchyModel.LayoutModel.SetUnions.{none_union, union_none}
use Rattle.stack_nodes.proofs.Arrays.{IsElementAt, element_place, moved, same_place, sets_at, sets_either, sets_one}
use Rattle.stack_nodes.proofs.StackElements.{back_in_row, back_in_stack, in_row, in_stack, row_back, row_element, row_there, tile_back, tile_element}
use Rattle.stack_nodes.proofs.StackElements.{tile_there}
use Rattle.stack_nodes.proofs.StackTrees.{row_tree, stack_tree, tile_tree}
use Rattle.stack_nodes.proofs.TilePaint.{IsInArea, IsInTile, space_beyond, tile_on_planes}

-- what is empty in both cases is empty
both_empty : (a : ℕ) → (a ≡ 0) ⊎ (a ≡ 0) → a ≡ 0
both_empty a (inl empty) = empty
both_empty a (inr empty) = empty

module _ (raw : RawTech) (poly diff n count : ℕ) where
  -- what a tile, a row and a stack have at a place
  abbrev pub tile_sets : Place → ℕ
  tile_sets place = flat_sets raw (layouts_of (tile_tree raw poly diff n count)) place

  abbrev pub row_sets : Place → ℕ
  row_sets place = flat_sets raw (layouts_of (row_tree raw poly diff n count)) place

  abbrev pub stack_sets : Place → ℕ
  stack_sets place = flat_sets raw (layouts_of (stack_tree raw poly diff n count)) place

  -- beyond the tile it has nothing
  tile_beyond : (place : Place) → (IsInTile place → ⊥) → tile_sets place ≡ 0
  tile_beyond place outside = union_none (parts_of raw (tile_layout raw poly diff place)) ∙ ap (parts_of raw) (space_beyond raw poly diff place outside)

  -- ---- a row

  -- beyond its tiles a row has nothing
  row_beyond : (place : Place) → (IsInArea (suc (n - 1) * 6) 6 place → ⊥) → row_sets place ≡ 0
  row_beyond place outside =
      let elements = use_elements (codes "t") (Some (row_grid n)) in
      none_union (sets_at raw (tile_tree raw poly diff n count) identity elements place)
      ∙ both_empty _ (sets_either raw (tile_tree raw poly diff n count) identity place 0 elements (λ element there.
      let is = element_place (codes "t") (row_grid n) element there in
      let back = back_in_row n element is place in
      inl (ap tile_sets back ∙ tile_beyond (moved place (neg_ℤ (is.column *ℤ pos 6)) (neg_ℤ (is.row *ℤ pos 0)))
      (λ inside. outside (record {
        right_of_xlo = omega (arith, ints, inside.right_of_xlo, is.in_columns.0);
        left_of_xhi = omega (arith, ints, inside.left_of_xhi, is.in_columns.1);
        above_ylo = omega (arith, ints, inside.above_ylo);
        below_yhi = omega (arith, ints, inside.below_yhi);
      })))))

  module _ (i : ℕ) (i_below : i < n) (place : Place) (inside : IsInTile place) where
    -- each tile of the row has nothing at the place, or is the tile in this column, which has what the tile has
    tile_in_row : (element : UseElement) → (is : IsElementAt (codes "t") (row_grid n) element)
        → (tile_sets (place_back (element_transform identity element.step) (in_row i place)) ≡ 0)
        ⊎ (tile_sets (place_back (element_transform identity element.step) (in_row i place)) ≡ tile_sets place)
    tile_in_row element is =
        let back = back_in_row n element is (in_row i place) in
        let there : Place = moved (in_row i place) (neg_ℤ (is.column *ℤ pos 6)) (neg_ℤ (is.row *ℤ pos 0)) in
        let left = inside.right_of_xlo in
        let right = inside.left_of_xhi in
        elim (less_equal_or_greater is.column (pos i)) [
          | inl less ↦ inl (ap tile_sets back ∙ tile_beyond there (λ within. omega (arith, ints, within.left_of_xhi, less)))
          | inr (inl same) ↦ inr (ap tile_sets (back ∙ same_place there place refl (omega (arith, ints, same)) (omega (arith, ints))))
          | inr (inr greater) ↦ inl (ap tile_sets back ∙ tile_beyond there (λ within. omega (arith, ints, within.right_of_xlo, greater)))
        ]

    -- so the row has there what the tile has
    row_has : row_sets (in_row i place) ≡ tile_sets place
    row_has =
        let elements = use_elements (codes "t") (Some (row_grid n)) in
        none_union (sets_at raw (tile_tree raw poly diff n count) identity elements (in_row i place))
        ∙ sets_one raw (tile_tree raw poly diff n count) identity (in_row i place) (tile_sets place) elements
        (λ element there. tile_in_row element (element_place (codes "t") (row_grid n) element there))
        (tile_element n i) (tile_there n i i_below) (ap tile_sets (tile_back n i place))

  -- ---- a stack

  -- beyond its rows a stack has nothing
  stack_beyond : (place : Place) → (IsInArea (suc (n - 1) * 6) (suc (n - 1) * 6) place → ⊥) → stack_sets place ≡ 0
  stack_beyond place outside =
      let elements = use_elements (codes "r") (Some (stack_grid n)) in
      none_union (sets_at raw (row_tree raw poly diff n count) identity elements place)
      ∙ both_empty _ (sets_either raw (row_tree raw poly diff n count) identity place 0 elements (λ element there.
      let is = element_place (codes "r") (stack_grid n) element there in
      let back = back_in_stack n element is place in
      inl (ap row_sets back ∙ row_beyond (moved place (neg_ℤ (is.column *ℤ pos 0)) (neg_ℤ (is.row *ℤ pos 6)))
      (λ inside. outside (record {
        right_of_xlo = omega (arith, ints, inside.right_of_xlo);
        left_of_xhi = omega (arith, ints, inside.left_of_xhi);
        above_ylo = omega (arith, ints, inside.above_ylo, is.in_rows.0);
        below_yhi = omega (arith, ints, inside.below_yhi, is.in_rows.1);
      })))))

  module _ (j : ℕ) (j_below : j < n) (place : Place) (from : pos 0 ≤ℤ place.square.y) (to : place.square.y <ℤ pos 6) where
    -- each row of the stack has nothing at the place, or is the row of this number, which has what the row has
    row_in_stack : (element : UseElement) → (is : IsElementAt (codes "r") (stack_grid n) element)
        → (row_sets (place_back (element_transform identity element.step) (in_stack j place)) ≡ 0)
        ⊎ (row_sets (place_back (element_transform identity element.step) (in_stack j place)) ≡ row_sets place)
    row_in_stack element is =
        let back = back_in_stack n element is (in_stack j place) in
        let there : Place = moved (in_stack j place) (neg_ℤ (is.column *ℤ pos 0)) (neg_ℤ (is.row *ℤ pos 6)) in
        elim (less_equal_or_greater is.row (pos j)) [
          | inl less ↦ inl (ap row_sets back ∙ row_beyond there (λ within. omega (arith, ints, within.below_yhi, less, from)))
          | inr (inl same) ↦ inr (ap row_sets (back ∙ same_place there place refl (omega (arith, ints)) (omega (arith, ints, same))))
          | inr (inr greater) ↦ inl (ap row_sets back ∙ row_beyond there (λ within. omega (arith, ints, within.above_ylo, greater, to)))
        ]

    -- so the stack has there what the row has
    stack_has : stack_sets (in_stack j place) ≡ row_sets place
    stack_has =
        let elements = use_elements (codes "r") (Some (stack_grid n)) in
        none_union (sets_at raw (row_tree raw poly diff n count) identity elements (in_stack j place))
        ∙ sets_one raw (row_tree raw poly diff n count) identity (in_stack j place) (row_sets place) elements
        (λ element there. row_in_stack element (element_place (codes "r") (stack_grid n) element there))
        (row_element n j) (row_there n j j_below) (ap row_sets (row_back n j place))

  -- ---- material

  module _ (w : IsWellFormed raw) (own : HaveOwnSets raw) (poly_below : poly < length raw.layers) (diff_below : diff < length raw.layers) where
    -- a type of a plane stands where its set is
    stands_there : (plane t : ℕ) → IsOnPlane raw plane t → t ≢ 0 → or_space (joined raw plane (parts_of raw t)) ≡ t
    stands_there plane t (inl space) material = absurd (material space)
    stands_there plane t (inr type) material =
        let found = joined-type raw t own type.0 (set_not_empty raw t w type.0) in
        ap (λ (p : ℕ). or_space (joined raw p (parts_of raw t))) (sym type.1) ∙ ap or_space found

    -- a type that is found stands on its plane
    plane_found : (plane set t : ℕ) (found : Option ℕ) → joined raw plane set ≡ found → or_space found ≡ t → t ≢ 0 → plane < MOST_PLANES
    plane_found plane set t None is stands some = absurd (some (sym stands))
    plane_found plane set t (Some kind) is stands some = elim (joined-found raw plane set kind is).1 [
      | inl space ↦ absurd (some (sym stands ∙ space))
      | inr (type, at) ↦ (
          let placed = w.type_planes kind type in
          let few = w.planes_limit in
          omega (arith, placed, few, at))
    ]

    -- material of the stack lies in its rows, on a plane of the technology
    pub material_in_stack : (place : Place) → IsMaterial (flat_layout raw (stack_tree raw poly diff n count)) place
        → IsInArea (suc (n - 1) * 6) (suc (n - 1) * 6) place × (place.plane < MOST_PLANES)
    material_in_stack place material = (
      elim (cases_Bool (is_covered (area_to (suc (n - 1) * 6) (suc (n - 1) * 6)) place.square)) [
        | inl inside ↦ Covers-is_covered (area_to (suc (n - 1) * 6) (suc (n - 1) * 6)) place.square inside
        | inr outside ↦ absurd (material (ap (λ (set : ℕ). or_space (joined raw place.plane set)) (stack_beyond place (λ inside.
            true≢false (sym (is_covered-Covers (area_to (suc (n - 1) * 6) (suc (n - 1) * 6)) place.square inside) ∙ outside)))))
      ],
      plane_found place.plane (stack_sets place) _ (joined raw place.plane (stack_sets place)) refl refl material,
    )

    -- where a tile has material, the stack has it at the tile in each column of each row
    pub stack_material : (i j : ℕ) → i < n → j < n → (place : Place) → IsInTile place → IsMaterial (tile_layout raw poly diff) place
        → IsMaterial (flat_layout raw (stack_tree raw poly diff n count)) (in_stack j (in_row i place))
    stack_material i j i_below j_below place inside material space =
        let t = tile_layout raw poly diff place in
        let low = inside.above_ylo in
        let high = inside.below_yhi in
        let has : stack_sets (in_stack j (in_row i place)) ≡ parts_of raw t =
        stack_has j j_below (in_row i place) (omega (arith, ints, low)) (omega (arith, ints, high))
        ∙ row_has i i_below place inside ∙ union_none (parts_of raw t) in
        material (sym (stands_there place.plane t (tile_on_planes raw poly diff w poly_below diff_below place) material)
        ∙ ap (λ (set : ℕ). or_space (joined raw place.plane set)) (sym has) ∙ space)
