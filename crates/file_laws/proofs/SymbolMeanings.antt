-- What the symbol of a cell means, where the symbols before it mean the trees of their cells: the tree of the cell.
use Rattle.file_laws.proofs.Common.{◌≡◌, ◌∙◌, ◌<◌, ◌+◌, ◌↔◌, ℕ, suc, List, Option, Some, sym, ap, subst, inl, inr, arith, slice_get, In}
use Rattle.file_laws.proofs.Common.{In-append_cases, In-append_left, In-append_right, In-slice_get, Rect, Square, Transform, image, inverted}
use Rattle.file_laws.proofs.Common.{cell_tree, CifItem, Area, Call, CifSymbol, CifParts, Means, moved, placing, HullIs, LibraryView, view_at}
use Rattle.file_laws.proofs.Common.{part_name, HoldsPart, part_sets, IsCellCif, IsCellSymbol, symbol_place, IsBit, HoldsPartOfTree}
use Rattle.layout_model.specs.CellTrees.{CellTree}
use Rattle.cif_model.proofs.PlacingLaws.{moved-placing}
use Rattle.cif_writing.specs.CellLibrary.LayoutTrees.{elements_from, own_cell, tree_at}
use Rattle.file_laws.proofs.ItemMeanings.{HasBox, HasCall, SymbolMeans, box_means, box_wider, call_means, items_open, with_top}
use Rattle.file_laws.proofs.PartBoxes.{box_holds, held_by_box, no_call}
use Rattle.file_laws.proofs.SymbolPlaces.{child_before}
use Rattle.file_laws.proofs.TreeParts.{HoldsPartInUse, below_holds, own_holds, tree_open, use_holds, uses_open}
use Rattle.file_laws.proofs.UseCalls.{call_from, call_of, no_area}

-- The symbol at the place means part k, which is this one, where the tree of the cell has it.
abbrev pub MeansTree : LibraryView → CifParts → ℕ → ℕ → ℕ → ℕ → Type 0
MeansTree view cif k part place cell =
    (square : Square) → SymbolMeans cif place (part_name (suc k)) square
    ↔ HoldsPartOfTree view.tech (tree_at view cell) part square

-- The tree of each cell of the order has the trees of its children.
abbrev pub TreesUnfold : LibraryView → List ℕ → Type 0
TreesUnfold view order =
    (cell : ℕ) → In cell order
    → tree_at view cell ≡ cell_tree (own_cell view cell) (elements_from (tree_at view) (view_at view cell).uses)

-- A cell whose tree has the part somewhere has a hull.
abbrev pub HullsHold : LibraryView → ℕ → Type 0
HullsHold view part =
    (cell : ℕ) (square : Square) → HoldsPartOfTree view.tech (tree_at view cell) part square → (hull : Option Rect) → HullIs view cell hull
    → (area : Rect) × (hull ≡ Some area)

module _ (view : LibraryView) (root : ℕ) (cif : CifParts) (is : IsCellCif view root cif) (k part : ℕ)
    (known : slice_get (part_sets view.tech) k ≡ Some part) (bit : IsBit part) (place cell : ℕ) (symbol : CifSymbol)
    (at : slice_get is.order place ≡ Some cell) (there : slice_get cif.symbols place ≡ Some symbol)
    (earlier : (before other : ℕ) → before < place → slice_get is.order before ≡ Some other → MeansTree view cif k part before other) where
  of_cell : IsCellSymbol cif.layers view is.order cell symbol
  of_cell = is.each place cell symbol at there

  -- ---- what the items mean, the tree has

  own_box : (square : Square) → HasBox cif symbol.items (part_name (suc k)) square → HasBox cif of_cell.boxes (part_name (1 + k)) square
  own_box square (layer, (named, (box, (stands, covers)))) =
      let among = subst (λ (l : List CifItem). In (Area layer box) l) of_cell.items stands in
      let named_so : slice_get cif.layers layer ≡ Some (part_name (1 + k)) = named ∙ ap (λ (n : ℕ). Some (part_name n)) (omega arith) in
      elim (In-append_cases (Area layer box) of_cell.boxes of_cell.calls among) [
        | inl early ↦ (layer, (named_so, (box, (early, covers))))
        | inr late ↦ absurd (no_area view is.order 1 (view_at view cell).uses of_cell.calls of_cell.are_calls layer box late)
      ]

  box_of_part : (square : Square) → HasBox cif symbol.items (part_name (suc k)) square → HoldsPart view.tech (view_at view cell).own part square
  box_of_part square has =
      box_holds cif view.tech (view_at view cell).own 1 (part_sets view.tech) of_cell.boxes of_cell.are_boxes k part known square (own_box square has)

  call_of_use : (square : Square) → HasCall cif symbol.items (part_name (suc k)) square
      → HoldsPartInUse view.tech (tree_at view) (view_at view cell).uses part square
  call_of_use square (called, (moves, (stands, means))) =
      let among = subst (λ (l : List CifItem). In (Call called moves) l) of_cell.items stands in
      elim (In-append_cases (Call called moves) of_cell.boxes of_cell.calls among) [
        | inl early ↦ absurd (no_call cif view.tech (view_at view cell).own 1 (part_sets view.tech) of_cell.boxes of_cell.are_boxes called moves early)
        | inr late ↦ (
            let from = call_from view is.order 1 (view_at view cell).uses of_cell.calls of_cell.are_calls called moves late in
            let child = from.entry.1.child.0 in
            let before = child_before view root is.order is.is_order place cell from.entry at from.used in
            let placed : moved moves ≡ from.element = ap moved from.moves_are ∙ moved-placing from.element in
            let back = image (inverted from.element) square in
            let of_called = subst (λ (t : Transform). SymbolMeans cif called (part_name (suc k)) (image (inverted t) square)) placed means in
            let of_child = subst (λ (n : ℕ). SymbolMeans cif n (part_name (suc k)) back) from.symbol_is of_called in
            (from.entry, (from.used, (from.element, (from.stands, (earlier (symbol_place is.order child) child before.0 before.1 back).0 of_child)))))
      ]

  -- what the symbol's items mean, the tree of its cell has
  pub items_hold : TreesUnfold view is.order → (square : Square) → Means (with_top cif symbol.items) (part_name (suc k)) square
      → HoldsPartOfTree view.tech (tree_at view cell) part square
  items_hold trees square means =
      let elements = elements_from (tree_at view) (view_at view cell).uses in
      subst (λ (tree : CellTree). HoldsPartOfTree view.tech tree part square) (sym (trees cell (In-slice_get is.order place cell at)))
      (elim (items_open cif symbol.items (part_name (suc k)) square means) [
        | inl box ↦ own_holds view.tech part bit (own_cell view cell) elements square (box_of_part square box)
        | inr call ↦ below_holds view.tech part bit (own_cell view cell) elements square
            (use_holds view.tech part bit (tree_at view) (view_at view cell).uses square (call_of_use square call))
      ])

  -- ---- what the tree has, the items mean

  part_boxed : (square : Square) → HoldsPart view.tech (view_at view cell).own part square → HasBox cif symbol.items (part_name (suc k)) square
  part_boxed square holds =
      let own = held_by_box cif view.tech (view_at view cell).own 1 (part_sets view.tech) of_cell.boxes of_cell.are_boxes k part known square holds in
      box_wider cif of_cell.boxes symbol.items (part_name (suc k)) square
      (λ item stands. subst (λ (l : List CifItem). In item l) (sym of_cell.items) (In-append_left item of_cell.boxes of_cell.calls stands))
      (subst (λ (n : ℕ). HasBox cif of_cell.boxes (part_name n) square) (omega arith) own)

  use_called : HullsHold view part → (square : Square) → HoldsPartInUse view.tech (tree_at view) (view_at view cell).uses part square
      → HasCall cif symbol.items (part_name (suc k)) square
  use_called hulls square (entry, (used, (element, (stands, holds)))) =
      let child = entry.1.child.0 in
      let place_of_child = symbol_place is.order child in
      let before = child_before view root is.order is.is_order place cell entry at used in
      let back = image (inverted element) square in
      let call : CifItem = Call place_of_child (placing element) in
      let called = call_of view is.order 1 (view_at view cell).uses of_cell.calls of_cell.are_calls entry element used stands (hulls child back holds) in
      let among = subst (λ (l : List CifItem). In call l) (sym of_cell.items) (In-append_right call of_cell.boxes of_cell.calls called) in
      let means = subst (λ (t : Transform). SymbolMeans cif place_of_child (part_name (suc k)) (image (inverted t) square))
      (sym (moved-placing element)) ((earlier place_of_child child before.0 before.1 back).1 holds) in
      (place_of_child, (placing element, (among, means)))

  -- what the tree of the symbol's cell has, its items mean
  pub held_is_meant : TreesUnfold view is.order → HullsHold view part → (square : Square) → HoldsPartOfTree view.tech (tree_at view cell) part square
      → Means (with_top cif symbol.items) (part_name (suc k)) square
  held_is_meant trees hulls square holds =
      let elements = elements_from (tree_at view) (view_at view cell).uses in
      let open_tree = subst (λ (tree : CellTree). HoldsPartOfTree view.tech tree part square) (trees cell (In-slice_get is.order place cell at)) holds in
      elim (tree_open view.tech part bit (own_cell view cell) elements square open_tree) [
        | inl own ↦ box_means cif symbol.items (part_name (suc k)) square (part_boxed square own)
        | inr below ↦ call_means cif symbol.items (part_name (suc k)) square
            (use_called hulls square (uses_open view.tech part bit (tree_at view) (view_at view cell).uses square below))
      ]
