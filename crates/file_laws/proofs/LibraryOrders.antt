-- The cells of a library order: they are cells of the library, and each stands behind the children of its uses.
use Rattle.file_laws.proofs.Common.{◌≡◌, ◌<◌, ◌≤◌, ℕ, List, length, sym, subst, ◌∙◌, arith, slice_get, slice_get_within, stay, In, slice_get-In}
use Rattle.file_laws.proofs.Common.{slice_get-In_take, IsLibraryOrder, library_order-behind, library_order-lists, UseBody, children_in}
use Rattle.file_laws.proofs.Common.{IsLawfulLibrary, LibraryParts, seen, view_at}
use Rattle.std.specs.Prelude.{Some, slice_index}
use Rattle.std.specs.List.{range_with_len}
use Rattle.std.proofs.lemmas.List.FromFn.{length-range_with_len}
use Rattle.std.proofs.lemmas.Option.{same_Some, slice_get-get_or}
use Rattle.finite_sets.specs.Lists.{Distinct, Lists}
use Rattle.finite_sets.proofs.Chains.{Chain-carries}
use Rattle.finite_sets.proofs.Distincts.{length-distinct}
use Rattle.use_orders.specs.Uses.{IsAtOrBelow, UsesCell}
use Rattle.use_orders.proofs.Listed.{In-numbers}
use Rattle.cif_writing.proofs.CellLibrary.ChildLaws.{child_of, child_there, child_used}

module _ (library : LibraryParts) (lawful : IsLawfulLibrary library) where
  module _ (root : ℕ) (there : root < length library.contents) (order : List ℕ) (is_order : IsLibraryOrder (children_in (seen library)) root order) where
    lists : Lists (IsAtOrBelow (children_in (seen library)) root) order
    lists = library_order-lists (children_in (seen library)) root order is_order

    -- no cell stands twice
    pub order_once : Distinct order
    order_once = lists.0

    -- each is a cell of the library
    pub order_there : (cell : ℕ) → In cell order → cell < length library.contents
    order_there cell among =
        Chain-carries (λ (c : ℕ). c < length library.contents) (λ a b uses below. child_there library lawful a b uses below) (lists.2 cell among) there

    -- so there are no more than there are cells
    pub order_few : length order ≤ length library.contents
    order_few =
        let most =
        length-distinct order (range_with_len 0 (length library.contents)) order_once
        (λ cell among. In-numbers (length library.contents) cell (order_there cell among)) in
        let many = length-range_with_len 0 (length library.contents) in
        omega arith

    -- the root is among them
    pub root_place : (k : ℕ) × (slice_get order k ≡ Some root)
    root_place = slice_get-In root order (lists.1 root stay)

    -- the child of a use stands before the cell that has the use
    pub child_before : (place cell k : ℕ) (entry : List ℕ × UseBody) → slice_get order place ≡ Some cell
        → slice_get (view_at (seen library) cell).uses k ≡ Some entry → (j : ℕ) × ((j < place) × (slice_get order j ≡ Some (child_of entry)))
    child_before place cell k entry at used =
        let within = slice_get_within order place cell at in
        let same : slice_index order place ≡ cell = same_Some (slice_index order place) cell (sym (slice_get-get_or order place 0 within) ∙ at) in
        slice_get-In_take order place (child_of entry)
        (library_order-behind (children_in (seen library)) root order is_order place (child_of entry) within
        (subst (λ (c : ℕ). UsesCell (children_in (seen library)) c (child_of entry)) (sym same) (child_used (seen library) cell k entry used)))
