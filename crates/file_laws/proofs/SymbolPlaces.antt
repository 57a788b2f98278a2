-- Where the symbols of cells stand: that of a child before that of its user.
use Rattle.file_laws.proofs.Common.{◌≡◌, ◌∙◌, ◌==◌, ◌+◌, ◌<◌, ℕ, suc, Bool, true, false, cond, not, List, [], ◌∷◌, map, Some, sym, ap, subst, inl}
use Rattle.file_laws.proofs.Common.{inr, arith, slice_get, slice_get_within, stay, In, In-map, slice_get-In_take, IsLibraryOrder}
use Rattle.file_laws.proofs.Common.{library_order-behind, library_order-lists, UseBody, children_in, LibraryView, view_at, symbol_place}
use Rattle.std.proofs.Common.{take}
use Rattle.std.specs.Prelude.{slice_index_or}
use Rattle.std.specs.List.{position_or_len}
use Rattle.std.proofs.lemmas.Bool.{cases_eq, eq-eqb, ne_eqb}
use Rattle.std.proofs.lemmas.Option.{get_or_from_slice_get}
use Rattle.finite_sets.proofs.Places.{In-take, one_place}
use Rattle.use_orders.specs.Uses.{UsesCell}
use Rattle.cif_writing.proofs.CellLibrary.ChildLaws.{children_at}

-- ---- places

place_by : (order : List ℕ) (first cell : ℕ) (same : Bool) → (cell == first) ≡ same → position_or_len (λ other. cell == other) (first ∷ order)
    ≡ cond same 0 (1 + symbol_place order cell)
place_by order first cell true is = ap (λ (b : Bool). cond (not b) (1 + symbol_place order cell) 0) is
place_by order first cell false is = ap (λ (b : Bool). cond (not b) (1 + symbol_place order cell) 0) is

at_first : (order : List ℕ) (first cell : ℕ) → cell ≡ first → slice_get (first ∷ order) (symbol_place (first ∷ order) cell) ≡ Some cell
at_first order first cell same =
    ap (slice_get (first ∷ order)) (place_by order first cell true (eq-eqb cell first same)) ∙ ap (λ (n : ℕ). Some n) (sym same)

behind_first : (order : List ℕ) (first cell : ℕ) → (cell ≡ first → ⊥) → slice_get order (symbol_place order cell) ≡ Some cell
    → slice_get (first ∷ order) (symbol_place (first ∷ order) cell) ≡ Some cell
behind_first order first cell other later =
    let next : 1 + symbol_place order cell ≡ suc (symbol_place order cell) = omega arith in
    ap (slice_get (first ∷ order)) (place_by order first cell false (ne_eqb cell first other) ∙ next) ∙ later

-- a cell of the order stands at the place of its symbol
pub place_of_symbol : (order : List ℕ) (cell : ℕ) → In cell order → slice_get order (symbol_place order cell) ≡ Some cell
place_of_symbol [] cell among = absurd among
place_of_symbol (first ∷ order) cell (inl same) = at_first order first cell (sym same)
place_of_symbol (first ∷ order) cell (inr among) = elim (cases_eq cell first) [
  | inl same ↦ at_first order first cell same
  | inr other ↦ behind_first order first cell other (place_of_symbol order cell among)
]

-- ---- the children of a cell

-- the cell uses the child of each of its uses
child_used : (view : LibraryView) (cell : ℕ) (entry : List ℕ × UseBody) → In entry (view_at view cell).uses
    → UsesCell (children_in view) cell entry.1.child.0
child_used view cell entry used =
    subst (λ (children : List ℕ). In entry.1.child.0 children) (sym (children_at view.cells cell))
    (In-map (λ (one : List ℕ × UseBody). one.1.child.0) entry (view_at view cell).uses used)

module _ (view : LibraryView) (root : ℕ) (order : List ℕ) (is_order : IsLibraryOrder (children_in view) root order) where
  -- the order has the root
  pub root_listed : In root order
  root_listed = (library_order-lists (children_in view) root order is_order).1 root stay

  -- the symbol of a child stands before that of its user
  pub child_before : (place cell : ℕ) (entry : List ℕ × UseBody) → slice_get order place ≡ Some cell → In entry (view_at view cell).uses
      → (symbol_place order entry.1.child.0 < place) × (slice_get order (symbol_place order entry.1.child.0) ≡ Some entry.1.child.0)
  child_before place cell entry at used =
      let child = entry.1.child.0 in
      let step : UsesCell (children_in view) (slice_index_or order place 0) child =
      subst (λ (c : ℕ). UsesCell (children_in view) c child) (sym (get_or_from_slice_get order place cell 0 at)) (child_used view cell entry used) in
      let early : In child (take place order) =
      library_order-behind (children_in view) root order is_order place child (slice_get_within order place cell at) step in
      let found = slice_get-In_take order place child early in
      let here = place_of_symbol order child (In-take place order child early) in
      let same : found.0 ≡ symbol_place order child =
      one_place order found.0 (symbol_place order child) child (library_order-lists (children_in view) root order is_order).0 found.1.1 here in
      (subst (λ (n : ℕ). n < place) same found.1.0, here)
