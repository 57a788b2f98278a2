use Rattle.cell_library.proofs.Common.{◌≡◌, ℕ, List, [], ◌∷◌, map, refl, sym, ap, subst, ◌∙◌, IfOk-weaker, children_of}
use Rattle.ext_model.specs.declared.tables.CellKey.{CellKey}
use Rattle.cell_tree.specs.UseOrders.LibraryOrder.{IsLibraryOrder}
use Rattle.cell_library.proofs.AddedCells.{children_seen}
use Rattle.cell_library.proofs.library.Library.below.Goals as goal

-- a key is the position that it was made of
keys_back : (positions : List ℕ) → map (λ (key : CellKey). key.0) (map (λ (position : ℕ). record { 0 = position }) positions) ≡ positions
keys_back [] = refl
keys_back (position ∷ positions) = ap (λ rest. position ∷ rest) (keys_back positions)

pub returns : goal.returns
returns c =
    let cells = c.self.inside.tree.cells in
    let children = children_seen c.self.inside.contents cells c.self.invariant.so_many in
    rw (← c.self.view_is) (IfOk-weaker c.keys_of.result _ _ (λ keys is.
    let positions : map (λ (key : CellKey). key.0) keys.items ≡ c.in_ok-order.order.items =
    ap (map (λ (key : CellKey). key.0)) is ∙ keys_back c.as_slice.result.now ∙ c.as_slice.ensures.value in
    subst (λ (all : List (List ℕ)). IsLibraryOrder all c.args.root.0 (map (λ (key : CellKey). key.0) keys.items)) (sym children)
    (subst (IsLibraryOrder (children_of cells) c.args.root.0) (sym positions) c.in_ok-order.ensures)) c.keys_of.ensures)
