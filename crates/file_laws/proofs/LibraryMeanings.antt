-- The cells of a lawful library: their trees have the trees of their children, and what has a part has a hull.
use Rattle.file_laws.proofs.Common.{◌≡◌, ◌∙◌, ◌<◌, ℕ, true, List, length, refl, subst, is_subset, IsLibraryOrder, library_order-lists, children_in}
use Rattle.file_laws.proofs.Common.{place_at, IsLawfulLibrary, LibraryParts, seen, LibraryView, IsBit, HoldsPartOfTree}
use Rattle.layout_model.specs.CellTrees.{CellTree}
use Rattle.cell_tree.specs.declared.limits.TheConstants.{MOST_DEPTH}
use Rattle.cif_writing.specs.CellLibrary.LayoutTrees.{tree_at, tree_to}
use Rattle.cif_writing.proofs.CellLibrary.HullsHoldMaterial.{hull_holds}
use Rattle.cif_writing.proofs.CellLibrary.LayoutTreeLaws.{tree_unfolds}
use Rattle.cif_writing.proofs.OrderLaws.{order_there}
use Rattle.cif_writing.proofs.PartLaws.{part_bit}
use Rattle.file_laws.specs.CellMeanings.{CellTextsMeanTheLayout}
use Rattle.file_laws.proofs.BitParts.{part_in_none}
use Rattle.file_laws.proofs.CellMeanings.{text_means}
use Rattle.file_laws.proofs.SymbolMeanings.{HullsHold, TreesUnfold}

-- the trees of the cells of a library order have those of their children
trees_unfold : (library : LibraryParts) → IsLawfulLibrary library → (root : ℕ) → root < length library.contents → (order : List ℕ)
    → IsLibraryOrder (children_in (seen library)) root order → TreesUnfold (seen library) order
trees_unfold library lawful root there order is_order cell listed =
    tree_unfolds library lawful cell
    (order_there library lawful root order there (library_order-lists (children_in (seen library)) root order is_order) cell listed)

-- the tree is unfolded so far
tree_depth : (view : LibraryView) (cell : ℕ) → tree_at view cell ≡ tree_to view MOST_DEPTH cell
unfolding tree_at
tree_depth view cell = refl

-- what has a part lies in the cell's hull
hulls_hold : (view : LibraryView) (part : ℕ) → IsBit part → HullsHold view part
hulls_hold view part bit cell square holds hull hull_is =
    let deep = subst (λ (tree : CellTree). HoldsPartOfTree view.tech tree part square) (tree_depth view cell) holds in
    let found = hull_holds view.tech view hull_is.states hull_is.sizes hull_is.are_states hull_is.are_sizes MOST_DEPTH cell (place_at deep.0 square)
    (λ none. part_in_none part bit (subst (λ (set : ℕ). is_subset part set ≡ true) none deep.1)) in
    (found.0, hull_is.is ∙ found.1)

-- the text of a cell means its flat layout
pub cell_texts_mean : CellTextsMeanTheLayout
cell_texts_mean library cell cif lawful there is k part known =
    let bit = part_bit library.tech lawful.well_formed k part known in
    text_means (seen library) cell cif is k part known bit (trees_unfold library lawful cell there is.order is.is_order)
    (hulls_hold (seen library) part bit)
