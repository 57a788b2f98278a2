-- The first cell of a library order that is not clean.
use Rattle.std.proofs.Common.{◌<◌, ℕ, List, length, take, get_or}
use Rattle.std.specs.Prelude.{All}
use Rattle.geo_core.specs.declared.squares.Rect.{Rect}
use Rattle.ext_model.specs.declared.tables.CellKey.{CellKey}
use Rattle.use_orders.specs.LibraryOrder.{IsLibraryOrder}
use Rattle.library_answers.proofs.HierMerge.CleanOrders.{first_unclean_there, numbers}
use Rattle.library_answers.specs.HierMerge.UncleanCells.{AreOffendingOf, IsCleanCell, IsUncleanBelow}
use Rattle.cell_library.specs.Additions.{children_in}
use Rattle.cell_library.specs.Views.{LibraryView}

-- the cell at a place of an order, where it is not clean and those before it are
pub unclean_there : (view : LibraryView) (root : ℕ) (order : List CellKey) (place : ℕ) (d : CellKey) (squares : List (ℕ × Rect))
    → IsLibraryOrder (children_in view) root (numbers order) → place < length order → All (IsCleanCell view) (take place (numbers order))
    → (IsCleanCell view (get_or order place d).0 → ⊥) → AreOffendingOf view (get_or order place d).0 squares
    → IsUncleanBelow view root (get_or order place d).0 squares
unclean_there view root order place d squares is_order below before unclean are = record {
  order = numbers order;
  is_order = is_order;
  first = first_unclean_there view order place d below before unclean;
  are_squares = are;
}
