-- What the CIF text of a cell says.
use Rattle.std.specs.Prelude.{◌≡◌, ◌≢◌, ◌==◌, ℕ, suc, pos, List, [], ◌∷◌, ◌++◌, length, map, slice_get, Option, Some, None}
use Rattle.std.specs.List.{position_or_len}
use Rattle.finite_sets.specs.Lists.{Distinct}
use Rattle.geo_core.specs.declared.squares.Rect.{Rect}
use Rattle.geo_core.specs.Strips.{IsStrips}
use Rattle.tech_model.specs.declared.raw.RawTech.{RawTech}
use Rattle.cell_tree.specs.declared.use_tables.UseBody.{UseBody}
use Rattle.cell_tree.specs.UseOrders.LibraryOrder.{IsLibraryOrder}
use Rattle.cif_writing.specs.CellLibrary.Additions.{children_in}
use Rattle.cif_writing.specs.CellLibrary.Limits.{HullIs}
use Rattle.cif_writing.specs.CellLibrary.LayoutModel.Layouts.{Layout}
use Rattle.cif_writing.specs.CellLibrary.Views.{LibraryView, view_at}
use Rattle.cif_model.specs.declared.cifs.CifItem.{CifItem}
use Rattle.cif_model.specs.declared.cifs.CifItem.TheVariants.{Area, Call}
use Rattle.cif_model.specs.declared.cifs.CifSymbol.{CifSymbol}
use Rattle.cif_model.specs.Cifs.{CifParts}
use Rattle.cif_model.specs.Placings.{placing}
use Rattle.cif_writing.specs.Commands.{part_name}
use Rattle.cif_writing.specs.Parts.{part_sets, HoldsPart}
use Rattle.cif_writing.specs.Symbols.{elements_of_use, AreRuns}

-- The boxes of part k: the strips of the squares that hold it. Where there are any, the layer is that of the part's name.
abbrev pub IsPartBoxes : List (List ℕ) → RawTech → Layout → ℕ → ℕ → List CifItem → Type 0
IsPartBoxes layers raw own k part items =
    (areas : List Rect) × (layer : ℕ) × IsStrips (HoldsPart raw own part) areas × (areas ≢ [] → slice_get layers layer ≡ Some (part_name k))
    × (items ≡ map (Area layer) areas)

-- the place of a cell's symbol: symbols stand in library order
abbrev pub symbol_place : List ℕ → ℕ → ℕ
symbol_place order cell = position_or_len (λ other. cell == other) order

-- the calls of a symbol for a use of its cell: one for each element, where the cell has a hull
abbrev pub use_items : ℕ → UseBody → Option Rect → List CifItem
use_items symbol used None = []
use_items symbol used (Some hull) = map (λ element. Call symbol (placing element)) (elements_of_use used)

-- The calls of the child's symbol for a use.
abbrev pub AreUseItems : LibraryView → List ℕ → UseBody → List CifItem → Type 0
AreUseItems view order used items =
    (hull : Option Rect) × HullIs view used.child.0 hull × (items ≡ use_items (symbol_place order used.child.0) used hull)

-- The symbol of a cell: the boxes of its own paint by their parts, and the calls of its uses in order.
pub record IsCellSymbol (layers : List (List ℕ)) (view : LibraryView) (order : List ℕ) (cell : ℕ) (symbol : CifSymbol) : Type 0 where
  pub number : symbol.number ≡ pos (suc (symbol_place order cell))
  pub boxes : List CifItem
  pub are_boxes : AreRuns (IsPartBoxes layers view.tech (view_at view cell).own) 1 (part_sets view.tech) boxes
  pub calls : List CifItem
  pub are_calls : AreRuns (λ k entry items. AreUseItems view order entry.1 items) 1 (view_at view cell).uses calls
  pub items : symbol.items ≡ boxes ++ calls

-- What the text of a cell says: the symbols of the cells at or below it, children before parents, and a call of its own.
pub record IsCellCif (view : LibraryView) (cell : ℕ) (cif : CifParts) : Type 0 where
  pub order : List ℕ
  pub is_order : IsLibraryOrder (children_in view) cell order
  pub layers : Distinct cif.layers
  pub so_many : length cif.symbols ≡ length order
  pub each : (place other : ℕ) (symbol : CifSymbol) → slice_get order place ≡ Some other → slice_get cif.symbols place ≡ Some symbol
      → IsCellSymbol cif.layers view order other symbol
  pub top : cif.top ≡ Call (symbol_place order cell) [] ∷ []
