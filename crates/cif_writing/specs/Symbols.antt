-- The CIF text of a cell: a symbol for each cell at or below it.
use Rattle.std.specs.Prelude.{◌≡◌, ◌==◌, ℕ, suc, List, [], ◌∷◌, ◌++◌, map, Option, Some, None}
use Rattle.std.specs.List.{position_or_len}
use Rattle.text_scan.specs.Written.{text_of}
use Rattle.geo_core.specs.declared.squares.Rect.{Rect}
use Rattle.geo_core.specs.declared.transforms.Transform.{Transform}
use Rattle.geo_core.specs.Strips.{IsStrips}
use Rattle.tech_model.specs.declared.raw.RawTech.{RawTech}
use Rattle.cell_tree.specs.declared.use_tables.UseBody.{UseBody}
use Rattle.cell_tree.specs.UseOrders.LibraryOrder.{IsLibraryOrder}
use Rattle.cell_tree.specs.Uses.{displacements}
use Rattle.cell_library.specs.Additions.{children_in}
use Rattle.cell_library.specs.LayoutTrees.{element_transform}
use Rattle.cell_library.specs.Limits.{HullIs}
use Rattle.cell_library.specs.LayoutModel.Layouts.{Layout}
use Rattle.cell_library.specs.Views.{LibraryView, view_at}
use Rattle.cif_writing.specs.Commands.{start_command, name_command, part_lines, call_command, finish_command, plain_call, end_line}
use Rattle.cif_writing.specs.Parts.{part_sets, HoldsPart}

-- What things in order stand for, which are numbered on from a number: what the first does, and then what the others do.
abbrev pub AreRuns : {X Y : Type 0} → (ℕ → X → List Y → Type 0) → ℕ → List X → List Y → Type 0
AreRuns Of number [] ys = ys ≡ []
AreRuns {X} {Y} Of number (x ∷ xs) ys = (first : List Y) × (rest : List Y) × (ys ≡ first ++ rest) × Of number x first × AreRuns Of (suc number) xs rest

-- The lines of part k: for the strips of the squares that hold it.
abbrev pub IsPart : RawTech → Layout → ℕ → ℕ → List (List ℕ) → Type 0
IsPart raw own k part lines = (areas : List Rect) × IsStrips (HoldsPart raw own part) areas × (lines ≡ part_lines k areas)

-- The lines of all parts, which are numbered from 1.
abbrev pub AreParts : RawTech → Layout → List (List ℕ) → Type 0
AreParts raw own lines = AreRuns (IsPart raw own) 1 (part_sets raw) lines

-- the number of a cell's symbol: symbols are numbered from 1 in library order
abbrev pub symbol_number : List ℕ → ℕ → ℕ
symbol_number order cell = suc (position_or_len (λ other. cell == other) order)

-- how the elements of a use stand
abbrev pub elements_of_use : UseBody → List Transform
elements_of_use used = map (element_transform used.placed) (displacements used.grid)

-- the calls of symbol n for a use: one for each element, where the child has a hull
abbrev pub use_calls : ℕ → UseBody → Option Rect → List (List ℕ)
use_calls number used None = []
use_calls number used (Some hull) = map (call_command number) (elements_of_use used)

-- The calls of the child's symbol for a use.
abbrev pub IsUse : LibraryView → List ℕ → UseBody → List (List ℕ) → Type 0
IsUse view order used lines =
    (hull : Option Rect) × HullIs view used.child.0 hull × (lines ≡ use_calls (symbol_number order used.child.0) used hull)

-- The calls of a cell's uses in order.
abbrev pub AreCalls : LibraryView → List ℕ → List (List ℕ × UseBody) → List (List ℕ) → Type 0
AreCalls view order uses lines = AreRuns (λ k entry calls. IsUse view order entry.1 calls) 1 uses lines

-- The lines of the symbol of a cell: its start and its name, its parts, its calls, and its end.
pub record IsSymbol (view : LibraryView) (order : List ℕ) (number cell : ℕ) (lines : List (List ℕ)) : Type 0 where
  pub parts : List (List ℕ)
  pub are_parts : AreParts view.tech (view_at view cell).own parts
  pub calls : List (List ℕ)
  pub are_calls : AreCalls view order (view_at view cell).uses calls
  pub is : lines ≡ start_command number ∷ name_command (view_at view cell).name ∷ (parts ++ (calls ++ finish_command ∷ []))

-- The symbols of these cells in order, the first of which has this number. Calls go by the numbers that cells have in the whole order.
abbrev pub AreSymbols : LibraryView → List ℕ → ℕ → List ℕ → List (List ℕ) → Type 0
AreSymbols view order number cells lines = AreRuns (IsSymbol view order) number cells lines

-- The text of a cell: the symbols of the cells at or below it, children before parents, a call of its own, and the end.
pub record IsCifText (view : LibraryView) (cell : ℕ) (text : List ℕ) : Type 0 where
  pub order : List ℕ
  pub is_order : IsLibraryOrder (children_in view) cell order
  pub symbols : List (List ℕ)
  pub are_symbols : AreSymbols view order 1 order symbols
  pub is : text ≡ text_of (symbols ++ plain_call (symbol_number order cell) ∷ end_line ∷ [])
