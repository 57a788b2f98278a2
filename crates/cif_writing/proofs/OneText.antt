-- A lawful library has one text for each cell: the lines of each symbol are one list.
use Rattle.cif_writing.proofs.Common.{◌≡◌, ◌<◌, ℕ, List, [], ◌∷◌, ◌++◌, length, sym, ap, ◌∙◌, Option, Some, slice_get, Rect, one_list, RawTech}
use Rattle.cif_writing.proofs.Common.{UseBody, IsLawfulLibrary, LibraryParts, seen, HullIs, Layout, view_at, use_is_lawful, start_command}
use Rattle.cif_writing.proofs.Common.{name_command, part_lines, HoldsPart, part_sets, symbol_number, IsPart, IsSymbol, IsUse}
use Rattle.cell_library.proofs.BoxesBelow.{hull_seen}
use Rattle.cif_writing.specs.Commands.{finish_command}
use Rattle.cif_writing.specs.Symbols.{use_calls, AreCalls, AreParts, AreSymbols}
use Rattle.cif_writing.proofs.LineLaws.{one_list_of_lines, HasOne}

-- a part has one list of lines
pub one_part : (raw : RawTech) (own : Layout) → HasOne (IsPart raw own) (part_sets raw)
one_part raw own k place part at a b (areas, strips, is) (areas', strips', is') =
    is ∙ ap (part_lines k) (one_list (HoldsPart raw own part) areas areas' strips strips') ∙ sym is'

-- and so have all parts
pub one_list_of_parts : (raw : RawTech) (own : Layout) (a b : List (List ℕ)) → AreParts raw own a → AreParts raw own b → a ≡ b
one_list_of_parts raw own a b is too = one_list_of_lines (IsPart raw own) 1 (part_sets raw) (one_part raw own) a b is too

module _ (library : LibraryParts) (lawful : IsLawfulLibrary library) (order : List ℕ) where
  -- a cell has one hull
  pub one_hull : (cell : ℕ) → cell < length library.contents → (hull other : Option Rect) → HullIs (seen library) cell hull
      → HullIs (seen library) cell other → hull ≡ other
  one_hull cell below hull other is too = hull_seen library lawful cell hull below is ∙ sym (hull_seen library lawful cell other below too)

  -- so a use has one list of calls
  pub one_use : (used : UseBody) → used.child.0 < length library.contents → (a b : List (List ℕ)) → IsUse (seen library) order used a
      → IsUse (seen library) order used b → a ≡ b
  one_use used below a b (hull, is, are) (hull', is', are') =
      are ∙ ap (use_calls (symbol_number order used.child.0) used) (one_hull used.child.0 below hull hull' is is') ∙ sym are'

  -- the uses of a cell
  pub one_of_uses : (cell : ℕ) → cell < length library.contents
      → HasOne (λ k (entry : List ℕ × UseBody) calls. IsUse (seen library) order entry.1 calls) (view_at (seen library) cell).uses
  one_of_uses cell below n k entry at a b is too =
      one_use entry.1 (use_is_lawful library lawful cell below k entry.0 entry.1 at).1 a b is too

  pub one_list_of_calls : (cell : ℕ) → cell < length library.contents → (a b : List (List ℕ))
      → AreCalls (seen library) order (view_at (seen library) cell).uses a → AreCalls (seen library) order (view_at (seen library) cell).uses b → a ≡ b
  one_list_of_calls cell below a b is too =
      one_list_of_lines (λ k (entry : List ℕ × UseBody) calls. IsUse (seen library) order entry.1 calls) 1 (view_at (seen library) cell).uses
      (one_of_uses cell below) a b is too

  -- a cell has one symbol of a number
  pub one_symbol : (number cell : ℕ) → cell < length library.contents → (a b : List (List ℕ)) → IsSymbol (seen library) order number cell a
      → IsSymbol (seen library) order number cell b → a ≡ b
  one_symbol number cell below a b is too =
      let own = view_at (seen library) cell in
      let parts : is.parts ≡ too.parts = one_list_of_parts library.tech own.own is.parts too.parts is.are_parts too.are_parts in
      let calls : is.calls ≡ too.calls = one_list_of_calls cell below is.calls too.calls is.are_calls too.are_calls in
      is.is
      ∙ ap (λ (p : List (List ℕ)). start_command number ∷ name_command own.name ∷ (p ++ (is.calls ++ finish_command ∷ []))) parts
      ∙ ap (λ (c : List (List ℕ)). start_command number ∷ name_command own.name ∷ (too.parts ++ (c ++ finish_command ∷ []))) calls
      ∙ sym too.is

  -- the cells of an order have one list of symbols
  pub one_of_cells : (cells : List ℕ) → ((k cell : ℕ) → slice_get cells k ≡ Some cell → cell < length library.contents)
      → HasOne (IsSymbol (seen library) order) cells
  one_of_cells cells below n k cell at a b is too = one_symbol n cell (below k cell at) a b is too

  pub one_list_of_symbols : (cells : List ℕ) → ((k cell : ℕ) → slice_get cells k ≡ Some cell → cell < length library.contents)
      → (a b : List (List ℕ)) → AreSymbols (seen library) order 1 cells a → AreSymbols (seen library) order 1 cells b → a ≡ b
  one_list_of_symbols cells below a b is too =
      one_list_of_lines (IsSymbol (seen library) order) 1 cells (one_of_cells cells below) a b is too
