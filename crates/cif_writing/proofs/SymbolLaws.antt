-- The lines of a symbol, one part behind the other, and the whole text.
use Rattle.cif_writing.proofs.Common.{◌≡◌, ◌<◌, ℕ, false, List, [], ◌∷◌, ◌++◌, length, map, refl, sym, ap, subst, ◌∙◌, append-nil, ◌==◌, Option}
use Rattle.cif_writing.proofs.Common.{Some, slice_get, text_of, text_of-append, lines_behind, Grid, Rect, IsStrips, one_list, RawTech, UseBody}
use Rattle.cif_writing.proofs.Common.{displacements, children_in, element_transform, IsLawfulLibrary, LibraryParts, seen, HullIs, Layout, view_at}
use Rattle.cif_writing.proofs.Common.{LONGEST_TEXT, start_command, name_command, box_command, part_lines, call_command, plain_call, HoldsPart}
use Rattle.cif_writing.proofs.Common.{elements_of_use, symbol_number, IsPart, IsSymbol, IsUse, Writes, IsTooLongWith, AreTooLong}
use Rattle.cell_tree.specs.UseOrders.LibraryOrder.{IsLibraryOrder}
use Rattle.cell_library.specs.Views.{LibraryView}
use Rattle.cif_writing.specs.Commands.{layer_command, finish_command}
use Rattle.cif_writing.specs.Commands.{end_line}
use Rattle.cif_writing.specs.Symbols.{AreCalls, AreParts, AreSymbols, IsCifText}
use Rattle.cif_writing.proofs.OneText.{one_list_of_parts, one_list_of_symbols, one_use}
use Rattle.cif_writing.proofs.WritingLaws.{longer, too_long_among}

-- ---- parts

module _ (raw : RawTech) (own : Layout) (k part : ℕ) (areas told : List Rect) (same : told ≡ areas) (strips : IsStrips (HoldsPart raw own part) areas) where
  -- the lines of its strips are a part
  pub part_written : (old new : List ℕ) → new ≡ old ++ text_of (part_lines k told) → Writes (IsPart raw own k part) old new
  part_written old new is = record {
    lines = part_lines k areas;
    are = (areas, strips, refl);
    is = is ∙ ap (λ (a : List Rect). old ++ text_of (part_lines k a)) same;
  }

  -- where they make the text too long, the part does
  pub part_too_long : (text : List ℕ) → IsTooLongWith (part_lines k told) text → AreTooLong (IsPart raw own k part) text
  part_too_long text long lines (others, too, is) =
      subst (λ (l : List (List ℕ)). IsTooLongWith l text)
      (ap (part_lines k) (same ∙ one_list (HoldsPart raw own part) areas others strips too) ∙ sym is) long

-- a part that has boxes
pub part_lines-some : (k : ℕ) (areas : List Rect) → (length areas == 0) ≡ false → part_lines k areas ≡ layer_command k ∷ map box_command areas
part_lines-some k [] some = absurd (let no : ⊥ = cc in no)
part_lines-some k (area ∷ areas) some = refl

-- its lines, written one behind the other
pub boxes_written : (k : ℕ) (areas : List Rect) (old now new : List ℕ) → (length areas == 0) ≡ false → now ≡ old ++ text_of (layer_command k ∷ [])
    → new ≡ now ++ text_of (map box_command areas) → new ≡ old ++ text_of (part_lines k areas)
boxes_written k areas old now new some first rest =
    lines_behind (layer_command k ∷ []) (map box_command areas) old now new first rest
    ∙ ap (λ (l : List (List ℕ)). old ++ text_of l) (sym (part_lines-some k areas some))

-- and boxes that make the text too long
pub boxes_too_long : (k : ℕ) (areas : List Rect) (old now : List ℕ) → (length areas == 0) ≡ false → now ≡ old ++ text_of (layer_command k ∷ [])
    → IsTooLongWith (map box_command areas) now → IsTooLongWith (part_lines k areas) old
boxes_too_long k areas old now some first long =
    subst (λ (l : List (List ℕ)). IsTooLongWith l old)
    (ap (λ (l : List (List ℕ)). layer_command k ∷ l) (append-nil (map box_command areas)) ∙ sym (part_lines-some k areas some))
    (too_long_among (layer_command k ∷ []) (map box_command areas) [] old now first long)

-- ---- uses

-- the elements of a use with a grid
pub elements_of_grid : (used : UseBody) (grid : Grid) → used.grid ≡ Some grid
    → map (element_transform used.placed) (displacements (Some grid)) ≡ elements_of_use used
elements_of_grid used grid is = ap (λ (g : Option Grid). map (element_transform used.placed) (displacements g)) (sym is)

module _ (library : LibraryParts) (lawful : IsLawfulLibrary library) (order : List ℕ) (used : UseBody) (number : ℕ) (hull : Rect)
    (same : number ≡ symbol_number order used.child.0) (is_hull : HullIs (seen library) used.child.0 (Some hull)) where
  calls_of : IsUse (seen library) order used (map (call_command number) (elements_of_use used))
  calls_of = (Some hull, is_hull, ap (λ (n : ℕ). map (call_command n) (elements_of_use used)) same)

  -- the calls of all elements are those of the use
  pub use_written : (old new : List ℕ) → new ≡ old ++ text_of (map (call_command number) (elements_of_use used))
      → Writes (IsUse (seen library) order used) old new
  use_written old new is = record { lines = map (call_command number) (elements_of_use used); are = calls_of; is = is }

  -- where they make the text too long, the use does
  pub use_too_long : used.child.0 < length library.contents → (text : List ℕ)
      → IsTooLongWith (map (call_command number) (elements_of_use used)) text → AreTooLong (IsUse (seen library) order used) text
  use_too_long below text long lines is =
      subst (λ (l : List (List ℕ)). IsTooLongWith l text)
      (one_use library lawful order used below (map (call_command number) (elements_of_use used)) lines calls_of is) long

-- ---- symbols

module _ (view : LibraryView) (order : List ℕ) (number cell : ℕ) where
  -- the start of the symbol and the name of its cell
  abbrev pub head_lines : List (List ℕ)
  head_lines = start_command number ∷ name_command (view_at view cell).name ∷ []

  -- a symbol, written part by part
  pub symbol_written : (old a b c new : List ℕ) → a ≡ old ++ text_of head_lines → Writes (AreParts view.tech (view_at view cell).own) a b
      → Writes (AreCalls view order (view_at view cell).uses) b c → new ≡ c ++ text_of (finish_command ∷ [])
      → Writes (IsSymbol view order number cell) old new
  symbol_written old a b c new head parts calls finish = record {
    lines = head_lines ++ (parts.lines ++ (calls.lines ++ finish_command ∷ []));
    are = record { parts = parts.lines; are_parts = parts.are; calls = calls.lines; are_calls = calls.are; is = refl };
    is = lines_behind head_lines (parts.lines ++ (calls.lines ++ finish_command ∷ [])) old a new head
        (lines_behind parts.lines (calls.lines ++ finish_command ∷ []) a b new parts.is
        (lines_behind calls.lines (finish_command ∷ []) b c new calls.is finish));
  }

  -- where its parts make the text too long, the symbol does
  pub parts_too_long : (old a : List ℕ) → a ≡ old ++ text_of head_lines → AreTooLong (AreParts view.tech (view_at view cell).own) a
      → AreTooLong (IsSymbol view order number cell) old
  parts_too_long old a head long lines symbol =
      subst (λ (l : List (List ℕ)). IsTooLongWith l old) (sym symbol.is)
      (too_long_among head_lines symbol.parts (symbol.calls ++ finish_command ∷ []) old a head (long symbol.parts symbol.are_parts))

  -- and where its calls do
  pub calls_too_long : (old a b : List ℕ) → a ≡ old ++ text_of head_lines → Writes (AreParts view.tech (view_at view cell).own) a b
      → AreTooLong (AreCalls view order (view_at view cell).uses) b → AreTooLong (IsSymbol view order number cell) old
  calls_too_long old a b head parts long lines symbol =
      let same : parts.lines ≡ symbol.parts =
      one_list_of_parts view.tech (view_at view cell).own parts.lines symbol.parts parts.are symbol.are_parts in
      let written : b ≡ old ++ text_of (head_lines ++ symbol.parts) =
      lines_behind head_lines symbol.parts old a b head (parts.is ∙ ap (λ (l : List (List ℕ)). a ++ text_of l) same) in
      subst (λ (l : List (List ℕ)). IsTooLongWith l old) (sym symbol.is)
      (too_long_among (head_lines ++ symbol.parts) symbol.calls (finish_command ∷ []) old b written (long symbol.calls symbol.are_calls))

-- ---- the whole text

-- the symbols of one order, by whatever names it goes
pub symbols_as : (view : LibraryView) (numbers told order : List ℕ) (old new : List ℕ) → numbers ≡ order → told ≡ order
    → Writes (AreSymbols view numbers 1 told) old new → Writes (AreSymbols view order 1 order) old new
symbols_as view numbers told order old new same too written =
    subst (λ (o : List ℕ). Writes (AreSymbols view o 1 order) old new) same
    (subst (λ (o : List ℕ). Writes (AreSymbols view numbers 1 o) old new) too written)

pub too_long_as : (view : LibraryView) (numbers told order : List ℕ) (text : List ℕ) → numbers ≡ order → told ≡ order
    → AreTooLong (AreSymbols view numbers 1 told) text → AreTooLong (AreSymbols view order 1 order) text
too_long_as view numbers told order text same too long =
    subst (λ (o : List ℕ). AreTooLong (AreSymbols view o 1 order) text) same
    (subst (λ (o : List ℕ). AreTooLong (AreSymbols view numbers 1 o) text) too long)

module _ (library : LibraryParts) (lawful : IsLawfulLibrary library) (cell : ℕ) (order : List ℕ)
    (is_order : IsLibraryOrder (children_in (seen library)) cell order) where
  -- the whole text
  pub text_written : (number : ℕ) (start a b : List ℕ) → start ≡ [] → Writes (AreSymbols (seen library) order 1 order) start a
      → b ≡ a ++ text_of (plain_call number ∷ end_line ∷ []) → number ≡ symbol_number order cell → IsCifText (seen library) cell b
  text_written number start a b empty symbols last is = record {
    order = order;
    is_order = is_order;
    symbols = symbols.lines;
    are_symbols = symbols.are;
    is = lines_behind symbols.lines (plain_call number ∷ end_line ∷ []) start a b symbols.is last
        ∙ ap (λ (text : List ℕ). text ++ text_of (symbols.lines ++ plain_call number ∷ end_line ∷ [])) empty
        ∙ ap (λ (n : ℕ). text_of (symbols.lines ++ plain_call n ∷ end_line ∷ [])) is;
  }

  module _ (unique : (other : List ℕ) → IsLibraryOrder (children_in (seen library)) cell other → other ≡ order)
      (below : (k c : ℕ) → slice_get order k ≡ Some c → c < length library.contents) where
    -- a text of the cell has the symbols of this order
    symbols_of : (text : List ℕ) → (is : IsCifText (seen library) cell text) → AreSymbols (seen library) order 1 order is.symbols
    symbols_of text is =
        subst (λ (o : List ℕ). AreSymbols (seen library) o 1 o is.symbols) (unique is.order is.is_order) is.are_symbols

    -- a cell has one text
    pub one_text : (text other : List ℕ) → IsCifText (seen library) cell text → IsCifText (seen library) cell other → text ≡ other
    one_text text other is too =
        let symbols : is.symbols ≡ too.symbols =
        one_list_of_symbols library lawful order order below is.symbols too.symbols (symbols_of text is) (symbols_of other too) in
        let orders : is.order ≡ too.order = unique is.order is.is_order ∙ sym (unique too.order too.is_order) in
        is.is
        ∙ ap (λ (l : List (List ℕ)). text_of (l ++ plain_call (symbol_number is.order cell) ∷ end_line ∷ [])) symbols
        ∙ ap (λ (o : List ℕ). text_of (too.symbols ++ plain_call (symbol_number o cell) ∷ end_line ∷ [])) orders
        ∙ sym too.is

    -- where the symbols make the text too long, it is
    pub symbols_too_long : (start : List ℕ) → start ≡ [] → AreTooLong (AreSymbols (seen library) order 1 order) start → (text : List ℕ)
        → IsCifText (seen library) cell text → LONGEST_TEXT < length text
    symbols_too_long start empty long text is =
        let last = plain_call (symbol_number is.order cell) ∷ end_line ∷ [] in
        longer (start ++ text_of is.symbols) (text_of last) text
        (ap (λ (t : List ℕ). (t ++ text_of is.symbols) ++ text_of last) empty ∙ sym (text_of-append is.symbols last) ∙ sym is.is)
        (long is.symbols (symbols_of text is))
