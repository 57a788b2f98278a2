-- The symbols of a library order are read one after another.
use Rattle.file_laws.proofs.Common.{◌≡◌, ◌<◌, ◌==◌, ℕ, suc, pos, List, [], ◌∷◌, ◌++◌, length, Some, sym, ap, subst, ◌∙◌, append_assoc, append-nil}
use Rattle.file_laws.proofs.Common.{arith, inl, inr, slice_get, slice_get_within, In-slice_get, slice_get-In, slice_get-below, IsLibraryOrder}
use Rattle.file_laws.proofs.Common.{children_in, IsLawfulLibrary, LibraryParts, seen, LibraryView, view_at, CifSymbol, IsSymbol, IsCellSymbol}
use Rattle.file_laws.proofs.Common.{symbol_place}
use Rattle.std.proofs.lemmas.Bool.Decides.{Decides-eqb}
use Rattle.std.proofs.lemmas.List.{length_push}
use Rattle.finite_sets.proofs.Places.{slice_get-append_left, slice_get-append_right, slice_get-push_cases}
use Rattle.cif_reading.specs.Drafts.{has_symbol}
use Rattle.cif_writing.specs.Symbols.{AreSymbols}
use Rattle.finite_sets.proofs.FirstPlaces.{place_of}
use Rattle.file_laws.proofs.LibraryNumbers.{element_is_near, name_is_plain, parts_few, strip_is_near}
use Rattle.file_laws.proofs.LibraryOrders.{child_before, order_few, order_once, order_there}
use Rattle.file_laws.proofs.NumberedSymbols.{AreNumbered, numbered_new, numbered_place, numbered_there}
use Rattle.file_laws.proofs.ReadCommands.{behind_symbols}
use Rattle.file_laws.proofs.ReadLines.{Reads, reads_none, reads_then}
use Rattle.file_laws.proofs.KeptSymbols.{symbol_kept}
use Rattle.file_laws.proofs.ReadParts.{KeepsLayers}
use Rattle.file_laws.proofs.ReadSymbols.{CanBeRead, symbol_read}

module _ (library : LibraryParts) (lawful : IsLawfulLibrary library) (root : ℕ) (there : root < length library.contents) (order : List ℕ)
    (is_order : IsLibraryOrder (children_in (seen library)) root order) where
  abbrev view : LibraryView
  view = seen library

  -- a cell's symbol has the cell's place in the order
  pub place_in_order : (place cell : ℕ) → slice_get order place ≡ Some cell → symbol_place order cell ≡ place
  place_in_order place cell at = place_of (λ a b. a == b) Decides-eqb order place cell (order_once library lawful root there order is_order) at

  -- The symbols are those of the cells at the front of the order.
  pub record AreSymbolsOf (front : List ℕ) (layers : List (List ℕ)) (symbols : List CifSymbol) : Type 0 where
    pub so_many : length symbols ≡ length front
    pub each : (place other : ℕ) (symbol : CifSymbol) → slice_get front place ≡ Some other → slice_get symbols place ≡ Some symbol
        → IsCellSymbol layers view order other symbol

  -- so each has the number behind its place
  pub are_numbered : (front rest : List ℕ) (layers : List (List ℕ)) (symbols : List CifSymbol) → order ≡ front ++ rest
      → AreSymbolsOf front layers symbols → AreNumbered symbols
  are_numbered front rest layers symbols cut are place symbol at =
      let within = slice_get_within symbols place symbol at in
      let many = are.so_many in
      let cell = slice_get-below front place (omega arith) in
      let stands : slice_get order place ≡ Some cell.0 =
      ap (λ (o : List ℕ). slice_get o place) cut ∙ slice_get-append_left front rest place cell.0 cell.1 in
      (are.each place cell.0 symbol cell.1 at).number ∙ ap (λ (p : ℕ). pos (suc p)) (place_in_order place cell.0 stands)

  -- what is known of the next cell
  next_can : (front rest : List ℕ) (cell : ℕ) (layers : List (List ℕ)) (symbols : List CifSymbol) → order ≡ front ++ cell ∷ rest
      → AreSymbolsOf front layers symbols → CanBeRead view order cell symbols
  next_can front rest cell layers symbols cut are =
      let stands : slice_get order (length front) ≡ Some cell =
      ap (λ (o : List ℕ). slice_get o (length front)) cut ∙ slice_get-append_right front (cell ∷ rest) 0 (length front) (omega arith) in
      let place = place_in_order (length front) cell stands in
      let many = are.so_many in
      let numbered = are_numbered front (cell ∷ rest) layers symbols cut are in
      let below = order_there library lawful root there order is_order cell (In-slice_get order (length front) cell stands) in
      let within = slice_get_within order (length front) cell stands in
      let few = order_few library lawful root there order is_order in
      let limit = lawful.few in
      record {
        few_parts = parts_few library.tech lawful.well_formed;
        few_symbols = omega arith;
        plain = name_is_plain library lawful cell below;
        near = λ part areas strips area among. strip_is_near library lawful cell part area (strips.each area among);
        new =
            ap (λ (n : ℕ). has_symbol (pos (suc n)) symbols) (place ∙ sym many)
            ∙ numbered_new symbols numbered;
        ready = λ entry among. (
            let used = slice_get-In entry (view_at view cell).uses among in
            let child = entry.1.child.0 in
            let before = child_before library lawful root there order is_order (length front) cell used.0 entry stands used.1 in
            let child_place : symbol_place order child ≡ before.0 = place_in_order before.0 child before.1.1 in
            let earlier : before.0 < length front = before.1.0 in
            let found : symbol_place order child < length symbols = omega arith in
            record {
              few = omega arith;
              there = numbered_there symbols numbered (symbol_place order child) found;
              place = numbered_place symbols numbered (symbol_place order child) found;
              near = λ hull has element stands_there. element_is_near library lawful cell below used.0 entry used.1 hull has element stands_there;
            });
      }

  -- with one symbol more they are those of one cell more
  more_symbols : (front : List ℕ) (cell : ℕ) (layers new : List (List ℕ)) (symbols : List CifSymbol) (more : CifSymbol)
      → AreSymbolsOf front layers symbols → KeepsLayers layers new → IsCellSymbol new view order cell more
      → (place other : ℕ) (symbol : CifSymbol) → slice_get (front ++ cell ∷ []) place ≡ Some other
      → slice_get (symbols ++ more ∷ []) place ≡ Some symbol → IsCellSymbol new view order other symbol
  more_symbols front cell layers new symbols more are kept is place other symbol at stands =
      let many = are.so_many in
      elim (slice_get-push_cases front cell other place at) [
        | inl old ↦ (
            let before = slice_get_within front place other old in
            elim (slice_get-push_cases symbols more symbol place stands) [
              | inl same ↦ symbol_kept layers new view order other symbol kept (are.each place other symbol old same)
              | inr last ↦ (let end = last.0 in absurd (omega arith))
            ])
        | inr new_one ↦ (
            let end = new_one.0 in
            elim (slice_get-push_cases symbols more symbol place stands) [
              | inl same ↦ (let before = slice_get_within symbols place symbol same in absurd (omega arith))
              | inr last ↦ (
                  subst (λ (c : ℕ). IsCellSymbol new view order c symbol) new_one.1
                  (subst (λ (s : CifSymbol). IsCellSymbol new view order cell s) last.1 is))
            ])
      ]

  -- The lines of the symbols that are left are read as them.
  pub record ReadsSymbols (lines : List (List ℕ)) (layers : List (List ℕ)) (symbols : List CifSymbol) : Type 0 where
    pub new : List (List ℕ)
    pub all : List CifSymbol
    pub are : AreSymbolsOf order new all
    pub reads : Reads lines (behind_symbols layers symbols) (behind_symbols new all)

  -- they are, one cell after another
  pub symbols_read : (cells front : List ℕ) (lines : List (List ℕ)) → order ≡ front ++ cells → AreSymbols view order (suc (length front)) cells lines
      → (layers : List (List ℕ)) (symbols : List CifSymbol) → AreSymbolsOf front layers symbols → ReadsSymbols lines layers symbols
  symbols_read [] front lines cut none layers symbols are =
      let whole : front ≡ order = sym (cut ∙ append-nil front) in
      record {
        new = layers;
        all = symbols;
        are = subst (λ (cells : List ℕ). AreSymbolsOf cells layers symbols) whole are;
        reads =
            subst (λ (l : List (List ℕ)). Reads l (behind_symbols layers symbols) (behind_symbols layers symbols)) (sym none)
            (reads_none (behind_symbols layers symbols));
      }
  symbols_read (cell ∷ cells) front lines cut (first, rest, are_lines, here, later) layers symbols are =
      let stands : slice_get order (length front) ≡ Some cell =
      ap (λ (o : List ℕ). slice_get o (length front)) cut ∙ slice_get-append_right front (cell ∷ cells) 0 (length front) (omega arith) in
      let place : symbol_place order cell ≡ length front = place_in_order (length front) cell stands in
      let one =
      symbol_read view order cell first layers symbols (subst (λ (n : ℕ). IsSymbol view order (suc n) cell first) (sym place) here)
      (next_can front cells cell layers symbols cut are) in
      let many = are.so_many in
      let more_cells = length_push front cell in
      let more_read = length_push symbols one.symbol in
      let others =
      symbols_read cells (front ++ cell ∷ []) rest (cut ∙ sym (append_assoc front (cell ∷ []) cells))
      (subst (λ (n : ℕ). AreSymbols view order n cells rest) (omega arith) later) one.new (symbols ++ one.symbol ∷ []) (record {
        so_many = omega arith;
        each = more_symbols front cell layers one.new symbols one.symbol are one.kept one.is;
      }) in
      record {
        new = others.new;
        all = others.all;
        are = others.are;
        reads =
            subst (λ (l : List (List ℕ)). Reads l (behind_symbols layers symbols) (behind_symbols others.new others.all)) (sym are_lines)
            (reads_then first rest (behind_symbols layers symbols) (behind_symbols one.new (symbols ++ one.symbol ∷ []))
            (behind_symbols others.new others.all) one.reads others.reads);
      }
