-- The text of a cell is read as what its cell says: symbol by symbol in library order, and then a call of the cell's own.
use Rattle.file_laws.proofs.Common.{◌≡◌, ◌<◌, ℕ, false, pos, List, [], ◌∷◌, ◌++◌, length, None, Ok, refl, sym, ap, ◌∙◌, append_assoc, append-nil}
use Rattle.file_laws.proofs.Common.{arith, slice_get_within, text_of, IsLawfulLibrary, LibraryParts, seen, CifParts, Call, cif_in, parts_of, Draft}
use Rattle.file_laws.proofs.Common.{IsCellCif, symbol_place}
use Rattle.cif_reading.specs.Drafts.{nothing_yet, symbol_place as place_by_number}
use Rattle.cif_reading.proofs.LawfulDrafts.{cif-lawful}
use Rattle.cif_writing.specs.Commands.{end_line, plain_call}
use Rattle.cif_writing.specs.Symbols.{IsCifText, symbol_number}
use Rattle.file_laws.proofs.LibraryOrders.{order_few, root_place}
use Rattle.file_laws.proofs.NumberedSymbols.{numbered_place, numbered_there}
use Rattle.file_laws.proofs.ReadCalls.{top_read}
use Rattle.file_laws.proofs.ReadCommands.{behind_symbols}
use Rattle.file_laws.proofs.ReadLines.{Reads, cif_of_lines, reads_then}
use Rattle.file_laws.proofs.ReadOrders.{are_numbered, place_in_order, symbols_read}

-- a text of these symbols, of this call and of an end says what they make
whole_read : (symbols : List (List ℕ)) (call text : List ℕ) (last : Draft) → text ≡ text_of (symbols ++ call ∷ end_line ∷ [])
    → Reads (symbols ++ call ∷ []) nothing_yet last → last.opened ≡ None → last.ended ≡ false → cif_in text ≡ Ok (parts_of last)
whole_read symbols call text last is reads closed goes_on =
    ap cif_in (is ∙ ap text_of (sym (append_assoc symbols (call ∷ []) (end_line ∷ []))))
    ∙ cif_of_lines (symbols ++ call ∷ []) last reads closed goes_on

module _ (library : LibraryParts) (lawful : IsLawfulLibrary library) (cell : ℕ) (there : cell < length library.contents) where
  -- The text of the cell is read as what the cell says.
  pub cell_text_read : (text : List ℕ) → IsCifText (seen library) cell text
      → (cif : CifParts) × IsCellCif (seen library) cell cif × (cif_in text ≡ Ok cif)
  cell_text_read text is =
      let order = is.order in
      let number = symbol_number order cell in
      let all = symbols_read library lawful cell there order is.is_order order [] is.symbols refl is.are_symbols [] [] (record {
        so_many = refl;
        each = λ place other symbol at stands. absurd (let no : ⊥ = cc in no);
      }) in
      let at = root_place library lawful cell there order is.is_order in
      let place : symbol_place order cell ≡ at.0 = place_in_order library lawful cell there order is.is_order at.0 cell at.1 in
      let within = slice_get_within order at.0 cell at.1 in
      let many = all.are.so_many in
      let few = order_few library lawful cell there order is.is_order in
      let limit = lawful.few in
      let found : symbol_place order cell < length all.all = omega arith in
      let numbered = are_numbered library lawful cell there order is.is_order order [] all.new all.all (sym (append-nil order)) all.are in
      let last : Draft = record (behind_symbols all.new all.all) { top = Call (place_by_number (pos number) all.all) [] ∷ [] } in
      let reads =
      reads_then is.symbols (plain_call number ∷ []) nothing_yet (behind_symbols all.new all.all) last all.reads
      (top_read number all.new all.all (omega arith) (numbered_there all.all numbered (symbol_place order cell) found)) in
      let read = whole_read is.symbols (plain_call number) text last is.is reads refl refl in (
        parts_of last,
        record {
          order = order;
          is_order = is.is_order;
          layers = (cif-lawful text (parts_of last) read).layers;
          so_many = all.are.so_many;
          each = all.are.each;
          top =
              ap (λ (target : ℕ). Call target [] ∷ []) (numbered_place all.all numbered (symbol_place order cell) found);
        },
        read,
      )
