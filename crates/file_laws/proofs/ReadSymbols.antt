-- What is read of a symbol: its start and its name, its parts, its uses, and its end.
use Rattle.file_laws.proofs.Common.{◌≡◌, ◌≤◌, ◌+◌, ℕ, suc, pos, true, false, List, [], ◌∷◌, ◌++◌, length, None, refl, sym, subst, In, is_plain_name}
use Rattle.file_laws.proofs.Common.{Rect, IsStrips, UseBody, LibraryView, view_at, CifSymbol, finish_command, name_command, start_command, HoldsPart}
use Rattle.file_laws.proofs.Common.{part_sets, IsSymbol, IsCellSymbol, symbol_place}
use Rattle.cif_reading.specs.Drafts.{has_symbol}
use Rattle.file_laws.proofs.HalfNumbers.{IsNearBox, near_edge}
use Rattle.file_laws.proofs.ReadCommands.{behind_symbols, finish_read, in_symbol, name_read, start_read}
use Rattle.file_laws.proofs.ReadLines.{Reads, reads_then}
use Rattle.file_laws.proofs.ReadParts.{KeepsLayers}
use Rattle.file_laws.proofs.ReadRuns.{IsReady, parts_read, uses_read}

-- The lines of a symbol are read as one symbol more.
pub record ReadsSymbol (view : LibraryView) (order : List ℕ) (cell : ℕ) (lines : List (List ℕ)) (layers : List (List ℕ)) (symbols : List CifSymbol)
    : Type 0 where
  pub new : List (List ℕ)
  pub symbol : CifSymbol
  pub kept : KeepsLayers layers new
  pub is : IsCellSymbol new view order cell symbol
  pub reads : Reads lines (behind_symbols layers symbols) (behind_symbols new (symbols ++ symbol ∷ []))

-- What is known of a cell whose symbol is read.
pub record CanBeRead (view : LibraryView) (order : List ℕ) (cell : ℕ) (symbols : List CifSymbol) : Type 0 where
  pub few_parts : 1 + length (part_sets view.tech) ≤ 1000
  pub few_symbols : suc (symbol_place order cell) ≤ near_edge
  pub plain : is_plain_name (view_at view cell).name ≡ true
  pub near : (part : ℕ) (areas : List Rect) → IsStrips (HoldsPart view.tech (view_at view cell).own part) areas → (area : Rect) → In area areas
      → IsNearBox area
  pub new : has_symbol (pos (suc (symbol_place order cell))) symbols ≡ false
  pub ready : (entry : List ℕ × UseBody) → In entry (view_at view cell).uses → IsReady view order symbols entry.1

-- It is, from its start to its end.
pub symbol_read : (view : LibraryView) (order : List ℕ) (cell : ℕ) (lines : List (List ℕ)) (layers : List (List ℕ)) (symbols : List CifSymbol)
    → IsSymbol view order (suc (symbol_place order cell)) cell lines → CanBeRead view order cell symbols
    → ReadsSymbol view order cell lines layers symbols
symbol_read view order cell lines layers symbols is can =
    let number = suc (symbol_place order cell) in
    let body = view_at view cell in
    let parts = parts_read view.tech body.own can.near number symbols 1 (part_sets view.tech) is.parts is.are_parts can.few_parts None layers [] in
    let uses = uses_read view order symbols 1 number body.uses is.calls is.are_calls can.ready parts.last parts.new parts.more in
    let items = parts.more ++ uses.more in
    let symbol : CifSymbol = record { number = pos number; items = items } in
    let begun = in_symbol number None layers symbols [] in
    let boxes = in_symbol number parts.last parts.new symbols parts.more in
    let calls = in_symbol number parts.last parts.new symbols items in
    let last = behind_symbols parts.new (symbols ++ symbol ∷ []) in
    record {
      new = parts.new;
      symbol = symbol;
      kept = parts.kept;
      is = record {
        number = refl;
        boxes = parts.more;
        are_boxes = parts.are;
        calls = uses.more;
        are_calls = uses.are;
        items = refl;
      };
      reads =
          subst (λ (l : List (List ℕ)). Reads l (behind_symbols layers symbols) last) (sym is.is)
          (reads_then (start_command number ∷ []) (name_command body.name ∷ (is.parts ++ (is.calls ++ finish_command ∷ [])))
          (behind_symbols layers symbols) begun last (start_read number layers symbols can.few_symbols can.new)
          (reads_then (name_command body.name ∷ []) (is.parts ++ (is.calls ++ finish_command ∷ [])) begun begun last
          (name_read body.name number None layers symbols [] can.plain)
          (reads_then is.parts (is.calls ++ finish_command ∷ []) begun boxes last parts.reads
          (reads_then is.calls (finish_command ∷ []) boxes calls last uses.reads
          (finish_read number parts.last parts.new symbols items)))));
    }
