-- What is read of the parts and the uses of a cell, one after another.
use Rattle.file_laws.proofs.Common.{◌≡◌, ◌≤◌, ◌+◌, ℕ, suc, pos, true, List, [], ◌∷◌, ◌++◌, length, map, Option, Some, None, refl, sym, subst}
use Rattle.file_laws.proofs.Common.{append_assoc, append-nil, arith, inl, inr, In, Rect, Transform, IsStrips, RawTech, UseBody, HullIs, Layout}
use Rattle.file_laws.proofs.Common.{LibraryView, CifItem, Area, Call, CifSymbol, placing, part_name, HoldsPart, AreRuns, elements_of_use}
use Rattle.file_laws.proofs.Common.{AreUseItems, IsPartBoxes, symbol_place, use_items}
use Rattle.cif_reading.specs.Drafts.{has_symbol, symbol_place as place_by_number}
use Rattle.cif_writing.specs.Commands.{call_command}
use Rattle.cif_writing.specs.Symbols.{IsPart, IsUse, symbol_number, use_calls}
use Rattle.file_laws.proofs.HalfNumbers.{IsNear, IsNearBox, near_edge}
use Rattle.file_laws.proofs.ReadCalls.{call_read}
use Rattle.file_laws.proofs.ReadCommands.{in_symbol}
use Rattle.file_laws.proofs.ReadLines.{Reads, reads_none, reads_then}
use Rattle.file_laws.proofs.ReadParts.{KeepsLayers, part_read}

-- nothing more among the items
reads_no_items : (number : ℕ) (layer : Option (List ℕ)) (layers : List (List ℕ)) (symbols : List CifSymbol) (items : List CifItem) (lines : List (List ℕ))
    → lines ≡ [] → Reads lines (in_symbol number layer layers symbols items) (in_symbol number layer layers symbols (items ++ []))
reads_no_items number layer layers symbols items lines none =
    let old = in_symbol number layer layers symbols items in
    subst (λ (l : List (List ℕ)). Reads l old (in_symbol number layer layers symbols (items ++ []))) (sym none)
    (subst (λ (all : List CifItem). Reads [] old (in_symbol number layer layers symbols all)) (sym (append-nil items)) (reads_none old))

-- some lines and more lines, and the items of both
reads_both : (number : ℕ) (layer next last : Option (List ℕ)) (layers middle new : List (List ℕ)) (symbols : List CifSymbol)
    (items some more : List CifItem) (lines first rest : List (List ℕ)) → lines ≡ first ++ rest
    → Reads first (in_symbol number layer layers symbols items) (in_symbol number next middle symbols (items ++ some))
    → Reads rest (in_symbol number next middle symbols (items ++ some)) (in_symbol number last new symbols ((items ++ some) ++ more))
    → Reads lines (in_symbol number layer layers symbols items) (in_symbol number last new symbols (items ++ (some ++ more)))
reads_both number layer next last layers middle new symbols items some more lines first rest are one other =
    let old = in_symbol number layer layers symbols items in
    subst (λ (l : List (List ℕ)). Reads l old (in_symbol number last new symbols (items ++ (some ++ more)))) (sym are)
    (subst (λ (all : List CifItem). Reads (first ++ rest) old (in_symbol number last new symbols all)) (append_assoc items some more)
    (reads_then first rest old (in_symbol number next middle symbols (items ++ some)) (in_symbol number last new symbols ((items ++ some) ++ more))
    one other))

-- ---- parts

module _ (raw : RawTech) (own : Layout) (near : (part : ℕ) (areas : List Rect) → IsStrips (HoldsPart raw own part) areas → (area : Rect) → In area areas
    → IsNearBox area) (number : ℕ) (symbols : List CifSymbol) where
  -- The lines of parts are read as their boxes, whose layers stand among the layers then.
  pub record ReadsParts (k : ℕ) (parts : List ℕ) (lines : List (List ℕ)) (layer : Option (List ℕ)) (layers : List (List ℕ)) (items : List CifItem)
      : Type 0 where
    pub last : Option (List ℕ)
    pub new : List (List ℕ)
    pub more : List CifItem
    pub kept : KeepsLayers layers new
    pub are : AreRuns (IsPartBoxes new raw own) k parts more
    pub reads : Reads lines (in_symbol number layer layers symbols items) (in_symbol number last new symbols (items ++ more))

  -- they are, one part after another
  pub parts_read : (k : ℕ) (parts : List ℕ) (lines : List (List ℕ)) → AreRuns (IsPart raw own) k parts lines → k + length parts ≤ 1000
      → (layer : Option (List ℕ)) (layers : List (List ℕ)) (items : List CifItem) → ReadsParts k parts lines layer layers items
  parts_read k [] lines none few layer layers items = record {
    last = layer;
    new = layers;
    more = [];
    kept = λ j name at. at;
    are = refl;
    reads = reads_no_items number layer layers symbols items lines none;
  }
  parts_read k (part ∷ parts) lines (first, rest, are, (areas, strips, is), later) few layer layers items =
      let one = part_read k areas (omega arith) (near part areas strips) number layer layers symbols items in
      let boxes = map (Area one.place) areas in
      let others = parts_read (suc k) parts rest later (omega arith) one.last one.new (items ++ boxes) in
      record {
        last = others.last;
        new = others.new;
        more = boxes ++ others.more;
        kept = λ j name at. others.kept j name (one.kept j name at);
        are = (boxes, others.more, refl, (areas, one.place, strips, (λ some. others.kept one.place (part_name k) (one.named some)), refl), others.are);
        reads =
            reads_both number layer one.last others.last layers one.new others.new symbols items boxes others.more lines first rest are
            (subst (λ (l : List (List ℕ)). Reads l (in_symbol number layer layers symbols items) (in_symbol number one.last one.new symbols (items ++ boxes)))
            (sym is) one.reads) others.reads;
      }

-- ---- uses

-- calls of one symbol for elements that are not displaced far
calls_read : (target : ℕ) (elements : List Transform) → target ≤ near_edge
    → ((element : Transform) → In element elements → IsNear element.dx × IsNear element.dy) → (number : ℕ) (layer : Option (List ℕ))
    (layers : List (List ℕ)) (symbols : List CifSymbol) (items : List CifItem) → has_symbol (pos target) symbols ≡ true
    → Reads (map (call_command target) elements) (in_symbol number layer layers symbols items)
    (in_symbol number layer layers symbols (items ++ map (λ (element : Transform). Call (place_by_number (pos target) symbols) (placing element)) elements))
calls_read target [] few near number layer layers symbols items there = reads_no_items number layer layers symbols items [] refl
calls_read target (element ∷ elements) few near number layer layers symbols items there =
    let call : Transform → CifItem = λ one. Call (place_by_number (pos target) symbols) (placing one) in
    let here = near element (inl refl) in
    reads_both number layer layer layer layers layers layers symbols items (call element ∷ []) (map call elements)
    (map (call_command target) (element ∷ elements)) (call_command target element ∷ []) (map (call_command target) elements) refl
    (call_read element here.0 here.1 target number layer layers symbols items few there)
    (calls_read target elements few (λ other among. near other (inr among)) number layer layers symbols (items ++ call element ∷ []) there)

module _ (view : LibraryView) (order : List ℕ) (symbols : List CifSymbol) where
  -- The symbol of a use's child is found among the symbols, and its elements are not displaced far if the child has a hull.
  pub record IsReady (used : UseBody) : Type 0 where
    pub few : symbol_number order used.child.0 ≤ near_edge
    pub there : has_symbol (pos (symbol_number order used.child.0)) symbols ≡ true
    pub place : place_by_number (pos (symbol_number order used.child.0)) symbols ≡ symbol_place order used.child.0
    pub near : (hull : Rect) → HullIs view used.child.0 (Some hull) → (element : Transform) → In element (elements_of_use used)
        → IsNear element.dx × IsNear element.dy

  -- The lines of uses are read as their calls.
  pub record ReadsUses (k number : ℕ) (uses : List (List ℕ × UseBody)) (lines : List (List ℕ)) (layer : Option (List ℕ)) (layers : List (List ℕ))
      (items : List CifItem) : Type 0 where
    pub more : List CifItem
    pub are : AreRuns (λ at entry. AreUseItems view order entry.1) k uses more
    pub reads : Reads lines (in_symbol number layer layers symbols items) (in_symbol number layer layers symbols (items ++ more))

  use_read : (used : UseBody) → IsReady used → (hull : Option Rect) → HullIs view used.child.0 hull → (number : ℕ) (layer : Option (List ℕ))
      (layers : List (List ℕ)) (items : List CifItem)
      → Reads (use_calls (symbol_number order used.child.0) used hull) (in_symbol number layer layers symbols items)
      (in_symbol number layer layers symbols (items ++ use_items (symbol_place order used.child.0) used hull))
  use_read used ready None is number layer layers items = reads_no_items number layer layers symbols items [] refl
  use_read used ready (Some hull) is number layer layers items =
      let target = symbol_number order used.child.0 in
      subst (λ (at : ℕ). Reads (use_calls target used (Some hull)) (in_symbol number layer layers symbols items)
      (in_symbol number layer layers symbols (items ++ use_items at used (Some hull)))) ready.place
      (calls_read target (elements_of_use used) ready.few (ready.near hull is) number layer layers symbols items ready.there)

  -- they are, one use after another
  pub uses_read : (k number : ℕ) (uses : List (List ℕ × UseBody)) (lines : List (List ℕ)) → AreRuns (λ at entry. IsUse view order entry.1) k uses lines
      → ((entry : List ℕ × UseBody) → In entry uses → IsReady entry.1) → (layer : Option (List ℕ)) (layers : List (List ℕ)) (items : List CifItem)
      → ReadsUses k number uses lines layer layers items
  uses_read k number [] lines none ready layer layers items =
      record { more = []; are = refl; reads = reads_no_items number layer layers symbols items lines none }
  uses_read k number (entry ∷ uses) lines (first, rest, are, (hull, has, is), later) ready layer layers items =
      let calls = use_items (symbol_place order entry.1.child.0) entry.1 hull in
      let others = uses_read (suc k) number uses rest later (λ other among. ready other (inr among)) layer layers (items ++ calls) in
      record {
        more = calls ++ others.more;
        are = (calls, others.more, refl, (hull, has, refl), others.are);
        reads =
            reads_both number layer layer layer layers layers layers symbols items calls others.more lines first rest are
            (subst (λ (l : List (List ℕ)). Reads l (in_symbol number layer layers symbols items) (in_symbol number layer layers symbols (items ++ calls)))
            (sym is) (use_read entry.1 (ready entry (inl refl)) hull has number layer layers items)) others.reads;
      }
