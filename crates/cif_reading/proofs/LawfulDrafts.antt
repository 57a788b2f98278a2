-- Each command keeps what was read lawful.
use Rattle.cif_reading.proofs.Common.{◌≡◌, ℕ, ℤ, Bool, true, false, List, [], ◌∷◌, ◌++◌, length, sym, ap, subst, ◌∙◌, if◌then◌else◌, arith, ints}
use Rattle.cif_reading.proofs.Common.{says, SaidMove, CifSymbol, CifFault, Draft, nothing_yet, fault_in, is_factor, takes, with_layer}
use Rattle.std.proofs.Common.{◌≤◌, not, ◌||◌, ◌&&◌, inl, inr, Option, Some}
use Rattle.std.proofs.Common.{None, Ok, refl}
use Rattle.std.specs.Prelude.{All, is_some, slice_get}
use Rattle.std.proofs.lemmas.List.{length_push}
use Rattle.std.proofs.lemmas.List.Elements.{All-nil, All-push, All-same, All-weaker}
use Rattle.finite_sets.proofs.Places.{slice_get-push_cases}
use Rattle.text_form.proofs.PartLaws.{first_faulty_part_or-keeps}
use Rattle.geo_core.specs.declared.squares.Rect.{Rect}
use Rattle.name_index.proofs.Keys.{still_distinct}
use Rattle.cif_forms.specs.Cutting.{commands_of, line_of_command, step_on}
use Rattle.cif_forms.specs.declared.commands.CifCommand.{CifCommand}
use Rattle.cif_forms.specs.declared.commands.CifCommand.TheVariants.{Empty, ReadOver, End, LeftOut as SaidLeftOut, Other, Layer, Start, Finish}
use Rattle.cif_forms.specs.declared.commands.CifCommand.TheVariants.{Area as SaidArea, Call as SaidCall}
use Rattle.cif_model.specs.Cifs.{CifParts, HasScaledEdges, IsLawfulCif, IsLawfulItem}
use Rattle.cif_model.specs.declared.cifs.CifItem.{CifItem}
use Rattle.cif_model.specs.declared.cifs.CifItem.TheVariants.{Area, Call}
use Rattle.cif_reading.specs.declared.drafts.Opened.{Opened}
use Rattle.cif_reading.specs.declared.faults.CifFault.TheVariants.{Form, LeftOut, NoSymbol, SymbolTwice, Range}
use Rattle.cif_reading.specs.Scales.{IsScale}
use Rattle.cif_reading.specs.Boxes.{area_is_in_range, area_said, has_short_side, is_in_range}
use Rattle.cif_reading.specs.SaidSteps.{call_is_in_range}
use Rattle.cif_reading.specs.Drafts.{IsLawfulOpened, has_symbol, layer_place, scale_of}
use Rattle.cif_reading.specs.Faults.{area_faults, call_faults, faults_there, first_fault, lacks_semicolon, start_faults}
use Rattle.cif_reading.specs.Faults.{uses_what_is_left_out}
use Rattle.cif_reading.specs.Additions.{call_said, with_area, with_finish, with_item, with_start}
use Rattle.cif_reading.specs.steps.LawfulDrafts.{IsLawfulDraft}
use Rattle.cif_reading.specs.CifTexts.{cif_in, parts_of, read_of, step, unless}
use Rattle.cif_reading.proofs.NumberLaws.{edges-scaled, moves-lawful, scale_of_factors}
use Rattle.cif_reading.proofs.PlaceLaws.{layer_place-within, layers-more, symbol_place-within}
use Rattle.cif_reading.proofs.RefusedTexts.{cif_in-read}

-- ---- what a command without fault has

passed : (test : Bool) (fault : CifFault) (next : Option CifFault) → (if test then Some fault else next) ≡ None → (test ≡ false) × (next ≡ None)
passed true fault next e = absurd (cc)
passed false fault next e = (refl, e)

true_of_not : (test : Bool) → not test ≡ false → test ≡ true
true_of_not true e = refl
true_of_not false e = absurd (cc)

right_false : (a b : Bool) → (a || b) ≡ false → b ≡ false
right_false true b e = absurd (cc)
right_false false b e = e

-- ---- more layers and more symbols

item-more : (layers symbols more_layers more_symbols : ℕ) → layers ≤ more_layers → symbols ≤ more_symbols → (item : CifItem)
    → IsLawfulItem layers symbols item → IsLawfulItem more_layers more_symbols item
item-more layers symbols more_layers more_symbols p q (Area layer area) is = (let below = is.0 in omega arith, is.1)
item-more layers symbols more_layers more_symbols p q (Call symbol moves) is = (let below = is.0 in omega arith, is.1)

items-more : (layers symbols more_layers more_symbols : ℕ) → layers ≤ more_layers → symbols ≤ more_symbols → (items : List CifItem)
    → All (IsLawfulItem layers symbols) items → All (IsLawfulItem more_layers more_symbols) items
items-more layers symbols more_layers more_symbols p q items all =
    All-weaker (IsLawfulItem layers symbols) (IsLawfulItem more_layers more_symbols)
    (λ item is. item-more layers symbols more_layers more_symbols p q item is) items all

-- ---- what a command adds

with_item-lawful : (draft : Draft) (item : CifItem) → IsLawfulDraft draft → IsLawfulItem (length draft.layers) (length draft.symbols) item
    → IsLawfulDraft (with_item draft item)
with_item-lawful draft item lawful is = step (is_some draft.opened)
  where
    step : (test : Bool)
        → IsLawfulDraft (if test then record draft { items = draft.items ++ item ∷ [] } else record draft { top = draft.top ++ item ∷ [] })
    step true = record {
      layers = lawful.layers;
      symbols = lawful.symbols;
      items = All-push (IsLawfulItem (length draft.layers) (length draft.symbols)) draft.items item lawful.items is;
      top = lawful.top;
      opened = lawful.opened;
    }
    step false = record {
      layers = lawful.layers;
      symbols = lawful.symbols;
      items = lawful.items;
      top = All-push (IsLawfulItem (length draft.layers) (length draft.symbols)) draft.top item lawful.top is;
      opened = lawful.opened;
    }

with_layer-lawful : (draft : Draft) (name : List ℕ) → IsLawfulDraft draft → IsLawfulDraft (record draft { layers = with_layer name draft.layers })
with_layer-lawful draft name lawful =
    let fewer = length draft.layers in
    let layers = length (with_layer name draft.layers) in
    let symbols = length draft.symbols in
    let more = layers-more name draft.layers in
    record {
      layers = still_distinct name draft.layers lawful.layers;
      symbols = λ place symbol at. items-more fewer place layers place more (omega arith) symbol.items (lawful.symbols place symbol at);
      items = items-more fewer symbols layers symbols more (omega arith) draft.items lawful.items;
      top = items-more fewer symbols layers symbols more (omega arith) draft.top lawful.top;
      opened = lawful.opened;
    }

with_area-lawful : (layer : Option (List ℕ)) (draft : Draft) (area : Rect) → IsLawfulDraft draft → HasScaledEdges area
    → IsLawfulDraft (with_area layer draft area)
with_area-lawful None draft area lawful near = lawful
with_area-lawful (Some name) draft area lawful near =
    with_item-lawful (record draft { layers = with_layer name draft.layers }) (Area (layer_place name draft.layers) area)
    (with_layer-lawful draft name lawful) (layer_place-within name draft.layers, near)

scale-lawful : (symbols : List CifSymbol) (opened : Option Opened) → IsLawfulOpened symbols opened → IsScale (scale_of opened)
scale-lawful symbols None is = record { up = omega arith; down = omega (arith, ints); down_limit = omega (arith, ints) }
scale-lawful symbols (Some opened) is = is.0

area-lawful : (draft : Draft) (l w x y : ℤ) → IsLawfulDraft draft → first_fault (area_faults draft l w x y) ≡ None
    → IsLawfulDraft (with_area draft.layer draft (area_said (scale_of draft.opened) l w x y))
area-lawful draft l w x y lawful e =
    let form = passed (has_short_side l w) Form _ e in
    let range = passed (not (area_is_in_range l w x y)) Range _ form.1 in
    let scale = scale_of draft.opened in
    with_area-lawful draft.layer draft (area_said scale l w x y) lawful
    (edges-scaled scale (scale-lawful draft.symbols draft.opened lawful.opened) l w x y (true_of_not (area_is_in_range l w x y) range.0))

call-lawful : (draft : Draft) (n : ℤ) (moves : List SaidMove) (more : Bool) → IsLawfulDraft draft
    → first_fault (call_faults draft n moves more) ≡ None
    → IsLawfulDraft (with_item draft (call_said draft n moves))
call-lawful draft n moves more lawful e =
    let form = passed more Form _ e in
    let range = passed (not (call_is_in_range n moves)) Range _ form.1 in
    let there = passed (not (has_symbol n draft.symbols)) NoSymbol _ range.1 in
    let scale = scale_of draft.opened in
    with_item-lawful draft (call_said draft n moves) lawful (
      symbol_place-within n draft.symbols (true_of_not (has_symbol n draft.symbols) there.0),
      moves-lawful scale (scale-lawful draft.symbols draft.opened lawful.opened) n moves (true_of_not (call_is_in_range n moves) range.0),
    )

start-lawful : (draft : Draft) (n a b : ℤ) → IsLawfulDraft draft → first_fault (start_faults draft n a b) ≡ None
    → IsLawfulDraft (with_start draft n a b)
start-lawful draft n a b lawful e =
    let form = passed (is_some draft.opened || not (is_factor a && is_factor b)) Form _ e in
    let range = passed (not (is_in_range n)) Range _ form.1 in
    let new = passed (has_symbol n draft.symbols) SymbolTwice _ range.1 in
    let factors = true_of_not (is_factor a && is_factor b) (right_false (is_some draft.opened) (not (is_factor a && is_factor b)) form.0) in
    record {
      layers = lawful.layers;
      symbols = lawful.symbols;
      items = All-nil (IsLawfulItem (length draft.layers) (length draft.symbols));
      top = lawful.top;
      opened = (scale_of_factors a b factors, new.0);
    }

-- the symbol that ends calls those before it alone
finished-symbol : (draft : Draft) (last : CifSymbol) → IsLawfulDraft draft → last.items ≡ draft.items → (place : ℕ) (symbol : CifSymbol)
    → slice_get (draft.symbols ++ last ∷ []) place ≡ Some symbol → All (IsLawfulItem (length draft.layers) place) symbol.items
finished-symbol draft last lawful items place symbol at =
    elim (slice_get-push_cases draft.symbols last symbol place at) [
      | inl before ↦ lawful.symbols place symbol before
      | inr here ↦
          let layers = length draft.layers in
          let same : symbol.items ≡ draft.items = sym (ap (λ (other : CifSymbol). other.items) here.1) ∙ items in
          subst (λ (k : ℕ). All (IsLawfulItem layers k) symbol.items) (sym here.0)
          (All-same (IsLawfulItem layers (length draft.symbols)) symbol.items draft.items same lawful.items)
    ]

finish-lawful : (opened : Option Opened) (draft : Draft) → IsLawfulDraft draft → IsLawfulDraft (with_finish opened draft)
finish-lawful None draft lawful = lawful
finish-lawful (Some opened) draft lawful =
    let layers = length draft.layers in
    let symbols = length draft.symbols in
    let last : CifSymbol = record { number = opened.number; items = draft.items } in
    let more = length_push draft.symbols last in
    record {
      layers = lawful.layers;
      symbols = finished-symbol draft last lawful refl;
      items = All-nil (IsLawfulItem layers (length (draft.symbols ++ last ∷ [])));
      top = items-more layers symbols layers (length (draft.symbols ++ last ∷ [])) (omega arith) (omega arith) draft.top lawful.top;
      opened = tt;
    }

-- what a command without fault adds
takes-lawful : (draft : Draft) (command : CifCommand) → IsLawfulDraft draft → first_fault (faults_there draft command) ≡ None
    → IsLawfulDraft (takes draft command)
takes-lawful draft Empty lawful e = lawful
takes-lawful draft ReadOver lawful e = lawful
takes-lawful draft SaidLeftOut lawful e = lawful
takes-lawful draft Other lawful e = lawful
takes-lawful draft End lawful e =
    record { layers = lawful.layers; symbols = lawful.symbols; items = lawful.items; top = lawful.top; opened = lawful.opened }
takes-lawful draft (Layer name) lawful e =
    record { layers = lawful.layers; symbols = lawful.symbols; items = lawful.items; top = lawful.top; opened = lawful.opened }
takes-lawful draft (Start n a b) lawful e = start-lawful draft n a b lawful e
takes-lawful draft Finish lawful e = finish-lawful draft.opened draft lawful
takes-lawful draft (SaidArea l w x y direction) lawful e = area-lawful draft l w x y lawful e
takes-lawful draft (SaidCall n moves more) lawful e = call-lawful draft n moves more lawful e

-- ---- texts

fine-there : (draft : Draft) (closed : Bool) (command : CifCommand) → fault_in draft closed command ≡ None
    → first_fault (faults_there draft command) ≡ None
fine-there draft closed command e =
    let first = passed (uses_what_is_left_out command) LeftOut _ e in
    (passed (lacks_semicolon closed command) Form (first_fault (faults_there draft command)) first.1).1

step-lawful : (draft : Draft) (bytes : List ℕ) (closed : Bool) (next : Draft) → IsLawfulDraft draft → step draft bytes closed ≡ Ok next
    → IsLawfulDraft next
step-lawful draft bytes closed next lawful e = cases draft.ended (fault_in draft closed (says bytes)) refl e
  where
    cases : (ended : Bool) (found : Option CifFault) → fault_in draft closed (says bytes) ≡ found
        → (if ended then Ok draft else unless found (takes draft (says bytes))) ≡ Ok next → IsLawfulDraft next
    cases true found is go = let same : draft ≡ next = cc in subst IsLawfulDraft same lawful
    cases false None is go =
        let same : takes draft (says bytes) ≡ next = cc in
        subst IsLawfulDraft same (takes-lawful draft (says bytes) lawful (fine-there draft closed (says bytes) is))
    cases false (Some fault) is go = absurd (cc)

nothing_yet-lawful : IsLawfulDraft nothing_yet
nothing_yet-lawful = record {
  layers = tt;
  symbols = λ place symbol at. absurd (cc);
  items = All-nil (IsLawfulItem 0 0);
  top = All-nil (IsLawfulItem 0 0);
  opened = tt;
}

-- what is read of a text is lawful
pub read-lawful : (text : List ℕ) (draft : Draft) → read_of text ≡ Ok draft → IsLawfulDraft draft
read-lawful text draft e =
    first_faulty_part_or-keeps IsLawfulDraft line_of_command (step_on step)
    (λ state command next lawful go. step-lawful state command.bytes command.closed next lawful go) nothing_yet (commands_of text) draft
    nothing_yet-lawful e

-- and so is what it says
pub parts-lawful : (text : List ℕ) (draft : Draft) → read_of text ≡ Ok draft → IsLawfulCif (parts_of draft)
parts-lawful text draft e =
    let lawful = read-lawful text draft e in
    record { layers = lawful.layers; symbols = lawful.symbols; top = lawful.top }

pub cif-lawful : (text : List ℕ) (cif : CifParts) → cif_in text ≡ Ok cif → IsLawfulCif cif
cif-lawful text cif e =
    let is = (cif_in-read text cif).0 e in
    subst IsLawfulCif is.said (parts-lawful text is.draft is.fine)
