-- What is read of single commands of a symbol.
use Rattle.file_laws.proofs.Common.{◌≡◌, ◌≤◌, ◌<◌, ℕ, pos, Bool, true, false, not, List, [], ◌∷◌, ◌++◌, map, Option, Some, None, refl, ap, subst}
use Rattle.file_laws.proofs.Common.{◌∙◌, arith, codes, if◌then◌else◌, decimal, is_plain_name, line_of, Rect, CifItem, Area, CifSymbol, CifFault}
use Rattle.file_laws.proofs.Common.{Draft, layer_place, with_layer, start_command, name_command, layer_command, box_command, finish_command}
use Rattle.file_laws.proofs.Common.{part_name}
use Rattle.cif_forms.specs.declared.commands.CifCommand.TheVariants.{Layer, ReadOver, Start, Finish, Area as SaidArea}
use Rattle.cif_forms.proofs.WrittenLaws.{is_layer_name-part, says-area, says-finish, says-layer, says-name, says-start}
use Rattle.cif_forms.proofs.WrittenLaws.{unmarked-layer, unmarked-name, unmarked-numbers}
use Rattle.cif_reading.specs.declared.faults.CifFault.TheVariants.{Form, SymbolTwice, NotWhole, Range, NoLayer}
use Rattle.cif_reading.specs.Boxes.{area_is_in_range, area_is_whole, has_short_side, is_in_range}
use Rattle.cif_reading.specs.Drafts.{has_symbol}
use Rattle.cif_reading.specs.Faults.{fault_in, first_fault, lacks_semicolon, uses_what_is_left_out}
use Rattle.file_laws.proofs.HalfNumbers.{half, count_fits, fits_in_range, way_fits, sum_fits, IsNearBox, box_length, box_width, box_x, box_y, near_edge}
use Rattle.file_laws.proofs.HalfNumbers.{box_read, box_whole, box_long, box_in_range}
use Rattle.file_laws.proofs.ReadLines.{Reads, reads_one}

-- what was read where no symbol is being defined, and the top level has nothing yet
abbrev pub behind_symbols : List (List ℕ) → List CifSymbol → Draft
behind_symbols layers symbols =
    record { layer = None; opened = None; items = []; layers = layers; symbols = symbols; top = []; ended = false }

-- what was read within a symbol of this number
abbrev pub in_symbol : ℕ → Option (List ℕ) → List (List ℕ) → List CifSymbol → List CifItem → Draft
in_symbol number layer layers symbols items = record {
  layer = layer;
  opened = Some (record { number = pos number; scale = half; before = None });
  items = items;
  layers = layers;
  symbols = symbols;
  top = [];
  ended = false;
}

-- a fault that is not there is passed over
pub passes : (test : Bool) (fault : CifFault) (faults : List (Bool × CifFault)) → test ≡ false → first_fault faults ≡ None
    → first_fault ((test, fault) ∷ faults) ≡ None
passes test fault faults is rest = ap (λ (t : Bool). if t then Some fault else first_fault faults) is ∙ rest

-- nor is the opposite of what is so
pub not_so : (test : Bool) → test ≡ true → not test ≡ false
not_so test is = ap not is

-- ---- a symbol begins and ends

start_fine : (n : ℕ) (layers : List (List ℕ)) (symbols : List CifSymbol) → n ≤ near_edge → has_symbol (pos n) symbols ≡ false
    → fault_in (behind_symbols layers symbols) true (Start (pos n) (pos 1) (pos 2)) ≡ None
unfolding uses_what_is_left_out lacks_semicolon
start_fine n layers symbols few new =
    passes (not (is_in_range (pos n))) Range ((has_symbol (pos n) symbols, SymbolTwice) ∷ [])
    (not_so (is_in_range (pos n)) (fits_in_range (pos n) (count_fits n few)))
    (passes (has_symbol (pos n) symbols) SymbolTwice [] new refl)

-- `DS n 1 2` begins symbol n where none has that number
pub start_read : (n : ℕ) (layers : List (List ℕ)) (symbols : List CifSymbol) → n ≤ near_edge → has_symbol (pos n) symbols ≡ false
    → Reads (start_command n ∷ []) (behind_symbols layers symbols) (in_symbol n None layers symbols [])
start_read n layers symbols few new =
    let numbers = pos n ∷ pos 1 ∷ pos 2 ∷ [] in
    let fits = count_fits n few in
    reads_one (line_of (codes "DS" ∷ map decimal numbers)) (Start (pos n) (pos 1) (pos 2)) (behind_symbols layers symbols)
    (unmarked-numbers (codes "DS") numbers refl)
    (says-start (pos n) (pos 1) (pos 2) fits (count_fits 1 (omega arith)) (count_fits 2 (omega arith))) refl
    (start_fine n layers symbols few new)

finish_fine : (n : ℕ) (layer : Option (List ℕ)) (layers : List (List ℕ)) (symbols : List CifSymbol) (items : List CifItem)
    → fault_in (in_symbol n layer layers symbols items) true Finish ≡ None
unfolding uses_what_is_left_out lacks_semicolon
finish_fine n layer layers symbols items = refl

-- `DF` ends it: there is one symbol more
pub finish_read : (n : ℕ) (layer : Option (List ℕ)) (layers : List (List ℕ)) (symbols : List CifSymbol) (items : List CifItem)
    → Reads (finish_command ∷ []) (in_symbol n layer layers symbols items)
    (behind_symbols layers (symbols ++ (record { number = pos n; items = items }) ∷ []))
finish_read n layer layers symbols items =
    reads_one (line_of (codes "DF" ∷ [])) Finish (in_symbol n layer layers symbols items) refl says-finish refl (finish_fine n layer layers symbols items)

-- ---- the name of its cell

name_fine : (n : ℕ) (layer : Option (List ℕ)) (layers : List (List ℕ)) (symbols : List CifSymbol) (items : List CifItem)
    → fault_in (in_symbol n layer layers symbols items) true ReadOver ≡ None
unfolding uses_what_is_left_out lacks_semicolon
name_fine n layer layers symbols items = refl

-- `9 NAME` is read over
pub name_read : (name : List ℕ) (n : ℕ) (layer : Option (List ℕ)) (layers : List (List ℕ)) (symbols : List CifSymbol) (items : List CifItem)
    → is_plain_name name ≡ true
    → Reads (name_command name ∷ []) (in_symbol n layer layers symbols items) (in_symbol n layer layers symbols items)
name_read name n layer layers symbols items plain =
    reads_one (line_of (codes "9" ∷ name ∷ [])) ReadOver (in_symbol n layer layers symbols items) (unmarked-name name plain)
    (says-name name) refl (name_fine n layer layers symbols items)

-- ---- a layer and a box

layer_fine : (k : ℕ) (n : ℕ) (layer : Option (List ℕ)) (layers : List (List ℕ)) (symbols : List CifSymbol) (items : List CifItem)
    → fault_in (in_symbol n layer layers symbols items) true (Layer (Some (part_name k))) ≡ None
unfolding uses_what_is_left_out lacks_semicolon
layer_fine k n layer layers symbols items = refl

-- `L Pk` chooses the layer
pub layer_read : (k n : ℕ) (layer : Option (List ℕ)) (layers : List (List ℕ)) (symbols : List CifSymbol) (items : List CifItem) → k < 1000
    → Reads (layer_command k ∷ []) (in_symbol n layer layers symbols items) (in_symbol n (Some (part_name k)) layers symbols items)
layer_read k n layer layers symbols items few =
    let is = is_layer_name-part k few in
    reads_one (line_of (codes "L" ∷ part_name k ∷ [])) (Layer (Some (part_name k))) (in_symbol n layer layers symbols items)
    (unmarked-layer (part_name k) is) (says-layer (part_name k) is) refl (layer_fine k n layer layers symbols items)

box_fine : (area : Rect) → IsNearBox area → (n : ℕ) (name : List ℕ) (layers : List (List ℕ)) (symbols : List CifSymbol) (items : List CifItem)
    → fault_in (in_symbol n (Some name) layers symbols items) true
    (SaidArea (box_length area) (box_width area) (box_x area) (box_y area) false) ≡ None
unfolding uses_what_is_left_out lacks_semicolon
box_fine area near n name layers symbols items =
    let l = box_length area in
    let w = box_width area in
    let x = box_x area in
    let y = box_y area in
    passes (has_short_side l w) Form
    ((not (area_is_in_range l w x y), Range) ∷ (false, NoLayer) ∷ (not (area_is_whole half l w x y), NotWhole) ∷ [])
    (box_long area near)
    (passes (not (area_is_in_range l w x y)) Range ((false, NoLayer) ∷ (not (area_is_whole half l w x y), NotWhole) ∷ [])
    (not_so (area_is_in_range l w x y) (box_in_range area near))
    (passes (not (area_is_whole half l w x y)) NotWhole [] (not_so (area_is_whole half l w x y) (box_whole area)) refl))

-- `B` adds the box, of the layer that was chosen
pub box_read_in : (area : Rect) → IsNearBox area → (n : ℕ) (name : List ℕ) (layers : List (List ℕ)) (symbols : List CifSymbol) (items : List CifItem)
    → Reads (box_command area ∷ []) (in_symbol n (Some name) layers symbols items)
    (in_symbol n (Some name) (with_layer name layers) symbols (items ++ Area (layer_place name layers) area ∷ []))
box_read_in area near n name layers symbols items =
    let l = box_length area in
    let w = box_width area in
    let x = box_x area in
    let y = box_y area in
    let old = in_symbol n (Some name) layers symbols items in
    let numbers = l ∷ w ∷ x ∷ y ∷ [] in
    subst (λ (box : Rect). Reads (box_command area ∷ []) old
    (in_symbol n (Some name) (with_layer name layers) symbols (items ++ Area (layer_place name layers) box ∷ [])))
    (box_read area)
    (reads_one (line_of (codes "B" ∷ map decimal numbers)) (SaidArea l w x y false) old (unmarked-numbers (codes "B") numbers refl)
    (says-area l w x y (way_fits area.xlo area.xhi near.xlo near.xhi) (way_fits area.ylo area.yhi near.ylo near.yhi)
    (sum_fits area.xlo area.xhi near.xlo near.xhi) (sum_fits area.ylo area.yhi near.ylo near.yhi)) refl (box_fine area near n name layers symbols items))
