-- What a command without fault adds to what was read.
use Rattle.std.specs.Prelude.{ℕ, ℤ, true, if◌then◌else◌, is_some, List, [], ◌∷◌, ◌++◌, map, Option, Some, None}
use Rattle.std.specs.List.{list_any}
use Rattle.std.specs.Str.{bytes_eq}
use Rattle.geo_core.specs.declared.squares.Rect.{Rect}
use Rattle.cif_forms.specs.declared.commands.CifCommand.{CifCommand}
use Rattle.cif_forms.specs.declared.commands.CifCommand.TheVariants.{End, Layer, Start, Finish, Area as SaidArea, Call as SaidCall}
use Rattle.cif_forms.specs.declared.commands.SaidMove.{SaidMove}
use Rattle.cif_model.specs.declared.cifs.CifItem.{CifItem}
use Rattle.cif_model.specs.declared.cifs.CifItem.TheVariants.{Area, Call}
use Rattle.cif_reading.specs.declared.drafts.Opened.{Opened}
use Rattle.cif_reading.specs.Boxes.{area_said}
use Rattle.cif_reading.specs.SaidSteps.{move_said}
use Rattle.cif_reading.specs.Drafts.{Draft, layer_place, scale_of, symbol_place}

-- the layers with this one, which is put at their end if it is new
abbrev pub with_layer : List ℕ → List (List ℕ) → List (List ℕ)
with_layer name layers = if list_any (bytes_eq name) layers then layers else layers ++ name ∷ []

-- one more box or call, of the symbol that is being defined or of the top level
abbrev pub with_item : Draft → CifItem → Draft
with_item draft item =
    if is_some draft.opened then record draft { items = draft.items ++ item ∷ [] } else record draft { top = draft.top ++ item ∷ [] }

-- one more box, of this layer
abbrev pub with_area : Option (List ℕ) → Draft → Rect → Draft
with_area None draft area = draft
with_area (Some name) draft area =
    with_item (record draft { layers = with_layer name draft.layers }) (Area (layer_place name draft.layers) area)

-- a call of the symbol of this number, the steps scaled
abbrev pub call_said : Draft → ℤ → List SaidMove → CifItem
call_said draft n moves = Call (symbol_place n draft.symbols) (map (move_said (scale_of draft.opened)) moves)

-- a symbol begins, without a layer
abbrev pub with_start : Draft → ℤ → ℤ → ℤ → Draft
with_start draft n a b =
    record draft { layer = None; opened = Some (record { number = n; scale = record { up = a; down = b }; before = draft.layer }); items = [] }

-- the symbol ends, and the layer is again what it was before it
abbrev pub with_finish : Option Opened → Draft → Draft
with_finish None draft = draft
with_finish (Some opened) draft =
    record draft {
      layer = opened.before;
      opened = None;
      items = [];
      symbols = draft.symbols ++ (record { number = opened.number; items = draft.items }) ∷ [];
    }

abbrev pub takes : Draft → CifCommand → Draft
takes draft (Layer name) = record draft { layer = name }
takes draft (Start n a b) = with_start draft n a b
takes draft Finish = with_finish draft.opened draft
takes draft End = record draft { ended = true }
takes draft (SaidArea l w x y direction) = with_area draft.layer draft (area_said (scale_of draft.opened) l w x y)
takes draft (SaidCall n moves more) = with_item draft (call_said draft n moves)
takes draft command = draft
