-- What a line of the sections `tech`, `planes` and `types` asks for and adds.
--     tech       NAME
--     planes     NAME
--     types      PLANE NAME,ALIAS,..
use Rattle.std.specs.Prelude.{◌==◌, ◌||◌, ◌+◌, ◌^◌, not, nat_le, is_some, if◌then◌else◌, ℕ, List, [], ◌∷◌, ◌++◌, length, Result, Ok, Err}
use Rattle.std.specs.List.{list_any, list_all}
use Rattle.std.specs.Option.{ok_or}
use Rattle.std.specs.Str.{bytes_eq}
use Rattle.text_scan.specs.PlainNames.{is_plain_name}
use Rattle.text_form.specs.SaidLines.{and_then}
use Rattle.tech_model.specs.declared.raw.TypeRec.{TypeRec}
use Rattle.tech_model.specs.declared.raw.LayerRec.{LayerRec}
use Rattle.tech_model.specs.declared.raw.RawTech.{RawTech}
use Rattle.tech_model.specs.declared.faults.TechFault.{TechFault}
use Rattle.tech_model.specs.declared.faults.TechFault.TheVariants.{BadForm, NoPlane, Twice, TooMany}
use Rattle.tech_model.specs.declared.faults.LimitedList.TheVariants.{Planes, Types}
use Rattle.tech_model.specs.declared.limits.TheConstants.{MOST_PLANES, MOST_TYPES}
use Rattle.tech_model.specs.Types.{type_number, layer_number, layer_named}
use Rattle.tech_draft.specs.Drafts.{Drafted}
use Rattle.tech_draft.specs.Words.{has_form, pieces_of}
use Rattle.tech_draft.specs.Lookups.{plane_named}
use Rattle.tech_draft.specs.declared.words.WordForm.TheVariants.{LayerName}

abbrev pub with_name : Drafted → List ℕ → Drafted
with_name draft name = record draft { raw = record draft.raw { name = name } }

-- the technology has one name
abbrev pub new_name : Drafted → List ℕ → Result Drafted TechFault
new_name draft name =
    if not (length draft.raw.name == 0) || not (is_plain_name name) then Err BadForm else Ok (with_name draft name)

unfoldable pub name_line : Drafted → List (List ℕ) → Result Drafted TechFault
name_line draft (name ∷ []) = new_name draft name
name_line draft _ = Err BadForm

abbrev pub with_plane : Drafted → List ℕ → Drafted
with_plane draft name = record draft { raw = record draft.raw { planes = draft.raw.planes ++ name ∷ [] } }

abbrev pub new_plane : Drafted → List ℕ → Result Drafted TechFault
new_plane draft name =
    if not (is_plain_name name) then Err BadForm
    else if list_any (bytes_eq name) draft.raw.planes then Err (Twice name)
    else if nat_le MOST_PLANES (length draft.raw.planes) then Err (TooMany Planes)
    else Ok (with_plane draft name)

unfoldable pub plane_line : Drafted → List (List ℕ) → Result Drafted TechFault
plane_line draft (name ∷ []) = new_plane draft name
plane_line draft _ = Err BadForm

-- none of the names is one that a layer has, or that stands among those before it
abbrev pub new_names : RawTech → List (List ℕ) → List (List ℕ) → Result (Unit {0}) TechFault
new_names raw before [] = Ok tt
new_names raw before (name ∷ names) =
    if is_some (layer_named raw name) || list_any (bytes_eq name) before
    then Err (Twice name)
    else new_names raw (before ++ name ∷ []) names

-- The next type on this plane: the image of a new layer, whose set is the type itself.
abbrev pub atom_on : RawTech → ℕ → TypeRec
atom_on raw plane = record { plane = plane; layer = layer_number (length raw.layers); parts = record { 0 = 2 ^ length raw.types } }

-- the layer with these names and the next type
abbrev pub atom_layer : RawTech → List (List ℕ) → LayerRec
atom_layer raw names = record { names = names; images = type_number (length raw.types + 1) ∷ [] }

abbrev pub with_atom : RawTech → ℕ → List (List ℕ) → RawTech
with_atom raw plane names =
    record raw { types = raw.types ++ atom_on raw plane ∷ []; layers = raw.layers ++ atom_layer raw names ∷ [] }

abbrev pub new_atom : Drafted → List (List ℕ) → ℕ → Result Drafted TechFault
new_atom draft names plane =
    and_then (new_names draft.raw [] names) (λ _.
    if nat_le MOST_TYPES (length draft.raw.types)
    then Err (TooMany Types)
    else Ok (record draft { raw = with_atom draft.raw plane names }))

abbrev pub new_type : Drafted → List ℕ → List (List ℕ) → Result Drafted TechFault
new_type draft plane names =
    if not (is_plain_name plane) || not (list_all (has_form LayerName) names)
    then Err BadForm
    else and_then (ok_or (plane_named draft.raw plane) (NoPlane plane)) (new_atom draft names)

unfoldable pub type_line : Drafted → List (List ℕ) → Result Drafted TechFault
type_line draft (plane ∷ list ∷ []) = new_type draft plane (pieces_of list)
type_line draft _ = Err BadForm
