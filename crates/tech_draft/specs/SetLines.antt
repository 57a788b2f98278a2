-- What a line of the sections `contact` and `compose` asks for and adds.
--     contact    BASE RESIDUE RESIDUE ..
--     compose    compose WHOLE FIRST SECOND
use Rattle.std.specs.Prelude.{◌==◌, ◌&&◌, ◌||◌, ◌+◌, ◌-◌, not, nat_lt, if◌then◌else◌, ℕ, Bool, false, bit_or, List, [], ◌∷◌, ◌++◌}
use Rattle.std.specs.Prelude.{length, map, filter, slice_set, Result, Ok, Err, codes}
use Rattle.std.specs.List.{list_any, list_all, range_with_len}
use Rattle.std.specs.Str.{bytes_eq}
use Rattle.text_form.specs.SaidLines.{and_then}
use Rattle.tech_model.specs.declared.raw.LayerId.{LayerId}
use Rattle.tech_model.specs.declared.raw.TypeId.{TypeId}
use Rattle.tech_model.specs.declared.raw.TypeRec.{TypeRec}
use Rattle.tech_model.specs.declared.raw.RawTech.{RawTech}
use Rattle.tech_model.specs.declared.faults.TechFault.{TechFault}
use Rattle.tech_model.specs.declared.faults.TechFault.TheVariants.{BadForm, Twice, ContactPart, TooMany}
use Rattle.tech_model.specs.declared.faults.LimitedList.TheVariants.{Types}
use Rattle.tech_model.specs.declared.limits.TheConstants.{MOST_TYPES}
use Rattle.tech_model.specs.Types.{type_number, layer_number, type_at, layer_at, plane_of, parts_of}
use Rattle.tech_draft.specs.Drafts.{Drafted}
use Rattle.tech_draft.specs.Words.{has_form}
use Rattle.tech_draft.specs.Lookups.{has_type, type_of_word, plane_of_word, layer_of_word, is_contact}
use Rattle.tech_draft.specs.WordRules.{refuse, check_layers}
use Rattle.tech_draft.specs.declared.words.WordForm.TheVariants.{LayerTerm}
use Rattle.tech_draft.specs.declared.draft.word_rules.WordRule.TheVariants.{Contact, ContactOr}

-- the types, where this one has another set
abbrev pub with_set : RawTech → TypeId → ℕ → List TypeRec
with_set raw t set = slice_set raw.types (t.0 - 1) (record (type_at raw t.0) { parts = record { 0 = set } })

-- ---- contacts

abbrev pub has_number : List ℕ → ℕ → Bool
has_number numbers n = list_any (λ m. m == n) numbers

-- some number stands twice among these and those before them
abbrev pub has_repeat : List ℕ → List ℕ → Bool
has_repeat before [] = false
has_repeat before (n ∷ numbers) = has_number before n || has_repeat (before ++ n ∷ []) numbers

-- two residues stand on one plane, or none stands on the base's plane
unfoldable pub are_misplaced : RawTech → List ℕ → List (List ℕ) → Bool
are_misplaced raw base residues =
    has_repeat [] (map (plane_of_word raw) residues) || not (has_number (map (plane_of_word raw) residues) (plane_of_word raw base))

-- the type is a residue of an earlier contact, or a part of an earlier `compose` line
unfoldable pub is_part : Drafted → TypeId → Bool
is_part draft t = list_any (λ pair. pair.1.0 == t.0) draft.residues || has_type draft.used t

-- the residues on other planes than the base's, in order
abbrev pub other_residues : RawTech → List ℕ → List (List ℕ) → List TypeId
other_residues raw base residues =
    map (type_of_word raw) (filter (λ word. not (plane_of_word raw word == plane_of_word raw base)) residues)

-- An image stands on the plane of its residue. Its set is told when all lines are read.
abbrev pub image_record : RawTech → ℕ → TypeId → TypeRec
image_record raw layer residue = record { plane = plane_of raw residue.0; layer = layer_number layer; parts = record { 0 = 0 } }

-- the next types, one for each of so many
abbrev pub next_types : RawTech → ℕ → List TypeId
next_types raw count = map type_number (range_with_len (length raw.types + 1) count)

-- the layer has its own image and one for each of these residues
abbrev pub with_images : RawTech → ℕ → TypeId → List TypeId → RawTech
with_images raw layer own others =
    record raw {
      types = raw.types ++ map (image_record raw layer) others;
      layers = slice_set raw.layers layer (record (layer_at raw layer) { images = own ∷ next_types raw (length others) });
    }

abbrev pub residues_of_layer : RawTech → ℕ → List (List ℕ) → List (LayerId × TypeId)
residues_of_layer raw layer words = map (λ word. (layer_number layer, type_of_word raw word)) words

-- the base's layer becomes a contact with these residues
abbrev pub with_contact : Drafted → List ℕ → List (List ℕ) → Drafted
with_contact draft base residues =
    record draft {
      raw = with_images draft.raw (layer_of_word draft.raw base) (type_of_word draft.raw base) (other_residues draft.raw base residues);
      residues = draft.residues ++ residues_of_layer draft.raw (layer_of_word draft.raw base) residues;
    }

abbrev pub new_contact : Drafted → List ℕ → List (List ℕ) → Result Drafted TechFault
new_contact draft base residues =
    if are_misplaced draft.raw base residues then Err BadForm
    else if is_contact draft.raw base then Err (Twice base)
    else if is_part draft (type_of_word draft.raw base) then Err (ContactPart base)
    else and_then (refuse draft.raw (ContactOr (type_of_word draft.raw base)) residues) (λ _.
    if nat_lt MOST_TYPES (length draft.raw.types + length (other_residues draft.raw base residues))
    then Err (TooMany Types)
    else Ok (with_contact draft base residues))

-- each of the words stands in the place of a layer's name
abbrev pub contacted : Drafted → List ℕ → List (List ℕ) → Result Drafted TechFault
contacted draft base residues =
    if not (list_all (has_form LayerTerm) (base ∷ residues))
    then Err BadForm
    else and_then (check_layers draft.raw (base ∷ residues)) (λ _. new_contact draft base residues)

unfoldable pub contact_line : Drafted → List (List ℕ) → Result Drafted TechFault
contact_line draft (base ∷ first ∷ second ∷ others) = contacted draft base (first ∷ second ∷ others)
contact_line draft _ = Err BadForm

-- ---- composed types

-- the three stand on one plane and differ
unfoldable pub are_composable : RawTech → TypeId → TypeId → TypeId → Bool
are_composable raw whole first second =
    plane_of raw first.0 == plane_of raw whole.0 && plane_of raw second.0 == plane_of raw whole.0
    && not (first.0 == whole.0) && not (second.0 == whole.0) && not (first.0 == second.0)

-- a `compose` line made the type, or used it as a part
unfoldable pub is_settled : Drafted → TypeId → Bool
is_settled draft t = has_type draft.results t || has_type draft.used t

-- The set of the whole becomes the union of those of its parts.
abbrev pub with_union : Drafted → TypeId → TypeId → TypeId → Drafted
with_union draft whole first second =
    record draft {
      raw = record draft.raw { types = with_set draft.raw whole (bit_or (parts_of draft.raw first.0) (parts_of draft.raw second.0)) };
      used = draft.used ++ first ∷ second ∷ [];
      results = draft.results ++ whole ∷ [];
    }

-- a type is composed once, and before it is a part
abbrev pub new_union : Drafted → List ℕ → List ℕ → List ℕ → Result Drafted TechFault
new_union draft whole first second =
    if not (are_composable draft.raw (type_of_word draft.raw whole) (type_of_word draft.raw first) (type_of_word draft.raw second))
    then Err BadForm
    else if is_settled draft (type_of_word draft.raw whole) then Err (Twice whole)
    else and_then (refuse draft.raw Contact (whole ∷ first ∷ second ∷ []))
    (λ _. Ok (with_union draft (type_of_word draft.raw whole) (type_of_word draft.raw first) (type_of_word draft.raw second)))

abbrev pub composed : Drafted → List ℕ → List ℕ → List ℕ → Result Drafted TechFault
composed draft whole first second =
    if not (list_all (has_form LayerTerm) (whole ∷ first ∷ second ∷ []))
    then Err BadForm
    else and_then (check_layers draft.raw (whole ∷ first ∷ second ∷ [])) (λ _. new_union draft whole first second)

unfoldable pub compose_line : Drafted → List (List ℕ) → Result Drafted TechFault
compose_line draft (key ∷ whole ∷ first ∷ second ∷ []) =
    if not (bytes_eq key (codes "compose")) then Err BadForm else composed draft whole first second
compose_line draft _ = Err BadForm
