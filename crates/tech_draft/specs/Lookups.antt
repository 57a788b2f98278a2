-- What the words of a line stand for: planes, layers and types of a technology.
use Rattle.std.specs.Prelude.{◌==◌, nat_lt, is_some, if◌then◌else◌, ℕ, Bool, unwrap_or, List, [], ◌∷◌, ◌++◌, length, fold, position}
use Rattle.std.specs.Prelude.{slice_index_or}
use Rattle.std.specs.Prelude.{Option, Some, None}
use Rattle.std.specs.List.{list_any}
use Rattle.std.specs.Option.{option_map_or}
use Rattle.std.specs.Str.{bytes_eq}
use Rattle.tech_model.specs.declared.raw.TypeId.{TypeId}
use Rattle.tech_model.specs.declared.raw.RawTech.{RawTech}
use Rattle.tech_model.specs.Types.{type_number, plane_of, images_of, layer_named}
use Rattle.tech_draft.specs.Words.{has_slash, name_part, plane_part, pieces_of}

-- the number of the plane with this name, from 0
abbrev pub plane_named : RawTech → List ℕ → Option ℕ
plane_named raw word = position (bytes_eq word) raw.planes

-- the images of the layer that the word names, none where it names no layer
abbrev pub named_types : RawTech → List ℕ → List TypeId
named_types raw word = option_map_or (images_of raw) (layer_named raw word) []

-- the first of the types that stands on the plane, alone
abbrev pub first_on : RawTech → ℕ → List TypeId → List TypeId
first_on raw plane [] = []
first_on raw plane (t ∷ types) = if plane_of raw t.0 == plane then t ∷ [] else first_on raw plane types

abbrev pub type_on : RawTech → Option ℕ → List TypeId → List TypeId
type_on raw None types = []
type_on raw (Some plane) types = first_on raw plane types

-- The types that an entry means: with a plane the image on that plane, and else all images of the layer.
abbrev pub entry_types : RawTech → List ℕ → List TypeId
entry_types raw entry =
    if has_slash entry
    then type_on raw (plane_named raw (plane_part entry)) (named_types raw (name_part entry))
    else named_types raw entry

abbrev pub has_type : List TypeId → TypeId → Bool
has_type types t = list_any (λ u. u.0 == t.0) types

-- the type at the end, unless it is there
abbrev pub with_type_once : List TypeId → TypeId → List TypeId
with_type_once types t = if has_type types t then types else (types ++ t ∷ [])

-- the types that the entries of a list mean, each once, where it is first meant
abbrev pub types_of_list : RawTech → List ℕ → List TypeId
types_of_list raw list = fold (λ types entry. fold with_type_once types (entry_types raw entry)) [] (pieces_of list)

-- the first type that the word means: of a layer it is the image on the layer's own plane
abbrev pub type_of_word : RawTech → List ℕ → TypeId
type_of_word raw word = slice_index_or (entry_types raw word) 0 (type_number 0)

abbrev pub plane_of_word : RawTech → List ℕ → ℕ
plane_of_word raw word = plane_of raw (type_of_word raw word).0

-- the number of the layer that the word names
abbrev pub layer_of_word : RawTech → List ℕ → ℕ
layer_of_word raw word = unwrap_or (layer_named raw word) 0

-- the layer that the word names has more than one image
unfoldable pub is_contact : RawTech → List ℕ → Bool
is_contact raw word = nat_lt 1 (length (entry_types raw word))

-- the number of the class that the type belongs to, from 0
abbrev pub class_of : RawTech → TypeId → Option ℕ
class_of raw t = position (λ class. has_type class.types t) raw.classes

-- a type of the entry is in a class
unfoldable pub is_classed : RawTech → List ℕ → Bool
is_classed raw entry = list_any (λ t. is_some (class_of raw t)) (entry_types raw entry)
