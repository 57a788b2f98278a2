-- Tile types of a technology: their planes, sets and names, and which connect and which are within which.
use Rattle.std.specs.Prelude.{◌==◌, ◌&&◌, ◌||◌, ◌-◌, ◌+◌, not, nat_le, ℕ, Bool, bit_and, bit_xor, if◌then◌else◌, List, [], ◌++◌, length, find, slice_index_or}
use Rattle.std.specs.Prelude.{Option, Some, codes}
use Rattle.std.specs.List.{list_any, position_from}
use Rattle.std.specs.Option.{option_map}
use Rattle.std.specs.Str.{bytes_eq}
use Rattle.tech_model.specs.declared.raw.TypeId.{TypeId}
use Rattle.tech_model.specs.declared.raw.LayerId.{LayerId}
use Rattle.tech_model.specs.declared.raw.LayerRec.{LayerRec}
use Rattle.tech_model.specs.declared.raw.TypeRec.{TypeRec}
use Rattle.tech_model.specs.declared.raw.RawTech.{RawTech}

-- the type with this number
abbrev pub type_number : ℕ → TypeId
type_number t = record { 0 = t }

-- the layer with this number
abbrev pub layer_number : ℕ → LayerId
layer_number layer = record { 0 = layer }

-- the number is that of a tile type other than space
abbrev pub is_type : RawTech → ℕ → Bool
is_type raw t = nat_le 1 t && nat_le t (length raw.types)

abbrev pub no_type : TypeRec
no_type = record { plane = 0; layer = record { 0 = 0 }; parts = record { 0 = 0 } }

-- the record of a type other than space
abbrev pub type_at : RawTech → ℕ → TypeRec
type_at raw t = slice_index_or raw.types (t - 1) no_type

abbrev pub plane_of : RawTech → ℕ → ℕ
plane_of raw t = (type_at raw t).plane

abbrev pub layer_of : RawTech → ℕ → ℕ
layer_of raw t = (type_at raw t).layer.0

-- the set of a type, where space has the empty set
abbrev pub parts_of : RawTech → ℕ → ℕ
parts_of raw t = if is_type raw t then (type_at raw t).parts.0 else 0

-- all parts of a are parts of b
abbrev pub is_subset : ℕ → ℕ → Bool
is_subset a b = bit_and a b == a

abbrev pub is_proper_subset : ℕ → ℕ → Bool
is_proper_subset a b = is_subset a b && not (a == b)

-- the parts of a that are none of b
abbrev pub without : ℕ → ℕ → ℕ
without a b = bit_xor a (bit_and a b)

abbrev pub no_layer : LayerRec
no_layer = record { names = []; images = [] }

abbrev pub layer_at : RawTech → ℕ → LayerRec
layer_at raw layer = slice_index_or raw.layers layer no_layer

-- the images of a layer, the one on its own plane first
abbrev pub images_of : RawTech → ℕ → List TypeId
images_of raw layer = (layer_at raw layer).images

-- the type stands on the plane
abbrev pub is_on : RawTech → ℕ → TypeId → Bool
is_on raw plane t = plane_of raw t.0 == plane

-- the image of a layer on a plane, where it has one
abbrev pub image_on : RawTech → ℕ → ℕ → Option TypeId
image_on raw layer plane = find (is_on raw plane) (images_of raw layer)

-- the layer has the word as its name or as an alias
abbrev pub has_name : List ℕ → LayerRec → Bool
has_name word layer = list_any (bytes_eq word) layer.names

-- the number of the layer that has the word as its name or as an alias
abbrev pub layer_named : RawTech → List ℕ → Option ℕ
layer_named raw word = position_from (has_name word) 0 raw.layers

-- the record has the plane and the set
abbrev pub is_kind : ℕ → ℕ → TypeRec → Bool
is_kind plane set kind = kind.plane == plane && kind.parts.0 == set

-- the type of a plane that has the set: space for the empty set, and nothing where no type has it
abbrev pub joined : RawTech → ℕ → ℕ → Option ℕ
joined raw plane set =
    if set == 0
    then Some 0
    else option_map (λ place. place + 1) (position_from (is_kind plane set) 0 raw.types)

-- the pair is one of s and t, in either order
abbrev pub is_of : ℕ → ℕ → TypeId × TypeId → Bool
is_of s t pair = (pair.0.0 == s && pair.1.0 == t) || (pair.0.0 == t && pair.1.0 == s)

-- the `connect` section has the pair, in either order
abbrev pub is_pair : RawTech → ℕ → ℕ → Bool
is_pair raw s t = list_any (is_of s t) raw.pairs

-- Which types connect: each to itself, those of a pair, and the images of one contact. Space connects to nothing.
unfoldable pub connects : RawTech → ℕ → ℕ → Bool
connects raw s t = is_type raw s && is_type raw t && (s == t || is_pair raw s t || layer_of raw s == layer_of raw t)

-- s is within t where they are one type, or the set of s is a proper subset of that of t and s connects to t.
unfoldable pub is_within : RawTech → ℕ → ℕ → Bool
is_within raw s t = s == t || (is_proper_subset (parts_of raw s) (parts_of raw t) && connects raw s t)

abbrev pub first_name : LayerRec → List ℕ
first_name layer = slice_index_or layer.names 0 []

abbrev pub plane_name : RawTech → ℕ → List ℕ
plane_name raw plane = slice_index_or raw.planes plane []

abbrev pub is_own_image : RawTech → ℕ → Bool
is_own_image raw t = (slice_index_or (images_of raw (layer_of raw t)) 0 (record { 0 = 0 })).0 == t

-- The name of a type: its layer's for the image on the layer's own plane, and else NAME/PLANE.
unfoldable pub type_name : RawTech → ℕ → List ℕ
type_name raw t =
    if is_own_image raw t
    then first_name (layer_at raw (layer_of raw t))
    else (first_name (layer_at raw (layer_of raw t)) ++ codes "/" ++ plane_name raw (plane_of raw t))
