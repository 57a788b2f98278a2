-- Columns: one type on each plane for one square, and what paint and erasing make of them.
use Rattle.std.specs.Prelude.{◌+◌, ◌-◌, ◌^◌, nat_lt, ℕ, Bool, bit_and, bit_or, if◌then◌else◌, List, [], ◌∷◌, length, Option, Some, None, unwrap_or, fold}
use Rattle.std.specs.Prelude.{slice_index_or}
use Rattle.std.specs.List.{list_all}
use Rattle.tech_model.specs.declared.raw.TypeId.{TypeId}
use Rattle.tech_model.specs.declared.raw.RawTech.{RawTech}
use Rattle.tech_model.specs.Types.{type_number, plane_of, parts_of, image_on, joined, is_subset, without}
use Rattle.tech_model.specs.declared.limits.TheConstants.{PART_BITS}
use Rattle.tech_model.specs.declared.columns.Brush.{Brush}
use Rattle.tech_model.specs.declared.columns.Brush.TheVariants.{Paint, Erase}

-- Paint puts the image with what stands there, where the plane has a type with both their parts, and else in its place.
abbrev pub painted_by : RawTech → ℕ → TypeId → TypeId → TypeId
painted_by raw plane image old =
    type_number (unwrap_or (joined raw plane (bit_or (parts_of raw old.0) (parts_of raw image.0))) image.0)

-- what is left when the parts of a set are taken off, where they all stand: the type with the rest, or space where there is none
abbrev pub without_parts : RawTech → ℕ → ℕ → TypeId → TypeId
without_parts raw set plane old =
    if is_subset set (parts_of raw old.0)
    then type_number (unwrap_or (joined raw plane (without (parts_of raw old.0) set)) 0)
    else old

-- Erasing takes the parts of the image off.
abbrev pub erased_by : RawTech → ℕ → TypeId → TypeId → TypeId
erased_by raw plane image old = without_parts raw (parts_of raw image.0) plane old

-- what a brush makes of a type with an image
abbrev pub brushed_by : RawTech → Brush → ℕ → TypeId → TypeId → TypeId
brushed_by raw Paint = painted_by raw
brushed_by raw Erase = erased_by raw

-- what a change does on a plane: nothing where the layer has no image there
abbrev pub where_image : (TypeId → TypeId → TypeId) → Option TypeId → TypeId → TypeId
where_image change None old = old
where_image change (Some image) old = change image old

abbrev pub on_planes_from : ℕ → (ℕ → TypeId → TypeId) → List TypeId → List TypeId
on_planes_from plane change [] = []
on_planes_from plane change (old ∷ column) = change plane old ∷ on_planes_from (plane + 1) change column

-- every part: each bit is set
abbrev pub all_parts : ℕ
all_parts = 2 ^ PART_BITS - 1

-- the mark of a contact: what the sets of its images have in common
abbrev pub mark_of : RawTech → List TypeId → ℕ
mark_of raw images = fold (λ common image. bit_and common (parts_of raw image.0)) all_parts images

-- the type of a column on a plane
abbrev pub type_on : List TypeId → ℕ → ℕ
type_on column plane = (slice_index_or column plane (type_number 0)).0

-- the mark stands on each plane of its contact
abbrev pub has_mark_everywhere : RawTech → ℕ → List TypeId → List TypeId → Bool
has_mark_everywhere raw mark images column =
    list_all (λ image. is_subset mark (parts_of raw (type_on column (plane_of raw image.0)))) images

-- the column after one contact's mark was taken off, where it does not stand on all planes of the contact
abbrev pub mark_kept : RawTech → List TypeId → List TypeId → List TypeId
mark_kept raw images column =
    if has_mark_everywhere raw (mark_of raw images) images column
    then column
    else on_planes_from 0 (without_parts raw (mark_of raw images)) column

-- a layer with more than one image is a contact
abbrev pub layer_mark_kept : RawTech → List TypeId → List TypeId → List TypeId
layer_mark_kept raw images column = if nat_lt 1 (length images) then mark_kept raw images column else column

-- the same for each contact of the technology
abbrev pub marks_kept : RawTech → List TypeId → List TypeId
marks_kept raw column = fold (λ kept layer. layer_mark_kept raw layer.images kept) column raw.layers

-- the column after a brush was used with a layer
unfoldable pub brushed_column : RawTech → Brush → ℕ → List TypeId → List TypeId
brushed_column raw brush layer column =
    marks_kept raw (on_planes_from 0 (λ plane old. where_image (brushed_by raw brush plane) (image_on raw layer plane) old) column)

-- the column after paint of a layer
abbrev pub painted_column : RawTech → ℕ → List TypeId → List TypeId
painted_column raw layer column = brushed_column raw Paint layer column

-- the column after a layer was erased
abbrev pub erased_column : RawTech → ℕ → List TypeId → List TypeId
erased_column raw layer column = brushed_column raw Erase layer column
