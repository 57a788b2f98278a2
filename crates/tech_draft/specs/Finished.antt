-- The technology of a draft: the set of each image of a contact is the contact's mark and the set of its residue.
use Rattle.std.specs.Prelude.{◌==◌, ◌&&◌, ◌+◌, ◌^◌, bit_or, ℕ, Bool, map, find, Option, Some, None}
use Rattle.tech_model.specs.declared.raw.LayerId.{LayerId}
use Rattle.tech_model.specs.declared.raw.TypeId.{TypeId}
use Rattle.tech_model.specs.declared.raw.TypeRec.{TypeRec}
use Rattle.tech_model.specs.declared.raw.RawTech.{RawTech}
use Rattle.tech_model.specs.declared.limits.TheConstants.{FIRST_MARK}
use Rattle.tech_model.specs.Types.{plane_of, parts_of}
use Rattle.tech_draft.specs.Drafts.{Drafted}

-- the residue is one of the type's layer, and stands on its plane
abbrev pub is_residue_of : RawTech → TypeRec → LayerId × TypeId → Bool
is_residue_of raw kind pair = pair.0.0 == kind.layer.0 && plane_of raw pair.1.0 == kind.plane

-- the mark of the contact with this layer: a bit above those of all atoms
abbrev pub mark_bit : ℕ → ℕ
mark_bit layer = 2 ^ (FIRST_MARK + layer)

-- the set of a type with this residue
abbrev pub set_with : RawTech → TypeRec → Option (LayerId × TypeId) → ℕ
set_with raw kind None = kind.parts.0
set_with raw kind (Some pair) = bit_or (mark_bit pair.0.0) (parts_of raw pair.1.0)

abbrev pub finished_type : Drafted → TypeRec → TypeRec
finished_type draft kind =
    record kind { parts = record { 0 = set_with draft.raw kind (find (is_residue_of draft.raw kind) draft.residues) } }

unfoldable pub finished : Drafted → RawTech
finished draft = record draft.raw { types = map (finished_type draft) draft.raw.types }
