-- What holds of columns: a type of its plane in each place, and contacts that stand whole.
use Rattle.std.specs.Prelude.{◌≡◌, ◌⊎◌, ℕ, IsTrue, List}
use Rattle.tech_model.specs.declared.raw.TypeId.{TypeId}
use Rattle.tech_model.specs.declared.raw.RawTech.{RawTech}
use Rattle.tech_model.specs.Types.{is_type, plane_of, layer_of}
use Rattle.tech_model.specs.Columns.{type_on}

-- the number is that of space, or of a type of the plane
abbrev pub IsOnPlane : RawTech → ℕ → ℕ → Type 0
IsOnPlane raw plane t = (t ≡ 0) ⊎ (IsTrue (is_type raw t) × (plane_of raw t ≡ plane))

-- Each type of a column is one of its plane, or space. So past the last plane all is space.
abbrev pub IsColumn : RawTech → List TypeId → Type 0
IsColumn raw column = (plane : ℕ) → IsOnPlane raw plane (type_on column plane)

-- Where one image of a contact stands, all its images stand.
abbrev pub HasWholeContacts : RawTech → List TypeId → Type 0
HasWholeContacts raw column =
    (s t : ℕ) → IsTrue (is_type raw s) → IsTrue (is_type raw t) → layer_of raw s ≡ layer_of raw t
    → type_on column (plane_of raw s) ≡ s → type_on column (plane_of raw t) ≡ t
