-- The types of a cell's paint are those of its technology, each on its plane.
use Rattle.cell_paint.proofs.Common.{◌≡◌, ◌≢◌, inl, inr, ◌≤◌, ℕ, length, sym, ◌∙◌, subst, arith, refl, IsTrue, cases_lt, MOST_PLANES, RawTech}
use Rattle.cell_paint.proofs.Common.{IsOnPlane, is_type, plane_of, kinds_on, Paint, layout_of, seen_kind, IsSoundPaint}
use Rattle.layout_model.specs.LayerTypes.{AreTypesOf, HasTypesOf}
use Rattle.cell_paint.proofs.ColumnsLaws.{column_type}
use Rattle.cell_paint.proofs.PlaneLaws.{space_past}

not_space : (raw : RawTech) (plane kind : ℕ) → IsOnPlane raw plane kind → kind ≢ 0 → IsTrue (is_type raw kind) × (plane_of raw kind ≡ plane)
not_space raw plane kind (inl space) some = absurd (some space)
not_space raw plane kind (inr type) some = type

pub paint_types : (raw : RawTech) (paint : Paint) → raw.types ≡ paint.kinds → length paint.planes ≤ MOST_PLANES → IsSoundPaint paint.kinds (layout_of paint)
    → AreTypesOf raw (seen_kind paint)
paint_types raw paint same few sound plane square kind is some =
    let value : kinds_on (layout_of paint) plane square ≡ kind = cc in
    elim (cases_lt plane MOST_PLANES) [
      | inl below ↦
          not_space raw plane kind
          (subst (IsOnPlane raw plane) (column_type (layout_of paint) square plane below ∙ value) ((sound.types raw same square).0 plane)) some
      | inr past ↦ absurd (some (sym value ∙ space_past paint.planes plane square (omega arith)))
    ]

-- the types of paint are the technology's
pub paint_has_types : (raw : RawTech) (paint : Paint) → raw.types ≡ paint.kinds → length paint.planes ≤ MOST_PLANES → IsSoundPaint paint.kinds (layout_of paint)
    → HasTypesOf raw (layout_of paint)
paint_has_types raw paint same few sound place material =
    paint_types raw paint same few sound place.plane place.square (layout_of paint place) refl material
