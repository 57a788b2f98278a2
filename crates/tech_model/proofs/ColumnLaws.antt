-- Columns: paint and erasing leave types of their planes, and contacts that stand whole.
use Rattle.tech_model.proofs.Common.{◌≡◌, ◌⊎◌, ◌+◌, ◌<◌, ◌≤◌, ℕ, zero, suc, true, Option, List, [], ◌∷◌, length, bit_or, refl, sym, ap, subst, ◌∙◌}
use Rattle.tech_model.proofs.Common.{arith, inl, inr, add-zero, Some, None, IsTrue, nat_lt, unwrap_or, bit_at, cases_Bool, eqb-true, bit_at-zero}
use Rattle.tech_model.proofs.Common.{find-In, All-In, TypeId, RawTech, is_type, plane_of, parts_of, images_of, is_on, image_on, joined, is_subset}
use Rattle.tech_model.proofs.Common.{IsWellFormed, Brush, Paint, Erase, mark_of, layer_mark_kept, IsOnPlane, IsColumn}
use Rattle.std.proofs.lemmas.Bool.{ltb-true, ltb-false}
use Rattle.geo_core.proofs.FiniteSets.Searches.{find-passes}
use Rattle.tech_model.specs.Columns.{brushed_by, where_image, on_planes_from, type_on, has_mark_everywhere, without_parts}
use Rattle.tech_model.proofs.WellFormedLaws.{layer_well_formed}
use Rattle.tech_model.proofs.JoinedLaws.{joined-found}

-- what a change does with the type on each plane holds of the column
changed_from : (R : ℕ → ℕ → ℕ → Type 0) (f : ℕ → TypeId → TypeId) (p : ℕ) (column : List TypeId)
    → ((plane : ℕ) (old : TypeId) → R plane old.0 (f plane old).0) → ((plane : ℕ) → R plane 0 0)
    → (k : ℕ) → R (p + k) (type_on column k) (type_on (on_planes_from p f column) k)
changed_from R f p [] each space k = space (p + k)
changed_from R f p (old ∷ column) each space zero = subst (λ (n : ℕ). R n old.0 (f p old).0) (sym (add-zero p)) (each p old)
changed_from R f p (old ∷ column) each space (suc k) =
    let next : p + 1 + k ≡ p + suc k = omega arith in
    subst (λ (n : ℕ). R n (type_on column k) (type_on (on_planes_from (p + 1) f column) k)) next (changed_from R f (p + 1) column each space k)

-- a change that is right on each plane is right for the column
pub changed : (R : ℕ → ℕ → ℕ → Type 0) (f : ℕ → TypeId → TypeId) (column : List TypeId)
    → ((plane : ℕ) (old : TypeId) → R plane old.0 (f plane old).0) → ((plane : ℕ) → R plane 0 0)
    → (plane : ℕ) → R plane (type_on column plane) (type_on (on_planes_from 0 f column) plane)
changed R f column each space plane =
    let same : 0 + plane ≡ plane = omega arith in
    subst (λ (n : ℕ). R n (type_on column plane) (type_on (on_planes_from 0 f column) plane)) same (changed_from R f 0 column each space plane)

-- ---- types of their planes

joined_option : (raw : RawTech) (plane set other : ℕ) (o : Option ℕ) → joined raw plane set ≡ o → IsOnPlane raw plane other
    → IsOnPlane raw plane (unwrap_or o other)
joined_option raw plane set other None is on = on
joined_option raw plane set other (Some t) is on = (joined-found raw plane set t is).1

joined_on_plane : (raw : RawTech) (plane set other : ℕ) → IsOnPlane raw plane other → IsOnPlane raw plane (unwrap_or (joined raw plane set) other)
joined_on_plane raw plane set other on = joined_option raw plane set other (joined raw plane set) refl on

image_on_plane : (raw : RawTech) (layer plane : ℕ) (image : TypeId) → IsWellFormed raw → layer < length raw.layers → image_on raw layer plane ≡ Some image
    → IsOnPlane raw plane image.0
image_on_plane raw layer plane image w below is =
    let image_in = find-In (is_on raw plane) (images_of raw layer) image is in
    inr (
      All-In (λ (t : TypeId). IsTrue (is_type raw t.0)) (images_of raw layer) image (layer_well_formed raw layer w below).images image_in,
      eqb-true (plane_of raw image.0) plane (find-passes (is_on raw plane) (images_of raw layer) image is),
    )

without_on_plane : (raw : RawTech) (set plane : ℕ) (old : TypeId) → IsOnPlane raw plane old.0 → IsOnPlane raw plane (without_parts raw set plane old).0
without_on_plane raw set plane old on = elim (cases_Bool (is_subset set (parts_of raw old.0))) [
  | inl part ↦ rw part (joined_on_plane raw plane _ 0 (inl refl))
  | inr none ↦ rw none on
]

brushed_on_plane : (raw : RawTech) (brush : Brush) (layer plane : ℕ) (image old : TypeId) → IsWellFormed raw → layer < length raw.layers
    → image_on raw layer plane ≡ Some image
    → IsOnPlane raw plane old.0 → IsOnPlane raw plane (brushed_by raw brush plane image old).0
brushed_on_plane raw Paint layer plane image old w below found on =
    joined_on_plane raw plane (bit_or (parts_of raw old.0) (parts_of raw image.0)) image.0 (image_on_plane raw layer plane image w below found)
brushed_on_plane raw Erase layer plane image old w below found on = without_on_plane raw (parts_of raw image.0) plane old on

where_on_plane : (raw : RawTech) (layer plane : ℕ) (change : TypeId → TypeId → TypeId) (old : TypeId) (image : Option TypeId) → image_on raw layer plane ≡ image
    → ((image : TypeId) → image_on raw layer plane ≡ Some image → IsOnPlane raw plane (change image old).0) → IsOnPlane raw plane old.0
    → IsOnPlane raw plane (where_image change image old).0
where_on_plane raw layer plane change old None is each on = on
where_on_plane raw layer plane change old (Some image) is each on = each image is

-- a brush leaves a column, before marks are looked at
pub brushed_is_column : (raw : RawTech) (brush : Brush) (layer : ℕ) (column : List TypeId) → IsWellFormed raw → layer < length raw.layers → IsColumn raw column
    → IsColumn raw (on_planes_from 0 (λ plane old. where_image (brushed_by raw brush plane) (image_on raw layer plane) old) column)
brushed_is_column raw brush layer column w below is plane =
    changed (λ plane old new. IsOnPlane raw plane old → IsOnPlane raw plane new)
    (λ plane old. where_image (brushed_by raw brush plane) (image_on raw layer plane) old) column
    (λ plane old on. where_on_plane raw layer plane (brushed_by raw brush plane) old (image_on raw layer plane) refl
    (λ image found. brushed_on_plane raw brush layer plane image old w below found on) on)
    (λ plane on. on) plane (is plane)

unmarked_is_column : (raw : RawTech) (mark : ℕ) (column : List TypeId) → IsColumn raw column → IsColumn raw (on_planes_from 0 (without_parts raw mark) column)
unmarked_is_column raw mark column is plane =
    changed (λ plane old new. IsOnPlane raw plane old → IsOnPlane raw plane new) (without_parts raw mark) column
    (λ plane old on. without_on_plane raw mark plane old on) (λ plane on. on) plane (is plane)

-- ---- one contact's mark

-- what one step leaves is the column, or the column without the mark
pub kept_cases : (raw : RawTech) (images column : List TypeId)
    → ((layer_mark_kept raw images column ≡ column) × ((length images ≤ 1) ⊎ (has_mark_everywhere raw (mark_of raw images) images column ≡ true)))
    ⊎ ((layer_mark_kept raw images column ≡ on_planes_from 0 (without_parts raw (mark_of raw images)) column) × (1 < length images))
kept_cases raw images column = elim (cases_Bool (nat_lt 1 (length images))) [
  | inr one ↦ inl (rw one refl, inl (ltb-false 1 (length images) one))
  | inl many ↦ elim (cases_Bool (has_mark_everywhere raw (mark_of raw images) images column)) [
    | inl everywhere ↦ inl (rw (many, everywhere) refl, inr everywhere)
    | inr missing ↦ inr (rw (many, missing) refl, ltb-true 1 (length images) many)
  ]
]

-- looking at the mark of a contact leaves a column
pub kept_is_column : (raw : RawTech) (images column : List TypeId) → IsColumn raw column → IsColumn raw (layer_mark_kept raw images column)
kept_is_column raw images column is = elim (kept_cases raw images column) [
  | inl same ↦ subst (IsColumn raw) (sym same.0) is
  | inr taken ↦ subst (IsColumn raw) (sym taken.0) (unmarked_is_column raw (mark_of raw images) column is)
]

-- a type with a bit is no space
pub bit_type : (raw : RawTech) (plane t k : ℕ) → IsOnPlane raw plane t → bit_at (parts_of raw t) k ≡ 1 → IsTrue (is_type raw t) × (plane_of raw t ≡ plane)
bit_type raw plane t k (inr type) bit = type
bit_type raw plane t k (inl space) bit =
    let apart : ◌≡◌ {A = ℕ} 1 0 = sym bit ∙ ap (λ (n : ℕ). bit_at (parts_of raw n) k) space ∙ bit_at-zero k in absurd (omega arith)
