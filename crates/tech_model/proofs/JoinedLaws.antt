-- The type of a plane that has a set.
use Rattle.tech_model.proofs.Common.{◌≡◌, ◌≢◌, ◌⊎◌, ◌+◌, ◌-◌, ◌<◌, ◌≤◌, ◌==◌, ℕ, Bool, true, false, Option, if◌then◌else◌, length, get_or, refl, sym}
use Rattle.tech_model.proofs.Common.{ap, ◌∙◌, arith, inl, inr, Some, None, IsTrue, slice_index_or, position_from, option_map, cases_Bool, cases_eq}
use Rattle.tech_model.proofs.Common.{and_parts, and_from, eq-eqb, eqb-true, ne_eqb, RawTech, is_type, plane_of, parts_of, joined, HaveOwnSets}
use Rattle.tech_model.specs.declared.raw.TypeRec.{TypeRec}
use Rattle.tech_model.specs.Types.{type_at, no_type, is_kind}
use Rattle.tech_model.proofs.WellFormedLaws.{type_bounds, type_from_bounds}
use Rattle.geo_core.proofs.FiniteSets.FirstPlaces.{position_at, position_found}

-- a type's parts are those of its record
pub parts_at : (raw : RawTech) (t : ℕ) → IsTrue (is_type raw t) → parts_of raw t ≡ (type_at raw t).parts.0
parts_at raw t is = ap (λ (b : Bool). if b then (type_at raw t).parts.0 else 0) is

joined_full : (raw : RawTech) (plane set : ℕ) → set ≢ 0 → joined raw plane set ≡ option_map (λ place. place + 1) (position_from (is_kind plane set) 0 raw.types)
joined_full raw plane set full =
    ap (λ (b : Bool). if b then Some 0 else option_map (λ place. place + 1) (position_from (is_kind plane set) 0 raw.types)) (ne_eqb set 0 full)

joined_empty : (raw : RawTech) (plane set : ℕ) → set ≡ 0 → joined raw plane set ≡ Some 0
joined_empty raw plane set empty =
    ap (λ (b : Bool). if b then Some 0 else option_map (λ place. place + 1) (position_from (is_kind plane set) 0 raw.types)) (eq-eqb set 0 empty)

-- the record at a place is that of the next type
record_at : (raw : RawTech) (k : ℕ) → get_or raw.types k no_type ≡ type_at raw (k + 1)
record_at raw k = ap (λ (n : ℕ). slice_index_or raw.types n no_type) (omega arith)

found_place : (raw : RawTech) (plane set t : ℕ) (place : Option ℕ) → position_from (is_kind plane set) 0 raw.types ≡ place
    → option_map (λ n. n + 1) place ≡ Some t
    → (parts_of raw t ≡ set) × ((t ≡ 0) ⊎ (IsTrue (is_type raw t) × (plane_of raw t ≡ plane)))
found_place raw plane set t None is next = cc
found_place raw plane set t (Some k) is next =
    let after : k + 1 ≡ t = cc in
    let found = position_found (is_kind plane set) 0 raw.types k no_type is in
    let inside : k < 0 + length raw.types = found.1 in
    let type : IsTrue (is_type raw t) = type_from_bounds raw t (omega arith) (omega arith) in
    let at : get_or raw.types (k - 0) no_type ≡ type_at raw t = ap (λ (n : ℕ). slice_index_or raw.types n no_type) (omega arith) in
    let parts = and_parts ((get_or raw.types (k - 0) no_type).plane == plane) ((get_or raw.types (k - 0) no_type).parts.0 == set) found.2 in
    let stands : plane_of raw t ≡ plane = ap (λ (kind : TypeRec). kind.plane) (sym at) ∙ eqb-true _ _ parts.0 in
    let has : parts_of raw t ≡ set = parts_at raw t type ∙ ap (λ (kind : TypeRec). kind.parts.0) (sym at) ∙ eqb-true _ _ parts.1 in
    (has, inr (type, stands))

-- a record with the plane and set of a type, before it, would be a second type with them
kind_before : (raw : RawTech) (t k : ℕ) → HaveOwnSets raw → IsTrue (is_type raw t) → k < t - 1
    → is_kind (plane_of raw t) (parts_of raw t) (get_or raw.types k no_type) ≡ true → ⊥
kind_before raw t k own is before same =
    let bounds = type_bounds raw t is in
    let low : 1 ≤ t = bounds.0 in
    let high : t ≤ length raw.types = bounds.1 in
    let other : IsTrue (is_type raw (k + 1)) = type_from_bounds raw (k + 1) (omega arith) (omega arith) in
    let parts = and_parts ((get_or raw.types k no_type).plane == plane_of raw t) ((get_or raw.types k no_type).parts.0 == parts_of raw t) same in
    let planes : plane_of raw (k + 1) ≡ plane_of raw t = ap (λ (kind : TypeRec). kind.plane) (sym (record_at raw k)) ∙ eqb-true _ _ parts.0 in
    let sets : parts_of raw (k + 1) ≡ parts_of raw t =
    parts_at raw (k + 1) other ∙ ap (λ (kind : TypeRec). kind.parts.0) (sym (record_at raw k)) ∙ eqb-true _ _ parts.1 in
    let one : k + 1 ≡ t = own (k + 1) t other is planes sets in
    omega arith

-- a type is the first of its plane with its set
pub joined-type : (raw : RawTech) (t : ℕ) → HaveOwnSets raw → IsTrue (is_type raw t) → parts_of raw t ≢ 0
    → joined raw (plane_of raw t) (parts_of raw t) ≡ Some t
joined-type raw t own is full =
    let bounds = type_bounds raw t is in
    let low : 1 ≤ t = bounds.0 in
    let high : t ≤ length raw.types = bounds.1 in
    let test : TypeRec → Bool = is_kind (plane_of raw t) (parts_of raw t) in
    let here : test (get_or raw.types (t - 1) no_type) ≡ true =
    and_from _ _ (eq-eqb (plane_of raw t) (plane_of raw t) refl) (eq-eqb (type_at raw t).parts.0 (parts_of raw t) (sym (parts_at raw t is))) in
    let before : (k : ℕ) → k < t - 1 → test (get_or raw.types k no_type) ≡ false =
    λ k below. elim (cases_Bool (test (get_or raw.types k no_type))) [ inl same ↦ absurd (kind_before raw t k own is below same) | inr differs ↦ differs ] in
    joined_full raw (plane_of raw t) (parts_of raw t) full
    ∙ ap (option_map (λ (place : ℕ). place + 1)) (position_at test 0 raw.types (t - 1) no_type (omega arith) here before)
    ∙ ap (λ (n : ℕ). Some n) (omega arith)

-- the type with a set has it, and stands on the plane or is space
pub joined-found : (raw : RawTech) (plane set t : ℕ) → joined raw plane set ≡ Some t
    → (parts_of raw t ≡ set) × ((t ≡ 0) ⊎ (IsTrue (is_type raw t) × (plane_of raw t ≡ plane)))
joined-found raw plane set t is = elim (cases_eq set 0) [
  | inl empty ↦
      let found : Some 0 ≡ Some t = sym (joined_empty raw plane set empty) ∙ is in
      let space : 0 ≡ t = cc in
      (ap (parts_of raw) (sym space) ∙ sym empty, inl (sym space))
  | inr full ↦
      let found : option_map (λ place. place + 1) (position_from (is_kind plane set) 0 raw.types) ≡ Some t = sym (joined_full raw plane set full) ∙ is in
      found_place raw plane set t (position_from (is_kind plane set) 0 raw.types) refl found
]
