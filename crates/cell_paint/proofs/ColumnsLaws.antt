-- What a brush leaves of a column: types of their planes, and on a plane what depends on that plane alone.
use Rattle.cell_paint.proofs.Common.{◌≡◌, ◌<◌, ◌≤◌, ℕ, List, length, refl, sym, ap, ◌∙◌, arith, inl, inr, cases_lt, get_or_past, Square, MOST_PLANES}
use Rattle.cell_paint.proofs.Common.{MOST_TYPES, TypeId, RawTech, type_number, plane_of, IsWellFormed, Brush, type_on, IsOnPlane, IsColumn}
use Rattle.cell_paint.proofs.Common.{HasWholeContacts, Layout, kinds_on, KeepsTypes}
use Rattle.std.specs.Prelude.{nat_le, map}
use Rattle.std.proofs.lemmas.Bool.{and_parts, leb-true}
use Rattle.std.proofs.lemmas.List.FromFn.{get_or-map-range_with_len}
use Rattle.tech_model.specs.Columns.{brushed_column}
use Rattle.tech_model.proofs.LocalLaws.{brushed_column-local}
use Rattle.cell_paint.specs.Painting.{all_planes, column_at}

-- a type of a plane is one of those that there may be
small_on_plane : (raw : RawTech) (plane t : ℕ) → length raw.types ≤ MOST_TYPES → IsOnPlane raw plane t → t ≤ MOST_TYPES
small_on_plane raw plane t few (inl space) = omega arith
small_on_plane raw plane t few (inr type) = let high = leb-true t (length raw.types) (and_parts (nat_le 1 t) (nat_le t (length raw.types)) type.0).1 in
    omega arith

-- a type of a column is one of those that there may be
pub column_small : (raw : RawTech) (column : List TypeId) (plane : ℕ) → IsWellFormed raw → IsColumn raw column → type_on column plane ≤ MOST_TYPES
column_small raw column plane w is = small_on_plane raw plane (type_on column plane) w.types_limit (is plane)

-- the column of a square has its types
pub column_type : (layout : Layout) (square : Square) (plane : ℕ) → plane < MOST_PLANES → type_on (column_at layout square) plane ≡ kinds_on layout plane square
column_type layout square plane below =
    ap (λ (t : TypeId). t.0)
    (get_or-map-range_with_len (λ (p : ℕ). type_number (kinds_on layout p square)) 0 MOST_PLANES plane plane (type_number 0) below (omega arith))

-- the column of a square where all planes have space
abbrev pub no_types : List TypeId
no_types = map (λ plane. type_number 0) all_planes

-- each plane has space there
no_types_on : (plane : ℕ) → type_on no_types plane ≡ 0
no_types_on plane = ap (λ (t : TypeId). t.0) (elim (cases_lt plane MOST_PLANES) [
  | inl below ↦ get_or-map-range_with_len (λ (p : ℕ). type_number 0) 0 MOST_PLANES plane plane (type_number 0) below (omega arith)
  | inr past ↦ get_or_past no_types plane (type_number 0) past
])

-- space is of each plane
no_types_is_column : (raw : RawTech) → IsColumn raw no_types
no_types_is_column raw plane = inl (no_types_on plane)

-- no image of a contact stands there
no_types_whole : (raw : RawTech) → HasWholeContacts raw no_types
no_types_whole raw s t s_is t_is layers stands =
    let low = leb-true 1 s (and_parts (nat_le 1 s) (nat_le s (length raw.types)) s_is).0 in
    let space : s ≡ 0 = sym stands ∙ no_types_on (plane_of raw s) in
    absurd (omega arith)

module _ (brush : Brush) (raw : RawTech) (layer : ℕ) (w : IsWellFormed raw) (below : layer < length raw.layers) (layout : Layout)
    (keeps : KeepsTypes raw.types layout) (plane : ℕ) (few : plane < MOST_PLANES) where
  -- squares with one type come to have one type
  pub squares_change_alike : (s t : Square) → kinds_on layout plane s ≡ kinds_on layout plane t
      → type_on (brushed_column raw brush layer (column_at layout s)) plane ≡ type_on (brushed_column raw brush layer (column_at layout t)) plane
  squares_change_alike s t same =
      let a = keeps raw refl s in
      let b = keeps raw refl t in
      brushed_column-local raw brush layer plane (column_at layout s) (column_at layout t) w below refl a.0 b.0 a.1 b.1
      (column_type layout s plane few ∙ same ∙ sym (column_type layout t plane few))

  -- a square of space changes as one where all planes have space
  pub space_changes_alike : (s : Square) → kinds_on layout plane s ≡ 0
      → type_on (brushed_column raw brush layer (column_at layout s)) plane ≡ type_on (brushed_column raw brush layer no_types) plane
  space_changes_alike s space =
      let a = keeps raw refl s in
      brushed_column-local raw brush layer plane (column_at layout s) no_types w below refl a.0 (no_types_is_column raw) a.1 (no_types_whole raw)
      (column_type layout s plane few ∙ space ∙ sym (no_types_on plane))
