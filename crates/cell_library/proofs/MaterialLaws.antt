-- Painting takes no material away and leaves none of the area without; erasing makes none.
use Rattle.cell_library.proofs.Common.{◌≡◌, ◌≢◌, ◌⊎◌, ◌+◌, ◌<◌, ℕ, zero, suc, Option, List, [], ◌∷◌, length, refl, sym, ap, get_or, subst, ◌∙◌}
use Rattle.cell_library.proofs.Common.{arith, inl, inr, Some, None, IsTrue, unwrap_or, bit_at, cases_Bool, cases_lt, In, In-index, In-get_or, All-In}
use Rattle.cell_library.proofs.Common.{Square, Rect, Covers, is_covered, MOST_PLANES, TypeId, RawTech, plane_of, parts_of, type_on, painted_column}
use Rattle.cell_library.proofs.Common.{erased_column, Place, Layout, IsMaterial, with_paint, with_erased, KeepsTypes}
use Rattle.std.proofs.Common.{◌^◌, fold, bit_and, bit_or}
use Rattle.std.proofs.lemmas.Bool.{true≢false, eq-eqb, eqb-true}
use Rattle.std.proofs.lemmas.Nat.Bits.{bit_at-zero, bit_at_and, same_from_bits}
use Rattle.geo_core.proofs.FiniteSets.Searches.{find-In, find-none}
use Rattle.geo_core.proofs.CoveringLaws.{Covers-is_covered, is_covered-Covers}
use Rattle.tech_model.specs.declared.raw.LayerRec.{LayerRec}
use Rattle.tech_model.specs.Types.{is_type, type_number, no_layer, layer_at, images_of, is_on, image_on, joined, is_subset, without}
use Rattle.tech_model.specs.WellFormed.{IsWellFormed, IsContact, IsMarked}
use Rattle.tech_model.specs.Rules.{HaveOwnSets}
use Rattle.tech_model.specs.Columns.{painted_by, erased_by, where_image, on_planes_from, mark_of, without_parts, layer_mark_kept, marks_kept}
use Rattle.tech_model.specs.declared.columns.Brush.TheVariants.{Paint as PaintBrush, Erase as EraseBrush}
use Rattle.tech_model.specs.Columns.{brushed_column}
use Rattle.tech_model.specs.ColumnForms.{IsOnPlane, IsColumn}
use Rattle.tech_model.proofs.JoinedLaws.{joined-found, joined-type}
use Rattle.tech_model.proofs.WellFormedLaws.{layer_well_formed, type_bounds}
use Rattle.tech_model.proofs.SetLaws.{bit_cases, or_bit_right, mark_part_bit, mark_layer, set_not_empty}
use Rattle.tech_model.proofs.MarkLaws.{mark_of-contact, residue_set}
use Rattle.tech_model.proofs.ColumnLaws.{changed, kept_cases, kept_is_column, bit_type, brushed_is_column}
use Rattle.tech_model.proofs.WholeLaws.{unmarked_keeps}
use Rattle.cell_bodies.specs.CellPaint.Painting.{place_at, column_at}
use Rattle.cell_bodies.proofs.CellPaint.ColumnsLaws.{column_type}
use Rattle.cell_bodies.proofs.CellPaint.PaintLaws.{type_past_column, changed_inside, changed_outside}
use Rattle.cell_bodies.proofs.CellPaint.AgainLaws.{image_type}

-- ---- one contact's mark

-- a type without a contact's mark is no space, where it was none
unmarked_material : (raw : RawTech) (layer plane : ℕ) (old : TypeId) → IsWellFormed raw → HaveOwnSets raw → layer < length raw.layers
    → 1 < length (images_of raw layer)
    → (contact : IsContact raw layer) → IsOnPlane raw plane old.0 → old.0 ≢ 0 → (without_parts raw (2 ^ contact.bit) plane old).0 ≢ 0
unmarked_material raw layer plane old w own below many contact on is = elim (cases_Bool (is_subset (2 ^ contact.bit) (parts_of raw old.0))) [
  | inr none ↦ rw none is
  | inl part ↦
      let type = bit_type raw plane old.0 contact.bit on (mark_part_bit (parts_of raw old.0) contact.bit part) in
      let at = mark_layer raw layer old.0 contact type.0 (mark_part_bit (parts_of raw old.0) contact.bit part) in
      let image_in : In (type_number old.0) (images_of raw layer) = subst (λ (l : ℕ). In (type_number old.0) (images_of raw l)) at (w.is_image old.0 type.0) in
      let marked = All-In (λ (t : TypeId). IsMarked raw contact.bit t.0) (images_of raw layer) (type_number old.0) contact.images image_in in
      let left = residue_set raw layer old.0 contact many marked in
      let found : joined raw plane (without (parts_of raw old.0) (2 ^ contact.bit)) ≡ Some marked.residue =
      ap (joined raw plane) left ∙ ap (λ (p : ℕ). joined raw p (parts_of raw marked.residue)) (sym (marked.residue_plane ∙ type.1))
      ∙ joined-type raw marked.residue own marked.residue_type (set_not_empty raw marked.residue w marked.residue_type) in
      let some : marked.residue ≢ 0 = λ zero_is. let low = (type_bounds raw marked.residue marked.residue_type).0 in absurd (omega arith) in
      rw part (subst (λ (o : Option ℕ). unwrap_or o 0 ≢ 0) (sym found) some)
]

-- space has no mark
unmarked_space : (raw : RawTech) (bit plane : ℕ) (old : TypeId) → old.0 ≡ 0 → (without_parts raw (2 ^ bit) plane old).0 ≡ 0
unmarked_space raw bit plane old space =
    unmarked_keeps raw bit plane 0 old (λ set. let apart : ◌≡◌ {A = ℕ} 1 0 = sym set ∙ bit_at-zero bit in absurd (omega arith)) space

-- ---- the marks of all contacts

-- a fold keeps what each of its steps keeps
fold_keeps : {X Y : Type 0} (P : X → Type 0) (f : X → Y → X) (ys : List Y) (x : X) → P x → ((x : X) (y : Y) → In y ys → P x → P (f x y)) → P (fold f x ys)
fold_keeps P f [] x is each = is
fold_keeps P f (y ∷ ys) x is each = fold_keeps P f ys (f x y) (each x y (inl refl) is) (λ x z later has. each x z (inr later) has)

-- what holds of each type that is left by each contact's mark holds of what all leave
kept_each : (raw : RawTech) (plane : ℕ) (P : ℕ → Type 0) (column : List TypeId) → IsWellFormed raw
    → ((layer : ℕ) → layer < length raw.layers → 1 < length (images_of raw layer) → (contact : IsContact raw layer) → (plane : ℕ) (old : TypeId)
    → IsOnPlane raw plane old.0 → P old.0 → P (without_parts raw (2 ^ contact.bit) plane old).0)
    → IsColumn raw column → P (type_on column plane) → P (type_on (marks_kept raw column) plane)
kept_each raw plane P column w each is has =
    (fold_keeps (λ (c : List TypeId). IsColumn raw c × P (type_on c plane)) (λ (kept : List TypeId) (layer : LayerRec). layer_mark_kept raw layer.images kept)
    raw.layers column (is, has)
    (λ c rec rec_in so_far.
    let index = In-index rec raw.layers rec_in in
    let at : layer_at raw index.0 ≡ rec = index.1.1 no_layer in (
      kept_is_column raw rec.images c so_far.0,
      elim (kept_cases raw rec.images c) [
        | inl same ↦ subst (λ (d : List TypeId). P (type_on d plane)) (sym same.0) so_far.1
        | inr taken ↦
            let many : 1 < length (images_of raw index.0) = subst (λ (l : LayerRec). 1 < length l.images) (sym at) taken.1 in
            let contact = w.sets.contacts index.0 index.1.0 many in
            let mark : mark_of raw rec.images ≡ 2 ^ contact.bit =
            ap (λ (l : LayerRec). mark_of raw l.images) (sym at) ∙ mark_of-contact raw index.0 w index.1.0 many contact in
            subst (λ (d : List TypeId). P (type_on d plane)) (sym (taken.0 ∙ ap (λ (m : ℕ). on_planes_from 0 (without_parts raw m) c) mark))
            (changed (λ plane old new. IsOnPlane raw plane old → P old → P new) (without_parts raw (2 ^ contact.bit)) c
            (λ plane old on had. each index.0 index.1.0 many contact plane old on had) (λ plane on had. had) plane (so_far.0 plane) so_far.1)
      ],
    ))).1

-- looking at all marks leaves no space where there was none
marks_kept-material : (raw : RawTech) (plane : ℕ) (column : List TypeId) → IsWellFormed raw → HaveOwnSets raw → IsColumn raw column → type_on column plane ≢ 0
    → type_on (marks_kept raw column) plane ≢ 0
marks_kept-material raw plane column w own is some =
    kept_each raw plane (λ (t : ℕ). t ≢ 0) column w
    (λ layer below many contact plane old on had. unmarked_material raw layer plane old w own below many contact on had) is some

-- and space where there was space
marks_kept-space : (raw : RawTech) (plane : ℕ) (column : List TypeId) → IsWellFormed raw → IsColumn raw column → type_on column plane ≡ 0
    → type_on (marks_kept raw column) plane ≡ 0
marks_kept-space raw plane column w is space =
    kept_each raw plane (λ (t : ℕ). t ≡ 0) column w (λ layer below many contact plane old on had. unmarked_space raw contact.bit plane old had) is space

-- ---- painting a layer

-- a set with the parts of a type is not empty
union_not_empty : (a b : ℕ) → b ≢ 0 → bit_or a b ≢ 0
union_not_empty a b some none =
    some (same_from_bits b 0 (λ k. elim (bit_cases b k) [
      | inl clear ↦ clear ∙ sym (bit_at-zero k)
      | inr bit ↦ let apart : ◌≡◌ {A = ℕ} 1 0 = sym (or_bit_right a b k bit) ∙ ap (λ (n : ℕ). bit_at n k) none ∙ bit_at-zero k in absurd (omega arith)
    ]))

-- a type is no space
type_is_some : (raw : RawTech) (t : ℕ) → IsTrue (is_type raw t) → t ≢ 0
type_is_some raw t is space = let low = (type_bounds raw t is).0 in absurd (omega arith)

painted_option : (raw : RawTech) (plane old image : ℕ) (o : Option ℕ) → joined raw plane (bit_or (parts_of raw old) (parts_of raw image)) ≡ o → IsWellFormed raw
    → IsTrue (is_type raw image) → unwrap_or o image ≢ 0
painted_option raw plane old image None is w type = type_is_some raw image type
painted_option raw plane old image (Some t) is w type = λ space.
    let set = (joined-found raw plane (bit_or (parts_of raw old) (parts_of raw image)) t is).0 in
    union_not_empty (parts_of raw old) (parts_of raw image) (set_not_empty raw image w type) (sym set ∙ ap (parts_of raw) space)

-- paint of an image is no space
painted_material : (raw : RawTech) (plane : ℕ) (image old : TypeId) → IsWellFormed raw → IsTrue (is_type raw image.0) → (painted_by raw plane image old).0 ≢ 0
painted_material raw plane image old w type =
    painted_option raw plane old.0 image.0 (joined raw plane (bit_or (parts_of raw old.0) (parts_of raw image.0))) refl w type

painted_where : (raw : RawTech) (layer plane : ℕ) (old : TypeId) (o : Option TypeId) → image_on raw layer plane ≡ o → IsWellFormed raw
    → layer < length raw.layers
    → old.0 ≢ 0 → (where_image (painted_by raw plane) o old).0 ≢ 0
painted_where raw layer plane old None is w below some = some
painted_where raw layer plane old (Some image) is w below some =
    painted_material raw plane image old w (image_type raw layer image w below (find-In (is_on raw plane) (images_of raw layer) image is))

-- painting takes no material away
pub painted_column-material : (raw : RawTech) (layer plane : ℕ) (column : List TypeId) → IsWellFormed raw → HaveOwnSets raw → layer < length raw.layers
    → IsColumn raw column
    → type_on column plane ≢ 0 → type_on (painted_column raw layer column) plane ≢ 0
unfolding brushed_column
painted_column-material raw layer plane column w own below is some =
    marks_kept-material raw plane (on_planes_from 0 (λ plane old. where_image (painted_by raw plane) (image_on raw layer plane) old) column) w own
    (brushed_is_column raw PaintBrush layer column w below is)
    (changed (λ plane old new. old ≢ 0 → new ≢ 0) (λ plane old. where_image (painted_by raw plane) (image_on raw layer plane) old) column
    (λ plane old had. painted_where raw layer plane old (image_on raw layer plane) refl w below had) (λ plane had. had) plane some)

-- what a change leaves on each plane of a column
changed_within : (R : ℕ → ℕ → Type 0) (f : ℕ → TypeId → TypeId) (p : ℕ) (column : List TypeId) → ((plane : ℕ) (old : TypeId) → R plane (f plane old).0)
    → (k : ℕ) → k < length column → R (p + k) (type_on (on_planes_from p f column) k)
changed_within R f p [] each k below = absurd (omega arith)
changed_within R f p (old ∷ column) each zero below = let here : p ≡ p + 0 = omega arith in subst (λ (n : ℕ). R n (f p old).0) here (each p old)
changed_within R f p (old ∷ column) each (suc k) below =
    let next : p + 1 + k ≡ p + suc k = omega arith in
    subst (λ (n : ℕ). R n (type_on (on_planes_from (p + 1) f column) k)) next (changed_within R f (p + 1) column each k (omega arith))

filled_where : (raw : RawTech) (layer : ℕ) (image old : TypeId) (o : Option TypeId) → image_on raw layer (plane_of raw image.0) ≡ o → IsWellFormed raw
    → layer < length raw.layers
    → In image (images_of raw layer) → (where_image (painted_by raw (plane_of raw image.0)) o old).0 ≢ 0
filled_where raw layer image old None is w below image_in =
    absurd (true≢false (sym (eq-eqb (plane_of raw image.0) (plane_of raw image.0) refl)
    ∙ find-none (is_on raw (plane_of raw image.0)) (images_of raw layer) image is image_in))
filled_where raw layer image old (Some other) is w below image_in =
    painted_material raw (plane_of raw image.0) other old w
    (image_type raw layer other w below (find-In (is_on raw (plane_of raw image.0)) (images_of raw layer) other is))

-- painting leaves material on each plane of the layer
pub painted_column-fills : (raw : RawTech) (layer : ℕ) (image : TypeId) (column : List TypeId) → IsWellFormed raw → HaveOwnSets raw → layer < length raw.layers
    → IsColumn raw column → In image (images_of raw layer) → plane_of raw image.0 < length column
    → type_on (painted_column raw layer column) (plane_of raw image.0) ≢ 0
unfolding brushed_column
painted_column-fills raw layer image column w own below is image_in inside =
    let plane = plane_of raw image.0 in
    let f : ℕ → TypeId → TypeId = λ p old. where_image (painted_by raw p) (image_on raw layer p) old in
    marks_kept-material raw plane (on_planes_from 0 f column) w own (brushed_is_column raw PaintBrush layer column w below is)
    (changed_within (λ p new. p ≡ plane → new ≢ 0) f 0 column
    (λ p old at. subst (λ (q : ℕ). (where_image (painted_by raw q) (image_on raw layer q) old).0 ≢ 0) (sym at)
    (filled_where raw layer image old (image_on raw layer plane) refl w below image_in))
    plane inside (omega arith))

-- ---- erasing a layer

erased_space : (raw : RawTech) (plane : ℕ) (image old : TypeId) → IsWellFormed raw → IsTrue (is_type raw image.0) → old.0 ≡ 0
    → (erased_by raw plane image old).0 ≡ 0
erased_space raw plane image old w type space = elim (cases_Bool (is_subset (parts_of raw image.0) (parts_of raw old.0))) [
  | inr none ↦ rw none space
  | inl part ↦
      let empty : parts_of raw old.0 ≡ 0 = ap (parts_of raw) space in
      let meet : bit_and (parts_of raw image.0) (parts_of raw old.0) ≡ parts_of raw image.0 = eqb-true _ _ part in
      absurd (set_not_empty raw image.0 w type (sym meet ∙ ap (bit_and (parts_of raw image.0)) empty ∙ and_nothing (parts_of raw image.0)))
]
  where
    and_nothing : (a : ℕ) → bit_and a 0 ≡ 0
    and_nothing a = same_from_bits (bit_and a 0) 0 (λ k. let both = bit_at_and a 0 k in let none = bit_at-zero k in omega arith)

erased_where : (raw : RawTech) (layer plane : ℕ) (old : TypeId) (o : Option TypeId) → image_on raw layer plane ≡ o → IsWellFormed raw
    → layer < length raw.layers
    → old.0 ≡ 0 → (where_image (erased_by raw plane) o old).0 ≡ 0
erased_where raw layer plane old None is w below space = space
erased_where raw layer plane old (Some image) is w below space =
    erased_space raw plane image old w (image_type raw layer image w below (find-In (is_on raw plane) (images_of raw layer) image is)) space

-- erasing makes no material
pub erased_column-space : (raw : RawTech) (layer plane : ℕ) (column : List TypeId) → IsWellFormed raw → layer < length raw.layers → IsColumn raw column
    → type_on column plane ≡ 0 → type_on (erased_column raw layer column) plane ≡ 0
unfolding brushed_column
erased_column-space raw layer plane column w below is space =
    marks_kept-space raw plane (on_planes_from 0 (λ plane old. where_image (erased_by raw plane) (image_on raw layer plane) old) column) w
    (brushed_is_column raw EraseBrush layer column w below is)
    (changed (λ plane old new. old ≡ 0 → new ≡ 0) (λ plane old. where_image (erased_by raw plane) (image_on raw layer plane) old) column
    (λ plane old had. erased_where raw layer plane old (image_on raw layer plane) refl w below had) (λ plane had. had) plane space)

-- ---- layouts

module _ (raw : RawTech) (layer : ℕ) (area : Rect) (layout : Layout) (w : IsWellFormed raw) (below : layer < length raw.layers)
    (keeps : KeepsTypes raw.types layout) where
  -- painting takes no material away
  pub painted_keeps : (place : Place) → HaveOwnSets raw → place.plane < MOST_PLANES → IsMaterial layout place
      → IsMaterial (with_paint raw layer area layout) place
  painted_keeps place own few material = elim (cases_Bool (is_covered area place.square)) [
    | inr outside ↦ λ space. material (sym (changed_outside (painted_column raw layer) (is_covered area) layout place outside) ∙ space)
    | inl inside ↦ λ space.
        painted_column-material raw layer place.plane (column_at layout place.square) w own below (keeps raw refl place.square).0
        (λ none. material (sym (column_type layout place.square place.plane few) ∙ none))
        (sym (changed_inside (painted_column raw layer) (is_covered area) layout place inside) ∙ space)
  ]

  -- painting leaves material in the whole area, on each plane of the layer
  pub painted_fills : (image : TypeId) (square : Square) → HaveOwnSets raw → In image (images_of raw layer) → Covers area square
      → IsMaterial (with_paint raw layer area layout) (place_at (plane_of raw image.0) square)
  painted_fills image square own image_in covers space =
      let plane = plane_of raw image.0 in
      let inside = is_covered-Covers area square covers in
      let type = image_type raw layer image w below image_in in
      let few : plane < length raw.planes = w.type_planes image.0 type in
      let limit = w.planes_limit in
      painted_column-fills raw layer image (column_at layout square) w own below (keeps raw refl square).0 image_in (omega arith)
      (sym (changed_inside (painted_column raw layer) (is_covered area) layout (place_at plane square) inside) ∙ space)

  -- and nowhere else is there more
  pub painted_only : (place : Place) → IsMaterial (with_paint raw layer area layout) place → Covers area place.square ⊎ IsMaterial layout place
  painted_only place material = elim (cases_Bool (is_covered area place.square)) [
    | inl inside ↦ inl (Covers-is_covered area place.square inside)
    | inr outside ↦ inr (λ space. material (changed_outside (painted_column raw layer) (is_covered area) layout place outside ∙ space))
  ]

  -- erasing makes no material
  pub erased_only : (place : Place) → IsMaterial (with_erased raw layer area layout) place → IsMaterial layout place
  erased_only place material space = elim (cases_Bool (is_covered area place.square)) [
    | inr outside ↦ material (changed_outside (erased_column raw layer) (is_covered area) layout place outside ∙ space)
    | inl inside ↦
        let none : type_on (column_at layout place.square) place.plane ≡ 0 = elim (cases_lt place.plane MOST_PLANES) [
          | inl few ↦ column_type layout place.square place.plane few ∙ space
          | inr past ↦ type_past_column layout place.square place.plane past
        ] in
        material (changed_inside (erased_column raw layer) (is_covered area) layout place inside
        ∙ erased_column-space raw layer place.plane (column_at layout place.square) w below (keeps raw refl place.square).0 none)
  ]

-- a layer has an image
pub some_image : (raw : RawTech) (layer : ℕ) → IsWellFormed raw → layer < length raw.layers → (image : TypeId) × In image (images_of raw layer)
some_image raw layer w below =
    (get_or (images_of raw layer) 0 (type_number 0), In-get_or (images_of raw layer) 0 (type_number 0) (layer_well_formed raw layer w below).placed)
