-- The types of a square, shown layer by layer: paint of a layer whose images are to stand there shows them too.
use Rattle.cell_paint.proofs.Common.{◌≡◌, ◌⊎◌, ◌<◌, ◌≤◌, ℕ, true, false, Bool, Option, List, length, bit_or, max, refl, sym, ap, subst, ◌∙◌, arith}
use Rattle.cell_paint.proofs.Common.{inl, inr, Some, None, IsTrue, if◌then◌else◌, bit_at, cases_Bool, cases_lt, eqb-true, eq-eqb, get_or_past}
use Rattle.cell_paint.proofs.Common.{bit_at-zero, bit_at_or, same_from_bits, In, find-In, find-passes, TypeId, RawTech, is_type, type_number}
use Rattle.cell_paint.proofs.Common.{plane_of, IsWellFormed, HaveOwnSets, PaintBrush, type_on, IsOnPlane, IsColumn, HasWholeContacts, type_bounds}
use Rattle.cell_paint.proofs.Common.{brushed-length}
use Rattle.std.specs.Prelude.{◌==◌, ◌||◌, unwrap_or}
use Rattle.tech_model.specs.Types.{layer_of, parts_of, images_of, is_on, image_on, joined}
use Rattle.tech_model.specs.Columns.{painted_by, where_image, on_planes_from, brushed_column, painted_column}
use Rattle.tech_model.proofs.JoinedLaws.{joined-type}
use Rattle.tech_model.proofs.SetLaws.{set_not_empty}
use Rattle.tech_model.proofs.ColumnLaws.{brushed_is_column}
use Rattle.cell_paint.proofs.AgainLaws.{paint, changed_at, image_type, marks_kept-still, found_image, union_with_part}

-- where one image of a contact stands, all its images stand
abbrev pub StandWhole : RawTech → (ℕ → ℕ) → Type 0
StandWhole raw types =
    (s t : ℕ) → IsTrue (is_type raw s) → IsTrue (is_type raw t) → layer_of raw s ≡ layer_of raw t → types (plane_of raw s) ≡ s
    → types (plane_of raw t) ≡ t

-- all images of the layer are to stand
abbrev pub Stands : RawTech → (ℕ → ℕ) → ℕ → Type 0
Stands raw types layer = (image : TypeId) → In image (images_of raw layer) → types (plane_of raw image.0) ≡ image.0

-- the type of a plane where its layer is shown, and else space
abbrev pub shown : RawTech → (ℕ → Bool) → (ℕ → ℕ) → ℕ → ℕ
shown raw shows types plane = if shows (layer_of raw (types plane)) then types plane else 0

-- one more layer is shown
abbrev pub with_layer : (ℕ → Bool) → ℕ → ℕ → Bool
with_layer shows layer other = other == layer || shows other

-- a type whose layer is shown stands
pub shown_there : (raw : RawTech) (shows : ℕ → Bool) (types : ℕ → ℕ) (plane : ℕ) → shows (layer_of raw (types plane)) ≡ true
    → shown raw shows types plane ≡ types plane
shown_there raw shows types plane is = ap (λ (b : Bool). if b then types plane else 0) is

-- and in the place of any other there is space
pub shown_else : (raw : RawTech) (shows : ℕ → Bool) (types : ℕ → ℕ) (plane : ℕ) → shows (layer_of raw (types plane)) ≡ false
    → shown raw shows types plane ≡ 0
shown_else raw shows types plane is = ap (λ (b : Bool). if b then types plane else 0) is

shown_cases : (raw : RawTech) (shows : ℕ → Bool) (types : ℕ → ℕ) (plane : ℕ)
    → (shown raw shows types plane ≡ 0) ⊎ (shown raw shows types plane ≡ types plane)
shown_cases raw shows types plane = elim (cases_Bool (shows (layer_of raw (types plane)))) [
  | inl is ↦ inr (shown_there raw shows types plane is)
  | inr is ↦ inl (shown_else raw shows types plane is)
]

-- space is shown as space
pub shown_space : (raw : RawTech) (shows : ℕ → Bool) (types : ℕ → ℕ) (plane : ℕ) → types plane ≡ 0 → shown raw shows types plane ≡ 0
shown_space raw shows types plane space = elim (shown_cases raw shows types plane) [ inl is ↦ is | inr is ↦ is ∙ space ]

max_zero : (x : ℕ) → max 0 x ≡ x
max_zero x = omega arith

-- the union with the empty set is the set
or_empty : (n : ℕ) → bit_or 0 n ≡ n
or_empty n = same_from_bits (bit_or 0 n) n (λ k. bit_at_or 0 n k ∙ ap (λ (x : ℕ). max x (bit_at n k)) (bit_at-zero k) ∙ max_zero (bit_at n k))

module _ (raw : RawTech) (w : IsWellFormed raw) (own : HaveOwnSets raw) (types : ℕ → ℕ) (on : (plane : ℕ) → IsOnPlane raw plane (types plane)) where
  joined_image : (plane old image : ℕ) → IsTrue (is_type raw image) → plane_of raw image ≡ plane → (old ≡ 0) ⊎ (old ≡ image)
      → bit_or (parts_of raw old) (parts_of raw image) ≡ parts_of raw image
  joined_image plane old image is at (inl space) = ap (λ (t : ℕ). bit_or (parts_of raw t) (parts_of raw image)) space ∙ or_empty (parts_of raw image)
  joined_image plane old image is at (inr same) =
      ap (λ (t : ℕ). bit_or (parts_of raw t) (parts_of raw image)) same ∙ union_with_part (parts_of raw image) (parts_of raw image) (λ k bit. bit)

  -- paint over space or over the image itself is the image
  painted_image : (plane : ℕ) (image old : TypeId) → IsTrue (is_type raw image.0) → plane_of raw image.0 ≡ plane → (old.0 ≡ 0) ⊎ (old.0 ≡ image.0)
      → (painted_by raw plane image old).0 ≡ image.0
  painted_image plane image old is at was =
      let found : joined raw plane (bit_or (parts_of raw old.0) (parts_of raw image.0)) ≡ Some image.0 =
      ap (joined raw plane) (joined_image plane old.0 image.0 is at was) ∙ ap (λ (p : ℕ). joined raw p (parts_of raw image.0)) (sym at)
      ∙ joined-type raw image.0 own is (set_not_empty raw image.0 w is) in
      ap (λ (o : Option ℕ). unwrap_or o image.0) found

  shown_on : (shows : ℕ → Bool) (plane : ℕ) → IsOnPlane raw plane (shown raw shows types plane)
  shown_on shows plane = elim (shown_cases raw shows types plane) [
    | inl space ↦ inl space
    | inr is ↦ subst (IsOnPlane raw plane) (sym is) (on plane)
  ]

  same_shown : (shows : ℕ → Bool) (layer plane : ℕ) → (layer_of raw (types plane) == layer) ≡ false
      → shown raw shows types plane ≡ shown raw (with_layer shows layer) types plane
  same_shown shows layer plane other = ap (λ (b : Bool). if b || shows (layer_of raw (types plane)) then types plane else 0) (sym other)

  more_shown : (shows : ℕ → Bool) (layer plane : ℕ) → layer_of raw (types plane) ≡ layer
      → shown raw (with_layer shows layer) types plane ≡ types plane
  more_shown shows layer plane same =
      ap (λ (b : Bool). if b || shows (layer_of raw (types plane)) then types plane else 0) (eq-eqb (layer_of raw (types plane)) layer same)

  no_image : (shows : ℕ → Bool) (layer plane : ℕ) → layer < length raw.layers → image_on raw layer plane ≡ None → IsOnPlane raw plane (types plane)
      → shown raw shows types plane ≡ shown raw (with_layer shows layer) types plane
  no_image shows layer plane below none (inl space) = shown_space raw shows types plane space
      ∙ sym (shown_space raw (with_layer shows layer) types plane space)
  no_image shows layer plane below none (inr type) = elim (cases_Bool (layer_of raw (types plane) == layer)) [
    | inr other ↦ same_shown shows layer plane other
    | inl same ↦
        let at : layer_of raw (types plane) ≡ layer = eqb-true (layer_of raw (types plane)) layer same in
        let image_in : In (type_number (types plane)) (images_of raw layer) =
        subst (λ (l : ℕ). In (type_number (types plane)) (images_of raw l)) at (w.is_image (types plane) type.0) in
        let found : image_on raw layer (plane_of raw (types plane)) ≡ Some (type_number (types plane)) =
        found_image raw layer (type_number (types plane)) _ w below image_in refl in
        let there : image_on raw layer plane ≡ Some (type_number (types plane)) = ap (image_on raw layer) (sym type.1) ∙ found in
        absurd (cc)
  ]

  -- what paint of a layer that is to stand leaves on a plane
  laid_on : (shows : ℕ → Bool) (layer plane : ℕ) (old : TypeId) (o : Option TypeId) → layer < length raw.layers → Stands raw types layer
      → image_on raw layer plane ≡ o
      → old.0 ≡ shown raw shows types plane → (where_image (painted_by raw plane) o old).0 ≡ shown raw (with_layer shows layer) types plane
  laid_on shows layer plane old None below stands none is = is ∙ no_image shows layer plane below none (on plane)
  laid_on shows layer plane old (Some image) below stands found is =
      let image_in = find-In (is_on raw plane) (images_of raw layer) image found in
      let at = eqb-true (plane_of raw image.0) plane (find-passes (is_on raw plane) (images_of raw layer) image found) in
      let type = image_type raw layer image w below image_in in
      let here : types plane ≡ image.0 = ap types (sym at) ∙ stands image image_in in
      let was : (old.0 ≡ 0) ⊎ (old.0 ≡ image.0) =
      elim (shown_cases raw shows types plane) [ inl space ↦ inl (is ∙ space) | inr same ↦ inr (is ∙ same ∙ here) ] in
      painted_image plane image old type at was ∙ sym here
      ∙ sym (more_shown shows layer plane (ap (layer_of raw) here ∙ w.of_one_layer layer image.0 below image_in))

  module _ (whole : StandWhole raw types) (shows : ℕ → Bool) (layer : ℕ) (below : layer < length raw.layers) (stands : Stands raw types layer)
      (column : List TypeId)
      (long : length raw.planes ≤ length column) (is : (plane : ℕ) → type_on column plane ≡ shown raw shows types plane) where
    laid_at : (plane : ℕ) → plane < length column
        → type_on (on_planes_from 0 (paint raw layer) column) plane ≡ shown raw (with_layer shows layer) types plane
    laid_at plane inside =
        changed_at (paint raw layer) column plane inside
        ∙ laid_on shows layer plane (type_number (type_on column plane)) (image_on raw layer plane) below stands refl (is plane)

    type_inside : (t : ℕ) → IsTrue (is_type raw t) → plane_of raw t < length column
    type_inside t t_is = let placed = w.type_planes t t_is in omega arith

    laid_whole : HasWholeContacts raw (on_planes_from 0 (paint raw layer) column)
    laid_whole s t s_is t_is layers at =
        let now = with_layer shows layer in
        let here : shown raw now types (plane_of raw s) ≡ s = sym (laid_at (plane_of raw s) (type_inside s s_is)) ∙ at in
        elim (cases_Bool (now (layer_of raw (types (plane_of raw s))))) [
          | inr hidden ↦ (
              let low = (type_bounds raw s s_is).0 in
              let space : s ≡ 0 = sym here ∙ shown_else raw now types (plane_of raw s) hidden in absurd (omega arith))
          | inl seen ↦ (
              let s_there : types (plane_of raw s) ≡ s = sym (shown_there raw now types (plane_of raw s) seen) ∙ here in
              let t_there = whole s t s_is t_is layers s_there in
              let also : now (layer_of raw (types (plane_of raw t))) ≡ true =
              ap (λ (u : ℕ). now (layer_of raw u)) t_there ∙ ap now (sym layers) ∙ ap (λ (u : ℕ). now (layer_of raw u)) (sym s_there) ∙ seen in
              laid_at (plane_of raw t) (type_inside t t_is) ∙ shown_there raw now types (plane_of raw t) also ∙ t_there)
        ]

    is_column : IsColumn raw column
    is_column plane = subst (IsOnPlane raw plane) (sym (is plane)) (shown_on shows plane)

    past_types : (plane : ℕ) → length column ≤ plane → IsOnPlane raw plane (types plane) → types plane ≡ 0
    past_types plane past (inl space) = space
    past_types plane past (inr type) = let placed = w.type_planes (types plane) type.0 in let at = type.1 in absurd (omega arith)

    -- paint of a layer whose images are to stand shows them besides what was shown
    pub painted_column-shown : (plane : ℕ) → type_on (painted_column raw layer column) plane ≡ shown raw (with_layer shows layer) types plane
    unfolding brushed_column
    painted_column-shown plane = elim (cases_lt plane (length column)) [
      | inl inside ↦
          ap (λ (c : List TypeId). type_on c plane)
          (marks_kept-still raw (on_planes_from 0 (paint raw layer) column) w (brushed_is_column raw PaintBrush layer column w below is_column) laid_whole)
          ∙ laid_at plane inside
      | inr past ↦ (
          let beyond : length column ≤ plane = omega arith in
          let long_still = brushed-length raw PaintBrush layer column in
          ap (λ (t : TypeId). t.0) (get_or_past (painted_column raw layer column) plane (type_number 0) (omega arith))
          ∙ sym (shown_space raw (with_layer shows layer) types plane (past_types plane beyond (on plane))))
    ]
