-- Contacts stand whole after each contact's mark was looked at.
use Rattle.tech_model.proofs.Common.{◌≡◌, ◌≢◌, ◌⊎◌, ◌+◌, ◌^◌, ◌<◌, ◌≤◌, ℕ, zero, suc, Bool, true, Option, List, [], ◌∷◌, length, take, fold, refl}
use Rattle.tech_model.proofs.Common.{sym, ap, subst, ◌∙◌, arith, inl, inr, Some, None, IsTrue, unwrap_or, list_all, bit_at, take-length, cases_Bool}
use Rattle.tech_model.proofs.Common.{cases_eq, and_parts, true≢false, fold_more, bit_at-zero, bit_at-pow_same, In, TypeId, LayerRec, RawTech}
use Rattle.tech_model.proofs.Common.{is_type, plane_of, layer_of, parts_of, images_of, no_layer, joined, is_subset, without, IsWellFormed, IsContact}
use Rattle.tech_model.proofs.Common.{Brush, mark_of, layer_mark_kept, IsOnPlane, IsColumn, HasWholeContacts}
use Rattle.geo_core.proofs.FiniteSets.Searches.{list_all-In}
use Rattle.tech_model.specs.Columns.{on_planes_from, type_on, without_parts, marks_kept, brushed_column}
use Rattle.tech_model.proofs.JoinedLaws.{joined-found}
use Rattle.tech_model.proofs.WithinLaws.{one_image}
use Rattle.tech_model.proofs.SetLaws.{bit_cases, without_bit, without_bit_source, mark_part, mark_part_bit, image_mark, mark_layer, type_cases}
use Rattle.tech_model.proofs.MarkLaws.{mark_of-contact}
use Rattle.tech_model.proofs.ColumnLaws.{changed, kept_cases, kept_is_column, bit_type, brushed_is_column}

-- Where one image of the layer stands, all of them stand.
abbrev pub IsWhole : RawTech → ℕ → List TypeId → Type 0
IsWhole raw layer column =
    (s t : ℕ) → IsTrue (is_type raw s) → IsTrue (is_type raw t) → layer_of raw s ≡ layer → layer_of raw t ≡ layer
    → type_on column (plane_of raw s) ≡ s → type_on column (plane_of raw t) ≡ t

-- the types of a layer with one image are one
one_of_one : (xs : List TypeId) (a b : TypeId) → length xs ≡ 1 → In a xs → In b xs → a ≡ b
one_of_one [] a b one none b_in = absurd none
one_of_one (x ∷ []) a b one (inl a_is) (inl b_is) = sym a_is ∙ b_is
one_of_one (x ∷ []) a b one (inl a_is) (inr none) = absurd none
one_of_one (x ∷ []) a b one (inr none) b_in = absurd none
one_of_one (x ∷ y ∷ xs) a b one a_in b_in = absurd (omega arith)

one_type : (raw : RawTech) (layer s t : ℕ) → IsWellFormed raw → IsTrue (is_type raw s) → IsTrue (is_type raw t) → layer_of raw s ≡ layer
    → layer_of raw t ≡ layer
    → length (images_of raw layer) ≡ 1 → s ≡ t
one_type raw layer s t w s_is t_is s_layer t_layer one =
    let s_in : In (record { 0 = s }) (images_of raw layer) = subst (λ (l : ℕ). In (record { 0 = s }) (images_of raw l)) s_layer (w.is_image s s_is) in
    let t_in : In (record { 0 = t }) (images_of raw layer) = subst (λ (l : ℕ). In (record { 0 = t }) (images_of raw l)) t_layer (w.is_image t t_is) in
    ap (λ (image : TypeId). image.0) (one_of_one (images_of raw layer) (record { 0 = s }) (record { 0 = t }) one s_in t_in)

layer_cases : (raw : RawTech) (layer t : ℕ) → IsWellFormed raw → IsTrue (is_type raw t) → layer_of raw t ≡ layer
    → (length (images_of raw layer) ≡ 1) ⊎ (1 < length (images_of raw layer))
layer_cases raw layer t w is at =
    subst (λ (l : ℕ). (length (images_of raw l) ≡ 1) ⊎ (1 < length (images_of raw l))) at (type_cases raw t w is)

whole_of_one : (raw : RawTech) (layer : ℕ) (column : List TypeId) → IsWellFormed raw → length (images_of raw layer) ≡ 1 → IsWhole raw layer column
whole_of_one raw layer column w one s t s_is t_is s_layer t_layer stands =
    subst (λ (n : ℕ). type_on column (plane_of raw n) ≡ n) (one_type raw layer s t w s_is t_is s_layer t_layer one) stands

-- ---- the type of a plane without a mark

-- the set of the type that is left, where the mark was there
left_option : (raw : RawTech) (plane set : ℕ) (o : Option ℕ) → joined raw plane set ≡ o
    → (unwrap_or o 0 ≡ 0) ⊎ (parts_of raw (unwrap_or o 0) ≡ set)
left_option raw plane set None is = inl refl
left_option raw plane set (Some t) is = inr (joined-found raw plane set t is).0

-- a type without the mark is space, or has the set without the mark
pub left_set : (raw : RawTech) (mark plane : ℕ) (old : TypeId) → is_subset mark (parts_of raw old.0) ≡ true
    → ((without_parts raw mark plane old).0 ≡ 0) ⊎ (parts_of raw (without_parts raw mark plane old).0 ≡ without (parts_of raw old.0) mark)
left_set raw mark plane old part = rw part
    (left_option raw plane (without (parts_of raw old.0) mark) (joined raw plane (without (parts_of raw old.0) mark)) refl)

-- it has the mark no more
unmarked_clear : (raw : RawTech) (bit plane : ℕ) (old : TypeId) → bit_at (parts_of raw (without_parts raw (2 ^ bit) plane old).0) bit ≡ 0
unmarked_clear raw bit plane old = elim (cases_Bool (is_subset (2 ^ bit) (parts_of raw old.0))) [
  | inl part ↦ elim (left_set raw (2 ^ bit) plane old part) [
    | inl space ↦ ap (λ (t : ℕ). bit_at (parts_of raw t) bit) space ∙ bit_at-zero bit
    | inr left ↦ ap (λ (set : ℕ). bit_at set bit) left ∙ without_bit (parts_of raw old.0) (2 ^ bit) bit (bit_at-pow_same bit)
  ]
  | inr none ↦ elim (bit_cases (parts_of raw old.0) bit) [
    | inl clear ↦ rw none clear
    | inr set ↦ absurd (true≢false (sym (mark_part (parts_of raw old.0) bit set) ∙ none))
  ]
]

-- a type without the mark stays
pub unmarked_keeps : (raw : RawTech) (bit plane t : ℕ) (old : TypeId) → bit_at (parts_of raw t) bit ≢ 1 → old.0 ≡ t
    → (without_parts raw (2 ^ bit) plane old).0 ≡ t
unmarked_keeps raw bit plane t old clear same = elim (cases_Bool (is_subset (2 ^ bit) (parts_of raw old.0))) [
  | inl part ↦ absurd (clear (ap (λ (n : ℕ). bit_at (parts_of raw n) bit) (sym same) ∙ mark_part_bit (parts_of raw old.0) bit part))
  | inr none ↦ rw none same
]

-- an image of another contact that stands now stood before
unmarked_back : (raw : RawTech) (layer other plane s : ℕ) (old : TypeId) (contact : IsContact raw layer) (second : IsContact raw other) → layer ≢ other
    → IsOnPlane raw plane old.0 → bit_at (parts_of raw s) second.bit ≡ 1 → (without_parts raw (2 ^ contact.bit) plane old).0 ≡ s → old.0 ≡ s
unmarked_back raw layer other plane s old contact second apart on marked is = elim (cases_Bool (is_subset (2 ^ contact.bit) (parts_of raw old.0))) [
  | inr none ↦ rw none at is
  | inl part ↦
      let bit = mark_part_bit (parts_of raw old.0) contact.bit part in
      let type = bit_type raw plane old.0 contact.bit on bit in
      elim (left_set raw (2 ^ contact.bit) plane old part) [
        | inl space ↦
            let empty : ◌≡◌ {A = ℕ} 1 0 = sym marked ∙ ap (λ (n : ℕ). bit_at (parts_of raw n) second.bit) (sym is ∙ space) ∙ bit_at-zero second.bit in
            absurd (omega arith)
        | inr left ↦
            let had = without_bit_source (parts_of raw old.0) (2 ^ contact.bit) second.bit
            (sym (ap (λ (set : ℕ). bit_at set second.bit) (ap (parts_of raw) (sym is) ∙ left)) ∙ marked) in
            absurd (apart (sym (mark_layer raw layer old.0 contact type.0 bit) ∙ mark_layer raw other old.0 second type.0 had))
      ]
]

-- ---- one step

-- another contact that stood whole does so still
whole_kept : (raw : RawTech) (layer other : ℕ) (column : List TypeId) → IsWellFormed raw → layer < length raw.layers → other < length raw.layers → layer ≢ other
    → IsColumn raw column → IsWhole raw other column → IsWhole raw other (layer_mark_kept raw (images_of raw layer) column)
whole_kept raw layer other column w below other_below apart is whole s t s_is t_is s_layer t_layer stands =
    elim (kept_cases raw (images_of raw layer) column) [
      | inl same ↦
          subst (λ (c : List TypeId). type_on c (plane_of raw t) ≡ t) (sym same.0)
          (whole s t s_is t_is s_layer t_layer (subst (λ (c : List TypeId). type_on c (plane_of raw s) ≡ s) same.0 stands))
      | inr taken ↦ elim (layer_cases raw other t w t_is t_layer) [
        | inl one ↦ whole_of_one raw other (layer_mark_kept raw (images_of raw layer) column) w one s t s_is t_is s_layer t_layer stands
        | inr many ↦
            let contact = w.sets.contacts layer below taken.1 in
            let second = w.sets.contacts other other_below many in
            let new = taken.0 ∙ ap (λ (mark : ℕ). on_planes_from 0 (without_parts raw mark) column) (mark_of-contact raw layer w below taken.1 contact) in
            let s_in : In (record { 0 = s }) (images_of raw other) = subst (λ (l : ℕ). In (record { 0 = s }) (images_of raw l)) s_layer (w.is_image s s_is) in
            let marked = image_mark raw other s second s_in in
            let clear : bit_at (parts_of raw t) contact.bit ≢ 1 = λ bit. apart (sym (mark_layer raw layer t contact t_is bit) ∙ t_layer) in
            let before : type_on column (plane_of raw s) ≡ s =
            changed (λ plane old new. IsOnPlane raw plane old → (new ≡ s → old ≡ s)) (without_parts raw (2 ^ contact.bit)) column
            (λ plane old on now. unmarked_back raw layer other plane s old contact second apart on marked now) (λ plane on same. same) (plane_of raw s)
            (is (plane_of raw s))
            (subst (λ (c : List TypeId). type_on c (plane_of raw s) ≡ s) new stands) in
            let after = changed (λ plane old new. old ≡ t → new ≡ t) (without_parts raw (2 ^ contact.bit)) column
            (λ plane old same. unmarked_keeps raw contact.bit plane t old clear same) (λ plane same. same) (plane_of raw t)
            (whole s t s_is t_is s_layer t_layer before) in
            subst (λ (c : List TypeId). type_on c (plane_of raw t) ≡ t) (sym new) after
      ]
    ]

-- the contact itself stands whole
whole_here : (raw : RawTech) (layer : ℕ) (column : List TypeId) → IsWellFormed raw → layer < length raw.layers → IsColumn raw column
    → IsWhole raw layer (layer_mark_kept raw (images_of raw layer) column)
whole_here raw layer column w below is s t s_is t_is s_layer t_layer stands = elim (layer_cases raw layer t w t_is t_layer) [
  | inl one ↦ whole_of_one raw layer (layer_mark_kept raw (images_of raw layer) column) w one s t s_is t_is s_layer t_layer stands
  | inr many ↦
      let contact = w.sets.contacts layer below many in
      let mark = mark_of-contact raw layer w below many contact in
      let s_in : In (record { 0 = s }) (images_of raw layer) = subst (λ (l : ℕ). In (record { 0 = s }) (images_of raw l)) s_layer (w.is_image s s_is) in
      let t_in : In (record { 0 = t }) (images_of raw layer) = subst (λ (l : ℕ). In (record { 0 = t }) (images_of raw l)) t_layer (w.is_image t t_is) in
      elim (kept_cases raw (images_of raw layer) column) [
        | inl (same, inl few) ↦ absurd (omega arith)
        | inl (same, inr everywhere) ↦
            let here = type_on column (plane_of raw t) in
            let part = list_all-In (λ (image : TypeId). is_subset (mark_of raw (images_of raw layer)) (parts_of raw (type_on column (plane_of raw image.0))))
            (images_of raw layer) (record { 0 = t }) everywhere t_in in
            let bit = mark_part_bit (parts_of raw here) contact.bit (subst (λ (m : ℕ). is_subset m (parts_of raw here) ≡ true) mark part) in
            let type = bit_type raw (plane_of raw t) here contact.bit (is (plane_of raw t)) bit in
            subst (λ (c : List TypeId). type_on c (plane_of raw t) ≡ t) (sym same)
            (one_image raw here t w type.0 t_is (mark_layer raw layer here contact type.0 bit ∙ sym t_layer) type.1)
        | inr taken ↦
            let new = taken.0 ∙ ap (λ (mark : ℕ). on_planes_from 0 (without_parts raw mark) column) mark in
            let clear : bit_at (parts_of raw (type_on (on_planes_from 0 (without_parts raw (2 ^ contact.bit)) column) (plane_of raw s))) contact.bit ≡ 0 =
            changed (λ plane old new. bit_at (parts_of raw new) contact.bit ≡ 0) (without_parts raw (2 ^ contact.bit)) column
            (λ plane old. unmarked_clear raw contact.bit plane old) (λ plane. bit_at-zero contact.bit) (plane_of raw s) in
            let stood = subst (λ (c : List TypeId). type_on c (plane_of raw s) ≡ s) new stands in
            let apart : ◌≡◌ {A = ℕ} 1 0 = sym (image_mark raw layer s contact s_in) ∙ sym (ap (λ (n : ℕ). bit_at (parts_of raw n) contact.bit) stood) ∙ clear in
            absurd (omega arith)
      ]
]

-- ---- all contacts

keep : RawTech → List TypeId → LayerRec → List TypeId
keep raw kept layer = layer_mark_kept raw layer.images kept

marks_from : (raw : RawTech) (column : List TypeId) → IsWellFormed raw → IsColumn raw column → (n : ℕ) → n ≤ length raw.layers
    → IsColumn raw (fold (keep raw) column (take n raw.layers)) × ((layer : ℕ) → layer < n → IsWhole raw layer (fold (keep raw) column (take n raw.layers)))
unfolding keep
marks_from raw column w is zero below = (is, λ layer none. absurd (omega arith))
marks_from raw column w is (suc n) below =
    let so_far = marks_from raw column w is n (omega arith) in
    let before : List TypeId = fold (keep raw) column (take n raw.layers) in
    let next : suc n ≡ n + 1 = omega arith in
    let step : fold (keep raw) column (take (suc n) raw.layers) ≡ layer_mark_kept raw (images_of raw n) before =
    ap (λ (m : ℕ). fold (keep raw) column (take m raw.layers)) next ∙ fold_more (keep raw) column raw.layers n no_layer (omega arith) in (
      subst (IsColumn raw) (sym step) (kept_is_column raw (images_of raw n) before so_far.0),
      λ layer layer_below. subst (IsWhole raw layer) (sym step) (elim (cases_eq n layer) [
        | inl same ↦ subst (λ (l : ℕ). IsWhole raw l (layer_mark_kept raw (images_of raw n) before)) same (whole_here raw n before w (omega arith) so_far.0)
        | inr other ↦ whole_kept raw n layer before w (omega arith) (omega arith) other so_far.0 (so_far.1 layer (omega arith))
      ]),
    )

-- after each contact was looked at all contacts stand whole
pub marks_kept-whole : (raw : RawTech) (column : List TypeId) → IsWellFormed raw → IsColumn raw column
    → IsColumn raw (marks_kept raw column) × HasWholeContacts raw (marks_kept raw column)
unfolding keep
marks_kept-whole raw column w is =
    let all = marks_from raw column w is (length raw.layers) (omega arith) in
    let end : fold (keep raw) column (take (length raw.layers) raw.layers) ≡ marks_kept raw column = ap (fold (keep raw) column) (take-length raw.layers) in (
      subst (IsColumn raw) end all.0,
      λ s t s_is t_is layers stands.
          subst (IsWhole raw (layer_of raw t)) end (all.1 (layer_of raw t) (w.type_layers t t_is)) s t s_is t_is layers refl stands,
    )

-- a brush leaves a column in which all contacts stand whole
pub brushed_column-whole : (raw : RawTech) (brush : Brush) (layer : ℕ) (column : List TypeId) → IsWellFormed raw → layer < length raw.layers
    → IsColumn raw column
    → IsColumn raw (brushed_column raw brush layer column) × HasWholeContacts raw (brushed_column raw brush layer column)
unfolding brushed_column
brushed_column-whole raw brush layer column w below is = marks_kept-whole raw _ w (brushed_is_column raw brush layer column w below is)
