-- What paint and erasing leave on a plane depends on that plane alone, where contacts stand whole.
use Rattle.tech_model.proofs.Common.{◌≡◌, ◌≢◌, ◌⊎◌, ◌+◌, ◌^◌, ◌<◌, ◌≤◌, ℕ, zero, suc, Bool, Option, List, [], ◌∷◌, length, take, fold, bit_or, refl}
use Rattle.tech_model.proofs.Common.{sym, ap, subst, ◌∙◌, arith, inl, inr, add-zero, Some, None, IsTrue, nat_lt, unwrap_or, list_all, bit_at}
use Rattle.tech_model.proofs.Common.{take-length, cases_Bool, cases_eq, true≢false, eq-eqb, fold_more, bit_at-zero, In, find-In, find-none, All-In}
use Rattle.tech_model.proofs.Common.{TypeId, LayerRec, RawTech, is_type, type_number, plane_of, layer_of, parts_of, images_of, no_layer, is_on}
use Rattle.tech_model.proofs.Common.{image_on, joined, is_subset, without, IsWellFormed, IsContact, Brush, Paint, Erase, mark_of, layer_mark_kept}
use Rattle.tech_model.proofs.Common.{IsOnPlane, IsColumn, HasWholeContacts}
use Rattle.std.specs.Prelude.{◌&&◌}
use Rattle.std.proofs.lemmas.Bool.{ltb-true}
use Rattle.tech_model.specs.Columns.{painted_by, erased_by, brushed_by, where_image, on_planes_from, type_on, has_mark_everywhere, without_parts}
use Rattle.tech_model.specs.Columns.{marks_kept, brushed_column}
use Rattle.tech_model.proofs.JoinedLaws.{joined-found}
use Rattle.tech_model.proofs.WellFormedLaws.{layer_well_formed}
use Rattle.tech_model.proofs.SetLaws.{bit_cases, without_bit_source, or_bit_cases, or_bit_right, mark_part, mark_part_bit, image_mark, mark_layer}
use Rattle.tech_model.proofs.MarkLaws.{mark_of-contact}
use Rattle.tech_model.proofs.ColumnLaws.{changed, kept_cases, kept_is_column, bit_type, brushed_is_column}
use Rattle.tech_model.proofs.WholeLaws.{left_set, unmarked_keeps}

-- the bit of the set of a type
abbrev bit_of : RawTech → ℕ → ℕ → ℕ
bit_of raw k t = bit_at (parts_of raw t) k

-- what a brush does on a plane with a layer
abbrev brushed_on : RawTech → Brush → ℕ → ℕ → TypeId → TypeId
brushed_on raw brush layer plane old = where_image (brushed_by raw brush plane) (image_on raw layer plane) old

-- the column after the marks of the first n layers were looked at
abbrev marks_of_first : RawTech → List TypeId → ℕ → List TypeId
marks_of_first raw column n = fold (λ (kept : List TypeId) (layer : LayerRec). layer_mark_kept raw layer.images kept) column (take n raw.layers)

-- ---- lengths

on_planes-length : (p : ℕ) (f : ℕ → TypeId → TypeId) (column : List TypeId) → length (on_planes_from p f column) ≡ length column
on_planes-length p f [] = refl
on_planes-length p f (old ∷ column) = ap (λ (n : ℕ). suc n) (on_planes-length (p + 1) f column)

kept-length : (raw : RawTech) (images column : List TypeId) → length (layer_mark_kept raw images column) ≡ length column
kept-length raw images column = elim (kept_cases raw images column) [
  | inl same ↦ ap (λ (c : List TypeId). length c) same.0
  | inr taken ↦ ap (λ (c : List TypeId). length c) taken.0 ∙ on_planes-length 0 (without_parts raw (mark_of raw images)) column
]

marks_of-length : (raw : RawTech) (column : List TypeId) (layers : List LayerRec)
    → length (fold (λ (kept : List TypeId) (layer : LayerRec). layer_mark_kept raw layer.images kept) column layers) ≡ length column
marks_of-length raw column [] = refl
marks_of-length raw column (layer ∷ layers) =
    marks_of-length raw (layer_mark_kept raw layer.images column) layers ∙ kept-length raw layer.images column

-- a brush keeps the length of a column
pub brushed-length : (raw : RawTech) (brush : Brush) (layer : ℕ) (column : List TypeId) → length (brushed_column raw brush layer column) ≡ length column
unfolding brushed_column
brushed-length raw brush layer column =
    marks_of-length raw (on_planes_from 0 (brushed_on raw brush layer) column) raw.layers ∙ on_planes-length 0 (brushed_on raw brush layer) column

-- ---- two columns of one length

changed_both_from : (R : ℕ → ℕ → ℕ → ℕ → ℕ → Type 0) (f : ℕ → TypeId → TypeId) (p : ℕ) (a b : List TypeId) → length a ≡ length b
    → ((plane : ℕ) (x y : TypeId) → R plane x.0 y.0 (f plane x).0 (f plane y).0) → ((plane : ℕ) → R plane 0 0 0 0)
    → (k : ℕ) → R (p + k) (type_on a k) (type_on b k) (type_on (on_planes_from p f a) k) (type_on (on_planes_from p f b) k)
changed_both_from R f p [] [] long each space k = space (p + k)
changed_both_from R f p [] (y ∷ b) long each space k = absurd (omega arith)
changed_both_from R f p (x ∷ a) [] long each space k = absurd (omega arith)
changed_both_from R f p (x ∷ a) (y ∷ b) long each space zero = subst (λ (n : ℕ). R n x.0 y.0 (f p x).0 (f p y).0) (sym (add-zero p)) (each p x y)
changed_both_from R f p (x ∷ a) (y ∷ b) long each space (suc k) =
    let next : p + 1 + k ≡ p + suc k = omega arith in
    subst (λ (n : ℕ). R n (type_on a k) (type_on b k) (type_on (on_planes_from (p + 1) f a) k) (type_on (on_planes_from (p + 1) f b) k)) next
    (changed_both_from R f (p + 1) a b (omega arith) each space k)

-- what a change does with two types on each plane holds of two columns
changed_both : (R : ℕ → ℕ → ℕ → ℕ → ℕ → Type 0) (f : ℕ → TypeId → TypeId) (a b : List TypeId) → length a ≡ length b
    → ((plane : ℕ) (x y : TypeId) → R plane x.0 y.0 (f plane x).0 (f plane y).0) → ((plane : ℕ) → R plane 0 0 0 0)
    → (k : ℕ) → R k (type_on a k) (type_on b k) (type_on (on_planes_from 0 f a) k) (type_on (on_planes_from 0 f b) k)
changed_both R f a b long each space k =
    let same : 0 + k ≡ k = omega arith in
    subst (λ (n : ℕ). R n (type_on a k) (type_on b k) (type_on (on_planes_from 0 f a) k) (type_on (on_planes_from 0 f b) k)) same
    (changed_both_from R f 0 a b long each space k)

-- where two columns have one type, they have one after a change
changed_same : (f : ℕ → TypeId → TypeId) (a b : List TypeId) → length a ≡ length b → (k : ℕ) → type_on a k ≡ type_on b k
    → type_on (on_planes_from 0 f a) k ≡ type_on (on_planes_from 0 f b) k
changed_same f a b long k same =
    changed_both (λ plane x y new_x new_y. x ≡ y → new_x ≡ new_y) f a b long
    (λ plane x y is. ap (λ (t : ℕ). (f plane (type_number t)).0) is) (λ plane is. is) k same

-- ---- one step

-- another contact's bit stays where it was
unmarked_bit : (raw : RawTech) (layer other plane : ℕ) (old : TypeId) (contact : IsContact raw layer) (second : IsContact raw other) → layer ≢ other
    → IsOnPlane raw plane old.0 → bit_of raw second.bit (without_parts raw (2 ^ contact.bit) plane old).0 ≡ bit_of raw second.bit old.0
unmarked_bit raw layer other plane old contact second apart on = elim (cases_Bool (is_subset (2 ^ contact.bit) (parts_of raw old.0))) [
  | inr none ↦ rw none refl
  | inl part ↦
      let bit = mark_part_bit (parts_of raw old.0) contact.bit part in
      let type = bit_type raw plane old.0 contact.bit on bit in
      elim (bit_cases (parts_of raw old.0) second.bit) [
        | inr had ↦ absurd (apart (sym (mark_layer raw layer old.0 contact type.0 bit) ∙ mark_layer raw other old.0 second type.0 had))
        | inl clear ↦ elim (left_set raw (2 ^ contact.bit) plane old part) [
          | inl space ↦ ap (λ (n : ℕ). bit_at (parts_of raw n) second.bit) space ∙ bit_at-zero second.bit ∙ sym clear
          | inr left ↦ elim (bit_cases (without (parts_of raw old.0) (2 ^ contact.bit)) second.bit) [
            | inl gone ↦ ap (λ (set : ℕ). bit_at set second.bit) left ∙ gone ∙ sym clear
            | inr stays ↦ ap (λ (set : ℕ). bit_at set second.bit) left ∙ stays
                ∙ sym (without_bit_source (parts_of raw old.0) (2 ^ contact.bit) second.bit stays)
          ]
        ]
      ]
]

kept_bit : (raw : RawTech) (layer other : ℕ) (column : List TypeId) → IsWellFormed raw → layer < length raw.layers → layer ≢ other → IsColumn raw column
    → (second : IsContact raw other) (plane : ℕ)
    → bit_of raw second.bit (type_on (layer_mark_kept raw (images_of raw layer) column) plane) ≡ bit_of raw second.bit (type_on column plane)
kept_bit raw layer other column w below apart is second plane = elim (kept_cases raw (images_of raw layer) column) [
  | inl same ↦ ap (λ (c : List TypeId). bit_of raw second.bit (type_on c plane)) same.0
  | inr taken ↦
      let contact = w.sets.contacts layer below taken.1 in
      let new = taken.0 ∙ ap (λ (mark : ℕ). on_planes_from 0 (without_parts raw mark) column) (mark_of-contact raw layer w below taken.1 contact) in
      ap (λ (c : List TypeId). bit_of raw second.bit (type_on c plane)) new
      ∙ changed (λ plane old new. IsOnPlane raw plane old → bit_of raw second.bit new ≡ bit_of raw second.bit old) (without_parts raw (2 ^ contact.bit)) column
      (λ plane old on. unmarked_bit raw layer other plane old contact second apart on) (λ plane on. refl) plane (is plane)
]

-- a type without the mark stays
kept_clear : (raw : RawTech) (layer : ℕ) (column : List TypeId) → IsWellFormed raw → layer < length raw.layers → 1 < length (images_of raw layer)
    → (contact : IsContact raw layer) (plane : ℕ) → bit_of raw contact.bit (type_on column plane) ≢ 1
    → type_on (layer_mark_kept raw (images_of raw layer) column) plane ≡ type_on column plane
kept_clear raw layer column w below many contact plane clear = elim (kept_cases raw (images_of raw layer) column) [
  | inl same ↦ ap (λ (c : List TypeId). type_on c plane) same.0
  | inr taken ↦
      let new = taken.0 ∙ ap (λ (mark : ℕ). on_planes_from 0 (without_parts raw mark) column) (mark_of-contact raw layer w below many contact) in
      ap (λ (c : List TypeId). type_on c plane) new
      ∙ changed (λ plane old new. bit_of raw contact.bit old ≢ 1 → new ≡ old) (without_parts raw (2 ^ contact.bit)) column
      (λ plane old free. unmarked_keeps raw contact.bit plane old.0 old free refl) (λ plane free. refl) plane clear
]

list_all-same : {X : Type 0} (p r : X → Bool) (xs : List X) → ((x : X) → In x xs → p x ≡ r x) → list_all p xs ≡ list_all r xs
list_all-same p r [] each = refl
list_all-same p r (x ∷ xs) each =
    ap (λ (b : Bool). b && list_all p xs) (each x (inl refl)) ∙ ap (λ (b : Bool). r x && b) (list_all-same p r xs (λ y later. each y (inr later)))

mark_part-same : (n m k : ℕ) → bit_at n k ≡ bit_at m k → is_subset (2 ^ k) n ≡ is_subset (2 ^ k) m
mark_part-same n m k same = elim (cases_Bool (is_subset (2 ^ k) n)) [
  | inl part ↦ part ∙ sym (mark_part m k (sym same ∙ mark_part_bit n k part))
  | inr none ↦ elim (cases_Bool (is_subset (2 ^ k) m)) [
    | inl part ↦ absurd (true≢false (sym (mark_part n k (same ∙ mark_part_bit m k part)) ∙ none))
    | inr neither ↦ none ∙ sym neither
  ]
]

-- the two columns have the contact's bit on the same of its planes
abbrev Agree : (raw : RawTech) (layer : ℕ) → IsContact raw layer → List TypeId → List TypeId → Type 0
Agree raw layer contact a b =
    (t : ℕ) → IsTrue (is_type raw t) → layer_of raw t ≡ layer
    → bit_of raw contact.bit (type_on a (plane_of raw t)) ≡ bit_of raw contact.bit (type_on b (plane_of raw t))

-- a mark that stands on the same of its planes is kept in both columns, or in neither
kept_both : (raw : RawTech) (images a b : List TypeId) → length a ≡ length b
    → has_mark_everywhere raw (mark_of raw images) images a ≡ has_mark_everywhere raw (mark_of raw images) images b
    → (plane : ℕ) → type_on a plane ≡ type_on b plane → type_on (layer_mark_kept raw images a) plane ≡ type_on (layer_mark_kept raw images b) plane
kept_both raw images a b long everywhere plane same = elim (cases_Bool (nat_lt 1 (length images))) [
  | inr one ↦ rw one same
  | inl many ↦ elim (cases_Bool (has_mark_everywhere raw (mark_of raw images) images b)) [
    | inl all ↦ rw (many, everywhere, all) same
    | inr missing ↦ rw (many, everywhere, missing) (changed_same (without_parts raw (mark_of raw images)) a b long plane same)
  ]
]

everywhere_both : (raw : RawTech) (layer : ℕ) (a b : List TypeId) → IsWellFormed raw → layer < length raw.layers → 1 < length (images_of raw layer)
    → (contact : IsContact raw layer)
    → Agree raw layer contact a b
    → has_mark_everywhere raw (mark_of raw (images_of raw layer)) (images_of raw layer) a
    ≡ has_mark_everywhere raw (mark_of raw (images_of raw layer)) (images_of raw layer) b
everywhere_both raw layer a b w below many contact agree =
    list_all-same
    (λ image. is_subset (mark_of raw (images_of raw layer)) (parts_of raw (type_on a (plane_of raw image.0))))
    (λ image. is_subset (mark_of raw (images_of raw layer)) (parts_of raw (type_on b (plane_of raw image.0)))) (images_of raw layer) (λ image image_in.
    let is = All-In (λ (t : TypeId). IsTrue (is_type raw t.0)) (images_of raw layer) image (layer_well_formed raw layer w below).images image_in in
    subst (λ (mark : ℕ). is_subset mark (parts_of raw (type_on a (plane_of raw image.0))) ≡ is_subset mark (parts_of raw (type_on b (plane_of raw image.0))))
    (sym (mark_of-contact raw layer w below many contact))
    (mark_part-same (parts_of raw (type_on a (plane_of raw image.0))) (parts_of raw (type_on b (plane_of raw image.0))) contact.bit
    (agree image.0 is (w.of_one_layer layer image.0 below image_in))))

-- one step leaves one type on the plane in both columns
kept_same : (raw : RawTech) (layer : ℕ) (a b : List TypeId) → IsWellFormed raw → layer < length raw.layers → length a ≡ length b → (plane : ℕ)
    → type_on a plane ≡ type_on b plane
    → ((contact : IsContact raw layer) → bit_of raw contact.bit (type_on a plane) ≡ 1 → Agree raw layer contact a b)
    → type_on (layer_mark_kept raw (images_of raw layer) a) plane ≡ type_on (layer_mark_kept raw (images_of raw layer) b) plane
kept_same raw layer a b w below long plane same agree = elim (cases_Bool (nat_lt 1 (length (images_of raw layer)))) [
  | inr one ↦ rw one same
  | inl more ↦
      let many = ltb-true 1 (length (images_of raw layer)) more in
      let contact = w.sets.contacts layer below many in
      elim (bit_cases (parts_of raw (type_on a plane)) contact.bit) [
        | inr set ↦ kept_both raw (images_of raw layer) a b long (everywhere_both raw layer a b w below many contact (agree contact set)) plane same
        | inl clear ↦
            let a_clear : bit_of raw contact.bit (type_on a plane) ≢ 1 = λ set. omega arith in
            let b_clear : bit_of raw contact.bit (type_on b plane) ≢ 1 = subst (λ (t : ℕ). bit_of raw contact.bit t ≢ 1) same a_clear in
            kept_clear raw layer a w below many contact plane a_clear ∙ same ∙ sym (kept_clear raw layer b w below many contact plane b_clear)
      ]
]

-- ---- all contacts

-- the marks that the first layers leave, with one layer more
pub marks_step : (raw : RawTech) (column : List TypeId) (n : ℕ) → suc n ≤ length raw.layers
    → marks_of_first raw column (suc n) ≡ layer_mark_kept raw (images_of raw n) (marks_of_first raw column n)
marks_step raw column n below =
    let next : suc n ≡ n + 1 = omega arith in
    ap (marks_of_first raw column) next ∙ fold_more (λ (kept : List TypeId) (layer : LayerRec). layer_mark_kept raw layer.images kept) column raw.layers n
    no_layer (omega arith)

-- contacts that were not looked at have their bits where they were
marks_bits : (raw : RawTech) (column : List TypeId) → IsWellFormed raw → IsColumn raw column → (n : ℕ) → n ≤ length raw.layers
    → IsColumn raw (marks_of_first raw column n)
    × ((layer : ℕ) → n ≤ layer → (contact : IsContact raw layer) (plane : ℕ)
    → bit_of raw contact.bit (type_on (marks_of_first raw column n) plane) ≡ bit_of raw contact.bit (type_on column plane))
marks_bits raw column w is zero below = (is, λ layer first contact plane. refl)
marks_bits raw column w is (suc n) below =
    let so_far = marks_bits raw column w is n (omega arith) in
    let before : List TypeId = marks_of_first raw column n in
    let step = marks_step raw column n below in (
      subst (IsColumn raw) (sym step) (kept_is_column raw (images_of raw n) before so_far.0),
      λ layer later contact plane.
          let apart : n ≢ layer = λ same. omega arith in
          ap (λ (c : List TypeId). bit_of raw contact.bit (type_on c plane)) step
          ∙ kept_bit raw n layer before w (omega arith) apart so_far.0 contact plane ∙ so_far.1 layer (omega arith) contact plane,
    )

marks_local : (raw : RawTech) (a b : List TypeId) → IsWellFormed raw → IsColumn raw a → IsColumn raw b → length a ≡ length b → (plane : ℕ)
    → type_on a plane ≡ type_on b plane
    → ((layer : ℕ) → layer < length raw.layers → (contact : IsContact raw layer) → bit_of raw contact.bit (type_on a plane) ≡ 1 → Agree raw layer contact a b)
    → (n : ℕ) → n ≤ length raw.layers → type_on (marks_of_first raw a n) plane ≡ type_on (marks_of_first raw b n) plane
marks_local raw a b w a_is b_is long plane same agree zero below = same
marks_local raw a b w a_is b_is long plane same agree (suc n) below =
    let so_far = marks_local raw a b w a_is b_is long plane same agree n (omega arith) in
    let a_bits = marks_bits raw a w a_is n (omega arith) in
    let b_bits = marks_bits raw b w b_is n (omega arith) in
    let long_still = marks_of-length raw a (take n raw.layers) ∙ long ∙ sym (marks_of-length raw b (take n raw.layers)) in
    ap (λ (c : List TypeId). type_on c plane) (marks_step raw a n below)
    ∙ kept_same raw n (marks_of_first raw a n) (marks_of_first raw b n) w (omega arith) long_still plane so_far
    (λ contact set t t_is t_layer.
    a_bits.1 n (omega arith) contact (plane_of raw t)
    ∙ agree n (omega arith) contact (sym (a_bits.1 n (omega arith) contact plane) ∙ set) t t_is t_layer
    ∙ sym (b_bits.1 n (omega arith) contact (plane_of raw t)))
    ∙ ap (λ (c : List TypeId). type_on c plane) (sym (marks_step raw b n below))

-- two columns with one type on the plane, whose contacts with a bit there have the bit on the same planes, have one type there after all marks were looked at
marks_kept-local : (raw : RawTech) (a b : List TypeId) → IsWellFormed raw → IsColumn raw a → IsColumn raw b → length a ≡ length b → (plane : ℕ)
    → type_on a plane ≡ type_on b plane
    → ((layer : ℕ) → layer < length raw.layers → (contact : IsContact raw layer) → bit_of raw contact.bit (type_on a plane) ≡ 1 → Agree raw layer contact a b)
    → type_on (marks_kept raw a) plane ≡ type_on (marks_kept raw b) plane
marks_kept-local raw a b w a_is b_is long plane same agree =
    let end : (column : List TypeId) → marks_of_first raw column (length raw.layers) ≡ marks_kept raw column =
    λ column. ap (fold (λ (kept : List TypeId) (layer : LayerRec). layer_mark_kept raw layer.images kept) column) (take-length raw.layers) in
    ap (λ (c : List TypeId). type_on c plane) (sym (end a))
    ∙ marks_local raw a b w a_is b_is long plane same agree (length raw.layers) (omega arith)
    ∙ ap (λ (c : List TypeId). type_on c plane) (end b)

-- ---- paint and erasing

-- where a contact's bit was on the plane before, the contact stood whole in both columns
agree_from_old : (raw : RawTech) (contact_layer : ℕ) (contact : IsContact raw contact_layer) (f : ℕ → TypeId → TypeId) (a b : List TypeId) → IsWellFormed raw
    → length a ≡ length b
    → IsColumn raw a → HasWholeContacts raw a → HasWholeContacts raw b → (plane : ℕ) → type_on a plane ≡ type_on b plane
    → bit_of raw contact.bit (type_on a plane) ≡ 1 → Agree raw contact_layer contact (on_planes_from 0 f a) (on_planes_from 0 f b)
agree_from_old raw contact_layer contact f a b w long a_is a_whole b_whole plane same set t t_is t_layer =
    let s = type_on a plane in
    let type = bit_type raw plane s contact.bit (a_is plane) set in
    let layers = mark_layer raw contact_layer s contact type.0 set ∙ sym t_layer in
    let a_t = a_whole s t type.0 t_is layers (ap (type_on a) type.1) in
    let b_t = b_whole s t type.0 t_is layers (ap (type_on b) type.1 ∙ sym same) in
    ap (bit_of raw contact.bit) (changed_same f a b long (plane_of raw t) (a_t ∙ sym b_t))

erased_bit_option : (raw : RawTech) (plane set k : ℕ) (o : Option ℕ) → joined raw plane set ≡ o → bit_of raw k (unwrap_or o 0) ≡ 1 → bit_at set k ≡ 1
erased_bit_option raw plane set k None is bit = let apart : ◌≡◌ {A = ℕ} 1 0 = sym bit ∙ bit_at-zero k in absurd (omega arith)
erased_bit_option raw plane set k (Some t) is bit = sym (ap (λ (n : ℕ). bit_at n k) (joined-found raw plane set t is).0) ∙ bit

-- erasing brings no bit
erased_bit : (raw : RawTech) (plane k : ℕ) (image : Option TypeId) (old : TypeId) → bit_of raw k (where_image (erased_by raw plane) image old).0 ≡ 1
    → bit_of raw k old.0 ≡ 1
erased_bit raw plane k None old bit = bit
erased_bit raw plane k (Some image) old bit = elim (cases_Bool (is_subset (parts_of raw image.0) (parts_of raw old.0))) [
  | inr none ↦ rw none at bit
  | inl part ↦
      let left : bit_of raw k (unwrap_or (joined raw plane (without (parts_of raw old.0) (parts_of raw image.0))) 0) ≡ 1 = rw part at bit in
      without_bit_source (parts_of raw old.0) (parts_of raw image.0) k
      (erased_bit_option raw plane (without (parts_of raw old.0) (parts_of raw image.0)) k
      (joined raw plane (without (parts_of raw old.0) (parts_of raw image.0))) refl left)
]

painted_bit_option : (raw : RawTech) (plane old image k : ℕ) (o : Option ℕ) → joined raw plane (bit_or (parts_of raw old) (parts_of raw image)) ≡ o
    → bit_of raw k (unwrap_or o image) ≡ 1 → (bit_of raw k old ≡ 1) ⊎ (bit_of raw k image ≡ 1)
painted_bit_option raw plane old image k None is bit = inr bit
painted_bit_option raw plane old image k (Some t) is bit =
    or_bit_cases (parts_of raw old) (parts_of raw image) k
    (sym (ap (λ (n : ℕ). bit_at n k) (joined-found raw plane (bit_or (parts_of raw old) (parts_of raw image)) t is).0) ∙ bit)

-- paint of another layer brings no bit of a contact
painted_bit : (raw : RawTech) (layer other plane : ℕ) (contact : IsContact raw other) (o : Option TypeId) (old : TypeId) → IsWellFormed raw
    → layer < length raw.layers → layer ≢ other
    → image_on raw layer plane ≡ o → bit_of raw contact.bit (where_image (painted_by raw plane) o old).0 ≡ 1 → bit_of raw contact.bit old.0 ≡ 1
painted_bit raw layer other plane contact None old w below apart is bit = bit
painted_bit raw layer other plane contact (Some image) old w below apart is bit =
    elim (painted_bit_option raw plane old.0 image.0 contact.bit (joined raw plane (bit_or (parts_of raw old.0) (parts_of raw image.0))) refl bit) [
      | inl had ↦ had
      | inr new ↦
          let image_in = find-In (is_on raw plane) (images_of raw layer) image is in
          let type = All-In (λ (t : TypeId). IsTrue (is_type raw t.0)) (images_of raw layer) image (layer_well_formed raw layer w below).images image_in in
          absurd (apart (sym (w.of_one_layer layer image.0 below image_in) ∙ mark_layer raw other image.0 contact type new))
    ]

painted_has_option : (raw : RawTech) (plane old image k : ℕ) (o : Option ℕ) → joined raw plane (bit_or (parts_of raw old) (parts_of raw image)) ≡ o
    → bit_of raw k image ≡ 1 → bit_of raw k (unwrap_or o image) ≡ 1
painted_has_option raw plane old image k None is bit = bit
painted_has_option raw plane old image k (Some t) is bit =
    ap (λ (n : ℕ). bit_at n k) (joined-found raw plane (bit_or (parts_of raw old) (parts_of raw image)) t is).0
    ∙ or_bit_right (parts_of raw old) (parts_of raw image) k bit

-- paint of a contact brings its bit to each of its planes
painted_has : (raw : RawTech) (layer plane t : ℕ) (contact : IsContact raw layer) (o : Option TypeId) (old : TypeId)
    → In (record { 0 = t }) (images_of raw layer) → plane_of raw t ≡ plane
    → image_on raw layer plane ≡ o → bit_of raw contact.bit (where_image (painted_by raw plane) o old).0 ≡ 1
painted_has raw layer plane t contact None old t_in at is =
    absurd (true≢false (sym (eq-eqb (plane_of raw t) plane at) ∙ find-none (is_on raw plane) (images_of raw layer) (record { 0 = t }) is t_in))
painted_has raw layer plane t contact (Some image) old t_in at is =
    painted_has_option raw plane old.0 image.0 contact.bit (joined raw plane (bit_or (parts_of raw old.0) (parts_of raw image.0))) refl
    (image_mark raw layer image.0 contact (find-In (is_on raw plane) (images_of raw layer) image is))

agree_painted : (raw : RawTech) (layer : ℕ) (contact : IsContact raw layer) (a b : List TypeId) → IsWellFormed raw → length a ≡ length b
    → Agree raw layer contact (on_planes_from 0 (brushed_on raw Paint layer) a) (on_planes_from 0 (brushed_on raw Paint layer) b)
agree_painted raw layer contact a b w long t t_is t_layer =
    let t_in : In (record { 0 = t }) (images_of raw layer) = subst (λ (l : ℕ). In (record { 0 = t }) (images_of raw l)) t_layer (w.is_image t t_is) in
    changed_both (λ plane x y new_x new_y. plane_of raw t ≡ plane → bit_of raw contact.bit new_x ≡ bit_of raw contact.bit new_y) (brushed_on raw Paint layer)
    a b long
    (λ plane x y at. painted_has raw layer plane t contact (image_on raw layer plane) x t_in at refl
    ∙ sym (painted_has raw layer plane t contact (image_on raw layer plane) y t_in at refl))
    (λ plane at. refl) (plane_of raw t) refl

-- where a contact's bit is on the plane after the brush, it is on the same planes of both columns
agree_brushed : (raw : RawTech) (brush : Brush) (layer other plane : ℕ) (contact : IsContact raw other) (a b : List TypeId) → IsWellFormed raw
    → layer < length raw.layers
    → length a ≡ length b → IsColumn raw a → HasWholeContacts raw a → HasWholeContacts raw b → type_on a plane ≡ type_on b plane
    → bit_of raw contact.bit (type_on (on_planes_from 0 (brushed_on raw brush layer) a) plane) ≡ 1
    → Agree raw other contact (on_planes_from 0 (brushed_on raw brush layer) a) (on_planes_from 0 (brushed_on raw brush layer) b)
agree_brushed raw Paint layer other plane contact a b w below long a_is a_whole b_whole same set =
    let f : ℕ → TypeId → TypeId = brushed_on raw Paint layer in
    elim (cases_eq layer other) [
      | inl one ↦ subst (λ (l : ℕ). (c : IsContact raw l) → Agree raw l c (on_planes_from 0 f a) (on_planes_from 0 f b)) one
          (λ c. agree_painted raw layer c a b w long) contact
      | inr apart ↦
          agree_from_old raw other contact f a b w long a_is a_whole b_whole plane same
          (changed (λ plane old new. bit_of raw contact.bit new ≡ 1 → bit_of raw contact.bit old ≡ 1) f a
          (λ plane old bit. painted_bit raw layer other plane contact (image_on raw layer plane) old w below apart refl bit) (λ plane bit. bit) plane set)
    ]
agree_brushed raw Erase layer other plane contact a b w below long a_is a_whole b_whole same set =
    agree_from_old raw other contact (brushed_on raw Erase layer) a b w long a_is a_whole b_whole plane same
    (changed (λ plane old new. bit_of raw contact.bit new ≡ 1 → bit_of raw contact.bit old ≡ 1) (brushed_on raw Erase layer) a
    (λ plane old bit. erased_bit raw plane contact.bit (image_on raw layer plane) old bit) (λ plane bit. bit) plane set)

-- what a brush leaves on a plane depends on that plane alone
pub brushed_column-local : (raw : RawTech) (brush : Brush) (layer plane : ℕ) (a b : List TypeId) → IsWellFormed raw → layer < length raw.layers
    → length a ≡ length b
    → IsColumn raw a → IsColumn raw b → HasWholeContacts raw a → HasWholeContacts raw b → type_on a plane ≡ type_on b plane
    → type_on (brushed_column raw brush layer a) plane ≡ type_on (brushed_column raw brush layer b) plane
unfolding brushed_column
brushed_column-local raw brush layer plane a b w below long a_is b_is a_whole b_whole same =
    let f : ℕ → TypeId → TypeId = brushed_on raw brush layer in
    marks_kept-local raw (on_planes_from 0 f a) (on_planes_from 0 f b) w (brushed_is_column raw brush layer a w below a_is)
    (brushed_is_column raw brush layer b w below b_is)
    (on_planes-length 0 f a ∙ long ∙ sym (on_planes-length 0 f b)) plane (changed_same f a b long plane same)
    (λ other other_below contact set. agree_brushed raw brush layer other plane contact a b w below long a_is a_whole b_whole same set)
