-- Painting a layer twice: the second time changes nothing.
use Rattle.cell_paint.proofs.Common.{◌≡◌, ◌≢◌, ◌+◌, ◌<◌, ◌≤◌, ℕ, zero, suc, true, Option, List, [], ◌∷◌, length, take, bit_or, max, refl, sym, ap}
use Rattle.cell_paint.proofs.Common.{subst, ◌∙◌, arith, inl, inr, Some, None, IsTrue, bit_at, cases_Bool, cases_eq, true≢false, eqb-true, eq-eqb}
use Rattle.cell_paint.proofs.Common.{bit_at-zero, bit_at_or, same_from_bits, In, find-In, find-passes, TypeId, RawTech, is_type, type_number}
use Rattle.cell_paint.proofs.Common.{plane_of, IsWellFormed, HaveOwnSets, PaintBrush, type_on, IsOnPlane, IsColumn, HasWholeContacts}
use Rattle.std.proofs.Common.{◌^◌, ◌%◌, fold, bit_and, min}
use Rattle.std.specs.Prelude.{nat_lt, unwrap_or}
use Rattle.std.specs.List.{list_all}
use Rattle.std.proofs.Math.Seq.{take-length}
use Rattle.std.proofs.lemmas.Bool.{ltb-true}
use Rattle.std.proofs.lemmas.Nat.Bits.{bit_at_and, bit_at_xor, bit_at-lt, bit_at-pow_other}
use Rattle.geo_core.proofs.FiniteSets.Searches.{find-none, All-In, list_all-from_In}
use Rattle.tech_model.specs.declared.raw.LayerRec.{LayerRec}
use Rattle.tech_model.specs.Types.{parts_of, images_of, is_on, image_on, joined, is_subset, without}
use Rattle.tech_model.specs.WellFormed.{IsContact, IsMarked}
use Rattle.tech_model.specs.Columns.{painted_by, where_image, on_planes_from, mark_of, has_mark_everywhere, without_parts, layer_mark_kept, marks_kept}
use Rattle.tech_model.specs.Columns.{brushed_column, painted_column}
use Rattle.tech_model.proofs.JoinedLaws.{joined-found, joined-type}
use Rattle.tech_model.proofs.WellFormedLaws.{layer_well_formed}
use Rattle.tech_model.proofs.SetLaws.{bit_cases, or_bit_right, mark_part, mark_part_bit, image_mark, mark_layer, set_not_empty}
use Rattle.tech_model.proofs.MarkLaws.{mark_of-contact, residue_set}
use Rattle.tech_model.proofs.ColumnLaws.{changed, kept_is_column, bit_type, brushed_is_column}
use Rattle.tech_model.proofs.WithinLaws.{one_image}
use Rattle.tech_model.proofs.WholeLaws.{unmarked_keeps, marks_kept-whole}
use Rattle.tech_model.proofs.LocalLaws.{marks_step}

-- what paint of a layer does on a plane
abbrev pub paint : RawTech → ℕ → ℕ → TypeId → TypeId
paint raw layer plane old = where_image (painted_by raw plane) (image_on raw layer plane) old

-- the column after the marks of the first n layers were looked at
abbrev marks_of_first : RawTech → List TypeId → ℕ → List TypeId
marks_of_first raw column n = fold (λ (kept : List TypeId) (layer : LayerRec). layer_mark_kept raw layer.images kept) column (take n raw.layers)

-- ---- columns on which a change does nothing

-- two numbers of types that are one number are one
same_number : (a b : TypeId) → a.0 ≡ b.0 → a ≡ b
same_number a b same = ap (λ (t : ℕ). type_number t) same

-- a change that leaves the type of each plane leaves the column
still_from : (f : ℕ → TypeId → TypeId) (p : ℕ) (column : List TypeId)
    → ((k : ℕ) (old : TypeId) → k < length column → old.0 ≡ type_on column k → (f (p + k) old).0 ≡ old.0) → on_planes_from p f column ≡ column
still_from f p [] each = refl
still_from f p (old ∷ column) each =
    let here : p + 0 ≡ p = omega arith in
    let first : f p old ≡ old = same_number (f p old) old (ap (λ (n : ℕ). (f n old).0) (sym here) ∙ each 0 old (omega arith) refl) in
    let next : (k : ℕ) (x : TypeId) → k < length column → x.0 ≡ type_on column k → (f (p + 1 + k) x).0 ≡ x.0 =
    λ k x below is.
    let later : p + suc k ≡ p + 1 + k = omega arith in
    ap (λ (n : ℕ). (f n x).0) (sym later) ∙ each (suc k) x (omega (arith, below)) is in
    ap (λ (t : TypeId). t ∷ on_planes_from (p + 1) f column) first ∙ ap (λ (c : List TypeId). old ∷ c) (still_from f (p + 1) column next)

still : (f : ℕ → TypeId → TypeId) (column : List TypeId)
    → ((k : ℕ) (old : TypeId) → k < length column → old.0 ≡ type_on column k → (f k old).0 ≡ old.0) → on_planes_from 0 f column ≡ column
still f column each = still_from f 0 column (λ k old below is. let same : 0 + k ≡ k = omega arith in ap (λ (n : ℕ). (f n old).0) same ∙ each k old below is)

-- what a change leaves on a plane of the column
changed_from_at : (f : ℕ → TypeId → TypeId) (p : ℕ) (column : List TypeId) (k : ℕ) → k < length column
    → type_on (on_planes_from p f column) k ≡ (f (p + k) (type_number (type_on column k))).0
changed_from_at f p [] k below = absurd (omega arith)
changed_from_at f p (old ∷ column) zero below = let here : p ≡ p + 0 = omega arith in ap (λ (n : ℕ). (f n old).0) here
changed_from_at f p (old ∷ column) (suc k) below =
    let next : p + 1 + k ≡ p + suc k = omega arith in
    changed_from_at f (p + 1) column k (omega arith) ∙ ap (λ (n : ℕ). (f n (type_number (type_on column k))).0) next

pub changed_at : (f : ℕ → TypeId → TypeId) (column : List TypeId) (k : ℕ) → k < length column
    → type_on (on_planes_from 0 f column) k ≡ (f k (type_number (type_on column k))).0
changed_at f column k below =
    let same : 0 + k ≡ k = omega arith in changed_from_at f 0 column k below ∙ ap (λ (n : ℕ). (f n (type_number (type_on column k))).0) same

-- an image of a layer is a type of the technology
pub image_type : (raw : RawTech) (layer : ℕ) (image : TypeId) → IsWellFormed raw → layer < length raw.layers → In image (images_of raw layer)
    → IsTrue (is_type raw image.0)
image_type raw layer image w below is =
    All-In (λ (t : TypeId). IsTrue (is_type raw t.0)) (images_of raw layer) image (layer_well_formed raw layer w below).images is

-- ---- marks in a column whose contacts stand whole

-- where a type of the contact stands, its mark stands everywhere
everywhere_from : (raw : RawTech) (layer : ℕ) (column : List TypeId) → IsWellFormed raw → layer < length raw.layers → (many : 1 < length (images_of raw layer))
    → (contact : IsContact raw layer)
    → ((image : TypeId) → In image (images_of raw layer) → bit_at (parts_of raw (type_on column (plane_of raw image.0))) contact.bit ≡ 1)
    → has_mark_everywhere raw (mark_of raw (images_of raw layer)) (images_of raw layer) column ≡ true
everywhere_from raw layer column w below many contact each =
    list_all-from_In (λ image. is_subset (mark_of raw (images_of raw layer)) (parts_of raw (type_on column (plane_of raw image.0)))) (images_of raw layer)
    (λ image image_in.
    subst (λ (mark : ℕ). is_subset mark (parts_of raw (type_on column (plane_of raw image.0))) ≡ true) (sym (mark_of-contact raw layer w below many contact))
    (mark_part (parts_of raw (type_on column (plane_of raw image.0))) contact.bit (each image image_in)))

-- a plane that has the mark has a type of the contact, and then all its types stand
whole_everywhere : (raw : RawTech) (layer : ℕ) (column : List TypeId) → IsWellFormed raw → layer < length raw.layers → (many : 1 < length (images_of raw layer))
    → (contact : IsContact raw layer) → IsColumn raw column → HasWholeContacts raw column → (plane : ℕ)
    → bit_at (parts_of raw (type_on column plane)) contact.bit ≡ 1
    → has_mark_everywhere raw (mark_of raw (images_of raw layer)) (images_of raw layer) column ≡ true
whole_everywhere raw layer column w below many contact is whole plane bit =
    let s = type_on column plane in
    let type = bit_type raw plane s contact.bit (is plane) bit in
    let s_layer = mark_layer raw layer s contact type.0 bit in
    everywhere_from raw layer column w below many contact (λ image image_in.
    let image_is = image_type raw layer image w below image_in in
    let stands = whole s image.0 type.0 image_is (s_layer ∙ sym (w.of_one_layer layer image.0 below image_in)) (ap (type_on column) type.1) in
    ap (λ (t : ℕ). bit_at (parts_of raw t) contact.bit) stands ∙ image_mark raw layer image.0 contact image_in)

-- looking at the mark of a contact changes nothing there
whole_step : (raw : RawTech) (layer : ℕ) (column : List TypeId) → IsWellFormed raw → layer < length raw.layers → IsColumn raw column
    → HasWholeContacts raw column
    → layer_mark_kept raw (images_of raw layer) column ≡ column
whole_step raw layer column w below is whole = elim (cases_Bool (nat_lt 1 (length (images_of raw layer)))) [
  | inr one ↦ rw one refl
  | inl more ↦
      let many = ltb-true 1 (length (images_of raw layer)) more in
      let contact = w.sets.contacts layer below many in
      elim (cases_Bool (has_mark_everywhere raw (mark_of raw (images_of raw layer)) (images_of raw layer) column)) [
        | inl everywhere ↦ rw (more, everywhere) refl
        | inr missing ↦
            let clear : (k : ℕ) → bit_at (parts_of raw (type_on column k)) contact.bit ≢ 1 =
            λ k bit. true≢false (sym (whole_everywhere raw layer column w below many contact is whole k bit) ∙ missing) in
            let same : on_planes_from 0 (without_parts raw (2 ^ contact.bit)) column ≡ column =
            still (without_parts raw (2 ^ contact.bit)) column (λ k old inside at. unmarked_keeps raw contact.bit k old.0 old
            (subst (λ (t : ℕ). bit_at (parts_of raw t) contact.bit ≢ 1) (sym at) (clear k)) refl) in
            rw (more, missing) (ap (λ (mark : ℕ). on_planes_from 0 (without_parts raw mark) column) (mark_of-contact raw layer w below many contact) ∙ same)
      ]
]

whole_steps : (raw : RawTech) (column : List TypeId) → IsWellFormed raw → IsColumn raw column → HasWholeContacts raw column → (n : ℕ) → n ≤ length raw.layers
    → marks_of_first raw column n ≡ column
whole_steps raw column w is whole zero below = refl
whole_steps raw column w is whole (suc n) below =
    marks_step raw column n below ∙ ap (layer_mark_kept raw (images_of raw n)) (whole_steps raw column w is whole n (omega arith))
    ∙ whole_step raw n column w (omega arith) is whole

-- a column whose contacts stand whole keeps all marks
pub marks_kept-still : (raw : RawTech) (column : List TypeId) → IsWellFormed raw → IsColumn raw column → HasWholeContacts raw column
    → marks_kept raw column ≡ column
marks_kept-still raw column w is whole =
    ap (fold (λ (kept : List TypeId) (layer : LayerRec). layer_mark_kept raw layer.images kept) column) (sym (take-length raw.layers))
    ∙ whole_steps raw column w is whole (length raw.layers) (omega arith)

-- ---- what stands after paint has the parts of the images

-- on each of its planes the type has the parts of the layer's image
abbrev HasImages : RawTech → ℕ → List TypeId → Type 0
HasImages raw layer column =
    (image : TypeId) → In image (images_of raw layer) → (k : ℕ) → bit_at (parts_of raw image.0) k ≡ 1
    → bit_at (parts_of raw (type_on column (plane_of raw image.0))) k ≡ 1

painted_option : (raw : RawTech) (plane old image k : ℕ) (o : Option ℕ) → joined raw plane (bit_or (parts_of raw old) (parts_of raw image)) ≡ o
    → bit_at (parts_of raw image) k ≡ 1 → bit_at (parts_of raw (unwrap_or o image)) k ≡ 1
painted_option raw plane old image k None is bit = bit
painted_option raw plane old image k (Some t) is bit =
    ap (λ (n : ℕ). bit_at n k) (joined-found raw plane (bit_or (parts_of raw old) (parts_of raw image)) t is).0
    ∙ or_bit_right (parts_of raw old) (parts_of raw image) k bit

xor_of_other : (x y z : ℕ) → x ≡ 1 → y ≡ min x z → z ≡ 0 → (x + y) % 2 ≡ 1
xor_of_other x y z x_is is z_is = omega arith

-- a part that isn't taken away stays
without_other : (a b k : ℕ) → bit_at a k ≡ 1 → bit_at b k ≡ 0 → bit_at (without a b) k ≡ 1
without_other a b k bit clear =
    bit_at_xor a (bit_and a b) k ∙ xor_of_other (bit_at a k) (bit_at (bit_and a b) k) (bit_at b k) bit (bit_at_and a b k) clear

-- taking a contact's mark off leaves each other part
unmarked_part : (raw : RawTech) (layer plane k : ℕ) (old : TypeId) → IsWellFormed raw → HaveOwnSets raw → layer < length raw.layers
    → 1 < length (images_of raw layer)
    → (contact : IsContact raw layer) → k ≢ contact.bit → IsOnPlane raw plane old.0 → bit_at (parts_of raw old.0) k ≡ 1
    → bit_at (parts_of raw (without_parts raw (2 ^ contact.bit) plane old).0) k ≡ 1
unmarked_part raw layer plane k old w own below many contact other on bit = elim (cases_Bool (is_subset (2 ^ contact.bit) (parts_of raw old.0))) [
  | inr none ↦ rw none bit
  | inl part ↦
      let type = bit_type raw plane old.0 contact.bit on (mark_part_bit (parts_of raw old.0) contact.bit part) in
      let at = mark_layer raw layer old.0 contact type.0 (mark_part_bit (parts_of raw old.0) contact.bit part) in
      let image_in : In (type_number old.0) (images_of raw layer) = subst (λ (l : ℕ). In (type_number old.0) (images_of raw l)) at (w.is_image old.0 type.0) in
      let marked = All-In (λ (t : TypeId). IsMarked raw contact.bit t.0) (images_of raw layer) (type_number old.0) contact.images image_in in
      let left = residue_set raw layer old.0 contact many marked in
      let found : joined raw plane (without (parts_of raw old.0) (2 ^ contact.bit)) ≡ Some marked.residue =
      ap (joined raw plane) left ∙ ap (λ (p : ℕ). joined raw p (parts_of raw marked.residue)) (sym (marked.residue_plane ∙ type.1))
      ∙ joined-type raw marked.residue own marked.residue_type (set_not_empty raw marked.residue w marked.residue_type) in
      let stays : bit_at (parts_of raw marked.residue) k ≡ 1 =
      ap (λ (n : ℕ). bit_at n k) (sym left) ∙ without_other (parts_of raw old.0) (2 ^ contact.bit) k bit (bit_at-pow_other contact.bit k other) in
      rw part (subst (λ (o : Option ℕ). bit_at (parts_of raw (unwrap_or o 0)) k ≡ 1) (sym found) stays)
]

-- looking at the mark of one contact leaves the parts of the images
images_step : (raw : RawTech) (layer other : ℕ) (column : List TypeId) → IsWellFormed raw → HaveOwnSets raw → layer < length raw.layers
    → other < length raw.layers
    → IsColumn raw column → HasImages raw layer column → HasImages raw layer (layer_mark_kept raw (images_of raw other) column)
images_step raw layer other column w own below other_below is has = elim (cases_Bool (nat_lt 1 (length (images_of raw other)))) [
  | inr one ↦ rw one has
  | inl more ↦
      let many = ltb-true 1 (length (images_of raw other)) more in
      let contact = w.sets.contacts other other_below many in
      elim (cases_Bool (has_mark_everywhere raw (mark_of raw (images_of raw other)) (images_of raw other) column)) [
        | inl everywhere ↦ rw (more, everywhere) has
        | inr missing ↦ elim (cases_eq other layer) [
          | inl same ↦
              let all = everywhere_from raw other column w other_below many contact (λ image image_in.
              has image (subst (λ (l : ℕ). In image (images_of raw l)) same image_in) contact.bit (image_mark raw other image.0 contact image_in)) in
              absurd (true≢false (sym all ∙ missing))
          | inr apart ↦ rw (more, missing) (λ image image_in k bit.
              let type = image_type raw layer image w below image_in in
              let differs : k ≢ contact.bit = λ same. apart
              (sym (mark_layer raw other image.0 contact type (ap (bit_at (parts_of raw image.0)) (sym same) ∙ bit))
              ∙ w.of_one_layer layer image.0 below image_in) in
              subst (λ (mark : ℕ). bit_at (parts_of raw (type_on (on_planes_from 0 (without_parts raw mark) column) (plane_of raw image.0))) k ≡ 1)
              (sym (mark_of-contact raw other w other_below many contact))
              (changed (λ plane old new. IsOnPlane raw plane old → bit_at (parts_of raw old) k ≡ 1 → bit_at (parts_of raw new) k ≡ 1)
              (without_parts raw (2 ^ contact.bit)) column
              (λ plane old on had. unmarked_part raw other plane k old w own other_below many contact differs on had) (λ plane on had. had)
              (plane_of raw image.0)
              (is (plane_of raw image.0)) (has image image_in k bit)))
        ]
      ]
]

images_steps : (raw : RawTech) (layer : ℕ) (column : List TypeId) → IsWellFormed raw → HaveOwnSets raw → layer < length raw.layers → IsColumn raw column
    → HasImages raw layer column → (n : ℕ) → n ≤ length raw.layers
    → IsColumn raw (marks_of_first raw column n) × HasImages raw layer (marks_of_first raw column n)
images_steps raw layer column w own below is has zero so_many = (is, has)
images_steps raw layer column w own below is has (suc n) so_many =
    let so_far = images_steps raw layer column w own below is has n (omega arith) in
    let step = sym (marks_step raw column n so_many) in (
      subst (IsColumn raw) step (kept_is_column raw (images_of raw n) (marks_of_first raw column n) so_far.0),
      subst (HasImages raw layer) step (images_step raw layer n (marks_of_first raw column n) w own below (omega arith) so_far.0 so_far.1),
    )

-- the image of a layer on a plane is the one that it has there
pub found_image : (raw : RawTech) (layer : ℕ) (image : TypeId) (o : Option TypeId) → IsWellFormed raw → layer < length raw.layers
    → In image (images_of raw layer)
    → image_on raw layer (plane_of raw image.0) ≡ o → o ≡ Some image
found_image raw layer image None w below image_in is =
    absurd (true≢false (sym (eq-eqb (plane_of raw image.0) (plane_of raw image.0) refl)
    ∙ find-none (is_on raw (plane_of raw image.0)) (images_of raw layer) image is image_in))
found_image raw layer image (Some other) w below image_in is =
    let plane = plane_of raw image.0 in
    let other_in = find-In (is_on raw plane) (images_of raw layer) other is in
    let on = eqb-true (plane_of raw other.0) plane (find-passes (is_on raw plane) (images_of raw layer) other is) in
    let layers = w.of_one_layer layer other.0 below other_in ∙ sym (w.of_one_layer layer image.0 below image_in) in
    ap (λ (t : TypeId). Some t) (same_number other image
    (one_image raw other.0 image.0 w (image_type raw layer other w below other_in) (image_type raw layer image w below image_in) layers on))

-- paint of a layer puts the parts of its images on its planes
painted_images : (raw : RawTech) (layer : ℕ) (column : List TypeId) → IsWellFormed raw → layer < length raw.layers → length raw.planes ≤ length column
    → HasImages raw layer (on_planes_from 0 (paint raw layer) column)
painted_images raw layer column w below long image image_in k bit =
    let plane = plane_of raw image.0 in
    let old = type_number (type_on column plane) in
    let inside = w.type_planes image.0 (image_type raw layer image w below image_in) in
    let at = changed_at (paint raw layer) column plane (omega (arith, inside, long)) in
    let found = found_image raw layer image (image_on raw layer plane) w below image_in refl in
    ap (λ (t : ℕ). bit_at (parts_of raw t) k) at
    ∙ ap (λ (o : Option TypeId). bit_at (parts_of raw (where_image (painted_by raw plane) o old).0) k) found
    ∙ painted_option raw plane old.0 image.0 k (joined raw plane (bit_or (parts_of raw old.0) (parts_of raw image.0))) refl bit

-- ---- paint where the parts of the images stand

max_of : (x y : ℕ) → x < 2 → y < 2 → (y ≡ 1 → x ≡ 1) → max x y ≡ x
max_of x y x_small y_small both = elim (cases_eq y 1) [ inl set ↦ let is = both set in omega arith | inr clear ↦ omega arith ]

-- the union with a part is the set
pub union_with_part : (a b : ℕ) → ((k : ℕ) → bit_at b k ≡ 1 → bit_at a k ≡ 1) → bit_or a b ≡ a
union_with_part a b part = same_from_bits (bit_or a b) a (λ k. bit_at_or a b k ∙ max_of (bit_at a k) (bit_at b k) (bit_at-lt a k) (bit_at-lt b k) (part k))

painted_type : (raw : RawTech) (plane : ℕ) (image old : TypeId) → IsWellFormed raw → HaveOwnSets raw → IsOnPlane raw plane old.0 → parts_of raw old.0 ≢ 0
    → ((k : ℕ) → bit_at (parts_of raw image.0) k ≡ 1 → bit_at (parts_of raw old.0) k ≡ 1) → (painted_by raw plane image old).0 ≡ old.0
painted_type raw plane image old w own (inl space) full has = absurd (full (ap (parts_of raw) space))
painted_type raw plane image old w own (inr type) full has =
    let found : joined raw plane (bit_or (parts_of raw old.0) (parts_of raw image.0)) ≡ Some old.0 =
    ap (joined raw plane) (union_with_part (parts_of raw old.0) (parts_of raw image.0) has)
    ∙ ap (λ (p : ℕ). joined raw p (parts_of raw old.0)) (sym type.1) ∙ joined-type raw old.0 own type.0 full in
    ap (λ (o : Option ℕ). unwrap_or o image.0) found

no_part_of_space : (raw : RawTech) (image : TypeId) (set : ℕ) → IsWellFormed raw → IsTrue (is_type raw image.0)
    → ((k : ℕ) → bit_at (parts_of raw image.0) k ≡ 1 → bit_at set k ≡ 1) → set ≢ 0
no_part_of_space raw image set w is has empty =
    set_not_empty raw image.0 w is (same_from_bits (parts_of raw image.0) 0 (λ k. elim (bit_cases (parts_of raw image.0) k) [
      | inl clear ↦ clear ∙ sym (bit_at-zero k)
      | inr bit ↦ let apart : ◌≡◌ {A = ℕ} 1 0 = sym (has k bit) ∙ ap (λ (n : ℕ). bit_at n k) empty ∙ bit_at-zero k in absurd (omega arith)
    ]))

again_on : (raw : RawTech) (layer plane : ℕ) (column : List TypeId) (old : TypeId) (o : Option TypeId) → IsWellFormed raw → HaveOwnSets raw
    → layer < length raw.layers
    → IsColumn raw column → HasImages raw layer column → old.0 ≡ type_on column plane → image_on raw layer plane ≡ o
    → (where_image (painted_by raw plane) o old).0 ≡ old.0
again_on raw layer plane column old None w own below is has at found = refl
again_on raw layer plane column old (Some image) w own below is has at found =
    let image_in = find-In (is_on raw plane) (images_of raw layer) image found in
    let on = eqb-true (plane_of raw image.0) plane (find-passes (is_on raw plane) (images_of raw layer) image found) in
    let parts : (k : ℕ) → bit_at (parts_of raw image.0) k ≡ 1 → bit_at (parts_of raw old.0) k ≡ 1 =
    λ k bit. ap (λ (t : ℕ). bit_at (parts_of raw t) k) (at ∙ ap (type_on column) (sym on)) ∙ has image image_in k bit in
    painted_type raw plane image old w own (subst (IsOnPlane raw plane) (sym at) (is plane))
    (no_part_of_space raw image (parts_of raw old.0) w (image_type raw layer image w below image_in) parts) parts

-- painting a layer a second time changes nothing
pub painted_column-again : (raw : RawTech) (layer : ℕ) (column : List TypeId) → IsWellFormed raw → HaveOwnSets raw → layer < length raw.layers
    → length raw.planes ≤ length column → IsColumn raw column → painted_column raw layer (painted_column raw layer column) ≡ painted_column raw layer column
unfolding brushed_column
painted_column-again raw layer column w own below long is =
    let laid = on_planes_from 0 (paint raw layer) column in
    let laid_is = brushed_is_column raw PaintBrush layer column w below is in
    let once = marks_kept raw laid in
    let end : marks_of_first raw laid (length raw.layers) ≡ once =
    ap (fold (λ (kept : List TypeId) (layer : LayerRec). layer_mark_kept raw layer.images kept) laid) (take-length raw.layers) in
    let has = subst (HasImages raw layer) end
    (images_steps raw layer laid w own below laid_is (painted_images raw layer column w below long) (length raw.layers) (omega arith)).1 in
    let whole = marks_kept-whole raw laid w laid_is in
    let same : on_planes_from 0 (paint raw layer) once ≡ once =
    still (paint raw layer) once (λ k old inside at. again_on raw layer k once old (image_on raw layer k) w own below whole.0 has at refl) in
    ap (marks_kept raw) same ∙ marks_kept-still raw once w whole.0 whole.1
