-- Marks of contacts: what the images of a contact have in common is its mark alone.
use Rattle.tech_model.proofs.Common.{◌≡◌, ◌≢◌, ◌+◌, ◌^◌, ◌%◌, ◌<◌, ℕ, List, [], ◌∷◌, length, map, get_or, fold, bit_and, max, min, refl, sym, ap}
use Rattle.tech_model.proofs.Common.{◌∙◌, arith, inl, inr, bit_at, cases_eq, get_or-map, length-map, bit_at-pow_same, In, In-get_or, TypeId, RawTech}
use Rattle.tech_model.proofs.Common.{plane_of, parts_of, images_of, type_number, without, IsWellFormed, IsMarked, IsContact, mark_of}
use Rattle.std.proofs.lemmas.Nat.Bits.{bit_at_and, bit_at_or, bit_at_xor, bit_at-lt, bit_at-pow_other, bit_at_ones, same_from_bits}
use Rattle.geo_core.proofs.FiniteSets.Distincts.{Distinct-places}
use Rattle.tech_model.specs.Columns.{all_parts}
use Rattle.tech_model.proofs.WellFormedLaws.{layer_well_formed}
use Rattle.tech_model.proofs.SetLaws.{bit_cases, or_bit_cases, set_bits, image_mark, mark_layer, xor_of_min}
use Rattle.tech_model.specs.declared.limits.TheConstants.{PART_BITS}

common : RawTech → ℕ → TypeId → ℕ
common raw parts image = bit_and parts (parts_of raw image.0)

min_ones : (x y : ℕ) → x ≡ 1 → y ≡ 1 → min x y ≡ 1
min_ones x y x_is y_is = omega arith

min_left_zero : (x y : ℕ) → x ≡ 0 → min x y ≡ 0
min_left_zero x y is = omega arith

min_right_zero : (x y : ℕ) → y ≡ 0 → min x y ≡ 0
min_right_zero x y is = omega arith

fold_has_bit : (raw : RawTech) (images : List TypeId) (a k : ℕ) → bit_at a k ≡ 1 → ((image : TypeId) → In image images → bit_at (parts_of raw image.0) k ≡ 1)
    → bit_at (fold (common raw) a images) k ≡ 1
unfolding common
fold_has_bit raw [] a k start each = start
fold_has_bit raw (image ∷ images) a k start each =
    fold_has_bit raw images (bit_and a (parts_of raw image.0)) k
    (bit_at_and a (parts_of raw image.0) k ∙ min_ones (bit_at a k) (bit_at (parts_of raw image.0) k) start (each image (inl refl)))
    (λ other later. each other (inr later))

fold_stays_clear : (raw : RawTech) (images : List TypeId) (a k : ℕ) → bit_at a k ≡ 0 → bit_at (fold (common raw) a images) k ≡ 0
unfolding common
fold_stays_clear raw [] a k start = start
fold_stays_clear raw (image ∷ images) a k start =
    fold_stays_clear raw images (bit_and a (parts_of raw image.0)) k
    (bit_at_and a (parts_of raw image.0) k ∙ min_left_zero (bit_at a k) (bit_at (parts_of raw image.0) k) start)

fold_clears : (raw : RawTech) (images : List TypeId) (a k : ℕ) (image : TypeId) → In image images → bit_at (parts_of raw image.0) k ≡ 0
    → bit_at (fold (common raw) a images) k ≡ 0
unfolding common
fold_clears raw [] a k image none clear = absurd none
fold_clears raw (x ∷ xs) a k image (inl same) clear =
    fold_stays_clear raw xs (bit_and a (parts_of raw x.0)) k
    (bit_at_and a (parts_of raw x.0) k ∙ min_right_zero (bit_at a k) (bit_at (parts_of raw x.0) k)
    (ap (λ (t : TypeId). bit_at (parts_of raw t.0) k) same ∙ clear))
fold_clears raw (x ∷ xs) a k image (inr later) clear = fold_clears raw xs (bit_and a (parts_of raw x.0)) k image later clear

-- a bit of an image other than the mark's is that of an atom of its plane
atom_plane : (raw : RawTech) (bit image k : ℕ) → IsWellFormed raw → IsMarked raw bit image → k ≢ bit → bit_at (parts_of raw image) k ≡ 1
    → plane_of raw (k + 1) ≡ plane_of raw image
atom_plane raw bit image k w marked other set =
    elim (or_bit_cases (parts_of raw marked.residue) (2 ^ bit) k (sym (ap (λ (x : ℕ). bit_at x k) marked.set) ∙ set)) [
      | inl here ↦ (set_bits raw marked.residue k w (w.sets.simple marked.residue marked.residue_type marked.residue_simple) marked.residue_type here).1
          ∙ marked.residue_plane
      | inr there ↦ let apart : ◌≡◌ {A = ℕ} 1 0 = sym there ∙ bit_at-pow_other bit k other in absurd (omega arith)
    ]

-- one of the first two images lacks the bit
lacking : (raw : RawTech) (layer k : ℕ) → IsWellFormed raw → layer < length raw.layers → 1 < length (images_of raw layer) → (contact : IsContact raw layer)
    → k ≢ contact.bit
    → (image : TypeId) × (In image (images_of raw layer) × (bit_at (parts_of raw image.0) k ≡ 0))
lacking raw layer k w below many contact other =
    let images : List TypeId = images_of raw layer in
    let first = get_or images 0 (type_number 0) in
    let second = get_or images 1 (type_number 0) in
    elim (bit_cases (parts_of raw first.0) k) [
      | inl clear ↦ (first, (In-get_or images 0 (type_number 0) (omega arith), clear))
      | inr set ↦ elim (bit_cases (parts_of raw second.0) k) [
        | inl clear ↦ (second, (In-get_or images 1 (type_number 0) many, clear))
        | inr too ↦
            let planes : List ℕ = map (λ (t : TypeId). plane_of raw t.0) images in
            let long : length planes ≡ length images = length-map images (λ (t : TypeId). plane_of raw t.0) in
            let apart = Distinct-places planes 0 1 0 (layer_well_formed raw layer w below).planes (omega arith) (omega arith) in
            let one = atom_plane raw contact.bit first.0 k w (contact.images 0 (type_number 0) (omega arith)) other set in
            let two = atom_plane raw contact.bit second.0 k w (contact.images 1 (type_number 0) many) other too in
            absurd (apart (get_or-map (λ (t : TypeId). plane_of raw t.0) images 0 (type_number 0) 0 (omega arith) ∙ sym one ∙ two
            ∙ sym (get_or-map (λ (t : TypeId). plane_of raw t.0) images 1 (type_number 0) 0 many)))
      ]
    ]

-- the mark of a contact is its bit alone
pub mark_of-contact : (raw : RawTech) (layer : ℕ) → IsWellFormed raw → layer < length raw.layers → 1 < length (images_of raw layer)
    → (contact : IsContact raw layer)
    → mark_of raw (images_of raw layer) ≡ 2 ^ contact.bit
unfolding common
mark_of-contact raw layer w below many contact = same_from_bits (mark_of raw (images_of raw layer)) (2 ^ contact.bit) (λ k.
    elim (cases_eq k contact.bit) [
      | inl same ↦ ap (bit_at (mark_of raw (images_of raw layer))) same
          ∙ fold_has_bit raw (images_of raw layer) all_parts contact.bit (bit_at_ones PART_BITS contact.bit contact.below_limit)
          (λ image is. image_mark raw layer image.0 contact is)
          ∙ sym (ap (bit_at (2 ^ contact.bit)) same ∙ bit_at-pow_same contact.bit)
      | inr other ↦
          let found = lacking raw layer k w below many contact other in
          fold_clears raw (images_of raw layer) all_parts k found.0 found.1.0 found.1.1 ∙ sym (bit_at-pow_other contact.bit k other)
    ])

-- ---- a set without the mark

xor_of_own : (x y z : ℕ) → x < 2 → y ≡ min x z → z ≡ 0 → (x + y) % 2 ≡ x
xor_of_own x y z below is clear = omega arith

max_clear : (x y : ℕ) → y ≡ 0 → max x y ≡ x
max_clear x y clear = omega arith

-- a type of a contact without the mark has the set of its residue
pub residue_set : (raw : RawTech) (layer t : ℕ) (contact : IsContact raw layer) → 1 < length (images_of raw layer) → (marked : IsMarked raw contact.bit t)
    → without (parts_of raw t) (2 ^ contact.bit) ≡ parts_of raw marked.residue
residue_set raw layer t contact many marked = same_from_bits (without (parts_of raw t) (2 ^ contact.bit)) (parts_of raw marked.residue) (λ k.
    let set = parts_of raw t in
    let mark = 2 ^ contact.bit in
    let split = bit_at_xor set (bit_and set mark) k in
    elim (cases_eq k contact.bit) [
      | inr other ↦
          let clear = bit_at-pow_other contact.bit k other in
          split ∙ xor_of_own (bit_at set k) (bit_at (bit_and set mark) k) (bit_at mark k) (bit_at-lt set k) (bit_at_and set mark k) clear
          ∙ ap (λ (x : ℕ). bit_at x k) marked.set ∙ bit_at_or (parts_of raw marked.residue) mark k
          ∙ max_clear (bit_at (parts_of raw marked.residue) k) (bit_at mark k) clear
      | inl same ↦
          let set_here : bit_at mark k ≡ 1 = ap (bit_at mark) same ∙ bit_at-pow_same contact.bit in
          let gone = split ∙ xor_of_min (bit_at set k) (bit_at (bit_and set mark) k) (bit_at mark k) (bit_at-lt set k) (bit_at_and set mark k) set_here in
          elim (bit_cases (parts_of raw marked.residue) k) [
            | inl clear ↦ gone ∙ sym clear
            | inr bit ↦
                let at = mark_layer raw layer marked.residue contact marked.residue_type (ap (bit_at (parts_of raw marked.residue)) (sym same) ∙ bit) in
                let one : length (images_of raw layer) ≡ 1 = ap (λ (l : ℕ). length (images_of raw l)) (sym at) ∙ marked.residue_simple in
                absurd (omega arith)
          ]
    ])
