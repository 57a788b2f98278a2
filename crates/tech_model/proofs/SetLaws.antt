-- Sets of parts as numbers: subsets, and the bits of the sets of types.
use Rattle.tech_model.proofs.Common.{◌≡◌, ◌≢◌, ◌⊎◌, ◌+◌, ◌-◌, ◌*◌, ◌^◌, ◌%◌, ◌<◌, ◌==◌, ℕ, true, length, bit_and, bit_or, min, max, sym, ap, subst}
use Rattle.tech_model.proofs.Common.{◌∙◌, arith, inl, inr, IsTrue, not, bit_at, bit_at-zero, bit_at-pow_same, cases_eq, and_parts, and_from, eq-eqb}
use Rattle.tech_model.proofs.Common.{eqb-true, ne_eqb, In, All-In, TypeId, RawTech, is_type, plane_of, layer_of, parts_of, images_of, is_subset}
use Rattle.tech_model.proofs.Common.{without, IsWellFormed, IsMarked, IsContact, MOST_TYPES}
use Rattle.std.proofs.lemmas.Nat.{and_comm, and_assoc}
use Rattle.std.proofs.lemmas.Nat.Bits.{bit_at_and, bit_at_or, bit_at_xor, bit_at-pow_other, bit_at-lt, and_pow}
use Rattle.std.proofs.lemmas.Bool.{eqb-false, not-true}
use Rattle.tech_model.specs.Types.{is_proper_subset}
use Rattle.tech_model.specs.WellFormed.{IsSimple, HasSet, atom, composed}
use Rattle.tech_model.proofs.WellFormedLaws.{type_bounds, layer_well_formed}

subset_is : (a b : ℕ) → is_subset a b ≡ true → bit_and a b ≡ a
subset_is a b is = eqb-true (bit_and a b) a is

subset_from : (a b : ℕ) → bit_and a b ≡ a → is_subset a b ≡ true
subset_from a b is = eq-eqb (bit_and a b) a is

subset_trans : (a b c : ℕ) → bit_and a b ≡ a → bit_and b c ≡ b → bit_and a c ≡ a
subset_trans a b c ab bc =
    ap (λ (x : ℕ). bit_and x c) (sym ab) ∙ and_assoc c a b ∙ ap (bit_and a) bc ∙ ab

subset_antisym : (a b : ℕ) → bit_and a b ≡ a → bit_and b a ≡ b → a ≡ b
subset_antisym a b ab ba = sym ab ∙ and_comm a b ∙ ba

-- a proper subset differs
proper_parts : (a b : ℕ) → is_proper_subset a b ≡ true → (bit_and a b ≡ a) × (a ≢ b)
proper_parts a b is =
    let parts = and_parts (is_subset a b) (not (a == b)) is in
    (subset_is a b parts.0, eqb-false a b (not-true (a == b) parts.1))

-- a part of a part is a part
pub proper_trans : (a b c : ℕ) → is_proper_subset a b ≡ true → is_proper_subset b c ≡ true → is_proper_subset a c ≡ true
proper_trans a b c ab bc =
    let first = proper_parts a b ab in
    let second = proper_parts b c bc in
    let differ : a ≢ c = λ same. first.1 (subset_antisym a b first.0 (subst (λ (x : ℕ). bit_and b x ≡ b) (sym same) second.0)) in
    and_from (is_subset a c) (not (a == c)) (subset_from a c (subset_trans a b c first.0 second.0)) (ap not (ne_eqb a c differ))

-- of two sets at most one is a proper part of the other
pub proper_one_way : (a b : ℕ) → is_proper_subset a b ≡ true → is_proper_subset b a ≡ true → ⊥
proper_one_way a b ab ba = (proper_parts a b ab).1 (subset_antisym a b (proper_parts a b ab).0 (proper_parts b a ba).0)

-- ---- bits

-- a bit is clear or set
pub bit_cases : (n k : ℕ) → (bit_at n k ≡ 0) ⊎ (bit_at n k ≡ 1)
bit_cases n k = let below = bit_at-lt n k in elim (cases_eq (bit_at n k) 0) [ inl zero_is ↦ inl zero_is | inr other ↦ inr (omega arith) ]

-- a set with a bit is not empty
pub bit_not_empty : (n k : ℕ) → bit_at n k ≡ 1 → n ≢ 0
bit_not_empty n k bit empty =
    let apart : ◌≡◌ {A = ℕ} 1 0 = sym bit ∙ ap (λ (x : ℕ). bit_at x k) empty ∙ bit_at-zero k in omega arith

-- a bit that is in both goes
pub xor_of_min : (x y z : ℕ) → x < 2 → y ≡ min x z → z ≡ 1 → (x + y) % 2 ≡ 0
xor_of_min x y z below is one = omega arith

max_one : (x y : ℕ) → x < 2 → y < 2 → max x y ≡ 1 → (x ≡ 1) ⊎ (y ≡ 1)
max_one x y x_below y_below is = elim (cases_eq x 1) [ inl one ↦ inl one | inr other ↦ inr (omega arith) ]

max_left : (x y : ℕ) → y < 2 → x ≡ 1 → max x y ≡ 1
max_left x y below is = omega arith

-- what is taken away is gone
pub without_bit : (a b k : ℕ) → bit_at b k ≡ 1 → bit_at (without a b) k ≡ 0
without_bit a b k bit = bit_at_xor a (bit_and a b) k ∙ xor_of_min (bit_at a k) (bit_at (bit_and a b) k) (bit_at b k) (bit_at-lt a k) (bit_at_and a b k) bit

xor_of_min_kept : (x y z : ℕ) → x < 2 → y ≡ min x z → (x + y) % 2 ≡ 1 → x ≡ 1
xor_of_min_kept x y z below is odd = omega arith

-- what is left was there
pub without_bit_source : (a b k : ℕ) → bit_at (without a b) k ≡ 1 → bit_at a k ≡ 1
without_bit_source a b k bit =
    xor_of_min_kept (bit_at a k) (bit_at (bit_and a b) k) (bit_at b k) (bit_at-lt a k) (bit_at_and a b k) (sym (bit_at_xor a (bit_and a b) k) ∙ bit)

-- a bit of a union is a bit of one of the two
pub or_bit_cases : (a b k : ℕ) → bit_at (bit_or a b) k ≡ 1 → (bit_at a k ≡ 1) ⊎ (bit_at b k ≡ 1)
or_bit_cases a b k bit = max_one (bit_at a k) (bit_at b k) (bit_at-lt a k) (bit_at-lt b k) (sym (bit_at_or a b k) ∙ bit)

-- a bit of the first set is one of the union
pub or_bit_left : (a b k : ℕ) → bit_at a k ≡ 1 → bit_at (bit_or a b) k ≡ 1
or_bit_left a b k bit = bit_at_or a b k ∙ max_left (bit_at a k) (bit_at b k) (bit_at-lt b k) bit

max_right : (x y : ℕ) → x < 2 → y ≡ 1 → max x y ≡ 1
max_right x y below is = omega arith

-- a bit of the second set is one of the union
pub or_bit_right : (a b k : ℕ) → bit_at b k ≡ 1 → bit_at (bit_or a b) k ≡ 1
or_bit_right a b k bit = bit_at_or a b k ∙ max_right (bit_at a k) (bit_at b k) (bit_at-lt a k) bit

-- the mark with a bit is part of a set that has the bit
pub mark_part : (n k : ℕ) → bit_at n k ≡ 1 → is_subset (2 ^ k) n ≡ true
mark_part n k bit = subset_from (2 ^ k) n (and_comm (2 ^ k) n ∙ and_pow n k ∙ ap (λ (x : ℕ). x * 2 ^ k) bit ∙ omega arith)

-- a mark that is a part of a set is a bit of it
pub mark_part_bit : (n k : ℕ) → is_subset (2 ^ k) n ≡ true → bit_at n k ≡ 1
mark_part_bit n k is = elim (bit_cases n k) [
  | inl clear ↦ absurd (bit_not_empty (2 ^ k) k (bit_at-pow_same k)
      (sym (subset_is (2 ^ k) n is) ∙ and_comm (2 ^ k) n ∙ and_pow n k ∙ ap (λ (x : ℕ). x * 2 ^ k) clear ∙ omega arith))
  | inr set ↦ set
]

-- ---- the sets of types

-- a set that is no contact's has atoms alone, which are types of its plane
pub set_bits : (raw : RawTech) (t k : ℕ) → IsWellFormed raw → HasSet raw t → IsTrue (is_type raw t) → bit_at (parts_of raw t) k ≡ 1
    → (k < MOST_TYPES) × (plane_of raw (k + 1) ≡ plane_of raw t)
set_bits raw t k w (atom _ set) is bit =
    let bounds = type_bounds raw t is in
    elim (cases_eq k (t - 1)) [
      | inl same ↦ (omega (arith, bounds.0, bounds.1, w.types_limit), ap (plane_of raw) (omega (arith, bounds.0)))
      | inr other ↦
          let apart : ◌≡◌ {A = ℕ} 1 0 = sym bit ∙ ap (λ (x : ℕ). bit_at x k) set ∙ bit_at-pow_other (t - 1) k other in
          absurd (omega arith)
    ]
set_bits raw t k w (composed _ first second union of_first of_second) is bit =
    elim (or_bit_cases (parts_of raw first) (parts_of raw second) k (sym (ap (λ (x : ℕ). bit_at x k) union.set) ∙ bit)) [
      | inl here ↦ let found = set_bits raw first k w of_first union.first_type here in (found.0, found.1 ∙ union.first_plane)
      | inr there ↦ let found = set_bits raw second k w of_second union.second_type there in (found.0, found.1 ∙ union.second_plane)
    ]

-- and it has one
pub set_bit : (raw : RawTech) (t : ℕ) → HasSet raw t → (k : ℕ) × (bit_at (parts_of raw t) k ≡ 1)
set_bit raw t (atom _ set) = (t - 1, ap (λ (x : ℕ). bit_at x (t - 1)) set ∙ bit_at-pow_same (t - 1))
set_bit raw t (composed _ first second union of_first of_second) =
    let found = set_bit raw first of_first in
    (found.0, ap (λ (x : ℕ). bit_at x found.0) union.set ∙ or_bit_left (parts_of raw first) (parts_of raw second) found.0 found.1)

-- a type is of a layer with one image, or of a contact
pub type_cases : (raw : RawTech) (t : ℕ) → IsWellFormed raw → IsTrue (is_type raw t) → IsSimple raw t ⊎ (1 < length (images_of raw (layer_of raw t)))
type_cases raw t w is =
    let placed = (layer_well_formed raw (layer_of raw t) w (w.type_layers t is)).placed in
    elim (cases_eq (length (images_of raw (layer_of raw t))) 1) [ inl one ↦ inl one | inr other ↦ inr (omega arith) ]

-- a type whose layer has several images is of a contact
pub contact_of : (raw : RawTech) (t : ℕ) → IsWellFormed raw → IsTrue (is_type raw t) → 1 < length (images_of raw (layer_of raw t))
    → IsContact raw (layer_of raw t)
contact_of raw t w is many = w.sets.contacts (layer_of raw t) (w.type_layers t is) many

-- an image of a contact has the mark
pub image_mark : (raw : RawTech) (layer t : ℕ) (contact : IsContact raw layer) → In (record { 0 = t }) (images_of raw layer)
    → bit_at (parts_of raw t) contact.bit ≡ 1
image_mark raw layer t contact is =
    let marked = All-In (λ (image : TypeId). IsMarked raw contact.bit image.0) (images_of raw layer) (record { 0 = t }) contact.images is in
    ap (λ (x : ℕ). bit_at x contact.bit) marked.set ∙ or_bit_right (parts_of raw marked.residue) (2 ^ contact.bit) contact.bit (bit_at-pow_same contact.bit)

-- and no other type has it
pub mark_layer : (raw : RawTech) (layer t : ℕ) (contact : IsContact raw layer) → IsTrue (is_type raw t) → bit_at (parts_of raw t) contact.bit ≡ 1
    → layer_of raw t ≡ layer
mark_layer raw layer t contact is bit = elim (cases_eq (layer_of raw t) layer) [
  | inl same ↦ same
  | inr other ↦
      let none = contact.no_other t is other in
      let apart : ◌≡◌ {A = ℕ} (1 * 2 ^ contact.bit) 0 = sym (ap (λ (x : ℕ). x * 2 ^ contact.bit) bit) ∙ sym (and_pow (parts_of raw t) contact.bit) ∙ none in
      absurd (bit_not_empty (2 ^ contact.bit) contact.bit (bit_at-pow_same contact.bit) (omega (arith, apart)))
]

-- no type has the empty set
pub set_not_empty : (raw : RawTech) (t : ℕ) → IsWellFormed raw → IsTrue (is_type raw t) → parts_of raw t ≢ 0
set_not_empty raw t w is = elim (type_cases raw t w is) [
  | inl simple ↦ let found = set_bit raw t (w.sets.simple t is simple) in bit_not_empty (parts_of raw t) found.0 found.1
  | inr many ↦
      let contact = contact_of raw t w is many in
      bit_not_empty (parts_of raw t) contact.bit (image_mark raw (layer_of raw t) t contact (w.is_image t is))
]
