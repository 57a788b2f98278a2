-- Which parts stand at a place: none, one alone, or two. Where one stands alone, all parts together are that part.
use Rattle.hierarchy_model.proofs.Common.{◌≡◌, ◌≢◌, ◌⊎◌, ◌+◌, ◌==◌, ℕ, zero, suc, Bool, false, List, [], ◌∷◌, bit_or, slice_get, if◌then◌else◌, inl}
use Rattle.hierarchy_model.proofs.Common.{inr, refl, sym, ap, ◌∙◌, arith, eq-eqb, ne_eqb, Some, cases_eq, RawTech, joined, Place, SetLayout}
use Rattle.hierarchy_model.proofs.Common.{joined_at, union_of, flat_type, is_exactly, parts_with, HasKind}
use Rattle.std.specs.Int.Bits.{or_zero_r}
use Rattle.hierarchy_model.specs.Restrictions.{PartStands}
use Rattle.hierarchy_model.proofs.KindLaws.{material_set}

-- No part stands at the place.
abbrev pub NoneStands : List SetLayout → Place → Type 0
NoneStands parts place = (position : ℕ) → PartStands parts position place → ⊥

-- One part alone stands at the place.
pub record OneStands (parts : List SetLayout) (place : Place) : Type 0 where
  pub position : ℕ
  pub stands : PartStands parts position place
  pub alone : (other : ℕ) → PartStands parts other place → other ≡ position

-- Two parts stand at the place.
pub record TwoStand (parts : List SetLayout) (place : Place) : Type 0 where
  pub first : ℕ
  pub second : ℕ
  pub differ : first ≢ second
  pub first_stands : PartStands parts first place
  pub second_stands : PartStands parts second place

-- what stands at a position of a list stands at the next, where one part is put before
pub later : (part : SetLayout) (parts : List SetLayout) (position : ℕ) (place : Place) → PartStands parts position place
    → PartStands (part ∷ parts) (suc position) place
later part parts position place stands = record { part = stands.part; there = stands.there; material = stands.material }

-- and back
pub earlier : (part : SetLayout) (parts : List SetLayout) (position : ℕ) (place : Place) → PartStands (part ∷ parts) (suc position) place
    → PartStands parts position place
earlier part parts position place stands = record { part = stands.part; there = stands.there; material = stands.material }

-- the parts at one position are one
pub one_part : (parts : List SetLayout) (position : ℕ) (part other : SetLayout) → slice_get parts position ≡ Some part
    → slice_get parts position ≡ Some other → part ≡ other
one_part parts position part other there also = cc

-- where the first part is empty it does not stand
first_empty : (part : SetLayout) (parts : List SetLayout) (place : Place) → part place ≡ 0 → PartStands (part ∷ parts) zero place → ⊥
first_empty part parts place empty stands =
    let same : part ≡ stands.part = one_part (part ∷ parts) zero part stands.part refl stands.there in
    stands.material (ap (λ (p : SetLayout). p place) (sym same) ∙ empty)

none_first : (part : SetLayout) (parts : List SetLayout) (place : Place) → part place ≡ 0 → NoneStands parts place → NoneStands (part ∷ parts) place
none_first part parts place empty none zero stands = first_empty part parts place empty stands
none_first part parts place empty none (suc k) stands = none k (earlier part parts k place stands)

one_later : (part : SetLayout) (parts : List SetLayout) (place : Place) → part place ≡ 0 → OneStands parts place → OneStands (part ∷ parts) place
one_later part parts place empty one = record {
  position = suc one.position;
  stands = later part parts one.position place one.stands;
  alone = alone_later;
} where
  alone_later : (other : ℕ) → PartStands (part ∷ parts) other place → other ≡ suc one.position
  alone_later zero stands = absurd (first_empty part parts place empty stands)
  alone_later (suc k) stands = ap suc (one.alone k (earlier part parts k place stands))

two_later : (part : SetLayout) (parts : List SetLayout) (place : Place) → TwoStand parts place → TwoStand (part ∷ parts) place
two_later part parts place two = record {
  first = suc two.first;
  second = suc two.second;
  differ = λ same. two.differ (omega arith);
  first_stands = later part parts two.first place two.first_stands;
  second_stands = later part parts two.second place two.second_stands;
}

stands_first : (part : SetLayout) (parts : List SetLayout) (place : Place) → part place ≢ 0 → PartStands (part ∷ parts) zero place
stands_first part parts place full = record { part = part; there = refl; material = full }

one_first : (part : SetLayout) (parts : List SetLayout) (place : Place) → part place ≢ 0 → NoneStands parts place → OneStands (part ∷ parts) place
one_first part parts place full none = record { position = zero; stands = stands_first part parts place full; alone = alone_first } where
  alone_first : (other : ℕ) → PartStands (part ∷ parts) other place → other ≡ zero
  alone_first zero stands = refl
  alone_first (suc k) stands = absurd (none k (earlier part parts k place stands))

two_first : (part : SetLayout) (parts : List SetLayout) (place : Place) → part place ≢ 0 → OneStands parts place → TwoStand (part ∷ parts) place
two_first part parts place full one = record {
  first = zero;
  second = suc one.position;
  differ = λ same. omega arith;
  first_stands = stands_first part parts place full;
  second_stands = later part parts one.position place one.stands;
}

-- at each place no part stands, or one alone, or two
pub who_stands : (parts : List SetLayout) (place : Place) → NoneStands parts place ⊎ (OneStands parts place ⊎ TwoStand parts place)
who_stands [] place = inl (λ position stands. none position stands.part stands.there) where
  none : (position : ℕ) (part : SetLayout) → slice_get [] position ≡ Some part → ⊥
  none position part there = cc
who_stands (part ∷ parts) place = elim (cases_eq (part place) 0) [
  | inl empty ↦ elim (who_stands parts place) [
    | inl none ↦ inl (none_first part parts place empty none)
    | inr (inl one) ↦ inr (inl (one_later part parts place empty one))
    | inr (inr two) ↦ inr (inr (two_later part parts place two))
  ]
  | inr full ↦ elim (who_stands parts place) [
    | inl none ↦ inr (inl (one_first part parts place full none))
    | inr (inl one) ↦ inr (inr (two_first part parts place full one))
    | inr (inr two) ↦ inr (inr (two_later part parts place two))
  ]
]

-- a part that does not stand at the place is empty there
pub empty_there : (parts : List SetLayout) (position : ℕ) (place : Place) (part : SetLayout) → slice_get parts position ≡ Some part
    → (PartStands parts position place → ⊥) → part place ≡ 0
empty_there parts position place part there not_there = elim (cases_eq (part place) 0) [
  | inl empty ↦ empty
  | inr full ↦ absurd (not_there (record { part = part; there = there; material = full }))
]

-- where no part stands, all together are empty
pub union_of_none : (parts : List SetLayout) (place : Place) → NoneStands parts place → union_of parts place ≡ 0
union_of_none [] place none = refl
union_of_none (part ∷ parts) place none =
    ap (λ (set : ℕ). bit_or set (union_of parts place)) (empty_there (part ∷ parts) zero place part refl (none zero))
    ∙ union_of_none parts place (λ k stands. none (suc k) (later part parts k place stands))

-- where one part stands alone, all together are that part
pub union_of_one : (parts : List SetLayout) (place : Place) (position : ℕ) (part : SetLayout) → slice_get parts position ≡ Some part
    → ((other : ℕ) → PartStands parts other place → other ≡ position) → union_of parts place ≡ part place
union_of_one [] place position part there alone = cc
union_of_one (first ∷ parts) place zero part there alone =
    let same : first ≡ part = one_part (first ∷ parts) zero first part refl there in
    let none : NoneStands parts place = λ k stands. let at : suc k ≡ zero = alone (suc k) (later first parts k place stands) in omega arith in
    ap (bit_or (first place)) (union_of_none parts place none) ∙ or_zero_r (first place) ∙ ap (λ (p : SetLayout). p place) same
union_of_one (first ∷ parts) place (suc position) part there alone =
    let away : PartStands (first ∷ parts) zero place → ⊥ = λ stands. let at : zero ≡ suc position = alone zero stands in omega arith in
    let rest : (other : ℕ) → PartStands parts other place → other ≡ position =
    λ k stands. let at : suc k ≡ suc position = alone (suc k) (later first parts k place stands) in omega arith in
    ap (λ (set : ℕ). bit_or set (union_of parts place)) (empty_there (first ∷ parts) zero place first refl away)
    ∙ union_of_one parts place position part there rest

-- where no part stands the flat type is space
pub flat_of_none : (raw : RawTech) (parts : List SetLayout) (place : Place) → NoneStands parts place → flat_type raw parts place ≡ Some 0
flat_of_none raw parts place none = ap (joined raw place.plane) (union_of_none parts place none)

-- where one part stands alone the flat type is that part's
pub flat_of_one : (raw : RawTech) (parts : List SetLayout) (place : Place) (position : ℕ) (part : SetLayout) → slice_get parts position ≡ Some part
    → ((other : ℕ) → PartStands parts other place → other ≡ position) → flat_type raw parts place ≡ joined_at raw part place
flat_of_one raw parts place position part there alone = ap (joined raw place.plane) (union_of_one parts place position part there alone)

-- where a part is empty its type is space
pub type_of_empty : (raw : RawTech) (part : SetLayout) (place : Place) → part place ≡ 0 → joined_at raw part place ≡ Some 0
type_of_empty raw part place empty = ap (joined raw place.plane) empty

-- a part with a type other than space stands there
pub kind_stands : (raw : RawTech) (parts : List SetLayout) (position : ℕ) (place : Place) (kind : ℕ) → HasKind raw parts position place kind
    → kind ≢ 0
    → PartStands parts position place
kind_stands raw parts position place kind has material =
    record { part = has.part; there = has.there; material = material_set raw place.plane (has.part place) kind has.is material }

-- an empty part adds nothing to the count of a type other than space
count_empty : (raw : RawTech) (part : SetLayout) (place : Place) (kind count : ℕ) → kind ≢ 0 → part place ≡ 0
    → (if is_exactly kind (joined_at raw part place) then 1 else 0) + count ≡ count
count_empty raw part place kind count material empty =
    let differs : (0 == kind) ≡ false = ne_eqb 0 kind (λ same. material (sym same)) in
    let nothing : ◌≡◌ {A = ℕ} (if is_exactly kind (joined_at raw part place) then 1 else 0) 0 =
    ap (λ found. if is_exactly kind found then 1 else 0) (type_of_empty raw part place empty) ∙ ap (λ (b : Bool). if b then 1 else 0) differs in
    ap (λ (n : ℕ). n + count) nothing ∙ omega arith

-- a part with the type counts once
count_kind : (raw : RawTech) (part : SetLayout) (place : Place) (kind count : ℕ) → joined_at raw part place ≡ Some kind
    → (if is_exactly kind (joined_at raw part place) then 1 else 0) + count ≡ 1 + count
count_kind raw part place kind count is =
    let once : ◌≡◌ {A = ℕ} (if is_exactly kind (joined_at raw part place) then 1 else 0) 1 =
    ap (λ found. if is_exactly kind found then 1 else 0) is ∙ ap (λ (b : Bool). if b then 1 else 0) (eq-eqb kind kind refl) in
    ap (λ (n : ℕ). n + count) once

-- where no part stands, none has a type other than space
pub count_of_none : (raw : RawTech) (parts : List SetLayout) (place : Place) (kind : ℕ) → kind ≢ 0 → NoneStands parts place
    → parts_with raw parts place kind ≡ 0
count_of_none raw [] place kind material none = refl
count_of_none raw (part ∷ parts) place kind material none =
    count_empty raw part place kind (parts_with raw parts place kind) material (empty_there (part ∷ parts) zero place part refl (none zero))
    ∙ count_of_none raw parts place kind material (λ k stands. none (suc k) (later part parts k place stands))

-- where one part stands alone, one has its type
pub count_of_one : (raw : RawTech) (parts : List SetLayout) (place : Place) (position : ℕ) (part : SetLayout) (kind : ℕ) → kind ≢ 0
    → slice_get parts position ≡ Some part → joined_at raw part place ≡ Some kind
    → ((other : ℕ) → PartStands parts other place → other ≡ position) → parts_with raw parts place kind ≡ 1
count_of_one raw [] place position part kind material there is alone = cc
count_of_one raw (first ∷ parts) place zero part kind material there is alone =
    let same : first ≡ part = one_part (first ∷ parts) zero first part refl there in
    let none : NoneStands parts place = λ k stands. let at : suc k ≡ zero = alone (suc k) (later first parts k place stands) in omega arith in
    let rest : parts_with raw parts place kind ≡ 0 = count_of_none raw parts place kind material none in
    count_kind raw first place kind (parts_with raw parts place kind) (ap (λ (p : SetLayout). joined_at raw p place) same ∙ is)
    ∙ ap (λ (n : ℕ). 1 + n) rest
count_of_one raw (first ∷ parts) place (suc position) part kind material there is alone =
    let away : PartStands (first ∷ parts) zero place → ⊥ = λ stands. let at : zero ≡ suc position = alone zero stands in omega arith in
    let rest : (other : ℕ) → PartStands parts other place → other ≡ position =
    λ k stands. let at : suc k ≡ suc position = alone (suc k) (later first parts k place stands) in omega arith in
    count_empty raw first place kind (parts_with raw parts place kind) material (empty_there (first ∷ parts) zero place first refl away)
    ∙ count_of_one raw parts place position part kind material there is rest
