-- What clean cells keep: their flat type, their own types within it, and their channels.
use Rattle.hierarchy_model.proofs.Common.{◌≡◌, ◌≢◌, ◌⊎◌, ◌+◌, ◌==◌, ℕ, zero, suc, Bool, false, List, [], ◌∷◌, Option, bit_or, if◌then◌else◌, inl}
use Rattle.hierarchy_model.proofs.Common.{inr, refl, sym, ap, ◌∙◌, arith, eq-eqb, ne_eqb, Some, None, IsTrue, cases_eq, In, In-append_cases, RawTech}
use Rattle.hierarchy_model.proofs.Common.{joined, KeepsRules, IsWellFormed, within_self, is_channel, Place, SetLayout, joined_at, union_of}
use Rattle.hierarchy_model.proofs.Common.{flat_type, is_exactly, parts_with, HasKind, Offends, OwnCell, CellTree, Elements, place_back, own_types}
use Rattle.hierarchy_model.proofs.Common.{own_types_below, cell_tree, no_elements, element_and, sets_in, flat_sets, element_parts, IsTyped, AreTyped}
use Rattle.hierarchy_model.proofs.Common.{IsClean, AreClean}
use Rattle.std.proofs.Common.{true, ◌++◌}
use Rattle.std.proofs.Common.{subst}
use Rattle.std.proofs.Common.{eqb-true, true≢false}
use Rattle.std.proofs.lemmas.Bool.{cases_Bool}
use Rattle.tech_model.specs.Types.{is_within}
use Rattle.tech_model.proofs.WithinLaws.{within_trans, within_space}
use Rattle.offences.specs.LayoutModel.FlatSets.{sets_below}
use Rattle.hierarchy_model.specs.Laws.{times, HasFlatType, OwnTypesAreWithin, ChannelsHaveOneOwner}
use Rattle.hierarchy_model.proofs.KindLaws.{defined_or_not, type_in_layout}

-- ---- parts that do not offend

-- the flat type is defined
pub flat_defined : (raw : RawTech) (parts : List SetLayout) (place : Place) → (Offends raw parts place → ⊥)
    → (flat : ℕ) × (flat_type raw parts place ≡ Some flat)
flat_defined raw parts place fine = elim (defined_or_not (flat_type raw parts place)) [
  | inl found ↦ found
  | inr none ↦ absurd (fine (inl none))
]

-- each part's type is space or within the flat type
pub part_within : (raw : RawTech) (parts : List SetLayout) (place : Place) → (Offends raw parts place → ⊥)
    → (position kind : ℕ) → HasKind raw parts position place kind → kind ≢ 0
    → (flat : ℕ) × (flat_type raw parts place ≡ Some flat) × IsTrue (is_within raw kind flat)
part_within raw parts place fine position kind has material =
    let found = flat_defined raw parts place fine in
    elim (cases_Bool (is_within raw kind found.0)) [
      | inl within ↦ (found.0, found.1, within)
      | inr outside ↦ absurd (fine (inr (inl (record {
        position = position;
        kind = kind;
        has = has;
        material = material;
        outside = λ flat is within.
            let same : flat ≡ found.0 = cc in
            true≢false (sym within ∙ ap (is_within raw kind) same ∙ outside);
      }))))
    ]

-- a part's channel is the flat type
pub part_channel : (raw : RawTech) (parts : List SetLayout) (place : Place) → (Offends raw parts place → ⊥)
    → (position fet : ℕ) → HasKind raw parts position place fet → IsTrue (is_channel raw fet) → flat_type raw parts place ≡ Some fet
part_channel raw parts place fine position fet has channel =
    let found = flat_defined raw parts place fine in
    elim (cases_eq found.0 fet) [
      | inl same ↦ found.1 ∙ ap (λ (kind : ℕ). Some kind) same
      | inr differ ↦ absurd (fine (inr (inr (inr (inl (record {
        position = position;
        fet = fet;
        has = has;
        channel = channel;
        flat = λ is. let same : found.0 ≡ fet = cc in differ same;
      }))))))
    ]

is_exactly-true : (kind : ℕ) (found : Option ℕ) → is_exactly kind found ≡ true → found ≡ Some kind
is_exactly-true kind None is = cc
is_exactly-true kind (Some other) is = ap (λ (n : ℕ). Some n) (eqb-true other kind is)

-- where no part has the type the count is 0
count_of_nobody : (raw : RawTech) (parts : List SetLayout) (place : Place) (kind : ℕ) → ((position : ℕ) → HasKind raw parts position place kind → ⊥)
    → parts_with raw parts place kind ≡ 0
count_of_nobody raw [] place kind nobody = refl
count_of_nobody raw (part ∷ parts) place kind nobody =
    let rest : parts_with raw parts place kind ≡ 0 =
    count_of_nobody raw parts place kind (λ position has. nobody (suc position) (record { part = has.part; there = has.there; is = has.is })) in
    elim (cases_Bool (is_exactly kind (joined_at raw part place))) [
      | inl here ↦ absurd (nobody zero (record { part = part; there = refl; is = is_exactly-true kind (joined_at raw part place) here }))
      | inr differs ↦ ap (λ (b : Bool). (if b then 1 else 0) + parts_with raw parts place kind) differs ∙ ap (λ (n : ℕ). 0 + n) rest
    ]

-- a channel's type is that of one part where it is the flat type, and else of none
pub channel_count : (raw : RawTech) (parts : List SetLayout) (place : Place) → (Offends raw parts place → ⊥) → (fet : ℕ) → IsTrue (is_channel raw fet)
    → parts_with raw parts place fet ≡ (if is_exactly fet (flat_type raw parts place) then 1 else 0)
channel_count raw parts place fine fet channel =
    let found = flat_defined raw parts place fine in
    let test : is_exactly fet (flat_type raw parts place) ≡ (found.0 == fet) = ap (is_exactly fet) found.1 in
    elim (cases_eq found.0 fet) [
      | inl same ↦
          let yes : is_exactly fet (flat_type raw parts place) ≡ true = test ∙ eq-eqb found.0 fet same in
          elim (cases_eq (parts_with raw parts place fet) 1) [
            | inl one ↦ one ∙ sym (ap (λ (b : Bool). if b then 1 else 0) yes)
            | inr other ↦ absurd (fine (inr (inr (inl (record {
              fet = fet;
              flat = found.1 ∙ ap (λ (kind : ℕ). Some kind) same;
              channel = channel;
              count = other;
            })))))
          ]
      | inr differ ↦
          let no : is_exactly fet (flat_type raw parts place) ≡ false = test ∙ ne_eqb found.0 fet differ in
          let nobody : (position : ℕ) → HasKind raw parts position place fet → ⊥ =
          λ position has. let flat = part_channel raw parts place fine position fet has channel in let same : found.0 ≡ fet = cc in differ same in
          count_of_nobody raw parts place fet nobody ∙ sym (ap (λ (b : Bool). if b then 1 else 0) no)
    ]

-- ---- cells

sets_of_elements : (raw : RawTech) (elements : Elements) (place : Place) → sets_below raw elements place ≡ union_of (element_parts raw elements) place
sets_of_elements raw no_elements place = refl
sets_of_elements raw (element_and placed tree rest) place =
    ap (bit_or (flat_sets raw tree (place_back placed place))) (sets_of_elements raw rest place)

-- the flat type of a cell is the flat type of its parts
pub flat_of_parts : (raw : RawTech) (own : OwnCell) (elements : Elements) (place : Place)
    → joined_at raw (flat_sets raw (cell_tree own elements)) place ≡ flat_type raw (sets_in raw own.layout ∷ element_parts raw elements) place
flat_of_parts raw own elements place =
    ap (λ (set : ℕ). joined raw place.plane (bit_or (sets_in raw own.layout place) set)) (sets_of_elements raw elements place)

-- a clean cell has a flat type everywhere
pub has_flat_type : (raw : RawTech) (tree : CellTree) → IsClean raw tree → HasFlatType raw tree
has_flat_type raw (cell_tree own elements) clean place none = clean.1 place (inl (sym (flat_of_parts raw own elements place) ∙ none))

-- The type is within that of one of the parts.
record IsWithinPart (raw : RawTech) (parts : List SetLayout) (place : Place) (kind : ℕ) : Type 0 where
  position : ℕ
  other : ℕ
  has : HasKind raw parts position place other
  within : IsTrue (is_within raw kind other)

-- the type that a cell's own layout has
own_kind : (raw : RawTech) → IsWellFormed raw → KeepsRules raw → (own : OwnCell) (elements : Elements) → IsTyped raw (cell_tree own elements)
    → (place : Place)
    → HasKind raw (sets_in raw own.layout ∷ element_parts raw elements) 0 place (own.layout place)
own_kind raw formed rules own _ typed place =
    record { part = sets_in raw own.layout; there = refl; is = type_in_layout raw formed rules own.layout typed.0 place }

-- the type that an element has, which is the first of its list
abbrev pub first_kind : (raw : RawTech) (first : SetLayout) (parts : List SetLayout) (place : Place) (kind : ℕ) → joined_at raw first place ≡ Some kind
    → HasKind raw (first ∷ parts) 0 place kind
first_kind raw first parts place kind is = record { part = first; there = refl; is = is }

-- the type that a part has, where one more is put before
abbrev pub later_kind : (raw : RawTech) (first : SetLayout) (parts : List SetLayout) (position : ℕ) (place : Place) (kind : ℕ)
    → HasKind raw parts position place kind
    → HasKind raw (first ∷ parts) (suc position) place kind
later_kind raw first parts position place kind has = record { part = has.part; there = has.there; is = has.is }

within_flat : (raw : RawTech) → KeepsRules raw → (own : OwnCell) (elements : Elements) → IsClean raw (cell_tree own elements)
    → (place : Place) (kind : ℕ)
    → IsWithinPart raw (sets_in raw own.layout ∷ element_parts raw elements) place kind
    → (kind ≡ 0) ⊎ ((flat : ℕ) × (joined_at raw (flat_sets raw (cell_tree own elements)) place ≡ Some flat) × IsTrue (is_within raw kind flat))
within_flat raw rules own elements clean place kind part = elim (cases_eq part.other 0) [
  | inl space ↦ inl (within_space raw kind (subst (λ (n : ℕ). IsTrue (is_within raw kind n)) space part.within))
  | inr material ↦
      let parts = sets_in raw own.layout ∷ element_parts raw elements in
      let found = part_within raw parts place (clean.1 place) part.position part.other part.has material in
      inr (found.0, flat_of_parts raw own elements place ∙ found.1, within_trans raw rules.monotone kind part.other found.0 part.within found.2)
]

mutual
  -- each own type of a clean cell is space or within the flat type
  pub own_within : (raw : RawTech) → IsWellFormed raw → KeepsRules raw → (tree : CellTree) → IsTyped raw tree → IsClean raw tree
      → OwnTypesAreWithin raw tree
  own_within raw formed rules (cell_tree own elements) typed clean place kind (inl same) =
      within_flat raw rules own elements clean place kind (record {
        position = 0;
        other = own.layout place;
        has = own_kind raw formed rules own elements typed place;
        within = subst (λ (n : ℕ). IsTrue (is_within raw n (own.layout place))) same (within_self raw (own.layout place));
      })
  own_within raw formed rules (cell_tree own elements) typed clean place kind (inr below) =
      elim (elements_within raw formed rules elements typed.1 clean.0 place kind below) [
        | inl space ↦ inl space
        | inr part ↦ within_flat raw rules own elements clean place kind (record {
          position = suc part.position;
          other = part.other;
          has = later_kind raw (sets_in raw own.layout) (element_parts raw elements) part.position place part.other part.has;
          within = part.within;
        })
      ]

  elements_within : (raw : RawTech) → IsWellFormed raw → KeepsRules raw → (elements : Elements) → AreTyped raw elements → AreClean raw elements
      → (place : Place) (kind : ℕ) → In kind (own_types_below elements place) → (kind ≡ 0) ⊎ IsWithinPart raw (element_parts raw elements) place kind
  elements_within raw formed rules no_elements typed clean place kind none = absurd none
  elements_within raw formed rules (element_and placed tree rest) typed clean place kind is =
      elim (In-append_cases kind (own_types tree (place_back placed place)) (own_types_below rest place) is) [
        | inl here ↦ elim (own_within raw formed rules tree typed.0 clean.0 (place_back placed place) kind here) [
          | inl space ↦ inl space
          | inr found ↦ inr (record {
            position = 0;
            other = found.0;
            has = first_kind raw (λ p. flat_sets raw tree (place_back placed p)) (element_parts raw rest) place found.0 found.1;
            within = found.2;
          })
        ]
        | inr later ↦ elim (elements_within raw formed rules rest typed.1 clean.1 place kind later) [
          | inl space ↦ inl space
          | inr part ↦ inr (record {
            position = suc part.position;
            other = part.other;
            has = later_kind raw (λ p. flat_sets raw tree (place_back placed p)) (element_parts raw rest) part.position place part.other part.has;
            within = part.within;
          })
        ]
      ]

times-append : (kind : ℕ) (xs ys : List ℕ) → times kind (xs ++ ys) ≡ times kind xs + times kind ys
times-append kind [] ys = omega arith
times-append kind (x ∷ xs) ys = omega (arith, times-append kind xs ys)

mutual
  -- a channel's type is an own type once where it is the flat type, and else never
  pub own_count : (raw : RawTech) → IsWellFormed raw → KeepsRules raw → (tree : CellTree) → IsTyped raw tree → IsClean raw tree
      → (place : Place) (fet : ℕ) → IsTrue (is_channel raw fet)
      → times fet (own_types tree place) ≡ (if is_exactly fet (joined_at raw (flat_sets raw tree) place) then 1 else 0)
  own_count raw formed rules (cell_tree own elements) typed clean place fet channel =
      ap (λ (found : Option ℕ). (if is_exactly fet found then 1 else 0) + times fet (own_types_below elements place))
      (sym (type_in_layout raw formed rules own.layout typed.0 place))
      ∙ ap (λ (n : ℕ). (if is_exactly fet (joined_at raw (sets_in raw own.layout) place) then 1 else 0) + n)
      (elements_count raw formed rules elements typed.1 clean.0 place fet channel)
      ∙ channel_count raw (sets_in raw own.layout ∷ element_parts raw elements) place (clean.1 place) fet channel
      ∙ ap (λ (found : Option ℕ). if is_exactly fet found then 1 else 0) (sym (flat_of_parts raw own elements place))

  elements_count : (raw : RawTech) → IsWellFormed raw → KeepsRules raw → (elements : Elements) → AreTyped raw elements → AreClean raw elements
      → (place : Place) (fet : ℕ) → IsTrue (is_channel raw fet)
      → times fet (own_types_below elements place) ≡ parts_with raw (element_parts raw elements) place fet
  elements_count raw formed rules no_elements typed clean place fet channel = refl
  elements_count raw formed rules (element_and placed tree rest) typed clean place fet channel =
      times-append fet (own_types tree (place_back placed place)) (own_types_below rest place)
      ∙ ap (λ (n : ℕ). n + times fet (own_types_below rest place))
      (own_count raw formed rules tree typed.0 clean.0 (place_back placed place) fet channel)
      ∙ ap (λ (n : ℕ). (if is_exactly fet (joined_at raw (flat_sets raw tree) (place_back placed place)) then 1 else 0) + n)
      (elements_count raw formed rules rest typed.1 clean.1 place fet channel)

-- where the flat type is a channel's, it is an own type once
pub one_owner : (raw : RawTech) → IsWellFormed raw → KeepsRules raw → (tree : CellTree) → IsTyped raw tree → IsClean raw tree
    → ChannelsHaveOneOwner raw tree
one_owner raw formed rules tree typed clean place fet channel is =
    own_count raw formed rules tree typed clean place fet channel
    ∙ ap (λ (found : Option ℕ). if is_exactly fet found then 1 else 0) is
    ∙ ap (λ (b : Bool). if b then 1 else 0) (eq-eqb fet fet refl)
