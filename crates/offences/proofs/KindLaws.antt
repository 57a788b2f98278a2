-- The types of parts in a list by parts.
use Rattle.offences.proofs.Common.{◌≡◌, ◌≢◌, ◌⊎◌, inl, inr, ◌+◌, ◌<◌, ◌≤◌, ◌==◌, ℕ, suc, Bool, true, bit_or, cond, List, [], ◌∷◌, length, map}
use Rattle.offences.proofs.Common.{filter, get_or, refl, sym, ap, subst, ◌∙◌, arith, AllPairs, Option, Some, None, slice_get, range_with_len}
use Rattle.offences.proofs.Common.{option_map, or_zero_l, or_zero_r, eq-eqb, ne_eqb, eqb-true, cases_eq, cases_lt, length-map, In, Lists, In-get_or}
use Rattle.offences.proofs.Common.{In-index, In-filter, Pairwise-from_AllPairs, RawTech, type_number, joined, Place, PartSum, PartKind, SetLayout}
use Rattle.offences.proofs.Common.{joined_at, listed_set, kind_of, kind_in, has_kind, AreByPart}
use Rattle.std.specs.Prelude.{unwrap_or, count_by}
use Rattle.std.proofs.lemmas.List.Sums.{length-filter, sum_by-cons}
use Rattle.geo_core.specs.FiniteSets.Lists.{Distinct}
use Rattle.geo_core.proofs.FiniteSets.Distincts.{Distinct-from_places}
use Rattle.geo_core.proofs.FiniteSets.Listings.{Lists-In, Lists-filter, Lists-map, Lists-iff}
use Rattle.geo_core.proofs.FiniteSets.Searches.{one_thing}
use Rattle.geo_core.proofs.FiniteSets.Pairs.{Pairwise}
use Rattle.geo_core.proofs.FiniteSets.Totals.{length-same_set}
use Rattle.rect_overlays.proofs.RectContacts.BothWays.{Lists-below}
use Rattle.offences.specs.Offences.{parts_with, is_exactly}
use Rattle.offences.proofs.UnionLaws.{set_if-same, set_if-other}

-- each part stands before the next, by recursion
abbrev pub Rising : List PartKind → Type 0
Rising kinds = Pairwise (λ a b. a.part < b.part) kinds

kind_in-first : (entry : PartKind) (kinds : List PartKind) (part : ℕ) → entry.part ≡ part → kind_in (entry ∷ kinds) part ≡ entry.kind.0
kind_in-first entry kinds part e = ap (λ (b : Bool). cond b entry.kind.0 (kind_in kinds part)) (eq-eqb entry.part part e)

kind_in-rest : (entry : PartKind) (kinds : List PartKind) (part : ℕ) → entry.part ≢ part → kind_in (entry ∷ kinds) part ≡ kind_in kinds part
kind_in-rest entry kinds part n = ap (λ (b : Bool). cond b entry.kind.0 (kind_in kinds part)) (ne_eqb entry.part part n)

-- what is listed for a part is its type
kind_listed : (kinds : List PartKind) → Rising kinds → (entry : PartKind) → In entry kinds → kind_in kinds entry.part ≡ entry.kind.0
kind_listed [] rising entry h = absurd h
kind_listed (x ∷ kinds) rising entry (inl e) =
    kind_in-first x kinds entry.part (ap (λ (k : PartKind). k.part) e) ∙ ap (λ (k : PartKind). k.kind.0) e
kind_listed (x ∷ kinds) rising entry (inr h) =
    let before : x.part < entry.part = rising.0 entry h in
    kind_in-rest x kinds entry.part (omega arith) ∙ kind_listed kinds rising.1 entry h

-- what is listed for a part is its type
pub kind_in-listed : (kinds : List PartKind) → AreByPart kinds → (entry : PartKind) → In entry kinds → kind_in kinds entry.part ≡ entry.kind.0
kind_in-listed kinds ordered = kind_listed kinds (Pairwise-from_AllPairs (λ a b. a.part < b.part) kinds ordered)

-- An entry of the list is the part's.
pub record IsListed (kinds : List PartKind) (part : ℕ) : Type 0 where
  pub entry : PartKind
  pub listed : In entry kinds
  pub is : entry.part ≡ part
  pub kind : kind_in kinds part ≡ entry.kind.0

-- a part is listed, or it has space
pub kind_in-cases : (kinds : List PartKind) (part : ℕ)
    → IsListed kinds part ⊎ (((entry : PartKind) → In entry kinds → entry.part ≢ part) × (kind_in kinds part ≡ 0))
kind_in-cases [] part = inr ((λ entry h. absurd h), refl)
kind_in-cases (x ∷ kinds) part = elim (cases_eq x.part part) [
  | inl e ↦ inl (record { entry = x; listed = inl refl; is = e; kind = kind_in-first x kinds part e })
  | inr n ↦ elim (kind_in-cases kinds part) [
    | inl h ↦ inl (record { entry = h.entry; listed = inr h.listed; is = h.is; kind = kind_in-rest x kinds part n ∙ h.kind })
    | inr h ↦ inr (
      (λ entry. elim [ inl e ↦ (λ same. n (ap (λ (k : PartKind). k.part) e ∙ same)) | inr k ↦ h.0 entry k ]),
      kind_in-rest x kinds part n ∙ h.1,
    )
  ]
]

-- a part with a type is listed
pub kind_is_listed : (kinds : List PartKind) (part : ℕ) → kind_in kinds part ≢ 0 → IsListed kinds part
kind_is_listed kinds part some = elim (kind_in-cases kinds part) [ inl h ↦ h | inr h ↦ absurd (some h.1) ]

-- a part that is not listed has space
pub kind_in-absent : (kinds : List PartKind) (part : ℕ) → ((entry : PartKind) → In entry kinds → entry.part ≢ part) → kind_in kinds part ≡ 0
kind_in-absent kinds part none = elim (kind_in-cases kinds part) [ inl h ↦ absurd (none h.entry h.listed h.is) | inr h ↦ h.1 ]

-- Parts before a place in the list are lower than the one that is sought, and the others are not.
pub record IsSplitAt (kinds : List PartKind) (part place : ℕ) : Type 0 where
  pub lower : (k : ℕ) (d : PartKind) → k < place → (get_or kinds k d).part < part
  pub rest : (k : ℕ) (d : PartKind) → place ≤ k → k < length kinds → part ≤ (get_or kinds k d).part

module _ (kinds : List PartKind) (part place : ℕ) (ordered : AreByPart kinds) (split : IsSplitAt kinds part place) where
  -- past the end nothing is found
  pub found_nowhere : length kinds ≤ place → kind_in kinds part ≡ 0
  found_nowhere past = kind_in-absent kinds part (λ entry h same.
      let k = In-index entry kinds h in
      let low = split.lower k.0 entry (omega (arith, k.1.0)) in
      let at : (get_or kinds k.0 entry).part ≡ entry.part = ap (λ (e : PartKind). e.part) (k.1.1 entry) in
      omega arith)

  -- at the place stands the part's entry
  pub found_at : (d : PartKind) → place < length kinds → (get_or kinds place d).part ≡ part → kind_in kinds part ≡ (get_or kinds place d).kind.0
  found_at d below same =
      ap (kind_in kinds) (sym same) ∙ kind_in-listed kinds ordered (get_or kinds place d) (In-get_or kinds place d below)

  -- or that of a later one
  pub found_later : (d : PartKind) → place < length kinds → (get_or kinds place d).part ≢ part → kind_in kinds part ≡ 0
  found_later d below differ = kind_in-absent kinds part (λ entry h same.
      let i = In-index entry kinds h in
      let k = i.0 in
      let inside : k < length kinds = i.1.0 in
      let at : (get_or kinds k d).part ≡ entry.part = ap (λ (e : PartKind). e.part) (i.1.1 d) in
      elim (cases_lt k place) [
        | inl less ↦ (let low = split.lower k d less in omega arith)
        | inr more ↦ elim (cases_eq k place) [
          | inl e ↦ differ (ap (λ (j : ℕ). (get_or kinds j d).part) (sym e) ∙ at ∙ same)
          | inr n ↦ (let first = split.rest place d (omega arith) below in
              let rise = ordered place k d (omega arith) inside in
              omega arith)
        ]
      ])

-- nothing is listed for a part before all of the list
listed_set-lower : (sums : List PartSum) (part : ℕ) → ((sum : PartSum) → In sum sums → part < sum.part) → listed_set part sums ≡ 0
listed_set-lower [] part later = refl
listed_set-lower (s ∷ sums) part later =
    let before : part < s.part = later s (inl refl) in
    ap (λ (x : ℕ). bit_or x (listed_set part sums)) (set_if-other part s.part s.set.0 (omega arith))
    ∙ or_zero_l (listed_set part sums)
    ∙ listed_set-lower sums part (λ sum h. later sum (inr h))

-- a type that is defined
defined_kind : (found : Option ℕ) → found ≢ None → found ≡ Some (unwrap_or (option_map type_number found) (type_number 0)).0
defined_kind None defined = absurd (defined refl)
defined_kind (Some kind) defined = refl

kinds_rising : (raw : RawTech) (plane : ℕ) (sums : List PartSum) → Pairwise (λ a b. a.part < b.part) sums → (part : ℕ)
    → joined raw plane (listed_set part sums) ≢ None → joined raw plane (listed_set part sums) ≡ Some (kind_in (map (kind_of raw plane) sums) part)
kinds_rising raw plane [] rising part defined = refl
kinds_rising raw plane (s ∷ sums) rising part defined = elim (cases_eq s.part part) [
  | inl e ↦ (
      let own : listed_set part (s ∷ sums) ≡ s.set.0 =
      ap (λ (x : ℕ). bit_or x (listed_set part sums)) (set_if-same part s.part s.set.0 e)
      ∙ ap (bit_or s.set.0) (listed_set-lower sums part (λ sum h. let before = rising.0 sum h in omega (arith, before)))
      ∙ or_zero_r s.set.0 in
      ap (joined raw plane) own
      ∙ defined_kind (joined raw plane s.set.0) (λ none. defined (ap (joined raw plane) own ∙ none))
      ∙ ap Some (sym (kind_in-first (kind_of raw plane s) (map (kind_of raw plane) sums) part e)))
  | inr n ↦ (
      let rest : listed_set part (s ∷ sums) ≡ listed_set part sums =
      ap (λ (x : ℕ). bit_or x (listed_set part sums)) (set_if-other part s.part s.set.0 n) ∙ or_zero_l (listed_set part sums) in
      ap (joined raw plane) rest
      ∙ kinds_rising raw plane sums rising.1 part (λ none. defined (ap (joined raw plane) rest ∙ none))
      ∙ ap Some (sym (kind_in-rest (kind_of raw plane s) (map (kind_of raw plane) sums) part n)))
]

-- the types of parts by their sets
pub kinds_of_sums : (raw : RawTech) (plane : ℕ) (sums : List PartSum) → AllPairs (λ a b. a.part < b.part) sums → (part : ℕ)
    → joined raw plane (listed_set part sums) ≢ None → joined raw plane (listed_set part sums) ≡ Some (kind_in (map (kind_of raw plane) sums) part)
kinds_of_sums raw plane sums ordered = kinds_rising raw plane sums (Pairwise-from_AllPairs (λ a b. a.part < b.part) sums ordered)

-- the parts that have a type are as many as the places at which it is found
parts_with-places : (raw : RawTech) (place : Place) (kind first : ℕ) (kinds : ℕ → ℕ) (parts : List SetLayout)
    → ((position : ℕ) (part : SetLayout) → slice_get parts position ≡ Some part → joined_at raw part place ≡ Some (kinds (first + position)))
    → parts_with raw parts place kind ≡ count_by (λ p. kinds p == kind) (range_with_len first (length parts))
parts_with-places raw place kind first kinds [] at = refl
parts_with-places raw place kind first kinds (part ∷ parts) at =
    let here : joined_at raw part place ≡ Some (kinds first) = at 0 part refl ∙ ap (λ (p : ℕ). Some (kinds p)) (omega arith) in
    let rest = parts_with-places raw place kind (first + 1) kinds parts
    (λ position p h. at (suc position) p h ∙ ap (λ (q : ℕ). Some (kinds q)) (omega arith)) in
    ap (λ (t : Option ℕ). cond (is_exactly kind t) 1 0 + parts_with raw parts place kind) here
    ∙ ap (λ (n : ℕ). cond (kinds first == kind) 1 0 + n) rest
    ∙ sym (sum_by-cons (λ p. cond (kinds p == kind) 1 0) first (range_with_len (first + 1) (length parts)))

-- no part is listed twice
pub kinds_distinct : (kinds : List PartKind) → AreByPart kinds → Distinct kinds
kinds_distinct kinds ordered = Distinct-from_places kinds (λ i j d less below same.
    let rise = ordered i j d less below in
    let e = ap (λ (k : PartKind). k.part) same in
    omega (arith, rise, e))

one_entry : (kinds : List PartKind) → AreByPart kinds → (a b : PartKind) → In a kinds → In b kinds → a.part ≡ b.part → a ≡ b
one_entry kinds ordered a b h k same =
    let i = In-index a kinds h in
    let j = In-index b kinds k in
    let left : (get_or kinds i.0 a).part ≡ a.part = ap (λ (e : PartKind). e.part) (i.1.1 a) in
    let right : (get_or kinds j.0 a).part ≡ b.part = ap (λ (e : PartKind). e.part) (j.1.1 a) in
    let inside : i.0 < length kinds = i.1.0 in
    let inside' : j.0 < length kinds = j.1.0 in
    elim (cases_eq i.0 j.0) [
      | inl e ↦ sym (i.1.1 a) ∙ ap (λ (n : ℕ). get_or kinds n a) e ∙ j.1.1 a
      | inr n ↦ elim (cases_lt i.0 j.0) [
        | inl less ↦ (let rise = ordered i.0 j.0 a less inside' in absurd (omega arith))
        | inr more ↦ (let rise = ordered j.0 i.0 a (omega arith) inside in absurd (omega arith))
      ]
    ]

-- The part has the type, which is not space.
record HasIt (count : ℕ) (kinds : List PartKind) (kind part : ℕ) : Type 0 where
  below : part < count
  is : kind_in kinds part ≡ kind

-- the entries with a type are as many as the parts that have it
pub parts_with-kinds : (raw : RawTech) (parts : List SetLayout) (place : Place) (kinds : List PartKind) (kind : ℕ) → kind ≢ 0 → AreByPart kinds
    → ((entry : PartKind) → In entry kinds → entry.part < length parts)
    → ((position : ℕ) (part : SetLayout) → slice_get parts position ≡ Some part → joined_at raw part place ≡ Some (kind_in kinds position))
    → parts_with raw parts place kind ≡ count_by (has_kind kind) kinds
parts_with-kinds raw parts place kinds kind material ordered within at =
    let count = length parts in
    let test : ℕ → Bool = λ p. kind_in kinds p == kind in
    let places = filter test (range_with_len 0 count) in
    let entries = filter (has_kind kind) kinds in
    let by_places : Lists (HasIt count kinds kind) places =
    Lists-iff (λ p. (p < count) × (test p ≡ true)) (HasIt count kinds kind) places
    (λ p h. record { below = h.0; is = eqb-true (kind_in kinds p) kind h.1 })
    (λ p h. (h.below, eq-eqb (kind_in kinds p) kind h.is))
    (Lists-filter (λ p. p < count) test (range_with_len 0 count) (Lists-below count)) in
    let IsEntry : PartKind → Type 0 = λ entry. In entry kinds × (has_kind kind entry ≡ true) in
    let by_entries : Lists (HasIt count kinds kind) (map (λ entry. entry.part) entries) =
    Lists-iff (λ p. (entry : PartKind) × (IsEntry entry × (entry.part ≡ p))) (HasIt count kinds kind) (map (λ entry. entry.part) entries)
    (λ p h. record {
      below = subst (λ (q : ℕ). q < count) h.1.1 (within h.0 h.1.0.0);
      is = ap (kind_in kinds) (sym h.1.1) ∙ kind_in-listed kinds ordered h.0 h.1.0.0 ∙ eqb-true h.0.kind.0 kind h.1.0.1;
    })
    (λ p h. let l = kind_is_listed kinds p (λ none. material (sym h.is ∙ none)) in
    (l.entry, ((l.listed, eq-eqb l.entry.kind.0 kind (sym l.kind ∙ h.is)), l.is)))
    (Lists-map IsEntry (λ entry. entry.part) entries (λ a b p q e. one_entry kinds ordered a b p.0 q.0 e)
    (Lists-filter (λ entry. In entry kinds) (has_kind kind) kinds (Lists-In kinds (kinds_distinct kinds ordered)))) in
    parts_with-places raw place kind 0 (kind_in kinds) parts
    (λ position part h. at position part h ∙ ap (λ (p : ℕ). Some (kind_in kinds p)) (omega arith))
    ∙ sym (length-filter test (range_with_len 0 count))
    ∙ length-same_set (HasIt count kinds kind) places (map (λ entry. entry.part) entries) by_places by_entries
    ∙ length-map entries (λ entry. entry.part)
    ∙ length-filter (has_kind kind) kinds

-- where one entry passes a test, all that pass are one
pub one_passes : (test : PartKind → Bool) (kinds : List PartKind) → count_by test kinds ≡ 1 → (a b : PartKind) → In a kinds → In b kinds
    → test a ≡ true → test b ≡ true → a ≡ b
one_passes test kinds one a b h k p q =
    let alone = one_thing (filter test kinds) a (length-filter test kinds ∙ one) in
    let left = only (get_or (filter test kinds) 0 a) a (subst (In a) alone (In-filter test a kinds h p)) in
    let right = only (get_or (filter test kinds) 0 a) b (subst (In b) alone (In-filter test b kinds k q)) in
    sym left ∙ right
  where
    only : (x y : PartKind) → In y (x ∷ []) → x ≡ y
    only x y (inl e) = e
    only x y (inr n) = absurd n

-- a later entry is of no lower part
pub rises : (kinds : List PartKind) → AreByPart kinds → (i j : ℕ) (d : PartKind) → i ≤ j → j < length kinds
    → (get_or kinds i d).part ≤ (get_or kinds j d).part
rises kinds ordered i j d p q = elim (cases_eq i j) [
  | inl e ↦ subst (λ (k : ℕ). (get_or kinds i d).part ≤ (get_or kinds k d).part) e (omega arith)
  | inr n ↦ (let rise = ordered i j d (omega arith) q in omega arith)
]
