-- The type of a part in a list of types by part.
use Rattle.meeting_sums.proofs.Common.{◌≡◌, ℕ, suc, ◌+◌, ◌<◌, ◌≤◌, pos, ℤ, ◌+ℤ◌, Bool, cond, eqb, List, [], ◌∷◌, length, get_or, take, inl, inr}
use Rattle.meeting_sums.proofs.Common.{refl, sym, ◌∙◌, ap, subst, arith, All, range_with_len, cases_lt, ints, get_or-take, get_or-drop, length-take}
use Rattle.meeting_sums.proofs.Common.{length-drop, length-range_with_len, get_or-range_with_len, In, Distinct, sum_on, In-get_or, In-index}
use Rattle.meeting_sums.proofs.Common.{sum_on-same, PartKind, AreByPart, kind_in, one_plane}
use Rattle.std.proofs.Common.{◌≢◌, zero, ◌-◌}
use Rattle.std.proofs.Common.{drop, ne_eqb}
use Rattle.std.specs.List.Sorted.{IsNonDecreasingBy}
use Rattle.std.proofs.lemmas.Bool.{cases_eq}
use Rattle.finite_sets.proofs.Distincts.{Distinct-from_places}
use Rattle.finite_sets.proofs.Sums.{sum_on-add, sum_on-nothing}
use Rattle.offences.proofs.KindLaws.{kind_in-absent}

-- parts that rise, as searches ask for them
pub rising_parts : (kinds : List PartKind) → AreByPart kinds → IsNonDecreasingBy (λ entry. entry.part) kinds
rising_parts kinds ordered = λ i j d before within. elim (cases_lt i j) [
  | inl less ↦ (let o = ordered i j d less within in omega (arith, o))
  | inr ge ↦ (let same : i ≡ j = omega (arith, before, ge) in subst (λ (k : ℕ). (get_or kinds i d).part ≤ (get_or kinds k d).part) same (omega arith))
]

-- the rest of a list by part, and its first entry before them
pub later_parts : (entry : PartKind) (kinds : List PartKind) → AreByPart (entry ∷ kinds) → AreByPart kinds
later_parts entry kinds ordered = λ i j d less within. ordered (suc i) (suc j) d (omega (arith, less)) (omega (arith, within))

pub first_before : (entry : PartKind) (kinds : List PartKind) → AreByPart (entry ∷ kinds) → (other : PartKind) → In other kinds → entry.part < other.part
first_before entry kinds ordered other i =
    let at = In-index other kinds i in
    subst (λ (e : PartKind). entry.part < e.part) (at.1.1 other) (ordered zero (suc at.0) other (omega arith) (let below = at.1.0 in omega (arith, below)))

-- a part that is listed has the type there
pub kind_listed : (kinds : List PartKind) (entry : PartKind) → AreByPart kinds → In entry kinds → kind_in kinds entry.part ≡ entry.kind.0
kind_listed [] entry ordered i = absurd i
kind_listed (first ∷ kinds) entry ordered (inl same) =
    ap (λ (t : Bool). cond t first.kind.0 (kind_in kinds entry.part)) (one_plane first.part entry.part (ap (λ (e : PartKind). e.part) same))
    ∙ ap (λ (e : PartKind). e.kind.0) same
kind_listed (first ∷ kinds) entry ordered (inr i) =
    ap (λ (t : Bool). cond t first.kind.0 (kind_in kinds entry.part))
    (ne_eqb first.part entry.part (let less = first_before first kinds ordered entry i in λ same. omega (arith, less, same)))
    ∙ kind_listed kinds entry (later_parts first kinds ordered) i

-- where a list is cut before a part, the entry there has it or none has
module _ (kinds : List PartKind) (part place : ℕ) (within : place ≤ length kinds) (before : All (λ entry. entry.part < part) (take place kinds))
    (after : All (λ entry. part ≤ entry.part) (drop place kinds)) (ordered : AreByPart kinds) where
  below_place : (k : ℕ) (d : PartKind) → k < place → (get_or kinds k d).part < part
  below_place k d less = subst (λ (e : PartKind). e.part < part) (get_or-take place kinds k d less) (before k d (let t = length-take place kinds in omega
      (arith, t, less, within)))

  from_place : (k : ℕ) (d : PartKind) → place ≤ k → k < length kinds → part ≤ (get_or kinds k d).part
  from_place k d past last =
      let i = k - place in
      let at : place + i ≡ k = omega (arith, past) in
      subst (λ (e : PartKind). part ≤ e.part) (get_or-drop place kinds i d ∙ ap (λ (m : ℕ). get_or kinds m d) at)
      (after i d (let t = length-drop place kinds in omega (arith, t, past, last)))

  pub kind_at_cut : (d : PartKind) → place < length kinds → (get_or kinds place d).part ≡ part → (get_or kinds place d).kind.0 ≡ kind_in kinds part
  kind_at_cut d inside same = sym (kind_listed kinds (get_or kinds place d) ordered (In-get_or kinds place d inside)) ∙ ap (kind_in kinds) same

  pub none_at_cut : ((d : PartKind) → place < length kinds → (get_or kinds place d).part ≢ part) → kind_in kinds part ≡ 0
  none_at_cut other = kind_in-absent kinds part (λ entry i same.
      let at = In-index entry kinds i in
      let k = at.0 in
      let is : (get_or kinds k entry).part ≡ part = ap (λ (e : PartKind). e.part) (at.1.1 entry) ∙ same in
      elim (cases_lt k place) [
        | inl less ↦ absurd (let low = below_place k entry less in omega (arith, low, is))
        | inr ge ↦ (elim (cases_lt place k) [
          | inl more ↦ absurd (let low = from_place place entry (omega arith) (let last = at.1.0 in omega (arith, more, last)) in
              let less = ordered place k entry more at.1.0 in omega (arith, low, less, is))
          | inr le ↦ absurd (let here : place ≡ k = omega (arith, ge, le) in
              other entry (let last = at.1.0 in omega (arith, here, last)) (ap (λ (m : ℕ). (get_or kinds m entry).part) here ∙ is))
        ])
      ])

-- a sum of which one number counts
sum_picked : (w : ℕ → ℤ) (i : ℕ) (xs : List ℕ) → Distinct xs → In i xs → sum_on (λ k. cond (eqb i k) (w k) (pos 0)) xs ≡ w i
sum_picked w i [] distinct among = absurd among
sum_picked w i (x ∷ xs) distinct (inl same) =
    first_alone (cond (eqb i x) (w x) (pos 0)) (w i) (sum_on (λ k. cond (eqb i k) (w k) (pos 0)) xs)
    (ap (λ (t : Bool). cond t (w x) (pos 0)) (one_plane i x (sym same)) ∙ ap w same)
    (sum_on-nothing (λ k. cond (eqb i k) (w k) (pos 0)) xs (λ k among. ap (λ (t : Bool). cond t (w k) (pos 0)) (ne_eqb i k (λ e.
    distinct.0 (subst (λ (m : ℕ). In m xs) (sym (same ∙ e)) among)))))
  where
    first_alone : (a b c : ℤ) → a ≡ b → c ≡ pos 0 → a +ℤ c ≡ b
    first_alone a b c e f = omega (arith, ints, e, f)
sum_picked w i (x ∷ xs) distinct (inr among) =
    rest_alone (cond (eqb i x) (w x) (pos 0)) (w i) (sum_on (λ k. cond (eqb i k) (w k) (pos 0)) xs)
    (ap (λ (t : Bool). cond t (w x) (pos 0)) (ne_eqb i x (λ e. distinct.0 (subst (λ (m : ℕ). In m xs) e among))))
    (sum_picked w i xs distinct.1 among)
  where
    rest_alone : (a b c : ℤ) → a ≡ pos 0 → c ≡ b → a +ℤ c ≡ b
    rest_alone a b c e f = omega (arith, ints, e, f)

-- the numbers below a count, each once
pub Distinct-below : (n : ℕ) → Distinct (range_with_len 0 n)
Distinct-below n = Distinct-from_places (range_with_len 0 n) (λ i j d less within same.
    let long = length-range_with_len 0 n in
    let first = get_or-range_with_len 0 n i d (omega (arith, less, within, long)) in
    let second = get_or-range_with_len 0 n j d (omega (arith, within, long)) in
    omega (arith, first, second, same, less))

pub In-below : (n k : ℕ) → k < n → In k (range_with_len 0 n)
In-below n k below =
    let long = length-range_with_len 0 n in
    let at = get_or-range_with_len 0 n k 0 below in
    subst (λ (m : ℕ). In m (range_with_len 0 n)) (at ∙ omega arith) (In-get_or (range_with_len 0 n) k 0 (omega (arith, long, below)))

-- What counts by a part and its type, and nothing for space, has over all parts the sum that it has over the listed ones.
pub sum_by_kinds : (f : ℕ → ℕ → ℤ) → ((part : ℕ) → f part 0 ≡ pos 0) → (count : ℕ) (kinds : List PartKind) → AreByPart kinds
    → ((entry : PartKind) → In entry kinds → entry.part < count)
    → sum_on (λ part. f part (kind_in kinds part)) (range_with_len 0 count) ≡ sum_on (λ entry. f entry.part entry.kind.0) kinds
sum_by_kinds f of_space count [] ordered within = sum_on-nothing (λ part. f part 0) (range_with_len 0 count) (λ part among. of_space part)
sum_by_kinds f of_space count (entry ∷ kinds) ordered within =
    sum_on-same (λ part. f part (kind_in (entry ∷ kinds) part))
    (λ part. cond (eqb entry.part part) (f part entry.kind.0) (pos 0) +ℤ f part (kind_in kinds part))
    (range_with_len 0 count) (λ part among. apart part)
    ∙ sum_on-add (λ part. cond (eqb entry.part part) (f part entry.kind.0) (pos 0)) (λ part. f part (kind_in kinds part)) (range_with_len 0 count)
    ∙ (λ k. sum_picked (λ part. f part entry.kind.0) entry.part (range_with_len 0 count) (Distinct-below count) (In-below count entry.part
    (within entry (inl refl))) k
    +ℤ sum_by_kinds f of_space count kinds (later_parts entry kinds ordered) (λ other i. within other (inr i)) k)
  where
    alone : (a b : ℤ) → b ≡ pos 0 → a ≡ a +ℤ b
    alone a b e = omega (arith, ints, e)

    nothing_first : (a : ℤ) → a ≡ pos 0 +ℤ a
    nothing_first a = omega (arith, ints)

    apart : (part : ℕ) → f part (kind_in (entry ∷ kinds) part) ≡ cond (eqb entry.part part) (f part entry.kind.0) (pos 0) +ℤ f part (kind_in kinds part)
    apart part = elim (cases_eq entry.part part) [
      | inl same ↦ (let test = one_plane entry.part part same in
          ap (λ (t : Bool). f part (cond t entry.kind.0 (kind_in kinds part))) test
          ∙ alone (f part entry.kind.0) (f part (kind_in kinds part)) (ap (f part) (kind_in-absent kinds part (λ other i e.
          let less = first_before entry kinds ordered other i in omega (arith, less, e, same))) ∙ of_space part)
          ∙ ap (λ (t : Bool). cond t (f part entry.kind.0) (pos 0) +ℤ f part (kind_in kinds part)) (sym test))
      | inr other ↦ (let test = ne_eqb entry.part part other in
          ap (λ (t : Bool). f part (cond t entry.kind.0 (kind_in kinds part))) test
          ∙ nothing_first (f part (kind_in kinds part))
          ∙ ap (λ (t : Bool). cond t (f part entry.kind.0) (pos 0) +ℤ f part (kind_in kinds part)) (sym test))
    ]
