-- Lengths summed by nodes: one terminal more, and what a sum says.
use Rattle.cell_records.proofs.Common.{◌≡◌, ℕ, zero, suc, ◌+◌, ◌<◌, ℤ, pos, ◌+ℤ◌, ◌<ℤ◌, Bool, true, cond, List, [], ◌∷◌, ◌++◌, map, filter, length}
use Rattle.cell_records.proofs.Common.{get_or, take, inl, inr, refl, sym, ◌∙◌, ap, subst, arith, eq-eqb, Some, slice_index, All, get, w128, nat_cmp}
use Rattle.cell_records.proofs.Common.{cases_lt, false≢true, ints, get_or-map, length-map, In, Distinct, sum_on, In-map, In-map_source, Pairwise}
use Rattle.cell_records.proofs.Common.{All-In, same_from_test, is_to, length_in, length_told, AreJoined}
use Rattle.std.proofs.Common.{◌^◌, ◌≤ℤ◌, false, eqb, ◌||◌}
use Rattle.std.specs.Prelude.{Option, None, unwrap_or}
use Rattle.std.specs.BTreeMap.{BTreeMap, is_at, IsOrdered}
use Rattle.std.specs.Cmp.{nat_cmp_is}
use Rattle.std.specs.Int.RustNames.{FitsSigned}
use Rattle.std.specs.List.{list_any}
use Rattle.std.specs.Ordering.{is_eq}
use Rattle.std.specs.declared.cmp.Ordering.TheVariants.{Less, Equal, Greater}
use Rattle.std.proofs.lemmas.Bool.{cases_Bool, cases_eq, ne_eqb}
use Rattle.std.proofs.lemmas.Cmp.{nat_cmp_total}
use Rattle.std.proofs.lemmas.List.{take_more}
use Rattle.std.proofs.lemmas.List.Folds.{list_any-append}
use Rattle.std.proofs.lemmas.Map.Keys.{below_from_sorted}
use Rattle.std.proofs.lemmas.Map.Lookups.{exact_unsigned}
use Rattle.std.proofs.lemmas.Map.Views.{btree_map_get_iff}
use Rattle.std.proofs.lemmas.Option.{same_Some}
use Rattle.finite_sets.proofs.Members.{In-filter_source, Contains-from_In, In-from_Contains}
use Rattle.finite_sets.proofs.Searches.{list_any-In, list_any-source}
use Rattle.finite_sets.proofs.Sums.{sum_on-push, sum_on-nothing}

-- what each terminal is named by
abbrev pub key : {N : Type 0} → N × ℤ → N
key t = t.0

-- ---- one terminal more

-- the sum of nothing
none_told : (numbers : List ℕ) (number : ℕ) (ts : List (ℕ × ℤ)) → list_any (is_to numbers number) ts ≡ false → sum_on (length_in numbers number) ts ≡ pos 0
none_told numbers number ts none = sum_on-nothing (length_in numbers number) ts
    (λ t among. ap (λ (b : Bool). cond b t.1 (pos 0)) (list_any-In (is_to numbers number) ts t none among))

-- what stands for a length, where none stands for 0
pub told_or : (numbers : List ℕ) (ts : List (ℕ × ℤ)) (number : ℕ) → unwrap_or (length_told numbers ts number) (pos 0) ≡ sum_on (length_in numbers number) ts
told_or numbers ts number = gate (list_any (is_to numbers number) ts) (sum_on (length_in numbers number) ts) (λ none. none_told numbers number ts none)
  where
    gate : (t : Bool) (n : ℤ) → (t ≡ false → n ≡ pos 0) → unwrap_or (cond t (Some n) None) (pos 0) ≡ n
    gate true n h = refl
    gate false n h = sym (h refl)

-- the length with one terminal more
told_push : (numbers : List ℕ) (ts : List (ℕ × ℤ)) (t : ℕ × ℤ) (number : ℕ) → length_told numbers (ts ++ t ∷ []) number
    ≡ cond (is_to numbers number t) (Some (unwrap_or (length_told numbers ts number) (pos 0) +ℤ t.1)) (length_told numbers ts number)
told_push numbers ts t number =
    (λ k. cond (list_any-append (is_to numbers number) ts (t ∷ []) k) (Some (sum_on-push (length_in numbers number) ts t k)) None)
    ∙ gate (list_any (is_to numbers number) ts) (is_to numbers number t) (sum_on (length_in numbers number) ts) t.1 (λ none. none_told numbers number ts none)
  where
    some : (m n : ℤ) → m ≡ n → Some m ≡ Some n
    some m n e = ap (λ (z : ℤ). Some z) e

    gate : (a b : Bool) (s v : ℤ) → (a ≡ false → s ≡ pos 0)
        → cond (a || (b || false)) (Some (s +ℤ cond b v (pos 0))) None ≡ cond b (Some (unwrap_or (cond a (Some s) None) (pos 0) +ℤ v)) (cond a (Some s) None)
    gate true true s v none = refl
    gate true false s v none = some (s +ℤ pos 0) s (omega (arith, ints))
    gate false true s v none = some (s +ℤ v) (pos 0 +ℤ v) (ap (λ (z : ℤ). z +ℤ v) (none refl))
    gate false false s v none = refl

-- what a map of lengths tells, with one terminal more
pub told_more : (numbers : List ℕ) (ts : List (ℕ × ℤ)) (i : ℕ) (d : ℕ × ℤ) (old new : ℕ → Option ℤ) (sum : ℤ) → i < length ts
    → ((number : ℕ) → old number ≡ length_told numbers (take i ts) number)
    → sum ≡ unwrap_or (old (slice_index numbers (get_or ts i d).0)) (pos 0) +ℤ (get_or ts i d).1
    → ((number : ℕ) → new number ≡ cond (is_to numbers number (get_or ts i d)) (Some sum) (old number))
    → (number : ℕ) → new number ≡ length_told numbers (take (i + 1) ts) number
told_more numbers ts i d old new sum inside before is updates number =
    let t = get_or ts i d in
    let told = length_told numbers (take i ts) in
    updates number
    ∙ (λ k. cond (is_to numbers number t) (Some sum) (before number k))
    ∙ here (is_to numbers number t) (λ same. is ∙ ap (λ (v : Option ℤ). unwrap_or v (pos 0) +ℤ t.1)
    (before (slice_index numbers t.0) ∙ ap told (same_from_test (slice_index numbers t.0) number same)))
    ∙ sym (ap (λ (us : List (ℕ × ℤ)). length_told numbers us number) (take_more ts i d inside) ∙ told_push numbers (take i ts) t number)
  where
    here : (b : Bool) → (b ≡ true → sum ≡ unwrap_or (length_told numbers (take i ts) number) (pos 0) +ℤ (get_or ts i d).1)
        → cond b (Some sum) (length_told numbers (take i ts) number)
        ≡ cond b (Some (unwrap_or (length_told numbers (take i ts) number) (pos 0) +ℤ (get_or ts i d).1)) (length_told numbers (take i ts) number)
    here true e = ap (λ (z : ℤ). Some z) (e refl)
    here false e = refl

-- ---- what a sum says

-- a length that is told is the sum, and some terminal adds to it
pub told_some : (numbers : List ℕ) (ts : List (ℕ × ℤ)) (number : ℕ) (length : ℤ) → length_told numbers ts number ≡ Some length
    → (list_any (is_to numbers number) ts ≡ true) × (sum_on (length_in numbers number) ts ≡ length)
told_some numbers ts number length told = gate (list_any (is_to numbers number) ts) (sum_on (length_in numbers number) ts) told
  where
    gate : (t : Bool) (n : ℤ) → cond t (Some n) None ≡ Some length → (t ≡ true) × (n ≡ length)
    gate true n e = (refl, same_Some n length e)
    gate false n e = cc

-- the node of a terminal has a length
pub told_here : (numbers : List ℕ) (ts : List (ℕ × ℤ)) (t : ℕ × ℤ) (number : ℕ) → In t ts → is_to numbers number t ≡ true
    → length_told numbers ts number ≡ Some (sum_on (length_in numbers number) ts)
told_here numbers ts t number among is = elim (cases_Bool (list_any (is_to numbers number) ts)) [
  | inl any ↦ ap (λ (b : Bool). cond b (Some (sum_on (length_in numbers number) ts)) None) any
  | inr none ↦ absurd (false≢true (sym (list_any-In (is_to numbers number) ts t none among) ∙ is))
]

-- a sum of lengths, none of them negative
sum_no_less : (test : ℕ × ℤ → Bool) (ts : List (ℕ × ℤ)) → ((t : ℕ × ℤ) → In t ts → pos 0 <ℤ t.1) → pos 0 ≤ℤ sum_on (λ t. cond (test t) t.1 (pos 0)) ts
sum_no_less test [] some = omega (arith, ints)
sum_no_less test (t ∷ ts) some =
    let rest = sum_no_less test ts (λ u later. some u (inr later)) in
    gate (test t) t.1 (sum_on (λ u. cond (test u) u.1 (pos 0)) ts) (some t (inl refl)) rest
  where
    gate : (b : Bool) (v r : ℤ) → pos 0 <ℤ v → pos 0 ≤ℤ r → pos 0 ≤ℤ (cond b v (pos 0) +ℤ r)
    gate true v r p q = omega (arith, ints, p, q)
    gate false v r p q = omega (arith, ints, q)

-- a sum of lengths to which one adds is more than 0
pub sum_some : (test : ℕ × ℤ → Bool) (ts : List (ℕ × ℤ)) → ((t : ℕ × ℤ) → In t ts → pos 0 <ℤ t.1) → list_any test ts ≡ true
    → pos 0 <ℤ sum_on (λ t. cond (test t) t.1 (pos 0)) ts
sum_some test [] some any = cc
sum_some test (t ∷ ts) some any =
    gate (test t) (list_any test ts) t.1 (sum_on (λ u. cond (test u) u.1 (pos 0)) ts) any (some t (inl refl))
    (sum_no_less test ts (λ u later. some u (inr later))) (λ rest. sum_some test ts (λ u later. some u (inr later)) rest)
  where
    gate : (b rest : Bool) (v r : ℤ) → (b || rest) ≡ true → pos 0 <ℤ v → pos 0 ≤ℤ r → (rest ≡ true → pos 0 <ℤ r) → pos 0 <ℤ (cond b v (pos 0) +ℤ r)
    gate true rest v r e p q h = omega (arith, ints, p, q)
    gate false true v r e p q h = let more = h refl in omega (arith, ints, more)
    gate false false v r e p q h = cc

-- of the first lengths a part adds up to no less than 0, and to no more than all lengths
pub part_bounds : (test : ℕ × ℤ → Bool) (ts : List (ℕ × ℤ)) (i : ℕ) → ((t : ℕ × ℤ) → In t ts → pos 0 <ℤ t.1)
    → (pos 0 ≤ℤ sum_on (λ t. cond (test t) t.1 (pos 0)) (take i ts)) × (sum_on (λ t. cond (test t) t.1 (pos 0)) (take i ts) ≤ℤ sum_on (λ t. t.1) ts)
part_bounds test [] zero some = (omega (arith, ints), omega (arith, ints))
part_bounds test [] (suc i) some = (omega (arith, ints), omega (arith, ints))
part_bounds test (t ∷ ts) zero some = (omega (arith, ints), sum_no_less (λ u. true) (t ∷ ts) some)
part_bounds test (t ∷ ts) (suc i) some =
    let rest = part_bounds test ts i (λ u later. some u (inr later)) in
    gate (test t) t.1 (sum_on (λ u. cond (test u) u.1 (pos 0)) (take i ts)) (sum_on (λ u. u.1) ts) (some t (inl refl)) rest.0 rest.1
  where
    gate : (b : Bool) (v r s : ℤ) → pos 0 <ℤ v → pos 0 ≤ℤ r → r ≤ℤ s → (pos 0 ≤ℤ (cond b v (pos 0) +ℤ r)) × ((cond b v (pos 0) +ℤ r) ≤ℤ (v +ℤ s))
    gate true v r s p q l = (omega (arith, ints, p, q), omega (arith, ints, l))
    gate false v r s p q l = (omega (arith, ints, q), omega (arith, ints, p, l))

-- the first lengths, and one more
pub sum_more : (ts : List (ℕ × ℤ)) (i : ℕ) (d : ℕ × ℤ) → i < length ts
    → sum_on (λ t. t.1) (take (i + 1) ts) ≡ sum_on (λ t. t.1) (take i ts) +ℤ (get_or ts i d).1
sum_more ts i d inside = ap (sum_on (λ (t : ℕ × ℤ). t.1)) (take_more ts i d inside) ∙ sum_on-push (λ (t : ℕ × ℤ). t.1) (take i ts) (get_or ts i d)

-- the same of those to the node of the one more
pub part_more : (numbers : List ℕ) (ts : List (ℕ × ℤ)) (i : ℕ) (d : ℕ × ℤ) → i < length ts → (let number = slice_index numbers (get_or ts i d).0 in
    sum_on (length_in numbers number) (take (i + 1) ts) ≡ sum_on (length_in numbers number) (take i ts) +ℤ (get_or ts i d).1)
part_more numbers ts i d inside =
    let t = get_or ts i d in
    let number = slice_index numbers t.0 in
    ap (sum_on (length_in numbers number)) (take_more ts i d inside) ∙ sum_on-push (length_in numbers number) (take i ts) t
    ∙ ap (λ (b : Bool). sum_on (length_in numbers number) (take i ts) +ℤ cond b t.1 (pos 0)) (eq-eqb number number refl)

-- which fits
pub part_fits : (numbers : List ℕ) (ts : List (ℕ × ℤ)) (i : ℕ) (d : ℕ × ℤ) → i < length ts → All (λ t. pos 0 <ℤ t.1) ts
    → sum_on (λ t. t.1) ts ≤ℤ pos (2 ^ 63)
    → FitsSigned w128 (sum_on (length_in numbers (slice_index numbers (get_or ts i d).0)) (take i ts) +ℤ (get_or ts i d).1)
part_fits numbers ts i d inside some few =
    let number = slice_index numbers (get_or ts i d).0 in
    let bounds = part_bounds (is_to numbers number) ts (i + 1) (λ u among. All-In (λ (v : ℕ × ℤ). pos 0 <ℤ v.1) ts u some among) in
    let more = part_more numbers ts i d inside in
    omega (arith, ints, bounds.0, bounds.1, more, few)

-- ---- the map of lengths

-- a key of a map of numbers is found by its number
pub is_key : (m n : ℕ) → is_at (nat_cmp m) n ≡ eqb m n
is_key m n = elim (cases_lt m n) [
  | inl less ↦ ap is_eq (sym (nat_cmp_is m n Less less)) ∙ sym (ne_eqb m n (λ e. omega (arith, e, less)))
  | inr no_less ↦ (elim (cases_eq m n) [
    | inl same ↦ ap is_eq (sym (nat_cmp_is m n Equal same)) ∙ sym (eq-eqb m n same)
    | inr differ ↦ ap is_eq (sym (nat_cmp_is m n Greater (omega (arith, no_less, differ)))) ∙ sym (ne_eqb m n differ)
  ])
]

-- the entries of a map that tells the lengths are the joined terminals
pub joined_entries : (numbers : List ℕ) (ts : List (ℕ × ℤ)) (lengths : BTreeMap ℕ ℤ) → IsOrdered nat_cmp lengths
    → ((number : ℕ) → get nat_cmp lengths number ≡ length_told numbers ts number) → AreJoined numbers ts lengths.entries
joined_entries numbers ts lengths ordered told = record {
  sound = λ number length among.
      sym (told number) ∙ (btree_map_get_iff nat_cmp_total exact_unsigned lengths ordered number length).1
      (Contains-from_In {X = ℕ × ℤ} (number, length) lengths.entries among);
  whole = λ number length is.
      In-from_Contains {X = ℕ × ℤ} (number, length) lengths.entries
      ((btree_map_get_iff nat_cmp_total exact_unsigned lengths ordered number length).0 (told number ∙ is));
  in_order = λ i j d less below.
      let long = length-map lengths.entries (λ (e : ℕ × ℤ). e.0) in
      let a = get_or-map (λ (e : ℕ × ℤ). e.0) lengths.entries i d 0 (omega (arith, less, below)) in
      let b = get_or-map (λ (e : ℕ × ℤ). e.0) lengths.entries j d 0 below in
      let order = below_from_sorted (map (λ (e : ℕ × ℤ). e.0) lengths.entries) i j 0 ordered less (omega (arith, below, long)) in
      omega (arith, order, a, b);
}

-- joined terminals have the numbers of regions
pub joined_below : (numbers : List ℕ) (ts joined : List (ℕ × ℤ)) (n : ℕ) → AreJoined numbers ts joined → All (λ t. t.0 < length numbers) ts
    → All (λ number. number < n) numbers → (t : ℕ × ℤ) → In t joined → t.0 < n
joined_below numbers ts joined n are regions below t among =
    let told = told_some numbers ts t.0 t.1 (are.sound t.0 t.1 among) in
    let source = list_any-source (is_to numbers t.0) ts told.0 in
    let region = All-In (λ (u : ℕ × ℤ). u.0 < length numbers) ts source.0 regions source.1.0 in
    subst (λ (m : ℕ). m < n) (same_from_test (slice_index numbers source.0.0) t.0 source.1.1) (below source.0.0 0 region)

-- ---- keys

-- keys that rise differ
pub keys_once : (ts : List (ℕ × ℤ)) → Pairwise (λ a b. a.0 < b.0) ts → Distinct (map key ts)
keys_once [] rise = tt
keys_once (t ∷ ts) rise = (
  (λ among. let source = In-map_source key t.0 ts among in
      let less = rise.0 source.0 source.1.0 in
      let same = source.1.1 in
      omega (arith, less, same)),
  keys_once ts rise.1,
)

-- keys of a part differ
pub keys_of_part : {N : Type 0} (test : N × ℤ → Bool) (ts : List (N × ℤ)) → Distinct (map key ts) → Distinct (map key (filter test ts))
keys_of_part test [] once = tt
keys_of_part {N} test (t ∷ ts) once =
    let rest = keys_of_part test ts once.1 in
    let P : N → Type 0 = λ n. In n (map key ts) in
    elim (test t) as (λ b. Distinct (map key (cond b (t ∷ filter test ts) (filter test ts)))) [
      | true ↦ (
        (λ among. let source = In-map_source key t.0 (filter test ts) among in
            once.0 (subst P source.1.1 (In-map key source.0 ts (In-filter_source test source.0 ts source.1.0)))),
        rest,
      )
      | false ↦ rest
    ]
