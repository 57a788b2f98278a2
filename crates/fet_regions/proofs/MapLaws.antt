-- Lengths in a map: one part more, and what lies in the range of a label.
use Rattle.fet_regions.proofs.Common.{◌≡◌, ◌⊎◌, ℕ, ◌+◌, ◌<◌, ◌≤◌, ℤ, pos, ◌+ℤ◌, Bool, true, false, not, cond, eqb, ◌&&◌, ◌||◌, List, [], ◌∷◌, ◌++◌}
use Rattle.fet_regions.proofs.Common.{map, length, get_or, take, inl, inr, refl, sym, ◌∙◌, ap, subst, arith, Option, Some, None, unwrap_or, list_any}
use Rattle.fet_regions.proofs.Common.{Ordering, Included, Excluded, cases_eq, cases_lt, false≢true, and_parts, ints, get_or-map, length-map}
use Rattle.fet_regions.proofs.Common.{take_more, AllPairs, In, sum_on, In-get_or, In-filter, In-filter_source, In-filter_passes, In-map}
use Rattle.fet_regions.proofs.Common.{In-map_source, Bounded, one_plane, same_from_test, is_part_of, part_in, summed, key_cmp, AreTerminals, Part}
use Rattle.std.specs.declared.cmp.Ordering.TheVariants.{Less, Equal, Greater}
use Rattle.std.specs.BTreeMap.{is_at}
use Rattle.std.specs.BTreeMap.Range.{entries_between, range_contains}
use Rattle.std.specs.Cmp.{IsTotalOrder, nat_cmp_is}
use Rattle.std.specs.List.Sorted.{IsStrictlySortedBy}
use Rattle.std.specs.Map.{lookup, keys_of}
use Rattle.std.specs.Ordering.{nat_cmp, ordering_then, is_eq, is_le}
use Rattle.std.proofs.lemmas.Cmp.{nat_cmp_total, on_total, then_total, eq_by_cmp_equiv}
use Rattle.std.proofs.lemmas.List.Folds.{list_any-append}
use Rattle.std.proofs.lemmas.Map.Keys.{IsDistinct-from_sorted, Less-from_sorted}
use Rattle.std.proofs.lemmas.List.Kept.{AllPairs-filter}
use Rattle.std.proofs.lemmas.Map.Views.{Contains-from_lookup, lookup-from_Contains}
use Rattle.finite_sets.proofs.Members.{Contains-from_In, In-from_Contains}
use Rattle.finite_sets.proofs.Sums.{sum_on-push}
use Rattle.key_sums.proofs.SumLaws.{Fits, bounded_more}
use Rattle.flood_nodes.proofs.ShareLaws.{two_planes}
use Rattle.fet_regions.proofs.LengthLaws.{sum_none}

compared : (x y : ℕ) → (nat_cmp x y ≡ Less) × (x < y) ⊎ ((nat_cmp x y ≡ Equal) × (x ≡ y) ⊎ (nat_cmp x y ≡ Greater) × (y < x))
compared x y = elim (cases_lt x y) [
  | inl less ↦ inl (sym (nat_cmp_is x y Less less), less)
  | inr no_less ↦ (elim (cases_eq x y) [
    | inl same ↦ inr (inl (sym (nat_cmp_is x y Equal same), same))
    | inr differ ↦ (let more : y < x = omega (arith, no_less, differ) in inr (inr (sym (nat_cmp_is x y Greater more), more)))
  ])
]

is_eq-nat : (x y : ℕ) → is_eq (nat_cmp x y) ≡ eqb x y
is_eq-nat x y = elim (compared x y) [
  | inl less ↦ (let order = less.1 in ap is_eq less.0 ∙ sym (two_planes x y (λ e. omega (arith, order, e))))
  | inr (inl same) ↦ ap is_eq same.0 ∙ sym (one_plane x y same.1)
  | inr (inr more) ↦ (let order = more.1 in ap is_eq more.0 ∙ sym (two_planes x y (λ e. omega (arith, order, e))))
]

-- a key is found by its two numbers
pub is_key : (a q : ℕ × ℕ) → is_at (key_cmp a) q ≡ (eqb a.0 q.0 && eqb a.1 q.1)
is_key a q = elim (compared a.0 q.0) [
  | inl less ↦ (let order = less.1 in ap (λ (o : Ordering). is_eq (ordering_then o (nat_cmp a.1 q.1))) less.0
      ∙ ap (λ (t : Bool). t && eqb a.1 q.1) (sym (two_planes a.0 q.0 (λ e. omega (arith, order, e)))))
  | inr (inl same) ↦ ap (λ (o : Ordering). is_eq (ordering_then o (nat_cmp a.1 q.1))) same.0 ∙ is_eq-nat a.1 q.1
      ∙ ap (λ (t : Bool). t && eqb a.1 q.1) (sym (one_plane a.0 q.0 same.1))
  | inr (inr more) ↦ (let order = more.1 in ap (λ (o : Ordering). is_eq (ordering_then o (nat_cmp a.1 q.1))) more.0
      ∙ ap (λ (t : Bool). t && eqb a.1 q.1) (sym (two_planes a.0 q.0 (λ e. omega (arith, order, e)))))
]

key_cmp_total : IsTotalOrder key_cmp
key_cmp_total = then_total (on_total (λ q. q.0) nat_cmp_total) (on_total (λ q. q.1) nat_cmp_total)

same_key : (a q : ℕ × ℕ) → is_at (key_cmp a) q ≡ true → a ≡ q
same_key a q e =
    let tests = and_parts (eqb a.0 q.0) (eqb a.1 q.1) (sym (is_key a q) ∙ e) in
    λ k. (same_from_test a.0 q.0 tests.0 k, same_from_test a.1 q.1 tests.1 k)

-- the length to a key with one part more
abbrev with_part : List Part → Part → ℕ × ℕ → Option ℤ
with_part parts p key = cond (is_part_of key p) (Some (unwrap_or (summed parts key) (pos 0) +ℤ p.length)) (summed parts key)

summed_push : (parts : List Part) (p : Part) (key : ℕ × ℕ) → summed (parts ++ p ∷ []) key ≡ with_part parts p key
summed_push parts p key =
    (λ k. cond (list_any-append (is_part_of key) parts (p ∷ []) k) (Some (sum_on-push (part_in key) parts p k)) None)
    ∙ gate (list_any (is_part_of key) parts) (is_part_of key p) (sum_on (part_in key) parts) p.length (λ e. sum_none key parts e)
  where
    some : (m n : ℤ) → m ≡ n → Some m ≡ Some n
    some m n e = ap (λ (z : ℤ). Some z) e

    gate : (a t : Bool) (s v : ℤ) → (a ≡ false → s ≡ pos 0)
        → cond (a || (t || false)) (Some (s +ℤ cond t v (pos 0))) None ≡ cond t (Some (unwrap_or (cond a (Some s) None) (pos 0) +ℤ v)) (cond a (Some s) None)
    gate true true s v none = refl
    gate true false s v none = some (s +ℤ pos 0) s (omega (arith, ints))
    gate false true s v none = some (s +ℤ v) (pos 0 +ℤ v) (ap (λ (z : ℤ). z +ℤ v) (none refl))
    gate false false s v none = refl

-- the map with one part more
pub summed_more : (parts : List Part) (i : ℕ) (d : Part) (old new : ℕ × ℕ → Option ℤ) (sum : ℤ) → i < length parts
    → ((key : ℕ × ℕ) → old key ≡ summed (take i parts) key)
    → sum ≡ unwrap_or (old ((get_or parts i d).label, (get_or parts i d).region)) (pos 0) +ℤ (get_or parts i d).length
    → ((key : ℕ × ℕ) → new key ≡ cond (is_at (key_cmp ((get_or parts i d).label, (get_or parts i d).region)) key) (Some sum) (old key))
    → (key : ℕ × ℕ) → new key ≡ summed (take (i + 1) parts) key
summed_more parts i d old new sum inside before is updates key =
    let p = get_or parts i d in
    let own : ℕ × ℕ = (p.label, p.region) in
    updates key ∙ step p own refl is
    ∙ sym (ap (λ (ps : List Part). summed ps key) (take_more parts i d inside) ∙ summed_push (take i parts) p key)
  where
    here : (p : Part) (s : ℤ) (t : Bool) → (t ≡ true → s ≡ unwrap_or (summed (take i parts) key) (pos 0) +ℤ p.length)
        → cond t (Some s) (summed (take i parts) key) ≡ cond t (Some (unwrap_or (summed (take i parts) key) (pos 0) +ℤ p.length)) (summed (take i parts) key)
    here p s true e = ap (λ (z : ℤ). Some z) (e refl)
    here p s false e = refl

    step : (p : Part) (own : ℕ × ℕ) → own ≡ (p.label, p.region) → sum ≡ unwrap_or (old own) (pos 0) +ℤ p.length
        → cond (is_at (key_cmp own) key) (Some sum) (old key) ≡ with_part (take i parts) p key
    step p own same e =
        (λ k. cond (is_at (key_cmp own) key) (Some sum) (before key k))
        ∙ here p sum (is_at (key_cmp own) key) (λ at. e ∙ ap (λ (v : Option ℤ). unwrap_or v (pos 0) +ℤ p.length)
        (ap old (same_key own key at) ∙ before key))
        ∙ ap (λ (t : Bool). cond t (Some (unwrap_or (summed (take i parts) key) (pos 0) +ℤ p.length)) (summed (take i parts) key))
        (is_key own key ∙ ap (λ (q : ℕ × ℕ). eqb q.0 key.0 && eqb q.1 key.1) same)

-- what stands for a length, where none stands for 0
pub summed_or : (parts : List Part) (key : ℕ × ℕ) → unwrap_or (summed parts key) (pos 0) ≡ sum_on (part_in key) parts
summed_or parts key = gate (list_any (is_part_of key) parts) (sum_on (part_in key) parts) (λ e. sum_none key parts e)
  where
    gate : (t : Bool) (n : ℤ) → (t ≡ false → n ≡ pos 0) → unwrap_or (cond t (Some n) None) (pos 0) ≡ n
    gate true n h = refl
    gate false n h = sym (h refl)

-- a sum of so many parts
pub sum_bounded : (parts : List Part) (i : ℕ) (d : Part) (key : ℕ × ℕ) → i < length parts → Fits (get_or parts i d).length
    → Bounded i (sum_on (part_in key) (take i parts)) → Bounded (i + 1) (sum_on (part_in key) (take (i + 1) parts))
sum_bounded parts i d key inside fits before =
    let p = get_or parts i d in
    subst (Bounded (i + 1)) (sym (ap (sum_on (part_in key)) (take_more parts i d inside) ∙ sum_on-push (part_in key) (take i parts) p))
    (bounded_more i (sum_on (part_in key) (take i parts)) (part_in key p) before (either (is_part_of key p) p.length fits))
  where
    either : (t : Bool) (v : ℤ) → Fits v → Fits (cond t v (pos 0))
    either true v h = h
    either false v h = (omega (arith, ints), omega (arith, ints))

module _ (label : ℕ) where
  abbrev in_label : ℕ × ℕ → Bool
  in_label q = range_contains key_cmp (Included (label, 0)) (Excluded (label + 1, 0)) q

  zero_first : (r : ℕ) → is_le (nat_cmp 0 r) ≡ true
  zero_first r = elim (compared 0 r) [
    | inl less ↦ ap is_le less.0
    | inr (inl same) ↦ ap is_le same.0
    | inr (inr more) ↦ absurd (let order = more.1 in omega (arith, order))
  ]

  first_of : (m n r : ℕ) → m ≤ n → is_le (ordering_then (nat_cmp m n) (nat_cmp 0 r)) ≡ true
  first_of m n r le = elim (compared m n) [
    | inl less ↦ ap (λ (o : Ordering). is_le (ordering_then o (nat_cmp 0 r))) less.0
    | inr (inl same) ↦ ap (λ (o : Ordering). is_le (ordering_then o (nat_cmp 0 r))) same.0 ∙ zero_first r
    | inr (inr more) ↦ absurd (let order = more.1 in omega (arith, order, le))
  ]

  not_first_of : (m n r : ℕ) → n < m → is_le (ordering_then (nat_cmp m n) (nat_cmp 0 r)) ≡ false
  not_first_of m n r less = ap (λ (o : Ordering). is_le (ordering_then o (nat_cmp 0 r))) (sym (nat_cmp_is m n Greater less))

  -- the range of a label holds its keys
  holds : (r : ℕ) → in_label (label, r) ≡ true
  holds r = let own = first_of label label r (omega arith) in
      let next = not_first_of (label + 1) label r (omega arith) in (λ k. own k && not (next k))

  -- and no others
  holds_own : (q : ℕ × ℕ) → in_label q ≡ true → q.0 ≡ label
  holds_own q e =
      let tests = and_parts (is_le (key_cmp (label, 0) q)) (not (is_le (key_cmp (label + 1, 0) q))) e in
      elim (cases_lt q.0 label) [
        | inl less ↦ absurd (false≢true (sym (not_first_of label q.0 q.1 less) ∙ tests.0))
        | inr no_less ↦ (elim (cases_lt label q.0) [
          | inr no_more ↦ omega (arith, no_less, no_more)
          | inl more ↦ absurd (false≢true (sym (ap not (first_of (label + 1) q.0 q.1 (omega (arith, more)))) ∙ tests.1))
        ])
      ]

  -- of keys of one label in order, the regions are
  regions_less : (p q : ℕ × ℕ) → p.0 ≡ q.0 → key_cmp p q ≡ Less → p.1 < q.1
  regions_less p q same less =
      let tail : nat_cmp p.1 q.1 ≡ Less = ap (λ (o : Ordering). ordering_then o (nat_cmp p.1 q.1)) (nat_cmp_is p.0 q.0 Equal same) ∙ less in
      elim (compared p.1 q.1) [
        | inl order ↦ order.1
        | inr (inl equal) ↦ absurd (let e : Equal ≡ Less = sym equal.0 ∙ tail in cc)
        | inr (inr more) ↦ absurd (let e : Greater ≡ Less = sym more.0 ∙ tail in cc)
      ]

  -- what stands in the range of a label
  pub terminals_in : (entries : List ((ℕ × ℕ) × ℤ)) (terminals : List (ℕ × ℤ)) → IsStrictlySortedBy key_cmp (keys_of entries)
      → terminals ≡ map (λ (entry : (ℕ × ℕ) × ℤ). (entry.0.1, entry.1)) (entries_between key_cmp (Included (label, 0)) (Excluded (label + 1, 0)) entries)
      → AreTerminals (λ key. lookup (is_at (key_cmp key)) entries) label terminals
  terminals_in entries terminals sorted is =
      let test : (ℕ × ℕ) × ℤ → Bool = λ entry. in_label entry.0 in
      let between = entries_between key_cmp (Included (label, 0)) (Excluded (label + 1, 0)) entries in
      let ascending : AllPairs (λ a b. key_cmp a.0 b.0 ≡ Less) between = AllPairs-filter (λ a b. key_cmp a.0 b.0 ≡ Less) test entries (λ i j d less below.
      let long = length-map entries (λ (entry : (ℕ × ℕ) × ℤ). entry.0) in
      let a = get_or-map (λ (entry : (ℕ × ℕ) × ℤ). entry.0) entries i d d.0 (omega (arith, less, below)) in
      let b = get_or-map (λ (entry : (ℕ × ℕ) × ℤ). entry.0) entries j d d.0 below in
      subst (λ (q : ℕ × ℕ). key_cmp q (get_or entries j d).0 ≡ Less) a
      (subst (λ (q : ℕ × ℕ). key_cmp (get_or (keys_of entries) i d.0) q ≡ Less) b
      (Less-from_sorted key_cmp (keys_of entries) i j d.0 sorted less (omega (arith, below, long))))) in
      record {
        sound = λ region length inside.
            let source = In-map_source (λ (entry : (ℕ × ℕ) × ℤ). (entry.0.1, entry.1)) (region, length) between
            (subst (In {X = ℕ × ℤ} (region, length)) is inside) in
            let entry = source.0 in
            let own = holds_own entry.0 (In-filter_passes test entry entries source.1.0) in
            let key : entry.0 ≡ (label, region) = λ k. (own k, (source.1.1 k).0) in
            subst (λ (q : ℕ × ℕ). lookup (is_at (key_cmp q)) entries ≡ Some length) key
            (lookup-from_Contains (eq_by_cmp_equiv key_cmp_total) entry.0 entry.1 entries (IsDistinct-from_sorted key_cmp (keys_of entries) sorted)
            (Contains-from_In entry entries (In-filter_source test entry entries source.1.0)) ∙ ap (λ (z : ℤ). Some z) (λ k. (source.1.1 k).1));
        whole = λ region length found.
            let entry : (ℕ × ℕ) × ℤ = ((label, region), length) in
            subst (In {X = ℕ × ℤ} (region, length)) (sym is) (In-map (λ (e : (ℕ × ℕ) × ℤ). (e.0.1, e.1)) entry between
            (In-filter test entry entries (In-from_Contains entry entries (Contains-from_lookup same_key (label, region) length entries found))
            (holds region)));
        by_region = subst (AllPairs (λ (a b : ℕ × ℤ). a.0 < b.0)) (sym is) (λ i j d less below.
            let long = length-map {B = ℕ × ℤ} between (λ (e : (ℕ × ℕ) × ℤ). (e.0.1, e.1)) in
            let last : j < length between = omega (arith, below, long) in
            let first : i < length between = omega (arith, less, last) in
            let e : (ℕ × ℕ) × ℤ = ((0, 0), pos 0) in
            let own_i = holds_own (get_or between i e).0 (In-filter_passes test (get_or between i e) entries (In-get_or between i e first)) in
            let own_j = holds_own (get_or between j e).0 (In-filter_passes test (get_or between j e) entries (In-get_or between j e last)) in
            let order = regions_less (get_or between i e).0 (get_or between j e).0 (own_i ∙ sym own_j) (ascending i j e less last) in
            let pair_of : (ℕ × ℕ) × ℤ → ℕ × ℤ = λ f. (f.0.1, f.1) in
            let a = ap (λ (t : ℕ × ℤ). t.0) (get_or-map pair_of between i e d first) in
            let b = ap (λ (t : ℕ × ℤ). t.0) (get_or-map pair_of between j e d last) in
            omega (arith, order, a, b));
      }
