-- Sums over contacts are sums over pairs of places.
use Rattle.rect_contacts.proofs.Common.{◌≡◌, ℕ, ◌<◌, ℤ, pos, ◌+ℤ◌, ◌*ℤ◌, ◌≤ℤ◌, ◌<ℤ◌, Bool, true, false, ◌&&◌, List, [], ◌∷◌, inl, inr, map, length}
use Rattle.rect_contacts.proofs.Common.{get_or, refl, sym, ◌∙◌, ap, subst, arith, *ℤ-zero, cases_lt, ints, In, Lists, sum_on, pairs_of, Lists-iff}
use Rattle.rect_contacts.proofs.Common.{In-index, In-get_or, Contact, rect_at, shared_length, IsSharedEdge}
use Rattle.std.proofs.Common.{◌≤◌, cond}
use Rattle.std.proofs.Common.{filter}
use Rattle.std.specs.Prelude.{nat_lt, int_lt}
use Rattle.std.specs.List.{range_with_len}
use Rattle.std.proofs.lemmas.Bool.{cases_eq, and_parts}
use Rattle.std.proofs.lemmas.Bool.Decides.{nat_tests}
use Rattle.std.proofs.lemmas.List.FromFn.{length-range_with_len, get_or-range_with_len}
use Rattle.geo_core.proofs.FiniteSets.Members.{In-map, In-map_source, In-filter, In-filter_source, In-filter_passes}
use Rattle.geo_core.proofs.FiniteSets.Distincts.{Distinct-map, Distinct-filter, Distinct-from_places}
use Rattle.geo_core.proofs.FiniteSets.Sums.{sum_on-append, sum_on-map, sum_on-same, sum_on-add, sum_on-swap, sum_on-filter, sum_on-same_things}
use Rattle.geo_core.proofs.FiniteSets.Ranges.{Lists-pairs_of}
use Rattle.rect_contacts.specs.EdgeLaws.{ContactsCountBothWays}
use Rattle.rect_contacts.proofs.Counting.{distributes_right}
use Rattle.rect_contacts.proofs.Shared.{shared_length-same, shared_length-not_negative, shared_length-comm}

-- the numbers below n
pub Lists-below : (n : ℕ) → Lists (λ k. k < n) (range_with_len 0 n)
Lists-below n =
    let places = range_with_len 0 n in
    let long = length-range_with_len 0 n in (
      Distinct-from_places places (λ i j d less below e.
          let a = get_or-range_with_len 0 n i d (omega (arith, long, below)) in
          let b = get_or-range_with_len 0 n j d (omega (arith, long, below)) in
          omega (arith, a, b, e)),
      (λ k below. let a = get_or-range_with_len 0 n k 0 below in
          let there = In-get_or places k 0 (omega (arith, long)) in
          let same : get_or places k 0 ≡ k = omega (arith, a) in
          subst (λ (m : ℕ). In m places) same there),
      (λ k i. let r = In-index k places i in
          let a = get_or-range_with_len 0 n r.0 0 (omega (arith, long, r.1.0)) in
          omega (arith, long, r.1.0, a, r.1.1 0)),
    )

-- a sum over pairs is a sum over the first of sums over the second
pub sum_on-nested : {X Y : Type 0} (w : X × Y → ℤ) (xs : List X) (ys : List Y) → sum_on w (pairs_of xs ys) ≡ sum_on (λ x. sum_on (λ y. w (x, y)) ys) xs
sum_on-nested w [] ys = refl
sum_on-nested w (x ∷ xs) ys =
    let here = sum_on-map (λ y. (x, y)) w ys in
    let rest = sum_on-nested w xs ys in
    sum_on-append w (map (λ y. (x, y)) ys) (pairs_of xs ys) ∙ (λ k. here k +ℤ rest k)

-- the value, if the test passes
abbrev only_if : Bool → ℤ → ℤ
only_if b v = cond b v (pos 0)

only_if-add : (b : Bool) (x y : ℤ) → only_if b x +ℤ only_if b y ≡ only_if b (x +ℤ y)
only_if-add true x y = refl
only_if-add false x y = refl

-- a second test changes nothing that counts
only_if-and : (b c : Bool) (v : ℤ) → (c ≡ false → v ≡ pos 0) → only_if b v ≡ only_if (b && c) v
only_if-and true true v h = refl
only_if-and true false v h = h refl
only_if-and false c v h = refl

-- a number counts at one order of two places or at the other
one_order : (i j : ℕ) (v : ℤ) → (i ≡ j → v ≡ pos 0) → v ≡ only_if (nat_lt i j) v +ℤ only_if (nat_lt j i) v
one_order i j v h = elim (cases_eq i j) [
  | inl e ↦ h e ∙ sym (λ k. cond (not_less i j (omega arith) k) v (pos 0) +ℤ cond (not_less j i (omega arith) k) v (pos 0))
  | inr differ ↦ elim (cases_lt i j) [
    | inl less ↦ plus_none v ∙ sym (λ k. cond (is_less i j less k) v (pos 0) +ℤ cond (not_less j i (omega arith) k) v (pos 0))
    | inr more ↦ none_plus v ∙ sym (λ k. cond (not_less i j more k) v (pos 0) +ℤ cond (is_less j i (omega arith) k) v (pos 0))
  ]
]
  where
    is_less : (m n : ℕ) → m < n → nat_lt m n ≡ true
    is_less m n h = grind (arith, nat_tests)

    not_less : (m n : ℕ) → n ≤ m → nat_lt m n ≡ false
    not_less m n h = grind (arith, nat_tests)

    plus_none : (z : ℤ) → z ≡ z +ℤ pos 0
    plus_none z = omega (arith, ints)

    none_plus : (z : ℤ) → z ≡ pos 0 +ℤ z
    none_plus z = omega (arith, ints)

passes_both : (i j : ℕ) (z : ℤ) → i < j → pos 0 <ℤ z → (nat_lt i j && int_lt (pos 0) z) ≡ true
passes_both i j z h k = grind (arith, ints, nat_tests)

less_from_test : (i j : ℕ) → nat_lt i j ≡ true → i < j
less_from_test i j h = grind (arith, nat_tests)

positive_from_test : (z : ℤ) → int_lt (pos 0) z ≡ true → pos 0 <ℤ z
positive_from_test z h = grind (arith, ints)

none_from_test : (z : ℤ) → pos 0 ≤ℤ z → int_lt (pos 0) z ≡ false → z ≡ pos 0
none_from_test z h k = grind (arith, ints)

-- Two numbers below n share this length, which is not 0. The lesser is named first.
pub record IsShare (n : ℕ) (shared_at : ℕ → ℕ → ℤ) (contact : Contact) : Type 0 where
  pub in_order : contact.first < contact.second
  pub in_list : contact.second < n
  pub length_is : contact.length ≡ shared_at contact.first contact.second
  pub not_none : pos 0 <ℤ contact.length

-- What numbers share is shared both ways, is not negative, and none shares anything with itself.
pub record AreShares (n : ℕ) (shared_at : ℕ → ℕ → ℤ) : Type 0 where
  pub both : (i j : ℕ) → shared_at i j ≡ shared_at j i
  pub not_negative : (i j : ℕ) → pos 0 ≤ℤ shared_at i j
  pub alone : (i : ℕ) → i < n → shared_at i i ≡ pos 0

module _ (n : ℕ) (shared_at : ℕ → ℕ → ℤ) (shares : AreShares n shared_at) (weight : ℕ → ℕ → ℤ) where
  abbrev places : List ℕ
  places = range_with_len 0 n

  -- what two places count, when they stand in order
  abbrev both_ways : ℕ × ℕ → ℤ
  both_ways p = (weight p.0 p.1 +ℤ weight p.1 p.0) *ℤ shared_at p.0 p.1

  below_end : (k : ℕ) → In k places → k < n
  below_end k i = (Lists-below n).2 k i

  join : (i j : ℕ) → only_if (nat_lt i j) (weight i j *ℤ shared_at i j) +ℤ only_if (nat_lt i j) (weight j i *ℤ shared_at j i) ≡ only_if (nat_lt i j)
      (both_ways (i, j))
  join i j =
      only_if-add (nat_lt i j) (weight i j *ℤ shared_at i j) (weight j i *ℤ shared_at j i)
      ∙ ap (only_if (nat_lt i j)) (ap (λ (z : ℤ). (weight i j *ℤ shared_at i j) +ℤ (weight j i *ℤ z)) (shares.both j i)
      ∙ distributes_right (weight i j) (weight j i) (shared_at i j))

  split : (i j : ℕ) → i < n
      → weight i j *ℤ shared_at i j ≡ only_if (nat_lt i j) (weight i j *ℤ shared_at i j) +ℤ only_if (nat_lt j i) (weight i j *ℤ shared_at i j)
  split i j below = one_order i j (weight i j *ℤ shared_at i j) (λ e.
      ap (λ (z : ℤ). weight i j *ℤ z) (ap (λ (k : ℕ). shared_at i k) (sym e) ∙ shares.alone i below) ∙ *ℤ-zero (weight i j))

  -- the sum over all i and j, as a sum over those in order
  sum_in_order : sum_on (λ i. sum_on (λ j. weight i j *ℤ shared_at i j) places) places
      ≡ sum_on (λ i. sum_on (λ j. only_if (nat_lt i j) (both_ways (i, j))) places) places
  sum_in_order =
      let all = places in
      let u : ℕ → ℕ → ℤ = λ i j. only_if (nat_lt i j) (weight i j *ℤ shared_at i j) in
      let v : ℕ → ℕ → ℤ = λ i j. only_if (nat_lt j i) (weight i j *ℤ shared_at i j) in
      sum_on-same (λ i. sum_on (λ j. weight i j *ℤ shared_at i j) all) (λ i. sum_on (u i) all +ℤ sum_on (v i) all) all
      (λ i ini. sum_on-same (λ j. weight i j *ℤ shared_at i j) (λ j. u i j +ℤ v i j) all (λ j inj. split i j (below_end i ini)) ∙ sum_on-add (u i) (v i) all)
      ∙ sum_on-add (λ i. sum_on (u i) all) (λ i. sum_on (v i) all) all
      ∙ ap (λ (z : ℤ). sum_on (λ i. sum_on (u i) all) all +ℤ z) (sum_on-swap v all all)
      ∙ sym (sum_on-add (λ i. sum_on (u i) all) (λ i. sum_on (λ j. v j i) all) all)
      ∙ sum_on-same (λ i. sum_on (u i) all +ℤ sum_on (λ j. v j i) all) (λ i. sum_on (λ j. only_if (nat_lt i j) (both_ways (i, j))) all) all
      (λ i ini. sym (sum_on-add (u i) (λ j. v j i) all) ∙ sum_on-same (λ j. u i j +ℤ v j i) (λ j. only_if (nat_lt i j) (both_ways (i, j))) all
      (λ j inj. join i j))

  -- the test of a pair of places that touch, in order
  abbrev do_touch : ℕ × ℕ → Bool
  do_touch p = nat_lt p.0 p.1 && int_lt (pos 0) (shared_at p.0 p.1)

  only_touching : (i j : ℕ) → only_if (nat_lt i j) (both_ways (i, j)) ≡ only_if (do_touch (i, j)) (both_ways (i, j))
  only_touching i j = only_if-and (nat_lt i j) (int_lt (pos 0) (shared_at i j)) (both_ways (i, j))
      (λ f. ap (λ (z : ℤ). (weight i j +ℤ weight j i) *ℤ z) (none_from_test (shared_at i j) (shares.not_negative i j) f)
      ∙ *ℤ-zero (weight i j +ℤ weight j i))

  module _ (contacts : List Contact) (lists : Lists (IsShare n shared_at) contacts) where
    abbrev places_in : Contact → ℕ × ℕ
    places_in c = (c.first, c.second)

    -- contacts of the same places are the same
    same_contact : (c d : Contact) → In c contacts → In d contacts → places_in c ≡ places_in d → c ≡ d
    same_contact c d inc ind e =
        let p = lists.2 c inc in
        let q = lists.2 d ind in
        let length = p.length_is ∙ ap (λ (r : ℕ × ℕ). shared_at r.0 r.1) e ∙ sym q.length_is in
        λ k. record { first = (e k).0; second = (e k).1; length = length k }

    abbrev pairs : List (ℕ × ℕ)
    pairs = pairs_of places places

    pairs_listed : Lists {X = ℕ × ℕ} (λ p. (p.0 < n) × (p.1 < n)) pairs
    pairs_listed = Lists-pairs_of (λ k. k < n) (λ k. k < n) places places (Lists-below n) (Lists-below n)

    touching_pairs : (p : ℕ × ℕ) → In p (filter do_touch pairs) → In p (map places_in contacts)
    touching_pairs p i =
        let tests = and_parts (nat_lt p.0 p.1) (int_lt (pos 0) (shared_at p.0 p.1)) (In-filter_passes do_touch p pairs i) in
        let ends = pairs_listed.2 p (In-filter_source do_touch p pairs i) in
        let c : Contact = record { first = p.0; second = p.1; length = shared_at p.0 p.1 } in
        In-map places_in c contacts (lists.1 c (record {
          in_order = less_from_test p.0 p.1 tests.0;
          in_list = ends.1;
          length_is = refl;
          not_none = positive_from_test (shared_at p.0 p.1) tests.1;
        }))

    pairs_touching : (p : ℕ × ℕ) → In p (map places_in contacts) → In p (filter do_touch pairs)
    pairs_touching p i =
        let source = In-map_source places_in p contacts i in
        let c = source.0 in
        let is = lists.2 c source.1.0 in
        let order : c.first < c.second = is.in_order in
        let last : c.second < n = is.in_list in
        let long : pos 0 <ℤ shared_at c.first c.second = subst (λ (z : ℤ). pos 0 <ℤ z) is.length_is is.not_none in
        subst (λ (q : ℕ × ℕ). In q (filter do_touch pairs)) source.1.1
        (In-filter do_touch (places_in c) pairs (pairs_listed.1 (places_in c) (omega arith, last))
        (passes_both c.first c.second (shared_at c.first c.second) order long))

    sum_over_contacts : sum_on (λ c. (weight c.first c.second +ℤ weight c.second c.first) *ℤ c.length) contacts
        ≡ sum_on (λ i. sum_on (λ j. only_if (nat_lt i j) (both_ways (i, j))) places) places
    sum_over_contacts =
        sum_on-same (λ c. (weight c.first c.second +ℤ weight c.second c.first) *ℤ c.length) (λ c. both_ways (places_in c)) contacts
        (λ c i. ap (λ (z : ℤ). (weight c.first c.second +ℤ weight c.second c.first) *ℤ z) (lists.2 c i).length_is)
        ∙ sym (sum_on-map places_in both_ways contacts)
        ∙ sum_on-same_things both_ways (map places_in contacts) (filter do_touch pairs) (Distinct-map places_in contacts same_contact lists.0)
        (Distinct-filter do_touch pairs pairs_listed.0) pairs_touching touching_pairs
        ∙ sum_on-filter do_touch both_ways pairs
        ∙ sum_on-same {X = ℕ × ℕ} (λ p. cond (do_touch p) (both_ways p) (pos 0)) (λ p. only_if (nat_lt p.0 p.1) (both_ways p)) pairs
        (λ p i. sym (only_touching p.0 p.1))
        ∙ sum_on-nested (λ p. only_if (nat_lt p.0 p.1) (both_ways p)) places places

-- each counts for both of its numbers
pub shares_both_ways : (n : ℕ) (shared_at : ℕ → ℕ → ℤ) (contacts : List Contact) (weight : ℕ → ℕ → ℤ) → AreShares n shared_at
    → Lists (IsShare n shared_at) contacts
    → sum_on (λ c. (weight c.first c.second +ℤ weight c.second c.first) *ℤ c.length) contacts
    ≡ sum_on (λ i. sum_on (λ j. weight i j *ℤ shared_at i j) (range_with_len 0 n)) (range_with_len 0 n)
shares_both_ways n shared_at contacts weight shares lists =
    sum_over_contacts n shared_at shares weight contacts lists ∙ sym (sum_in_order n shared_at shares weight)

-- each contact counts for both of its rectangles
pub contacts_both_ways : ContactsCountBothWays
contacts_both_ways rects contacts weight proper lists =
    let shared_at : ℕ → ℕ → ℤ = λ i j. shared_length (rect_at rects i) (rect_at rects j) in
    shares_both_ways (length rects) shared_at contacts weight
    (record {
      both = λ i j. shared_length-comm (rect_at rects i) (rect_at rects j);
      not_negative = λ i j. shared_length-not_negative (rect_at rects i) (rect_at rects j);
      alone = λ i below. shared_length-same (rect_at rects i) (proper i _ below);
    })
    (Lists-iff (IsSharedEdge rects) (IsShare (length rects) shared_at) contacts
    (λ c e. record { in_order = e.in_order; in_list = e.in_list; length_is = e.length_is; not_none = e.not_none })
    (λ c e. record { in_order = e.in_order; in_list = e.in_list; length_is = e.length_is; not_none = e.not_none }) lists)
