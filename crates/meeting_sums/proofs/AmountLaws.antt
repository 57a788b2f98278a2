-- Amounts that are added one after another.
use Rattle.meeting_sums.proofs.Common.{◌≡◌, ◌⊎◌, ℕ, ◌<◌, pos, ℤ, ◌+ℤ◌, ◌-ℤ◌, Bool, true, false, cond, eqb, List, [], ◌∷◌, ◌++◌, inl, inr, refl, sym}
use Rattle.meeting_sums.proofs.Common.{◌∙◌, ap, arith, All, ints, sum_on, sum_on-push, Amount, PartKind, for_group, for_both, AddAmounts}
use Rattle.finite_sets.proofs.Members.{In-push_cases}
use Rattle.finite_sets.proofs.Searches.{All-from_In}
use Rattle.key_sums.specs.Amounts.{counts_for, sum_of}

nothing_more : (n : ℤ) → n ≡ n +ℤ pos 0
nothing_more n = omega (arith, ints)

regrouped : (a b c v w u : ℤ) → b ≡ a +ℤ v → c ≡ b +ℤ w → v +ℤ w ≡ u → c ≡ a +ℤ u
regrouped a b c v w u e f g = omega (arith, ints, e, f, g)

-- no amount is added
pub adds_none : (Key : ℕ → Type 0) (value : ℕ → ℤ) (old : List Amount) → ((key : ℕ) → value key ≡ pos 0) → AddAmounts Key value old old
adds_none Key value old none = record {
  keys = λ amount i. inl i;
  sums = λ key. nothing_more (sum_of key old) ∙ ap (λ (n : ℤ). sum_of key old +ℤ n) (sym (none key));
}

-- one amount is added
pub adds_one : (key : ℕ) (value : ℤ) (old : List Amount)
    → AddAmounts (λ k. key ≡ k) (λ k. for_group key k value) old (old ++ record { key = key; value = value } ∷ [])
adds_one key value old = record {
  keys = λ amount i. elim (In-push_cases amount old (record { key = key; value = value }) i) [
    | inl before ↦ inl before
    | inr new ↦ inr (ap (λ (a : Amount). a.key) new)
  ];
  sums = λ k. sum_on-push (counts_for k) old (record { key = key; value = value });
}

-- some are added, and then others
pub adds_then : (Key Later All : ℕ → Type 0) (v w u : ℕ → ℤ) (old mid new : List Amount) → AddAmounts Key v old mid → AddAmounts Later w mid new
    → ((key : ℕ) → Key key → All key) → ((key : ℕ) → Later key → All key) → ((key : ℕ) → v key +ℤ w key ≡ u key) → AddAmounts All u old new
adds_then Key Later All v w u old mid new first second these those sum = record {
  keys = λ amount i. elim (second.keys amount i) [
    | inl before ↦ (elim (first.keys amount before) [ inl older ↦ inl older | inr key ↦ inr (these amount.key key) ])
    | inr key ↦ inr (those amount.key key)
  ];
  sums = λ key. regrouped (sum_of key old) (sum_of key mid) (sum_of key new) (v key) (w key) (u key) (first.sums key) (second.sums key) (sum key);
}

-- the values may be told otherwise
pub adds_same : (Key : ℕ → Type 0) (v w : ℕ → ℤ) (old new : List Amount) → ((key : ℕ) → v key ≡ w key) → AddAmounts Key v old new → AddAmounts Key w old new
adds_same Key v w old new same adds = record {
  keys = adds.keys;
  sums = λ key. adds.sums key ∙ ap (λ (n : ℤ). sum_of key old +ℤ n) (same key);
}

-- values of one group
pub for_group-add : (key group : ℕ) (a b : ℤ) → for_group key group a +ℤ for_group key group b ≡ for_group key group (a +ℤ b)
for_group-add key group a b = by_cases (eqb key group)
  where
    by_cases : (p : Bool) → cond p a (pos 0) +ℤ cond p b (pos 0) ≡ cond p (a +ℤ b) (pos 0)
    by_cases true = refl
    by_cases false = omega (arith, ints)

pub for_group-minus : (key group : ℕ) (a : ℤ) → for_group key group (pos 0 -ℤ a) ≡ pos 0 -ℤ for_group key group a
for_group-minus key group a = by_cases (eqb key group)
  where
    by_cases : (p : Bool) → cond p (pos 0 -ℤ a) (pos 0) ≡ pos 0 -ℤ cond p a (pos 0)
    by_cases true = refl
    by_cases false = refl

-- where nothing was before, the keys are those of what was added
pub keys_all : (Key : ℕ → Type 0) (value : ℕ → ℤ) (new : List Amount) (count : ℕ) → AddAmounts Key value [] new → ((key : ℕ) → Key key → key < count)
    → All (λ amount. amount.key < count) new
keys_all Key value new count adds below = All-from_In (λ (a : Amount). a.key < count) new (λ amount i. elim (adds.keys amount i) [
  | inl none ↦ absurd none
  | inr key ↦ below amount.key key
])

-- a value where one test holds, less the value for each entry that passes another
abbrev pub gated : Bool → (PartKind → Bool) → List PartKind → ℤ → ℤ
gated flat test kinds value = cond flat value (pos 0) -ℤ sum_on (λ entry. cond (test entry) value (pos 0)) kinds

pub gated-none : (flat : Bool) (test : PartKind → Bool) (value : ℤ) → cond flat value (pos 0) ≡ gated flat test [] value
gated-none flat test value = less_nothing (cond flat value (pos 0))
  where
    less_nothing : (n : ℤ) → n ≡ n -ℤ pos 0
    less_nothing n = omega (arith, ints)

pub gated-push : (flat : Bool) (test : PartKind → Bool) (kinds : List PartKind) (entry : PartKind) (value : ℤ)
    → gated flat test kinds value +ℤ (pos 0 -ℤ cond (test entry) value (pos 0)) ≡ gated flat test (kinds ++ entry ∷ []) value
gated-push flat test kinds entry value =
    further (cond flat value (pos 0)) (sum_on (λ e. cond (test e) value (pos 0)) kinds) (cond (test entry) value (pos 0))
    ∙ ap (λ (n : ℤ). cond flat value (pos 0) -ℤ n) (sym (sum_on-push (λ e. cond (test e) value (pos 0)) kinds entry))
  where
    further : (a b c : ℤ) → (a -ℤ b) +ℤ (pos 0 -ℤ c) ≡ a -ℤ (b +ℤ c)
    further a b c = omega (arith, ints)

-- values of two groups
pub for_both-add : (first second group : ℕ) (a b : ℤ)
    → for_both first second group a +ℤ for_both first second group b ≡ for_both first second group (a +ℤ b)
for_both-add first second group a b =
    four (for_group first group a) (for_group second group a) (for_group first group b) (for_group second group b)
    ∙ (λ k. for_group-add first group a b k +ℤ for_group-add second group a b k)
  where
    four : (p q r s : ℤ) → (p +ℤ q) +ℤ (r +ℤ s) ≡ (p +ℤ r) +ℤ (q +ℤ s)
    four p q r s = omega (arith, ints)

pub for_both-minus : (first second group : ℕ) (a : ℤ) → for_both first second group (pos 0 -ℤ a) ≡ pos 0 -ℤ for_both first second group a
for_both-minus first second group a =
    (λ k. for_group-minus first group a k +ℤ for_group-minus second group a k) ∙ two (for_group first group a) (for_group second group a)
  where
    two : (p q : ℤ) → (pos 0 -ℤ p) +ℤ (pos 0 -ℤ q) ≡ pos 0 -ℤ (p +ℤ q)
    two p q = omega (arith, ints)

turned : (counts : Bool) (value : ℤ) → cond counts (pos 0 -ℤ value) (pos 0) ≡ pos 0 -ℤ cond counts value (pos 0)
turned true value = refl
turned false value = refl

-- one entry of a piece more
pub stack_more : (group : ℕ) (flat : Bool) (test : PartKind → Bool) (kinds : List PartKind) (entry : PartKind) (value minus : ℤ) (counts : Bool)
    (old mid new : List Amount)
    → minus ≡ pos 0 -ℤ value → counts ≡ test entry → AddAmounts (λ key. group ≡ key) (λ key. for_group group key (gated flat test kinds value)) old mid
    → AddAmounts (λ key. group ≡ key) (λ key. for_group group key (cond counts minus (pos 0))) mid new
    → AddAmounts (λ key. group ≡ key) (λ key. for_group group key (gated flat test (kinds ++ entry ∷ []) value)) old new
stack_more group flat test kinds entry value minus counts old mid new is same before one =
    adds_then (λ key. group ≡ key) (λ key. group ≡ key) (λ key. group ≡ key) (λ key. for_group group key (gated flat test kinds value))
    (λ key. for_group group key (cond counts minus (pos 0))) (λ key. for_group group key (gated flat test (kinds ++ entry ∷ []) value)) old mid new before one
    (λ key e. e) (λ key e. e)
    (λ key. for_group-add group key (gated flat test kinds value) (cond counts minus (pos 0))
    ∙ ap (λ (n : ℤ). for_group group key (gated flat test kinds value +ℤ n)) ((λ k. cond (same k) (is k) (pos 0)) ∙ turned (test entry) value)
    ∙ ap (for_group group key) (gated-push flat test kinds entry value))

-- the first amounts of a contact
pub contact_first : (first second : ℕ) (flat : Bool) (test : PartKind → Bool) (value minus : ℤ) (counts : Bool) (old new : List Amount)
    → minus ≡ pos 0 -ℤ value → counts ≡ flat
    → AddAmounts (λ key. (first ≡ key) ⊎ (second ≡ key)) (λ key. for_both first second key (cond counts minus (pos 0))) old new
    → AddAmounts (λ key. (first ≡ key) ⊎ (second ≡ key)) (λ key. pos 0 -ℤ for_both first second key (gated flat test [] value)) old new
contact_first first second flat test value minus counts old new is same adds =
    adds_same (λ key. (first ≡ key) ⊎ (second ≡ key)) (λ key. for_both first second key (cond counts minus (pos 0)))
    (λ key. pos 0 -ℤ for_both first second key (gated flat test [] value)) old new
    (λ key. ap (for_both first second key) ((λ k. cond (same k) (is k) (pos 0)) ∙ turned flat value)
    ∙ for_both-minus first second key (cond flat value (pos 0)) ∙ ap (λ (n : ℤ). pos 0 -ℤ for_both first second key n) (gated-none flat test value)) adds

-- one entry of a contact's first piece more
pub contact_more : (first second : ℕ) (flat : Bool) (test : PartKind → Bool) (kinds : List PartKind) (entry : PartKind) (value : ℤ) (counts : Bool)
    (old mid new : List Amount)
    → counts ≡ test entry
    → AddAmounts (λ key. (first ≡ key) ⊎ (second ≡ key)) (λ key. pos 0 -ℤ for_both first second key (gated flat test kinds value)) old mid
    → AddAmounts (λ key. (first ≡ key) ⊎ (second ≡ key)) (λ key. for_both first second key (cond counts value (pos 0))) mid new
    → AddAmounts (λ key. (first ≡ key) ⊎ (second ≡ key)) (λ key. pos 0 -ℤ for_both first second key (gated flat test (kinds ++ entry ∷ []) value)) old new
contact_more first second flat test kinds entry value counts old mid new same before one =
    adds_then (λ key. (first ≡ key) ⊎ (second ≡ key)) (λ key. (first ≡ key) ⊎ (second ≡ key)) (λ key. (first ≡ key) ⊎ (second ≡ key))
    (λ key. pos 0 -ℤ for_both first second key (gated flat test kinds value)) (λ key. for_both first second key (cond counts value (pos 0)))
    (λ key. pos 0 -ℤ for_both first second key (gated flat test (kinds ++ entry ∷ []) value)) old mid new before one (λ key e. e) (λ key e. e)
    (λ key.
    let both : ℤ → ℤ = for_both first second key in
    let so_far = gated flat test kinds value in
    let here = cond (test entry) value (pos 0) in
    ap (λ (t : Bool). (pos 0 -ℤ both so_far) +ℤ both (cond t value (pos 0))) same
    ∙ back (both so_far) (both here) (both (so_far +ℤ (pos 0 -ℤ here)))
    (sym (for_both-add first second key so_far (pos 0 -ℤ here)) ∙ ap (λ (n : ℤ). both so_far +ℤ n) (for_both-minus first second key here))
    ∙ ap (λ (n : ℤ). pos 0 -ℤ both n) (gated-push flat test kinds entry value))
  where
    back : (a b c : ℤ) → c ≡ a +ℤ (pos 0 -ℤ b) → (pos 0 -ℤ a) +ℤ b ≡ pos 0 -ℤ c
    back a b c e = omega (arith, ints, e)

-- each of two groups gets an amount, if so
pub both_added : (first second : ℕ) (value : ℤ) (old mid new : List Amount)
    → AddAmounts (λ key. first ≡ key) (λ key. for_group first key value) old mid → AddAmounts (λ key. second ≡ key) (λ key. for_group second key value) mid new
    → AddAmounts (λ key. (first ≡ key) ⊎ (second ≡ key)) (λ key. for_both first second key value) old new
both_added first second value old mid new one other =
    adds_then (λ key. first ≡ key) (λ key. second ≡ key) (λ key. (first ≡ key) ⊎ (second ≡ key)) (λ key. for_group first key value)
    (λ key. for_group second key value) (λ key. for_both first second key value) old mid new one other (λ key e. inl e) (λ key e. inr e) (λ key. refl)

-- an entry that stands for none
abbrev pub no_entry : PartKind
no_entry = record { part = 0; kind = record { 0 = 0 } }
