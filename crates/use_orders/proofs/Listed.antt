-- What counts as listed, and marks.
use Rattle.use_orders.proofs.Common.{◌≡◌, ◌≢◌, ℕ, ◌<◌, List, [], ◌∷◌, ◌++◌, ◌⊎◌, inl, inr, sym, subst, arith, length, ◌∙◌, slice_set}
use Rattle.use_orders.proofs.Common.{get_or-set_same, get_or-set_other, append_assoc, range_with_len, length-range_with_len, get_or-range_with_len}
use Rattle.use_orders.proofs.Common.{In, Distinct, In-get_or, In-index, In-append_left, In-append_right, In-append_cases, Mark, listed_by, walk_mark}
use Rattle.std.proofs.Common.{get_or}
use Rattle.finite_sets.proofs.Distincts.{Distinct-from_places}

-- the numbers below n
pub In-numbers : (n c : ℕ) → c < n → In c (range_with_len 0 n)
In-numbers n c lt =
    let e : get_or (range_with_len 0 n) c 0 ≡ c = get_or-range_with_len 0 n c 0 lt ∙ (omega arith) in
    let P : ℕ → Type 0 = λ z. In z (range_with_len 0 n) in
    subst P e (In-get_or (range_with_len 0 n) c 0 (omega (arith, length-range_with_len 0 n)))

pub In-numbers_below : (n c : ℕ) → In c (range_with_len 0 n) → c < n
In-numbers_below n c h =
    let r = In-index c (range_with_len 0 n) h in
    let lt : r.0 < n = omega (arith, r.1.0, length-range_with_len 0 n) in
    omega (arith, r.1.1 0, get_or-range_with_len 0 n r.0 0 lt, lt)

pub Distinct-numbers : (n : ℕ) → Distinct (range_with_len 0 n)
Distinct-numbers n = Distinct-from_places (range_with_len 0 n) (λ i j d lt in_j e.
    let len = length-range_with_len 0 n in
    omega (arith, e, get_or-range_with_len 0 n i d (omega (arith, lt, in_j, len)), get_or-range_with_len 0 n j d (omega (arith, in_j, len))))

-- an old cell counts as listed
pub In-old : (first : ℕ) (order : List ℕ) (c : ℕ) → c < first → In c (listed_by first order)
In-old first order c lt = In-append_left c (range_with_len 0 first) order (In-numbers first c lt)

pub In-order : (first : ℕ) (order : List ℕ) (c : ℕ) → In c order → In c (listed_by first order)
In-order first order c h = In-append_right c (range_with_len 0 first) order h

-- what is listed is old or in the order
pub In-listed_cases : (first : ℕ) (order : List ℕ) (c : ℕ) → In c (listed_by first order) → (c < first) ⊎ In c order
In-listed_cases first order c h =
    elim (In-append_cases c (range_with_len 0 first) order h) [ inl k ↦ inl (In-numbers_below first c k) | inr k ↦ inr k ]

-- one more is listed
pub listed_by-push : (first : ℕ) (order : List ℕ) (c : ℕ) → listed_by first (order ++ c ∷ []) ≡ listed_by first order ++ c ∷ []
listed_by-push first order c = sym (append_assoc (range_with_len 0 first) order (c ∷ []))

-- the mark that was set, and the others
pub walk_mark-set_same : (marks : List Mark) (c : ℕ) (m : Mark) → c < length marks → walk_mark (slice_set marks c m) c ≡ m
walk_mark-set_same marks c m lt = get_or-set_same marks c m _ lt

pub walk_mark-set_other : (marks : List Mark) (c d : ℕ) (m : Mark) → d ≢ c → walk_mark (slice_set marks c m) d ≡ walk_mark marks d
walk_mark-set_other marks c d m other = get_or-set_other marks c d m _ other
