-- Branches that lead to children, one behind the other.
use Rattle.element_tree.proofs.Common.{◌≡◌, ◌≢◌, ℕ, zero, suc, ◌<◌, ◌≤◌, ◌+◌, Some, ◌⊎◌, List, [], ◌∷◌, ◌++◌, length, get_or, set, take, All, inl}
use Rattle.element_tree.proofs.Common.{inr, refl, sym, ◌∙◌, ap, subst, arith, IsPermutation, slice_get, sum_by, range_with_len, cases_lt}
use Rattle.element_tree.proofs.Common.{get_or-set_same, get_or-set_other, length-range_with_len, get_or-range_with_len, fill_by_all, sum_by-cons}
use Rattle.element_tree.proofs.Common.{Branch, AreSteps, size_at, HaveRankSteps}
use Rattle.std.specs.List.{AllPairs}
use Rattle.std.proofs.lemmas.List.Sums.{sum_by_more_le}
use Rattle.std.proofs.lemmas.List.Sorted.{sum_by-IsPermutation, All-permutation, length_permutation}
use Rattle.name_index.proofs.FiniteSets.Pairs.{AllPairs-permutation}
use Rattle.name_index.proofs.FiniteSets.Sums.{sum_by-map}

-- one more branch
pub AreSteps-push : (size : ℕ → ℕ) (start : ℕ) (children : List ℕ) (branches : List Branch) (child : ℕ) (branch : Branch)
    → AreSteps size start children branches
    → branch.child ≡ child → branch.step ≡ start + sum_by size children → AreSteps size start (children ++ child ∷ []) (branches ++ branch ∷ [])
AreSteps-push size start [] [] child branch h e s = (e, omega (arith, s), tt)
AreSteps-push size start [] (b ∷ branches) child branch h e s = absurd h
AreSteps-push size start (c ∷ children) [] child branch h e s = absurd h
AreSteps-push size start (c ∷ children) (b ∷ branches) child branch h e s =
    (h.0, h.1, AreSteps-push size (start + size c) children branches child branch h.2 e (omega (arith, s, sum_by-cons size c children)))

pub AreSteps-long : (size : ℕ → ℕ) (start : ℕ) (children : List ℕ) (branches : List Branch) → AreSteps size start children branches
    → length branches ≡ length children
AreSteps-long size start [] [] h = refl
AreSteps-long size start [] (b ∷ branches) h = absurd h
AreSteps-long size start (c ∷ children) [] h = absurd h
AreSteps-long size start (c ∷ children) (b ∷ branches) h = let more = AreSteps-long size (start + size c) children branches h.2 in omega arith

-- where a branch leads
pub AreSteps-child : (size : ℕ → ℕ) (start : ℕ) (children : List ℕ) (branches : List Branch) (k d : ℕ) (branch : Branch) → AreSteps size start children branches
    → slice_get branches k ≡ Some branch → branch.child ≡ get_or children k d
AreSteps-child size start [] [] k d branch h e = cc
AreSteps-child size start [] (b ∷ branches) k d branch h e = absurd h
AreSteps-child size start (c ∷ children) [] k d branch h e = absurd h
AreSteps-child size start (c ∷ children) (b ∷ branches) zero d branch h e = let same : b ≡ branch = cc in ap (λ (z : Branch). z.child) (sym same) ∙ h.0
AreSteps-child size start (c ∷ children) (b ∷ branches) (suc k) d branch h e = AreSteps-child size (start + size c) children branches k d branch h.2 e

-- a branch with another rank
pub AreSteps-set : (size : ℕ → ℕ) (start : ℕ) (children : List ℕ) (branches : List Branch) (k : ℕ) (none branch : Branch)
    → AreSteps size start children branches
    → branch.child ≡ (get_or branches k none).child → branch.step ≡ (get_or branches k none).step → AreSteps size start children (set branches k branch)
AreSteps-set size start [] [] k none branch h c s = h
AreSteps-set size start [] (b ∷ branches) k none branch h c s = absurd h
AreSteps-set size start (child ∷ children) [] k none branch h c s = h
AreSteps-set size start (child ∷ children) (b ∷ branches) zero none branch h c s = (c ∙ h.0, s ∙ h.1, h.2)
AreSteps-set size start (child ∷ children) (b ∷ branches) (suc k) none branch h c s =
    (h.0, h.1, AreSteps-set size (start + size child) children branches k none branch h.2 c s)

-- a sum over a list by its numbers
pub sum_by_numbers : (size : ℕ → ℕ) (children : List ℕ) → sum_by (size_at size children) (range_with_len 0 (length children)) ≡ sum_by size children
sum_by_numbers size children =
    let whole = fill_by_all (λ k. get_or children k 0) children (length children) 0 refl (λ k h. refl) in
    sym (ap (sum_by size) whole ∙ sum_by-map size (λ k. get_or children k 0) (range_with_len 0 (length children)))

-- The numbers of the children in some order.
pub record AreNumbers (children numbers : List ℕ) : Type 0 where
  pub is : IsPermutation (range_with_len 0 (length children)) numbers

pub number_within : (children numbers : List ℕ) → AreNumbers children numbers → All (λ k. k < length children) numbers
number_within children numbers are =
    All-permutation (λ k. k < length children) (range_with_len 0 (length children)) numbers are.is
    (λ k d h. let long = length-range_with_len 0 (length children) in let at = get_or-range_with_len 0 (length children) k d (omega arith) in omega arith)

pub numbers_long : (children numbers : List ℕ) → AreNumbers children numbers → length numbers ≡ length children
numbers_long children numbers are = length_permutation (range_with_len 0 (length children)) numbers are.is ∙ length-range_with_len 0 (length children)

pub numbers_apart : (children numbers : List ℕ) → AreNumbers children numbers → AllPairs ◌≢◌ numbers
numbers_apart children numbers are =
    AllPairs-permutation ◌≢◌ (λ a b apart e. apart (sym e)) (range_with_len 0 (length children)) numbers are.is
    (λ i j d less h e.
    let long = length-range_with_len 0 (length children) in
    let first = get_or-range_with_len 0 (length children) i d (omega arith) in
    let second = get_or-range_with_len 0 (length children) j d (omega arith) in
    omega arith)

-- the sum so far and the next are within the whole
pub numbers_sum : (size : ℕ → ℕ) (children numbers : List ℕ) (i : ℕ) → AreNumbers children numbers → i < length numbers
    → sum_by (size_at size children) (take i numbers) + size_at size children (get_or numbers i 0) ≤ sum_by size children
numbers_sum size children numbers i are h =
    let part = sum_by_more_le (size_at size children) numbers i 0 h in
    let whole = sum_by-IsPermutation (size_at size children) (range_with_len 0 (length children)) numbers are.is in
    let same = sum_by_numbers size children in
    omega arith

-- one more branch has its step in rank
pub rank_steps_more : (size : ℕ → ℕ) (children numbers : List ℕ) (i : ℕ) (branches : List Branch) (branch : Branch) → AreNumbers children numbers
    → i < length numbers → length branches ≡ length children → HaveRankSteps size children numbers i branches
    → branch.rank_step ≡ suc (sum_by (size_at size children) (take i numbers))
    → HaveRankSteps size children numbers (i + 1) (set branches (get_or numbers i 0) branch)
rank_steps_more size children numbers i branches branch are h long steps e place none fits = step (cases_lt place i)
  where
    step : (place < i) ⊎ (i ≤ place)
        → (get_or (set branches (get_or numbers i 0) branch) (get_or numbers place 0) none).rank_step ≡ suc
        (sum_by (size_at size children) (take place numbers))
    step (inl before) =
        ap (λ (z : Branch). z.rank_step) (get_or-set_other branches (get_or numbers i 0) (get_or numbers place 0) branch none
        (numbers_apart children numbers are place i 0 before h))
        ∙ steps place none before
    step (inr after) =
        let same : i ≡ place = omega arith in
        let within = number_within children numbers are i 0 h in
        subst (λ z. (get_or (set branches (get_or numbers i 0) branch) (get_or numbers z 0) none).rank_step ≡ suc
        (sum_by (size_at size children) (take z numbers))) same
        (ap (λ (z : Branch). z.rank_step) (get_or-set_same branches (get_or numbers i 0) branch none (omega arith)) ∙ e)
