-- The sizes before a branch in the order of the names are those of the branches with lesser names.
use Rattle.element_tree.proofs.Common.{◌≡◌, ◌≢◌, ℕ, zero, suc, ◌<◌, ◌≤◌, ◌+◌, Bool, true, false, cond, Option, Some, None, ◌⊎◌, List, [], ◌∷◌}
use Rattle.element_tree.proofs.Common.{length, get_or, map, take, inl, inr, refl, sym, ◌∙◌, ap, arith, slice_get, sum_by, range_with_len, IsSorted}
use Rattle.element_tree.proofs.Common.{cases_lt, get_or_default, length-map, get_or-map, length-range_with_len, get_or-range_with_len, fill_by_all}
use Rattle.element_tree.proofs.Common.{sum_by-cons, sum-map, get_or_from_slice_get, slice_get_within, Ordering, Less, Equal, Greater, is_lt}
use Rattle.element_tree.proofs.Common.{ordering_reverse, In, Distinct, Distinct-places, slice_get-below, UseRec, element_cmp, Branch, Link}
use Rattle.element_tree.proofs.Common.{links_from, AreSteps, AreBranchesOf, lesser, size_at, HaveRankSteps}
use Rattle.std.proofs.lemmas.List.Sorted.{sum_by-IsPermutation, Contains-permutation, ranks_by, sorted_far}
use Rattle.element_tree.specs.steps.NameOrder.{id_at}
use Rattle.element_tree.proofs.NameOrders.{element_cmp_total, element_cmp-Equal}
use Rattle.element_tree.proofs.Growth.{link_at, length-links_from}
use Rattle.element_tree.proofs.Steps.{AreSteps-long, AreSteps-child, AreNumbers, number_within, numbers_long, numbers_apart}

-- the name of a use that there is
id_at-found : (uses : List UseRec) (k : ℕ) (used : UseRec) → slice_get uses k ≡ Some used → id_at uses k ≡ used.id
unfolding id_at
id_at-found uses k used h = ap (λ (o : Option UseRec). elim o [ Some found ↦ found.id | None ↦ [] ]) h

-- where those and only those in front pass a test, their weights are the sum
sum_in_front : (test : ℕ → Bool) (w : ℕ → ℕ) (numbers : List ℕ) (place : ℕ) → ((k : ℕ) → k < place → k < length numbers → test (get_or numbers k 0) ≡ true)
    → ((k : ℕ) → place ≤ k → k < length numbers → test (get_or numbers k 0) ≡ false)
    → sum_by (λ k. cond (test k) (w k) 0) numbers ≡ sum_by w (take place numbers)
sum_in_front test w [] zero before behind = refl
sum_in_front test w [] (suc place) before behind = refl
sum_in_front test w (n ∷ numbers) zero before behind =
    let more = sum_in_front test w numbers zero (λ k h. absurd (omega arith)) (λ k h fits. behind (suc k) (omega arith) (omega arith)) in
    let here : cond (test n) (w n) 0 ≡ 0 = ap (λ t. cond t (w n) 0) (behind 0 (omega arith) (omega arith)) in
    omega (arith, more, here, sum_by-cons (λ k. cond (test k) (w k) 0) n numbers)
sum_in_front test w (n ∷ numbers) (suc place) before behind =
    let more = sum_in_front test w numbers place (λ k h fits. before (suc k) (omega arith) (omega arith))
    (λ k h fits. behind (suc k) (omega arith) (omega arith)) in
    let here : cond (test n) (w n) 0 ≡ w n = ap (λ t. cond t (w n) 0) (before 0 (omega arith) (omega arith)) in
    omega (arith, more, here, sum_by-cons (λ k. cond (test k) (w k) 0) n numbers, sum_by-cons w n (take place numbers))

-- A link is of the use and the branch with its number.
pub record IsNumbered (start : ℕ) (uses : List UseRec) (row : List Branch) (link : Link) : Type 0 where
  pub number : ℕ
  pub at : link.at ≡ start + number
  pub use_of : slice_get uses number ≡ Some link.used
  pub branch_of : slice_get row number ≡ Some link.branch

pub link_numbered : (start : ℕ) (uses : List UseRec) (row : List Branch) (link : Link) → In link (links_from start uses row) → IsNumbered start uses row link
link_numbered start [] row link h = absurd h
link_numbered start (u ∷ uses) [] link h = absurd h
link_numbered start (u ∷ uses) (b ∷ row) link (inl e) =
    let place : start ≡ link.at = ap (λ (z : Link). z.at) e in
    record { number = 0; at = omega arith; use_of = ap (λ (z : Link). Some z.used) e; branch_of = ap (λ (z : Link). Some z.branch) e }
link_numbered start (u ∷ uses) (b ∷ row) link (inr h) =
    let more = link_numbered (suc start) uses row link h in
    let place = more.at in
    record { number = suc more.number; at = omega arith; use_of = more.use_of; branch_of = more.branch_of }

-- the weight of a number
abbrev weight_at : (ℕ → ℕ) → List UseRec → List ℕ → List ℕ → ℕ → ℕ
weight_at size uses children id k = cond (is_lt (element_cmp (id_at uses k) id)) (size_at size children k) 0

-- and of a link
abbrev weight_of : (ℕ → ℕ) → List ℕ → Link → ℕ
weight_of size id link = cond (is_lt (element_cmp link.used.id id)) (size link.branch.child) 0

get_or-map_link : (f : Link → ℕ) (links : List Link) (k : ℕ) (link : Link) → slice_get links k ≡ Some link → get_or (map f links) k 0 ≡ f link
get_or-map_link f [] k link h = cc
get_or-map_link f (x ∷ links) zero link h = let e : x ≡ link = cc in ap f e
get_or-map_link f (x ∷ links) (suc k) link h = get_or-map_link f links k link h

-- the sizes of the uses with lesser names, by their numbers
lesser_by_number : (size : ℕ → ℕ) (uses : List UseRec) (children : List ℕ) (row : List Branch) (id : List ℕ) → length children ≡ length uses
    → AreSteps size 1 children row → lesser size id (links_from 0 uses row) ≡ sum_by (weight_at size uses children id) (range_with_len 0 (length children))
lesser_by_number size uses children row id long steps =
    let links = links_from 0 uses row in
    let n = length children in
    let long_row = AreSteps-long size 1 children row steps in
    let long_links = length-links_from 0 uses row (omega arith) in
    let whole : map (weight_of size id) links ≡ map (weight_at size uses children id) (range_with_len 0 n) =
    fill_by_all (weight_at size uses children id) (map (weight_of size id) links) n 0
    (length-map links (weight_of size id) ∙ (omega arith))
    (λ k h. weight_same k h) in
    sym (sum-map (weight_of size id) links) ∙ ap (λ z. sum_by (λ x. x) z) whole ∙ sum-map (weight_at size uses children id) (range_with_len 0 n)
  where
    weight_same : (k : ℕ) → k < length children → get_or (map (weight_of size id) (links_from 0 uses row)) k 0 ≡ weight_at size uses children id k
    weight_same k h =
        let used = slice_get-below uses k (omega arith) in
        let long_row = AreSteps-long size 1 children row steps in
        let branch = slice_get-below row k (omega arith) in
        let link : Link = record { at = k; used = used.0; branch = branch.0 } in
        let there = link_at 0 uses row k k used.0 branch.0 used.1 branch.1 (omega arith) in
        let name = id_at-found uses k used.0 used.1 in
        let child = AreSteps-child size 1 children row k 0 branch.0 steps branch.1 in
        get_or-map_link (weight_of size id) (links_from 0 uses row) k link there
        ∙ ap (λ z. cond (is_lt (element_cmp z id)) (size (branch.0).child) 0) (sym name)
        ∙ ap (λ z. cond (is_lt (element_cmp (id_at uses k) id)) (size z) 0) child

names_apart : (uses : List UseRec) (i j : ℕ) → Distinct (map (λ used. used.id) uses) → i < length uses → j < length uses → i ≢ j
    → id_at uses i ≡ id_at uses j → ⊥
names_apart uses i j names h k apart e = step (cases_lt i j)
  where
    name : (n : ℕ) → n < length uses → id_at uses n ≡ get_or (map (λ (used : UseRec). used.id) uses) n []
    name n fits =
        let found = slice_get-below uses n fits in
        id_at-found uses n found.0 found.1 ∙ ap (λ (z : UseRec). z.id) (sym (get_or_from_slice_get uses n found.0 found.0 found.1))
        ∙ sym (get_or-map (λ (used : UseRec). used.id) uses n found.0 [] fits)

    places : (a b : ℕ) → a < b → b < length uses → id_at uses a ≡ id_at uses b → ⊥
    places a b less fits same =
        Distinct-places (map (λ (used : UseRec). used.id) uses) a b [] names less
        (let long = length-map uses (λ (used : UseRec). used.id) in omega arith) (sym (name a (omega arith)) ∙ same ∙ name b fits)

    step : (i < j) ⊎ (j ≤ i) → ⊥
    step (inl less) = places i j less k e
    step (inr more) = places j i (omega arith) h (sym e)

-- names that aren't the same stand one way round
less_name : (a b : List ℕ) → (a ≡ b → ⊥) → is_lt (element_cmp b a) ≡ false → is_lt (element_cmp a b) ≡ true
less_name a b apart h = step (element_cmp a b) refl
  where
    step : (r : Ordering) → element_cmp a b ≡ r → is_lt r ≡ true
    step Less e = refl
    step Equal e = absurd (apart (element_cmp-Equal a b e))
    step Greater e =
        let back : element_cmp b a ≡ Less = element_cmp_total.antisymm b a ∙ ap ordering_reverse e in
        let test : is_lt (element_cmp b a) ≡ true = ap is_lt back in
        absurd (let wrong : true ≡ false = sym test ∙ h in cc)

module _ (size : ℕ → ℕ) (uses : List UseRec) (children numbers : List ℕ) (long : length children ≡ length uses)
    (names : Distinct (map (λ used. used.id) uses)) (are : AreNumbers children numbers)
    (sorted : IsSorted (λ a b. element_cmp (id_at uses a) (id_at uses b)) numbers) where
  -- the sizes before a place are those of the numbers with lesser names
  before_place : (place : ℕ) → place < length numbers
      → sum_by (weight_at size uses children (id_at uses (get_or numbers place 0))) numbers ≡ sum_by (size_at size children) (take place numbers)
  before_place place h = sum_in_front (λ k. is_lt (element_cmp (id_at uses k) (id_at uses (get_or numbers place 0)))) (size_at size children) numbers place
      before behind
    where
      far : (i j : ℕ) → i ≤ j → j < length numbers → is_lt (element_cmp (id_at uses (get_or numbers j 0)) (id_at uses (get_or numbers i 0))) ≡ false
      far i j less fits =
          sorted_far (λ a b. is_lt (element_cmp (id_at uses a) (id_at uses b)))
          (ranks_by element_cmp_total (id_at uses)) numbers sorted i j 0 less fits

      behind : (k : ℕ) → place ≤ k → k < length numbers → is_lt (element_cmp (id_at uses (get_or numbers k 0)) (id_at uses (get_or numbers place 0))) ≡ false
      behind k more fits = far place k more fits

      before : (k : ℕ) → k < place → k < length numbers → is_lt (element_cmp (id_at uses (get_or numbers k 0)) (id_at uses (get_or numbers place 0))) ≡ true
      before k less fits =
          let one = number_within children numbers are k 0 fits in
          let other = number_within children numbers are place 0 h in
          less_name (id_at uses (get_or numbers k 0)) (id_at uses (get_or numbers place 0))
          (names_apart uses (get_or numbers k 0) (get_or numbers place 0) names (omega arith) (omega arith)
          (numbers_apart children numbers are k place 0 less h))
          (far k place (omega arith) h)

  -- where a number stands
  place_of : (k : ℕ) → k < length children → (place : ℕ) × ((place < length numbers) × (get_or numbers place 0 ≡ k))
  place_of k h =
      let n = length children in
      let fits : k < length (range_with_len 0 n) = (let long_range = length-range_with_len 0 n in omega arith) in
      let at = get_or-range_with_len 0 n k k h in
      let found = Contains-permutation (range_with_len 0 n) numbers k are.is (k, fits, at ∙ (omega arith)) in
      (found.0, (found.1, get_or_default numbers found.0 0 k found.1 ∙ found.2))

  -- the steps in rank are those of the links
  pub ranks_are : (row : List Branch) → AreSteps size 1 children row → HaveRankSteps size children numbers (length children) row
      → AreBranchesOf size uses children row
  ranks_are row steps ranks = record { steps = steps; ranks = rank }
    where
      rank : (link : Link) → In link (links_from 0 uses row) → link.branch.rank_step ≡ suc (lesser size link.used.id (links_from 0 uses row))
      rank link h =
          let source = link_numbered 0 uses row link h in
          let k = source.number in
          let within : k < length children = (let fits = slice_get_within uses k link.used source.use_of in omega arith) in
          let place = place_of k within in
          let branch : get_or row (get_or numbers place.0 0) link.branch ≡ link.branch =
          ap (λ z. get_or row z link.branch) place.1.1 ∙ get_or_from_slice_get row k link.branch link.branch source.branch_of in
          let id : id_at uses (get_or numbers place.0 0) ≡ link.used.id = ap (id_at uses) place.1.1 ∙ id_at-found uses k link.used source.use_of in
          let step = ranks place.0 link.branch (let many = numbers_long children numbers are in omega (arith, place.1.0)) in
          let sum : sum_by (weight_at size uses children link.used.id) numbers ≡ sum_by (size_at size children) (take place.0 numbers) =
          ap (λ z. sum_by (weight_at size uses children z) numbers) (sym id) ∙ before_place place.0 place.1.0 in
          let moved = sum_by-IsPermutation (weight_at size uses children link.used.id) (range_with_len 0 (length children)) numbers are.is in
          let by_number = lesser_by_number size uses children row link.used.id long steps in
          ap (λ (z : Branch). z.rank_step) (sym branch) ∙ step ∙ ap suc (sym sum ∙ moved ∙ sym by_number)
