-- What a walk under way keeps.
use Rattle.element_tree.proofs.Common.{◌≡◌, ◌⊎◌, ℕ, zero, suc, ◌<◌, ◌≤◌, ◌-◌, ◌==◌, true, false, cond, Option, Some, None, List, [], ◌∷◌, ◌++◌}
use Rattle.element_tree.proofs.Common.{length, get_or, set, take, drop, inl, inr, refl, sym, ◌∙◌, ap, subst, arith, common_steps, get_or-set_same}
use Rattle.element_tree.proofs.Common.{get_or-set_other, list_any, option_or, eqb-true, cases_lt, In, Distinct, length-distinct, WalkFault, NoCell}
use Rattle.element_tree.proofs.Common.{Cycle, Mark, New, Open, Done, Graph, uses_of, uses_left, mark_of, IsUnderWay}
use Rattle.std.proofs.Math.Seq.{drop-cons, take-suc}
use Rattle.std.proofs.Math.ListN.{length-set}
use Rattle.std.proofs.lemmas.Bool.{cases_Bool}
use Rattle.name_index.proofs.FiniteSets.Searches.{list_any-fails, list_any-passes}
use Rattle.element_tree.specs.steps.Walks.{fault_from, fault_below, walk_fault, IsDoneIn, IsClosed}
use Rattle.element_tree.specs.steps.UnderWay.{fault_left, IsWaiting, IsOpen}

-- ---- tests of a list

not_among : (x : ℕ) (xs : List ℕ) → (In x xs → ⊥) → list_any (λ other. other == x) xs ≡ false
not_among x xs none = list_any-fails (λ other. other == x) xs (λ y here. elim (cases_Bool (y == x)) [
  | inl is ↦ absurd (none (subst (λ (z : ℕ). In z xs) (eqb-true y x is) here))
  | inr fails ↦ fails
])

among : (x : ℕ) (xs : List ℕ) → In x xs → list_any (λ other. other == x) xs ≡ true
among x xs here = list_any-passes (λ other. other == x) xs x here (eqb-same x x refl)
  where
    eqb-same : (y x : ℕ) → y ≡ x → (y == x) ≡ true
    eqb-same y x e = grind (arith, common_steps)

-- ---- nothing is left to find below a cell that is done

fault_from-none : (below : ℕ → Option WalkFault) (open_cells : List ℕ) (cell at : ℕ) (uses : List (Option ℕ)) (done : List ℕ) → IsDoneIn done uses
    → ((x : ℕ) → In x done → below x ≡ None) → ((x : ℕ) → In x done → In x open_cells → ⊥) → fault_from below open_cells cell at uses ≡ None
fault_from-none below open_cells cell at [] done h none apart = refl
fault_from-none below open_cells cell at (None ∷ uses) done h none apart = absurd h
fault_from-none below open_cells cell at (Some x ∷ uses) done h none apart =
    let test = not_among x open_cells (apart x h.0) in
    let more = fault_from-none below open_cells cell (suc at) uses done h.1 none apart in
    ap (λ t. cond t (Some (Cycle (record { cell = cell; at = at }))) (option_or (below x) (fault_from below open_cells cell (suc at) uses))) test
    ∙ ap (λ f. option_or f (fault_from below open_cells cell (suc at) uses)) (none x h.0)
    ∙ more

pub done-none : (graph : Graph) (done : List ℕ) → IsClosed graph done → Distinct done → (depth : ℕ) (open_cells : List ℕ) (cell : ℕ) → In cell done
    → ((x : ℕ) → In x done → In x open_cells → ⊥) → fault_below depth graph (cell ∷ open_cells) cell ≡ None
unfolding fault_below
done-none graph done closed once zero open_cells cell h apart = refl
done-none graph [] closed once (suc depth) open_cells cell h apart = absurd h
done-none graph (c ∷ done) closed once (suc depth) open_cells cell (inl e) apart =
    let apart_here : (x : ℕ) → In x done → In x (c ∷ open_cells) → ⊥ =
    λ x k. elim [ inl same ↦ once.0 (subst (λ z. In z done) (sym same) k) | inr l ↦ apart x (inr k) l ] in
    let P : ℕ → Type 0 = λ z. fault_below (suc depth) graph (z ∷ open_cells) z ≡ None in
    let here : P c = fault_from-none (λ x. fault_below depth graph (x ∷ c ∷ open_cells) x) (c ∷ open_cells) c 0 (uses_of graph c) done closed.0
    (λ x k. done-none graph done closed.1 once.1 depth (c ∷ open_cells) x k apart_here) apart_here in
    subst P e here
done-none graph (c ∷ done) closed once (suc depth) open_cells cell (inr h) apart =
    done-none graph done closed.1 once.1 (suc depth) open_cells cell h (λ x k l. apart x (inr k) l)

-- ---- uses that lead to cells that are done

IsDoneIn-more : (done : List ℕ) (cell : ℕ) (uses : List (Option ℕ)) → IsDoneIn done uses → IsDoneIn (cell ∷ done) uses
IsDoneIn-more done cell [] h = tt
IsDoneIn-more done cell (None ∷ uses) h = h
IsDoneIn-more done cell (Some x ∷ uses) h = (inr h.0, IsDoneIn-more done cell uses h.1)

IsDoneIn-push : (done : List ℕ) (uses : List (Option ℕ)) (x : ℕ) → IsDoneIn done uses → In x done → IsDoneIn done (uses ++ (Some x ∷ []))
IsDoneIn-push done [] x h k = (k, tt)
IsDoneIn-push done (None ∷ uses) x h k = h
IsDoneIn-push done (Some y ∷ uses) x h k = (h.0, IsDoneIn-push done uses x h.1 k)

-- ---- the others keep their next use

next-other : (next : List ℕ) (c x v : ℕ) (st : List ℕ) → In x st → (In c st → ⊥) → get_or (set next c v) x 0 ≡ get_or next x 0
next-other next c x v st h none = get_or-set_other next c x v 0 (λ e. none (subst (λ z. In z st) e h))

IsWaiting-set : (graph : Graph) (next done : List ℕ) (c v : ℕ) (st : List ℕ) (child : ℕ) → (In c st → ⊥) → IsWaiting graph next done child st
    → IsWaiting graph (set next c v) done child st
IsWaiting-set graph next done c v [] child none h = tt
IsWaiting-set graph next done c v (x ∷ st) child none (before, (taken, (ready, (low, more)))) =
    let e = sym (next-other next c x v (x ∷ st) (inl refl) none) in
    let A : ℕ → Type 0 = λ k. take k (uses_of graph x) ≡ before ++ (Some child ∷ []) in
    let B : ℕ → Type 0 = λ k. k ≤ length (uses_of graph x) in
    (before, (subst A e taken, (ready, (subst B e low, IsWaiting-set graph next done c v st x (λ k. none (inr k)) more))))

IsWaiting-more : (graph : Graph) (next done : List ℕ) (cell : ℕ) (st : List ℕ) (child : ℕ) → IsWaiting graph next done child st
    → IsWaiting graph next (cell ∷ done) child st
IsWaiting-more graph next done cell [] child h = tt
IsWaiting-more graph next done cell (x ∷ st) child (before, (taken, (ready, (low, more)))) =
    (before, (taken, (IsDoneIn-more done cell before ready, (low, IsWaiting-more graph next done cell st x more))))

fault_left-set : (graph : Graph) (next : List ℕ) (c v : ℕ) (st : List ℕ) → (In c st → ⊥) → fault_left graph (set next c v) st ≡ fault_left graph next st
fault_left-set graph next c v [] none = refl
fault_left-set graph next c v (x ∷ st) none =
    let e = next-other next c x v (x ∷ st) (inl refl) none in
    let more = fault_left-set graph next c v st (λ k. none (inr k)) in
    let f : ℕ → Option WalkFault = λ k. fault_from (λ child. fault_below (suc (length graph) - suc (length st)) graph (child ∷ x ∷ st) child)
    (x ∷ st) x k (drop k (uses_of graph x)) in
    ap (λ k. option_or (f k) (fault_left graph (set next c v) st)) e ∙ ap (λ o. option_or (f (get_or next x 0)) o) more

-- ---- one step

option_or-assoc : (a b c : Option WalkFault) → option_or (option_or a b) c ≡ option_or a (option_or b c)
option_or-assoc None b c = refl
option_or-assoc (Some f) b c = refl

module _ (graph : Graph) (root : ℕ) (marks : List Mark) (next : List ℕ) (c : ℕ) (st done : List ℕ) (w : IsUnderWay graph root marks next (c ∷ st) done) where
  at : ℕ
  at = get_or next c 0

  below : ℕ → Option WalkFault
  below = λ child. fault_below (suc (length graph) - suc (length st)) graph (child ∷ c ∷ st) child

  c_within : c < length graph
  c_within = w.open_within c (inl refl)

  apart : (x : ℕ) → In x done → In x (c ∷ st) → ⊥
  apart x h k = let a = w.marked_done x h in let b = w.marked_open x k in cc

  -- what is left, with the next use in front
  left_now : (first : Option ℕ) → get_or next c 0 < length (uses_of graph c) → get_or (uses_of graph c) (get_or next c 0) None ≡ first
      → walk_fault graph root
      ≡ option_or (fault_from (λ child. fault_below (suc (length graph) - suc (length st)) graph (child ∷ c ∷ st) child) (c ∷ st) c (get_or next c 0)
      (first ∷ drop (suc (get_or next c 0)) (uses_of graph c))) (fault_left graph next st)
  left_now first fits e =
      let split = drop-cons (uses_of graph c) (get_or next c 0) None fits in
      let f : List (Option ℕ) → Option WalkFault = λ us. option_or (fault_from (λ child. fault_below (suc (length graph) - suc (length st)) graph
      (child ∷ c ∷ st) child)
      (c ∷ st) c (get_or next c 0) us) (fault_left graph next st) in
      w.left ∙ ap f split ∙ ap (λ u. f (u ∷ drop (suc (get_or next c 0)) (uses_of graph c))) e

  pub fault_no_cell : get_or next c 0 < length (uses_of graph c) → get_or (uses_of graph c) (get_or next c 0) None ≡ None
      → walk_fault graph root ≡ Some (NoCell (record { cell = c; at = get_or next c 0 }))
  fault_no_cell fits e = left_now None fits e

  pub fault_cycle : (child : ℕ) → get_or next c 0 < length (uses_of graph c) → get_or (uses_of graph c) (get_or next c 0) None ≡ Some child
      → mark_of marks child ≡ Open → walk_fault graph root ≡ Some (Cycle (record { cell = c; at = get_or next c 0 }))
  fault_cycle child fits e open_mark =
      let test = among child (c ∷ st) (w.is_open child open_mark) in
      let rest = fault_from (λ child. fault_below (suc (length graph) - suc (length st)) graph (child ∷ c ∷ st) child) (c ∷ st) c (suc (get_or next c 0))
      (drop (suc (get_or next c 0)) (uses_of graph c)) in
      let b = fault_below (suc (length graph) - suc (length st)) graph (child ∷ c ∷ st) child in
      left_now (Some child) fits e
      ∙ ap (λ t. option_or (cond t (Some (Cycle (record { cell = c; at = get_or next c 0 }))) (option_or b rest)) (fault_left graph next st)) test

  -- a use that leads to a cell that is not open
  left_past : (child : ℕ) → get_or next c 0 < length (uses_of graph c) → get_or (uses_of graph c) (get_or next c 0) None ≡ Some child → (In child (c ∷ st) → ⊥)
      → walk_fault graph root
      ≡ option_or (fault_below (suc (length graph) - suc (length st)) graph (child ∷ c ∷ st) child) (fault_left graph (set next c (suc (get_or next c 0)))
      (c ∷ st))
  left_past child fits e none =
      let test = not_among child (c ∷ st) none in
      let f : ℕ → Option WalkFault = λ k. fault_from (λ child. fault_below (suc (length graph) - suc (length st)) graph (child ∷ c ∷ st) child) (c ∷ st) c k
      (drop k (uses_of graph c)) in
      let b = fault_below (suc (length graph) - suc (length st)) graph (child ∷ c ∷ st) child in
      let v = suc (get_or next c 0) in
      let here : get_or (set next c v) c 0 ≡ v = get_or-set_same next c v 0 (let l = w.long_next in let k = c_within in omega arith) in
      let others = fault_left-set graph next c v st (w.open_once.0) in
      left_now (Some child) fits e
      ∙ ap (λ t. option_or (cond t (Some (Cycle (record { cell = c; at = get_or next c 0 }))) (option_or b (f v))) (fault_left graph next st)) test
      ∙ option_or-assoc b (f v) (fault_left graph next st)
      ∙ ap (λ k. option_or b (option_or (f k) (fault_left graph next st))) (sym here)
      ∙ ap (λ o. option_or b (option_or (f (get_or (set next c v) c 0)) o)) (sym others)

  next_within : c < length next
  next_within = let l = w.long_next in let k = c_within in omega arith

  pub past_done : (child : ℕ) → get_or next c 0 < length (uses_of graph c) → get_or (uses_of graph c) (get_or next c 0) None ≡ Some child
      → mark_of marks child ≡ Done → IsUnderWay graph root marks (set next c (suc (get_or next c 0))) (c ∷ st) done
  past_done child fits e done_mark =
      let h = w.is_done child done_mark in
      let v = suc (get_or next c 0) in
      let here : get_or (set next c v) c 0 ≡ v = get_or-set_same next c v 0 next_within in
      let clean = done-none graph done w.closed w.done_once (suc (length graph) - suc (length st)) (c ∷ st) child h apart in
      let taken : take v (uses_of graph c) ≡ take (get_or next c 0) (uses_of graph c) ++ (Some child ∷ []) =
      take-suc (uses_of graph c) (get_or next c 0) None fits ∙ ap (λ u. take (get_or next c 0) (uses_of graph c) ++ (u ∷ [])) e in
      let ready : IsDoneIn done (take v (uses_of graph c)) = subst (IsDoneIn done) (sym taken)
      (IsDoneIn-push done (take (get_or next c 0) (uses_of graph c)) child w.stack.1.0 h) in
      let A : ℕ → Type 0 = λ k. k ≤ length (uses_of graph c) in
      let B : ℕ → Type 0 = λ k. IsDoneIn done (take k (uses_of graph c)) in
      let low : suc (get_or next c 0) ≤ length (uses_of graph c) = omega (arith, fits) in
      record {
        long = w.long;
        long_next = length-set next c v ∙ w.long_next;
        open_once = w.open_once;
        done_once = w.done_once;
        open_within = w.open_within;
        done_within = w.done_within;
        marked_open = w.marked_open;
        marked_done = w.marked_done;
        is_open = w.is_open;
        is_done = w.is_done;
        fresh = λ x inside new. get_or-set_other next c x v 0 (λ k. (let a = w.marked_open c (inl refl) in let b = ap (mark_of marks) k in cc))
            ∙ w.fresh x inside new;
        closed = w.closed;
        stack = (subst A (sym here) low, (subst B (sym here) ready, IsWaiting-set graph next done c v st c w.open_once.0 w.stack.1.1));
        left = left_past child fits e (apart child h) ∙ ap (λ o. option_or o (fault_left graph (set next c v) (c ∷ st))) clean;
        root_in = w.root_in;
      }

take-all : {X : Type 0} (xs : List X) (k : ℕ) → length xs ≤ k → take k xs ≡ xs
take-all xs k h = grind (arith, common_steps)

drop-all : {X : Type 0} (xs : List X) (k : ℕ) → length xs ≤ k → drop k xs ≡ []
drop-all xs k h = grind (arith, common_steps)

-- the cell that waited for one that is done now
woken : (graph : Graph) (next done : List ℕ) (c : ℕ) (st : List ℕ) → IsWaiting graph next done c st → IsOpen graph next (c ∷ done) st
woken graph next done c [] h = tt
woken graph next done c (x ∷ st) (before, (taken, (ready, (low, more)))) = (
  low,
  (
    subst (IsDoneIn (c ∷ done)) (sym taken) (IsDoneIn-push (c ∷ done) before c (IsDoneIn-more done c before ready) (inl refl)),
    IsWaiting-more graph next done c st x more,
  ),
)

same_or : (x y : ℕ) → (x ≡ y) ⊎ (x ≡ y → ⊥)
same_or x y = elim (cases_lt x y) [
  | inl less ↦ inr (λ e. omega arith)
  | inr least ↦ elim (cases_lt y x) [
    | inl less ↦ inr (λ e. omega arith)
    | inr most ↦ inl
        (omega arith)
  ]
]

-- ---- different cells are no more than there are cells

count_up : ℕ → List ℕ
count_up zero = []
count_up (suc n) = n ∷ count_up n

length-count_up : (n : ℕ) → length (count_up n) ≡ n
unfolding count_up
length-count_up zero = refl
length-count_up (suc n) = let more = length-count_up n in omega arith

In-count_up : (n x : ℕ) → x < n → In x (count_up n)
unfolding count_up
In-count_up zero x h = absurd (omega arith)
In-count_up (suc n) x h = elim (same_or n x) [ inl e ↦ inl e | inr differ ↦ inr (In-count_up n x (omega (arith, differ))) ]

pub few : (n : ℕ) (xs : List ℕ) → Distinct xs → ((x : ℕ) → In x xs → x < n) → length xs ≤ n
few n xs once within =
    let least = length-distinct xs (count_up n) once (λ x h. In-count_up n x (within x h)) in
    let e = length-count_up n in omega arith

mark-same : (marks : List Mark) (c x : ℕ) (m : Mark) → c ≡ x → c < length marks → mark_of (set marks c m) x ≡ m
mark-same marks c x m e h = ap (mark_of (set marks c m)) (sym e) ∙ get_or-set_same marks c m New h

mark-other : (marks : List Mark) (c x : ℕ) (m : Mark) → (c ≡ x → ⊥) → mark_of (set marks c m) x ≡ mark_of marks x
mark-other marks c x m differ = get_or-set_other marks c x m New (λ e. differ (sym e))

module _ (graph : Graph) (root : ℕ) (marks : List Mark) (next : List ℕ) (c : ℕ) (st done : List ℕ) (w : IsUnderWay graph root marks next (c ∷ st) done) where
  pub past_new : (child : ℕ) → get_or next c 0 < length (uses_of graph c) → get_or (uses_of graph c) (get_or next c 0) None ≡ Some child
      → mark_of marks child ≡ New → child < length graph
      → IsUnderWay graph root (set marks child Open) (set next c (suc (get_or next c 0))) (child ∷ c ∷ st) done
  unfolding fault_below
  past_new child fits e new within =
      let n = length graph in
      let v = suc (get_or next c 0) in
      let inside : c < length next = (let l = w.long_next in let k = w.open_within c (inl refl) in omega arith) in
      let marked : child < length marks = (let l = w.long in omega arith) in
      let here : get_or (set next c v) c 0 ≡ v = get_or-set_same next c v 0 inside in
      let closed_to : (x : ℕ) → In x (c ∷ st) → child ≡ x → ⊥ = λ x h same. (let a = w.marked_open x h in let b = ap (mark_of marks) same in cc) in
      let none : In child (c ∷ st) → ⊥ = λ h. closed_to child h refl in
      let undone : (x : ℕ) → In x done → child ≡ x → ⊥ = λ x h same. (let a = w.marked_done x h in let b = ap (mark_of marks) same in cc) in
      let start : get_or (set next c v) child 0 ≡ 0 =
      get_or-set_other next c child v 0 (λ same. closed_to c (inl refl) same) ∙ w.fresh child within new in
      let taken : take v (uses_of graph c) ≡ take (get_or next c 0) (uses_of graph c) ++ (Some child ∷ []) =
      take-suc (uses_of graph c) (get_or next c 0) None fits ∙ ap (λ u. take (get_or next c 0) (uses_of graph c) ++ (u ∷ [])) e in
      let low : suc (get_or next c 0) ≤ length (uses_of graph c) = omega (arith, fits) in
      let T : ℕ → Type 0 = λ k. take k (uses_of graph c) ≡ take (get_or next c 0) (uses_of graph c) ++ (Some child ∷ []) in
      let A : ℕ → Type 0 = λ k. k ≤ length (uses_of graph c) in
      let B : ℕ → Type 0 = λ k. k ≤ length (uses_of graph child) in
      let D : ℕ → Type 0 = λ k. IsDoneIn done (take k (uses_of graph child)) in
      let no : 0 ≤ length (uses_of graph child) = omega arith in
      let room : length (c ∷ st) ≤ n = few n (c ∷ st) w.open_once w.open_within in
      let depth : suc n - suc (length st) ≡ suc (suc n - suc (length (c ∷ st))) = omega (arith, room) in
      let F : ℕ → Option WalkFault = λ k. fault_from (λ x. fault_below (suc n - suc (length (c ∷ st))) graph (x ∷ child ∷ c ∷ st) x) (child ∷ c ∷ st) child k
      (drop k (uses_of graph child)) in
      let opened : fault_below (suc n - suc (length st)) graph (child ∷ c ∷ st) child ≡ F 0 = ap (λ d. fault_below d graph (child ∷ c ∷ st) child) depth in
      record {
        long = length-set marks child Open ∙ w.long;
        long_next = length-set next c v ∙ w.long_next;
        open_once = (none, w.open_once);
        done_once = w.done_once;
        open_within = λ x. elim [ inl same ↦ subst (λ z. z < length graph) same within | inr h ↦ w.open_within x h ];
        done_within = w.done_within;
        marked_open = λ x. elim [
          | inl same ↦ mark-same marks child x Open same marked
          | inr h ↦ mark-other marks child x Open (closed_to x h)
              ∙ w.marked_open x h
        ];
        marked_done = λ x h. mark-other marks child x Open (undone x h) ∙ w.marked_done x h;
        is_open = λ x m. elim (same_or child x) [ inl same ↦ inl same | inr differ ↦ inr (w.is_open x (sym (mark-other marks child x Open differ) ∙ m)) ];
        is_done = λ x m. elim (same_or child x) [
          | inl same ↦ absurd (let a = mark-same marks child x Open same marked in cc)
          | inr differ ↦ w.is_done x (sym
              (mark-other marks child x Open differ) ∙ m)
        ];
        fresh = λ x h m. elim (same_or child x) [
          | inl same ↦ absurd (let a = mark-same marks child x Open same marked in cc)
          | inr differ ↦
              (let old : mark_of marks x ≡ New = sym (mark-other marks child x Open differ) ∙ m in
              get_or-set_other next c x v 0 (λ k. (let a = w.marked_open c (inl refl) in let b = ap (mark_of marks) k in cc)) ∙ w.fresh x h old)
        ];
        closed = w.closed;
        stack = (
          subst B (sym start) no,
          (
            subst D (sym start) tt,
            (
              take (get_or next c 0) (uses_of graph c),
              (
                subst T (sym here) taken,
                (
                  w.stack.1.0,
                  (
                    subst A
                        (sym here) low,
                    IsWaiting-set graph next done c v st c w.open_once.0 w.stack.1.1,
                  ),
                ),
              ),
            ),
          ),
        );
        left = left_past graph root marks next c st done w child fits e none
            ∙ ap (λ o. option_or o (fault_left graph (set next c v) (c ∷ st))) (opened ∙ ap F (sym start));
        root_in = elim w.root_in [ inl h ↦ inl (inr h) | inr h ↦ inr h ];
      }

  pub finished : length (uses_of graph c) ≤ get_or next c 0 → IsUnderWay graph root (set marks c Done) next st (c ∷ done)
  finished all =
      let n = length graph in
      let within : c < length graph = w.open_within c (inl refl) in
      let marked : c < length marks = (let l = w.long in omega arith) in
      let apart : (x : ℕ) → In x done → c ≡ x → ⊥ = λ x h same. (let a = w.marked_done x h in let b = w.marked_open c (inl refl) in let k = ap
      (mark_of marks) same in cc) in
      let other : (x : ℕ) → In x st → c ≡ x → ⊥ = λ x h same. w.open_once.0 (subst (λ z. In z st) (sym same) h) in
      let whole : take (get_or next c 0) (uses_of graph c) ≡ uses_of graph c = take-all (uses_of graph c) (get_or next c 0) all in
      let nothing : drop (get_or next c 0) (uses_of graph c) ≡ [] = drop-all (uses_of graph c) (get_or next c 0) all in
      record {
        long = length-set marks c Done ∙ w.long;
        long_next = w.long_next;
        open_once = w.open_once.1;
        done_once = ((λ h. apart c h refl), w.done_once);
        open_within = λ x h. w.open_within x (inr h);
        done_within = λ x. elim [ inl same ↦ subst (λ z. z < length graph) same within | inr h ↦ w.done_within x h ];
        marked_open = λ x h. mark-other marks c x Done (other x h) ∙ w.marked_open x (inr h);
        marked_done = λ x. elim [ inl same ↦ mark-same marks c x Done same marked | inr h ↦ mark-other marks c x Done (apart x h) ∙ w.marked_done x h ];
        is_open = λ x m. elim (same_or c x) [
          | inl same ↦ absurd (let a = mark-same marks c x Done same marked in cc)
          | inr differ ↦ elim (w.is_open x (sym (mark-other marks c x Done differ) ∙ m)) [ inl same ↦ absurd (differ same) | inr h ↦ h ]
        ];
        is_done = λ x m. elim (same_or c x) [ inl same ↦ inl same | inr differ ↦ inr (w.is_done x (sym (mark-other marks c x Done differ) ∙ m)) ];
        fresh = λ x h m. elim (same_or c x)
            [ inl same ↦ absurd (let a = mark-same marks c x Done same marked in cc) | inr differ ↦ w.fresh x h (sym (mark-other marks c x Done differ) ∙ m) ];
        closed = (subst (IsDoneIn done) whole w.stack.1.0, w.closed);
        stack = woken graph next done c st w.stack.1.1;
        left = w.left ∙ ap (λ us. option_or (fault_from (λ child. fault_below (suc (length graph) - suc (length st)) graph (child ∷ c ∷ st) child)
            (c ∷ st) c (get_or next c 0) us) (fault_left graph next st)) nothing;
        root_in = elim w.root_in [ inl k ↦ elim k [ inl same ↦ inr (inl same) | inr h ↦ inl h ] | inr h ↦ inr (inr h) ];
      }

option_or-none : (a : Option WalkFault) → option_or a None ≡ a
option_or-none None = refl
option_or-none (Some f) = refl

pub started : (graph : Graph) (root : ℕ) (marks : List Mark) (next : List ℕ) → root < length graph → length marks ≡ length graph → length next ≡ length graph
    → ((x : ℕ) → mark_of marks x ≡ New) → ((x : ℕ) → get_or next x 0 ≡ 0) → IsUnderWay graph root (set marks root Open) next (root ∷ []) []
unfolding fault_below
started graph root marks next within long long_next new zero_next =
    let marked : root < length marks = omega arith in
    let start = zero_next root in
    let depth : suc (length graph) - suc (length {A = ℕ} []) ≡ length graph = omega arith in
    let F : ℕ → Option WalkFault = λ d. fault_from (λ x. fault_below d graph (x ∷ root ∷ []) x) (root ∷ []) root 0 (uses_of graph root) in
    let G : ℕ → Option WalkFault = λ k. fault_from (λ x. fault_below (suc (length graph) - suc (length {A = ℕ} [])) graph (x ∷ root ∷ []) x)
    (root ∷ []) root k (drop k (uses_of graph root)) in
    record {
      long = length-set marks root Open ∙ long;
      long_next = long_next;
      open_once = ((λ h. h), tt);
      done_once = tt;
      open_within = λ x. elim [ inl same ↦ subst (λ z. z < length graph) same within | inr h ↦ absurd h ];
      done_within = λ x h. absurd h;
      marked_open = λ x. elim [ inl same ↦ mark-same marks root x Open same marked | inr h ↦ absurd h ];
      marked_done = λ x h. absurd h;
      is_open = λ x m. elim (same_or root x) [ inl same ↦ inl same | inr differ ↦ absurd (let a = mark-other marks root x Open differ in let b = new x in cc) ];
      is_done = λ x m. elim (same_or root x) [
        | inl same ↦ absurd (let a = mark-same marks root x Open same marked in cc)
        | inr differ ↦ absurd
            (let a = mark-other marks root x Open differ in let b = new x in cc)
      ];
      fresh = λ x h m. zero_next x;
      closed = tt;
      stack = (
        subst (λ k. k ≤ length (uses_of graph root)) (sym start) (omega arith),
        (
          subst (λ k. IsDoneIn [] (take k (uses_of graph root)))
              (sym start) tt,
          tt,
        ),
      );
      left = ap F (sym depth) ∙ ap G (sym start) ∙ sym (option_or-none (G (get_or next root 0)));
      root_in = inl (inl refl);
    }

pub ended : (graph : Graph) (root : ℕ) (marks : List Mark) (next done : List ℕ) → IsUnderWay graph root marks next [] done → walk_fault graph root ≡ None
ended graph root marks next done w = w.left

-- ---- the measure

pub uses_left-set : (graph : Graph) (next : List ℕ) (c : ℕ) → c < length graph → length next ≡ length graph → get_or next c 0 < length (uses_of graph c)
    → suc (uses_left graph (set next c (suc (get_or next c 0)))) ≡ uses_left graph next
uses_left-set [] next c h long fits = absurd (omega arith)
uses_left-set (us ∷ graph) [] c h long fits = absurd (omega (arith, long))
uses_left-set (us ∷ graph) (k ∷ next) zero h long fits = omega arith
uses_left-set (us ∷ graph) (k ∷ next) (suc c) h long fits =
    let more = uses_left-set graph next c (omega arith) (omega (arith, long)) fits in omega arith
