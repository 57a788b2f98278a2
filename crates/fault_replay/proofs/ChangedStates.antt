-- Changes of states: what each leaves, and what several make.
use Rattle.fault_replay.proofs.Common.{◌≡◌, ◌≢◌, ℕ, ◌+◌, ◌<◌, ◌≤◌, List, [], ◌∷◌, ◌++◌, Bool, true, false, inl, inr, refl, sym, ap, subst, ◌∙◌}
use Rattle.fault_replay.proofs.Common.{length, get_or, take, slice_set, arith, All, cases_Bool, cases_eq, cases_lt, get_or-set_other}
use Rattle.fault_replay.proofs.Common.{get_or-set_same, length-set, All-head, All-tail, In, Level, X, state_of, changed, taken_from}
use Rattle.std.specs.Prelude.{filter, map}
use Rattle.std.proofs.lemmas.List.{map-append, set-get_or, set_past, take_more}
use Rattle.std.proofs.lemmas.List.Elements.{filter_more}

-- changes, and then others
pub changed-append : (changes others : List (ℕ × Level)) (s : List Level) → changed (changes ++ others) s ≡ changed others (changed changes s)
changed-append [] others s = refl
changed-append (change ∷ changes) others s = changed-append changes others (slice_set s change.0 change.1)

-- one change more
pub changed_more : (changes : List (ℕ × Level)) (i : ℕ) (d : ℕ × Level) (s : List Level) → i < length changes
    → changed (take (i + 1) changes) s ≡ slice_set (changed (take i changes) s) (get_or changes i d).0 (get_or changes i d).1
changed_more changes i d s below =
    ap (λ (front : List (ℕ × Level)). changed front s) (take_more changes i d below) ∙ changed-append (take i changes) (get_or changes i d ∷ []) s

-- changes keep the number of states
pub changed-length : (changes : List (ℕ × Level)) (s : List Level) → length (changed changes s) ≡ length s
changed-length [] s = refl
changed-length (change ∷ changes) s = changed-length changes (slice_set s change.0 change.1) ∙ length-set s change.0 change.1

-- of the changes that a test lets through, one more is let through
pub passed_on : (test : ℕ × Level → Bool) (changes : List (ℕ × Level)) (i : ℕ) (d : ℕ × Level) (s : List Level) → i < length changes
    → test (get_or changes i d) ≡ true → changed (filter test (take (i + 1) changes)) s
    ≡ slice_set (changed (filter test (take i changes)) s) (get_or changes i d).0 (get_or changes i d).1
passed_on test changes i d s below passes =
    let more = ap (λ (front : List (ℕ × Level)). changed front s) (filter_more test changes i d below) in
    let all = rw passes at more in
    all ∙ changed-append (filter test (take i changes)) (get_or changes i d ∷ []) s

-- or is not
pub passed_off : (test : ℕ × Level → Bool) (changes : List (ℕ × Level)) (i : ℕ) (d : ℕ × Level) (s : List Level) → i < length changes
    → test (get_or changes i d) ≡ false → changed (filter test (take (i + 1) changes)) s ≡ changed (filter test (take i changes)) s
passed_off test changes i d s below stops =
    let more = ap (λ (front : List (ℕ × Level)). changed front s) (filter_more test changes i d below) in
    let all = rw stops at more in
    all ∙ changed-append (filter test (take i changes)) [] s

-- one node more takes its new state
pub taken_more : (next : List Level) (nodes : List ℕ) (i d : ℕ) (s : List Level) → i < length nodes
    → changed (taken_from next (take (i + 1) nodes)) s
    ≡ slice_set (changed (taken_from next (take i nodes)) s) (get_or nodes i d) (state_of next (get_or nodes i d))
taken_more next nodes i d s below =
    let Change : ℕ → ℕ × Level = λ v. (v, state_of next v) in
    ap (λ (front : List ℕ). changed (map Change front) s) (take_more nodes i d below)
    ∙ ap (λ (changes : List (ℕ × Level)). changed changes s) (map-append Change (take i nodes) (get_or nodes i d ∷ []))
    ∙ changed-append (map Change (take i nodes)) (Change (get_or nodes i d) ∷ []) s

-- two lists that are alike at a place stay so where one item is set in both
pub set_both : {A : Type 0} (xs ys : List A) (u v : ℕ) (x d : A) → length xs ≡ length ys → get_or xs v d ≡ get_or ys v d
    → get_or (slice_set xs u x) v d ≡ get_or (slice_set ys u x) v d
set_both {A} xs ys u v x d len same = elim (cases_eq v u) [
  | inr ne ↦ get_or-set_other xs u v x d ne ∙ same ∙ sym (get_or-set_other ys u v x d ne)
  | inl e ↦ elim (cases_lt u (length xs)) [
    | inl lt ↦ (let lt' : u < length ys = omega (arith, len) in rw e (get_or-set_same xs u x d lt ∙ sym (get_or-set_same ys u x d lt')))
    | inr le ↦ (let le' : length ys ≤ u = omega (arith, len) in rw (set_past xs u x le, set_past ys u x le') same)
  ]
]

-- where all changes go through for a node, it becomes what it becomes by all of them
pub passed_alike : (test : ℕ → Bool) (changes : List (ℕ × Level)) (s t : List Level) (v : ℕ) → test v ≡ true → length s ≡ length t
    → state_of t v ≡ state_of s v → state_of (changed (filter (λ change. test change.0) changes) t) v ≡ state_of (changed changes s) v
passed_alike test [] s t v passes len same = same
passed_alike test (change ∷ changes) s t v passes len same = elim (cases_Bool (test change.0)) [
  | inl on ↦ rw on (passed_alike test changes (slice_set s change.0 change.1) (slice_set t change.0 change.1) v passes
      (length-set s change.0 change.1 ∙ len ∙ sym (length-set t change.0 change.1)) (set_both t s change.0 v change.1 X (sym len) same))
  | inr off ↦ (
      let ne : v ≢ change.0 = λ e. (let e' = ap test e in absurd (cc)) in
      rw off (passed_alike test changes (slice_set s change.0 change.1) t v passes (length-set s change.0 change.1 ∙ len)
      (same ∙ sym (get_or-set_other s change.0 v change.1 X ne))))
]

-- and where none do, it stays as it was
pub stopped_same : (test : ℕ → Bool) (changes : List (ℕ × Level)) (t : List Level) (v : ℕ) → test v ≡ false
    → state_of (changed (filter (λ change. test change.0) changes) t) v ≡ state_of t v
stopped_same test [] t v stops = refl
stopped_same test (change ∷ changes) t v stops = elim (cases_Bool (test change.0)) [
  | inl on ↦ (
      let ne : v ≢ change.0 = λ e. (let e' = ap test e in absurd (cc)) in
      rw on (stopped_same test changes (slice_set t change.0 change.1) v stops ∙ get_or-set_other t change.0 v change.1 X ne))
  | inr off ↦ rw off (stopped_same test changes t v stops)
]

-- a node that takes no new state keeps its own
pub taken_other : (next : List Level) (nodes : List ℕ) (s : List Level) (v : ℕ) → ¬ (In v nodes)
    → state_of (changed (taken_from next nodes) s) v ≡ state_of s v
taken_other next [] s v out = refl
taken_other next (u ∷ nodes) s v out =
    let ne : v ≢ u = λ e. out (inl (sym e)) in
    taken_other next nodes (slice_set s u (state_of next u)) v (λ later. out (inr later)) ∙ get_or-set_other s u v (state_of next u) X ne

-- a node that has its new state keeps it
pub taken_stays : (next : List Level) (nodes : List ℕ) (s : List Level) (v : ℕ) → state_of s v ≡ state_of next v
    → state_of (changed (taken_from next nodes) s) v ≡ state_of next v
taken_stays next [] s v same = same
taken_stays next (u ∷ nodes) s v same = taken_stays next nodes (slice_set s u (state_of next u)) v (elim (cases_eq v u) [
  | inr ne ↦ get_or-set_other s u v (state_of next u) X ne ∙ same
  | inl e ↦ elim (cases_lt u (length s)) [
    | inl lt ↦ rw e (get_or-set_same s u (state_of next u) X lt)
    | inr le ↦ rw (set_past s u (state_of next u) le) same
  ]
])

-- a node that takes a new state has it
pub taken_here : (next : List Level) (nodes : List ℕ) (s : List Level) (v : ℕ) → In v nodes → v < length s
    → state_of (changed (taken_from next nodes) s) v ≡ state_of next v
taken_here next [] s v stands below = absurd stands
taken_here next (u ∷ nodes) s v (inl e) below =
    taken_stays next nodes (slice_set s u (state_of next u)) v (rw e (get_or-set_same s v (state_of next v) X below))
taken_here next (u ∷ nodes) s v (inr later) below =
    taken_here next nodes (slice_set s u (state_of next u)) v later (omega (arith, length-set s u (state_of next u)))

-- to take a state that a node has changes nothing
pub taken_again : (next : List Level) (nodes : List ℕ) (s : List Level) (v : ℕ) → state_of s v ≡ state_of next v
    → slice_set (changed (taken_from next nodes) s) v (state_of next v) ≡ changed (taken_from next nodes) s
taken_again next nodes s v same =
    let now = changed (taken_from next nodes) s in
    ap (slice_set now v) (sym (taken_stays next nodes s v same)) ∙ set-get_or now v X

-- a node that differs is one of the changes, and has what all of these have
pub changed_of : (P : ℕ → Type 0) (changes : List (ℕ × Level)) (s : List Level) (v : ℕ) → All (λ change. P change.0) changes
    → state_of s v ≢ state_of (changed changes s) v → P v
changed_of P [] s v all differ = absurd (differ refl)
changed_of P (change ∷ changes) s v all differ = elim (cases_eq v change.0) [
  | inl e ↦ subst P (sym e) (All-head (λ (c : ℕ × Level). P c.0) change changes all)
  | inr ne ↦ changed_of P changes (slice_set s change.0 change.1) v (All-tail (λ (c : ℕ × Level). P c.0) change changes all)
      (λ same. differ (sym (get_or-set_other s change.0 v change.1 X ne) ∙ same))
]
