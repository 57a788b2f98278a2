-- From one step to the next.
use Rattle.steady_state.proofs.Common.{◌≡◌, ◌≢◌, ℕ, add-one, ◌+◌, ◌<◌, ◌≤◌, List, Bool, false, inl, inr, refl, sym, subst, arith, length}
use Rattle.steady_state.proofs.Common.{slice_index, slice_index_or, take, get_or-take, cases_eq, cases_Bool, get_or_default, Level, X, Switch}
use Rattle.steady_state.proofs.Common.{Network, IsSound, Hop, state_of, is_input, end_of, Steps, IsStep, IsSteadyValue, IsStorage, IsChain}
use Rattle.steady_state.proofs.Common.{level_cases, IsInside, IsAmong, EndsInside, IsGated, IsQuiet, known, chain_from, in_self}
use Rattle.std.proofs.Common.{length-take}
use Rattle.std.proofs.lemmas.List.{same_lists}
use Rattle.switch_net.proofs.Vicinities.{keeps_value}

-- more marks leave the ends of a switch marked
pub ends_grown : (net : Network) (inside new : List Bool) (w : Switch) → ((u : ℕ) → IsInside inside u → IsInside new u) → EndsInside net inside w →
    EndsInside net new w
ends_grown net inside new w grown ends = (λ st. grown w.left (ends.0 st), λ st. grown w.right (ends.1 st))

pub gated_grown : (net : Network) (inside new : List Bool) (v : ℕ) → ((u : ℕ) → IsInside inside u → IsInside new u) → IsGated net inside v → IsGated net new v
gated_grown net inside new v grown g k d lt e = ends_grown net inside new (slice_index_or net.switches k d) grown (g k d lt e)

pub below_one : (P : ℕ → Type 0) (n : ℕ) → ((i : ℕ) → i < n → P i) → P n → (i : ℕ) → i < n + 1 → P i
below_one P n old here i lt = elim (cases_eq i n) [ inl e ↦ subst P (sym e) here | inr ne ↦ old i (omega arith) ]

-- two states that differ nowhere are the same
pub same_states : (s t : List Level) → length s ≡ length t → ((v : ℕ) → state_of s v ≢ state_of t v → ⊥) → s ≡ t
same_states s t len none = same_lists s t len (λ k d lt.
    let e : state_of s k ≡ state_of t k = elim (level_cases (state_of s k) (state_of t k)) [ inl e ↦ e | inr ne ↦ absurd (none k ne) ] in
    let in_t : k < length t = omega arith in
    rw (get_or_default s k d X lt, get_or_default t k d X in_t) e)

-- a closed part that is stepped, where the rest is quiet, makes a step
pub part_steps : (net : Network) (s t : List Level) (before inside : List Bool) → IsSound net → length t ≡ length s → IsQuiet net s before →
    ((v : ℕ) → IsInside before v → IsInside inside v) → ((n : ℕ) (p : List Hop) → IsInside inside n → IsChain net s n p → IsInside inside (end_of n p)) →
    ((v : ℕ) → IsInside inside v → IsStorage net v) →
    ((v : ℕ) → IsInside inside v → IsSteadyValue net s v (state_of t v)) → ((v : ℕ) → slice_index_or inside v false ≡ false →
    state_of t v ≡ state_of s v) → IsStep net s t
part_steps net s t before inside sound len quiet grown closed storage steady kept = record {
  same_length = len;
  each = λ v lt. elim (cases_Bool (slice_index_or inside v false)) [
    | inl ins ↦ record { input = λ e. (let f = (storage v ins).1 in absurd (cc)); storage = λ e. steady v ins }
    | inr out ↦ elim (cases_Bool (is_input net v)) [
      | inl inp ↦ record { input = λ e. kept v out; storage = λ e. absurd (cc) }
      | inr sto ↦ rw (kept v out) (quiet v (lt, sto) (λ m ins i. let e = i.ends in let r = rw e at (closed m i.chain (grown m ins) i.is_chain) in absurd (cc)))
    ]
  ];
}

-- after a step, the rest of the marked nodes is quiet
pub quiet_next : (net : Network) (s t : List Level) (inside : List Bool) → IsSound net → IsStep net s t → ((v : ℕ) → state_of s v ≢ state_of t v →
    IsStorage net v → IsInside inside v) →
    ((v : ℕ) → state_of s v ≢ state_of t v → IsGated net inside v) → IsQuiet net t inside
quiet_next net s t inside sound step changed gated v st outside =
    keeps_value net sound s t step (λ u. IsStorage net u → IsInside inside u)
    (record {
      changed = changed;
      left = λ w c ne. (let r = gated w.gate ne c.0 w c.1 (rw c.2 refl) in rw c.2 at r.0);
      right = λ w c ne. (let r = gated w.gate ne c.0 w c.1 (rw c.2 refl) in rw c.2 at r.1);
    })
    v st (λ n sd i. outside n (sd (chain_from net t n i.chain i.is_chain)) i)

pub waiting_take : (xs : List ℕ) (n v : ℕ) → n ≤ length xs → IsAmong xs n v → IsAmong (take n xs) (length (take n xs)) v
waiting_take xs n v le q = (q.0, simp length-take (omega (arith, q.1)), rw (get_or-take n xs q.0 0 q.1) q.2)

pub below_take : (xs : List ℕ) (n m : ℕ) → n ≤ length xs → ((i : ℕ) → i < n → slice_index xs i < m) → (k d : ℕ) → k < length (take n xs) →
    slice_index_or (take n xs) k d < m
below_take xs n m le h k d lt =
    let lt' : k < n = omega (arith, simp length-take at lt) in
    let in_xs : k < length xs = omega arith in
    rw (get_or-take n xs k d lt', get_or_default xs k d 0 in_xs) (h k lt')

-- each node that changed is listed
pub all_changed : (s t : List Level) (inside : List Bool) (order changed : List ℕ) (part moved : ℕ) → part ≤ length order → ((v : ℕ) → IsInside inside v →
    IsAmong order part v) →
    ((v : ℕ) → slice_index_or inside v false ≡ false → state_of t v ≡ state_of s v) →
    ((i : ℕ) → i < length (take part order) → state_of s (slice_index (take part order) i) ≢ state_of t (slice_index (take part order) i) →
    IsAmong changed moved (slice_index (take part order) i)) →
    (v : ℕ) → state_of s v ≢ state_of t v → IsAmong changed moved v
all_changed s t inside order changed part moved le known kept found v ne = elim (cases_Bool (slice_index_or inside v false)) [
  | inl ins ↦ (let q = waiting_take order part v le (known v ins) in let at = q.2 in rw at at (found q.0 q.1 (rw at ne)))
  | inr out ↦ absurd (ne (sym (kept v out)))
]

-- the steps go on
pub steps_more : (net : Network) (s u t t' : List Level) (n : ℕ) → Steps net n s u → IsStep net u t → t' ≡ t → Steps net (n + 1) s t'
steps_more net s u t t' n a b e = rw (add-one, e) (u, a, b)

-- where every storage node is marked, there is no rest
pub all_quiet : (net : Network) (s : List Level) (inside : List Bool) → ((v : ℕ) → IsStorage net v → IsInside inside v) → IsQuiet net s inside
all_quiet net s inside every v st outside = absurd (outside v (every v st) (in_self net s v st))
