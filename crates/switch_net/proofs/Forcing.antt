-- Rounds in a row, of which there is one, and what they leave.
use Rattle.switch_net.proofs.Common.{ap, ◌≡◌, ◌≢◌, ℕ, zero, suc, ◌<◌, ◌⊎◌, List, Bool, true, false, inl, inr, refl, sym, subst, arith, length, ◌∙◌}
use Rattle.switch_net.proofs.Common.{cases_Bool, cases_eq, cases_lt, same_lists, get_or_default, Level, Zero, One, X, Network, is_input, state_of}
use Rattle.switch_net.proofs.Common.{IsSteadyValue}
use Rattle.std.specs.Prelude.{replicate, slice_index_or}
use Rattle.switch_net.proofs.Ranges.{level_cases}
use Rattle.switch_net.specs.Phase.{is_forced, IsTaken, IsRound, Rounds, AreForced, AreSteadyOrX}

bool_cases : (a b : Bool) → (a ≡ b) ⊎ (a ≢ b)
bool_cases true true = inl refl
bool_cases true false = inr (λ e. cc)
bool_cases false true = inr (λ e. cc)
bool_cases false false = inl refl

module _ (net : Network) where
  -- a round has one outcome
  one_state : (forced a b : List Bool) (s t u : List Level) → IsRound net forced s a t → IsRound net forced s b u → t ≡ u
  one_state forced a b s t u r q = same_lists t u (r.one_state ∙ sym q.one_state) (λ k d lt.
      let in_t : k < length t = lt in
      let in_u : k < length u = rw (r.one_state ∙ sym q.one_state) at lt in
      let e : state_of t k ≡ state_of u k = elim (level_cases (state_of t k) (state_of u k)) [
        | inl e ↦ e
        | inr ne ↦ (
            let free : IsTaken net forced s k → ⊥ = λ taken. ne ((r.taken k taken).0 ∙ sym (q.taken k taken).0) in
            absurd (ne ((r.others k free).0 ∙ sym (q.others k free).0)))
      ] in
      rw (get_or_default t k d X in_t, get_or_default u k d X in_u) e)

  one_mark : (forced a b : List Bool) (s t u : List Level) → IsRound net forced s a t → IsRound net forced s b u → a ≡ b
  one_mark forced a b s t u r q = same_lists a b (r.one_mark ∙ sym q.one_mark) (λ k d lt.
      let in_a : k < length a = lt in
      let in_b : k < length b = rw (r.one_mark ∙ sym q.one_mark) at lt in
      let e : is_forced a k ≡ is_forced b k = elim (bool_cases (is_forced a k) (is_forced b k)) [
        | inl e ↦ e
        | inr ne ↦ (
            let free : IsTaken net forced s k → ⊥ = λ taken. ne ((r.taken k taken).1 ∙ sym (q.taken k taken).1) in
            absurd (ne ((r.others k free).1 ∙ sym (q.others k free).1)))
      ] in
      rw (get_or_default a k d false in_a, get_or_default b k d false in_b) e)

  one_way : (n : ℕ) (forced a b : List Bool) (s t u : List Level) → Rounds net n forced s a t → Rounds net n forced s b u → (a ≡ b) × (t ≡ u)
  one_way zero forced a b s t u r q = (r.0 ∙ sym q.0, r.1 ∙ sym q.1)
  one_way (suc n) forced a b s t u r q =
      let same = one_way n forced r.0 q.0 s r.1 q.1 r.2 q.2 in
      let q' : IsRound net r.0 q.1 b u = subst (λ (x : List Bool). IsRound net x q.1 b u) (sym same.0) q.3 in
      let q'' : IsRound net r.0 r.1 b u = subst (λ (x : List Level). IsRound net r.0 x b u) (sym same.1) q' in
      (one_mark r.0 a b r.1 t u r.3 q'', one_state r.0 a b r.1 t u r.3 q'')

  -- of more rounds, the next one takes a node
  goes_on : (n m : ℕ) (forced a : List Bool) (s t : List Level) → n < m → Rounds net m forced s a t
      → (between : List Bool) × (u : List Level) × Rounds net n forced s between u × ((v : ℕ) × IsTaken net between u v)
  goes_on n zero forced a s t lt r = absurd (omega arith)
  goes_on n (suc m) forced a s t lt r = elim (cases_eq n m) [
    | inl e ↦ (r.0, r.1, subst (λ (k : ℕ). Rounds net k forced s r.0 r.1) (sym e) r.2, r.3.some)
    | inr ne ↦ goes_on n m forced r.0 s r.1 (omega (arith, ne)) r.2
  ]

  no_more : (s t u : List Level) (n m : ℕ) → AreForced net n s t → AreForced net m s u → n < m → ⊥
  no_more s t u n m a b lt =
      let r = goes_on n m (replicate net.nodes false) b.forced s u lt b.reached in
      let same = one_way n (replicate net.nodes false) a.forced r.0 s t r.1 a.reached r.2 in
      let taken : IsTaken net a.forced r.1 r.3.0 = subst (λ (x : List Bool). IsTaken net x r.1 r.3.0) (sym same.0) r.3.1 in
      a.over r.3.0 (subst (λ (x : List Level). IsTaken net a.forced x r.3.0) (sym same.1) taken)

-- rounds from one state end in one way
pub one_forcing : (net : Network) (s t u : List Level) (n m : ℕ) → AreForced net n s t → AreForced net m s u → (n ≡ m) × (t ≡ u)
one_forcing net s t u n m a b = elim (cases_eq n m) [
  | inl e ↦ (
      let b' : Rounds net n (replicate net.nodes false) s b.forced u =
      subst (λ (k : ℕ). Rounds net k (replicate net.nodes false) s b.forced u) (sym e) b.reached in
      (e, (one_way net n (replicate net.nodes false) a.forced b.forced s t u a.reached b').1))
  | inr ne ↦ elim (cases_lt n m) [ inl lt ↦ absurd (no_more net s t u n m a b lt) | inr le ↦ absurd (no_more net s u t m n b a (omega (arith, ne))) ]
]

-- rounds leave as many states
pub rounds_length : (net : Network) (n : ℕ) (forced a : List Bool) (s t : List Level) → Rounds net n forced s a t → length t ≡ length s
rounds_length net zero forced a s t r = ap length r.1
rounds_length net (suc n) forced a s t r = r.3.one_state ∙ rounds_length net n forced r.0 s r.1 r.2

-- no round takes an input
pub input_free : (net : Network) (forced : List Bool) (s : List Level) (v : ℕ) → is_input net v ≡ true → IsTaken net forced s v → ⊥
input_free net forced s v e taken = taken.moves (record { input = λ i. refl; storage = λ i. absurd (cc) })

-- so an input keeps its state over rounds
pub rounds_keep : (net : Network) (n : ℕ) (forced a : List Bool) (s t : List Level) (v : ℕ) → is_input net v ≡ true → Rounds net n forced s a t
    → state_of t v ≡ state_of s v
rounds_keep net zero forced a s t v e r = ap (λ (states : List Level). state_of states v) r.1
rounds_keep net (suc n) forced a s t v e r = (r.3.others v (input_free net r.0 r.1 v e)).0 ∙ rounds_keep net n forced r.0 s r.1 v e r.2

-- at first no node is forced
none_forced : (n v : ℕ) → slice_index_or (replicate n false) v false ≡ false
none_forced zero v = refl
none_forced (suc n) zero = refl
none_forced (suc n) (suc v) = none_forced n v

-- a forced node is X
pub forced_is_x : (net : Network) (n : ℕ) (a : List Bool) (s t : List Level) (v : ℕ) → Rounds net n (replicate net.nodes false) s a t → is_forced a v ≡ true
    → state_of t v ≡ X
forced_is_x net zero a s t v r e = absurd (let none = none_forced net.nodes v in let same = r.0 in cc)
forced_is_x net (suc n) a s t v r e = elim (level_cases (state_of t v) X) [
  | inl x ↦ x
  | inr ne ↦ (
      let free : IsTaken net r.0 r.1 v → ⊥ = λ taken. ne (r.3.taken v taken).0 in
      let kept = r.3.others v free in
      kept.0 ∙ forced_is_x net n r.0 s r.1 v r.2 (sym kept.1 ∙ e))
]

-- a value that can't be other than steady is steady
pub steady_stable : (net : Network) (s : List Level) (v : ℕ) (x : Level) → ((IsSteadyValue net s v x → ⊥) → ⊥) → IsSteadyValue net s v x
steady_stable net s v One twice = λ root path u. elim (level_cases (state_of s root) One) [ inl e ↦ e | inr ne ↦ absurd (twice (λ all. ne (all root path u))) ]
steady_stable net s v Zero twice = λ root path u.
    elim (level_cases (state_of s root) Zero) [ inl e ↦ e | inr ne ↦ absurd (twice (λ all. ne (all root path u))) ]
steady_stable net s v X twice = (λ all. twice (λ st. st.0 all), λ all. twice (λ st. st.1 all))

-- where rounds have ended, each storage node has its steady value or is X
pub steady_or_x : (net : Network) (s t : List Level) (n : ℕ) → AreForced net n s t → AreSteadyOrX net t
steady_or_x net s t n a v storage = elim (cases_Bool (is_forced a.forced v)) [
  | inl e ↦ inr (forced_is_x net n a.forced s t v a.reached e)
  | inr e ↦ inl (steady_stable net t v (state_of t v) (λ never. a.over v
      (record { within = storage.0; free = e; moves = λ next. never (next.storage storage.1) })))
]
