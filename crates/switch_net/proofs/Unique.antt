-- Each node has an unblocked path, so it has one steady value.
use Rattle.switch_net.proofs.Common.{◌≡◌, ℕ, zero, suc, ◌+◌, ◌<◌, ◌≤◌, List, [], ◌∷◌, inl, inr, refl, arith, length, ◌∙◌, cases_lt, cases_Bool}
use Rattle.switch_net.proofs.Common.{same_lists, get_or_default, Level, Zero, One, X, Network, IsSound, Hop, IsPath, IsDefinite, IsBlocked}
use Rattle.switch_net.proofs.Common.{DefiniteTo, strength, is_input, state_of, end_of, IsSteadyValue, IsNextLevel, IsStep}
use Rattle.switch_net.proofs.Ranges.{strength_low}
use Rattle.switch_net.proofs.Paths.{NotOvercome, unblocked-hop, unblocked-root}
use Rattle.switch_net.specs.Path.{IsUnblockedTo}

-- a definite unblocked path to where a path leads, at least as strong
record IsBetter (net : Network) (s : List Level) (root : ℕ) (path : List Hop) : Type 0 where
  from : ℕ
  along : List Hop
  is_path : IsPath net s from along
  is_definite : IsDefinite s along
  is_unblocked : ¬ (IsBlocked net s from along)
  same_end : end_of from along ≡ end_of root path
  as_strong : strength net root path ≤ strength net from along

-- a definite path to the node that is stronger than k
record IsOvercome (net : Network) (s : List Level) (v k : ℕ) : Type 0 where
  by : ℕ
  blocker : DefiniteTo net s v by
  stronger : k < by

module _ (net : Network) (s : List Level) (sound : IsSound net) where
  -- where nothing overcomes it
  overcome_none : (root : ℕ) (p : List Hop) → (IsOvercome net s (end_of root p) (strength net root p) → ⊥) → NotOvercome net s root p
  unfolding NotOvercome
  overcome_none root p no_one = λ k d. elim (cases_lt (strength net root p) k) [
    | inl lt ↦ absurd (no_one (record { by = k; blocker = d; stronger = lt }))
    | inr le ↦ le
  ]

  abbrev Claim : ℕ → Type 0
  Claim n = (root : ℕ) (p : List Hop) → 6 ≤ strength net root p + n → IsPath net s root p → IsDefinite s p → (IsBetter net s root p → ⊥) → ⊥

  -- one more level: a path that is overcome gives way to a stronger one
  level : (n : ℕ) → ((v k : ℕ) → 6 ≤ k + n → (o : IsOvercome net s v k) → (IsBetter net s o.blocker.root o.blocker.path → ⊥) → ⊥) → Claim n
  level n stronger root [] high i d k =
      k (record {
        from = root;
        along = [];
        is_path = i;
        is_definite = d;
        is_unblocked = unblocked-root net s root (overcome_none root [] (λ o. stronger root (strength net root []) high o (λ b.
            k (record {
              from = b.from;
              along = b.along;
              is_path = b.is_path;
              is_definite = b.is_definite;
              is_unblocked = b.is_unblocked;
              same_end =
                  b.same_end ∙ o.blocker.ends;
              as_strong = omega (arith, b.as_strong, o.stronger, o.blocker.is_strength);
            }))));
        same_end = refl;
        as_strong = omega arith;
      })
  level n stronger root (h ∷ p) high i d k =
      level n stronger root p (omega arith) i.0 d.0 (λ r.
      let q : List Hop = h ∷ r.along in
      let iq : IsPath net s r.from q = (r.is_path, i.1, rw r.same_end i.2, i.3) in
      let as_strong : strength net root (h ∷ p) ≤ strength net r.from q = omega (arith, r.as_strong) in
      k (record {
        from = r.from;
        along = q;
        is_path = iq;
        is_definite = (r.is_definite, d.1);
        is_unblocked = unblocked-hop net s r.from h r.along r.is_unblocked (overcome_none r.from q
            (λ o. stronger h.to (strength net r.from q) (omega arith) o (λ b.
            k (record {
              from = b.from;
              along = b.along;
              is_path = b.is_path;
              is_definite = b.is_definite;
              is_unblocked = b.is_unblocked;
              same_end =
                  b.same_end ∙ o.blocker.ends;
              as_strong = omega (arith, b.as_strong, o.stronger, o.blocker.is_strength);
            }))));
        same_end = refl;
        as_strong = as_strong;
      }))

  claim : (n : ℕ) → Claim n
  claim zero = level zero (λ v k high o. absurd (let low = strength_low net s sound o.blocker.root o.blocker.path in omega
      (arith, o.stronger, o.blocker.is_strength, low)))
  claim (suc n) = level (suc n) (λ v k high o. claim n o.blocker.root o.blocker.path (omega (arith, o.stronger, o.blocker.is_strength)) o.blocker.is_path
      o.blocker.is_definite)

  -- not every node lacks an unblocked path
  pub has_unblocked : (v : ℕ) → v < net.nodes → ((root : ℕ) (path : List Hop) → IsUnblockedTo net s v root path → ⊥) → ⊥
  has_unblocked v in_v none = claim 6 v [] (omega arith) in_v tt (λ b. none b.from b.along
      (record { is_path = b.is_path; ends = b.same_end; is_unblocked = b.is_unblocked }))

  -- no node has two steady values
  pub one_value : (v : ℕ) (x y : Level) → v < net.nodes → IsSteadyValue net s v x → IsSteadyValue net s v y → x ≡ y
  one_value v One One in_v a b = refl
  one_value v Zero Zero in_v a b = refl
  one_value v X X in_v a b = refl
  one_value v One Zero in_v a b = absurd (has_unblocked v in_v (λ root path u. let p = a root path u in let q = b root path u in absurd (cc)))
  one_value v Zero One in_v a b = absurd (has_unblocked v in_v (λ root path u. let p = a root path u in let q = b root path u in absurd (cc)))
  one_value v One X in_v a b = absurd (b.0 a)
  one_value v X One in_v a b = absurd (a.0 b)
  one_value v Zero X in_v a b = absurd (b.1 a)
  one_value v X Zero in_v a b = absurd (a.1 b)

  pub one_next : (v : ℕ) (x y : Level) → v < net.nodes → IsNextLevel net s v x → IsNextLevel net s v y → x ≡ y
  one_next v x y in_v a b = elim (cases_Bool (is_input net v)) [
    | inl e ↦ (let p = a.input e in let q = b.input e in cc)
    | inr e ↦ one_value v x y in_v (a.storage e) (b.storage e)
  ]

  -- a step leads to one state
  pub one_step : (t u : List Level) → length s ≡ net.nodes → IsStep net s t → IsStep net s u → t ≡ u
  one_step t u len a b = same_lists t u (omega (arith, a.same_length, b.same_length)) (λ k d lt.
      let in_t : k < length t = lt in
      let in_u : k < length u = omega (arith, a.same_length, b.same_length) in
      let in_k : k < net.nodes = omega (arith, a.same_length) in
      let e = one_next k (state_of t k) (state_of u k) in_k (a.each k in_k) (b.each k in_k) in
      rw (get_or_default t k d X in_t, get_or_default u k d X in_u) e)
