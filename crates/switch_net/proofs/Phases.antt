-- Steps in a row, of which there is one.
use Rattle.switch_net.proofs.Common.{◌≡◌, ◌≢◌, ℕ, zero, suc, ◌<◌, List, Bool, true, false, inl, inr, refl, sym, ap, subst, arith, length, ◌∙◌}
use Rattle.switch_net.proofs.Common.{cases_eq, cases_lt, Level, Network, IsSound, IsStep}
use Rattle.switch_net.specs.Phase.{AreForced, HasRounds, IsPhase, IsUnsettled, NoneRests, SettlesAfter, Steps}
use Rattle.switch_net.proofs.Forcing.{one_forcing}
use Rattle.switch_net.proofs.Unique.{one_step}

module _ (net : Network) (sound : IsSound net) (s : List Level) (len : length s ≡ net.nodes) where
  pub steps_length : (n : ℕ) (t : List Level) → Steps net n s t → length t ≡ net.nodes
  steps_length zero t e = ap length (sym e) ∙ len
  steps_length (suc n) t r = r.2.same_length ∙ steps_length n r.0 r.1

  pub one_way : (n : ℕ) (t u : List Level) → Steps net n s t → Steps net n s u → t ≡ u
  one_way zero t u a b = cc
  one_way (suc n) t u a b =
      let same : b.0 ≡ a.0 = one_way n b.0 a.0 b.1 a.1 in
      one_step net a.0 sound t u (steps_length n a.0 a.1) a.2 (subst (λ (x : List Level). IsStep net x u) same b.2)

  -- one step more after which the state still changes
  pub none_more : (n : ℕ) (t next : List Level) → Steps net n s t → IsStep net t next → next ≢ t → NoneRests net n s → NoneRests net (suc n) s
  none_more n t next r step moved none m u lt a rests = elim (cases_eq m n) [
    | inl e ↦ (let a' : Steps net n s u = subst (λ (k : ℕ). Steps net k s u) e a in
        let same : u ≡ t = one_way n u t a' r in
        let rests' : IsStep net t t = subst (λ (x : List Level). IsStep net x x) same rests in
        moved (one_step net t sound next t (steps_length n t r) step rests'))
    | inr ne ↦ none m u (omega arith) a rests
  ]

  -- the first state that a step leaves comes after one number of steps
  no_sooner : (n m : ℕ) (t u : List Level) → SettlesAfter net n s t → SettlesAfter net m s u → m < n → ⊥
  no_sooner n m t u a b lt = a.first m u lt b.reached b.rests

  one_rest : (n m : ℕ) (t u : List Level) → SettlesAfter net n s t → SettlesAfter net m s u → (n ≡ m) × (t ≡ u)
  one_rest n m t u a b = elim (cases_eq n m) [
    | inl e ↦ (e, one_way m t u (subst (λ (k : ℕ). Steps net k s t) e a.reached) b.reached)
    | inr ne ↦ elim (cases_lt n m) [ inl lt ↦ absurd (no_sooner m n u t b a lt) | inr le ↦ absurd (no_sooner n m t u a b (omega (arith, ne))) ]
  ]

  -- a phase that does not settle ends after one number of rounds, in one state
  one_end : (budget n m : ℕ) (t u : List Level) → IsUnsettled net budget s n t → IsUnsettled net budget s m u → (n ≡ m) × (t ≡ u)
  one_end budget n m t u a b =
      let same : b.last ≡ a.last = one_way budget b.last a.last b.reached a.reached in
      one_forcing net a.last t u n m a.forced (subst (λ (x : List Level). AreForced net m x u) same b.forced)

  -- a phase ends in one way
  pub one_phase : (budget : ℕ) (done other : Bool) (n m : ℕ) (t u : List Level) → IsPhase net budget s done n t → IsPhase net budget s other m u →
      (done ≡ other) × (n ≡ m) × (t ≡ u)
  one_phase budget true true n m t u a b = let r = one_rest n m t u a.0 b.0 in (refl, r.0, r.1)
  one_phase budget true false n m t u a b = absurd (b.2.none_rests n t (omega (arith, a.1)) a.0.reached a.0.rests)
  one_phase budget false true n m t u a b = absurd (a.2.none_rests m u (omega (arith, b.1)) b.0.reached b.0.rests)
  one_phase budget false false n m t u a b = (refl, omega (arith, a.0, b.0), (one_end budget a.1 b.1 t u a.2 b.2).1)

  -- and after one number of rounds
  pub one_count : (budget : ℕ) (done other : Bool) (n m rounds more : ℕ) (t u : List Level) → IsPhase net budget s done n t →
      HasRounds net budget s done rounds t → IsPhase net budget s other m u → HasRounds net budget s other more u → rounds ≡ more
  one_count budget true true n m rounds more t u a r b q = omega (arith, r, q)
  one_count budget true false n m rounds more t u a r b q = absurd (q.none_rests n t (omega (arith, a.1)) a.0.reached a.0.rests)
  one_count budget false true n m rounds more t u a r b q = absurd (r.none_rests m u (omega (arith, b.1)) b.0.reached b.0.rests)
  one_count budget false false n m rounds more t u a r b q = (one_end budget rounds more t u r q).0
