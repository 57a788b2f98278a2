-- How phases end that are replayed.
use Rattle.fault_replay.proofs.Common.{◌≡◌, ◌≢◌, ℕ, ◌+◌, ◌-◌, ◌≤◌, List, [], ◌∷◌, Bool, true, false, inl, inr, refl, sym, ap, subst, ◌∙◌, length}
use Rattle.fault_replay.proofs.Common.{arith, Level, IsSound, Network, is_input, state_of, Steps, IsStep, input_in_range, level_cases, phase_keeps}
use Rattle.fault_replay.proofs.Common.{IsTold, EndsPhase, IsAlong, SettlesDown}
use Rattle.std.proofs.Common.{zero, suc, ◌⊎◌}
use Rattle.switch_net.specs.Phase.{SettlesAfter}
use Rattle.switch_net.proofs.Phases.{one_way, steps_length}
use Rattle.switch_net.proofs.Unique.{one_step}
use Rattle.vector_runs.proofs.LineOutcomes.{phase_length}

-- whether two lists of states are one can be decided
cases_states : (s t : List Level) → (s ≡ t) ⊎ (s ≢ t)
cases_states [] [] = inl refl
cases_states [] (y ∷ t) = inr (λ e. absurd (cc))
cases_states (x ∷ s) [] = inr (λ e. absurd (cc))
cases_states (x ∷ s) (y ∷ t) = elim (level_cases x y) [
  | inr ne ↦ inr (λ e. ne (ap (λ (all : List Level). state_of all 0) e))
  | inl e ↦ elim (cases_states s t) [
    | inl same ↦ inl (ap (λ (one : Level). one ∷ s) e ∙ ap (λ (rest : List Level). y ∷ rest) same)
    | inr ne ↦ inr (λ all. ne (ap tail all))
  ]
]
  where
    tail : List Level → List Level
    tail [] = []
    tail (z ∷ zs) = zs

-- steps, and then others
pub steps_then : (net : Network) (s u t : List Level) (k n : ℕ) → Steps net k s u → Steps net n u t → Steps net (k + n) s t
steps_then net s u t k zero first second = let e : k ≡ k + zero = omega arith in subst (λ (m : ℕ). Steps net m s t) e (subst (Steps net k s) second first)
steps_then net s u t k (suc n) first second =
    let more : Steps net (suc (k + n)) s t = (second.0, steps_then net s u second.0 k n first second.1, second.2) in
    let e : suc (k + n) ≡ k + suc n = omega arith in
    subst (λ (m : ℕ). Steps net m s t) e more

module _ (net : Network) (sound : IsSound net) (s : List Level) (len : length s ≡ net.nodes) where
  -- a rest leads to itself
  stays : (m j : ℕ) (u w : List Level) → Steps net m s u → IsStep net u u → Steps net (m + j) s w → w ≡ u
  stays m zero u w a r b = let e : m + zero ≡ m = omega arith in one_way net sound s len m w u (subst (λ (n : ℕ). Steps net n s w) e b) a
  stays m (suc j) u w a r b =
      let e : m + suc j ≡ suc (m + j) = omega arith in
      let b' : Steps net (suc (m + j)) s w = subst (λ (n : ℕ). Steps net n s w) e b in
      let before = stays m j u b'.0 a r b'.1 in
      let step : IsStep net u w = subst (λ (x : List Level). IsStep net x w) before b'.2 in
      one_step net u sound w u (steps_length net sound s len m u a) step r

  -- and so do all that come behind it
  rests_on : (m n : ℕ) (u w : List Level) → m ≤ n → Steps net m s u → IsStep net u u → Steps net n s w → w ≡ u
  rests_on m n u w le a r b = let e : n ≡ m + (n - m) = omega (arith, le) in stays m (n - m) u w a r (subst (λ (k : ℕ). Steps net k s w) e b)

  -- where steps lead to rest, the network settles after at most as many
  pub settles : (k : ℕ) (t : List Level) → Steps net k s t → IsStep net t t → (n : ℕ) × (n ≤ k) × SettlesAfter net n s t
  settles zero t steps rests = (0, omega arith, record { reached = steps; rests = rests; first = λ m u lt a r. absurd (omega (arith, lt)) })
  settles (suc k) t steps rests = elim (cases_states steps.0 t) [
    | inl e ↦ (
        let rests_there : IsStep net steps.0 steps.0 = subst (λ (x : List Level). IsStep net x x) (sym e) rests in
        let sooner = settles k steps.0 steps.1 rests_there in
        (sooner.0, omega (arith, sooner.1), subst (SettlesAfter net sooner.0 s) e sooner.2))
    | inr ne ↦ (
      suc k,
      omega arith,
      record {
        reached = steps;
        rests = rests;
        first = λ m w lt a r. (
            let here = rests_on m k w steps.0 (omega (arith, lt)) a r steps.1 in
            let rests_here : IsStep net steps.0 steps.0 = subst (λ (x : List Level). IsStep net x x) (sym here) r in
            ne (one_step net steps.0 sound steps.0 t (steps_length net sound s len k steps.0 steps.1) rests_here steps.2));
      },
    )
  ]

  -- a phase that goes on after steps is one from the first state
  pub ends_after : (k most budget : ℕ) (u t : List Level) (done : Bool) → k + most ≡ budget → Steps net k s u → EndsPhase net most u done t
      → EndsPhase net budget s done t
  ends_after k most budget u t true sum first ends =
      let settled = settles (k + ends.0) t (steps_then net s u t k ends.0 first ends.1.0.reached) ends.1.0.rests in
      (settled.0, (settled.2, omega (arith, settled.1, ends.1.1, sum)))
  ends_after k most budget u t false sum first ends =
      let there = ends.1.2 in
      let reached : Steps net budget s there.last =
      subst (λ (n : ℕ). Steps net n s there.last) sum (steps_then net s u there.last k most first there.reached) in (
        budget,
        (
          refl,
          ends.1.1,
          record {
            last = there.last;
            reached = reached;
            none_rests = λ m w lt a r. (
                let here = rests_on m budget w there.last (omega (arith, lt)) a r reached in
                there.none_rests most there.last (omega arith) there.reached (subst (λ (x : List Level). IsStep net x x) (sym here) r));
            forced = there.forced;
          },
        ),
      )

  -- where it has settled down, it has settled
  pub ends_down : (k most budget : ℕ) (u t : List Level) → k + most ≡ budget → Steps net k s u → SettlesDown net most u true t
      → EndsPhase net budget s true t
  ends_down k most budget u t sum first down =
      let settled = settles (k + down.0) t (steps_then net s u t k down.0 first down.2) down.3 in
      (settled.0, (settled.2, omega (arith, settled.1, down.1, sum)))

-- A phase that ends by itself leaves the runs beside each other, wherever the run without the fault has come to, if it kept its inputs.
pub along_ended : (good net : Network) (held most : ℕ) (s t s' t' : List Level) (told new : List Bool) (done : Bool) → IsSound net
    → IsAlong good net held s t told → EndsPhase net most t done t' → length s' ≡ length s
    → ((v : ℕ) → is_input good v ≡ true → state_of s' v ≡ state_of s v) → ((v : ℕ) → IsTold s' t' new v) → IsAlong good net held s' t' new
along_ended good net held most s t s' t' told new done sound along ends len kept tells = record {
  sound = along.sound;
  alike = along.alike;
  good_states = len ∙ along.good_states;
  states = phase_length net most t done ends.0 t' sound along.states ends.1;
  is_held = along.is_held;
  inputs = λ v ne input. kept v (along.alike.inputs v ne ∙ input) ∙ along.inputs v ne input
      ∙ sym (phase_keeps net v (input_in_range net sound v input) input most t t' done ends.0 ends.1);
  covers = tells;
}
