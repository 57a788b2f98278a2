-- A node outside the vicinities of the seeds keeps its value.
use Rattle.switch_net.proofs.Common.{◌≡◌, ℕ, List, [], ◌∷◌, true, inl, inr, refl, sym, Contains, cases_Bool, Level, Switch, Network, IsSound, Hop}
use Rattle.switch_net.proofs.Common.{Joins, is_input, state_of, end_of, is_closed_or_unknown, IsNextLevel, IsSteadyValue, IsStep}
use Rattle.switch_net.specs.Vicinity.{IsStorage, IsChain, IsInVicinity}
use Rattle.switch_net.specs.Laws.{HoldsSeeds}
use Rattle.switch_net.proofs.Ranges.{level_cases, input_in_range, ends_in_range}
use Rattle.switch_net.proofs.Locality.{AgreeOn, other_way, same_steady}

module _ (net : Network) (s : List Level) where
  pub chain_from : (n : ℕ) (p : List Hop) → IsChain net s n p → IsStorage net n
  chain_from n [] i = i
  chain_from n (h ∷ p) i = chain_from n p i.0

  pub chain_to : (n : ℕ) (p : List Hop) → IsChain net s n p → IsStorage net (end_of n p)
  chain_to n [] i = i
  chain_to n (h ∷ p) i = i.4

  pub in_self : (n : ℕ) → IsStorage net n → IsInVicinity net s n n
  in_self n i = record { chain = []; is_chain = i; ends = refl }

  pub in_more : (n a b : ℕ) (w : Switch) → IsInVicinity net s n a → Contains net.switches w → Joins w a b → is_closed_or_unknown s w ≡ true →
      IsStorage net b → IsInVicinity net s n b
  in_more n a b w v c j o st = record { chain = record { through = w; to = b } ∷ v.chain; is_chain = (v.is_chain, c, rw v.ends j, o, st); ends = refl }

  -- a chain goes on along another
  along : (n a : ℕ) (p : List Hop) → IsInVicinity net s n a → IsChain net s a p → IsInVicinity net s n (end_of a p)
  along n a [] v i = v
  along n a (h ∷ p) v i = in_more n (end_of a p) h.to h.through (along n a p v i.0) i.1 i.2 i.3 i.4

  pub turned : (w : Switch) (a b : ℕ) → Joins w a b → Joins w b a
  turned w a b (inl (p, q)) = inr (q, p)
  turned w a b (inr (p, q)) = inl (q, p)

  -- a chain leads back
  back : (a : ℕ) (p : List Hop) → IsChain net s a p → IsInVicinity net s (end_of a p) a
  back a [] i = in_self a i
  back a (h ∷ p) i =
      let one = in_more h.to h.to (end_of a p) h.through (in_self h.to i.4) i.1 (turned h.through (end_of a p) h.to i.2) i.3 (chain_to a p i.0) in
      let b = back a p i.0 in
      let r = along h.to (end_of a p) b.chain one b.is_chain in rw b.ends at r

  pub in_turn : (n v : ℕ) → IsInVicinity net s n v → IsInVicinity net s v n
  in_turn n v i = let b = back n i.chain i.is_chain in rw i.ends at b

-- two states with the same inputs, and a node that is in no vicinity, by the second, of what differs between them
module _ (net : Network) (sound : IsSound net) (s t : List Level) (same_inputs : (a : ℕ) → is_input net a ≡ true → state_of t a ≡ state_of s a)
    (IsSeed : ℕ → Type 0) (seeds : HoldsSeeds net s t IsSeed) (v : ℕ) (storage : IsStorage net v)
    (outside : (n : ℕ) → IsSeed n → IsInVicinity net t n v → ⊥) where
  -- no node of its vicinity is a seed
  none_seed : (u : ℕ) → IsInVicinity net t v u → IsSeed u → ⊥
  none_seed u i sd = outside u sd (in_turn net t v u i)

  quiet_part : AgreeOn net t s (IsInVicinity net t v)
  quiet_part = record {
    closed = λ w a b c j o i. elim (cases_Bool (is_input net a)) [
      | inl e ↦ inr e
      | inr e ↦ inl (in_more net t v b a w i c (turned net t w a b j) o ((ends_in_range net sound w a b c j).0, e))
    ];
    gates = λ w a b c j i. elim (level_cases (state_of s w.gate) (state_of t w.gate)) [
      | inl e ↦ sym e
      | inr ne ↦ absurd (none_seed b i (elim j [ inl x ↦ rw (← x.1) (seeds.right w c ne) | inr x ↦ rw (← x.1) (seeds.left w c ne) ]))
    ];
    inputs = λ w a b c j o e i. same_inputs a e;
    nodes = λ u i. elim (level_cases (state_of s u) (state_of t u)) [ inl e ↦ sym e | inr ne ↦ absurd (none_seed u i (seeds.changed u ne)) ];
  }

  -- its steady value is the same in both
  pub keeps_steady : (x : Level) → IsSteadyValue net s v x → IsSteadyValue net t v x
  keeps_steady x st = same_steady net s t (IsInVicinity net t v) sound (other_way net t s (IsInVicinity net t v) quiet_part) v x (in_self net t v storage) st

-- after a step, it keeps its value
pub keeps_value : (net : Network) → IsSound net → (s t : List Level) → IsStep net s t → (IsSeed : ℕ → Type 0) → HoldsSeeds net s t IsSeed → (v : ℕ) →
    IsStorage net v → ((n : ℕ) → IsSeed n → IsInVicinity net t n v → ⊥) → IsNextLevel net t v (state_of t v)
keeps_value net sound s t step IsSeed seeds v storage outside =
    let st = (step.each v storage.0).storage storage.1 in
    let kept = keeps_steady net sound s t (λ a e. (step.each a (input_in_range net sound a e)).input e) IsSeed seeds v storage outside (state_of t v) st in
    record { input = λ e. absurd (let f = storage.1 in cc); storage = λ e. kept }
