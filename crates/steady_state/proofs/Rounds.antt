-- Rounds: what each takes, and what it leaves at rest.
use Rattle.steady_state.proofs.Common.{◌≡◌, ◌≢◌, ℕ, suc, ◌+◌, ◌-◌, ◌<◌, ◌≤◌, List, [], ◌∷◌, Bool, true, false, ◌⊎◌, inl, inr, refl, sym, ap, subst}
use Rattle.steady_state.proofs.Common.{arith, length, slice_index, slice_index_or, slice_set, get_or-set_same, get_or-set_other, ◌∙◌, drop, take}
use Rattle.steady_state.proofs.Common.{get_or-take, replicate, cases_Bool, cases_eq, cases_lt, get_or_default, length-take-le, NodeSet, Level, X}
use Rattle.steady_state.proofs.Common.{Network, IsSound, is_input, state_of, Rounds, IsAmong, IsInside, IsNextLevel, IsStep, IsSteadyValue}
use Rattle.steady_state.proofs.Common.{IsInVicinity, IsStorage, count-le, known, none_inside, level_cases, chain_from, AreMadeX, IsRoundDue}
use Rattle.steady_state.proofs.Common.{AreSteady, KeepsOthers, AddsMarks, AreMarked, IsGated}
use Rattle.std.proofs.Common.{zero}
use Rattle.std.specs.Prelude.{cond, count_by, not}
use Rattle.std.proofs.lemmas.List.{get_or-drop, length-drop, take_all}
use Rattle.std.proofs.lemmas.List.Sums.{sum_by-cons}
use Rattle.switch_net.specs.Laws.{HoldsSeeds}
use Rattle.switch_net.specs.Phase.{AreForced, IsRound, IsTaken, is_forced}
use Rattle.switch_net.proofs.Forcing.{input_free, steady_stable}
use Rattle.switch_net.proofs.Listing.{inside_range}
use Rattle.switch_net.proofs.Unique.{one_value}
use Rattle.switch_net.proofs.Vicinities.{keeps_steady}
use Rattle.steady_state.proofs.Moving.{same_states}

-- ---- sets of forced nodes

-- in an empty set no node is marked
pub none_set : (nodes : ℕ) (set : NodeSet) → length set.inside ≡ nodes → set.count ≡ 0 → set.inside ≡ replicate nodes false
none_set nodes set fits none = all_out set.inside nodes fits (λ v ins. none_inside set.inside set.order set.count v set.listed none ins)
  where
    all_out : (xs : List Bool) (n : ℕ) → length xs ≡ n → ((v : ℕ) → IsInside xs v → ⊥) → xs ≡ replicate n false
    all_out [] zero len out = refl
    all_out [] (suc n) len out = absurd (omega (arith, len))
    all_out (x ∷ xs) zero len out = absurd (omega (arith, len))
    all_out (true ∷ xs) (suc n) len out = absurd (out 0 refl)
    all_out (false ∷ xs) (suc n) len out = ap (λ rest. false ∷ rest) (all_out xs n (omega (arith, len)) (λ v ins. out (suc v) ins))

-- of nodes that are no inputs there are at most as many as store charge
few_marked : (xs ys : List Bool) → length xs ≡ length ys → ((v : ℕ) → slice_index_or xs v false ≡ true → slice_index_or ys v false ≡ false)
    → count_by (λ b. b) xs ≤ count_by not ys
few_marked [] [] len out = omega arith
few_marked [] (y ∷ ys) len out = absurd (omega (arith, len))
few_marked (x ∷ xs) [] len out = absurd (omega (arith, len))
few_marked (true ∷ xs) (true ∷ ys) len out = absurd (let e = out 0 refl in cc)
few_marked (true ∷ xs) (false ∷ ys) len out =
    let rest = few_marked xs ys (omega (arith, len)) (λ v e. out (suc v) e) in
    omega (arith, rest, sum_by-cons (λ (b : Bool). cond b 1 0) true xs, sum_by-cons (λ (b : Bool). cond (not b) 1 0) false ys)
few_marked (false ∷ xs) (true ∷ ys) len out = few_marked xs ys (omega (arith, len)) (λ v e. out (suc v) e)
few_marked (false ∷ xs) (false ∷ ys) len out =
    let rest = few_marked xs ys (omega (arith, len)) (λ v e. out (suc v) e) in
    omega (arith, rest, sum_by-cons (λ (b : Bool). cond b 1 0) false xs, sum_by-cons (λ (b : Bool). cond (not b) 1 0) false ys)

pub few_storage : (net : Network) (set : NodeSet) → IsSound net → AreMarked net set → set.count ≤ count_by not net.inputs
few_storage net set sound k =
    let few = few_marked set.inside net.inputs (omega (arith, k.fits, sound.one_input)) (λ v ins. (k.storage v ins).1) in
    omega (arith, few, set.listed.counted)

-- a list from one place on, as a slice
pub slice_from : (xs : List ℕ) (n : ℕ) → take (length xs - n) (drop n xs) ≡ drop n xs
slice_from xs n = take_all (length xs - n) (drop n xs) (omega (arith, length-drop n xs))

-- the nodes that were added stand behind those that were there
pub added_listed : (old new : NodeSet) (v : ℕ) → AddsMarks old new → IsInside new.inside v → slice_index_or old.inside v false ≡ false
    → IsAmong (drop old.count (take new.count new.order)) (length (drop old.count (take new.count new.order))) v
added_listed old new v adds ins free = elim (cases_lt at.0 old.count) [
  | inl lt ↦ (
      let is : slice_index old.order at.0 ≡ v = sym (adds.same at.0 lt) ∙ at.2 in
      let was : IsInside old.inside v = subst (λ (x : ℕ). IsInside old.inside x) is (old.listed.listed at.0 lt) in
      absurd (cc))
  | inr ge ↦ (
      let back : old.count + (at.0 - old.count) ≡ at.0 = omega (arith, ge) in (
        at.0 - old.count,
        omega (arith, at.1, ge, length-drop old.count (take new.count new.order), length-take-le new.count new.order in_order),
        get_or-drop old.count (take new.count new.order) (at.0 - old.count) 0
            ∙ (ap (slice_index (take new.count new.order)) back ∙ (get_or-take new.count new.order at.0 0 at.1 ∙ at.2)),
      ))
]
  where
    at : IsAmong new.order new.count v
    at = known new.inside new.order new.count v new.listed ins

    in_order : new.count ≤ length new.order
    in_order = omega (arith, count-le new.inside new.order new.count new.listed, new.listed.room)

-- they are nodes of the set
pub added_within : (set : NodeSet) (n k d : ℕ) → k < length (drop n (take set.count set.order)) →
    slice_index_or (drop n (take set.count set.order)) k d < length set.inside
added_within set n k d lt =
    let taken : length (take set.count set.order) ≡ set.count = length-take-le set.count set.order in_order in
    let in_count : n + k < set.count = omega (arith, lt, taken, length-drop n (take set.count set.order)) in
    let in_list : n + k < length set.order = omega (arith, in_count, in_order) in
    rw (get_or-drop n (take set.count set.order) k d, get_or-take set.count set.order (n + k) d in_count, get_or_default set.order (n + k) d 0 in_list)
    (inside_range set.inside (slice_index set.order (n + k)) (set.listed.listed (n + k) in_count))
  where
    in_order : set.count ≤ length set.order
    in_order = omega (arith, count-le set.inside set.order set.count set.listed, set.listed.room)

-- what holds of the first n entries holds of the list of these
pub differ_take : (P : ℕ → Type 0) (xs : List ℕ) (n : ℕ) → n ≤ length xs → ((i : ℕ) → i < n → P (slice_index xs i)) → (i : ℕ) →
    i < length (take n xs) → P (slice_index (take n xs) i)
differ_take P xs n le h i lt =
    let lt' : i < n = omega (arith, lt, length-take-le n xs le) in
    subst P (sym (get_or-take n xs i 0 lt')) (h i lt')

-- ---- nodes that are made X

pub made_none : (xs : List ℕ) (s : List Level) → AreMadeX xs 0 s s
made_none xs s = record { made = λ i lt. absurd (omega arith); moved = λ v ne. absurd (ne refl) }

-- one node more
pub made_more : (xs : List ℕ) (n : ℕ) (s t : List Level) → slice_index xs n < length t → AreMadeX xs n s t
    → AreMadeX xs (n + 1) s (slice_set t (slice_index xs n) X)
made_more xs n s t in_t x = record {
  made = λ i lt. elim (cases_eq (slice_index xs i) (slice_index xs n)) [
    | inl same ↦ rw (same, get_or-set_same t (slice_index xs n) X X in_t) refl
    | inr other ↦ rw (get_or-set_other t (slice_index xs n) (slice_index xs i) X X other)
        (x.made i (elim (cases_eq i n) [ inl e ↦ absurd (other (ap (slice_index xs) e)) | inr ne ↦ omega arith ]))
  ];
  moved = λ v ne. elim (cases_eq v (slice_index xs n)) [
    | inl same ↦ (n, omega arith, sym same)
    | inr other ↦ (let e : state_of (slice_set t (slice_index xs n) X) v ≡ state_of t v = get_or-set_other t (slice_index xs n) v X X other in
        let q = x.moved v (λ is. ne (is ∙ sym e)) in (q.0, omega (arith, q.1), q.2))
  ];
}

-- ---- which nodes a round takes

-- a step that is worked out, and changes marked nodes alone
pub due_first : (net : Network) (forced : List Bool) (s next : List Level) (inside : List Bool) → IsStep net s next
    → ((v : ℕ) → IsInside inside v → IsStorage net v) → KeepsOthers inside s next → IsRoundDue net forced s next inside
due_first net forced s next inside step storage kept = record {
  steady = λ v ins. let st = storage v ins in (step.each v st.0).storage st.1;
  kept = kept;
  rest = λ v st free out. subst (λ (x : Level). IsNextLevel net s v x) (kept v out) (step.each v st.0);
}

module _ (net : Network) (sound : IsSound net) (forced : List Bool) (s next : List Level) (inside : List Bool) (due : IsRoundDue net forced s next inside) where
  taken_marked : (v : ℕ) → IsTaken net forced s v → IsInside inside v
  taken_marked v taken = elim (cases_Bool (slice_index_or inside v false)) [
    | inl ins ↦ ins
    | inr out ↦ elim (cases_Bool (is_input net v)) [
      | inl e ↦ absurd (input_free net forced s v e taken)
      | inr e ↦ absurd (taken.moves (due.rest v (taken.within, e) taken.free out))
    ]
  ]

  -- a node that is taken differs
  taken_differs : (v : ℕ) → IsTaken net forced s v → state_of s v ≢ state_of next v
  taken_differs v taken same =
      let steady : IsSteadyValue net s v (state_of s v) = subst (IsSteadyValue net s v) (sym same) (due.steady v (taken_marked v taken)) in
      taken.moves (record { input = λ e. refl; storage = λ e. steady })

  -- a node that differs is taken, if it is not forced yet
  differs_taken : ((v : ℕ) → IsInside inside v → IsStorage net v) → (v : ℕ) → state_of s v ≢ state_of next v → is_forced forced v ≡ false
      → IsTaken net forced s v
  differs_taken storage v ne free =
      let ins : IsInside inside v = elim (cases_Bool (slice_index_or inside v false)) [ inl ins ↦ ins | inr out ↦ absurd (ne (sym (due.kept v out))) ] in
      let st = storage v ins in
      record {
        within = st.0;
        free = free;
        moves = λ stays. ne (one_value net s sound v (state_of s v) (state_of next v) st.0 (stays.storage st.1) (due.steady v ins));
      }

-- ---- a round

-- The nodes xs, which are those that differ, were made X and forced.
pub record IsForcing (s next : List Level) (xs : List ℕ) (old new : NodeSet) (t after : List Level) : Type 0 where
  pub found : (v : ℕ) → state_of s v ≢ state_of next v → IsAmong xs (length xs) v
  pub differ : (i : ℕ) → i < length xs → state_of s (slice_index xs i) ≢ state_of next (slice_index xs i)
  pub fits : length new.inside ≡ length old.inside
  pub adds : AddsMarks old new
  pub only : (v : ℕ) → IsInside new.inside v → IsInside old.inside v ⊎ IsAmong xs (length xs) v
  pub all : (i : ℕ) → i < length xs → IsInside new.inside (slice_index xs i)
  pub one_state : length t ≡ length s
  pub one_next : length after ≡ length t
  pub made : AreMadeX xs (length xs) s t
  pub made_next : AreMadeX xs (length xs) next after

module _ (net : Network) (sound : IsSound net) (s next : List Level) (inside : List Bool) (xs : List ℕ) (old new : NodeSet) (t after : List Level)
    (due : IsRoundDue net old.inside s next inside) (storage : (v : ℕ) → IsInside inside v → IsStorage net v)
    (was_x : (v : ℕ) → IsInside old.inside v → state_of s v ≡ X) (f : IsForcing s next xs old new t after) where
  listed_taken : (v : ℕ) → IsAmong xs (length xs) v → is_forced old.inside v ≡ false → IsTaken net old.inside s v
  listed_taken v q free = differs_taken net sound old.inside s next inside due storage v (let at = q.2 in rw at at (f.differ q.0 q.1)) free

  listed_x : (v : ℕ) → IsAmong xs (length xs) v → state_of t v ≡ X
  listed_x v q = let at = q.2 in rw at at (f.made.made q.0 q.1)

  listed_forced : (v : ℕ) → IsAmong xs (length xs) v → IsInside new.inside v
  listed_forced v q = let at = q.2 in rw at at (f.all q.0 q.1)

  -- what is forced stores charge
  pub forced_storage : ((v : ℕ) → IsInside old.inside v → IsStorage net v) → (v : ℕ) → IsInside new.inside v → IsStorage net v
  forced_storage before v ins = elim (f.only v ins) [
    | inl was ↦ before v was
    | inr q ↦ (let at = q.2 in
        let ne : state_of s v ≢ state_of next v = rw at at (f.differ q.0 q.1) in
        storage v (elim (cases_Bool (slice_index_or inside v false)) [ inl ins ↦ ins | inr out ↦ absurd (ne (sym (due.kept v out))) ]))
  ]

  -- what was forced before stays as it is
  forced_keeps : (v : ℕ) → IsInside old.inside v → state_of t v ≡ state_of s v
  forced_keeps v ins = elim (level_cases (state_of s v) (state_of t v)) [ inl e ↦ sym e | inr ne ↦ listed_x v (f.made.moved v ne) ∙ sym (was_x v ins) ]

  taken : (v : ℕ) → IsTaken net old.inside s v → (state_of t v ≡ X) × (is_forced new.inside v ≡ true)
  taken v is = let q = f.found v (taken_differs net sound old.inside s next inside due v is) in (listed_x v q, listed_forced v q)

  others : (v : ℕ) → ¬ (IsTaken net old.inside s v) → (state_of t v ≡ state_of s v) × (is_forced new.inside v ≡ is_forced old.inside v)
  others v isnt = elim (cases_Bool (is_forced old.inside v)) [
    | inl was ↦ (forced_keeps v was, f.adds.grown v was ∙ sym was)
    | inr free ↦ (
      elim (level_cases (state_of s v) (state_of t v)) [ inl e ↦ sym e | inr ne ↦ absurd (isnt (listed_taken v (f.made.moved v ne) free)) ],
      elim (cases_Bool (is_forced new.inside v)) [
        | inl now ↦ elim (f.only v now) [ inl was ↦ now ∙ sym was | inr q ↦ absurd (isnt (listed_taken v q free)) ]
        | inr out ↦ out ∙ sym free
      ],
    )
  ]

  -- more nodes are forced: it is a round
  pub is_round : new.count ≢ old.count → IsRound net old.inside s new.inside t
  is_round more = record { one_state = f.one_state; one_mark = f.fits; some = (v, listed_taken v listed free); taken = taken; others = others }
    where
      v : ℕ
      v = slice_index new.order old.count

      lt : old.count < new.count
      lt = omega (arith, f.adds.more, more)

      free : is_forced old.inside v ≡ false
      free = elim (cases_Bool (is_forced old.inside v)) [
        | inl was ↦ (let q = known old.inside old.order old.count v old.listed was in
            absurd (new.listed.distinct q.0 old.count q.1 lt (f.adds.same q.0 q.1 ∙ q.2)))
        | inr isnt ↦ isnt
      ]

      listed : IsAmong xs (length xs) v
      listed = elim (f.only v (new.listed.listed old.count lt)) [ inl was ↦ absurd (let isnt = free in cc) | inr q ↦ q ]

  -- what a step would make of the nodes is forgotten
  pub next_same : after ≡ t
  next_same = same_states after t f.one_next (λ v ne.
      let out : IsAmong xs (length xs) v → ⊥ = λ q. ne ((let at = q.2 in rw at at (f.made_next.made q.0 q.1)) ∙ sym (listed_x v q)) in
      let a : state_of next v ≡ state_of after v = elim (level_cases (state_of next v) (state_of after v))
      [ inl e ↦ e | inr d ↦ absurd (out (f.made_next.moved v d)) ] in
      let b : state_of s v ≡ state_of t v = elim (level_cases (state_of s v) (state_of t v)) [ inl e ↦ e | inr d ↦ absurd (out (f.made.moved v d)) ] in
      let c : state_of s v ≡ state_of next v = elim (level_cases (state_of s v) (state_of next v)) [ inl e ↦ e | inr d ↦ absurd (out (f.found v d)) ] in
      ne (sym a ∙ (sym c ∙ b)))

  -- ---- no node more is forced

  module _ (same : new.count ≡ old.count) where
    none_more : (v : ℕ) → IsInside new.inside v → IsInside old.inside v
    none_more v ins =
        let q = known new.inside new.order new.count v new.listed ins in
        let lt : q.0 < old.count = omega (arith, q.1, same) in
        let is : slice_index old.order q.0 ≡ v = sym (f.adds.same q.0 lt) ∙ q.2 in
        subst (λ (x : ℕ). IsInside old.inside x) is (old.listed.listed q.0 lt)

    stays : t ≡ s
    stays = same_states t s f.one_state (λ v ne. ne (forced_keeps v (none_more v (listed_forced v (f.made.moved v (λ e. ne (sym e)))))))

    none_taken : (v : ℕ) → ¬ (IsTaken net old.inside s v)
    none_taken v is =
        let was = none_more v (taken v is).1 in
        let free = is.free in
        cc

    pub are_over : (n : ℕ) (first : List Level) → Rounds net n (replicate net.nodes false) first old.inside s → AreForced net n first t
    are_over n first reached =
        subst (λ (x : List Level). AreForced net n first x) (sym stays) (record { forced = old.inside; reached = reached; over = none_taken })

  -- ---- the next round

  module _ (seeds marked : List Bool) (ys : List ℕ) (later : List Level)
      (added : (v : ℕ) → IsInside new.inside v → is_forced old.inside v ≡ false → IsAmong ys (length ys) v)
      (changed : (i : ℕ) → i < length ys → IsStorage net (slice_index ys i) → IsInside seeds (slice_index ys i))
      (gated : (i : ℕ) → i < length ys → IsGated net seeds (slice_index ys i))
      (joined : (m v : ℕ) → IsInside seeds m → IsInVicinity net t m v → IsInside marked v)
      (steady : AreSteady net t marked later) (kept : KeepsOthers marked t later) where
    -- a node whose state changed was forced just now
    just_forced : (v : ℕ) → state_of s v ≢ state_of t v → IsAmong ys (length ys) v
    just_forced v ne = elim (cases_Bool (is_forced old.inside v)) [
      | inl was ↦ absurd (ne (sym (forced_keeps v was)))
      | inr free ↦ added v (listed_forced v (f.made.moved v ne)) free
    ]

    just_gated : (v : ℕ) → state_of s v ≢ state_of t v → IsGated net seeds v
    just_gated v ne = let q = just_forced v ne in let at = q.2 in rw at at (gated q.0 q.1)

    held : HoldsSeeds net s t (λ u. IsStorage net u → IsInside seeds u)
    held = record {
      changed = λ u ne st. let q = just_forced u ne in let at = q.2 in rw at at (changed q.0 q.1 (rw at st));
      left = λ w c ne. (let r = just_gated w.gate ne c.0 w c.1 (rw c.2 refl) in rw c.2 at r.0);
      right = λ w c ne. (let r = just_gated w.gate ne c.0 w c.1 (rw c.2 refl) in rw c.2 at r.1);
    }

    -- a node that is free and in no vicinity of those rests
    still : (v : ℕ) → IsStorage net v → is_forced new.inside v ≡ false → slice_index_or marked v false ≡ false → IsNextLevel net t v (state_of t v)
    still v st free out =
        let isnt : ¬ (IsTaken net old.inside s v) = λ is. let now = (taken v is).1 in cc in
        let same = others v isnt in
        let before : is_forced old.inside v ≡ false = sym same.1 ∙ free in
        let steady_before = steady_stable net s v (state_of s v)
        (λ never. isnt (record { within = st.0; free = before; moves = λ stays. never (stays.storage st.1) })) in
        let steady_now = keeps_steady net sound s t (λ a e. (others a (input_free net old.inside s a e)).0) (λ u. IsStorage net u → IsInside seeds u) held v st
        (λ n seed i. let r = joined n v (seed (chain_from net t n i.chain i.is_chain)) i in cc) (state_of s v) steady_before in
        record { input = λ e. refl; storage = λ e. subst (IsSteadyValue net t v) (sym same.0) steady_now }

    pub due_next : IsRoundDue net new.inside t later marked
    due_next = record { steady = steady; kept = kept; rest = still }
