-- What a wiring says of its network.
use Rattle.steady_state.proofs.Common.{◌≡◌, ℕ, ◌+◌, ◌-◌, ◌<◌, ◌≤◌, List, inl, inr, arith, length, slice_index, slice_index_or, drop, get_or-take}
use Rattle.steady_state.proofs.Common.{◌∙◌, cases_eq, get_or_default, Contains-get_or, Switch, Left, Right, Terminal, Gate, End, IsSound, node_at}
use Rattle.steady_state.proofs.Common.{no_switch, network_in, sorted_at}
use Rattle.std.specs.Prelude.{slice_range}
use Rattle.std.proofs.lemmas.List.{get_or-drop, length-take, length-drop}
use Rattle.switch_net.specs.declared.adjacency.SortedSwitches.{SortedSwitches}
use Rattle.switch_net.specs.Sorted.{AreSorted, earlier}
use Rattle.steady_state.specs.declared.wiring.Wiring.{Wiring}
use Rattle.steady_state.specs.steps.Wired.{AreSwitchesAt, IsSwitchOf}

pub sound_of : (net : Wiring) → IsSound (network_in net)
sound_of net = record { switches_within = net.switches_within; one_size = net.one_size; one_input = net.one_input; sizes_in_range = net.sizes_in_range }

-- the switches are sorted at each terminal
pub sorted : (net : Wiring) (terminal : Terminal) → AreSorted net.nodes net.switches.now terminal (sorted_at terminal net)
sorted net Gate = net.sorted.gate
sorted net (End Left) = net.sorted.left
sorted net (End Right) = net.sorted.right

-- the switch at a place
pub switch_at : (net : Wiring) (k : ℕ) (d : Switch) → k < length net.switches.now → IsSwitchOf (network_in net) (slice_index_or net.switches.now k d)
switch_at net k d lt =
    let within = net.switches_within k d lt in
    record { stands = Contains-get_or net.switches.now k d lt; gate = within.0; left = within.1; right = within.2 }

module _ (xs : List ℕ) (a b : ℕ) (rising : a ≤ b) (within : b ≤ length xs) where
  run_length : length (slice_range xs a b) ≡ b - a
  run_length = omega (arith, length-take (b - a) (drop a xs), length-drop a xs)

  run_get : (i : ℕ) → i < b - a → slice_index (slice_range xs a b) i ≡ slice_index xs (a + i)
  run_get i lt = get_or-take (b - a) (drop a xs) i 0 lt ∙ get_or-drop a xs i 0

-- a node's run in the sorted switches has its switches
pub run_is : (nodes : ℕ) (switches : List Switch) (terminal : Terminal) (sorted : SortedSwitches) (v : ℕ) → AreSorted nodes switches terminal sorted →
    v < nodes →
    AreSwitchesAt switches terminal v (slice_range sorted.places (slice_index sorted.starts v) (slice_index sorted.starts (v + 1)))
run_is nodes switches terminal sorted v s lt = record {
  stand = λ i in_run. rw (get i (in_length i in_run)) ((listed i no_switch (in_length i in_run)).0);
  own = λ i d in_run. rw (get i (in_length i in_run)) ((listed i d (in_length i in_run)).1);
  all = λ k d in_k is.
      let fits = rw is at (s.fits k d in_k) in
      let known = rw is at (s.known k d in_k) in
      let rank : ℕ = earlier (node_at terminal) switches k v in
      (rank, omega (arith, fits, run_length sorted.places a b rising within), get rank (omega (arith, fits)) ∙ known);
}
  where
    a : ℕ
    a = slice_index sorted.starts v

    b : ℕ
    b = slice_index sorted.starts (v + 1)

    rising : a ≤ b
    rising = s.rising v lt

    within : b ≤ length sorted.places
    within = s.within v lt

    get : (i : ℕ) → i < b - a → slice_index (slice_range sorted.places a b) i ≡ slice_index sorted.places (a + i)
    get i lt' = run_get sorted.places a b rising within i lt'

    in_length : (i : ℕ) → i < length (slice_range sorted.places a b) → i < b - a
    in_length i lt' = omega (arith, lt', run_length sorted.places a b rising within)

    listed : (i : ℕ) (d : Switch) → i < b - a → (slice_index sorted.places (a + i) < length switches) ×
        (node_at terminal (slice_index_or switches (slice_index sorted.places (a + i)) d) ≡ v)
    listed i d lt' = s.listed v (a + i) d lt (omega arith) (omega (arith, lt'))

module _ (switches : List Switch) (terminal : Terminal) (v : ℕ) (places : List ℕ) (at : AreSwitchesAt switches terminal v places) where
  -- what holds of the switch at each place of the run holds of each switch of the node
  pub each_at : (P : Switch → Type 0) → ((i : ℕ) → i < length places → (d : Switch) → P (slice_index_or switches (slice_index places i) d)) →
      (k : ℕ) (d : Switch) → k < length switches → node_at terminal (slice_index_or switches k d) ≡ v → P (slice_index_or switches k d)
  each_at P h k d lt is = let q = at.all k d lt is in let same = q.2 in rw same at (h q.0 q.1 d)

  -- one place more is gone by
  pub next_at : (P : Switch → Type 0) (n : ℕ) (e : Switch) → n < length places → ((i : ℕ) → i < n → (d : Switch) →
      P (slice_index_or switches (slice_index places i) d)) →
      P (slice_index_or switches (slice_index places n) e) → (i : ℕ) → i < n + 1 → (d : Switch) → P (slice_index_or switches (slice_index places i) d)
  next_at P n e lt old here i lt' d = elim (cases_eq i n) [
    | inl same ↦ rw (same, get_or_default switches (slice_index places n) d e (at.stand n lt)) here
    | inr other ↦ old i (omega arith) d
  ]
