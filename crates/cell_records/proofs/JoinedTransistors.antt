-- The transistors of regions are the transistors of numbers of nodes, where the terminals of one number are joined.
use Rattle.cell_records.proofs.Common.{◌≡◌, ℕ, ◌<◌, ℤ, pos, ◌-ℤ◌, ◌<ℤ◌, true, List, map, filter, refl, sym, ◌∙◌, ap, subst, IsTrue, eq-eqb}
use Rattle.cell_records.proofs.Common.{slice_index, In, sum_on, In-map, In-map_source, Pairwise-from_AllPairs, RawTech, LeadsAcross, IsEdgeCount}
use Rattle.cell_records.proofs.Common.{Layout, Place, AreNeighbours, AreOneChannel, IsTerminalOf, Transistor, IsTransistor, gate_length}
use Rattle.cell_records.proofs.Common.{same_from_test, is_to, length_in, AreJoined}
use Rattle.finite_sets.proofs.Members.{In-filter, In-filter_source, In-filter_passes}
use Rattle.finite_sets.proofs.Sums.{sum_on-filter}
use Rattle.finite_sets.proofs.Totals.{Total-iff, Total-at, Total-unique}
use Rattle.tech_model.specs.ChannelRoles.{is_terminal}
use Rattle.own_record_laws.proofs.FetSizes.{edges_to_some, terminals_total}
use Rattle.cell_records.proofs.JoinedLaws.{key, told_some, told_here, sum_some, keys_once, keys_of_part}

-- The place is of a region that has the number.
pub record IsOfNumber (Owns : ℕ → Place → Type 0) (numbers : List ℕ) (number : ℕ) (place : Place) : Type 0 where
  pub region : ℕ
  pub owned : Owns region place
  pub numbered : slice_index numbers region ≡ number

-- the transistor with its terminals joined
abbrev pub joined_transistor : List ℕ → List (ℕ × ℤ) → Transistor ℕ → Transistor ℕ
joined_transistor numbers joined fet = record {
  kind = fet.kind;
  least = fet.least;
  area = fet.area;
  perimeter = fet.perimeter;
  gate = slice_index numbers fet.gate;
  terminals = joined;
}

module _ (raw : RawTech) (layout : Layout) (Owns : ℕ → Place → Type 0) (apart : (m n : ℕ) (place : Place) → Owns m place → Owns n place → m ≡ n)
    (numbers : List ℕ) (fet : Transistor ℕ) (is : IsTransistor raw layout Owns fet) (joined : List (ℕ × ℤ))
    (are : AreJoined numbers fet.terminals joined) where
  abbrev Channel : Place → Type 0
  Channel = AreOneChannel layout fet.least

  abbrev Has : ℕ → Place → Type 0
  Has = IsOfNumber Owns numbers

  -- no place has two numbers
  numbers_apart : (m n : ℕ) (place : Place) → Has m place → Has n place → m ≡ n
  numbers_apart m n place p q = sym p.numbered ∙ ap (slice_index numbers) (apart p.region q.region place p.owned q.owned) ∙ q.numbered

  -- each terminal has a length
  pub terminal_some : (t : ℕ × ℤ) → In t fet.terminals → pos 0 <ℤ t.1
  terminal_some t among = (is.terminals t.0 t.1 among).0

  abbrev To : ℕ → Place → Type 0
  To = IsTerminalOf raw layout Owns fet.kind

  abbrev part : ℕ → List (ℕ × ℤ)
  part number = filter (is_to numbers number) fet.terminals

  -- a place of a terminal of the number is of one of its regions
  from_part : (number : ℕ) (place : Place) → (n : ℕ) × (In n (map key (part number)) × To n place) → IsTerminalOf raw layout Has fet.kind number place
  from_part number place h =
      let source = In-map_source key h.0 (part number) h.1.0 in
      let passes = In-filter_passes (is_to numbers number) source.0 fet.terminals source.1.0 in
      record {
        listed = h.1.1.listed;
        owned = record {
          region = h.0;
          owned = h.1.1.owned;
          numbered = ap (slice_index numbers) (sym source.1.1) ∙ same_from_test (slice_index numbers source.0.0) number passes;
        };
      }

  to_part : (number : ℕ) (a b : Place) → Channel a → AreNeighbours a b → IsTerminalOf raw layout Has fet.kind number b
      → (n : ℕ) × (In n (map key (part number)) × To n b)
  to_part number a b chain near h =
      let at = is.whole a b chain near h.listed in
      let same = apart at.0 h.owned.region b at.2 h.owned.owned in
      let source = In-map_source key at.0 fet.terminals at.1 in
      let passes : is_to numbers number source.0 ≡ true = eq-eqb (slice_index numbers source.0.0) number
      (ap (slice_index numbers) (source.1.1 ∙ same) ∙ h.owned.numbered) in (
        source.0.0,
        (
          In-map key source.0 (part number) (In-filter (is_to numbers number) source.0 fet.terminals source.1.0 passes),
          record { listed = h.listed; owned = subst (λ (n : ℕ). Owns n b) (sym source.1.1) at.2 },
        ),
      )

  -- the length to a number counts the edges to its places
  edges_to : (number : ℕ) → IsEdgeCount Channel (IsTerminalOf raw layout Has fet.kind number) (sum_on (length_in numbers number) fet.terminals)
  edges_to number =
      let Some_of : Place → Type 0 = λ place. (n : ℕ) × (In n (map key (part number)) × To n place) in
      let once = keys_of_part (is_to numbers number) fet.terminals is.once in
      let edges = edges_to_some Channel To (λ m n place p q. apart m n place p.owned q.owned) (part number) once
      (λ n length among. (is.terminals n length (In-filter_source (is_to numbers number) (n, length) fet.terminals among)).1) in
      Total-at (LeadsAcross Channel (IsTerminalOf raw layout Has fet.kind number)) (λ e. pos 1) (sum_on (λ (t : ℕ × ℤ). t.1) (part number))
      (sum_on (length_in numbers number) fet.terminals) (sum_on-filter (is_to numbers number) (λ (t : ℕ × ℤ). t.1) fet.terminals)
      (Total-iff (LeadsAcross Channel Some_of) (LeadsAcross Channel (IsTerminalOf raw layout Has fet.kind number)) (λ e. pos 1)
      (sum_on (λ (t : ℕ × ℤ). t.1) (part number))
      (λ e h. record { from = h.from; to = from_part number e.1 h.to; near = h.near })
      (λ e h. record { from = h.from; to = to_part number e.0 e.1 h.from h.near h.to; near = h.near }) edges)

  terminal_is : (number : ℕ) (length : ℤ) → In {X = ℕ × ℤ} (number, length) joined
      → (pos 0 <ℤ length) × IsEdgeCount Channel (IsTerminalOf raw layout Has fet.kind number) length
  terminal_is number length among =
      let told = told_some numbers fet.terminals number length (are.sound number length among) in (
        subst (λ (z : ℤ). pos 0 <ℤ z) told.1 (sum_some (is_to numbers number) fet.terminals terminal_some told.0),
        Total-at (LeadsAcross Channel (IsTerminalOf raw layout Has fet.kind number)) (λ e. pos 1) (sum_on (length_in numbers number) fet.terminals) length
            told.1 (edges_to number),
      )

  terminal_there : (a b : Place) → Channel a → AreNeighbours a b → IsTrue (is_terminal raw fet.kind (layout b))
      → (number : ℕ) × In number (map key joined) × Has number b
  terminal_there a b chain near listed =
      let at = is.whole a b chain near listed in
      let source = In-map_source key at.0 fet.terminals at.1 in
      let number = slice_index numbers at.0 in
      let passes : is_to numbers number source.0 ≡ true = eq-eqb (slice_index numbers source.0.0) number (ap (slice_index numbers) source.1.1) in
      let length = sum_on (length_in numbers number) fet.terminals in (
        number,
        In-map key (number, length) joined (are.whole number length (told_here numbers fet.terminals source.0 number source.1.0 passes)),
        record { region = at.0; owned = at.2; numbered = refl },
      )

  -- the joined transistor is one over numbers
  pub joined_is : IsTransistor raw layout Has (joined_transistor numbers joined fet)
  joined_is = record {
    listed = is.listed;
    kind = is.kind;
    least = is.least;
    area = is.area;
    perimeter = is.perimeter;
    gate = record { region = fet.gate; owned = is.gate; numbered = refl };
    terminals = terminal_is;
    whole = terminal_there;
    once = keys_once joined (Pairwise-from_AllPairs (λ a b. a.0 < b.0) joined are.in_order);
  }

  -- and its gate is as long
  pub joined_gate_length : gate_length (joined_transistor numbers joined fet) ≡ gate_length fet
  joined_gate_length =
      ap (λ (z : ℤ). fet.perimeter -ℤ z)
      (Total-unique (LeadsAcross Channel (λ place. IsTrue (is_terminal raw fet.kind (layout place)))) (λ e. pos 1) (sum_on (λ (t : ℕ × ℤ). t.1) joined)
      (sum_on (λ (t : ℕ × ℤ). t.1) fet.terminals) (terminals_total raw layout Has (joined_transistor numbers joined fet) numbers_apart joined_is)
      (terminals_total raw layout Owns fet apart is))
