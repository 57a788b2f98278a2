-- The set of one channel of an own layout goes to the set of one channel of the flat layout, with as many squares and edges.
use Rattle.tree_circuits.proofs.Common.{◌≡◌, ℕ, sym, ◌∙◌, ap, subst, IsTrue, Some, go, stay, Chain-keeps, Transform, RawTech, is_channel}
use Rattle.tree_circuits.proofs.Common.{is_terminal, Layout, Place, AreNeighbours, AreOneChannel, place_back, role_of, place_forth, above_from_back}
use Rattle.tree_circuits.proofs.Common.{back_from_above, neighbours_above, neighbours_back, KeepsChannels}
use Rattle.tree_circuits.specs.Channels.{IsSameChannel}
use Rattle.tree_circuits.proofs.MovedSets.{edges_moved, moved_back, moved_forth, places_moved}
use Rattle.tree_circuits.proofs.SameRoles.{same_channel, same_terminal}

-- places of one channel have one type
pub one_type : (layout : Layout) (a b : Place) → AreOneChannel layout a b → layout a ≡ layout b
one_type layout a b chain = Chain-keeps layout (λ a b alike. alike.same) chain

module _ (raw : RawTech) (own : Layout) (placed : Transform) (flat : Layout) (kept : KeepsChannels raw own placed flat) where
  abbrev forth : Place → Place
  forth = place_forth placed

  abbrev back : Place → Place
  back = place_back placed

  -- a channel goes up
  pub channel_up : {a b : Place} → IsTrue (is_channel raw (own a)) → AreOneChannel own a b → AreOneChannel flat (forth a) (forth b)
  channel_up channel stay = stay
  channel_up channel (go {a = a} {b = b} alike rest) =
      let next = subst (λ (kind : ℕ). IsTrue (is_channel raw kind)) alike.same channel in
      go (record { near = neighbours_above placed a b alike.near; same = kept.same a channel ∙ alike.same ∙ sym (kept.same b next) })
      (channel_up next rest)

  -- the flat type at a place of the own channel is the own type at the way back
  pub flat_there : (place : Place) → IsTrue (is_channel raw (own (back place))) → flat place ≡ own (back place)
  flat_there place channel = ap flat (sym (above_from_back placed place)) ∙ kept.same (back place) channel

  -- beside it the role is kept
  pub role_there : (a b : Place) → AreNeighbours a b → IsTrue (is_channel raw (own (back a)))
      → role_of raw (own (back a)) (Some (flat b)) ≡ role_of raw (own (back a)) (Some (own (back b)))
  role_there a b near channel =
      ap (λ (place : Place). role_of raw (own (back a)) (Some (flat place))) (sym (above_from_back placed b))
      ∙ kept.roles (back a) (back b) (neighbours_back placed a b near) channel

  -- a flat channel that has an own channel's place comes back
  pub channel_back : {a b : Place} → IsTrue (is_channel raw (own (back a))) → AreOneChannel flat a b → AreOneChannel own (back a) (back b)
  channel_back channel stay = stay
  channel_back channel (go {a = a} {b = b} alike rest) =
      let fet = own (back a) in
      let there : flat b ≡ fet = sym alike.same ∙ flat_there a channel in
      let same : own (back b) ≡ fet = same_channel raw fet (flat b) (own (back b)) (role_there a b alike.near channel) there in
      go (record { near = neighbours_back placed a b alike.near; same = sym same })
      (channel_back (subst (λ (kind : ℕ). IsTrue (is_channel raw kind)) (sym same) channel) rest)

  module _ (from : Place) (channel : IsTrue (is_channel raw (own from))) where
    abbrev Own : Place → Type 0
    Own = AreOneChannel own from

    abbrev Flat : Place → Type 0
    Flat = AreOneChannel flat (forth from)

    -- what is of the own channel goes to the flat one
    pub set_there : (place : Place) → Own (back place) → Flat place
    set_there place chain = subst (λ (p : Place). Flat p) (above_from_back placed place) (channel_up channel chain)

    -- the own type at the way back from where the channel goes
    back_channel : IsTrue (is_channel raw (own (back (forth from))))
    back_channel = subst (λ (p : Place). IsTrue (is_channel raw (own p))) (sym (back_from_above placed from)) channel

    -- and comes back
    pub set_back : (place : Place) → Flat place → Own (back place)
    set_back place chain =
        subst (λ (p : Place). AreOneChannel own p (back place)) (back_from_above placed from) (channel_back back_channel chain)

    -- the same, from the places of the own layout
    pub set_up : (place : Place) → Own place → Flat (forth place)
    set_up place chain = channel_up channel chain

    pub set_down : (place : Place) → Flat (forth place) → Own place
    set_down place chain = subst (λ (p : Place). Own p) (back_from_above placed place) (set_back (forth place) chain)

    -- a place beside the flat channel is a terminal's where it is one in the own layout
    pub terminal_there : (a b : Place) → Flat a → AreNeighbours a b
        → is_terminal raw (own from) (flat b) ≡ is_terminal raw (own from) (own (back b))
    terminal_there a b chain near =
        let same : own from ≡ own (back a) = one_type own from (back a) (set_back a chain) in
        let here = subst (λ (kind : ℕ). IsTrue (is_channel raw kind)) same channel in
        subst (λ (kind : ℕ). is_terminal raw kind (flat b) ≡ is_terminal raw kind (own (back b))) (sym same)
        (same_terminal raw (own (back a)) (flat b) (own (back b)) (role_there a b near here))

    -- and so from the own layout
    pub terminal_up : (a b : Place) → Own a → AreNeighbours a b
        → is_terminal raw (own from) (flat (forth b)) ≡ is_terminal raw (own from) (own b)
    terminal_up a b chain near =
        terminal_there (forth a) (forth b) (set_up a chain) (neighbours_above placed a b near)
        ∙ ap (λ (p : Place). is_terminal raw (own from) (own p)) (back_from_above placed b)

    abbrev OwnTerminal : Place → Type 0
    OwnTerminal place = IsTrue (is_terminal raw (own from) (own place))

    abbrev FlatTerminal : Place → Type 0
    FlatTerminal place = IsTrue (is_terminal raw (flat (forth from)) (flat place))

    -- the type of the channel is the same
    type_up : flat (forth from) ≡ own from
    type_up = kept.same from channel

    -- a terminal beside the flat channel is one beside the own
    terminal_down : (a b : Place) → Flat a → AreNeighbours a b → FlatTerminal b → OwnTerminal (back b)
    terminal_down a b chain near listed =
        sym (terminal_there a b chain near) ∙ ap (λ (kind : ℕ). is_terminal raw kind (flat b)) (sym type_up) ∙ listed

    -- and back
    terminal_forth : (a b : Place) → Flat a → AreNeighbours a b → OwnTerminal (back b) → FlatTerminal b
    terminal_forth a b chain near listed =
        ap (λ (kind : ℕ). is_terminal raw kind (flat b)) type_up ∙ terminal_there a b chain near ∙ listed

    -- the channel is the same
    pub same_set : IsSameChannel raw own placed flat from
    same_set = record {
      places = λ to. (set_up to, set_down to);
      area = λ n. (
        places_moved forth back (moved_forth placed) Own Flat n set_there set_back,
        places_moved back forth (moved_back placed) Flat Own n set_down set_up,
      );
      perimeter = λ n. (
        edges_moved forth back (moved_forth placed) Own (λ (p : Place). Own p → ⊥) Flat (λ (p : Place). Flat p → ⊥) n set_there set_back
            (λ a b chain near out here. out (set_back b here)) (λ a b chain near out here. out (set_there b here)),
        edges_moved back forth (moved_back placed) Flat (λ (p : Place). Flat p → ⊥) Own (λ (p : Place). Own p → ⊥) n set_down set_up
            (λ a b chain near out here. out (set_up b here)) (λ a b chain near out here. out (set_down b here)),
      );
      terminals = λ n. (
        edges_moved forth back (moved_forth placed) Own OwnTerminal Flat FlatTerminal n set_there set_back terminal_forth terminal_down,
        edges_moved back forth (moved_back placed) Flat FlatTerminal Own OwnTerminal n set_down set_up
            (λ a b chain near listed. sym (terminal_up a b chain near)
            ∙ ap (λ (kind : ℕ). is_terminal raw kind (flat (forth b))) (sym type_up) ∙ listed)
            (λ a b chain near listed. ap (λ (kind : ℕ). is_terminal raw kind (flat (forth b))) type_up ∙ terminal_up a b chain near
            ∙ listed),
      );
    }
