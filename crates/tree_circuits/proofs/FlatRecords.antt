-- The record of one transistor of the flat layout, from that of its owner's.
use Rattle.tree_circuits.proofs.Common.{◌≡◌, ℕ, ℤ, pos, List, [], ◌∷◌, map, refl, sym, ◌∙◌, ap, subst, Some, slice_get, bytes_eq, map-map, In}
use Rattle.tree_circuits.proofs.Common.{Distinct, sum_on, IsLeast-iff, In-map_source, sum_on-map, RawTech, IsWellFormed, FetRec, NodeRec, full_name}
use Rattle.tree_circuits.proofs.Common.{Place, IsNoLater, AreOneChannel, IsTransistor, gate_length, place_back, Element, ids_of, placed, node_name}
use Rattle.tree_circuits.proofs.Common.{Distinct-names, pairwise_names, IsFetRecord, IsOfNode, IsOfFlatNode, flat_layout, NamedTree, NamedStanding}
use Rattle.tree_circuits.proofs.Common.{named_standings, place_forth, above_from_back, IsFlatFetRecord, IsOwnedFet, OwnedFet, OwnsItsChannels}
use Rattle.tree_circuits.proofs.Common.{AreRenamed, GivesFlatNames, HasTransistorAbove}
use Rattle.std.specs.Prelude.{if◌then◌else◌}
use Rattle.tree_names.specs.ExtModel.declared.records.TermRec.{TermRec}
use Rattle.tree_names.specs.CircuitModel.FlatFets.{IsFlatFet, side_name}
use Rattle.tree_circuits.proofs.FetElements.{GiveFlatNames, HasFetsOf}
use Rattle.tree_circuits.proofs.FlatTransistors.{flat_transistor}
use Rattle.tree_circuits.proofs.RenamedTerminals.{Fet, node_of}
use Rattle.tree_circuits.proofs.SameChannels.{one_type}

-- a terminal of a record as a pair, and a pair as a terminal of a record
abbrev pub pair_of : TermRec → List ℕ × ℤ
pair_of side = (side.node, side.length)

abbrev pub side_of : List ℕ × ℤ → TermRec
side_of terminal = record { node = terminal.0; length = terminal.1 }

-- terminals as pairs and back
sides_again : (sides : List TermRec) → map side_of (map pair_of sides) ≡ sides
sides_again [] = refl
sides_again (side ∷ sides) = ap (λ (rest : List TermRec). side ∷ rest) (sides_again sides)

module _ (nodes : List NodeRec) (element : Element) where
  -- the name of the flat node in which a node of the element lies
  abbrev pub rename : List ℕ → List ℕ
  rename name = node_name nodes (full_name (ids_of element) name)

  module _ (fet : Fet) (made flat : FetRec) (terminals : made.terminals ≡ map side_of fet.terminals)
      (is_flat : IsFlatFet nodes element made flat) where
    -- the names of the record's terminals are those of the transistor's
    side_names : map (side_name nodes element) made.terminals ≡ map (λ (terminal : List ℕ × ℤ). rename terminal.0) fet.terminals
    side_names = ap (map (side_name nodes element)) terminals ∙ map-map (side_name nodes element) side_of fet.terminals

    pair_names : map node_of (map pair_of flat.terminals) ≡ map (λ (side : TermRec). side.node) flat.terminals
    pair_names = map-map node_of pair_of flat.terminals

    -- the terminals of the flat record are the transistor's by the names of flat nodes
    pub are_renamed : AreRenamed rename fet.terminals (map pair_of flat.terminals)
    are_renamed = record {
      names = λ name. (
        (λ here. subst (In name) side_names ((is_flat.terminals name).0 (subst (In name) pair_names here))),
        (λ here. subst (In name) (sym pair_names) ((is_flat.terminals name).1 (subst (In name) (sym side_names) here))),
      );
      lengths = λ terminal here.
          let source = In-map_source pair_of terminal flat.terminals here in
          let weight : List ℕ → TermRec → ℤ = λ name part. if bytes_eq name (side_name nodes element part) then part.length else pos 0 in
          let same : source.0.length ≡ sum_on (λ (part : List ℕ × ℤ). weight source.0.node (side_of part)) fet.terminals =
          is_flat.lengths source.0 source.1.0 ∙ ap (sum_on (weight source.0.node)) terminals
          ∙ sum_on-map side_of (weight source.0.node) fet.terminals in
          let P : List ℕ × ℤ → Type 0 = λ t. t.1 ≡ sum_on (λ (part : List ℕ × ℤ). weight t.0 (side_of part)) fet.terminals in
          subst P source.1.1 same;
      once = subst (λ (names : List (List ℕ)). Distinct names) (sym pair_names)
          (Distinct-names (map (λ (side : TermRec). side.node) flat.terminals)
          (pairwise_names (map (λ (side : TermRec). side.node) flat.terminals) is_flat.in_order));
    }

module _ (raw : RawTech) (tree : NamedTree) (formed : IsWellFormed raw) (owns : OwnsItsChannels raw tree) (nodes : List NodeRec)
    (gives : GiveFlatNames raw tree nodes) (position : ℕ) (standing : NamedStanding)
    (there : slice_get (named_standings tree) position ≡ Some standing)
    (element : Element) (has : HasFetsOf raw standing element) where
  -- the names of the flat nodes, by the names that lead to the element
  element_names : GivesFlatNames raw tree standing (rename nodes element)
  element_names name place of_node =
      subst (λ (ids : List (List ℕ)). IsOfFlatNode raw tree (node_name nodes (full_name ids name)) (place_forth standing.placed place))
      (sym has.ids)
      (gives position standing there name place of_node)

  -- The transistor has an owner, a record in the flat circuit, and the places of the own transistor.
  pub record IsMade (fet : Fet) (flat : FetRec) : Type 0 where
    pub owned : OwnedFet
    pub is : IsOwnedFet raw tree owned
    pub of : IsFlatFetRecord raw tree owned flat
    pub owner : owned.owner ≡ position
    pub least : owned.least ≡ fet.least
    pub places : (place : Place) → AreOneChannel standing.own.layout fet.least place
        → AreOneChannel (flat_layout raw tree) owned.fet.least (place_forth standing.placed place)

  module _ (fet : Fet) (is : IsTransistor raw standing.own.layout (IsOfNode raw standing.own.layout standing.own.labels) fet)
      (made flat : FetRec)
      (of : IsFetRecord raw fet made) (is_flat : IsFlatFet nodes element made flat) where
    -- the transistor of the flat layout
    up : HasTransistorAbove raw tree standing (rename nodes element) fet (map pair_of flat.terminals)
    up =
        flat_transistor raw tree formed owns position standing there (rename nodes element) element_names fet is
        (map pair_of flat.terminals)
        (are_renamed nodes element fet made flat of.terminals is_flat)

    -- the owner's type at all its places is the channel's
    owns_all : (place : Place) → AreOneChannel (flat_layout raw tree) up.above.least place
        → standing.own.layout (place_back standing.placed place) ≡ up.above.kind
    owns_all place chain =
        let flat_places : Place → Type 0 = AreOneChannel (flat_layout raw tree) up.above.least in
        let back = place_back standing.placed place in
        let own_chain = (up.places back).1 (subst flat_places (sym (above_from_back standing.placed place)) chain) in
        sym (one_type standing.own.layout fet.least back own_chain) ∙ is.kind ∙ sym up.kind

    -- the square of the record is that of the least place
    made_square : record { x = made.x; y = made.y } ≡ fet.least.square
    made_square = let x = of.x in let y = of.y in (λ i. record { x = x i; y = y i })

    -- the gate of the flat record
    gate_is : flat.gate ≡ record { node = up.above.gate; length = gate_length up.above }
    gate_is =
        let node : flat.gate.node ≡ up.above.gate = is_flat.gate ∙ ap (side_name nodes element) of.gate ∙ sym up.gate in
        let length : flat.gate.length ≡ gate_length up.above =
        is_flat.gate_length ∙ ap (λ (side : TermRec). side.length) of.gate ∙ sym up.gate_length in
        (λ i. record { node = node i; length = length i })

    -- the transistor is made
    pub is_made : IsMade fet flat
    is_made = record {
      owned = record { owner = position; least = fet.least; fet = up.above };
      is = record {
        transistor = up.is;
        standing = standing;
        there = there;
        owns = owns_all;
        is_least = IsLeast-iff IsNoLater (AreOneChannel standing.own.layout fet.least)
            (λ place. AreOneChannel (flat_layout raw tree) up.above.least (place_forth standing.placed place))
            (λ place. (up.places place).0) (λ place. (up.places place).1) fet.least is.least;
      };
      of = record {
        rule = of.rule;
        listed = of.listed;
        channel = of.channel ∙ sym up.kind;
        kind = is_flat.kind ∙ of.kind;
        substrate = is_flat.substrate ∙ of.substrate;
        standing = standing;
        there = there;
        point = is_flat.point ∙ ap (placed element.uses) made_square ∙ has.moves fet.least.square;
        area = is_flat.area ∙ of.area ∙ sym up.area;
        perimeter = is_flat.perimeter ∙ of.perimeter ∙ sym up.perimeter;
        gate = gate_is;
        terminals = sym (sides_again flat.terminals) ∙ ap (map side_of) (sym up.terminals_are);
        in_order = is_flat.in_order;
      };
      owner = refl;
      least = refl;
      places = λ place. (up.places place).0;
    }
