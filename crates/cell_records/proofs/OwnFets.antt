-- The records that are made of the transistors of regions are those of the layout with its labels.
use Rattle.cell_records.proofs.Common.{◌≡◌, ◌<◌, ◌<ℤ◌, ◌-ℤ◌, ℕ, zero, suc, ℤ, pos, List, [], ◌∷◌, length, get_or, map, inr, refl, sym, ◌∙◌, ap}
use Rattle.cell_records.proofs.Common.{subst, arith, IsTrue, slice_index, All, get_or-map, length-map, In, sum_on, In-map, In-map_source, Pairwise}
use Rattle.cell_records.proofs.Common.{Pairwise-from_AllPairs, All-from_In, RawTech, IsWellFormed, FetRec, NodeRec, HasTypesOf, Layout, IsMaterial}
use Rattle.cell_records.proofs.Common.{Place, AreOneChannel, IsTerminalOf, Transistor, IsTransistor, AreTransistors, gate_length, IsNearPlace, Fet}
use Rattle.cell_records.proofs.Common.{transistor_of, IsOfNode, IsNodeBefore, AreFetRecords, name_at, term_of, IsSmallFet, IsRecordOfFet}
use Rattle.cell_records.proofs.Common.{AreRecordsOfFets}
use Rattle.std.specs.Prelude.{AllPairs}
use Rattle.std.proofs.lemmas.Option.{slice_get_within, get_or_from_slice_get}
use Rattle.finite_sets.proofs.Chains.{Chain-append, Chain-keeps}
use Rattle.finite_sets.proofs.Members.{In-get_or, In-index}
use Rattle.finite_sets.proofs.Pairs.{Pairwise-map, AllPairs-from_Pairwise}
use Rattle.finite_sets.proofs.Sums.{sum_on-map}
use Rattle.tech_model.specs.declared.raw.Label.{Label}
use Rattle.tech_model.specs.Types.{connects}
use Rattle.ext_model.specs.declared.records.TermRec.{TermRec}
use Rattle.tech_model.specs.ChannelRoles.{is_channel}
use Rattle.cell_paint.specs.LayoutModel.RegionTiles.{IsInRegion, AreRegions, regions_of}
use Rattle.cell_paint.specs.LayoutModel.Transistors.{AreFetsInOrder}
use Rattle.cell_paint.specs.LayoutModel.declared.region_tiles.RegionTile.{RegionTile}
use Rattle.own_record_laws.specs.Names.NamedNodes.{AreOneNamedNode}
use Rattle.fet_regions.specs.FloodNodes.TileShares.{no_tile, tile_at}
use Rattle.fet_regions.proofs.FloodNodes.TileEdges.{lies_in_one}
use Rattle.fet_regions.proofs.RoleLaws.{channel_type, type_not_space}
use Rattle.own_record_laws.proofs.CellNodes.NodePlaces.{AreOneNamedNode-sym}
use Rattle.own_record_laws.specs.CellNodes.RegionNodes.{AreNodesOfRegions}
use Rattle.own_record_laws.specs.TreeRecords.FetRecords.{IsFetRecord, terminal_names}
use Rattle.own_record_laws.proofs.FetSizes.{few_edges, terminals_total}
use Rattle.own_record_laws.proofs.SomeEdges.{some_edge}
use Rattle.cell_records.proofs.JoinedLaws.{key, joined_below}
use Rattle.cell_records.proofs.JoinedTransistors.{IsOfNumber, joined_transistor, joined_is, joined_gate_length}
use Rattle.cell_records.proofs.NodesByNumber.{origin, least_at, of_number, to_number, one_number, one_name_at, number_before}
use Rattle.cell_records.proofs.RenamedTransistors.{renamed, renamed_transistor, renamed_is}

abbrev no_fet : Fet
no_fet = record { kind = record { 0 = 0 }; point = record { x = pos 0; y = pos 0 }; area = pos 0; perimeter = pos 0; gate = 0; terminals = [] }

abbrev no_record : FetRec
no_record = record {
  kind = [];
  x = pos 0;
  y = pos 0;
  area = pos 0;
  perimeter = pos 0;
  substrate = [];
  gate = record { node = []; length = pos 0 };
  terminals = [];
}

-- a terminal of a record, with its node and length
abbrev pair_of : TermRec → List ℕ × ℤ
pair_of u = (u.node, u.length)

-- and back
abbrev term_from : List ℕ × ℤ → TermRec
term_from terminal = record { node = terminal.0; length = terminal.1 }

-- the transistor that the record of a transistor of regions tells
abbrev named_of : RawTech → Fet → FetRec → Transistor (List ℕ)
named_of raw fet made = record {
  kind = fet.kind.0;
  least = (transistor_of raw fet).least;
  area = fet.area;
  perimeter = fet.perimeter;
  gate = made.gate.node;
  terminals = map {B = List ℕ × ℤ} pair_of made.terminals;
}

-- the same of each
abbrev named_all : RawTech → List Fet → List FetRec → List (Transistor (List ℕ))
named_all raw [] made = []
named_all raw (fet ∷ fets) [] = []
named_all raw (fet ∷ fets) (rec ∷ made) = named_of raw fet rec ∷ named_all raw fets made

length-named_all : (raw : RawTech) (fets : List Fet) (made : List FetRec) → length made ≡ length fets → length (named_all raw fets made) ≡ length fets
length-named_all raw [] made same = refl
length-named_all raw (fet ∷ fets) [] same = absurd (omega (arith, same))
length-named_all raw (fet ∷ fets) (rec ∷ made) same = let rest = length-named_all raw fets made (omega (arith, same)) in omega (arith, rest)

named_at : (raw : RawTech) (fets : List Fet) (made : List FetRec) (k : ℕ) (fet : Fet) (rec : FetRec) (d : Transistor (List ℕ)) → length made ≡ length fets
    → k < length fets → get_or (named_all raw fets made) k d ≡ named_of raw (get_or fets k fet) (get_or made k rec)
named_at raw [] made k fet rec d same inside = absurd (omega (arith, inside))
named_at raw (first ∷ fets) [] k fet rec d same inside = absurd (omega (arith, same))
named_at raw (first ∷ fets) (one ∷ made) zero fet rec d same inside = refl
named_at raw (first ∷ fets) (one ∷ made) (suc k) fet rec d same inside = named_at raw fets made k fet rec d (omega (arith, same)) (omega (arith, inside))

-- they stand in the order of the regions' transistors
named_in_order : (raw : RawTech) (fets : List Fet) (made : List FetRec) → AreFetsInOrder (map (transistor_of raw) fets)
    → AreFetsInOrder (named_all raw fets made)
named_in_order raw [] made order = tt
named_in_order raw (fet ∷ fets) [] order = tt
named_in_order raw (fet ∷ []) (rec ∷ made) order = tt
named_in_order raw (fet ∷ next ∷ fets) (rec ∷ []) order = tt
named_in_order raw (fet ∷ next ∷ fets) (rec ∷ other ∷ made) order = (order.0, named_in_order raw (next ∷ fets) (other ∷ made) order.1)

-- terminals with the names of their nodes
terms_named : (nodes : List NodeRec) (ts : List (ℕ × ℤ))
    → map {B = List ℕ × ℤ} (renamed (name_at nodes)) ts ≡ map {B = List ℕ × ℤ} pair_of (map (term_of nodes) ts)
terms_named nodes [] = refl
terms_named nodes (u ∷ ts) = ap (λ rest. renamed (name_at nodes) u ∷ rest) (terms_named nodes ts)

terms_back : (us : List TermRec) → us ≡ map term_from (map {B = List ℕ × ℤ} pair_of us)
terms_back [] = refl
terms_back (u ∷ us) = ap (λ rest. u ∷ rest) (terms_back us)

module _ (raw : RawTech) (layout : Layout) (labels : List Label) (tiles : List RegionTile) (count : ℕ) (nodes : List NodeRec) (numbers : List ℕ)
    (well : IsWellFormed raw) (typed : HasTypesOf raw layout) (near : (place : Place) → IsMaterial layout place → IsNearPlace place)
    (regions : AreRegions (connects raw) layout tiles count) (of : AreNodesOfRegions raw layout labels tiles count nodes numbers) where
  abbrev Owns : ℕ → Place → Type 0
  Owns = IsInRegion tiles

  abbrev Has : ℕ → Place → Type 0
  Has = IsOfNumber Owns numbers

  abbrev N : Place → Place → Type 0
  N = AreOneNamedNode raw layout labels

  abbrev least : ℕ → Place
  least = least_at raw layout labels nodes well typed of.records

  -- a place is of one region
  regions_apart : (m n : ℕ) (place : Place) → Owns m place → Owns n place → m ≡ n
  regions_apart m n place p q =
      let index = lies_in_one tiles p.index q.index place regions.are_tiles.apart p.lies q.lies in
      let first = get_or_from_slice_get tiles p.index p.lies.tile no_tile p.lies.there in
      let second = get_or_from_slice_get tiles q.index q.lies.tile no_tile q.lies.there in
      let tile : p.lies.tile ≡ q.lies.tile = sym first ∙ ap (tile_at tiles) index ∙ second in
      sym p.numbered ∙ ap (λ (t : RegionTile). t.region) tile ∙ q.numbered

  -- a region with a place has a number
  region_within : (region : ℕ) (place : Place) → Owns region place → region < length numbers
  region_within region place inside =
      let index = slice_get_within tiles inside.index inside.lies.tile inside.lies.there in
      let many = length-map tiles (λ (t : RegionTile). t.region) in
      let tile = get_or_from_slice_get tiles inside.index inside.lies.tile no_tile inside.lies.there in
      let below = regions.numbered.below inside.index 0 (omega (arith, index, many)) in
      let number : get_or (regions_of tiles) inside.index 0 ≡ region = get_or-map (λ (t : RegionTile). t.region) tiles inside.index no_tile 0 index
      ∙ ap (λ (t : RegionTile). t.region) tile ∙ inside.numbered in
      let long = of.one_each in
      omega (arith, below, number, long)

  -- which is that of a node
  number_within : (region : ℕ) (place : Place) → Owns region place → slice_index numbers region < length nodes
  number_within region place inside = of.numbered region 0 (region_within region place inside)

  -- a place of a number is of the node with that number
  to_node : (number : ℕ) (place : Place) → Has number place → (number < length nodes) × N (least number) place
  to_node number place is = (
    subst (λ (n : ℕ). n < length nodes) is.numbered (number_within is.region place is.owned),
    subst (λ (n : ℕ). N (least n) place) is.numbered (of.places is.region place origin is.owned),
  )

  to_name : (number : ℕ) (place : Place) → Has number place → IsOfNode raw layout labels (name_at nodes number) place
  to_name number place is =
      let at = to_node number place is in of_number raw layout labels nodes well typed of.records number place at.0 at.1

  -- and back
  from_name : (number : ℕ) (place : Place) → number < length nodes → IsOfNode raw layout labels (name_at nodes number) place → Has number place
  from_name number place inside is =
      let chain = to_number raw layout labels nodes well typed of.records number place inside is in
      let at = regions.are_tiles.every place is.material in
      let region = at.1.tile.region in
      let here : Owns region place = record { index = at.0; lies = at.1; numbered = refl } in
      let own = to_node (slice_index numbers region) place (record { region = region; owned = here; numbered = refl }) in
      record {
        region = region;
        owned = here;
        numbered = one_number raw layout labels nodes well typed of.records (slice_index numbers region) number own.0 inside
            (Chain-append own.1 (AreOneNamedNode-sym raw layout labels chain));
      }

  module _ (fet : Fet) (is : IsTransistor raw layout Owns (transistor_of raw fet)) where
    abbrev t : Transistor ℕ
    t = transistor_of raw fet

    -- places of channels are near
    channel_near : (place : Place) → AreOneChannel layout t.least place → IsNearPlace place
    channel_near place chain =
        let kind : layout place ≡ t.kind = sym (Chain-keeps layout (λ a b alike. alike.same) chain) ∙ is.kind in
        near place (λ space. type_not_space raw well t.kind (channel_type raw well t.kind is.listed) (sym kind ∙ space))

    -- a region that is a terminal has a place
    terminal_within : (terminal : ℕ × ℤ) → In terminal fet.terminals → terminal.0 < length numbers
    terminal_within terminal among =
        let says = is.terminals terminal.0 terminal.1 among in
        let counted = some_edge (AreOneChannel layout t.least) (IsTerminalOf raw layout Owns t.kind terminal.0) terminal.1 says.0 says.1 in
        region_within terminal.0 counted.edge.1 counted.leads.to.owned

    -- the numbers of a transistor fit
    pub fet_is_small : IsSmallFet raw numbers fet
    fet_is_small =
        let total = terminals_total raw layout Owns t regions_apart is in
        let lengths = few_edges _ _ fet.area (sum_on (λ (u : ℕ × ℤ). u.1) fet.terminals) channel_near is.area total in
        let perimeter = few_edges _ _ fet.area fet.perimeter channel_near is.area is.perimeter in
        record {
          channel = is.listed;
          gate = region_within fet.gate t.least is.gate;
          regions = All-from_In (λ (u : ℕ × ℤ). u.0 < length numbers) fet.terminals terminal_within;
          some = All-from_In (λ (u : ℕ × ℤ). pos 0 <ℤ u.1) fet.terminals (λ u among. (is.terminals u.0 u.1 among).0);
          lengths = lengths.1;
          some_edges = perimeter.0;
          most_edges = perimeter.1;
        }

    module _ (made : FetRec) (rec : IsRecordOfFet raw nodes numbers fet made) where
      abbrev joined : Transistor ℕ
      joined = joined_transistor numbers rec.joined t

      joined_over_numbers : IsTransistor raw layout Has joined
      joined_over_numbers = joined_is raw layout Owns regions_apart numbers t is rec.joined rec.are_joined

      -- joined terminals have the numbers of nodes
      joined_within : (number : ℕ) → In number (map key rec.joined) → number < length nodes
      joined_within number among =
          let source = In-map_source key number rec.joined among in
          subst (λ (n : ℕ). n < length nodes) source.1.1
          (joined_below numbers fet.terminals rec.joined (length nodes) rec.are_joined fet_is_small.regions of.numbered source.0 source.1.0)

      named : IsTransistor raw layout (IsOfNode raw layout labels) (renamed_transistor (name_at nodes) joined)
      named = renamed_is raw layout Has (IsOfNode raw layout labels) (name_at nodes) joined joined_over_numbers to_name
          (λ number place among is. from_name number place (joined_within number among) is)
          (λ m n m_in n_in same. one_name_at raw layout labels nodes well typed of.records m n (joined_within m m_in) (joined_within n n_in) same)

      terms_are : map {B = List ℕ × ℤ} (renamed (name_at nodes)) rec.joined ≡ map {B = List ℕ × ℤ} pair_of made.terminals
      terms_are = terms_named nodes rec.joined ∙ ap (λ (us : List TermRec). map {B = List ℕ × ℤ} pair_of us) (sym rec.terminals)

      gate_is : name_at nodes (slice_index numbers fet.gate) ≡ made.gate.node
      gate_is = ap (λ (u : TermRec). u.node) (sym rec.gate)

      -- what the record tells is a transistor of the layout
      pub told_is : IsTransistor raw layout (IsOfNode raw layout labels) (named_of raw fet made)
      told_is = subst (IsTransistor raw layout (IsOfNode raw layout labels)) (λ k. record {
        kind = fet.kind.0;
        least = t.least;
        area = fet.area;
        perimeter = fet.perimeter;
        gate = gate_is k;
        terminals = terms_are k;
      }) named

      gate_length_is : made.gate.length ≡ gate_length (named_of raw fet made)
      gate_length_is =
          let length_of : List (List ℕ × ℤ) → ℤ = λ terms. fet.perimeter -ℤ sum_on (λ (u : List ℕ × ℤ). u.1) terms in
          ap (λ (u : TermRec). u.length) rec.gate
          ∙ sym (joined_gate_length raw layout Owns regions_apart numbers t is rec.joined rec.are_joined)
          ∙ ap (λ (z : ℤ). fet.perimeter -ℤ z) (sym (sum_on-map {Y = List ℕ × ℤ} (renamed (name_at nodes)) (λ (u : List ℕ × ℤ). u.1) rec.joined))
          ∙ ap length_of terms_are

      -- and the record is its
      pub fet_record_is : IsFetRecord raw (named_of raw fet made) made
      fet_record_is = record {
        rule = rec.rule;
        listed = rec.listed;
        channel = rec.channel;
        kind = rec.kind;
        substrate = rec.substrate;
        x = rec.x;
        y = rec.y;
        area = rec.area;
        perimeter = rec.perimeter;
        gate = (λ k. record { node = made.gate.node; length = gate_length_is k });
        terminals = terms_back made.terminals;
      }

      -- the nodes of terminals stand in order
      nodes_rise : (ts : List (ℕ × ℤ)) → ((u : ℕ × ℤ) → In u ts → u.0 < length nodes) → Pairwise (λ a b. a.0 < b.0) ts
          → Pairwise (λ a b. IsNodeBefore raw layout labels (name_at nodes a.0) (name_at nodes b.0)) ts
      nodes_rise [] within rise = tt
      nodes_rise (u ∷ ts) within rise = (
        (λ v later. number_before raw layout labels nodes well typed of.records u.0 v.0 (rise.0 v later) (within v (inr later))),
        nodes_rise ts (λ v later. within v (inr later)) rise.1,
      )

      pub terminals_rise : AllPairs (IsNodeBefore raw layout labels) (terminal_names made)
      terminals_rise =
          let Before = IsNodeBefore raw layout labels in
          subst (λ (us : List TermRec). AllPairs Before (map (λ (u : TermRec). u.node) us)) (sym rec.terminals)
          (AllPairs-from_Pairwise Before (map (λ (u : TermRec). u.node) (map (term_of nodes) rec.joined))
          (Pairwise-map (λ (u : TermRec). u.node) Before (map (term_of nodes) rec.joined)
          (Pairwise-map (term_of nodes) (λ (a b : TermRec). Before a.node b.node) rec.joined
          (nodes_rise rec.joined (λ u among. joined_within u.0 (In-map key u rec.joined among))
          (Pairwise-from_AllPairs (λ a b. a.0 < b.0) rec.joined rec.are_joined.in_order)))))

  module _ (found : List Fet) (are : AreTransistors raw layout Owns (map (transistor_of raw) found)) where
    transistor_at : (k : ℕ) (d : Fet) → k < length found → IsTransistor raw layout Owns (transistor_of raw (get_or found k d))
    transistor_at k d inside =
        are.sound (transistor_of raw (get_or found k d)) (In-map (transistor_of raw) (get_or found k d) found (In-get_or found k d inside))

    -- the numbers of all transistors fit
    pub fets_are_small : All (IsSmallFet raw numbers) found
    fets_are_small = λ k d inside. fet_is_small (get_or found k d) (transistor_at k d inside)

    module _ (made : List FetRec) (records : AreRecordsOfFets raw nodes numbers found made) where
      abbrev told : List (Transistor (List ℕ))
      told = named_all raw found made

      told_at : (k : ℕ) (fet : Fet) (rec : FetRec) (d : Transistor (List ℕ)) → k < length found
          → get_or told k d ≡ named_of raw (get_or found k fet) (get_or made k rec)
      told_at k fet rec d inside = named_at raw found made k fet rec d records.one_each inside

      -- what they tell are transistors
      sound : (tells : Transistor (List ℕ)) → In tells told → IsTransistor raw layout (IsOfNode raw layout labels) tells
      sound tells among =
          let x = In-index tells told among in
          let k = x.0 in
          let below = x.1.0 in
          let inside : k < length found = omega (arith, below, length-named_all raw found made records.one_each) in
          subst (IsTransistor raw layout (IsOfNode raw layout labels)) (sym (told_at k no_fet no_record tells inside) ∙ x.1.1 tells)
          (told_is (get_or found k no_fet) (transistor_at k no_fet inside) (get_or made k no_record) (records.each k no_fet no_record inside))

      -- and all that there are
      whole : (place : Place) → IsTrue (is_channel raw (layout place)) → (tells : Transistor (List ℕ)) × In tells told × AreOneChannel layout tells.least place
      whole place channel =
          let at = are.whole place channel in
          let source = In-map_source (transistor_of raw) at.0 found at.1 in
          let x = In-index source.0 found source.1.0 in
          let k = x.0 in
          let tells = named_of raw (get_or found k no_fet) (get_or made k no_record) in
          let least : (transistor_of raw (get_or found k no_fet)).least ≡ at.0.least = ap (λ (fet : Fet). (transistor_of raw fet).least) (x.1.1 no_fet)
          ∙ ap (λ (v : Transistor ℕ). v.least) source.1.1 in
          let below = x.1.0 in (
            tells,
            subst (λ (v : Transistor (List ℕ)). In v told) (told_at k no_fet no_record tells below)
                (In-get_or told k tells (omega (arith, below, length-named_all raw found made records.one_each))),
            subst (λ (p : Place). AreOneChannel layout p place) (sym least) at.2,
          )

      -- the records are those of the layout's transistors
      pub own_fets : AreFetRecords raw layout labels (IsNodeBefore raw layout labels) made
      own_fets =
          let so_many = length-named_all raw found made records.one_each in
          let one_each = records.one_each in
          record {
            found = told;
            transistors = record { sound = sound; whole = whole; in_order = named_in_order raw found made are.in_order };
            one_each = one_each ∙ sym so_many;
            each = λ k tells rec below.
                let inside : k < length found = omega (arith, below, so_many) in
                subst (λ (v : Transistor (List ℕ)). IsFetRecord raw v (get_or made k rec)) (sym (told_at k no_fet rec tells inside))
                (fet_record_is (get_or found k no_fet) (transistor_at k no_fet inside) (get_or made k rec) (records.each k no_fet rec inside));
            in_order = λ k rec below.
                let inside : k < length found = omega (arith, below, one_each) in
                terminals_rise (get_or found k no_fet) (transistor_at k no_fet inside) (get_or made k rec) (records.each k no_fet rec inside);
          }
