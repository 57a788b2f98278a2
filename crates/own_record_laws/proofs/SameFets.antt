-- The flat transistors are the layout's, with terminals in another order.
use Rattle.own_record_laws.proofs.Common.{◌≡◌, ◌<◌, ℕ, suc, ℤ, List, [], ◌∷◌, map, length, get_or, inl, inr, refl, sym, ◌∙◌, ap, subst, arith}
use Rattle.own_record_laws.proofs.Common.{map-map, In, Distinct, sum_on, In-map, In-map_source, All-from_In, Distinct-unmap, Label, RawTech, TermRec}
use Rattle.own_record_laws.proofs.Common.{FetRec, Place, Layout, Transistor, IsTransistor, AreOneChannel, AreInNameOrder, IsOfNode, IsFetRecord}
use Rattle.std.proofs.Common.{zero, ◌-ℤ◌}
use Rattle.std.specs.Prelude.{AllPairs}
use Rattle.full_names.proofs.FiniteSets.Pairs.{AllPairs-from_Pairwise}
use Rattle.full_names.proofs.FiniteSets.Sums.{sum_on-same_things}
use Rattle.tree_records.specs.LayoutModel.Transistors.{AreFetsInOrder, AreTransistors}
use Rattle.full_names.proofs.ListOrders.{pairwise_names, Distinct-names}
use Rattle.tree_records.specs.FetRecords.{IsNameBefore, AreFetRecords, terminal_names}
use Rattle.own_record_laws.proofs.SameTerminals.{sides_of}

-- transistors whose nodes go by their names
abbrev pub Found : Type 0
Found = Transistor (List ℕ)

-- a terminal as a pair, and as a record has it
abbrev pub pair_of : TermRec → List ℕ × ℤ
pair_of side = (side.node, side.length)

-- a pair as the terminal of a record
abbrev pub side_of : List ℕ × ℤ → TermRec
side_of terminal = record { node = terminal.0; length = terminal.1 }

-- the transistor with the terminals of a record
abbrev pub with_terminals : Found → FetRec → Found
with_terminals fet flat = record {
  kind = fet.kind;
  least = fet.least;
  area = fet.area;
  perimeter = fet.perimeter;
  gate = fet.gate;
  terminals = map pair_of flat.terminals;
}

-- The flat transistor is the record's, with its terminals in name order.
pub record IsSorted (made flat : FetRec) : Type 0 where
  pub kind : flat.kind ≡ made.kind
  pub x : flat.x ≡ made.x
  pub y : flat.y ≡ made.y
  pub area : flat.area ≡ made.area
  pub perimeter : flat.perimeter ≡ made.perimeter
  pub substrate : flat.substrate ≡ made.substrate
  pub gate : flat.gate ≡ made.gate
  pub in_order : AreInNameOrder (sides_of flat)
  pub over : (side : TermRec) → In side flat.terminals → In side made.terminals
  pub back : (side : TermRec) → In side made.terminals → In side flat.terminals

module _ (raw : RawTech) (layout : Layout) (labels : List Label) where
  -- The transistor that was found is the layout's, and its record is what the flat transistor was made of.
  pub record IsKept (fet : Found) (made flat : FetRec) : Type 0 where
    pub is : IsTransistor raw layout (IsOfNode raw layout labels) fet
    pub of : IsFetRecord raw fet made
    pub sorted : IsSorted made flat

  module _ (fet : Found) (made flat : FetRec) (kept : IsKept fet made flat) where
    -- the terminals of the record
    terminals_are : made.terminals ≡ map side_of fet.terminals
    terminals_are = kept.of.terminals

    -- a terminal of the transistor is one of the flat transistor
    there : (terminal : List ℕ × ℤ) → In terminal fet.terminals → In terminal (map pair_of flat.terminals)
    there terminal here =
        let made_here = subst (In (side_of terminal)) (sym terminals_are) (In-map side_of terminal fet.terminals here) in
        In-map pair_of (side_of terminal) flat.terminals (kept.sorted.back (side_of terminal) made_here)

    -- and a terminal of the flat transistor is one of it
    back : (terminal : List ℕ × ℤ) → In terminal (map pair_of flat.terminals) → In terminal fet.terminals
    back terminal here =
        let side = In-map_source pair_of terminal flat.terminals here in
        let source = In-map_source side_of side.0 fet.terminals (subst (In side.0) terminals_are (kept.sorted.over side.0 side.1.0)) in
        let same : source.0 ≡ terminal = ap pair_of source.1.1 ∙ side.1.1 in
        subst (λ (t : List ℕ × ℤ). In t fet.terminals) same source.1.0

    -- no two terminals of the flat transistor go by one name
    names_once : Distinct (sides_of flat)
    names_once = Distinct-names (sides_of flat) (pairwise_names (sides_of flat) kept.sorted.in_order)

    -- the names of terminals as pairs
    pair_names : map (λ (t : List ℕ × ℤ). t.0) (map pair_of flat.terminals) ≡ sides_of flat
    pair_names = map-map (λ (t : List ℕ × ℤ). t.0) pair_of flat.terminals

    -- and so no two of the pairs
    once : Distinct (map (λ (t : List ℕ × ℤ). t.0) (map pair_of flat.terminals))
    once = subst (λ (names : List (List ℕ)). Distinct names) (sym pair_names) names_once

    -- it is the layout's transistor with the other terminals too
    kept_transistor : IsTransistor raw layout (IsOfNode raw layout labels) (with_terminals fet flat)
    kept_transistor = record {
      listed = kept.is.listed;
      kind = kept.is.kind;
      least = kept.is.least;
      area = kept.is.area;
      perimeter = kept.is.perimeter;
      gate = kept.is.gate;
      terminals = λ node length here. kept.is.terminals node length (back (node, length) here);
      whole = λ a b inside near listed.
          let found = kept.is.whole a b inside near listed in
          let terminal = In-map_source (λ (t : List ℕ × ℤ). t.0) found.0 fet.terminals found.1 in
          let named = In-map (λ (t : List ℕ × ℤ). t.0) terminal.0 (map pair_of flat.terminals) (there terminal.0 terminal.1.0) in
          (found.0, subst (λ (name : List ℕ). In name (map (λ (t : List ℕ × ℤ). t.0) (map pair_of flat.terminals))) terminal.1.1 named, found.2);
      once = once;
    }

    -- the lengths of terminals add up alike
    same_lengths : sum_on (λ (t : List ℕ × ℤ). t.1) (map pair_of flat.terminals) ≡ sum_on (λ (t : List ℕ × ℤ). t.1) fet.terminals
    same_lengths =
        sum_on-same_things (λ (t : List ℕ × ℤ). t.1) (map pair_of flat.terminals) fet.terminals
        (Distinct-unmap (λ (t : List ℕ × ℤ). t.0) (map pair_of flat.terminals) once)
        (Distinct-unmap (λ (t : List ℕ × ℤ). t.0) fet.terminals kept.is.once)
        back there

    -- and the flat transistor is its record
    kept_record : IsFetRecord raw (with_terminals fet flat) flat
    kept_record = record {
      rule = kept.of.rule;
      listed = kept.of.listed;
      channel = kept.of.channel;
      kind = kept.sorted.kind ∙ kept.of.kind;
      substrate = kept.sorted.substrate ∙ kept.of.substrate;
      x = kept.sorted.x ∙ kept.of.x;
      y = kept.sorted.y ∙ kept.of.y;
      area = kept.sorted.area ∙ kept.of.area;
      perimeter = kept.sorted.perimeter ∙ kept.of.perimeter;
      gate = kept.sorted.gate ∙ kept.of.gate
          ∙ ap (λ (n : ℤ). record { node = fet.gate; length = fet.perimeter -ℤ n }) (sym same_lengths);
      terminals = sym (map-map side_of pair_of flat.terminals ∙ map-same flat.terminals);
    }
      where
        -- terminals as pairs and back
        map-same : (sides : List TermRec) → map (λ (side : TermRec). side_of (pair_of side)) sides ≡ sides
        map-same [] = refl
        map-same (side ∷ sides) = ap (λ (rest : List TermRec). side ∷ rest) (map-same sides)

    -- the terminals of the flat transistor stand in name order
    kept_order : AllPairs IsNameBefore (terminal_names flat)
    kept_order = AllPairs-from_Pairwise IsNameBefore (sides_of flat) (pairwise_names (sides_of flat) kept.sorted.in_order)

  -- each of the three lists has a transistor where the others have one, and they are kept
  abbrev pub AreKept : List Found → List FetRec → List FetRec → Type 0
  AreKept [] [] [] = Unit {0}
  AreKept [] [] (flat ∷ flats) = ⊥
  AreKept [] (made ∷ mades) flats = ⊥
  AreKept (fet ∷ fets) [] flats = ⊥
  AreKept (fet ∷ fets) (made ∷ mades) [] = ⊥
  AreKept (fet ∷ fets) (made ∷ mades) (flat ∷ flats) = IsKept fet made flat × AreKept fets mades flats

  -- the transistors with the terminals of the records
  with_all : List Found → List FetRec → List Found
  with_all [] flats = []
  with_all (fet ∷ fets) [] = []
  with_all (fet ∷ fets) (flat ∷ flats) = with_terminals fet flat ∷ with_all fets flats

  -- The transistor is the layout's, and this is its record.
  record IsDone (fet : Found) (flat : FetRec) : Type 0 where
    is : IsTransistor raw layout (IsOfNode raw layout labels) fet
    of : IsFetRecord raw fet flat

  -- there are as many of them
  all_long : (fets : List Found) (mades flats : List FetRec) → AreKept fets mades flats → length flats ≡ length (with_all fets flats)
  unfolding with_all
  all_long [] [] [] kept = refl
  all_long [] [] (flat ∷ flats) kept = absurd kept
  all_long [] (made ∷ mades) flats kept = absurd kept
  all_long (fet ∷ fets) [] flats kept = absurd kept
  all_long (fet ∷ fets) (made ∷ mades) [] kept = absurd kept
  all_long (fet ∷ fets) (made ∷ mades) (flat ∷ flats) kept = let rest = all_long fets mades flats kept.1 in omega (arith, rest)

  -- each is the transistor of its flat record
  all_done : (fets : List Found) (mades flats : List FetRec) → AreKept fets mades flats → (k : ℕ) (fet : Found) (flat : FetRec)
      → k < length (with_all fets flats) → IsDone (get_or (with_all fets flats) k fet) (get_or flats k flat)
  unfolding with_all
  all_done [] [] [] kept k d e below = absurd (omega (arith, below))
  all_done [] [] (flat ∷ flats) kept k d e below = absurd kept
  all_done [] (made ∷ mades) flats kept k d e below = absurd kept
  all_done (fet ∷ fets) [] flats kept k d e below = absurd kept
  all_done (fet ∷ fets) (made ∷ mades) [] kept k d e below = absurd kept
  all_done (fet ∷ fets) (made ∷ mades) (flat ∷ flats) kept zero d e below =
      record { is = kept_transistor fet made flat kept.0; of = kept_record fet made flat kept.0 }
  all_done (fet ∷ fets) (made ∷ mades) (flat ∷ flats) kept (suc k) d e below = all_done fets mades flats kept.1 k d e (omega (arith, below))

  -- each is a transistor of the layout
  all_sound : (fets : List Found) (mades flats : List FetRec) → AreKept fets mades flats → (fet : Found) → In fet (with_all fets flats)
      → IsTransistor raw layout (IsOfNode raw layout labels) fet
  unfolding with_all
  all_sound [] [] [] kept new here = absurd here
  all_sound [] [] (flat ∷ flats) kept new here = absurd kept
  all_sound [] (made ∷ mades) flats kept new here = absurd kept
  all_sound (fet ∷ fets) [] flats kept new here = absurd kept
  all_sound (fet ∷ fets) (made ∷ mades) [] kept new here = absurd kept
  all_sound (fet ∷ fets) (made ∷ mades) (flat ∷ flats) kept new (inl same) =
      subst (λ (f : Found). IsTransistor raw layout (IsOfNode raw layout labels) f) same (kept_transistor fet made flat kept.0)
  all_sound (fet ∷ fets) (made ∷ mades) (flat ∷ flats) kept new (inr later) = all_sound fets mades flats kept.1 new later

  -- the transistor with the same least place
  record IsAgain (fets : List Found) (flats : List FetRec) (fet : Found) : Type 0 where
    new : Found
    listed : In new (with_all fets flats)
    least : new.least ≡ fet.least

  -- each that was found is there again
  all_again : (fets : List Found) (mades flats : List FetRec) → AreKept fets mades flats → (fet : Found) → In fet fets → IsAgain fets flats fet
  unfolding with_all
  all_again [] [] [] kept old here = absurd here
  all_again [] [] (flat ∷ flats) kept old here = absurd kept
  all_again [] (made ∷ mades) flats kept old here = absurd kept
  all_again (fet ∷ fets) [] flats kept old here = absurd kept
  all_again (fet ∷ fets) (made ∷ mades) [] kept old here = absurd kept
  all_again (fet ∷ fets) (made ∷ mades) (flat ∷ flats) kept old (inl same) =
      record { new = with_terminals fet flat; listed = inl refl; least = ap (λ (f : Found). f.least) same }
  all_again (fet ∷ fets) (made ∷ mades) (flat ∷ flats) kept old (inr later) =
      let again = all_again fets mades flats kept.1 old later in record { new = again.new; listed = inr again.listed; least = again.least }

  -- they stand in the order of their least places
  all_in_order : (fets : List Found) (mades flats : List FetRec) → AreKept fets mades flats → AreFetsInOrder fets → AreFetsInOrder (with_all fets flats)
  unfolding with_all
  all_in_order [] [] [] kept ordered = tt
  all_in_order [] [] (flat ∷ flats) kept ordered = absurd kept
  all_in_order [] (made ∷ mades) flats kept ordered = absurd kept
  all_in_order (fet ∷ fets) [] flats kept ordered = absurd kept
  all_in_order (fet ∷ fets) (made ∷ mades) [] kept ordered = absurd kept
  all_in_order (fet ∷ []) (made ∷ []) (flat ∷ []) kept ordered = tt
  all_in_order (fet ∷ []) (made ∷ []) (flat ∷ next ∷ flats) kept ordered = absurd kept.1
  all_in_order (fet ∷ []) (made ∷ next ∷ mades) (flat ∷ flats) kept ordered = absurd kept.1
  all_in_order (fet ∷ next ∷ fets) (made ∷ []) (flat ∷ flats) kept ordered = absurd kept.1
  all_in_order (fet ∷ next ∷ fets) (made ∷ second ∷ mades) (flat ∷ []) kept ordered = absurd kept.1
  all_in_order (fet ∷ next ∷ fets) (made ∷ second ∷ mades) (flat ∷ third ∷ flats) kept ordered =
      (ordered.0, all_in_order (next ∷ fets) (second ∷ mades) (third ∷ flats) kept.1 ordered.1)

  -- the terminals of each stand in name order
  all_by_name : (fets : List Found) (mades flats : List FetRec) → AreKept fets mades flats → (flat : FetRec) → In flat flats
      → AllPairs IsNameBefore (terminal_names flat)
  all_by_name [] [] [] kept one here = absurd here
  all_by_name [] [] (flat ∷ flats) kept one here = absurd kept
  all_by_name [] (made ∷ mades) flats kept one here = absurd kept
  all_by_name (fet ∷ fets) [] flats kept one here = absurd kept
  all_by_name (fet ∷ fets) (made ∷ mades) [] kept one here = absurd kept
  all_by_name (fet ∷ fets) (made ∷ mades) (flat ∷ flats) kept one (inl same) =
      subst (λ (f : FetRec). AllPairs IsNameBefore (terminal_names f)) same (kept_order fet made flat kept.0)
  all_by_name (fet ∷ fets) (made ∷ mades) (flat ∷ flats) kept one (inr later) = all_by_name fets mades flats kept.1 one later

  -- the flat transistors are the records of the layout's transistors, with terminals in name order
  pub kept_records : (found : List Found) (mades flats : List FetRec) → AreKept found mades flats
      → AreTransistors raw layout (IsOfNode raw layout labels) found → AreFetRecords raw layout labels IsNameBefore flats
  kept_records found mades flats kept are = record {
    found = with_all found flats;
    transistors = record {
      sound = λ fet here. all_sound found mades flats kept fet here;
      whole = λ place listed.
          let old = are.whole place listed in
          let again = all_again found mades flats kept old.0 old.1 in
          (again.new, again.listed, subst (λ (least : Place). AreOneChannel layout least place) (sym again.least) old.2);
      in_order = all_in_order found mades flats kept are.in_order;
    };
    one_each = all_long found mades flats kept;
    each = λ k fet flat below. (all_done found mades flats kept k fet flat below).of;
    in_order = All-from_In (λ (f : FetRec). AllPairs IsNameBefore (terminal_names f)) flats (λ flat here. all_by_name found mades flats kept flat here);
  }
