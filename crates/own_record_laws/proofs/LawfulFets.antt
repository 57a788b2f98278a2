-- The record of a transistor of sound paint is lawful.
use Rattle.own_record_laws.proofs.Common.{◌≡◌, ◌<◌, ◌^◌, ℕ, ℤ, pos, negsuc, ◌≤ℤ◌, IsTrue, List, [], ◌∷◌, map, inl, inr, refl, sym, ◌∙◌, ap, subst}
use Rattle.own_record_laws.proofs.Common.{arith, w32, FitsSigned, ints, sum_by-cons, In, sum_on, Chain-carries, In-map_source, All-from_In, All-In}
use Rattle.own_record_laws.proofs.Common.{Covers, Label, RawTech, IsWellFormed, TermRec, FetRec, CellExt, is_word, node_names, is_terminal}
use Rattle.own_record_laws.proofs.Common.{HasTypesOf, Layout, IsMaterial, Place, AreOneChannel, IsTerminalOf, IsTransistor, paint_range, IsNearPlace}
use Rattle.own_record_laws.proofs.Common.{IsOfNode, IsFetRecord}
use Rattle.std.proofs.Common.{◌+◌, neg_ℤ, ◌+ℤ◌}
use Rattle.std.specs.Prelude.{sum_by}
use Rattle.std.specs.Int.RustNames.{unsigned_abs}
use Rattle.tree_records.specs.TechModel.WellFormed.{IsFet}
use Rattle.tree_records.proofs.TechModel.WellFormedLaws.{type_bounds}
use Rattle.full_names.specs.ExtModel.declared.limits.TheConstants.{MEASURE_EDGE, LENGTHS_EDGE}
use Rattle.full_names.specs.ExtModel.Lawful.{IsMeasure, IsLawfulTerm, IsLawfulFet}
use Rattle.tree_records.specs.LayoutModel.Transistors.{gate_length}
use Rattle.own_record_laws.proofs.FetSizes.{few_places, few_edges, terminals_total}
use Rattle.own_record_laws.proofs.NameForms.{plain_word, label_word}
use Rattle.own_record_laws.proofs.NodeSizes.{measure_from, near_place, paint_x, paint_y}
use Rattle.own_record_laws.proofs.PreferredNames.{one_name}
use Rattle.own_record_laws.proofs.SameFets.{Found, side_of}
use Rattle.own_record_laws.proofs.SomeEdges.{some_edge}

-- a number between a bound and its negative
measure_between : (z : ℤ) (most : ℕ) → neg_ℤ (pos most) ≤ℤ z → z ≤ℤ pos most → most < MEASURE_EDGE → IsMeasure z
measure_between (pos n) most low high small = omega (arith, ints, high, small)
measure_between (negsuc n) most low high small = omega (arith, ints, low, small)

-- lengths that are not negative add up to their sum
abs_cons : (z : ℤ) (rest : ℤ) (sum all : ℕ) → pos 0 ≤ℤ z → pos sum ≡ rest → all ≡ unsigned_abs z + sum → pos all ≡ z +ℤ rest
abs_cons (pos n) rest sum all some is whole = omega (arith, ints, is, whole)
abs_cons (negsuc n) rest sum all some is whole = absurd (omega (arith, ints, some))

-- so do those of terminals
lengths_add : (terminals : List (List ℕ × ℤ)) → ((terminal : List ℕ × ℤ) → In terminal terminals → pos 0 ≤ℤ terminal.1)
    → pos (sum_by (λ (side : TermRec). unsigned_abs side.length) (map side_of terminals)) ≡ sum_on (λ (t : List ℕ × ℤ). t.1) terminals
lengths_add [] some = refl
lengths_add (terminal ∷ terminals) some =
    let measure : TermRec → ℕ = λ side. unsigned_abs side.length in
    abs_cons terminal.1 (sum_on (λ (t : List ℕ × ℤ). t.1) terminals) (sum_by measure (map side_of terminals)) _ (some terminal (inl refl))
    (lengths_add terminals (λ t here. some t (inr here))) (sum_by-cons measure (side_of terminal) (map side_of terminals))

module _ (raw : RawTech) (layout : Layout) (labels : List Label) (well : IsWellFormed raw) (typed : HasTypesOf raw layout)
    (range : (place : Place) → IsMaterial layout place → Covers paint_range place.square) (ext : CellExt)
    (among : (name : List ℕ) (place : Place) → IsOfNode raw layout labels name place → In name (node_names ext))
    (fet : Found) (made : FetRec) (is : IsTransistor raw layout (IsOfNode raw layout labels) fet) (of : IsFetRecord raw fet made) where
  -- what the technology says of the transistor is well formed
  rule_is : IsFet raw of.rule
  rule_is = All-In (IsFet raw) raw.fets of.rule well.fets of.listed

  -- its channel has material
  channel_material : IsMaterial layout fet.least
  channel_material =
      let bounds = type_bounds raw of.rule.kind.0 rule_is.kind in
      let some = bounds.0 in
      let channel = of.channel in
      let kind = is.kind in
      λ none. omega (arith, some, channel, kind, none)

  -- all of its channel is near
  channel_near : (place : Place) → AreOneChannel layout fet.least place → IsNearPlace place
  channel_near place inside =
      near_place raw layout well typed range place
      (Chain-carries (IsMaterial layout) (λ a b alike material. λ none. material (alike.same ∙ none)) inside channel_material)

  -- its channel has few squares
  small_area : (pos 0 ≤ℤ fet.area) × (fet.area ≤ℤ pos (2 ^ 61))
  small_area = few_places (AreOneChannel layout fet.least) fet.area channel_near is.area

  -- few edges lead out of it
  small_perimeter : (pos 0 ≤ℤ fet.perimeter) × (fet.perimeter ≤ℤ pos (2 ^ 63))
  small_perimeter =
      let Channel : Place → Type 0 = AreOneChannel layout fet.least in
      few_edges Channel (λ (place : Place). Channel place → ⊥) fet.area fet.perimeter channel_near is.area is.perimeter

  -- and few of them to terminals
  small_sum : (pos 0 ≤ℤ sum_on (λ (t : List ℕ × ℤ). t.1) fet.terminals) × (sum_on (λ (t : List ℕ × ℤ). t.1) fet.terminals ≤ℤ pos (2 ^ 63))
  small_sum =
      few_edges (AreOneChannel layout fet.least) (λ (place : Place). IsTrue (is_terminal raw fet.kind (layout place))) fet.area
      (sum_on (λ (t : List ℕ × ℤ). t.1) fet.terminals) channel_near is.area
      (terminals_total raw layout (IsOfNode raw layout labels) fet (one_name raw layout labels) is)

  -- its gate is a node of the record, and has a length of the size of one
  gate_is : IsLawfulTerm ext (record { node = fet.gate; length = gate_length fet })
  gate_is = record {
    node = among fet.gate fet.least is.gate;
    length =
        (let whole = small_perimeter in
        let sum = small_sum in
        measure_between (gate_length fet) (2 ^ 63) (omega (arith, ints, whole, sum)) (omega (arith, ints, whole, sum)) (omega arith));
  }

  -- so has each terminal
  terminal_is : (side : TermRec) → In side made.terminals → IsLawfulTerm ext side
  terminal_is side here =
      let source = In-map_source side_of side fet.terminals (subst (In side) of.terminals here) in
      let counted = is.terminals source.0.0 source.0.1 source.1.0 in
      let Channel = AreOneChannel layout fet.least in
      let To = IsTerminalOf raw layout (IsOfNode raw layout labels) fet.kind source.0.0 in
      let edge = some_edge Channel To source.0.1 counted.0 counted.1 in
      let few = few_edges Channel To fet.area source.0.1 channel_near is.area counted.1 in
      subst (IsLawfulTerm ext) source.1.1
      (record { node = among source.0.0 edge.edge.1 edge.leads.to.owned; length = measure_from source.0.1 (2 ^ 63) few.0 few.1 (omega arith) })

  -- the lengths of terminals add up to little
  few_lengths : sum_by (λ (side : TermRec). unsigned_abs side.length) made.terminals < LENGTHS_EDGE
  few_lengths =
      let some : (terminal : List ℕ × ℤ) → In terminal fet.terminals → pos 0 ≤ℤ terminal.1 = λ terminal here.
      (let counted = (is.terminals terminal.0 terminal.1 here).0 in omega (arith, ints, counted)) in
      let added = lengths_add fet.terminals some in
      let moved = ap (sum_by (λ (side : TermRec). unsigned_abs side.length)) of.terminals in
      let most = small_sum.1 in
      omega (arith, ints, added, moved, most)

  -- the transistor's record is lawful
  pub fet_is_lawful : IsLawfulFet ext made
  fet_is_lawful =
      let covers = range fet.least channel_material in
      let x = paint_x fet.least covers in
      let y = paint_y fet.least covers in
      let low_x = x.below in
      let low_y = y.below in
      let made_x = of.x in
      let made_y = of.y in
      record {
        kind = subst (λ (text : List ℕ). IsTrue (is_word text)) (sym of.kind) (plain_word of.rule.name rule_is.name);
        substrate = subst (λ (text : List ℕ). IsTrue (is_word text)) (sym of.substrate) (label_word of.rule.substrate rule_is.substrate);
        x = subst (FitsSigned w32) (sym of.x) x.fits;
        y = subst (FitsSigned w32) (sym of.y) y.fits;
        x_below_edge = omega (arith, ints, low_x, made_x);
        y_below_edge = omega (arith, ints, low_y, made_y);
        area = subst IsMeasure (sym of.area) (measure_from fet.area (2 ^ 61) small_area.0 small_area.1 (omega arith));
        perimeter = subst IsMeasure (sym of.perimeter) (measure_from fet.perimeter (2 ^ 63) small_perimeter.0 small_perimeter.1 (omega arith));
        gate = subst (IsLawfulTerm ext) (sym of.gate) gate_is;
        terminals = All-from_In (IsLawfulTerm ext) made.terminals terminal_is;
        lengths = few_lengths;
      }
