-- A layout with labels has one list of transistor records.
use Rattle.uniqueness.proofs.Common.{◌≡◌, ◌<◌, ℕ, ℤ, pos, List, [], map, length, get_or, sym, ◌∙◌, ap, subst, length-map, same_lists, IsLeast}
use Rattle.uniqueness.proofs.Common.{Distinct, same_by_order, IsLeast-unique, Pairwise-from_AllPairs, Label, RawTech, name_cmp_total}
use Rattle.uniqueness.proofs.Common.{not_before_itself, Layout, Place, IsBefore, IsBefore-irreflexive, IsBefore-trans, IsNoLater-antisym}
use Rattle.std.specs.Prelude.{AllPairs}
use Rattle.std.proofs.lemmas.List.{get_or-map}
use Rattle.finite_sets.specs.Laws.{IsTransitive}
use Rattle.finite_sets.proofs.Images.{one_from_Distinct}
use Rattle.finite_sets.proofs.Members.{In-get_or}
use Rattle.finite_sets.proofs.Pairs.{Pairwise, Pairwise-unmap}
use Rattle.tech_model.specs.declared.raw.FetRule.{FetRule}
use Rattle.ext_model.specs.declared.records.FetRec.{FetRec}
use Rattle.ext_model.specs.declared.records.TermRec.{TermRec}
use Rattle.tree_circuits.specs.OwnRecordLaws.CellNodes.LayoutModel.Places.{IsNoLater}
use Rattle.tree_circuits.specs.OwnRecordLaws.CellNodes.LayoutModel.Transistors.{gate_length}
use Rattle.tree_circuits.specs.OwnRecordLaws.TreeRecords.FetRecords.{AreFetRecords, IsFetRecord, IsNameBefore, IsNodeBefore, IsOfNode, terminal_names}
use Rattle.tree_circuits.proofs.OwnRecordLaws.SameFets.{side_of}
use Rattle.uniqueness.specs.OwnUniqueness.{FetRecordsAreUnique}
use Rattle.uniqueness.proofs.SameNodes.{origin}
use Rattle.uniqueness.proofs.SameTransistors.{Found, IsFound, least_in, same_area, same_gate, same_kind, same_leasts, same_perimeter, terminal_over}

-- the name of a terminal's node in a record
abbrev node_of : TermRec → List ℕ
node_of side = side.node

-- a transistor for what is read past the end
abbrev no_fet : Found
no_fet = record { kind = 0; least = origin; area = pos 0; perimeter = pos 0; gate = []; terminals = [] }

module _ (raw : RawTech) (layout : Layout) (labels : List Label) (one_rule : Distinct (map (λ (rule : FetRule). rule.kind) raw.fets))
    (Before : List ℕ → List ℕ → Type 0) (strict : (name : List ℕ) → Before name name → ⊥) (through : IsTransitive Before) where
  -- the name of the first terminal's node stands before that of the second
  abbrev StandsBefore : List ℕ × ℤ → List ℕ × ℤ → Type 0
  StandsBefore a b = Before a.0 b.0

  -- terminals stand in the order in which they stand in the record
  in_order : (fet : Found) (made : FetRec) → IsFetRecord raw fet made → AllPairs Before (terminal_names made) → Pairwise StandsBefore fet.terminals
  in_order fet made of ordered =
      let ByName : TermRec → TermRec → Type 0 = λ a b. Before a.node b.node in
      Pairwise-unmap side_of ByName fet.terminals (subst (λ (sides : List TermRec). Pairwise ByName sides) of.terminals
      (Pairwise-unmap node_of Before made.terminals (Pairwise-from_AllPairs Before (terminal_names made) ordered)))

  module _ (one other : Found) (p : IsFound raw layout labels one) (q : IsFound raw layout labels other) (least : one.least ≡ other.least)
      (made told : FetRec) (of : IsFetRecord raw one made) (of_other : IsFetRecord raw other told)
      (ordered : AllPairs Before (terminal_names made)) (ordered_other : AllPairs Before (terminal_names told)) where
    -- both have the same terminals in one order
    same_terminals : one.terminals ≡ other.terminals
    same_terminals =
        same_by_order StandsBefore (λ terminal. strict terminal.0) (λ a b c. through a.0 b.0 c.0) one.terminals other.terminals
        (in_order one made of ordered) (in_order other told of_other ordered_other)
        (terminal_over raw layout labels one other p q least) (terminal_over raw layout labels other one q p (sym least))

    -- and so they are one
    same_transistor : one ≡ other
    same_transistor =
        let kind = same_kind raw layout labels one other p q least in
        let area = same_area raw layout labels one other p q least in
        let perimeter = same_perimeter raw layout labels one other p q least in
        let gate = same_gate raw layout labels one other p q least in
        (λ i. record {
          kind = kind i;
          least = least i;
          area = area i;
          perimeter = perimeter i;
          gate = gate i;
          terminals = same_terminals i;
        })

    -- a channel has one rule
    same_rule : of.rule ≡ of_other.rule
    same_rule =
        let channel : of.rule.kind.0 ≡ of_other.rule.kind.0 = of.channel ∙ ap (λ (fet : Found). fet.kind) same_transistor ∙ sym of_other.channel in
        let kind : of.rule.kind ≡ of_other.rule.kind = (λ i. record { 0 = channel i }) in
        one_from_Distinct (λ (rule : FetRule). rule.kind) raw.fets of.rule of_other.rule one_rule of.listed of_other.listed kind

    -- a transistor has one record
    same_fet : made ≡ told
    same_fet =
        let kind : made.kind ≡ told.kind = of.kind ∙ ap (λ (rule : FetRule). rule.name) same_rule ∙ sym of_other.kind in
        let substrate : made.substrate ≡ told.substrate = of.substrate ∙ ap (λ (rule : FetRule). rule.substrate) same_rule ∙ sym of_other.substrate in
        let x : made.x ≡ told.x = of.x ∙ ap (λ (fet : Found). fet.least.square.x) same_transistor ∙ sym of_other.x in
        let y : made.y ≡ told.y = of.y ∙ ap (λ (fet : Found). fet.least.square.y) same_transistor ∙ sym of_other.y in
        let area : made.area ≡ told.area = of.area ∙ ap (λ (fet : Found). fet.area) same_transistor ∙ sym of_other.area in
        let perimeter : made.perimeter ≡ told.perimeter = of.perimeter ∙ ap (λ (fet : Found). fet.perimeter) same_transistor ∙ sym of_other.perimeter in
        let gate_of : Found → TermRec = λ fet. record { node = fet.gate; length = gate_length fet } in
        let gate : made.gate ≡ told.gate = of.gate ∙ ap gate_of same_transistor ∙ sym of_other.gate in
        let terminals : made.terminals ≡ told.terminals =
        of.terminals ∙ ap (λ (fet : Found). map side_of fet.terminals) same_transistor ∙ sym of_other.terminals in
        (λ i. record {
          kind = kind i;
          x = x i;
          y = y i;
          area = area i;
          perimeter = perimeter i;
          substrate = substrate i;
          gate = gate i;
          terminals = terminals i;
        })

  pub same_fets : (fets others : List FetRec) → AreFetRecords raw layout labels Before fets → AreFetRecords raw layout labels Before others
      → fets ≡ others
  same_fets fets others p q =
      let leasts = same_leasts raw layout labels p.found q.found p.transistors q.transistors in
      let found : length p.found ≡ length q.found = sym (length-map p.found least_in) ∙ ap length leasts ∙ length-map q.found least_in in
      let many : length fets ≡ length others = p.one_each ∙ found ∙ sym q.one_each in
      same_lists fets others many (λ k d below.
      let here : k < length p.found = subst (λ (n : ℕ). k < n) p.one_each below in
      let there : k < length q.found = subst (λ (n : ℕ). k < n) found here in
      let listed_there : k < length others = subst (λ (n : ℕ). k < n) many below in
      let least : (get_or p.found k no_fet).least ≡ (get_or q.found k no_fet).least =
      sym (get_or-map least_in p.found k no_fet origin here) ∙ ap (λ (places : List Place). get_or places k origin) leasts
      ∙ get_or-map least_in q.found k no_fet origin there in
      same_fet (get_or p.found k no_fet) (get_or q.found k no_fet)
      (p.transistors.sound (get_or p.found k no_fet) (In-get_or p.found k no_fet here))
      (q.transistors.sound (get_or q.found k no_fet) (In-get_or q.found k no_fet there)) least (get_or fets k d) (get_or others k d)
      (p.each k no_fet d here) (q.each k no_fet d there) (p.in_order k d below) (q.in_order k d listed_there))

module _ (raw : RawTech) (layout : Layout) (labels : List Label) where
  -- nodes that go by one name have one least place
  one_least_of_name : (name : List ℕ) (a b : Place) → IsLeast IsNoLater (IsOfNode raw layout labels name) a
      → IsLeast IsNoLater (IsOfNode raw layout labels name) b → a ≡ b
  one_least_of_name name = IsLeast-unique IsNoLater (IsOfNode raw layout labels name) IsNoLater-antisym

  -- no node stands before itself
  not_node_before_itself : (name : List ℕ) → IsNodeBefore raw layout labels name name → ⊥
  not_node_before_itself name is =
      IsBefore-irreflexive is.least
      (subst (IsBefore is.least) (one_least_of_name name is.next_least is.least is.is_next_least is.is_least) is.before)

  -- a node before another, and that before a third
  node_before_through : IsTransitive (IsNodeBefore raw layout labels)
  node_before_through a b c first second = record {
    least = first.least;
    next_least = second.next_least;
    is_least = first.is_least;
    is_next_least = second.is_next_least;
    before = IsBefore-trans first.least second.least second.next_least
        (subst (IsBefore first.least) (one_least_of_name b first.next_least second.least first.is_next_least second.is_least) first.before)
        second.before;
  }

pub fet_records_are_one : FetRecordsAreUnique
fet_records_are_one raw layout labels fets others well = (
  same_fets raw layout labels well.fets_differ (IsNodeBefore raw layout labels) (not_node_before_itself raw layout labels)
      (node_before_through raw layout labels) fets others,
  same_fets raw layout labels well.fets_differ IsNameBefore not_before_itself name_cmp_total.trans fets others,
)
