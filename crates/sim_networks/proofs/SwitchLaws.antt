-- The switches of transistors, one after another, and the names at their terminals.
use Rattle.sim_networks.proofs.Common.{◌≡◌, ℕ, suc, ◌+◌, ◌<◌, List, [], ◌∷◌, ◌++◌, length, get_or, take, map, inl, inr, refl, sym, ap, ◌∙◌, subst}
use Rattle.sim_networks.proofs.Common.{All, map_more, In, In-append_left, In-get_or, In-map, All-from_In, SimFet, SimFile, Switch, NameNodesBelow}
use Rattle.sim_networks.proofs.Common.{IsWithin, AreTransistors, names_of_aliases, names_of_transistors, NodeTable, records_of, transistor_of}
use Rattle.sim_networks.proofs.Common.{HasTerminals, IsTableOf}
use Rattle.switch_net.specs.SimRecords.{IsTransistor, TransistorLine}
use Rattle.sim_networks.proofs.NumberLaws.{has_labelled}

transistors_push : (names : List (List ℕ × ℕ)) (lines : List TransistorLine) (switches : List Switch) (line : TransistorLine)
    (switch : Switch) → AreTransistors names lines switches → IsTransistor names line switch
    → AreTransistors names (lines ++ line ∷ []) (switches ++ switch ∷ [])
transistors_push names [] [] line switch are is = (is, tt)
transistors_push names [] (one ∷ switches) line switch are is = absurd are
transistors_push names (other ∷ lines) [] line switch are is = absurd are
transistors_push names (other ∷ lines) (one ∷ switches) line switch are is =
    (are.0, transistors_push names lines switches line switch are.1 is)

-- the switch of one more transistor
pub switch_added : (names : List (List ℕ × ℕ)) (fets : List SimFet) (i : ℕ) (fet : SimFet) (before after : List Switch) (switch : Switch)
    → i < length fets
    → fet ≡ get_or fets i fet → after ≡ before ++ switch ∷ [] → IsTransistor names (transistor_of fet) switch
    → AreTransistors names (map transistor_of (take i fets)) before → AreTransistors names (map transistor_of (take (i + 1) fets)) after
switch_added names fets i fet before after switch within is pushed made are =
    let lines = map transistor_of (take i fets) in
    let next : map transistor_of (take (i + 1) fets) ≡ lines ++ transistor_of fet ∷ [] =
    map_more transistor_of fets i fet within ∙ ap (λ (one : SimFet). lines ++ transistor_of one ∷ []) (sym is) in
    subst (λ (list : List TransistorLine). AreTransistors names list after) (sym next)
    (subst (λ (list : List Switch). AreTransistors names (lines ++ transistor_of fet ∷ []) list) (sym pushed)
    (transistors_push names lines before (transistor_of fet) switch are made))

-- there are as many switches as transistors
pub transistors_long : (names : List (List ℕ × ℕ)) (lines : List TransistorLine) (switches : List Switch)
    → AreTransistors names lines switches
    → length switches ≡ length lines
transistors_long names [] [] are = refl
transistors_long names [] (one ∷ switches) are = absurd are
transistors_long names (line ∷ lines) [] are = absurd are
transistors_long names (line ∷ lines) (one ∷ switches) are = ap suc (transistors_long names lines switches are.1)

switch_within : (names : List (List ℕ × ℕ)) (nodes : ℕ) → NameNodesBelow nodes names
    → (lines : List TransistorLine) (switches : List Switch)
    → AreTransistors names lines switches → (switch : Switch) → In switch switches → IsWithin nodes switch
switch_within names nodes below [] [] are switch here = absurd here
switch_within names nodes below [] (one ∷ switches) are switch here = absurd are
switch_within names nodes below (line ∷ lines) [] are switch here = absurd here
switch_within names nodes below (line ∷ lines) (one ∷ switches) are switch (inl same) =
    subst (IsWithin nodes) same
    (below line.gate one.gate are.0.gate, below line.source one.left are.0.left, below line.drain one.right are.0.right)
switch_within names nodes below (line ∷ lines) (one ∷ switches) are switch (inr here) =
    switch_within names nodes below lines switches are.1 switch here

-- the nodes of the switches are those of names
pub transistors_within : (names : List (List ℕ × ℕ)) (nodes : ℕ) (lines : List TransistorLine) (switches : List Switch)
    → NameNodesBelow nodes names
    → AreTransistors names lines switches → All (IsWithin nodes) switches
transistors_within names nodes lines switches below are =
    All-from_In (IsWithin nodes) switches (switch_within names nodes below lines switches are)

line_names : (lines : List TransistorLine) (line : TransistorLine) → In line lines → HasTerminals (names_of_transistors lines) line
line_names [] line here = absurd here
line_names (one ∷ lines) line (inl same) = record {
  gate = inl (ap (λ (l : TransistorLine). l.gate) same);
  source = inr (inl (ap (λ (l : TransistorLine). l.source) same));
  drain = inr (inr (inl (ap (λ (l : TransistorLine). l.drain) same)));
}
line_names (one ∷ lines) line (inr here) =
    let rest = line_names lines line here in
    record { gate = inr (inr (inr rest.gate)); source = inr (inr (inr rest.source)); drain = inr (inr (inr rest.drain)) }

module _ (sim : SimFile) (table : NodeTable) (is : IsTableOf (records_of sim) table) where
  in_table : (name : List ℕ) → In name (names_of_transistors (records_of sim).transistors) → In name table.names.index
  in_table name here =
      let records = records_of sim in
      let fets = names_of_transistors records.transistors in
      let all = In-append_left name (fets ++ records.capacitors) (names_of_aliases records.aliases)
      (In-append_left name fets records.capacitors here) in
      let has = is.nodes.named name all in
      let at = has_labelled table.names.index table.labels.items has.0 name has.1 in
      subst (λ (one : List ℕ). In one table.names.index) at.is_number.is (In-get_or table.names.index at.number [] at.is_number.within)

  -- the names at the terminals of each transistor are in the table
  pub terminals_known : All (λ fet. HasTerminals table.names.index (transistor_of fet)) sim.fets
  terminals_known =
      All-from_In (λ fet. HasTerminals table.names.index (transistor_of fet)) sim.fets (λ fet here.
      let line = transistor_of fet in
      let names = line_names (map transistor_of sim.fets) line (In-map transistor_of fet sim.fets here) in
      record {
        gate = in_table line.gate names.gate;
        source = in_table line.source names.source;
        drain = in_table line.drain names.drain;
      })
