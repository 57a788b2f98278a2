use Rattle.full_names.proofs.Common.{◌+◌, ◌<◌, ◌≤◌, Bool, List, ℕ, inr, length, map, refl, sym, ◌∙◌, ap, subst, All, err_from_is_err_and}
use Rattle.full_names.proofs.Common.{MOST_NAME_BYTES, IsNameFaultOf, RecordNames, GlobalName, NameKey, Place, AreAllNames, AreGlobalNames}
use Rattle.full_names.proofs.Common.{global_bytes, element_bytes, ArePlaces, IsFitPlace, AreKeys, AreStandings}
use Rattle.full_names.proofs.NamesMade.{of_records, firsts_within, many_bytes, few_bytes, fits, slots_below, names_made}
use Rattle.full_names.proofs.names.full_names.Goals as goal
use Rattle.full_names.proofs.names.full_names.Goals.{After-check_bytes, After-all_places}

all_named : (c : After-check_bytes) → AreAllNames c.args.exts.now c.in_ok-cells.field-0.cells.items c.in_ok-records.records.items
all_named c = subst (λ (cells : List Bool). AreAllNames c.args.exts.now cells c.in_ok-records.records.items) c.deref.ensures.value c.in_ok-records.ensures

globals_made : (c : After-check_bytes)
    → AreGlobalNames c.args.tree.now.elements c.in_ok-records.records.items c.in_ok-cells.field-0.firsts.items c.in_ok-globals.globals.items
globals_made c =
    let flats = c.args.tree.now.elements in
    subst (λ (list : List ℕ). AreGlobalNames flats c.in_ok-records.records.items list c.in_ok-globals.globals.items) c.deref-2.ensures.value
    (subst (λ (own : List RecordNames). AreGlobalNames flats own c.deref-2.result.now c.in_ok-globals.globals.items) c.deref-3.ensures.value
    c.in_ok-globals.ensures)

few_bytes_of : (c : After-all_places)
    → global_bytes c.in_ok-globals.globals.items + element_bytes c.in_ok-records.records.items c.args.tree.now.elements ≤ MOST_NAME_BYTES
few_bytes_of c =
    let flats = c.args.tree.now.elements in
    subst (λ (list : List GlobalName). global_bytes list + element_bytes c.in_ok-records.records.items flats ≤ MOST_NAME_BYTES) c.deref-5.ensures.value
    (subst (λ (own : List RecordNames). global_bytes c.deref-5.result.now + element_bytes own flats ≤ MOST_NAME_BYTES) c.deref-4.ensures.value
    c.in_ok-check_bytes.ensures.few)

pub reached_records-requires : goal.reached_records-requires
reached_records-requires c = of_records c.args.exts.now c.args.root c.args.tree.now c.requires.records c.requires.root c.requires.tree
    (length c.args.exts.now) refl

pub global_names-requires-clause-cells : goal.global_names-requires-clause-cells
global_names-requires-clause-cells c = of_records c.args.exts.now c.args.root c.args.tree.now c.requires.records c.requires.root c.requires.tree
    (length c.deref-3.result.now) (ap length c.deref-3.ensures.value ∙ c.in_ok-records.ensures.long)

pub global_names-requires-clause-firsts : goal.global_names-requires-clause-firsts
global_names-requires-clause-firsts c =
    let reached = c.in_ok-cells.ensures.reached in
    let all = subst (λ (cells : List Bool). AreAllNames c.args.exts.now cells c.in_ok-records.records.items) c.deref.ensures.value c.in_ok-records.ensures in
    let within = firsts_within c.args.exts.now c.args.root c.args.tree.now c.requires.records c.requires.root c.requires.tree c.in_ok-cells.field-0.cells.items
    c.in_ok-cells.field-0.firsts.items reached c.in_ok-records.records.items all in
    subst (λ (firsts : List ℕ). All (λ first. first < length c.args.tree.now.elements) firsts) (sym c.deref-2.ensures.value) within

pub check_bytes-requires : goal.check_bytes-requires
check_bytes-requires c = of_records c.args.exts.now c.args.root c.args.tree.now c.requires.records c.requires.root c.requires.tree
    (length c.deref-4.result.now) (ap length c.deref-4.ensures.value ∙ c.in_ok-records.ensures.long)

pub returns-in_err-check_bytes-clause-fault : goal.returns-in_err-check_bytes-clause-fault
returns-in_err-check_bytes-clause-fault c =
    let flats = c.args.tree.now.elements in
    let records = c.in_ok-records.records.items in
    let here = (goal.at.returns-in_err-check_bytes-clause-fault c).After-check_bytes in
    let many : MOST_NAME_BYTES < global_bytes c.in_ok-globals.globals.items + element_bytes records flats =
    subst (λ (list : List GlobalName). MOST_NAME_BYTES < global_bytes list + element_bytes records flats) c.deref-5.ensures.value
    (subst (λ (own : List RecordNames). MOST_NAME_BYTES < global_bytes c.deref-5.result.now + element_bytes own flats) c.deref-4.ensures.value
    c.in_err-check_bytes.ensures.many) in
    let p = err_from_is_err_and c.from_residual-in_err-check_bytes.result c.from_residual-in_err-check_bytes.ensures.1 in
    rw p.1 (inr (subst (IsNameFaultOf c.args.exts.now c.args.root) (sym (p.2 ∙ c.in_err-check_bytes.ensures.fault))
    (many_bytes c.args.exts.now c.args.root c.args.tree.now c.requires.records c.requires.root c.requires.tree c.in_ok-cells.field-0.cells.items
    c.in_ok-cells.field-0.firsts.items c.in_ok-cells.ensures.reached records (all_named here) c.in_ok-globals.globals.items (globals_made here) many)))

pub all_places-requires : goal.all_places-requires
all_places-requires c = of_records c.args.exts.now c.args.root c.args.tree.now c.requires.records c.requires.root c.requires.tree
    (length c.deref-6.result.now) (ap length c.deref-6.ensures.value ∙ c.in_ok-records.ensures.long)

pub sorted_keys-requires-clause-cells : goal.sorted_keys-requires-clause-cells
sorted_keys-requires-clause-cells c = of_records c.args.exts.now c.args.root c.args.tree.now c.requires.records c.requires.root c.requires.tree
    (length c.deref-7.result.now) (ap length c.deref-7.ensures.value ∙ c.in_ok-records.ensures.long)

pub sorted_keys-requires-clause-places : goal.sorted_keys-requires-clause-places
sorted_keys-requires-clause-places c =
    let flats = c.args.tree.now.elements in
    let records = c.in_ok-records.records.items in
    let globals = c.in_ok-globals.globals.items in
    let made = c.in_ok-bases.field-0 in
    let here = (goal.at.sorted_keys-requires-clause-places c).After-all_places in
    let placed = subst (λ (own : List RecordNames). ArePlaces flats own made.bases.items made.places.items) c.deref-6.ensures.value c.in_ok-bases.ensures in
    subst (λ (places : List Place). All (IsFitPlace flats c.deref-7.result.now) places) (sym c.deref-8.ensures.value)
    (subst (λ (own : List RecordNames). All (IsFitPlace flats own) made.places.items) (sym c.deref-7.ensures.value)
    (fits c.args.exts.now c.args.root c.args.tree.now c.requires.records c.requires.root c.requires.tree records globals made.bases.items made.places.items
    (few_bytes_of here) placed))

pub standings-requires : goal.standings-requires
standings-requires c =
    let slots_are = c.in_ok-slots.ensures ∙ ap (map (λ (key : NameKey). key.slot)) c.deref-9.ensures.value in
    subst (λ (slots : List ℕ). All (λ slot. slot < length slots) slots) (sym c.deref-10.ensures.value)
    (slots_below c.args.tree.now.elements c.deref-7.result.now c.deref-8.result.now c.in_ok-keys.keys.items c.in_ok-slots.slots.items c.in_ok-keys.ensures
    slots_are)

pub returns-clause-few : goal.returns-clause-few
returns-clause-few c =
    let flats = c.args.tree.now.elements in
    let records = c.in_ok-records.records.items in
    let here = (goal.at.returns-clause-few c).After-check_bytes in
    few_bytes c.args.exts.now c.args.root c.args.tree.now c.requires.records c.requires.root c.requires.tree c.in_ok-cells.field-0.cells.items
    c.in_ok-cells.field-0.firsts.items c.in_ok-cells.ensures.reached records (all_named here) c.in_ok-globals.globals.items (globals_made here)
    (few_bytes_of (goal.at.returns-clause-few c).After-all_places)

pub returns-clause-names : goal.returns-clause-names
returns-clause-names c =
    let flats = c.args.tree.now.elements in
    let records = c.in_ok-records.records in
    let globals = c.in_ok-globals.globals in
    let made = c.in_ok-bases.field-0 in
    let keys = c.in_ok-keys.keys.items in
    let slots = c.in_ok-slots.slots in
    names_made _ c.in_ok-cells.field-0.cells.items c.in_ok-cells.field-0.firsts.items keys (record {
      lawful = c.requires.records;
      inside = c.requires.root;
      of = c.requires.tree;
      reached = c.in_ok-cells.ensures.reached;
      records_are = all_named (goal.at.returns-clause-names c).After-check_bytes;
      globals_are = globals_made (goal.at.returns-clause-names c).After-check_bytes;
      placed = subst (λ (own : List RecordNames). ArePlaces flats own made.bases.items made.places.items) c.deref-6.ensures.value c.in_ok-bases.ensures;
      keyed = subst (λ (places : List Place). AreKeys flats records.items places keys) c.deref-8.ensures.value
          (subst (λ (own : List RecordNames). AreKeys flats own c.deref-8.result.now keys) c.deref-7.ensures.value c.in_ok-keys.ensures);
      slots_are = c.in_ok-slots.ensures ∙ ap (map (λ (key : NameKey). key.slot)) c.deref-9.ensures.value;
      standings_are = subst (λ (list : List ℕ). AreStandings list c.in_ok-standings.standings.items) c.deref-10.ensures.value c.in_ok-standings.ensures;
      counted = (λ i. (c.len.ensures ∙ globals.ok.0) i + (c.len-2.ensures ∙ slots.ok.0) i);
    })
