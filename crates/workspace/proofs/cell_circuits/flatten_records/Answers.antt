use Rattle.workspace.proofs.Common.{◌≡◌, ℕ, List, sym, subst, rules, IsSome, FlatTooMany, IsFlatFaultOf, IsFlatOf, plains, seen, view_at}
use Rattle.tech_model.specs.declared.raw.RawTech.{RawTech}
use Rattle.circuit_model.specs.Elements.{ext_of}
use Rattle.flatten.specs.Sinks.{with_fets}
use Rattle.ext_loading.proofs.PlainRecords.PlainLaws.{plains_are_records}
use Rattle.circuit_laws.specs.NetworkLaws.{FlatCircuitsHaveLetters}
use Rattle.workspace.proofs.CellCircuitLaws.{simulable_is, no_other_fault, passes_limit, root_found}
use Rattle.workspace.proofs.cell_circuits.flatten_records.Goals as goal

pub flatten_into-requires-clause-root : goal.flatten_into-requires-clause-root
flatten_into-requires-clause-root g c =
    let exts = plains c.args.exts.now in
    let found = root_found c.args.library.now c.lawful.ensures c.args.cell.0 c.requires.cell c.requires.clean exts
    (plains_are_records c.args.exts.now c.requires.records) c.requires.tree in
    subst (λ (name : List ℕ). IsSome (ext_of exts name)) (sym c.name_of.ensures) found

pub returns-in-Ok-clause-given : goal.returns-in-Ok-clause-given
returns-in-Ok-clause-given g c =
    let library = c.args.library.now in
    let exts = plains c.args.exts.now in
    let given = c.in-Ok.ensures.meaning in
    let circuit = with_fets c.in-Ok.circuit given.0 in
    let flat : IsFlatOf exts (view_at (seen library) c.args.cell.0).name circuit =
    subst (λ (name : List ℕ). IsFlatOf exts name circuit) c.name_of.ensures given.1.1 in
    let letters : FlatCircuitsHaveLetters library.tech =
    subst (λ (raw : RawTech). FlatCircuitsHaveLetters raw) c.tech.ensures c.flat_circuits_have_letters.ensures in (
      given.0,
      (
        given.1.0,
        simulable_is library c.lawful.ensures c.args.cell.0 c.requires.cell c.requires.clean exts
            (plains_are_records c.args.exts.now c.requires.records) c.requires.tree
            c.records_stand_for_the_flat_layout.ensures c.clean_cell_has_clean_tree.ensures c.chains_are_short.ensures
            c.flat_transistors_have_letter_and_lengths.ensures c.flat_networks_fit.ensures
            c.flat_networks_have_the_nodes.ensures letters circuit flat,
      ),
    )

pub returns-in-Err-TooMany-clause-given : goal.returns-in-Err-TooMany-clause-given
returns-in-Err-TooMany-clause-given g c =
    let library = c.args.library.now in
    let exts = plains c.args.exts.now in
    let told : IsFlatFaultOf exts c.name_of.result.now (FlatTooMany c.in-Err-TooMany.limit) = search rules in
    let fault = subst (λ (name : List ℕ). IsFlatFaultOf exts name (FlatTooMany c.in-Err-TooMany.limit)) c.name_of.ensures told in
    passes_limit library c.lawful.ensures c.args.cell.0 c.requires.cell c.requires.clean exts (plains_are_records c.args.exts.now c.requires.records)
    c.requires.tree c.in-Err-TooMany.limit fault

pub unreachable-requires : goal.unreachable-requires
unreachable-requires g c =
    let library = c.args.library.now in
    let exts = plains c.args.exts.now in
    let told : IsFlatFaultOf exts c.name_of.result.now c.in-Err.field-0 = search rules in
    let fault = subst (λ (name : List ℕ). IsFlatFaultOf exts name c.in-Err.field-0) c.name_of.ensures told in
    let why = no_other_fault library c.lawful.ensures c.args.cell.0 c.requires.cell c.requires.clean exts
    (plains_are_records c.args.exts.now c.requires.records) c.requires.tree
    c.tree_records_have_no_other_fault.ensures c.clean_cell_has_clean_tree.ensures c.chains_are_short.ensures c.in-Err.field-0 fault in
    let is_limit : c.in-Err.field-0 ≡ FlatTooMany why.0 = why.1 in
    search (rules, is_limit)
