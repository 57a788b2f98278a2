use Rattle.circuit_commands.proofs.Common.{List, inl, inr, sym, subst, rules, IfOk-weaker, ReportLine, plains, with_fets, IsOfInside, both_ok}
use Rattle.circuit_model.specs.Refusals.{IsFlatFaultOf}
use Rattle.circuit_commands.specs.declared.circuits.CircuitFile.TheVariants.{Sim}
use Rattle.circuit_commands.proofs.CircuitInside.{written_inside}
use Rattle.circuit_commands.proofs.TreeCommands.{refuses_records, writes_tree}
use Rattle.circuit_commands.proofs.command_ext2sim.sim_of_records.Goals as goal
use Rattle.circuit_commands.proofs.command_ext2sim.sim_of_records.Goals.{in-NoCell-1, in-Cycle-1, in-Classes-1, in-NoPath-1, in-TooMany-1}

pub flatten_into-requires-clause-fit : goal.flatten_into-requires-clause-fit
flatten_into-requires-clause-fit c = c.flat_transistor_has_letter_and_lengths.ensures

pub returns-in_ok-written-in-Ok-clause-effect : goal.returns-in_ok-written-in-Ok-clause-effect
returns-in_ok-written-in-Ok-clause-effect c files read =
    let given = c.in-Ok.ensures.meaning in
    let circuit = with_fets c.in-Ok.circuit given.0 in
    both_ok c.written_alone.result _ _ _
    (λ answer lines stores. writes_tree c.args.number files c.args.cell.now c.args.exts.now circuit c.in_ok-written-in-Ok.written answer read
    given.1.1 (c.in_ok-written-in-Ok.ensures.written given.0 given.1.0) lines stores)
    c.written_alone.ensures.lines c.written_alone.ensures.stores

pub returns-in_ok-written-in-Ok-clause-inside : goal.returns-in_ok-written-in-Ok-clause-inside
returns-in_ok-written-in-Ok-clause-inside c =
    let given = c.in-Ok.ensures.meaning in
    let circuit = with_fets c.in-Ok.circuit given.0 in
    IfOk-weaker c.written_alone.result _ _
    (λ answer lines. subst (λ (all : List ReportLine). IsOfInside all) (sym lines)
    (written_inside Sim c.args.number c.args.cell.now circuit c.in_ok-written-in-Ok.written
    (c.in_ok-written-in-Ok.ensures.written given.0 given.1.0)))
    c.written_alone.ensures.lines

pub returns-in-Err-clause-effect : goal.returns-in-Err-clause-effect
returns-in-Err-clause-effect c files read =
    let is : IsFlatFaultOf (plains c.args.exts.now) c.args.cell.now c.in-Err.fault = elim c.in-Err.ensures.fault [
      | inr is ↦ is
      | inl memory ↦ elim c.match-fault.branch [
        | in-NoCell-1 w ↦ search rules
        | in-Cycle-1 w ↦ search rules
        | in-Classes-1 w ↦ search rules
        | in-NoPath-1 w ↦ search rules
        | in-TooMany-1 w ↦ search rules
      ]
    ] in
    both_ok c.refuse_flat.result _ _ _
    (λ answer lines stores. refuses_records c.args.number files c.args.cell.now c.args.exts.now c.in-Err.fault answer read is lines stores)
    c.refuse_flat.ensures.lines c.refuse_flat.ensures.stores
