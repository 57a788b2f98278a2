use Rattle.workspace.proofs.Common.{◌≡◌, ◌∙◌, sym, ap, subst, rules, seen}
use Rattle.flatten.specs.Sinks.{IsGiven, with_fets}
use Rattle.workspace.specs.CellCircuits.{IsSimulableCircuitAt}
use Rattle.workspace.proofs.cell_circuits.flatten_kept.Goals as goal

pub flatten_kept_into-requires-clause-fit : goal.flatten_kept_into-requires-clause-fit
flatten_kept_into-requires-clause-fit c nodes element fet flat lawful is = tt

pub returns-in-Circuit-clause-flattened : goal.returns-in-Circuit-clause-flattened
returns-in-Circuit-clause-flattened c =
    let library = seen c.args.edited.now.library in
    let given = c.in-Circuit.given in
    let is : IsGiven (λ sink tech fets. sink.fets.items ≡ fets) (IsSimulableCircuitAt library c.args.cell.0) given = search rules in
    subst (IsSimulableCircuitAt library c.args.cell.0) (ap (with_fets given) (sym is.1.0) ∙ sym c.circuit_given.ensures) is.1.1
