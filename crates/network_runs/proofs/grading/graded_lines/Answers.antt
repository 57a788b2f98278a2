use Rattle.network_runs.proofs.Common.{◌<◌, List, length, sym, subst, All, network_of, Graded, preferred_names}
use Rattle.network_runs.proofs.GradingLaws.{grades_inside, grades_of_nodes}
use Rattle.network_runs.proofs.grading.graded_lines.Goals as goal

pub grade_lines-requires : goal.grade_lines-requires
grade_lines-requires c =
    let circuit = c.args.circuit.now in
    let named = c.args.named.now in
    subst (λ (grades : List Graded). All (λ (graded : Graded). graded.node < length circuit.nodes) grades) (sym c.deref.ensures.value)
    (grades_of_nodes circuit (network_of named.net) named.names c.args.budget c.args.vectors.now c.in-Ok.grades.items c.requires.nodes c.in-Ok.ensures.graded)

pub returns-in_ok-grade_lines-in-Ok-clause-inside : goal.returns-in_ok-grade_lines-in-Ok-clause-inside
returns-in_ok-grade_lines-in-Ok-clause-inside c =
    grades_inside c.args.cell.now (preferred_names c.args.circuit.now) c.deref.result.now c.in_ok-grade_lines-in-Ok.field-0.items
    c.in_ok-grade_lines-in-Ok.ensures
