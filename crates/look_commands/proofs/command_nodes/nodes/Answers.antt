use Rattle.std.proofs.Common.{List, sym, subst}
use Rattle.std.specs.Prelude.{All}
use Rattle.std.proofs.lemmas.Result.{IfOk-weaker}
use Rattle.session_model.specs.declared.report.ReportLine.{ReportLine}
use Rattle.tech_model.specs.declared.raw.Label.{Label}
use Rattle.tech_model.specs.declared.raw.RawTech.{RawTech}
use Rattle.library_trees.specs.CellNodes.Names.Labels.{IsLabelOf}
use Rattle.library_trees.proofs.LabelLaws.{labels_may_name}
use Rattle.line_answers.specs.LineEffects.{IsOfInside}
use Rattle.look_commands.proofs.NodesLaws.{node_lines_inside}
use Rattle.look_commands.proofs.command_nodes.nodes.Goals as goal

pub cell_nodes-requires-clause-labels : goal.cell_nodes-requires-clause-labels
cell_nodes-requires-clause-labels c =
    let library = c.args.library.now in
    subst (λ (raw : RawTech). All (IsLabelOf raw) c.labels_of.result.now) (sym c.tech.ensures)
    (subst (λ (labels : List Label). All (IsLabelOf library.tech) labels) (sym c.labels_of.ensures)
    (labels_may_name library c.args.cell.0 c.lawful.ensures c.requires))

pub returns-clause-inside : goal.returns-clause-inside
returns-clause-inside c =
    IfOk-weaker c.lines_of.result _ _
    (λ lines are. subst (λ (all : List ReportLine). IsOfInside all) (sym are) (node_lines_inside c.items.result.now)) c.lines_of.ensures
