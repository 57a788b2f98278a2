-- `nodes c`: replies the lines of the nodes of the own paint of c.
use Rattle.std.specs.Prelude.{◌≡◌, ℕ, List, map}
use Rattle.session_model.specs.declared.report.ReportLine.{ReportLine}
use Rattle.line_answers.specs.LineEffects.{reply}
use Rattle.ext_model.specs.declared.records.NodeRec.{NodeRec}
use Rattle.ext_text.specs.NodeLines.{node_line}
use Rattle.cell_library.specs.Views.{LibraryView, view_at}
use Rattle.library_trees.specs.CellNodes.NodeRecords.{AreNodeRecords}

-- a line for each node
abbrev pub node_lines : List NodeRec → List ReportLine
node_lines nodes = map (λ node. reply (node_line node)) nodes

-- the records are those of the nodes of the cell's own paint, with the names that its labels give
abbrev pub AreNodesOf : LibraryView → ℕ → List NodeRec → Type 0
AreNodesOf library cell nodes = AreNodeRecords library.tech (view_at library cell).own (view_at library cell).labels nodes

-- The lines are those of the nodes of the cell.
abbrev pub TellsNodes : LibraryView → ℕ → List ReportLine → Type 0
TellsNodes library cell lines = (nodes : List NodeRec) × AreNodesOf library cell nodes × (lines ≡ node_lines nodes)
