-- What is told of a cell.
use Rattle.std.specs.Prelude.{◌≡◌, ℕ, List, []}
use Rattle.session_model.specs.declared.answer.Store.{Store}
use Rattle.session_model.specs.declared.report.ReportLine.{ReportLine}
use Rattle.cell_library.specs.Views.{LibraryView}
use Rattle.look_commands.specs.declared.looks.Look.{Look}
use Rattle.look_commands.specs.declared.looks.Look.TheVariants.{Nodes, Save, Squares}
use Rattle.look_commands.specs.CommandNodes.{TellsNodes}
use Rattle.look_commands.specs.CommandSave.{SavesCell}
use Rattle.look_commands.specs.CommandSquares.{TellsSquares}

-- These lines and stores are what the look at the cell of this name tells.
abbrev pub Tells : Look → LibraryView → ℕ → List ℕ → List ReportLine → List Store → Type 0
Tells Nodes library cell name lines stores = TellsNodes library cell lines × (stores ≡ [])
Tells Save library cell name lines stores = SavesCell library cell name lines stores
Tells Squares library cell name lines stores = TellsSquares library cell name lines × (stores ≡ [])
