-- The areas and perimeters that are reported of a stack.
use Rattle.std.specs.Prelude.{◌≤◌, ◌<◌, ◌^◌, ◌≤ℤ◌, ℕ, ℤ, pos}
use Rattle.std.specs.Int.RustNames.{unsigned_abs}
use Rattle.tech_model.specs.GeoCore.FiniteSets.Lists.{In}
use Rattle.tech_model.specs.GeoCore.FiniteSets.Total.{sum_on}
use Rattle.library_trees.specs.CellLibrary.Views.{LibraryView}
use Rattle.ext_model.specs.declared.circuits.Circuit.{Circuit}
use Rattle.ext_model.specs.declared.records.NodeRec.{NodeRec}
use Rattle.layout_gen.specs.declared.limits.TheConstants.{MOST_TILES}
use Rattle.stack_runs.specs.Summaries.{area_of, perimeter_of}
use Rattle.stack_nodes.specs.StackNodes.{IsStackCircuit}

-- No area and no perimeter of a node is negative, and all areas together fit 128 bits with sign, and so do all perimeters. So each sum of some
-- of them does.
pub record SumsFit (circuit : Circuit) : Type 0 where
  pub areas : (node : NodeRec) → In node circuit.nodes → (measure : ℤ × ℤ) → In measure node.measures → pos 0 ≤ℤ measure.0
  pub perimeters : (node : NodeRec) → In node circuit.nodes → (measure : ℤ × ℤ) → In measure node.measures → pos 0 ≤ℤ measure.1
  pub area : unsigned_abs (sum_on area_of circuit.nodes) < 2 ^ 127
  pub perimeter : unsigned_abs (sum_on perimeter_of circuit.nodes) < 2 ^ 127

-- the sums that are reported of a stack fit, for each number of rows that may be made
abbrev pub StackSumsFit : Type 0
StackSumsFit = (before : LibraryView) (n : ℕ) (circuit : Circuit) → n ≤ MOST_TILES → IsStackCircuit before n circuit → SumsFit circuit
