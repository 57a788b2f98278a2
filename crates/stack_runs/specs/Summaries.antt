-- What is reported of a stack.
use Rattle.std.specs.Prelude.{◌+◌, ◌*◌, ℕ, ℤ, pos, List, ◌++◌, length, codes}
use Rattle.finite_sets.specs.Total.{sum_on}
use Rattle.text_scan.specs.Decimal.{decimal}
use Rattle.ext_model.specs.declared.circuits.Circuit.{Circuit}
use Rattle.ext_model.specs.declared.records.NodeRec.{NodeRec}
use Rattle.stack_runs.specs.declared.outcomes.Outcome.{Outcome}
use Rattle.stack_runs.specs.declared.summaries.Summary.{Summary}

-- the elements of a stack of n rows of n tiles: the stack itself, its rows and their tiles
abbrev pub element_count : ℕ → ℕ
element_count n = 1 + n + n * n

-- the area of a node in all classes
abbrev pub area_of : NodeRec → ℤ
area_of node = sum_on (λ measure. measure.0) node.measures

-- its perimeter in all classes
abbrev pub perimeter_of : NodeRec → ℤ
perimeter_of node = sum_on (λ measure. measure.1) node.measures

-- what is reported of the circuit of a stack of n rows, and of the run of its vectors
abbrev pub summary_of : ℕ → Circuit → Outcome → Summary
summary_of n circuit outcome = record {
  rows = n;
  nodes = length circuit.nodes;
  transistors = length circuit.fets;
  area = sum_on area_of circuit.nodes;
  perimeter = sum_on perimeter_of circuit.nodes;
  outcome = outcome;
}

-- ` WORD N`
abbrev pub count_text : List ℕ → ℤ → List ℕ
count_text word number = codes " " ++ word ++ codes " " ++ decimal number

-- what is written of the layout
abbrev pub layout_text : Summary → List ℕ
layout_text summary =
    count_text (codes "cells") (pos 3) ++ count_text (codes "elements") (pos (element_count summary.rows))

-- what is written of the circuit
abbrev pub circuit_text : Summary → List ℕ
circuit_text summary =
    count_text (codes "nodes") (pos summary.nodes) ++ count_text (codes "transistors") (pos summary.transistors)

-- what is written of its measures
abbrev pub measures_text : Summary → List ℕ
measures_text summary = count_text (codes "area") summary.area ++ count_text (codes "perimeter") summary.perimeter

-- what is written of the run
abbrev pub outcome_text : Outcome → List ℕ
outcome_text outcome =
    count_text (codes "steps") (pos outcome.steps) ++ count_text (codes "zeros") (pos outcome.zeros) ++ count_text (codes "ones") (pos outcome.ones)

-- `generate n: cells 3 elements E nodes N transistors F area A perimeter P steps S zeros Z ones O`
abbrev pub summary_text : Summary → List ℕ
summary_text summary =
    codes "generate " ++ decimal (pos summary.rows) ++ codes ":" ++ layout_text summary ++ circuit_text summary ++ measures_text summary
    ++ outcome_text summary.outcome
