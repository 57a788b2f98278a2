-- What answers which stuck faults of a circuit a vector file detects.
use Rattle.std.specs.Prelude.{◌≡◌, ◌⊎◌, ◌<◌, ◌≤◌, ℕ, pos, Bool, List, [], ◌∷◌, ◌++◌, length, map, Option, Some, None, Result, Ok, Err, codes}
use Rattle.std.specs.Prelude.{is_some, slice_index_or}
use Rattle.std.specs.List.{count_by}
use Rattle.text_form.specs.declared.reading.At.{At}
use Rattle.text_scan.specs.Decimal.{decimal}
use Rattle.session_model.specs.declared.report.LineKind.TheVariants as kind
use Rattle.session_model.specs.declared.report.ReportLine.{ReportLine}
use Rattle.ext_model.specs.declared.circuits.Circuit.{Circuit}
use Rattle.sim_records.specs.SimRecords.{sim_of}
use Rattle.sim_networks.specs.SimNetworks.{HasNodeForEach}
use Rattle.switch_net.specs.Network.{Network}
use Rattle.vector_files.specs.declared.faults.VecFault.{VecFault}
use Rattle.vector_files.specs.declared.files.Vectors.{Vectors as VectorFile}
use Rattle.vector_files.specs.VectorFiles.{vectors_in}
use Rattle.vector_runs.specs.Replies.{level_text}
use Rattle.fault_grade.specs.declared.grading.Graded.{Graded}
use Rattle.fault_grade.specs.declared.limits.TheConstants.{MOST_FAULTS}
use Rattle.fault_grade.specs.Grades.{AreGrades, faults_of}
use Rattle.line_answers.specs.LineEffects.{reply}
use Rattle.line_answers.specs.Refusals.{refusal_line, too_many}
use Rattle.network_runs.specs.Refusals.{vec_refusal}
use Rattle.network_runs.specs.Simulations.{IsNetOf}

-- ---- the lines

-- the preferred names of the nodes of a circuit, in the order of its nodes
abbrev pub preferred_names : Circuit → List (List ℕ)
preferred_names circuit = map (λ node. node.name) circuit.nodes

-- ` detected LINE`, or ` undetected`
abbrev pub detection_text : Option ℕ → List ℕ
detection_text None = codes " undetected"
detection_text (Some line) = codes " detected " ++ decimal (pos line)

-- `fault NODE VALUE detected LINE` and `fault NODE VALUE undetected`
abbrev pub grade_text : List ℕ → Graded → List ℕ
grade_text name graded = codes "fault " ++ name ++ codes " " ++ level_text graded.value ++ detection_text graded.line

-- the line of a grade, of a node that has the name at its place among these
abbrev pub grade_line : List (List ℕ) → Graded → ReportLine
grade_line preferred graded = record { kind = kind.Fault; text = grade_text (slice_index_or preferred graded.node []) graded }

-- a grade with a line is one of a fault that is detected
abbrev pub is_detected : Graded → Bool
is_detected graded = is_some graded.line

-- `grade CELL: F faults D detected`
abbrev pub coverage_text : List ℕ → List Graded → List ℕ
coverage_text cell grades =
    codes "grade " ++ cell ++ codes ": " ++ decimal (pos (length grades)) ++ codes " faults " ++ decimal (pos (count_by is_detected grades))
    ++ codes " detected"

-- a line for each grade, and then how many faults there are and how many of them are detected
abbrev pub grade_lines : List ℕ → List (List ℕ) → List Graded → List ReportLine
grade_lines cell preferred grades = map (grade_line preferred) grades ++ reply (coverage_text cell grades) ∷ []

-- ---- what they tell

-- The lines are those of the grades of the vectors on the network.
pub record TellsGrades (budget : ℕ) (cell : List ℕ) (circuit : Circuit) (net : Network) (names : List (List ℕ × ℕ)) (vectors : VectorFile)
    (lines : List ReportLine) : Type 0 where
  pub grades : List Graded
  pub are_grades : AreGrades net names budget vectors grades
  pub are : lines ≡ grade_lines cell (preferred_names circuit) grades

-- Vectors that were read are graded, and a fault of theirs is told.
abbrev pub TellsReadGrades : ℕ → ℕ → List ℕ → Circuit → Network → List (List ℕ × ℕ) → Result VectorFile (At VecFault) → List ReportLine → Type 0
TellsReadGrades budget number cell circuit net names (Ok vectors) lines = TellsGrades budget cell circuit net names vectors lines
TellsReadGrades budget number cell circuit net names (Err at) lines = lines ≡ refusal_line number (vec_refusal at) ∷ []

-- There may be too many faults; this is told before the vectors are read.
abbrev pub TellsFaults : ℕ → ℕ → List ℕ → List ℕ → Circuit → Network → List (List ℕ × ℕ) → List ReportLine → Type 0
TellsFaults budget number cell text circuit net names lines =
    ((MOST_FAULTS < length (faults_of names net.nodes)) × (lines ≡ refusal_line number (too_many (codes "Faults")) ∷ []))
    ⊎ ((length (faults_of names net.nodes) ≤ MOST_FAULTS)
    × TellsReadGrades budget number cell circuit net names (vectors_in names text) lines)

-- The lines grade a vector file of this text on the network of the circuit of the cell of this name, whose nodes are those of the circuit.
pub record TellsCoverage (budget number : ℕ) (cell text : List ℕ) (circuit : Circuit) (lines : List ReportLine) : Type 0 where
  pub net : Network
  pub names : List (List ℕ × ℕ)
  pub is_net : IsNetOf (sim_of circuit) net names
  pub same_nodes : HasNodeForEach (preferred_names circuit) net names
  pub tells : TellsFaults budget number cell text circuit net names lines
