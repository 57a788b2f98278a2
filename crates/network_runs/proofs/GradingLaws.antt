-- The lines of grades, and what makes them those that are meant.
use Rattle.network_runs.proofs.Common.{◌≡◌, ◌<◌, ◌++◌, ℕ, List, [], ◌∷◌, map, length, refl, sym, ◌∙◌, subst, All, ReportLine, sim_of, Network}
use Rattle.network_runs.proofs.Common.{Graded, IsOfInside, reply, no_lines_inside, reply_inside, TellsFaults, grade_line, preferred_names, IsNetOf}
use Rattle.std.proofs.Common.{Bool, not, filter, inl, inr}
use Rattle.std.specs.List.{AllZip, range_with_len}
use Rattle.std.proofs.lemmas.List.{length-map}
use Rattle.std.proofs.lemmas.List.Elements.{All-cons, All-nil}
use Rattle.finite_sets.specs.Lists.{In}
use Rattle.finite_sets.proofs.Images.{In-flat_map_source}
use Rattle.finite_sets.proofs.Members.{In-filter_source}
use Rattle.use_orders.proofs.Listed.{In-numbers_below}
use Rattle.ext_model.specs.declared.circuits.Circuit.{Circuit}
use Rattle.ext_model.specs.declared.records.NodeRec.{NodeRec}
use Rattle.sim_networks.specs.SimNetworks.{HasNodeForEach}
use Rattle.vector_files.specs.declared.files.Vectors.{Vectors}
use Rattle.vector_files.specs.LineForms.{is_rail}
use Rattle.vector_runs.specs.declared.stuck_faults.StuckFault.{StuckFault}
use Rattle.fault_grade.specs.Grades.{AreGrades, IsGrade, faults_at, faults_of}
use Rattle.network_runs.specs.Grading.{TellsCoverage, coverage_text, grade_lines}

-- a fault is one of a node
faults_below : (names : List (List ℕ × ℕ)) (nodes : ℕ) (fault : StuckFault) → In fault (faults_of names nodes) → fault.node < nodes
faults_below names nodes fault here =
    let kept : ℕ → Bool = λ v. not (is_rail names v) in
    let from = In-flat_map_source faults_at fault (filter kept (range_with_len 0 nodes)) here in
    let below = In-numbers_below nodes from.0 (In-filter_source kept from.0 (range_with_len 0 nodes) from.1.0) in
    elim from.1.1 [
      | inl low ↦ subst (λ (one : StuckFault). one.node < nodes) low below
      | inr (inl high) ↦ subst (λ (one : StuckFault). one.node < nodes) high below
      | inr (inr none) ↦ absurd none
    ]

-- and so is each grade
grades_below : (net : Network) (names : List (List ℕ × ℕ)) (budget nodes : ℕ) (vectors : Vectors) (faults : List StuckFault) (grades : List Graded)
    → AllZip (IsGrade net names budget vectors) faults grades → ((fault : StuckFault) → In fault faults → fault.node < nodes)
    → All (λ (graded : Graded). graded.node < nodes) grades
grades_below net names budget nodes vectors [] [] are below = All-nil (λ (graded : Graded). graded.node < nodes)
grades_below net names budget nodes vectors [] (graded ∷ grades) are below = absurd are
grades_below net names budget nodes vectors (fault ∷ faults) [] are below = absurd are
grades_below net names budget nodes vectors (fault ∷ faults) (graded ∷ grades) are below =
    All-cons (λ (one : Graded). one.node < nodes) graded grades (subst (λ (v : ℕ). v < nodes) (sym are.0.node) (below fault (inl refl)))
    (grades_below net names budget nodes vectors faults grades are.1 (λ other here. below other (inr here)))

-- so each grade of the network of a circuit is of a node of the circuit
pub grades_of_nodes : (circuit : Circuit) (net : Network) (names : List (List ℕ × ℕ)) (budget : ℕ) (vectors : Vectors) (grades : List Graded)
    → HasNodeForEach (preferred_names circuit) net names → AreGrades net names budget vectors grades
    → All (λ (graded : Graded). graded.node < length circuit.nodes) grades
grades_of_nodes circuit net names budget vectors grades nodes are =
    let many : net.nodes ≡ length circuit.nodes = nodes.as_many ∙ length-map circuit.nodes (λ (node : NodeRec). node.name) in
    subst (λ (n : ℕ). All (λ (graded : Graded). graded.node < n) grades) many
    (grades_below net names budget net.nodes vectors (faults_of names net.nodes) grades are (faults_below names net.nodes))

-- the lines of grades come from inside
faults_inside : (preferred : List (List ℕ)) (grades : List Graded) (rest : List ReportLine) → IsOfInside rest
    → IsOfInside (map (grade_line preferred) grades ++ rest)
faults_inside preferred [] rest inside = inside
faults_inside preferred (graded ∷ grades) rest inside =
    let later = faults_inside preferred grades rest inside in record { present = later.present; fits = later.fits }

pub grades_inside : (cell : List ℕ) (preferred : List (List ℕ)) (grades : List Graded) (lines : List ReportLine)
    → lines ≡ grade_lines cell preferred grades → IsOfInside lines
grades_inside cell preferred grades lines are =
    subst (λ (all : List ReportLine). IsOfInside all) (sym are)
    (faults_inside preferred grades (reply (coverage_text cell grades) ∷ []) (reply_inside (coverage_text cell grades) [] no_lines_inside))

-- what answers a vector file that is graded
pub tells_coverage : (budget number : ℕ) (cell text : List ℕ) (circuit : Circuit) (net : Network) (names : List (List ℕ × ℕ))
    (lines : List ReportLine) → IsNetOf (sim_of circuit) net names → HasNodeForEach (preferred_names circuit) net names
    → TellsFaults budget number cell text circuit net names lines → TellsCoverage budget number cell text circuit lines
tells_coverage budget number cell text circuit net names lines is nodes tells =
    record { net = net; names = names; is_net = is; same_nodes = nodes; tells = tells }
