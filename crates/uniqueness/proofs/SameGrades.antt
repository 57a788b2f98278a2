-- How vectors grade faults rests on the network and on which name has which node, and not on how the names are listed.
use Rattle.uniqueness.proofs.Common.{◌≡◌, ℕ, Bool, List, [], ◌∷◌, refl, sym, ap, subst, fun_ext, MatchOption, Network, Vectors, NameAlike}
use Rattle.std.proofs.Common.{Option, Some, None}
use Rattle.std.specs.List.{AllZip}
use Rattle.vector_runs.specs.VectorFiles.LineForms.{is_rail}
use Rattle.vector_runs.specs.declared.stuck_faults.StuckFault.{StuckFault}
use Rattle.network_commands.specs.FaultGrade.declared.grading.Graded.{Graded}
use Rattle.network_commands.specs.FaultGrade.Grades.{AreGrades, Detects, IsDetectedAt, IsGrade, IsUndetected, faults_but, faults_of}
use Rattle.network_commands.specs.FaultGrade.Laws as Grading
use Rattle.uniqueness.proofs.SameReplies.{begins_alike}

-- names that are alike are so the other way round
alike_back : (names others : List (List ℕ × ℕ)) → NameAlike names others → NameAlike others names
alike_back names others alike name v = ((alike name v).1, (alike name v).0)

module _ (net : Network) (budget : ℕ) (vectors : Vectors) where
  -- a line detects a fault with the names of either list
  detects_alike : (names others : List (List ℕ × ℕ)) → NameAlike names others → (fault : StuckFault) (number : ℕ)
      → Detects net others budget vectors fault number → Detects net names budget vectors fault number
  detects_alike names others alike fault number is =
      record { start = is.start; starts = begins_alike names others alike net is.start is.starts; tells = is.tells }

  -- so the line of a fault is the same, or there is none
  line_alike : (names others : List (List ℕ × ℕ)) → NameAlike names others → (fault : StuckFault) (line : Option ℕ)
      → MatchOption line (IsUndetected net others budget vectors fault) (IsDetectedAt net others budget vectors fault)
      → MatchOption line (IsUndetected net names budget vectors fault) (IsDetectedAt net names budget vectors fault)
  line_alike names others alike fault None never =
      λ number detects. never number (detects_alike others names (alike_back names others alike) fault number detects)
  line_alike names others alike fault (Some line) at = record {
    detects = detects_alike names others alike fault line at.detects;
    least = λ other detects. at.least other (detects_alike others names (alike_back names others alike) fault other detects);
  }

  -- and so is each grade
  each_alike : (names others : List (List ℕ × ℕ)) → NameAlike names others → (faults : List StuckFault) (grades : List Graded)
      → AllZip (IsGrade net others budget vectors) faults grades → AllZip (IsGrade net names budget vectors) faults grades
  each_alike names others alike [] [] are = are
  each_alike names others alike [] (graded ∷ grades) are = absurd are
  each_alike names others alike (fault ∷ faults) [] are = absurd are
  each_alike names others alike (fault ∷ faults) (graded ∷ grades) are = (
    record { node = are.0.node; value = are.0.value; line = line_alike names others alike fault graded.line are.0.line },
    each_alike names others alike faults grades are.1,
  )

-- the faults are the same where the same nodes are power and ground
pub faults_alike : (names others : List (List ℕ × ℕ)) → ((v : ℕ) → is_rail names v ≡ is_rail others v) → (nodes more : ℕ) → nodes ≡ more
    → faults_of names nodes ≡ faults_of others more
faults_alike names others rails nodes more same =
    subst (λ (n : ℕ). faults_of names nodes ≡ faults_of others n) same (ap (λ (test : ℕ → Bool). faults_but test nodes) (fun_ext rails))

-- vectors have one list of grades
pub grades_alike : Grading.GradesAreUnique → (net other : Network) (names others : List (List ℕ × ℕ)) → net ≡ other → NameAlike names others
    → ((v : ℕ) → is_rail names v ≡ is_rail others v) → (budget : ℕ) (vectors : Vectors) (grades more : List Graded)
    → AreGrades net names budget vectors grades → AreGrades other others budget vectors more → grades ≡ more
grades_alike one net other names others same alike rails budget vectors grades more are also =
    let there = subst (λ (of : Network). AreGrades of others budget vectors more) (sym same) also in
    let faults = faults_alike names others rails net.nodes net.nodes refl in
    let here = each_alike net budget vectors names others alike (faults_of others net.nodes) more there in
    one net names budget vectors grades more are
    (subst (λ (all : List StuckFault). AllZip (IsGrade net names budget vectors) all more) (sym faults) here)
