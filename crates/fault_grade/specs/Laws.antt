-- What grades are held to.
use Rattle.std.specs.Prelude.{◌≡◌, ℕ, List}
use Rattle.switch_net.specs.Network.{Network}
use Rattle.vector_files.specs.declared.files.Vectors.{Vectors}
use Rattle.fault_grade.specs.declared.grading.Graded.{Graded}
use Rattle.fault_grade.specs.Grades.{AreGrades}

-- vectors have one list of grades on a network with these names
abbrev pub GradesAreUnique : Type 0
GradesAreUnique =
    (net : Network) (names : List (List ℕ × ℕ)) (budget : ℕ) (vectors : Vectors) (grades others : List Graded)
    → AreGrades net names budget vectors grades → AreGrades net names budget vectors others → grades ≡ others
