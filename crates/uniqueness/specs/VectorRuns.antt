-- What vector files on the network of sim records are held to.
use Rattle.std.specs.Prelude.{◌≡◌, ℕ, List, Ok}
use Rattle.switch_net.specs.Network.{Network}
use Rattle.switch_net.specs.SimRecords.{SimRecords}
use Rattle.vector_runs.specs.VectorFiles.declared.files.Vectors.{Vectors}
use Rattle.vector_runs.specs.VectorFiles.VectorFiles.{vectors_in}
use Rattle.vector_runs.specs.declared.replies.VecReply.{VecReply}
use Rattle.vector_runs.specs.Runs.{IsRun}
use Rattle.network_commands.specs.FaultGrade.declared.grading.Graded.{Graded}
use Rattle.network_commands.specs.FaultGrade.Grades.{AreGrades, faults_of}
use Rattle.uniqueness.specs.Networks.{IsNumbered}

-- a text is one vector file for a network of the records, or has one first fault, however the names are listed
abbrev pub VectorFilesAreUnique : Type 0
VectorFilesAreUnique =
    (records : SimRecords) (net other : Network) (names others : List (List ℕ × ℕ)) (text : List ℕ) → IsNumbered records net names
    → IsNumbered records other others → vectors_in names text ≡ vectors_in others text

-- and its vectors have one list of replies within a budget
abbrev pub RepliesAreUnique : Type 0
RepliesAreUnique =
    (records : SimRecords) (net other : Network) (names others : List (List ℕ × ℕ)) (text : List ℕ) (budget : ℕ) (vectors : Vectors)
    (replies more : List VecReply) → IsNumbered records net names → IsNumbered records other others → vectors_in names text ≡ Ok vectors
    → IsRun net names budget vectors replies → IsRun other others budget vectors more → replies ≡ more

-- and its vectors have one list of grades within a budget
abbrev pub GradesAreUnique : Type 0
GradesAreUnique =
    (records : SimRecords) (net other : Network) (names others : List (List ℕ × ℕ)) (budget : ℕ) (vectors : Vectors)
    (grades more : List Graded) → IsNumbered records net names → IsNumbered records other others
    → AreGrades net names budget vectors grades → AreGrades other others budget vectors more → grades ≡ more

-- and its nodes have as many faults, however the names are listed
abbrev pub FaultsAreUnique : Type 0
FaultsAreUnique =
    (records : SimRecords) (net other : Network) (names others : List (List ℕ × ℕ)) → IsNumbered records net names
    → IsNumbered records other others → faults_of names net.nodes ≡ faults_of others other.nodes
