use Rattle.fault_grade.specs.Grades.{faults_of}
use Rattle.fault_grade.proofs.GradeLaws.{same_grades}
use Rattle.fault_grade.proofs.laws.grades_are_unique.Goals as goal

pub returns : goal.returns
returns c = λ net names budget vectors grades others first second. same_grades net names budget vectors (faults_of names net.nodes) grades others first second
