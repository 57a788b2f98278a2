use Rattle.uniqueness.proofs.LibraryFaults.{library_faults}
use Rattle.uniqueness.proofs.libraries.library_faults_are_unique.Goals as goal

pub returns : goal.returns
returns c = library_faults
