use Rattle.file_laws.proofs.RefusedFiles.{ext_in-refused}
use Rattle.file_laws.proofs.circuit_files.circuit_files_are_refused_at_their_first_faulty_line.Goals as goal

pub returns : goal.returns
returns c = ext_in-refused
