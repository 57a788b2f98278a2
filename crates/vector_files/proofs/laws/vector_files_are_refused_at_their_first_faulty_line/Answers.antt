use Rattle.vector_files.proofs.RefusedFiles.{vectors_in-refused}
use Rattle.vector_files.proofs.laws.vector_files_are_refused_at_their_first_faulty_line.Goals as goal

pub returns : goal.returns
returns c = vectors_in-refused
