use Rattle.file_laws.proofs.SpelledFiles.{read_files_spell}
use Rattle.file_laws.proofs.circuit_files.circuit_files_are_read_as_what_they_spell.Goals as goal

pub returns : goal.returns
returns c = read_files_spell
