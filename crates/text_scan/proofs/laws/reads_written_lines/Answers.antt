use Rattle.text_scan.proofs.WrittenLemmas.{lines_of-text_of}
use Rattle.text_scan.proofs.laws.reads_written_lines.Goals as goal

pub returns : goal.returns
returns c = lines_of-text_of
