use Rattle.text_scan.proofs.WrittenLemmas.{IsLine-line_of, words_of-line_of}
use Rattle.text_scan.proofs.laws.reads_written_words.Goals as goal

pub returns-clause-line : goal.returns-clause-line
returns-clause-line c = IsLine-line_of

pub returns-clause-words : goal.returns-clause-words
returns-clause-words c = words_of-line_of
