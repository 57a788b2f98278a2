use Rattle.std.proofs.Common.{ap, length, arith}
use Rattle.text_scan.proofs.WordLemmas.{length-words_of}
use Rattle.text_scan.proofs.words.Goals as goal

pub returns-clause-count : goal.returns-clause-count
returns-clause-count c = omega (arith, length-words_of c.args.line.now, ap length c.new.ensures)
