use Rattle.std.proofs.Common.{ap, length, arith}
use Rattle.text_scan.proofs.LineLemmas.{length-lines_of}
use Rattle.text_scan.proofs.lines.Goals as goal

pub returns-clause-count : goal.returns-clause-count
returns-clause-count c = omega (arith, length-lines_of c.args.text.now, ap length c.new.ensures)
