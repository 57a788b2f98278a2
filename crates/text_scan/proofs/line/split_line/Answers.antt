use Rattle.std.proofs.Common.{◌<◌, length, arith}
use Rattle.std.proofs.lemmas.Grind.{common_steps}
use Rattle.text_scan.proofs.LineLemmas.{lines_of-nil, lines_of-first}
use Rattle.text_scan.proofs.line.split_line.Goals as goal

pub returns-then-is_empty-clause-lines : goal.returns-then-is_empty-clause-lines
returns-then-is_empty-clause-lines c = grind (arith, common_steps, lines_of-nil)

pub returns-clause-lines : goal.returns-clause-lines
returns-clause-lines c =
    let some : 0 < length c.args.text.now = grind (arith, common_steps) in
    let first = lines_of-first c.args.text.now some in
    cc
