use Rattle.std.proofs.Common.{◌<◌, length, arith}
use Rattle.std.proofs.lemmas.Grind.{common_steps}
use Rattle.text_scan.specs.Words.{from_first_word}
use Rattle.text_scan.proofs.WordLemmas.{words_of-none, words_of-split}
use Rattle.text_scan.proofs.word.split_word.Goals as goal

pub returns-then-is_empty-clause-words : goal.returns-then-is_empty-clause-words
returns-then-is_empty-clause-words c =
    words_of-none c.args.line.now (grind (arith, common_steps))

pub returns-clause-words : goal.returns-clause-words
returns-clause-words c =
    let some : 0 < length (from_first_word c.args.line.now) = grind (arith, common_steps) in
    let first = words_of-split c.args.line.now some in
    cc
