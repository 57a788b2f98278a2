use Rattle.cif_forms.proofs.Common.{◌<◌, length, arith, common_steps, from_first_word}
use Rattle.cif_forms.proofs.WordLaws.{words_in-none, words_in-split, length-from_first_word}
use Rattle.cif_forms.proofs.words.split_word.Goals as goal

pub returns-then-is_empty-clause-words : goal.returns-then-is_empty-clause-words
returns-then-is_empty-clause-words c = words_in-none c.args.bytes.now (grind (arith, common_steps))

pub returns-clause-words : goal.returns-clause-words
returns-clause-words c =
    let some : 0 < length (from_first_word c.args.bytes.now) = grind (arith, common_steps) in
    let first = words_in-split c.args.bytes.now some in
    cc

pub returns-clause-less : goal.returns-clause-less
returns-clause-less c =
    let less = length-from_first_word c.args.bytes.now in
    grind (arith, common_steps)
