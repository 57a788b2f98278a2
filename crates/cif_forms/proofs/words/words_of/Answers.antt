use Rattle.cif_forms.proofs.Common.{◌∷◌, [], append_assoc, arith, common_steps}
use Rattle.cif_forms.specs.Words.{word_of, words_of}
use Rattle.cif_forms.proofs.WordLaws.{words_of-more, words_of-none}
use Rattle.cif_forms.proofs.words.words_of.Goals as goal

pub loop-word-preserved : goal.loop-word-preserved
loop-word-preserved c =
    let more = words_of-more c.loop-word.rest.now c.in-Some.more.now c.in-Some.word.now c.in-Some.ensures.words in
    let assoc = append_assoc c.loop-word.words.items (word_of c.in-Some.word.now ∷ []) (words_of c.in-Some.more.now) in
    grind (arith, common_steps)

pub returns : goal.returns
returns c = grind (arith, common_steps, words_of-none c.loop-word.rest.now)
