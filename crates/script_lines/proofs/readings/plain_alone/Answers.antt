use Rattle.script_lines.proofs.Common.{◌≡◌, ◌∷◌, [], refl, arith, Ok, Err, common_steps, words_of, BadForm, Plain, Word}
use Rattle.script_lines.specs.Arguments.{read_words}
use Rattle.script_lines.proofs.ReadLaws.{read-front, read-front-err, read-front-bad, read-none, read-rest}
use Rattle.script_lines.proofs.readings.plain_alone.Goals as goal

pub returns-in_err-name-clause-refused : goal.returns-in_err-name-clause-refused
returns-in_err-name-clause-refused c =
    let e : read_words (Plain ∷ []) (words_of c.args.line.now) ≡ Err BadForm =
    read-front-bad Plain [] (words_of c.args.line.now) c.in_err-name.ensures.refused.1 in
    grind (arith, common_steps)

pub returns-in_err-no_more-clause-refused : goal.returns-in_err-no_more-clause-refused
returns-in_err-no_more-clause-refused c =
    let rest = words_of c.next_plain.new.rest.now in
    let e : read_words (Plain ∷ []) (words_of c.args.line.now) ≡ Err BadForm =
    read-front-err Plain [] (words_of c.args.line.now) c.in_ok-name.name.now rest BadForm c.in_ok-name.ensures.words
    c.in_ok-name.ensures.plain refl (read-rest rest c.in_err-no_more.ensures.refused.1) in
    grind (arith, common_steps)

pub returns-clause-read : goal.returns-clause-read
returns-clause-read c =
    let rest = words_of c.next_plain.new.rest.now in
    let e : read_words (Plain ∷ []) (words_of c.args.line.now) ≡ Ok (Word c.in_ok-name.name.now ∷ []) =
    read-front Plain [] (words_of c.args.line.now) c.in_ok-name.name.now rest [] c.in_ok-name.ensures.words
    c.in_ok-name.ensures.plain refl (read-none rest c.in_ok-no_more.ensures.none) in
    grind (arith, common_steps)
