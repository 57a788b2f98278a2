use Rattle.script_lines.proofs.Common.{◌≡◌, ◌∷◌, [], refl, arith, Ok, Err, common_steps, words_of, BadForm, UseId, Word}
use Rattle.script_lines.specs.Arguments.{read_words}
use Rattle.script_lines.proofs.ReadLaws.{read-front, read-front-err, read-front-bad, read-none, read-rest}
use Rattle.script_lines.proofs.readings.id_alone.Goals as goal

pub returns-in_err-id-clause-refused : goal.returns-in_err-id-clause-refused
returns-in_err-id-clause-refused c =
    let e : read_words (UseId ∷ []) (words_of c.args.line.now) ≡ Err BadForm =
    read-front-bad UseId [] (words_of c.args.line.now) c.in_err-id.ensures.refused.1 in
    grind (arith, common_steps)

pub returns-in_err-no_more-clause-refused : goal.returns-in_err-no_more-clause-refused
returns-in_err-no_more-clause-refused c =
    let rest = words_of c.next_use_id.new.rest.now in
    let e : read_words (UseId ∷ []) (words_of c.args.line.now) ≡ Err BadForm =
    read-front-err UseId [] (words_of c.args.line.now) c.in_ok-id.id.now rest BadForm c.in_ok-id.ensures.words
    c.in_ok-id.ensures.id refl (read-rest rest c.in_err-no_more.ensures.refused.1) in
    grind (arith, common_steps)

pub returns-clause-read : goal.returns-clause-read
returns-clause-read c =
    let rest = words_of c.next_use_id.new.rest.now in
    let e : read_words (UseId ∷ []) (words_of c.args.line.now) ≡ Ok (Word c.in_ok-id.id.now ∷ []) =
    read-front UseId [] (words_of c.args.line.now) c.in_ok-id.id.now rest [] c.in_ok-id.ensures.words
    c.in_ok-id.ensures.id refl (read-none rest c.in_ok-no_more.ensures.none) in
    grind (arith, common_steps)
