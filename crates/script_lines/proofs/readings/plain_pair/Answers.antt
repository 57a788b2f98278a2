use Rattle.script_lines.proofs.Common.{rules, ◌≡◌, ◌≢◌, ◌∷◌, [], refl, arith, Ok, Err, common_steps, words_of, BadForm, OutOfMemory, Plain, Word}
use Rattle.script_lines.specs.Arguments.{read_words}
use Rattle.script_lines.proofs.ReadLaws.{read-front, read-front-err, read-front-bad}
use Rattle.script_lines.proofs.readings.plain_pair.Goals as goal

pub returns-in_err-first-clause-refused : goal.returns-in_err-first-clause-refused
returns-in_err-first-clause-refused c =
    let e : read_words (Plain ∷ Plain ∷ []) (words_of c.args.line.now) ≡ Err BadForm =
    read-front-bad Plain (Plain ∷ []) (words_of c.args.line.now) c.in_err-first.ensures.refused.1 in
    grind (arith, common_steps)

pub returns-in_err-second-clause-refused : goal.returns-in_err-second-clause-refused
returns-in_err-second-clause-refused c =
    let known : c.in_err-second.field-0.0 ≢ OutOfMemory → read_words (Plain ∷ Plain ∷ []) (words_of c.args.line.now) ≡ Err c.in_err-second.field-0.0 = λ other.
    read-front-err Plain (Plain ∷ []) (words_of c.args.line.now) c.in_ok-first.first.now (words_of c.next_plain.new.rest.now)
    c.in_err-second.field-0.0 c.in_ok-first.ensures.words c.in_ok-first.ensures.plain refl (c.in_err-second.ensures.refused other) in
    search (rules, known)

pub returns-clause-read : goal.returns-clause-read
returns-clause-read c =
    let rest = words_of c.next_plain.new.rest.now in
    let e : read_words (Plain ∷ Plain ∷ []) (words_of c.args.line.now) ≡ Ok (Word c.in_ok-first.first.now ∷ Word c.in_ok-second.second ∷ []) =
    read-front Plain (Plain ∷ []) (words_of c.args.line.now) c.in_ok-first.first.now rest (Word c.in_ok-second.second ∷ []) c.in_ok-first.ensures.words
    c.in_ok-first.ensures.plain refl c.in_ok-second.ensures.read in
    grind (arith, common_steps)
