use Rattle.script_lines.proofs.Common.{◌≡◌, ◌∷◌, refl, map, replicate, arith, Ok, Err, common_steps, words_of, BadForm, UseId, Number, Word, Value}
use Rattle.script_lines.specs.Arguments.{read_words}
use Rattle.script_lines.proofs.ReadLaws.{read-front, read-front-err, read-front-bad}
use Rattle.script_lines.proofs.readings.id_and_numbers.Goals as goal

pub returns-in_err-id-clause-refused : goal.returns-in_err-id-clause-refused
returns-in_err-id-clause-refused g c =
    let e : read_words (UseId ∷ replicate g.row.N Number) (words_of c.args.line.now) ≡ Err BadForm =
    read-front-bad UseId (replicate g.row.N Number) (words_of c.args.line.now) c.in_err-id.ensures.refused.1 in
    grind (arith, common_steps)

pub returns-in_err-numbers-clause-refused : goal.returns-in_err-numbers-clause-refused
returns-in_err-numbers-clause-refused g c =
    let e : read_words (UseId ∷ replicate g.row.N Number) (words_of c.args.line.now) ≡ Err c.in_err-numbers.field-0.0 =
    read-front-err UseId (replicate g.row.N Number) (words_of c.args.line.now) c.in_ok-id.id.now (words_of c.next_use_id.new.rest.now)
    c.in_err-numbers.field-0.0 c.in_ok-id.ensures.words c.in_ok-id.ensures.id refl c.in_err-numbers.ensures.refused in
    grind (arith, common_steps)

pub returns-clause-read : goal.returns-clause-read
returns-clause-read g c =
    let e : read_words (UseId ∷ replicate g.row.N Number) (words_of c.args.line.now) ≡ Ok (Word c.in_ok-id.id.now ∷ map Value c.in_ok-numbers.numbers) =
    read-front UseId (replicate g.row.N Number) (words_of c.args.line.now) c.in_ok-id.id.now (words_of c.next_use_id.new.rest.now)
    (map Value c.in_ok-numbers.numbers) c.in_ok-id.ensures.words c.in_ok-id.ensures.id refl c.in_ok-numbers.ensures.read in
    grind (arith, common_steps)
