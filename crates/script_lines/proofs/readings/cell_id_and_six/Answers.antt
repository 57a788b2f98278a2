use Rattle.script_lines.proofs.Common.{rules, ◌≡◌, ◌≢◌, ◌∷◌, refl, map, arith, Ok, Err, common_steps, words_of, BadForm, OutOfMemory, Plain, UseId}
use Rattle.script_lines.proofs.Common.{Word, Value}
use Rattle.script_lines.specs.Arguments.{read_words}
use Rattle.script_lines.specs.Commands.{six_numbers}
use Rattle.script_lines.proofs.ReadLaws.{read-front, read-front-err, read-front-bad}
use Rattle.script_lines.proofs.readings.cell_id_and_six.Goals as goal

pub returns-in_err-cell-clause-refused : goal.returns-in_err-cell-clause-refused
returns-in_err-cell-clause-refused c =
    let e : read_words (Plain ∷ UseId ∷ six_numbers) (words_of c.args.line.now) ≡ Err BadForm =
    read-front-bad Plain (UseId ∷ six_numbers) (words_of c.args.line.now) c.in_err-cell.ensures.refused.1 in
    grind (arith, common_steps)

pub returns-in_err-id-clause-refused : goal.returns-in_err-id-clause-refused
returns-in_err-id-clause-refused c =
    let known : c.in_err-id.field-0.0 ≢ OutOfMemory → read_words (Plain ∷ UseId ∷ six_numbers) (words_of c.args.line.now) ≡ Err c.in_err-id.field-0.0 = λ other.
    read-front-err Plain (UseId ∷ six_numbers) (words_of c.args.line.now) c.in_ok-cell.cell.now (words_of c.next_plain.new.rest.now)
    c.in_err-id.field-0.0 c.in_ok-cell.ensures.words c.in_ok-cell.ensures.plain refl (c.in_err-id.ensures.refused other) in
    search (rules, known)

pub returns-clause-read : goal.returns-clause-read
returns-clause-read c =
    let e : read_words (Plain ∷ UseId ∷ six_numbers) (words_of c.args.line.now)
    ≡ Ok (Word c.in_ok-cell.cell.now ∷ Word c.in_ok-id.id ∷ map Value c.in_ok-id.six) =
    read-front Plain (UseId ∷ six_numbers) (words_of c.args.line.now) c.in_ok-cell.cell.now (words_of c.next_plain.new.rest.now)
    (Word c.in_ok-id.id ∷ map Value c.in_ok-id.six) c.in_ok-cell.ensures.words c.in_ok-cell.ensures.plain refl c.in_ok-id.ensures.read in
    grind (arith, common_steps)
