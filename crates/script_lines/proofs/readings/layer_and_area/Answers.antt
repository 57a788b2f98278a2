use Rattle.script_lines.proofs.Common.{◌≡◌, ◌∷◌, refl, ap, map, arith, Ok, Err, common_steps, words_of, BadForm, Layer, Word, Value, begins_with}
use Rattle.script_lines.specs.Arguments.{read_words}
use Rattle.script_lines.specs.Commands.{four_numbers}
use Rattle.script_lines.proofs.ReadLaws.{read-front, read-front-err, read-front-bad}
use Rattle.script_lines.proofs.readings.layer_and_area.Goals as goal

pub returns-in_err-layer-clause-refused : goal.returns-in_err-layer-clause-refused
returns-in_err-layer-clause-refused c =
    let e : read_words (Layer ∷ four_numbers) (words_of c.args.line.now) ≡ Err BadForm =
    read-front-bad Layer four_numbers (words_of c.args.line.now) (ap (begins_with Layer) c.in_err-layer.ensures.words.1) in
    grind (arith, common_steps)

pub returns-in_err-last_numbers-clause-refused : goal.returns-in_err-last_numbers-clause-refused
returns-in_err-last_numbers-clause-refused c =
    let e : read_words (Layer ∷ four_numbers) (words_of c.args.line.now) ≡ Err c.in_err-last_numbers.field-0.0 =
    read-front-err Layer four_numbers (words_of c.args.line.now) c.in_ok-layer.layer.now (words_of c.next_word.new.rest.now)
    c.in_err-last_numbers.field-0.0 c.in_ok-layer.ensures.words refl refl c.in_err-last_numbers.ensures.refused in
    grind (arith, common_steps)

pub returns-clause-read : goal.returns-clause-read
returns-clause-read c =
    let e : read_words (Layer ∷ four_numbers) (words_of c.args.line.now) ≡ Ok (Word c.in_ok-layer.layer.now ∷ map Value c.in_ok-last_numbers.field-0) =
    read-front Layer four_numbers (words_of c.args.line.now) c.in_ok-layer.layer.now (words_of c.next_word.new.rest.now)
    (map Value c.in_ok-last_numbers.field-0) c.in_ok-layer.ensures.words refl refl c.in_ok-last_numbers.ensures.read in
    grind (arith, common_steps)
