use Rattle.script_lines.proofs.Common.{List, ℤ, ◌≡◌, ◌∷◌, [], ap, ◌∙◌, map, arith, Ok, Err, common_steps, words_of, Count, Value}
use Rattle.script_lines.specs.Arguments.{read_words}
use Rattle.script_lines.proofs.readings.count.Goals as goal
use Rattle.script_lines.proofs.LabelLaws.{count-err, count-read, count-outside}

pub returns-in_err-last_numbers-clause-refused : goal.returns-in_err-last_numbers-clause-refused
returns-in_err-last_numbers-clause-refused c =
    let e : read_words (Count ∷ []) (words_of c.args.line.now) ≡ Err c.in_err-last_numbers.field-0.0 =
    count-err (words_of c.args.line.now) c.in_err-last_numbers.field-0.0 c.in_err-last_numbers.ensures.refused in
    grind (arith, common_steps)

pub returns-then-not-is_between-clause-refused : goal.returns-then-not-is_between-clause-refused
returns-then-not-is_between-clause-refused c =
    count-outside (words_of c.args.line.now) c.number_of-count.result
    (c.in_ok-last_numbers.ensures.read ∙ ap (λ (numbers : List ℤ). Ok (map Value numbers)) c.number_of-count.ensures)
    (grind (arith, common_steps))

pub returns-clause-read : goal.returns-clause-read
returns-clause-read c =
    let e : read_words (Count ∷ []) (words_of c.args.line.now) ≡ Ok (Value c.number_of-count.result ∷ []) =
    count-read (words_of c.args.line.now) c.number_of-count.result
    (c.in_ok-last_numbers.ensures.read ∙ ap (λ (numbers : List ℤ). Ok (map Value numbers)) c.number_of-count.ensures)
    (grind (arith, common_steps)) in
    grind (arith, common_steps)
