use Rattle.script_lines.proofs.Common.{◌≡◌, ◌∷◌, [], refl, true, false, arith, Ok, common_steps, Text, Word, is_label_text, without_outer_blanks}
use Rattle.script_lines.specs.Arguments.{read_words, words_and_text}
use Rattle.script_lines.proofs.ReadLaws.{read-front, read-front-bad, read-none}
use Rattle.script_lines.proofs.readings.text_alone.Goals as goal

pub returns-then-not-is_label_text-clause-refused : goal.returns-then-not-is_label_text-clause-refused
returns-then-not-is_label_text-clause-refused c =
    let no : is_label_text (without_outer_blanks c.args.line.now) ≡ false = grind (arith, common_steps) in
    λ other. read-front-bad Text [] (words_and_text 0 c.args.line.now) no

pub returns-clause-read : goal.returns-clause-read
returns-clause-read c =
    let yes : is_label_text (without_outer_blanks c.args.line.now) ≡ true = grind (arith, common_steps) in
    let e : read_words (Text ∷ []) (words_and_text 0 c.args.line.now) ≡ Ok (Word (without_outer_blanks c.args.line.now) ∷ []) =
    read-front Text [] (words_and_text 0 c.args.line.now) (without_outer_blanks c.args.line.now) [] [] refl yes refl (read-none [] refl) in
    grind (arith, common_steps)
