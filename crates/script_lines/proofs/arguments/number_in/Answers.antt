use Rattle.script_lines.proofs.Common.{◌≡◌, sym, refl, common_steps, arith, Empty, Digit, number_in}
use Rattle.script_lines.proofs.NumberForms.{number_of-formed, number_of-value, number_of-range, number_of-other}
use Rattle.script_lines.proofs.arguments.number_in.Goals as goal

pub returns-in-Ok-clause-formed : goal.returns-in-Ok-clause-formed
returns-in-Ok-clause-formed c = number_of-formed c.args.word.now c.in-Ok.value (cc)

pub returns-in-Ok-clause-value : goal.returns-in-Ok-clause-value
returns-in-Ok-clause-value c =
    let e : number_in c.args.word.now ≡ c.in-Ok.value = number_of-value c.args.word.now c.in-Ok.value (cc) in
    let h = c.in-Ok.value-is in grind (arith, common_steps)

pub returns-in-Err-Range-clause-formed : goal.returns-in-Err-Range-clause-formed
returns-in-Err-Range-clause-formed c = (number_of-range c.args.word.now (cc)).0

pub returns-in-Err-Range-clause-value : goal.returns-in-Err-Range-clause-value
returns-in-Err-Range-clause-value c = sym (number_of-range c.args.word.now (cc)).1

pub returns-in-Err-Empty : goal.returns-in-Err-Empty
returns-in-Err-Empty c = record { formed = (refl, number_of-other c.args.word.now Empty (λ same. cc) (cc)); value = tt }

pub returns-in-Err-Digit : goal.returns-in-Err-Digit
returns-in-Err-Digit c = record { formed = (refl, number_of-other c.args.word.now Digit (λ same. cc) (cc)); value = tt }
