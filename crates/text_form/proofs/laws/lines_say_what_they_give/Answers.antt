use Rattle.text_form.proofs.SaidLaws.{said_of, read_said_as}
use Rattle.text_form.proofs.laws.lines_say_what_they_give.Goals as goal

pub returns : goal.returns
returns g c = λ start last lines.
    let says = g.R.LineForm.says in
    let add = g.R.LineForm.add in
    (said_of says add 1 start lines last, read_said_as says add 1 start lines last)
