use Rattle.text_form.proofs.FoldLaws.{first_fault_or-first, first_fault_or-refused}
use Rattle.text_form.proofs.laws.lines_are_refused_at_the_first_faulty_one.Goals as goal

pub returns : goal.returns
returns g c = λ context start lines at.
    let step = g.R.LineReader.step context in
    (first_fault_or-first step 1 start lines at, first_fault_or-refused step 1 start lines at)
