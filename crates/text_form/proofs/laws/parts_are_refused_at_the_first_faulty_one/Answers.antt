use Rattle.text_form.proofs.PartLaws.{first_faulty_part_or-append, first_faulty_part_or-keeps, first_faulty_part_or-first, first_faulty_part_or-refused}
use Rattle.text_form.proofs.laws.parts_are_refused_at_the_first_faulty_one.Goals as goal

pub returns : goal.returns
returns g c =
    let line_of = g.R.PartForm.line_of in
    let step = g.R.PartForm.step in
    record {
      appended = λ start next before after fine. first_faulty_part_or-append line_of step start before after next fine;
      kept = λ keeps start last parts holds read. first_faulty_part_or-keeps g.R.PartForm.holds line_of step keeps start parts last holds read;
      refused = λ start parts at. (first_faulty_part_or-first line_of step start parts at, first_faulty_part_or-refused line_of step start parts at);
    }
