-- Where the answer to a line comes from: from what the shelf said, or from inside.
use Rattle.std.proofs.Common.{◌≡◌, ◌≤◌, Bool, true, false, List}
use Rattle.std.specs.Prelude.{Result, Ok, Err, IfOk, IsOkUnless}
use Rattle.session_model.specs.OutsideIo.declared.outside.Shelf.{Ghosts as ShelfWords}
use Rattle.session_model.specs.declared.answer.Answer.{Answer}
use Rattle.session_model.specs.declared.answer.Halt.{Halt}
use Rattle.session_model.specs.declared.answer.Halt.TheVariants.{ReadFault, WriteFault, Memory}
use Rattle.session_model.specs.declared.report.ReportLine.{ReportLine}
use Rattle.session_model.specs.Causes.{ComeFrom, HasCauses, kinds_of, line_kinds}
use Rattle.line_answers.specs.LineEffects.{IsOfInside}

not_both : (b : Bool) → b ≡ false → b ≡ true → ⊥
not_both b is_no is_yes = cc

-- lines of inside need no cause
inside_come : {F : Type 0} (shelf : ShelfWords F) (old new : F) (lines : List ReportLine) → IsOfInside lines → ComeFrom shelf old new (line_kinds lines)
inside_come shelf old new lines inside = record {
  absent = λ some. absurd (not_both _ inside.present some);
  too_long = λ some. absurd (not_both _ inside.fits some);
}

-- a call after a fetch that was not refused, or without one, whose lines are of inside
pub causes_of_inside : {F : Type 0} (shelf : ShelfWords F) (old new : F) (result : Result Answer Halt)
    → IsOkUnless result Memory → IfOk result (λ answer. IsOfInside answer.lines.items)
    → shelf.fetch_faults new ≡ shelf.fetch_faults old → shelf.store_faults new ≡ shelf.store_faults old
    → shelf.absences old ≤ shelf.absences new → shelf.overlengths old ≤ shelf.overlengths new
    → HasCauses shelf old new kinds_of result
causes_of_inside shelf old new (Ok answer) memory inside same no_store absences overlengths = record {
  refusals = inside_come shelf old new answer.lines.items inside;
  read_fault = λ fault. cc;
  write_fault = λ fault. cc;
  calm = same;
  no_store = no_store;
  more_absences = absences;
  more_overlengths = overlengths;
}
causes_of_inside shelf old new (Err ReadFault) memory inside same no_store absences overlengths = absurd (cc)
causes_of_inside shelf old new (Err WriteFault) memory inside same no_store absences overlengths = absurd (cc)
causes_of_inside shelf old new (Err Memory) memory inside same no_store absences overlengths = record {
  refusals = tt;
  read_fault = λ fault. cc;
  write_fault = λ fault. cc;
  calm = same;
  no_store = no_store;
  more_absences = absences;
  more_overlengths = overlengths;
}
