use Rattle.element_index.proofs.Common.{sym}
use Rattle.element_index.proofs.PartLaws.{absent_unfound, absent_before, cut_parts}
use Rattle.element_index.proofs.name_parts.cut.Goals as goal

pub returns-in_err-at-clause-none : goal.returns-in_err-at-clause-none
returns-in_err-at-clause-none c = rw c.from_residual.ensures (absent_unfound c.args.mark c.args.text.now (sym c.in_err-at.ensures))

pub returns-clause-parts : goal.returns-clause-parts
returns-clause-parts c = cut_parts c.args.mark c.args.text.now c.in_ok-at.at (sym c.in_ok-at.ensures)

pub returns-clause-first : goal.returns-clause-first
returns-clause-first c = absent_before c.args.mark c.args.text.now c.in_ok-at.at (sym c.in_ok-at.ensures)
