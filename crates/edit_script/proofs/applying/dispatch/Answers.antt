use Rattle.edit_script.proofs.Common.{◌≡◌, ◌∙◌, subst, sym, w64, Command, Applies}
use Rattle.script_lines.specs.declared.commands.Command.TheVariants as command
use Rattle.script_lines.specs.Forms.{IsFormed}
use Rattle.edit_script.proofs.NumberLaws.{number_passed, position_passed}
use Rattle.edit_script.proofs.applying.dispatch.Goals as goal
use mir.Val.{of_z, to_z}

pub returns-in-New-clause-applies : goal.returns-in-New-clause-applies
returns-in-New-clause-applies c =
    subst (λ (asked : Command). Applies c.args.library.now c.args.current.now c.new_cell.new.library c.new_cell.new.current asked c.new_cell.result)
    (sym c.in-New.is) c.new_cell.ensures.applies

pub returns-in-Move-clause-applies : goal.returns-in-Move-clause-applies
returns-in-Move-clause-applies c =
    let made = c.in-Move in
    let formed = subst IsFormed made.is c.requires.formed in
    let dx : to_z w64 (of_z w64 made.dx) ≡ made.dx = number_passed made.dx formed.1 in
    let dy : to_z w64 (of_z w64 made.dy) ≡ made.dy = number_passed made.dy formed.2 in
    let same : command.Move made.id (to_z w64 (of_z w64 made.dx)) (to_z w64 (of_z w64 made.dy)) ≡ command.Move made.id made.dx made.dy =
    λ i. command.Move made.id (dx i) (dy i) in
    subst (λ (asked : Command). Applies c.args.library.now c.args.current.now c.move_use.new.library c.args.current.now asked c.move_use.result)
    (same ∙ sym made.is) c.move_use.ensures.applies

pub returns-in-Label-clause-applies : goal.returns-in-Label-clause-applies
returns-in-Label-clause-applies c =
    let made = c.in-Label in
    let formed = subst IsFormed made.is c.requires.formed in
    let position : to_z w64 (of_z w64 made.position) ≡ made.position = position_passed made.position formed.1 in
    let same : command.Label made.layer made.area (to_z w64 (of_z w64 made.position)) made.text
    ≡ command.Label made.layer made.area made.position made.text = λ i. command.Label made.layer made.area (position i) made.text in
    subst (λ (asked : Command). Applies c.args.library.now c.args.current.now c.label.new.library c.args.current.now asked c.label.result)
    (same ∙ sym made.is) c.label.ensures.applies
