use Rattle.cell_library.proofs.Common.{refl, on_ok_weaker}
use Rattle.cell_library.proofs.EditLaws.{here, lawful_or_kept}
use Rattle.cell_library.proofs.FaultLaws.{answers_memory, on_any_err}
use Rattle.cell_library.proofs.UseEdits.{place_fault, placed_view, placed_lawful, placed_unrefused}
use Rattle.cell_library.proofs.library.Library.place.Goals as goal

pub invariant_of-self : goal.invariant_of-self
invariant_of-self c =
    let below = here c.self.view_is c.requires.cell in
    let child = here c.self.view_is c.requires.child in
    let step = c.place_use-done in
    lawful_or_kept _ _ _ step.result c.self.invariant step.ensures.done (on_any_err _ step.result refl) step.ensures.same
    (λ done. placed_lawful _ c.self.invariant _ below _ child _ _ _ done c.lawful.ensures c.requires.id)

pub returns-clause-answers : goal.returns-clause-answers
returns-clause-answers c =
    let below = here c.self.view_is c.requires.cell in
    let child = here c.self.view_is c.requires.child in
    let step = c.place_use-done in
    rw (← c.self.view_is) (answers_memory _ _ _ step.result step.ensures.done
    (λ done. placed_unrefused _ c.self.invariant _ below _ child _ _ _ done c.lawful.ensures c.requires.id) step.ensures.fault
    (place_fault _ c.self.invariant _ below _ child _ _))

pub returns-clause-placed : goal.returns-clause-placed
returns-clause-placed c =
    let below = here c.self.view_is c.requires.cell in
    let child = here c.self.view_is c.requires.child in
    let step = c.place_use-done in
    rw (← c.self.view_is) (on_ok_weaker step.result
    (λ done. placed_view _ c.self.invariant _ below _ child _ _ _ done c.lawful.ensures c.requires.id) step.ensures.done)
