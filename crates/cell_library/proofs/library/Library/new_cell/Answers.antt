use Rattle.cell_library.proofs.Common.{inl, inr, on_ok_weaker}
use Rattle.cell_library.proofs.FaultLaws.{ok_or_err, both_err, answers_memory}
use Rattle.cell_library.proofs.NewCells.{new_fault, added_seen, added_lawful, added_unrefused, kept_all}
use Rattle.cell_library.proofs.library.Library.new_cell.Goals as goal

pub invariant_of-self : goal.invariant_of-self
invariant_of-self c =
    let step = c.new_cell-done in
    elim (ok_or_err _ _ step.result step.ensures.done
    (both_err _ _ step.result step.ensures.scale (both_err _ _ step.result step.ensures.kept step.ensures.same))) [
      | inl done ↦ added_lawful _ c.self.invariant _ _ _ _ done c.lawful.ensures c.requires
      | inr kept ↦ kept_all _ _ _ _ c.self.invariant kept.0 kept.1.0 kept.1.1
    ]

pub returns-clause-answers : goal.returns-clause-answers
returns-clause-answers c =
    let step = c.new_cell-done in
    rw (← c.self.view_is) (answers_memory _ _ _ step.result step.ensures.done
    (λ done. added_unrefused _ c.self.invariant _ _ _ _ done c.lawful.ensures) step.ensures.fault (new_fault _ c.self.invariant _))

pub returns-clause-added : goal.returns-clause-added
returns-clause-added c =
    let step = c.new_cell-done in
    rw (← c.self.view_is) (on_ok_weaker step.result (λ done. added_seen _ c.self.invariant _ _ _ _ done c.lawful.ensures) step.ensures.done)
