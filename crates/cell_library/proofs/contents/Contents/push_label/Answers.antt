use Rattle.cell_library.proofs.Common.{List, ◌∷◌, ◌++◌, [], Label}
use Rattle.cell_library.proofs.ContentLaws.{relabelled, labels_stayed}
use Rattle.cell_library.proofs.FaultLaws.{on_any_err}
use Rattle.cell_library.proofs.KeptContents.{kept_relabelled}
use Rattle.cell_library.proofs.contents.Contents.push_label.Goals as goal

pub invariant_of-self : goal.invariant_of-self
invariant_of-self c = kept_relabelled _ _ _ _ c.index_mut-content.ensures.value c.self.invariant

pub returns-in_err-push-clause-refused : goal.returns-in_err-push-clause-refused
returns-in_err-push-clause-refused c =
    on_any_err _ c.from_residual.result
    (labels_stayed _ _ _ _ c.push.new.self c.self.view_is c.index_mut-content.ensures.value c.in_err-push.ensures.items)

pub invariant_of-self-2 : goal.invariant_of-self-2
invariant_of-self-2 c = kept_relabelled _ _ _ _ c.index_mut-content.ensures.value c.self.invariant

pub returns-clause-added : goal.returns-clause-added
returns-clause-added c =
    relabelled _ _ _ _ c.push.new.self (λ (labels : List Label). labels ++ c.args.label ∷ []) c.self.view_is c.index_mut-content.ensures.value
    c.in_ok-push.ensures.items
