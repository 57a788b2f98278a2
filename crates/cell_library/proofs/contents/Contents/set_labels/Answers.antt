use Rattle.cell_library.proofs.Common.{refl}
use Rattle.cell_library.proofs.ContentLaws.{relabelled}
use Rattle.cell_library.proofs.KeptContents.{kept_relabelled}
use Rattle.cell_library.proofs.contents.Contents.set_labels.Goals as goal

pub invariant_of-self : goal.invariant_of-self
invariant_of-self c = kept_relabelled _ _ _ _ c.index_mut-content.ensures.value c.self.invariant

pub returns : goal.returns
returns c =
    relabelled _ _ _ _ c.args.labels (λ _. c.args.labels.items)
    c.self.view_is c.index_mut-content.ensures.value refl
