use Rattle.cell_library.proofs.Common.{◌≡◌, Bool, filter, rules, not, bytes_eq, Label}
use Rattle.std.proofs.lemmas.Fn.{filter_same}
use Rattle.cell_library.proofs.ContentLaws.{relabelled}
use Rattle.cell_library.proofs.KeptContents.{kept_relabelled}
use Rattle.cell_library.proofs.contents.Contents.remove_labels.Goals as goal

pub invariant_of-self : goal.invariant_of-self
invariant_of-self c = kept_relabelled _ _ _ _ c.index_mut-content.ensures.value c.self.invariant

pub returns : goal.returns
returns c =
    let test : Label → Bool = λ label. not (bytes_eq label.text c.args.text.now) in
    let kept : c.retain.new.self.items ≡ filter test c.index_mut-content.result.now.labels.items =
    filter_same _ test _ (λ x b g h. search rules) _ _ c.retain.ensures.filtered in
    relabelled _ _ _ _ c.retain.new.self (filter test) c.self.view_is
    c.index_mut-content.ensures.value kept
