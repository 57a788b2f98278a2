use Rattle.cell_library.proofs.Common.{◌≡◌, ◌++◌, ◌-◌, ◌∙◌, ℕ, List, take, sym, ap, subst, option_to_list, Label, Held, without_last}
use Rattle.cell_library.proofs.ContentLaws.{content_there, relabelled}
use Rattle.cell_library.proofs.KeptContents.{kept_relabelled}
use Rattle.cell_library.proofs.contents.Contents.pop_label.Goals as goal

pub invariant_of-self : goal.invariant_of-self
invariant_of-self c = kept_relabelled _ _ _ _ c.index_mut-content.ensures.value c.self.invariant

pub returns-clause-popped : goal.returns-clause-popped
returns-clause-popped c =
    let content = c.index_mut-content.result.now in
    let kept : c.pop.new.self.items ≡ without_last content.labels.items =
    c.pop.ensures.rest ∙ ap (λ (n : ℕ). take (n - 1) content.labels.items) content.labels.ok.0 in
    relabelled _ _ _ content c.pop.new.self without_last c.self.view_is
    c.index_mut-content.ensures.value kept

pub returns-clause-last : goal.returns-clause-last
returns-clause-last c =
    let content = c.index_mut-content.result.now in
    let here = content_there c.args.self.now _ c.args.cell content c.self.view_is c.index_mut-content.ensures.value in
    let kept : c.pop.new.self.items ≡ without_last content.labels.items =
    c.pop.ensures.rest ∙ ap (λ (n : ℕ). take (n - 1) content.labels.items) content.labels.ok.0 in
    subst (λ (held : Held). held.labels ≡ without_last held.labels ++ option_to_list c.pop.result) (sym here)
    (c.pop.ensures.items ∙ ap (λ (labels : List Label). labels ++ option_to_list c.pop.result) kept)
