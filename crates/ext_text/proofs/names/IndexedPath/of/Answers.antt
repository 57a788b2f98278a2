use Rattle.ext_text.proofs.Common.{sym, ap, ◌∙◌, before, behind}
use Rattle.ext_model.proofs.CutLaws.{behind-after}
use Rattle.ext_text.proofs.PathCuts.{index_is, index_is_number}
use Rattle.ext_text.proofs.names.IndexedPath.of.Goals as goal

pub unreachable-requires : goal.unreachable-requires
unreachable-requires c =
    let path = c.args.path.now in
    let word = c.cut_at-2.ensures.front ∙ ap (before 44) (c.cut_at.ensures.back ∙ sym (behind-after 91 path)) in
    index_is_number path c.cut_at-2.result.0.now c.in-Err.field-0 c.requires word (sym c.number.ensures ∙ c.in-Err.is)

pub returns-clause-index : goal.returns-clause-index
returns-clause-index c =
    let path = c.args.path.now in
    let word = c.cut_at-2.ensures.front ∙ ap (before 44) (c.cut_at.ensures.back ∙ sym (behind-after 91 path)) in
    index_is path c.cut_at-2.result.0.now c.in-Ok.index c.requires word (sym c.number.ensures ∙ c.in-Ok.is)

pub returns-clause-back : goal.returns-clause-back
returns-clause-back c =
    let path = c.args.path.now in
    c.cut_at-2.ensures.back ∙ sym (behind-after 44 c.cut_at.result.1.now)
    ∙ ap (behind 44) (c.cut_at.ensures.back ∙ sym (behind-after 91 path))
