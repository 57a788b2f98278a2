use Rattle.name_classes.proofs.Common.{◌≡◌, ◌⊎◌, List, length, take, refl, sym, subst, slice_get_read, take-slice_get, MergeRec, Memory}
use Rattle.name_classes.proofs.Common.{AreMergeLinks, IsMergeFault}
use Rattle.name_classes.proofs.FaultLaws.{err_same, path_sound, first_faulty, second_faulty, merges_refused, merge_added}
use Rattle.name_classes.proofs.links.merge_links.Goals as goal

pub returns-in_err-merge_end-clause-err : goal.returns-in_err-merge_end-clause-err
returns-in_err-merge_end-clause-err c =
    let names = c.args.resolver.now.names.now in
    let ext = c.args.ext.now in
    let fault = c.in_err-merge_end.field-0.0 in
    let merges = c.items-merge-items.result.now in
    let merge = c.merge-item.result in
    let here = slice_get_read merges (length merges) c.loop-merge.merge-index merge refl c.loop-merge-test.true c.merge-item.is in
    err_same c.from_residual-in_err-merge_end.result fault c.from_residual-in_err-merge_end.ensures.1 (λ x. (x ≡ Memory) ⊎ IsMergeFault names c.args.number x)
    (merges_refused names c.args.number ext c.requires.at merges c.items-merge-items.ensures c.loop-merge.merge-index merge c.loop-merge.links.items
    c.loop-merge.invariant here merge.first fault (first_faulty names.exts.now ext merge fault) c.in_err-merge_end.ensures.err)

pub returns-in_err-merge_end-2-clause-err : goal.returns-in_err-merge_end-2-clause-err
returns-in_err-merge_end-2-clause-err c =
    let names = c.args.resolver.now.names.now in
    let ext = c.args.ext.now in
    let fault = c.in_err-merge_end-2.field-0.0 in
    let merges = c.items-merge-items.result.now in
    let merge = c.merge-item.result in
    let here = slice_get_read merges (length merges) c.loop-merge.merge-index merge refl c.loop-merge-test.true c.merge-item.is in
    let sound = path_sound names c.args.number ext c.requires.at merge.first c.in_ok-merge_end.field-0 c.in_ok-merge_end.ensures.ok in
    err_same c.from_residual-in_err-merge_end-2.result fault c.from_residual-in_err-merge_end-2.ensures.1
    (λ x. (x ≡ Memory) ⊎ IsMergeFault names c.args.number x)
    (merges_refused names c.args.number ext c.requires.at merges c.items-merge-items.ensures c.loop-merge.merge-index merge c.loop-merge.links.items
    c.loop-merge.invariant here merge.second fault (second_faulty names.exts.now ext merge fault sound) c.in_err-merge_end-2.ensures.err)

pub loop-merge-preserved : goal.loop-merge-preserved
loop-merge-preserved c =
    let names = c.args.resolver.now.names.now in
    let merges = c.items-merge-items.result.now in
    let index = c.loop-merge.merge-index in
    let merge = c.merge-item.result in
    let here = slice_get_read merges (length merges) index merge refl c.loop-merge-test.true c.merge-item.is in
    let P : List MergeRec → Type 0 = λ done. AreMergeLinks names c.args.number done c.push.new.self.items in
    subst P (sym (take-slice_get merges index merge here))
    (rw c.in_ok-push.ensures.items
    (merge_added names c.args.number (take index merges) merge c.loop-merge.links.items _ c.loop-merge.invariant
    (record { first = c.in_ok-merge_end.ensures.ok; second = c.in_ok-merge_end-2.ensures.ok })))
