use Rattle.std.proofs.Common.{◌∷◌, ◌++◌, [], List, sym, subst, ap, ◌∙◌}
use Rattle.std.proofs.lemmas.Result.{on_ok_weaker}
use Rattle.ext_model.specs.declared.arrays.MergeRow.{MergeRow}
use Rattle.merge_rows.specs.AddedMerges.{AddsToRows, GoesOnWithLast}
use Rattle.merge_rows.proofs.PushedRows.{begun, joined}
use Rattle.merge_rows.proofs.rows.push_merge.Goals as goal

pub returns-then-branch : goal.returns-then-branch
returns-then-branch c =
    let rows = c.args.rows.now.items in
    let goes = subst (λ (list : List MergeRow). GoesOnWithLast list c.args.merge) c.as_slice.ensures.value
    (c.in_ok-goes_on_with_last.ensures.0 c.if-branch.true) in
    on_ok_weaker c.lengthen_last.result (joined rows c.lengthen_last.new.rows.items c.args.merge goes) c.lengthen_last.ensures

pub returns : goal.returns
returns c =
    let rows = c.args.rows.now.items in
    let are = c.in_ok-push.ensures.items ∙ ap (λ (row : MergeRow). rows ++ row ∷ []) c.row_of.ensures in
    let no = c.if-branch.false in
    let stops : GoesOnWithLast rows c.args.merge → ⊥ =
    λ on.
    let yes = c.in_ok-goes_on_with_last.ensures.1 (subst (λ (list : List MergeRow). GoesOnWithLast list c.args.merge) (sym c.as_slice.ensures.value) on) in
    cc in
    subst (AddsToRows (c.args.merge ∷ []) rows) (sym are) (begun rows c.args.merge stops)
