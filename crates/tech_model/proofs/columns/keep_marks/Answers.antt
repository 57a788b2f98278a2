use Rattle.tech_model.proofs.Common.{◌≡◌, ◌<◌, ◌∙◌, List, length, take, get_or, ap, subst, sym, fold_more, LayerRec, TypeId, layer_mark_kept}
use Rattle.std.specs.Prelude.{fold}
use Rattle.tech_model.proofs.columns.keep_marks.Goals as goal

pub loop-layer-preserved : goal.loop-layer-preserved
loop-layer-preserved c =
    let raw = c.args.lists.now in
    let layers : List LayerRec = raw.layers in
    let keep : List TypeId → LayerRec → List TypeId = λ kept layer. layer_mark_kept raw layer.images kept in
    let same = c.items-layer-items.ensures ∙ ap (λ lists. lists.layers) c.raw.ensures.value in
    let inside : c.loop-layer.layer-index < length layers = subst (λ (l : List LayerRec). c.loop-layer.layer-index < length l) same c.loop-layer-test.true in
    let is : c.layer-item.result ≡ get_or layers c.loop-layer.layer-index c.layer-item.result =
    c.layer-item.is ∙ ap (λ (l : List LayerRec). get_or l c.loop-layer.layer-index c.layer-item.result) same in
    c.keep_mark.ensures
    ∙ ap (λ (images : List TypeId). layer_mark_kept raw images c.loop-layer.column) c.items.ensures
    ∙ ap (layer_mark_kept raw c.layer-item.result.images) c.loop-layer.invariant
    ∙ ap (keep (fold keep c.args.column.now (take c.loop-layer.layer-index layers))) is
    ∙ sym (fold_more keep c.args.column.now layers c.loop-layer.layer-index c.layer-item.result inside)
