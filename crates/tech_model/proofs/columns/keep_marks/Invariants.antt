use Rattle.tech_model.proofs.Common.{◌≡◌, take, layer_mark_kept}
use Rattle.std.specs.Prelude.{fold}
use Rattle.tech_model.proofs.columns.keep_marks.Given as goal

abbrev pub invariant-loop-layer : goal.invariant-loop-layer
invariant-loop-layer l = l.column ≡ fold (λ kept layer. layer_mark_kept l.lists layer.images kept) l.fn.column (take l.layer-index l.lists.layers)
