use Rattle.tech_model.proofs.Common.{ℕ, List, ap, ◌∙◌, list_any, bytes_eq, layer_in, has_name}
use Rattle.tech_model.proofs.LayerWordLaws.{layer_or, layer_added}
use Rattle.tech_model.proofs.indexed.index_words.Goals as goal

pub loop-place-preserved : goal.loop-place-preserved
loop-place-preserved c = λ word.
    let names =
    ap (λ (names : List (List ℕ)). layer_or (layer_in c.loop-place.words word) (list_any (bytes_eq word) names) c.loop-place.place) c.items.ensures in
    c.in_ok-add_names.ensures word
    ∙ names
    ∙ layer_added (has_name word) c.args.layers.now c.loop-place.place c.index-layers-place.result _ c.loop-place-test.true c.index-layers-place.is
    (c.loop-place.invariant word)
