use Rattle.piece_groups.proofs.Common.{ap, ◌∙◌, RawTech}
use Rattle.piece_groups.proofs.SumLaws.{adds_nothing}
use Rattle.piece_groups.proofs.merges.nothing_added.Goals as goal

pub returns : goal.returns
returns c = adds_nothing c.args.tech.now.classes c.items-classes.result.now c.of.result
    (c.items-classes.ensures ∙ ap (λ (raw : RawTech). raw.classes) c.raw.ensures.value)
    (c.of.ensures ∙ c.in_ok-vec.ensures.items_if_clones_equal (λ y h. (λ i. (h.0 i, h.1 i))))
