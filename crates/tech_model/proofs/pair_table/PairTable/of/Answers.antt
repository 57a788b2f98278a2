use Rattle.tech_model.proofs.Common.{Bool, sym, ap, ◌∙◌, ◌==◌, ◌&&◌, ◌||◌, get_or, list_any_more, is_of}
use Rattle.tech_model.proofs.PairTableLaws.{is_of_more}
use Rattle.tech_model.proofs.pair_table.PairTable.of.Goals as goal

pub loop-s-preserved : goal.loop-s-preserved
loop-s-preserved c = λ x y x_below y_below.
    let pair = get_or c.args.pairs.now c.loop-s.s-index (record { 0 = 0 }, record { 0 = 0 }) in
    c.put-in-loop-s.ensures x y y_below
    ∙ ap (λ (old : Bool). old || (x == pair.1.0 && y == pair.0.0))
    (c.put.ensures x y y_below ∙ ap (λ (old : Bool). old || (x == pair.0.0 && y == pair.1.0)) (c.loop-s.invariant x y x_below y_below))
    ∙ is_of_more _ x y pair
    ∙ sym (list_any_more (is_of x y) c.args.pairs.now c.loop-s.s-index (record { 0 = 0 }, record { 0 = 0 }) c.loop-s-test.true)
