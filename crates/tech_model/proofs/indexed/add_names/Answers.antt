use Rattle.tech_model.proofs.Common.{◌≡◌, ℕ, List, false, ap, sym, ◌∙◌, get_or, arith, None, is_none, common_steps, layer_in}
use Rattle.tech_model.proofs.LayerWordLaws.{name_added, name_kept}
use Rattle.tech_model.proofs.indexed.add_names.Goals as goal
use Rattle.tech_model.proofs.indexed.add_names.Goals.{then-is_none+in_ok-add, else-is_none}

pub loop-name-preserved : goal.loop-name-preserved
loop-name-preserved c = λ word.
    let name : List ℕ = c.bytes-word.result.now in
    let is_name : name ≡ get_or c.args.names.now c.loop-name.name-index name = c.bytes-word.ensures ∙ c.name-item.is ∙ ap
    (get_or c.args.names.now c.loop-name.name-index) (sym c.bytes-word.ensures) in
    elim c.if-is_none.branch [
      | then-is_none+in_ok-add w ↦
          let fresh : layer_in c.loop-name.words name ≡ None = grind (arith, common_steps) in
          ap (λ words. layer_in words word) w.words-is
          ∙ name_added c.args.words.now c.loop-name.words w.add.new.self c.args.names.now c.loop-name.name-index c.args.layer.0 name word
          c.loop-name-test.true is_name (c.loop-name.invariant word) fresh (w.in_ok-add.ensures.added word)
      | else-is_none w ↦
          let there : is_none (layer_in c.loop-name.words name) ≡ false = grind (arith, common_steps) in
          ap (λ words. layer_in words word) w.words-is
          ∙ name_kept c.args.words.now c.loop-name.words c.args.names.now c.loop-name.name-index c.args.layer.0 name word
          c.loop-name-test.true is_name (c.loop-name.invariant word) there
    ]
