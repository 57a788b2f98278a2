use Rattle.tech_model.proofs.Common.{◌≡◌, ℕ, List, Vec, Global, ◌∙◌, ap, arith, common_steps, layer_in}
use Rattle.std.specs.Option.{option_copied}
use Rattle.tech_model.proofs.LayerWordLaws.{lookup-is_at}
use Rattle.tech_model.proofs.index.LayerIndex.find.Goals as goal

pub returns : goal.returns
returns c =
    let words : Vec ℕ Global → List ℕ = λ word. word.items in
    let found : option_copied c.get.result ≡ layer_in c.args.self.now c.args.word.now =
    c.get.ensures.value
    ∙ lookup-is_at words c.self.inside.layers.entries c.args.word.now
    ∙ ap (λ (es : List (List ℕ × ℕ)). layer_in es c.args.word.now) c.self.view_is in
    grind (arith, common_steps)
