use Rattle.tech_model.proofs.Common.{ℕ, List, Vec, Global, ◌∙◌, ap, if◌then◌else◌, Some, bytes_eq, layer_in}
use Rattle.tech_model.proofs.LayerWordLaws.{layer_entries, layer_in-insert_entry}
use Rattle.tech_model.proofs.index.LayerIndex.add.Goals as goal

pub returns-clause-added : goal.returns-clause-added
returns-clause-added c = λ other.
    let words : Vec ℕ Global → List ℕ = λ word. word.items in
    let old = c.self.inside.layers.entries in
    let made = ap (λ (es : List (Vec ℕ Global × ℕ)). layer_in (layer_entries words es) other) c.in_ok-insert.ensures.entries in
    let put = layer_in-insert_entry words old c.in_ok-word.word c.args.layer.0 other in
    let one_word = ap (λ (w : List ℕ). if bytes_eq other w then Some c.args.layer.0 else layer_in (layer_entries words old) other) c.in_ok-word.ensures.items in
    let seen = ap (λ (es : List (List ℕ × ℕ)). if bytes_eq other c.args.word.now then Some c.args.layer.0 else layer_in es other) c.self.view_is in
    made ∙ put ∙ one_word ∙ seen
