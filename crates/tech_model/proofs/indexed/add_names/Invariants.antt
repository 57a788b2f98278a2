use Rattle.tech_model.proofs.Common.{◌≡◌, ℕ, List, take, list_any, bytes_eq, layer_in}
use Rattle.tech_model.proofs.LayerWordLaws.{layer_or}
use Rattle.tech_model.proofs.indexed.add_names.Given as goal

abbrev pub invariant-loop-name : goal.invariant-loop-name
invariant-loop-name l = (word : List ℕ)
    → layer_in l.words word ≡ layer_or (layer_in l.fn.words word) (list_any (bytes_eq word) (take l.name-index l.names)) l.layer.0
