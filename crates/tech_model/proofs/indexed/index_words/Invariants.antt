use Rattle.tech_model.proofs.Common.{◌≡◌, ℕ, List, take, position_from, layer_in, has_name}
use Rattle.tech_model.proofs.indexed.index_words.Given as goal

abbrev pub invariant-loop-place : goal.invariant-loop-place
invariant-loop-place l = (word : List ℕ) → layer_in l.words word ≡ position_from (has_name word) 0 (take l.place l.layers)
