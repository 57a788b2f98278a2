-- Words, each with the number of the layer that it names.
use Rattle.std.specs.Prelude.{ℕ, if◌then◌else◌, List, [], ◌∷◌, Option, Some, None}
use Rattle.std.specs.Str.{bytes_eq}

-- the layer that the entries have for the word
abbrev pub layer_in : List (List ℕ × ℕ) → List ℕ → Option ℕ
layer_in [] word = None
layer_in (entry ∷ entries) word = if bytes_eq word entry.0 then Some entry.1 else layer_in entries word
