-- What a command says that begins with a digit.
use Rattle.cif_forms.proofs.Common.{◌≡◌, ◌==◌, ℕ, true, cond, List, ◌∷◌, ap, is_ascii_digit, End, ReadOver, layer_said, said_by, said_from, trimmed}
use Rattle.cif_forms.specs.Words.{words_of}

-- a command that begins with a digit
pub said_from-digit : (first : ℕ) (rest : List ℕ) → is_ascii_digit first ≡ true → said_from (first ∷ rest) ≡ ReadOver
said_from-digit first rest digit =
    ap (λ test. cond test ReadOver (cond (first == 69) End (cond (first == 76) (layer_said (trimmed rest)) (said_by (words_of (first ∷ rest)))))) digit
