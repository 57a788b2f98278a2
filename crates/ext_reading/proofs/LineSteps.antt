-- A terminal is read from its three words.
use Rattle.ext_reading.proofs.Common.{◌≡◌, ℕ, ℤ, Option, List, [], ◌∷◌, ◌++◌, Ok, sym, ap, ◌∙◌, and_then, SideLine, side_in, sides_from, pair_in}
use Rattle.ext_reading.proofs.Common.{measures_from, measures_in}

pub side_step : (sides new : List SideLine) (all before one two rest : List (List ℕ)) (node length word : List ℕ) (side : SideLine)
    → sides_from sides before ≡ sides_from [] all → before ≡ node ∷ one → one ≡ length ∷ two → two ≡ word ∷ rest → side_in node length ≡ Ok side
    → new ≡ sides ++ side ∷ [] → sides_from new rest ≡ sides_from [] all
side_step sides new all before one two rest node length word side so_far e1 e2 e3 read pushed =
    ap (λ l. sides_from l rest) pushed
    ∙ (ap (λ found. and_then found (λ s. sides_from (sides ++ s ∷ []) rest)) (sym read)
    ∙ (ap (sides_from sides) (ap (λ l. node ∷ length ∷ l) (sym e3) ∙ (ap (λ l. node ∷ l) (sym e2) ∙ sym e1)) ∙ so_far))

-- the measures of one class are read from their two numbers
pub pair_step : (measures new : List (ℤ × ℤ)) (all before one rest : List (Option ℤ)) (a p : Option ℤ) (measure : ℤ × ℤ)
    → measures_from measures before ≡ measures_in all → before ≡ a ∷ one → one ≡ p ∷ rest → Ok measure ≡ pair_in a p
    → new ≡ measures ++ measure ∷ [] → measures_from new rest ≡ measures_in all
pair_step measures new all before one rest a p measure so_far e1 e2 read pushed =
    ap (λ l. measures_from l rest) pushed
    ∙ (ap (λ found. and_then found (λ m. measures_from (measures ++ m ∷ []) rest)) read
    ∙ (ap (measures_from measures) (ap (λ l. a ∷ l) (sym e2) ∙ sym e1) ∙ so_far))
