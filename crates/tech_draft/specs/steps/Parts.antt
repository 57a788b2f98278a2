-- The parts of a text, one after another.
use Rattle.std.specs.Prelude.{ℕ, List, [], ◌∷◌}
use Rattle.text_scan.specs.Words.{words_of}
use Rattle.tech_draft.specs.Words.{pieces_of}
use Rattle.tech_draft.specs.declared.parts.Parted.{Parted}
use Rattle.tech_draft.specs.declared.parts.Parted.TheVariants.{Nothing, Lone, Listed, Line}

abbrev pub parts_in : Parted → List (List ℕ)
parts_in Nothing = []
parts_in (Lone word) = word.now ∷ []
parts_in (Listed list) = pieces_of list.now
parts_in (Line line) = words_of line.now
