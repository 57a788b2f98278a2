-- The pieces of a comma list that are left.
use Rattle.std.specs.Prelude.{ℕ, List, [], Option, Some, None}
use Rattle.tech_draft.specs.Words.{pieces_of}

abbrev pub pieces_left : Option (List ℕ) → List (List ℕ)
pieces_left None = []
pieces_left (Some list) = pieces_of list
