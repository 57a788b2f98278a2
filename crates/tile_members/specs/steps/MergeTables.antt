-- A table that finds rows of merges by the second members of their merges.
use Rattle.std.specs.Prelude.{◌≡◌, ℕ, Bool, List, Option}
use Rattle.std.specs.List.{list_any, position_from}
use Rattle.std.specs.Str.{bytes_eq}
use Rattle.ext_model.specs.declared.arrays.MergeRow.{MergeRow}
use Rattle.ext_model.specs.Plain.{plain_merges}

-- whether a merge of the row has the member as its second
abbrev pub has_second : List ℕ → MergeRow → Bool
has_second member row = list_any (λ merge. bytes_eq member merge.second) (plain_merges row)

-- A look-up of each member gives the number of the first row that has it as the second of a merge. The first of these rows has the first number.
abbrev pub FindFirst : ℕ → List MergeRow → (List ℕ → Option ℕ) → Type 0
FindFirst number rows find = (member : List ℕ) → find member ≡ position_from (has_second member) number rows
