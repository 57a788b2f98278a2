-- What the merges of a record say of a member's group.
use Rattle.std.specs.Prelude.{ℕ, if◌then◌else◌, List, [], ◌∷◌}
use Rattle.std.specs.Str.{bytes_eq}
use Rattle.ext_model.specs.declared.records.MergeRec.{MergeRec}

-- the first member of the group of a member: that of the first merge that has the member as its second, and the member itself where none has
abbrev pub first_member : List MergeRec → List ℕ → List ℕ
first_member [] member = member
first_member (merge ∷ merges) member = if bytes_eq member merge.second then merge.first else first_member merges member
