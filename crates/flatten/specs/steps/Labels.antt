-- Names in order, each with the label of its class: the groups that they make.
use Rattle.std.specs.Prelude.{◌≡◌, ℕ, ◌==◌, if◌then◌else◌, List, [], ◌∷◌, map}
use Rattle.std.specs.List.{range_with_len}
use Rattle.std.specs.Str.{bytes_eq}
use Rattle.ext_model.specs.declared.records.NodeRec.{NodeRec}
use Rattle.ext_model.specs.RecordNames.{names_of}

-- the label of a name that stands in the list
abbrev pub label_of : List (List ℕ) → List ℕ → List ℕ → ℕ
label_of [] labels name = 0
label_of (first ∷ names) [] name = 0
label_of (first ∷ names) (label ∷ labels) name = if bytes_eq first name then label else label_of names labels name

-- the names that have the label, in their order
abbrev pub group_of : List (List ℕ) → List ℕ → ℕ → List (List ℕ)
group_of [] labels label = []
group_of (name ∷ names) [] label = []
group_of (name ∷ names) (other ∷ labels) label = if other == label then name ∷ group_of names labels label else group_of names labels label

-- the groups of so many labels
abbrev pub groups_of : List (List ℕ) → List ℕ → ℕ → List (List (List ℕ))
groups_of names labels count = map (group_of names labels) (range_with_len 0 count)

-- The nodes have the names of the groups.
pub record AreNamed (list : List (List ℕ)) (labels : List ℕ) (count : ℕ) (nodes : List NodeRec) : Type 0 where
  pub groups : map names_of nodes ≡ groups_of list labels count
