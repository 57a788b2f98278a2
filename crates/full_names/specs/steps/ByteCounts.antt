-- How many bytes the full names of a tree have, added up without them.
use Rattle.std.specs.Prelude.{ℕ, ◌+◌, List, length, sum_by}
use Rattle.element_tree.specs.declared.tree.TreeElement.{TreeElement}
use Rattle.full_names.specs.declared.own_names.OwnName.{OwnName}
use Rattle.full_names.specs.declared.own_names.RecordNames.{RecordNames}
use Rattle.full_names.specs.declared.globals.GlobalName.{GlobalName}
use Rattle.full_names.specs.OwnNames.{locals_of}

abbrev pub global_bytes : List GlobalName → ℕ
global_bytes names = sum_by (λ name. name.length) names

-- the bytes of the names behind a path of so many bytes
abbrev pub local_bytes : ℕ → List OwnName → ℕ
local_bytes path names = sum_by (λ name. path + length name.text.now) names

-- the bytes of the names of all elements that are not global
abbrev pub element_bytes : List RecordNames → List TreeElement → ℕ
element_bytes records flats = sum_by (λ flat. local_bytes flat.bytes (locals_of records flat.cell)) flats
