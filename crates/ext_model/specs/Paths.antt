-- Paths: the names of the elements that lead to a node, and its name there.
use Rattle.std.specs.Prelude.{ℕ, ◌==◌, if◌then◌else◌, List, [], ◌∷◌, ◌++◌}
use Rattle.ext_model.specs.declared.names.TheConstants.{SLASH}
use Rattle.ext_model.specs.NodeNames.{is_global, slashes_in}

-- the name behind those of the elements that lead to it, a slash between any two
abbrev pub path_text : List (List ℕ) → List ℕ → List ℕ
path_text [] name = name
path_text (id ∷ ids) name = id ++ SLASH ∷ path_text ids name

-- what follows the last slash of a path, or all of it where it has no slash
abbrev pub last_name : List ℕ → List ℕ
last_name [] = []
last_name (byte ∷ bytes) = if slashes_in (byte ∷ bytes) == 0 then byte ∷ bytes else last_name bytes

-- The full name of what has this name or path in the element that these elements lead to: a global name is the same wherever it
-- stands, and any other has the elements' names before it.
abbrev pub full_name : List (List ℕ) → List ℕ → List ℕ
full_name ids path = if is_global (last_name path) then last_name path else path_text ids path
