-- Names of nodes: their form, and what a node has its name from.
use Rattle.std.specs.Prelude.{◌==◌, ◌&&◌, not, nat_le, ℕ, Bool, false, if◌then◌else◌, List, [], ◌∷◌, length, count_by}
use Rattle.std.specs.List.{list_all}
use Rattle.ext_model.specs.declared.names.TheConstants.{SLASH, GLOBAL_MARK, GENERATED_MARK}
use Rattle.ext_model.specs.declared.names.NameKind.{NameKind}
use Rattle.ext_model.specs.declared.names.NameKind.TheVariants.{Global, Label, Generated}

-- a byte that is printed, other than a double quote
abbrev pub is_word_byte : ℕ → Bool
is_word_byte byte = nat_le 33 byte && nat_le byte 126 && not (byte == 34)

-- the form of the name of a technology, a type, a transistor or a substrate: one or more such bytes
abbrev pub is_word : List ℕ → Bool
is_word text = nat_le 1 (length text) && list_all is_word_byte text

-- how many slashes a path has: one between any two of its names
abbrev pub slashes_in : List ℕ → ℕ
slashes_in path = count_by (λ byte. byte == SLASH) path

-- the form of the name of a node or of an element: a word without a slash
abbrev pub is_node_name : List ℕ → Bool
is_node_name text = is_word text && slashes_in text == 0

-- whether this is the last byte of the text
abbrev pub ends_in : ℕ → List ℕ → Bool
ends_in byte [] = false
ends_in byte (last ∷ []) = last == byte
ends_in byte (first ∷ next ∷ rest) = ends_in byte (next ∷ rest)

-- A label names the node that it lies on if its text has the form of a name and isn't taken for a generated one.
abbrev pub is_naming_text : List ℕ → Bool
is_naming_text text = is_node_name text && not (ends_in GENERATED_MARK text)

-- A name that a label may give and that ends in `!` is global: it is one node in all cells.
abbrev pub is_global : List ℕ → Bool
is_global name = is_naming_text name && ends_in GLOBAL_MARK name

-- The kind of a name of a node is told by its last byte, and so is that of the last name of a path.
abbrev pub name_kind : List ℕ → NameKind
name_kind name = if ends_in GLOBAL_MARK name then Global else if ends_in GENERATED_MARK name then Generated else Label
