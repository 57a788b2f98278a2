-- Forms of the words that technologies have.
use Rattle.std.specs.Prelude.{◌==◌, ◌&&◌, ◌||◌, not, nat_le, ℕ, Bool, false, List, [], ◌∷◌, length, codes}
use Rattle.std.specs.List.{list_all, list_any}
use Rattle.std.specs.Str.{bytes_eq}
use Rattle.text_scan.specs.PlainNames.{is_plain_name}
use Rattle.tech_model.specs.declared.limits.TheConstants.{LONGEST_LABEL}

-- words that are no names of layers: they head other groups of a cell's file, or space
abbrev pub reserved_words : List (List ℕ)
reserved_words =
    codes "space" ∷ codes "end" ∷ codes "labels" ∷ codes "checkpaint" ∷ codes "error_p" ∷ codes "error_s" ∷ codes "error_ps" ∷ codes "properties" ∷ []

abbrev pub is_layer_name : List ℕ → Bool
is_layer_name word = is_plain_name word && not (list_any (bytes_eq word) reserved_words)

-- a printing byte other than a blank, a slash and a double quote
abbrev pub is_label_byte : ℕ → Bool
is_label_byte byte = nat_le 33 byte && nat_le byte 126 && not (byte == 47) && not (byte == 34)

abbrev pub ends_in_hash : List ℕ → Bool
ends_in_hash [] = false
ends_in_hash (byte ∷ []) = byte == 35
ends_in_hash (byte ∷ next ∷ bytes) = ends_in_hash (next ∷ bytes)

-- The form of a label that names: 1 to 255 such bytes, of which the last is no `#`.
abbrev pub is_naming_label : List ℕ → Bool
is_naming_label text = nat_le 1 (length text) && nat_le (length text) LONGEST_LABEL && list_all is_label_byte text && not (ends_in_hash text)

-- the name begins with e, n, p or d
abbrev pub is_fet_name : List ℕ → Bool
is_fet_name [] = false
is_fet_name (byte ∷ bytes) = byte == 101 || byte == 110 || byte == 112 || byte == 100
