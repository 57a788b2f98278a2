-- Plain names: the form of the names of cells, files, technologies, planes, layers and transistors.
use Rattle.std.specs.Prelude.{◌==◌, ◌&&◌, ◌||◌, nat_le, ℕ, Bool, List, length}
use Rattle.std.specs.List.{list_all}
use Rattle.text_scan.specs.declared.plain_name.TheConstants.{LONGEST_NAME}

-- a letter, a digit, `_` or `-`
abbrev pub is_plain_byte : ℕ → Bool
is_plain_byte byte =
    (nat_le 97 byte && nat_le byte 122) || (nat_le 65 byte && nat_le byte 90) || (nat_le 48 byte && nat_le byte 57) || byte == 95 || byte == 45

-- one or more of them, and no more than a name may have
abbrev pub is_plain_name : List ℕ → Bool
is_plain_name word = nat_le 1 (length word) && nat_le (length word) LONGEST_NAME && list_all is_plain_byte word
