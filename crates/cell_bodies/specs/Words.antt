-- The forms of the words of a cell: ids of uses and texts of labels. A cell's name is a plain name.
use Rattle.std.specs.Prelude.{◌==◌, ◌&&◌, not, nat_le, ℕ, Bool, false, if◌then◌else◌, List, [], ◌∷◌, length, reverse}
use Rattle.std.specs.List.{list_all}
use Rattle.ext_model.specs.TextScan.Words.{is_blank}
use Rattle.tech_model.specs.declared.limits.TheConstants.{LONGEST_LABEL}
pub use Rattle.ext_model.specs.ElementNames.{is_use_id, is_use_id_byte}

-- a printing byte or a blank
abbrev pub is_text_byte : ℕ → Bool
is_text_byte byte = nat_le 32 byte && nat_le byte 126

-- the bytes begin with a blank or a tab
abbrev pub begins_with_blank : List ℕ → Bool
begins_with_blank [] = false
begins_with_blank (byte ∷ bytes) = is_blank byte

-- the bytes end with a blank or a tab
abbrev pub ends_with_blank : List ℕ → Bool
ends_with_blank bytes = begins_with_blank (reverse bytes)

-- one or more such bytes, no more than a label's text may have, and no blank at either end
abbrev pub is_label_text : List ℕ → Bool
is_label_text text =
    nat_le 1 (length text) && nat_le (length text) LONGEST_LABEL && list_all is_text_byte text
    && not (begins_with_blank text) && not (ends_with_blank text)

-- the bytes without the blanks and tabs at their beginning
abbrev pub without_first_blanks : List ℕ → List ℕ
without_first_blanks [] = []
without_first_blanks (byte ∷ bytes) = if is_blank byte then without_first_blanks bytes else byte ∷ bytes

-- the bytes without those at their end
abbrev pub without_last_blanks : List ℕ → List ℕ
without_last_blanks bytes = reverse (without_first_blanks (reverse bytes))

-- the bytes without those at their two ends
unfoldable pub without_outer_blanks : List ℕ → List ℕ
without_outer_blanks bytes = without_last_blanks (without_first_blanks bytes)
