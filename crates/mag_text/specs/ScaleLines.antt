-- Which line of a mag text says its scale.
use Rattle.std.specs.Prelude.{◌||◌, ◌+◌, ℕ, Bool, if◌then◌else◌, List, [], ◌∷◌, codes}
use Rattle.text_scan.specs.Lines.{lines_of}
use Rattle.text_scan.specs.Words.{words_of}
use Rattle.mag_text.specs.Drafts.{begins_with_word}

-- the line begins a group or a use, behind which no line of the header stands
abbrev pub ends_header : List (List ℕ) → Bool
ends_header words = begins_with_word (codes "<<") words || begins_with_word (codes "use") words

-- the number of the first line of the header whose first word is `magscale`, where the first of these lines has this number; else 1
abbrev pub scale_line_from : ℕ → List (List ℕ) → ℕ
scale_line_from number [] = 1
scale_line_from number (line ∷ lines) =
    if begins_with_word (codes "magscale") (words_of line) then number
    else if ends_header (words_of line) then 1
    else scale_line_from (number + 1) lines

-- the number of the line that says the scale of a text, and 1 where none does
unfoldable pub scale_line : List ℕ → ℕ
scale_line text = scale_line_from 1 (lines_of text)
