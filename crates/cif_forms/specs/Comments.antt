-- The comments of a CIF text. They stand in parentheses, and may nest; in a command that begins with a digit there are none.
use Rattle.std.specs.Prelude.{◌==◌, ◌||◌, ◌+◌, ◌-◌, nat_lt, ℕ, Bool, false, if◌then◌else◌, List, [], ◌∷◌}
use Rattle.std.specs.Char.{is_ascii_digit}
use Rattle.cif_forms.specs.declared.comments.Place.{Place}
use Rattle.cif_forms.specs.declared.comments.Place.TheVariants.{Before, ReadOver, Within}
use Rattle.cif_forms.specs.declared.comments.Scan.{Scan}
use Rattle.cif_forms.specs.Bytes.{is_semicolon, is_blank}

-- whether a byte at the place opens a comment
abbrev pub opens_comment : Place → ℕ → Bool
opens_comment ReadOver byte = false
opens_comment place byte = byte == 40

-- where the text goes on behind a byte that ends no command and is of no comment
abbrev pub place_behind : Place → ℕ → Place
place_behind Before byte = if is_blank byte then Before else if is_ascii_digit byte then ReadOver else Within
place_behind place byte = place

-- how many parentheses are open behind a byte of a comment
abbrev pub depth_behind : ℕ → ℕ → ℕ
depth_behind depth byte = if byte == 40 then depth + 1 else if byte == 41 then depth - 1 else depth

-- A byte is of a comment where one is open, or where it opens one.
abbrev pub is_of_comment : Scan → ℕ → Bool
is_of_comment scan byte = nat_lt 0 scan.depth || opens_comment scan.place byte

-- what is read at a byte: a blank where it is of a comment, but a line feed stays one
abbrev pub shown : Scan → ℕ → ℕ
shown scan byte = if is_of_comment scan byte then (if byte == 10 then 10 else 32) else byte

-- where the text goes on behind a byte
abbrev pub behind : Scan → ℕ → Scan
behind scan byte =
    if is_of_comment scan byte then record scan { depth = depth_behind scan.depth byte }
    else if is_semicolon byte then record scan { place = Before }
    else record scan { place = place_behind scan.place byte }

-- the text from here on with blanks in the place of its comments
abbrev pub shown_from : Scan → List ℕ → List ℕ
shown_from scan [] = []
shown_from scan (byte ∷ text) = shown scan byte ∷ shown_from (behind scan byte) text

-- before the first command, outside of comments
abbrev pub at_start : Scan
at_start = record { place = Before; depth = 0 }

-- the text with blanks in the place of its comments
unfoldable pub without_comments : List ℕ → List ℕ
without_comments text = shown_from at_start text
