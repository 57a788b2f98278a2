-- The commands of a CIF text, each with the line on which it begins.
use Rattle.std.specs.Prelude.{◌≡◌, ◌+◌, ℕ, Bool, true, false, if◌then◌else◌, List, [], ◌∷◌, Result}
use Rattle.std.specs.List.{count_by, slice_split}
use Rattle.text_scan.specs.Lines.{is_line_feed}
use Rattle.cif_forms.specs.Bytes.{is_semicolon, is_blank}
use Rattle.cif_forms.specs.Comments.{without_comments}

-- the line of its first byte that is no blank, its bytes, and whether a semicolon ends it
pub record CommandText : Type 0 where
  pub line : ℕ
  pub bytes : List ℕ
  pub closed : Bool

-- the line on which a command begins
abbrev pub line_of_command : CommandText → ℕ
line_of_command command = command.line

-- how many lines end in the bytes
abbrev pub line_ends : List ℕ → ℕ
line_ends bytes = count_by is_line_feed bytes

-- how many lines end before the first byte that is no blank
abbrev pub line_ends_before : List ℕ → ℕ
line_ends_before [] = 0
line_ends_before (byte ∷ bytes) = if is_blank byte then (if is_line_feed byte then 1 else 0) + line_ends_before bytes else 0

abbrev pub command_at : ℕ → List ℕ → Bool → CommandText
command_at line bytes closed = record { line = line + line_ends_before bytes; bytes = bytes; closed = closed }

-- parts of a text, of which the first begins on the line: a semicolon ends each but the last
abbrev pub commands_from : ℕ → List (List ℕ) → List CommandText
commands_from line [] = []
commands_from line (part ∷ []) = command_at line part false ∷ []
commands_from line (part ∷ next ∷ parts) = command_at line part true ∷ commands_from (line + line_ends part) (next ∷ parts)

-- The commands of a text: what stands between its semicolons, where its comments are blanks.
unfoldable pub commands_of : List ℕ → List CommandText
commands_of text = commands_from 1 (slice_split is_semicolon (without_comments text))

-- a step over commands that looks at the bytes alone, and at whether a semicolon ends them
abbrev pub step_on : {S F : Type 0} → (S → List ℕ → Bool → Result S F) → S → CommandText → Result S F
step_on step state command = step state command.bytes command.closed

-- The text is a command without a semicolon.
abbrev pub IsLastCommand : List ℕ → Type 0
IsLastCommand text = (line : ℕ) → commands_from line (slice_split is_semicolon text) ≡ command_at line text false ∷ []

-- The text begins with the command and its semicolon, and the rest follows.
abbrev pub IsFirstCommand : List ℕ → List ℕ → List ℕ → Type 0
IsFirstCommand text command rest =
    (line : ℕ) → commands_from line (slice_split is_semicolon text)
    ≡ command_at line command true ∷ commands_from (line + line_ends command) (slice_split is_semicolon rest)
