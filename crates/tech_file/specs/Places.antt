-- Where the lines of a technology's text stand. A section is a line with its name alone, then lines, then a line `end`.
use Rattle.std.specs.Prelude.{◌==◌, ℕ, Bool, true, false, if◌then◌else◌, List, [], ◌∷◌, Option, Some, None, codes}
use Rattle.std.specs.Option.{option_map_or}
use Rattle.std.specs.Str.{bytes_eq}
use Rattle.text_scan.specs.Words.{words_of}
use Rattle.tech_file.specs.declared.places.Place.{Place}
use Rattle.tech_file.specs.declared.places.Place.TheVariants.{Between, Skipped, Within}
use Rattle.tech_file.specs.Sections.{section_named}

abbrev pub begins_with_hash : List ℕ → Bool
begins_with_hash [] = false
begins_with_hash (byte ∷ bytes) = byte == 35

abbrev pub without_comment : List (List ℕ) → List (List ℕ)
without_comment [] = []
without_comment (word ∷ words) = if begins_with_hash word then [] else (word ∷ words)

-- What a line says: its words, and nothing where its first word begins with `#`.
abbrev pub content_of : List ℕ → List (List ℕ)
content_of line = without_comment (words_of line)

-- A line that says nothing is read over.
abbrev pub says_nothing : List (List ℕ) → Bool
says_nothing [] = true
says_nothing (word ∷ words) = false

-- the one word `end`, which ends a section
abbrev pub is_end : List (List ℕ) → Bool
is_end (word ∷ []) = bytes_eq word (codes "end")
is_end _ = false

-- the one word of a line, other than `end`: between sections it names one
abbrev pub name_alone : List (List ℕ) → Option (List ℕ)
name_alone (word ∷ []) = if bytes_eq word (codes "end") then None else Some word
name_alone _ = None

-- where the lines after a section's name stand
abbrev pub opened : List ℕ → Place
opened word = option_map_or Within (section_named word) Skipped

-- where the line after one that says these words stands
abbrev pub moved : Place → List (List ℕ) → Place
moved Between words = option_map_or opened (name_alone words) Between
moved Skipped words = if is_end words then Between else Skipped
moved (Within section) words = if is_end words then Between else Within section

abbrev pub after : Place → List (List ℕ) → Place
after place words = if says_nothing words then place else moved place words
