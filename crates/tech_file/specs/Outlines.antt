-- The outline of a technology's text: where its sections begin, and whether the last one ends.
use Rattle.std.specs.Prelude.{◌==◌, ◌+◌, ◌&&◌, nat_lt, ℕ, Bool, true, false, is_none, is_some, if◌then◌else◌, List, [], ◌∷◌, ◌++◌, find, Option}
use Rattle.std.specs.Prelude.{Some, None}
use Rattle.std.specs.List.{list_any}
use Rattle.std.specs.Option.{option_map, option_map_or, option_and_then}
use Rattle.tech_model.specs.declared.faults.Section.{Section}
use Rattle.tech_model.specs.declared.faults.Section.TheVariants.{Tech}
use Rattle.tech_file.specs.declared.places.Place.{Place}
use Rattle.tech_file.specs.declared.places.Place.TheVariants.{Between, Skipped, Within}
use Rattle.tech_file.specs.declared.outline.Heading.{Heading}
use Rattle.tech_file.specs.Sections.{section_named, rank, required}
use Rattle.tech_file.specs.Places.{content_of, name_alone, after}

-- the line where the section begins, if these headings have it
abbrev pub line_of : List Heading → Section → Option ℕ
line_of headings section = option_map (λ heading. heading.line) (find (λ heading. rank heading.section == rank section) headings)

-- the headings with one more, unless they have one of its section: the first section of a name decides
abbrev pub with_heading : List Heading → ℕ → Option Section → List Heading
with_heading headings number None = headings
with_heading headings number (Some section) =
    if is_some (line_of headings section) then headings else (headings ++ record { line = number; section = section } ∷ [])

-- the section that begins at a line that says these words
abbrev pub section_at : Place → List (List ℕ) → Option Section
section_at Between words = option_and_then section_named (name_alone words)
section_at Skipped words = None
section_at (Within section) words = None

-- the headings with those of these lines, of which the first has the number and stands at the place
abbrev pub headings_from : List Heading → ℕ → Place → List (List ℕ) → List Heading
headings_from headings number place [] = headings
headings_from headings number place (line ∷ lines) =
    headings_from (with_heading headings number (section_at place (content_of line))) (number + 1) (after place (content_of line)) lines

-- the first headings of each section, in the order of the lines
abbrev pub headings_of : List (List ℕ) → List Heading
headings_of lines = headings_from [] 1 Between lines

-- where a line after these would stand
abbrev pub place_after : Place → List (List ℕ) → Place
place_after place [] = place
place_after place (line ∷ lines) = place_after (after place (content_of line)) lines

abbrev pub is_in_section : Place → Bool
is_in_section Between = false
is_in_section Skipped = true
is_in_section (Within section) = true

-- the last section has no `end`
abbrev pub ends_open : List (List ℕ) → Bool
ends_open lines = is_in_section (place_after Between lines)

-- A section of this line is too early where one that is to stand before it first begins at a later line.
abbrev pub is_too_early : List Heading → ℕ → Section → Bool
is_too_early headings number section =
    list_any (λ heading. nat_lt (rank heading.section) (rank section) && nat_lt number heading.line) headings

-- A section of this line is a second one where the first of its name begins at an earlier line.
abbrev pub is_second : List Heading → ℕ → Section → Bool
is_second headings number section = option_map_or (λ first. nat_lt first number) (line_of headings section) false

-- the first section beside `tech` that must be there and is not
abbrev pub missing_section : List Heading → Option Section
missing_section headings = find (λ section. is_none (line_of headings section)) required

-- The first section that must be there and is not: `tech` is not there where no name was read.
abbrev pub missing : List Heading → List ℕ → Option Section
missing headings [] = Some Tech
missing headings (byte ∷ name) = missing_section headings
