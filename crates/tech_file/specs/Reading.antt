-- The technology of a text, or its first faulty line with the first fault of that line.
use Rattle.std.specs.Prelude.{◌≡◌, ◌==◌, ◌&&◌, ℕ, Bool, if◌then◌else◌, List, [], Option, Some, None, Result, Ok, Err}
use Rattle.std.specs.Option.{option_map, option_or}
use Rattle.text_scan.specs.Lines.{lines_of}
use Rattle.text_form.specs.declared.reading.At.{At}
use Rattle.text_form.specs.Folds.{first_fault_or, last_number}
use Rattle.text_form.specs.SaidLines.{and_then}
use Rattle.tech_model.specs.declared.raw.RawTech.{RawTech}
use Rattle.tech_model.specs.declared.faults.Section.{Section}
use Rattle.tech_model.specs.declared.faults.Section.TheVariants.{Tech}
use Rattle.tech_model.specs.declared.faults.TechFault.{TechFault}
use Rattle.tech_model.specs.declared.faults.TechFault.TheVariants.{NoSection, Twice, BadForm}
use Rattle.tech_model.specs.Rules.{rule_fault}
use Rattle.tech_draft.specs.Drafts.{Drafted, empty_draft}
use Rattle.tech_draft.specs.Lines.{line_in}
use Rattle.tech_draft.specs.Finished.{finished}
use Rattle.tech_file.specs.declared.places.Place.{Place}
use Rattle.tech_file.specs.declared.places.Place.TheVariants.{Between, Skipped, Within}
use Rattle.tech_file.specs.declared.outline.Heading.{Heading}
use Rattle.tech_file.specs.declared.outline.Outline.{Outline}
use Rattle.tech_file.specs.declared.reading.Reading.{Reading}
use Rattle.tech_file.specs.declared.reading.TechAt.{TechAt}
use Rattle.tech_file.specs.Sections.{section_named}
use Rattle.tech_file.specs.Places.{content_of, says_nothing, is_end, name_alone, after}
use Rattle.tech_file.specs.Outlines.{headings_of, is_too_early, is_second, missing, ends_open}

abbrev pub standing : Place → Drafted → Reading
standing place draft = record { place = place; draft = draft }

-- A section begins: it may be neither too early nor a second one of its name. One that means nothing may stand anywhere.
abbrev pub begun : List Heading → ℕ → List ℕ → Option Section → Result (Unit {0}) TechFault
begun headings number word None = Ok tt
begun headings number word (Some section) =
    if is_too_early headings number section
    then Err BadForm
    else if is_second headings number section then Err (Twice word) else Ok tt

-- between sections a line has a name alone
abbrev pub read_between : List Heading → ℕ → Option (List ℕ) → Result (Unit {0}) TechFault
read_between headings number None = Err BadForm
read_between headings number (Some word) = begun headings number word (section_named word)

-- A section ends: where `tech` ends, the technology has a name.
abbrev pub end_of : Section → List ℕ → Drafted → Result Drafted TechFault
end_of Tech [] draft = Err BadForm
end_of section name draft = Ok draft

abbrev pub read_within : Section → Drafted → List (List ℕ) → Result Drafted TechFault
read_within section draft words = if is_end words then end_of section draft.raw.name draft else line_in section draft words

-- what a line that says these words makes of the draft at a place
abbrev pub read_words : List Heading → ℕ → Place → Drafted → List (List ℕ) → Result Drafted TechFault
read_words headings number Between draft words = and_then (read_between headings number (name_alone words)) (λ _. Ok draft)
read_words headings number Skipped draft words = Ok draft
read_words headings number (Within section) draft words = read_within section draft words

abbrev pub draft_after : List Heading → ℕ → Place → Drafted → List (List ℕ) → Result Drafted TechFault
draft_after headings number place draft words = if says_nothing words then Ok draft else read_words headings number place draft words

-- what a line does: the next one stands behind it
abbrev pub read_line : List Heading → ℕ → Place → Drafted → List (List ℕ) → Result Reading TechFault
read_line headings number place draft words =
    and_then (draft_after headings number place draft words) (λ next. Ok (standing (after place words) next))

-- The same, but for the last line of a text whose last section has no `end`: there that is the fault.
abbrev pub line_step : List Heading → ℕ → Bool → ℕ → Reading → List ℕ → Result Reading TechFault
line_step headings last unended number reading line =
    if unended && number == last
    then Err BadForm
    else read_line headings number reading.place reading.draft (content_of line)

-- what a line does in a text of these lines
abbrev pub step_in : List (List ℕ) → ℕ → Reading → List ℕ → Result Reading TechFault
step_in lines = line_step (headings_of lines) (last_number lines) (ends_open lines)

-- how the reading of a text of these lines ends
abbrev pub text_reading : List (List ℕ) → Result Reading (At TechFault)
text_reading lines = first_fault_or (step_in lines) 1 (standing Between empty_draft) lines

abbrev pub fault_at : ℕ → TechFault → TechAt
fault_at number fault = record { line = number; fault = fault }

-- the same, with a fault of a technology
abbrev pub told : Result Reading (At TechFault) → Result Reading TechAt
told (Ok reading) = Ok reading
told (Err at) = Err (fault_at at.line at.fault)

-- what is wrong with the whole of a text whose lines are without fault: a section is missing, or a rule is broken
abbrev pub whole_fault : List Heading → RawTech → Option TechFault
whole_fault headings raw = option_or (option_map NoSection (missing headings raw.name)) (rule_fault raw)

-- such a fault stands at the last line
abbrev pub unless_broken : ℕ → RawTech → Option TechFault → Result RawTech TechAt
unless_broken last raw None = Ok raw
unless_broken last raw (Some fault) = Err (fault_at last fault)

abbrev pub checked : List Heading → ℕ → RawTech → Result RawTech TechAt
checked headings last raw = unless_broken last raw (whole_fault headings raw)

abbrev pub checked_reading : List (List ℕ) → Result Reading TechAt → Result RawTech TechAt
checked_reading text (Ok reading) = checked (headings_of text) (last_number text) (finished reading.draft)
checked_reading text (Err at) = Err at

-- The technology of a text, or its first faulty line, counted from 1, and that line's first fault.
unfoldable pub technology_of : List ℕ → Result RawTech TechAt
technology_of text = checked_reading (lines_of text) (told (text_reading (lines_of text)))

-- Each line of the text is without fault, and together they give this draft.
abbrev pub EndsWell : List (List ℕ) → Drafted → Type 0
EndsWell lines draft = (place : Place) × (text_reading lines ≡ Ok (standing place draft))

-- the outline is that of these lines
pub record IsOutline (outline : Outline) (lines : List (List ℕ)) : Type 0 where
  pub headings : outline.headings.items ≡ headings_of lines
  pub last : outline.last ≡ last_number lines
  pub unended : outline.ends_open ≡ ends_open lines
