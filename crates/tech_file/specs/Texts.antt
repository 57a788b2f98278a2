-- What the text of a technology is: sections, each a line with its name alone, then lines, then a line `end`.
use Rattle.std.specs.Prelude.{◌≡◌, ◌≢◌, ◌⊎◌, ◌<◌, not, false, ℕ, List, [], ◌∷◌, ◌++◌, map, filter, Option, Some, None}
use Rattle.std.specs.Prelude.{Result, Ok, codes, ⊤}
use Rattle.finite_sets.specs.Lists.{In}
use Rattle.text_form.specs.FirstFaults.{IsFirstFault}
use Rattle.text_form.specs.Folds.{last_number}
use Rattle.text_form.specs.SaidLines.{and_then}
use Rattle.tech_model.specs.declared.raw.RawTech.{RawTech}
use Rattle.tech_model.specs.declared.faults.Section.{Section}
use Rattle.tech_model.specs.declared.faults.TechFault.{TechFault}
use Rattle.tech_model.specs.Rules.{rule_fault}
use Rattle.tech_draft.specs.Drafts.{Drafted, empty_draft}
use Rattle.tech_draft.specs.Lines.{line_in}
use Rattle.tech_draft.specs.Finished.{finished}
use Rattle.tech_file.specs.declared.places.Place.TheVariants.{Between}
use Rattle.tech_file.specs.declared.reading.TechAt.{TechAt}
use Rattle.tech_file.specs.Outlines.{headings_of}
use Rattle.tech_file.specs.Reading.{standing, end_of, step_in, whole_fault, EndsWell}
use Rattle.tech_file.specs.Sections.{section_named, rank, required}
use Rattle.tech_file.specs.Places.{content_of, says_nothing, is_end, name_alone}

-- a section of a text: its name, and the words of each of its lines that say something
pub record TextSection : Type 0 where
  pub name : List ℕ
  pub body : List (List (List ℕ))

-- The name is one word other than `end`, and no line before the last is a lone `end`.
pub record IsSection (section : TextSection) : Type 0 where
  pub named : name_alone (section.name ∷ []) ≡ Some section.name
  pub body : (words : List (List ℕ)) → In words section.body → is_end words ≡ false

-- the words of the lines of these sections
abbrev pub words_of_all : List TextSection → List (List (List ℕ))
words_of_all [] = []
words_of_all (section ∷ sections) = (section.name ∷ []) ∷ (section.body ++ (codes "end" ∷ []) ∷ words_of_all sections)

-- the words of the lines that say something
abbrev pub words_in : List (List ℕ) → List (List (List ℕ))
words_in lines = filter (λ words. not (says_nothing words)) (map content_of lines)

abbrev pub with_known : Option Section → List Section → List Section
with_known None sections = sections
with_known (Some section) sections = section ∷ sections

-- the sections that mean something
abbrev pub known_sections : List TextSection → List Section
known_sections [] = []
known_sections (section ∷ sections) = with_known (section_named section.name) (known_sections sections)

-- each stands before those that are to come behind it, and none stands twice
abbrev pub AreInOrder : List Section → Type 0
AreInOrder [] = ⊤
AreInOrder (section ∷ sections) = ((other : Section) → In other sections → rank section < rank other) × AreInOrder sections

-- the draft with the lines of a section
abbrev pub lines_in : Section → Drafted → List (List (List ℕ)) → Result Drafted TechFault
lines_in section draft [] = Ok draft
lines_in section draft (words ∷ body) = and_then (line_in section draft words) (λ next. lines_in section next body)

-- the draft with a section that means something; of another nothing is read
abbrev pub section_in : Drafted → Option Section → List (List (List ℕ)) → Result Drafted TechFault
section_in draft None body = Ok draft
section_in draft (Some section) body = and_then (lines_in section draft body) (λ next. end_of section next.raw.name next)

abbrev pub sections_in : Drafted → List TextSection → Result Drafted TechFault
sections_in draft [] = Ok draft
sections_in draft (section ∷ sections) = and_then (section_in draft (section_named section.name) section.body)
    (λ next. sections_in next sections)

-- The text of a technology: sections in their order, none twice, whose lines give the draft one after another, with those that must be
-- there and a name.
pub record IsTechText (lines : List (List ℕ)) (draft : Drafted) : Type 0 where
  pub sections : List TextSection
  pub are_sections : (section : TextSection) → In section sections → IsSection section
  pub words : words_in lines ≡ words_of_all sections
  pub in_order : AreInOrder (known_sections sections)
  pub read : sections_in empty_draft sections ≡ Ok draft
  pub present : (section : Section) → In section required → In section (known_sections sections)
  pub named : draft.raw.name ≢ []

-- the technology of such a text, which breaks no rule
abbrev pub IsTechnologyOf : List (List ℕ) → RawTech → Type 0
IsTechnologyOf lines raw = (draft : Drafted) × (IsTechText lines draft × ((raw ≡ finished draft) × (rule_fault raw ≡ None)))

-- The first fault of a text: that of its first faulty line, read after the lines before it; or, where no line is faulty, a section that is
-- missing, or else the first rule that is broken, told at the last line.
abbrev pub IsRefusedAt : List (List ℕ) → TechAt → Type 0
IsRefusedAt lines at =
    IsFirstFault (step_in lines) 1 (standing Between empty_draft) lines (record { line = at.line; fault = at.fault })
    ⊎ ((draft : Drafted) × (EndsWell lines draft
    × ((at.line ≡ last_number lines) × (whole_fault (headings_of lines) (finished draft) ≡ Some at.fault))))
