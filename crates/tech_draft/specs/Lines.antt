-- What a line of each section makes of a draft.
use Rattle.std.specs.Prelude.{ℕ, List, Result}
use Rattle.tech_model.specs.declared.faults.Section.{Section}
use Rattle.tech_model.specs.declared.faults.Section.TheVariants.{Tech, Planes, Types, Contact, Compose, Connect, Extract}
use Rattle.tech_model.specs.declared.faults.TechFault.{TechFault}
use Rattle.tech_draft.specs.Drafts.{Drafted}
use Rattle.tech_draft.specs.TypeLines.{name_line, plane_line, type_line}
use Rattle.tech_draft.specs.SetLines.{contact_line, compose_line}
use Rattle.tech_draft.specs.ListLines.{connect_line, extract_line}

-- what the line of these words makes of the draft, or the first rule that it breaks
unfoldable pub line_in : Section → Drafted → List (List ℕ) → Result Drafted TechFault
line_in Tech draft words = name_line draft words
line_in Planes draft words = plane_line draft words
line_in Types draft words = type_line draft words
line_in Contact draft words = contact_line draft words
line_in Compose draft words = compose_line draft words
line_in Connect draft words = connect_line draft words
line_in Extract draft words = extract_line draft words
