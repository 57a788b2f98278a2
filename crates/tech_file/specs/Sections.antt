-- The sections of a technology's text.
use Rattle.std.specs.Prelude.{ℕ, if◌then◌else◌, List, [], ◌∷◌, Option, Some, None, codes}
use Rattle.std.specs.Str.{bytes_eq}
use Rattle.tech_model.specs.declared.faults.Section.{Section}
use Rattle.tech_model.specs.declared.faults.Section.TheVariants.{Tech, Planes, Types, Contact, Compose, Connect, Extract}

-- the section of a name, if it is one that means something
abbrev pub section_named : List ℕ → Option Section
section_named word =
    if bytes_eq word (codes "tech") then Some Tech
    else if bytes_eq word (codes "planes") then Some Planes
    else if bytes_eq word (codes "types") then Some Types
    else if bytes_eq word (codes "contact") then Some Contact
    else if bytes_eq word (codes "compose") then Some Compose
    else if bytes_eq word (codes "connect") then Some Connect
    else if bytes_eq word (codes "extract") then Some Extract
    else None

-- the order in which sections stand
abbrev pub rank : Section → ℕ
rank Tech = 0
rank Planes = 1
rank Types = 2
rank Contact = 3
rank Compose = 4
rank Connect = 5
rank Extract = 6

-- the sections that must be there, beside `tech`
abbrev pub required : List Section
required = Planes ∷ Types ∷ Connect ∷ Extract ∷ []
