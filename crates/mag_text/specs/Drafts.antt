-- What a mag text has said so far, and what a line in its section adds.
use Rattle.std.specs.Prelude.{◌||◌, ℕ, ℤ, pos, Bool, true, false, if◌then◌else◌, List, [], ◌∷◌, ◌++◌, Some, None, Result, Ok, Err, codes, nat_eq}
use Rattle.std.specs.List.{list_any, starts_with}
use Rattle.std.specs.Str.{bytes_eq}
use Rattle.geo_core.specs.declared.grids.Grid.{Grid}
use Rattle.text_scan.specs.Words.{words_of}
use Rattle.text_form.specs.SaidLines.{and_then}
use Rattle.tech_model.specs.declared.raw.Label.{Label as OneLabel}
use Rattle.tech_model.specs.declared.raw.RawTech.{RawTech}
use Rattle.cell_library.specs.CellBodies.declared.bodies.CellUse.{CellUse}
use Rattle.cell_library.specs.CellBodies.Bodies.{ids_of}
use Rattle.mag_text.specs.declared.faults.MagFault.{MagFault}
use Rattle.mag_text.specs.declared.faults.MagFault.TheVariants.{Magic, BadLine, UseTwice, NoEnd}
use Rattle.mag_text.specs.declared.files.Drawn.{Drawn}
use Rattle.mag_text.specs.declared.files.Group.{Group as OneGroup}
use Rattle.mag_text.specs.declared.files.Group.TheVariants.{Paint, Labels, ReadOver}
use Rattle.mag_text.specs.declared.files.MagLine.{MagLine}
use Rattle.mag_text.specs.declared.files.MagLine.TheVariants.{Nothing, Tech, Timestamp, Scale, Group, End, Area, Label, Use, Array, Transform, Box}
use Rattle.mag_text.specs.declared.files.Section.{Section}
use Rattle.mag_text.specs.declared.files.Section.TheVariants.{Start, Header, Inside, Use as InUse, Between, Ended}
use Rattle.mag_text.specs.declared.files.Seen.{Seen}
use Rattle.mag_text.specs.declared.files.UsePart.{UsePart}
use Rattle.mag_text.specs.declared.files.UsePart.TheVariants.{Named, Arrayed, Dated, Placed}
use Rattle.mag_text.specs.LineForms.{says}

-- The section that the next line stands in, the use that is being read, and what has been read: rectangles, uses and labels in their order, and
-- the scale.
pub record Draft : Type 0 where
  pub section : Section
  pub pending : CellUse
  pub drawn : List Drawn
  pub uses : List CellUse
  pub labels : List OneLabel
  pub scale : ℕ × ℕ

-- a use of this child with this id, whose place is still to come
abbrev pub use_named : List ℕ → List ℕ → CellUse
use_named cell id = record { cell = cell; id = id; six = pos 0 ∷ pos 0 ∷ pos 0 ∷ pos 0 ∷ pos 0 ∷ pos 0 ∷ []; grid = None }

abbrev pub no_use : CellUse
no_use = use_named [] []

-- before the first line; without a `magscale` line the scale is 1 1
abbrev pub nothing_yet : Draft
nothing_yet = record { section = Start; pending = no_use; drawn = []; uses = []; labels = []; scale = (1, 1) }

-- no line of a header has been
abbrev pub none_seen : Seen
none_seen = record { tech = false; timestamp = false; scale = false }

-- a use has the id
abbrev pub has_id : List ℕ → List CellUse → Bool
has_id id uses = list_any (bytes_eq id) (ids_of uses)

-- a line that may stand anywhere but in a use: a group, a use, or the end begins
abbrev pub opens : Draft → MagLine → Result Draft MagFault
opens draft (Group group) = and_then group (λ group. Ok (record draft { section = Inside group }))
opens draft End = Ok (record draft { section = Ended })
opens draft (Use cell id) = if has_id id draft.uses then Err UseTwice else Ok (record draft { section = InUse Named; pending = use_named cell id })
opens draft _ = Err BadLine

-- a line of a header: each may stand once
abbrev pub takes_in_header : Seen → Draft → MagLine → Result Draft MagFault
takes_in_header seen draft Tech = if seen.tech then Err BadLine else Ok (record draft { section = Header (record seen { tech = true }) })
takes_in_header seen draft (Timestamp time) =
    if seen.timestamp then Err BadLine else and_then time (λ _. Ok (record draft { section = Header (record seen { timestamp = true }) }))
takes_in_header seen draft (Scale scale) =
    if seen.scale then Err BadLine else and_then scale (λ scale. Ok (record draft { section = Header (record seen { scale = true }); scale = scale }))
takes_in_header seen draft said = opens draft said

-- a line of a group
abbrev pub takes_in_group : OneGroup → Draft → MagLine → Result Draft MagFault
takes_in_group (Paint layer) draft (Area area) =
    and_then area (λ area. Ok (record draft { drawn = draft.drawn ++ (record { layer = layer; area = area }) ∷ [] }))
takes_in_group Labels draft (Label label) = and_then label (λ label. Ok (record draft { labels = draft.labels ++ label ∷ [] }))
takes_in_group group draft said = opens draft said

abbrev pub with_grid : Draft → Grid → Draft
with_grid draft grid = record draft { section = InUse Arrayed; pending = record draft.pending { grid = Some grid } }

abbrev pub with_time : Draft → Draft
with_time draft = record draft { section = InUse Dated }

abbrev pub with_six : Draft → List ℤ → Draft
with_six draft six =
    record draft { section = InUse Placed; pending = no_use; uses = draft.uses ++ (record draft.pending { six = six }) ∷ [] }

-- a line of a use, behind this one: an array and a timestamp may be missing
abbrev pub takes_in_use : UsePart → Draft → MagLine → Result Draft MagFault
takes_in_use Named draft (Array grid) = and_then grid (λ grid. Ok (with_grid draft grid))
takes_in_use Named draft (Timestamp time) = and_then time (λ _. Ok (with_time draft))
takes_in_use Arrayed draft (Timestamp time) = and_then time (λ _. Ok (with_time draft))
takes_in_use Named draft (Transform six) = and_then six (λ six. Ok (with_six draft six))
takes_in_use Arrayed draft (Transform six) = and_then six (λ six. Ok (with_six draft six))
takes_in_use Dated draft (Transform six) = and_then six (λ six. Ok (with_six draft six))
takes_in_use Placed draft Box = Ok (record draft { section = Between })
takes_in_use part draft said = Err BadLine

-- a line that says something, in its section
abbrev pub takes_said : Section → Draft → MagLine → Result Draft MagFault
takes_said (Header seen) draft said = takes_in_header seen draft said
takes_said (Inside group) draft said = takes_in_group group draft said
takes_said (InUse part) draft said = takes_in_use part draft said
takes_said section draft said = opens draft said

-- a line that says nothing is read over
abbrev pub takes_in : Section → Draft → MagLine → Result Draft MagFault
takes_in section draft Nothing = Ok draft
takes_in section draft said = takes_said section draft said

-- the first word of a line is this
abbrev pub begins_with_word : List ℕ → List (List ℕ) → Bool
begins_with_word key [] = false
begins_with_word key (word ∷ words) = bytes_eq word key

-- the line ends a group that is read over: its first bytes are `<<`, or its first word is `use`
abbrev pub ends_read_over : List ℕ → Bool
ends_read_over line = starts_with nat_eq line (codes "<<") || begins_with_word (codes "use") (words_of line)

-- the line is the one word `magic`
abbrev pub is_magic : List (List ℕ) → Bool
is_magic (word ∷ []) = bytes_eq word (codes "magic")
is_magic _ = false

-- the first line, behind which a header begins
abbrev pub begins : Draft → List ℕ → Result Draft MagFault
begins draft line = if is_magic (words_of line) then Ok (record draft { section = Header none_seen }) else Err Magic

-- what a line says is added to what was read
abbrev pub line_taken : RawTech → Draft → List ℕ → Result Draft MagFault
line_taken raw draft line = and_then (says raw line) (takes_in draft.section draft)

-- what a line makes of what was read, in its section
abbrev pub line_in : RawTech → Section → Draft → List ℕ → Result Draft MagFault
line_in raw Start draft line = begins draft line
line_in raw Ended draft line = Ok draft
line_in raw (Inside ReadOver) draft line = if ends_read_over line then line_taken raw draft line else Ok draft
line_in raw section draft line = line_taken raw draft line

-- what the line of this number makes of what was read
abbrev pub step : RawTech → ℕ → Draft → List ℕ → Result Draft MagFault
step raw number draft line = line_in raw draft.section draft line

-- a text has its last line, or else what is wrong with it as a whole
abbrev pub ended : Section → Draft → Result Draft MagFault
ended Start draft = Err Magic
ended Ended draft = Ok draft
ended section draft = Err NoEnd

abbrev pub finish : Draft → Result Draft MagFault
finish draft = ended draft.section draft
