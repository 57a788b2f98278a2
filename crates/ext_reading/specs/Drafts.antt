-- What a circuit file has said so far, and what a line adds.
--
-- Of several faults in one line the first in this order counts: no form, no header, another version, a name twice, a number out of range, not an
-- orientation, a use twice, no such name.
use Rattle.std.specs.Prelude.{◌==◌, ◌&&◌, ◌||◌, ◌*◌, ◌-ℤ◌, nat_lt, int_lt, suc, slice_index, slice_index_or, slice_set, ℕ, ℤ, pos, Bool, true, false, not}
use Rattle.std.specs.Prelude.{if◌then◌else◌, ◌<ℤ◌, IsTrue, List, [], ◌∷◌, ◌++◌, length, Option, Some, None, Result, Ok, Err}
use Rattle.std.specs.Int.{w32}
use Rattle.std.specs.Int.RustNames.{unsigned_abs, FitsSigned}
use Rattle.std.specs.Option.{is_some}
use Rattle.std.specs.List.{list_any, list_all, position, before_first, range_with_len}
use Rattle.std.specs.Str.{bytes_eq}
use Rattle.text_scan.specs.Decimal.{decimal}
use Rattle.text_form.specs.SaidLines.{and_then}
use Rattle.ext_model.specs.declared.records.NodeRec.{NodeRec}
use Rattle.ext_model.specs.declared.records.FetRec.{FetRec}
use Rattle.ext_model.specs.declared.arrays.ArrayUse.{ArrayUse}
use Rattle.ext_model.specs.declared.arrays.MergeRow.{MergeRow}
use Rattle.ext_model.specs.ElementNames.{is_use_id, indexed_name}
use Rattle.ext_model.specs.Plain.{before, behind, index_of, raised}
use Rattle.element_index.specs.declared.uses.UseElements.{UseElements}
use Rattle.element_index.specs.GivenNames.{names_in, is_among, gives_again}
use Rattle.ext_reading.specs.declared.faults.ExtReadFault.{ExtReadFault}
use Rattle.ext_reading.specs.declared.faults.ExtReadFault.TheVariants.{BadLine, NoHeader, Version as OtherVersion, NameTwice, Range, UseTwice, NoName}
use Rattle.ext_reading.specs.declared.limits.TheConstants.{MOST_USES}
use Rattle.ext_reading.specs.declared.lines.Seen.{Seen}
use Rattle.ext_reading.specs.declared.lines.HeaderLine.{HeaderLine}
use Rattle.ext_reading.specs.declared.lines.HeaderLine.TheVariants.{Tech, Timestamp, Version, Style, Scale, Classes}
use Rattle.ext_reading.specs.declared.lines.Version as lines
use Rattle.ext_reading.specs.declared.lines.Version.TheVariants.{One, Two, Other}
use Rattle.ext_reading.specs.declared.lines.UseLine.{UseLine}
use Rattle.ext_reading.specs.declared.lines.NodeLine.{NodeLine}
use Rattle.ext_reading.specs.declared.lines.FetLine.{FetLine}
use Rattle.ext_reading.specs.declared.lines.MergeLine.{MergeLine}
use Rattle.ext_reading.specs.declared.lines.ElementRange.{ElementRange}
use Rattle.ext_reading.specs.declared.lines.ExtLine.{ExtLine}
use Rattle.ext_reading.specs.declared.lines.ExtLine.TheVariants.{Nothing, Header, Use, Node, Equiv, Fet, Merge}
use Rattle.ext_reading.specs.declared.outlines.Outline.{Outline}
use Rattle.ext_reading.specs.Parts.{is_slash, is_short}
use Rattle.ext_reading.specs.LineForms.{says}
use Rattle.ext_reading.specs.Ranges.{short_in, measure_in, measures_in, class_values_in, grid_in, six_in, point_in, term_in, terms_from}

-- Which lines of the header have been read, and whether a line behind it has. The version, the technology, the classes, and then the records,
-- each in the order of its lines: `given` has the ids and grids of the uses, `names` all names of nodes, and `owners` for each of them the number
-- of its node.
pub record Draft : Type 0 where
  pub seen : Seen
  pub begun : Bool
  pub version : Option lines.Version
  pub tech : List ℕ
  pub classes : List ℕ
  pub uses : List ArrayUse
  pub given : List UseElements
  pub nodes : List NodeRec
  pub names : List (List ℕ)
  pub owners : List ℕ
  pub fets : List FetRec
  pub merges : List MergeRow

abbrev pub nothing_seen : Seen
nothing_seen = record { tech = false; timestamp = false; version = false; style = false; scale = false; classes = false }

abbrev pub nothing_yet : Draft
nothing_yet = record {
  seen = nothing_seen;
  begun = false;
  version = None;
  tech = [];
  classes = [];
  uses = [];
  given = [];
  nodes = [];
  names = [];
  owners = [];
  fets = [];
  merges = [];
}

-- a header needs the technology, the version and the classes
abbrev pub is_incomplete : Seen → Bool
is_incomplete seen = not (seen.tech && seen.version && seen.classes)

-- the line of the header has been read before
abbrev pub was_seen : Seen → HeaderLine → Bool
was_seen seen (Tech name) = seen.tech
was_seen seen Timestamp = seen.timestamp
was_seen seen (Version version) = seen.version
was_seen seen Style = seen.style
was_seen seen Scale = seen.scale
was_seen seen (Classes values) = seen.classes

-- it is read now
abbrev pub with_seen : Seen → HeaderLine → Seen
with_seen seen (Tech name) = record seen { tech = true }
with_seen seen Timestamp = record seen { timestamp = true }
with_seen seen (Version version) = record seen { version = true }
with_seen seen Style = record seen { style = true }
with_seen seen Scale = record seen { scale = true }
with_seen seen (Classes values) = record seen { classes = true }

abbrev pub is_other_version : HeaderLine → Bool
is_other_version (Version Other) = true
is_other_version _ = false

-- what a line of the header has for the record
abbrev pub with_header : Draft → HeaderLine → Result Draft ExtReadFault
with_header draft (Tech name) = Ok (record draft { tech = name })
with_header draft (Version version) = Ok (record draft { version = Some version })
with_header draft (Classes values) = and_then (class_values_in values) (λ values. Ok (record draft { classes = values }))
with_header draft _ = Ok draft

-- a line of the header; where it is the last line of the text, the header ends with it
abbrev pub takes_header : Bool → Draft → HeaderLine → Result Draft ExtReadFault
takes_header is_last draft header =
    if draft.begun then Err BadLine
    else if is_last && is_incomplete (with_seen draft.seen header) then Err NoHeader
    else if is_other_version header then Err OtherVersion
    else if was_seen draft.seen header then Err NameTwice
    else with_header (record draft { seen = with_seen draft.seen header }) header

-- what the names of a use's elements are made of
abbrev pub elements_of : ArrayUse → UseElements
elements_of used = record { id = used.id; grid = used.grid }

abbrev pub with_use : Draft → ArrayUse → Draft
with_use draft used = record draft { uses = draft.uses ++ used ∷ []; given = draft.given ++ elements_of used ∷ [] }

-- a use, where no element has a name that another one has
abbrev pub takes_new_use : Draft → ArrayUse → Result Draft ExtReadFault
takes_new_use draft used = if gives_again draft.given (elements_of used) then Err UseTwice else Ok (with_use draft used)

-- a use, where there may be one more
abbrev pub takes_use : Draft → UseLine → Result Draft ExtReadFault
takes_use draft line =
    if nat_lt (length draft.uses) MOST_USES
    then and_then (grid_in line.name.grid) (λ grid.
    and_then (six_in line.six) (λ six.
    takes_new_use draft (record { cell = line.cell; id = line.name.id; six = six; grid = grid })))
    else Err Range

-- a node that has no other name yet
abbrev pub node_from : NodeLine → Result NodeRec ExtReadFault
node_from line =
    and_then (measure_in line.cap) (λ cap.
    and_then (short_in line.x) (λ x.
    and_then (short_in line.y) (λ y.
    and_then (measures_in line.measures) (λ measures.
    Ok (record { name = line.name; aliases = []; cap = cap; x = x; y = y; kind = line.kind; measures = measures })))))

abbrev pub with_node : Draft → NodeRec → Draft
with_node draft node =
    record draft { nodes = draft.nodes ++ node ∷ []; names = draft.names ++ node.name ∷ []; owners = draft.owners ++ length draft.nodes ∷ [] }

abbrev pub takes_node : Draft → NodeLine → Result Draft ExtReadFault
takes_node draft line =
    if is_among line.name draft.names then Err NameTwice else and_then (node_from line) (λ node. Ok (with_node draft node))

-- the node with another name behind those that it has
abbrev pub named_too : List ℕ → NodeRec → NodeRec
named_too alias node = record node { aliases = node.aliases ++ alias ∷ [] }

-- in the place of a node that is not there
abbrev pub no_node : NodeRec
no_node = record { name = []; aliases = []; cap = pos 0; x = pos 0; y = pos 0; kind = []; measures = [] }

abbrev pub with_alias_at : ℕ → List NodeRec → List ℕ → List NodeRec
with_alias_at node nodes alias = slice_set nodes node (named_too alias (slice_index_or nodes node no_node))

-- another name of the node of this number
abbrev pub with_alias : Draft → ℕ → List ℕ → Draft
with_alias draft node alias =
    record draft { nodes = with_alias_at node draft.nodes alias; names = draft.names ++ alias ∷ []; owners = draft.owners ++ node ∷ [] }

-- another name of the node that has the name at this place
abbrev pub takes_alias : Draft → Option ℕ → List ℕ → Result Draft ExtReadFault
takes_alias draft (Some place) alias = Ok (with_alias draft (slice_index draft.owners place) alias)
takes_alias draft None alias = Err NoName

abbrev pub takes_equiv : Draft → List ℕ → List ℕ → Result Draft ExtReadFault
takes_equiv draft name alias =
    if is_among alias draft.names then Err NameTwice else takes_alias draft (position (bytes_eq name) draft.names) alias

-- the transistor, whatever the nodes are that it names
abbrev pub fet_from : FetLine → Result FetRec ExtReadFault
fet_from line =
    and_then (point_in line.corners) (λ point.
    and_then (measure_in line.area) (λ area.
    and_then (measure_in line.perimeter) (λ perimeter.
    and_then (term_in line.gate) (λ gate.
    and_then (terms_from [] line.terminals) (λ terminals.
    Ok (record {
      kind = line.kind;
      x = point.0;
      y = point.1;
      area = area;
      perimeter = perimeter;
      substrate = line.substrate;
      gate = gate;
      terminals = terminals;
    }))))))

abbrev pub has_its_nodes : List (List ℕ) → FetRec → Bool
has_its_nodes names fet = is_among fet.gate.node names && list_all (λ side. is_among side.node names) fet.terminals

abbrev pub takes_fet : Draft → FetLine → Result Draft ExtReadFault
takes_fet draft line =
    and_then (fet_from line) (λ fet. if has_its_nodes draft.names fet then Ok (record draft { fets = draft.fets ++ fet ∷ [] }) else Err NoName)

-- a path without a slash is the name of a node; one with a slash begins with the name of an element of the file
abbrev pub leads : List (List ℕ) → List (List ℕ) → List ℕ → Bool
leads elements names path = if list_any is_slash path then is_among (before_first is_slash path) elements else is_among path names

-- The use has an id, the indices are of 32 bits with sign, and the last is greater than the first.
pub record IsElementRange (range : ElementRange) : Type 0 where
  pub id : IsTrue (is_use_id range.id)
  pub lo : FitsSigned w32 range.lo
  pub hi : FitsSigned w32 range.hi
  pub j : FitsSigned w32 range.j
  pub upward : range.lo <ℤ range.hi

-- the path of a range: `ID[LO:HI,J]/REST`
abbrev pub range_path : ElementRange → List ℕ
range_path range = range.id ++ 91 ∷ (decimal range.lo ++ 58 ∷ (decimal range.hi ++ 44 ∷ (decimal range.j ++ 93 ∷ 47 ∷ range.rest)))

-- the path is that of the range, which goes upward
abbrev pub is_range : List ℕ → ElementRange → Bool
is_range path range =
    is_use_id range.id && is_short range.lo && is_short range.hi && is_short range.j && int_lt range.lo range.hi && bytes_eq path (range_path range)

-- what stands between the marks of a range
abbrev pub range_parts : List ℕ → ElementRange
range_parts path =
    let inner = behind 91 (before 47 path) in
    let others = behind 58 inner in
    record {
      id = before 91 (before 47 path);
      lo = index_of (before 58 inner);
      hi = index_of (before 44 others);
      j = index_of (before 93 (behind 44 others));
      rest = behind 47 path;
    }

abbrev pub range_of : List ℕ → Option ElementRange
range_of path = if is_range path (range_parts path) then Some (range_parts path) else None

-- the range that the second path of a merge is; in version 1 there is none
abbrev pub range_in : Option lines.Version → List ℕ → Option ElementRange
range_in (Some Two) path = range_of path
range_in _ path = None

-- the second path of a merge, the first where it is a range
abbrev pub second_of : List ℕ → Option ElementRange → List ℕ
second_of path (Some range) = indexed_name range.id range.lo range.j ++ 47 ∷ range.rest
second_of path None = path

-- a range stands for a merge for each of its elements
abbrev pub count_of : Option ElementRange → ℕ
count_of (Some range) = suc (unsigned_abs (range.hi -ℤ range.lo))
count_of None = 1

abbrev pub merge_from : MergeLine → Option ElementRange → Result MergeRow ExtReadFault
merge_from line range =
    and_then (measure_in line.cap) (λ cap.
    and_then (measures_in line.measures) (λ measures.
    Ok (record { first = line.first; second = second_of line.second range; count = count_of range; cap = cap; measures = measures })))

-- each of so many paths leads, of which the first is this one
abbrev pub all_lead : List (List ℕ) → List (List ℕ) → List ℕ → ℕ → Bool
all_lead elements names path count = list_all (λ n. leads elements names (raised path n)) (range_with_len 0 count)

-- the names of the elements of a file of the version: there are no arrays in version 1
abbrev pub elements_known : Option lines.Version → Outline → List (List ℕ)
elements_known (Some One) outline = names_in outline.singles
elements_known _ outline = names_in outline.all

-- a row of merges, each of which leads to two nodes
abbrev pub takes_merge : Outline → Draft → MergeLine → Result Draft ExtReadFault
takes_merge outline draft line =
    let elements = elements_known draft.version outline in
    and_then (merge_from line (range_in draft.version line.second)) (λ row.
    if leads elements draft.names row.first && all_lead elements draft.names row.second row.count
    then Ok (record draft { merges = draft.merges ++ row ∷ [] })
    else Err NoName)

-- a line behind the header that has its form
abbrev pub takes_record : Outline → Draft → ExtLine → Result Draft ExtReadFault
takes_record outline draft (Use line) = takes_use draft line
takes_record outline draft (Node line) = takes_node draft line
takes_record outline draft (Equiv name alias) = takes_equiv draft name alias
takes_record outline draft (Fet line) = takes_fet draft line
takes_record outline draft (Merge line) = takes_merge outline draft line
takes_record outline draft said = Ok draft

-- once the classes are known, a node and a merge have two measures for each
abbrev pub has_measures : Draft → List (Option ℤ) → Bool
has_measures draft measures = not draft.seen.classes || length measures == 2 * length draft.classes

abbrev pub fits_classes : Draft → ExtLine → Bool
fits_classes draft (Node line) = has_measures draft line.measures
fits_classes draft (Merge line) = has_measures draft line.measures
fits_classes draft said = true

-- version 1 has no arrays
abbrev pub fits_version : Option lines.Version → ExtLine → Bool
fits_version (Some One) (Use line) = not (is_some line.name.grid)
fits_version version said = true

-- the first line behind the header ends it
abbrev pub takes_body : Outline → Draft → ExtLine → Result Draft ExtReadFault
takes_body outline draft said =
    if not (fits_classes draft said && fits_version draft.version said) then Err BadLine
    else if is_incomplete draft.seen then Err NoHeader
    else takes_record outline (record draft { begun = true }) said

abbrev pub takes : Outline → Bool → Draft → ExtLine → Result Draft ExtReadFault
takes outline is_last draft Nothing = Ok draft
takes outline is_last draft (Header header) = takes_header is_last draft header
takes outline is_last draft said = takes_body outline draft said

-- what the line of this number makes of what was read
abbrev pub step : Outline → ℕ → Draft → List ℕ → Result Draft ExtReadFault
step outline number draft line = and_then (says line) (takes outline (number == outline.last) draft)

-- a text has a header
abbrev pub finish : Draft → Result Draft ExtReadFault
finish draft = if is_incomplete draft.seen then Err NoHeader else Ok draft
