-- What each line of a circuit file adds to what was read.
use Rattle.file_laws.proofs.Common.{◌≡◌, ◌&&◌, ℕ, Bool, true, false, not, Option, List, [], ◌∷◌, ◌++◌, length, Ok, refl, bytes_eq, FetRec, MergeRow}
use Rattle.file_laws.proofs.Common.{NoHeader, HeaderLine, Tech, Timestamp, Version, Style, Scale, Classes, NodeLine, FetLine, MergeLine, ExtLine}
use Rattle.file_laws.proofs.Common.{Nothing, Header, Use, Node, Equiv, Fet, Merge, Outline, IsUseOf, IsNodeOf}
use Rattle.std.specs.Prelude.{Some, None, nat_lt, slice_index}
use Rattle.std.specs.List.{position}
use Rattle.ext_model.specs.declared.records.NodeRec.{NodeRec}
use Rattle.ext_model.specs.declared.arrays.ArrayUse.{ArrayUse}
use Rattle.element_index.specs.GivenNames.{is_among, gives_again}
use Rattle.ext_reading.specs.declared.faults.ExtReadFault.TheVariants.{BadLine, Version as OtherVersion, NameTwice, Range, UseTwice, NoName}
use Rattle.ext_reading.specs.declared.limits.TheConstants.{MOST_USES}
use Rattle.ext_reading.specs.declared.lines.UseLine.{UseLine}
use Rattle.ext_reading.specs.Ranges.{class_values_in, grid_in, six_in, measure_in, short_in, measures_in}
use Rattle.ext_reading.specs.Drafts.{Draft, is_incomplete, was_seen, with_seen, is_other_version, with_header, takes_header}
use Rattle.ext_reading.specs.Drafts.{elements_of, with_use, takes_use, node_from, with_node, takes_node, with_alias, takes_alias, takes_equiv}
use Rattle.ext_reading.specs.Drafts.{fet_from, has_its_nodes, takes_fet, leads, all_lead, elements_known, range_in, merge_from, takes_merge}
use Rattle.ext_reading.specs.Drafts.{takes_record, fits_classes, fits_version, takes_body, takes}
use Rattle.ext_reading.proofs.Outcomes.{OkHas, given_has, passed_has, failed_has, value_has}

-- a line of the header was seen
abbrev pub seeing : Draft → HeaderLine → Draft
seeing draft header = record draft { seen = with_seen draft.seen header }

-- what a line of the header adds: it has what the record has of it
abbrev pub HeaderGains : Draft → HeaderLine → Draft → Type 0
HeaderGains draft (Tech name) next = next ≡ (let now = seeing draft (Tech name) in record now { tech = name })
HeaderGains draft (Version version) next = next ≡ (let now = seeing draft (Version version) in record now { version = Some version })
HeaderGains draft (Classes values) next =
    (found : List ℕ) × (class_values_in values ≡ Ok found) × (next ≡ (let now = seeing draft (Classes values) in record now { classes = found }))
HeaderGains draft header next = next ≡ seeing draft header

-- the header has ended
abbrev pub begun_in : Draft → Draft
begun_in draft = record draft { begun = true }

abbrev pub with_fet : Draft → FetRec → Draft
with_fet draft fet = record draft { fets = draft.fets ++ fet ∷ [] }

abbrev pub with_row : Draft → MergeRow → Draft
with_row draft row = record draft { merges = draft.merges ++ row ∷ [] }

-- what a line adds to the draft
abbrev pub Gains : Draft → ExtLine → Draft → Type 0
Gains draft Nothing next = next ≡ draft
Gains draft (Header header) next = (draft.begun ≡ false) × (was_seen draft.seen header ≡ false) × HeaderGains draft header next
Gains draft (Use line) next = (used : ArrayUse) × IsUseOf line used × (next ≡ with_use (begun_in draft) used)
Gains draft (Node line) next = (node : NodeRec) × IsNodeOf line node × (next ≡ with_node (begun_in draft) node)
Gains draft (Equiv name alias) next = (owner : ℕ) × (next ≡ with_alias (begun_in draft) owner alias)
Gains draft (Fet line) next = (fet : FetRec) × (fet_from line ≡ Ok fet) × (next ≡ with_fet (begun_in draft) fet)
Gains draft (Merge line) next =
    (row : MergeRow) × (merge_from line (range_in draft.version line.second) ≡ Ok row) × (next ≡ with_row (begun_in draft) row)

header_gains : (draft : Draft) (header : HeaderLine) → draft.begun ≡ false → was_seen draft.seen header ≡ false
    → OkHas (Gains draft (Header header)) (with_header (seeing draft header) header)
header_gains draft (Tech name) early new = (early, new, refl)
header_gains draft (Version version) early new = (early, new, refl)
header_gains draft (Classes values) early new =
    given_has (Gains draft (Header (Classes values))) (class_values_in values) _ (λ found e. (early, new, (found, e, refl)))
header_gains draft Timestamp early new = (early, new, refl)
header_gains draft Style early new = (early, new, refl)
header_gains draft Scale early new = (early, new, refl)

takes_header-gains : (is_last : Bool) (draft : Draft) (header : HeaderLine) → OkHas (Gains draft (Header header)) (takes_header is_last draft header)
takes_header-gains is_last draft header =
    failed_has (Gains draft (Header header)) draft.begun _ BadLine (λ early.
    failed_has (Gains draft (Header header)) (is_last && is_incomplete (with_seen draft.seen header)) _ NoHeader (λ whole.
    failed_has (Gains draft (Header header)) (is_other_version header) _ OtherVersion (λ known.
    failed_has (Gains draft (Header header)) (was_seen draft.seen header) _ NameTwice (λ new. header_gains draft header early new))))

takes_use-gains : (draft : Draft) (line : UseLine) → OkHas (Gains draft (Use line)) (takes_use (begun_in draft) line)
takes_use-gains draft line =
    passed_has (Gains draft (Use line)) (nat_lt (length draft.uses) MOST_USES) _ Range (λ few.
    given_has (Gains draft (Use line)) (grid_in line.name.grid) _ (λ grid of_grid.
    given_has (Gains draft (Use line)) (six_in line.six) _ (λ six of_six.
    let used : ArrayUse = record { cell = line.cell; id = line.name.id; six = six; grid = grid } in
    failed_has (Gains draft (Use line)) (gives_again draft.given (elements_of used)) _ UseTwice (λ new.
    (used, record { cell = refl; id = refl; grid = of_grid; six = of_six }, refl)))))

-- the node of a line is one of that line
node_from-is : (line : NodeLine) → OkHas (IsNodeOf line) (node_from line)
node_from-is line =
    given_has (IsNodeOf line) (measure_in line.cap) _ (λ cap of_cap.
    given_has (IsNodeOf line) (short_in line.x) _ (λ x of_x.
    given_has (IsNodeOf line) (short_in line.y) _ (λ y of_y.
    given_has (IsNodeOf line) (measures_in line.measures) _ (λ measures of_measures.
    record { name = refl; cap = of_cap; x = of_x; y = of_y; kind = refl; measures = of_measures }))))

takes_node-gains : (draft : Draft) (line : NodeLine) → OkHas (Gains draft (Node line)) (takes_node (begun_in draft) line)
takes_node-gains draft line =
    failed_has (Gains draft (Node line)) (is_among line.name draft.names) _ NameTwice (λ new.
    given_has (Gains draft (Node line)) (node_from line) _ (λ node e. (node, value_has (IsNodeOf line) (node_from line) node (node_from-is line) e, refl)))

takes_alias-gains : (draft : Draft) (name alias : List ℕ) (found : Option ℕ)
    → OkHas (Gains draft (Equiv name alias)) (takes_alias (begun_in draft) found alias)
takes_alias-gains draft name alias (Some place) = (slice_index draft.owners place, refl)
takes_alias-gains draft name alias None = tt

takes_equiv-gains : (draft : Draft) (name alias : List ℕ) → OkHas (Gains draft (Equiv name alias)) (takes_equiv (begun_in draft) name alias)
takes_equiv-gains draft name alias =
    failed_has (Gains draft (Equiv name alias)) (is_among alias draft.names) _ NameTwice (λ new.
    takes_alias-gains draft name alias (position (bytes_eq name) draft.names))

takes_fet-gains : (draft : Draft) (line : FetLine) → OkHas (Gains draft (Fet line)) (takes_fet (begun_in draft) line)
takes_fet-gains draft line =
    given_has (Gains draft (Fet line)) (fet_from line) _ (λ fet e.
    passed_has (Gains draft (Fet line)) (has_its_nodes draft.names fet) _ NoName (λ its. (fet, e, refl)))

takes_merge-gains : (outline : Outline) (draft : Draft) (line : MergeLine) → OkHas (Gains draft (Merge line)) (takes_merge outline (begun_in draft) line)
takes_merge-gains outline draft line =
    let elements = elements_known draft.version outline in
    given_has (Gains draft (Merge line)) (merge_from line (range_in draft.version line.second)) _ (λ row e.
    passed_has (Gains draft (Merge line)) (leads elements draft.names row.first && all_lead elements draft.names row.second row.count) _ NoName
    (λ lead. (row, e, refl)))

takes_record-gains : (outline : Outline) (draft : Draft) (said : ExtLine) → OkHas (Gains draft said) (takes_record outline (begun_in draft) said)
    → OkHas (Gains draft said) (takes_body outline draft said)
takes_record-gains outline draft said is =
    failed_has (Gains draft said) (not (fits_classes draft said && fits_version draft.version said)) _ BadLine (λ fits.
    failed_has (Gains draft said) (is_incomplete draft.seen) _ NoHeader (λ whole. is))

-- each line that can stand there adds what it says
pub takes-gains : (outline : Outline) (is_last : Bool) (draft : Draft) (said : ExtLine) → OkHas (Gains draft said) (takes outline is_last draft said)
takes-gains outline is_last draft Nothing = refl
takes-gains outline is_last draft (Header header) = takes_header-gains is_last draft header
takes-gains outline is_last draft (Use line) = takes_record-gains outline draft (Use line) (takes_use-gains draft line)
takes-gains outline is_last draft (Node line) = takes_record-gains outline draft (Node line) (takes_node-gains draft line)
takes-gains outline is_last draft (Equiv name alias) = takes_record-gains outline draft (Equiv name alias) (takes_equiv-gains draft name alias)
takes-gains outline is_last draft (Fet line) = takes_record-gains outline draft (Fet line) (takes_fet-gains draft line)
takes-gains outline is_last draft (Merge line) = takes_record-gains outline draft (Merge line) (takes_merge-gains outline draft line)
